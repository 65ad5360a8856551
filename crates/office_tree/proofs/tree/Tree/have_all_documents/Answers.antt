use Rattle.std.proofs.Common.{◌≡◌, ◌+◌, ◌++◌, [], ◌∷◌, length, sym, subst, ◌∙◌, arith}
use Rattle.std.proofs.lemmas.List.{length-append}
use Rattle.std.proofs.lemmas.Slice.Zip.{zip_turn, zip_end}
use Rattle.office_records.specs.Sound.{IsSound}
use Rattle.office_tree.proofs.Documents.{HaveDocumentsTo, documents_none, documents_more, documents_lack, documents_all}
use Rattle.office_tree.proofs.tree.Tree.have_all_documents.Goals as goal

pub loop-head-init : goal.loop-head-init
loop-head-init c = documents_none c.args.self.now.records c.args.self.now.statuses

pub loop-head-preserved : goal.loop-head-preserved
loop-head-preserved c =
    let t = zip_turn c.args.self.now.records c.args.self.now.statuses c.loop-head.yielded c.into_iter-head-iterator.result c.loop-head.head-iterator c.next.new.self c.next.result (cc) (cc) c.loop-head.yielded_by (c.in-Some.head, c.in-Some.status) c.in-Some.is c.next.ensures.steps in
    let longer : length c.loop-head.yielded + 1 ≡ length (c.loop-head.yielded ++ (c.in-Some.head, c.in-Some.status) ∷ []) = simp length-append in
    subst (HaveDocumentsTo c.args.self.now.records c.args.self.now.statuses) longer
    (documents_more c.args.self.now.records c.args.self.now.statuses (length c.loop-head.yielded) c.in-Some.head.now c.in-Some.status.now t.0 t.1 (t.2 c.in-Some.head.now) (t.3 c.in-Some.status.now) c.loop-head.invariant
    (sym c.has_documents.ensures ∙ c.if-not-has_documents.false))

pub returns-then-not-has_documents-clause-no : goal.returns-then-not-has_documents-clause-no
returns-then-not-has_documents-clause-no c reported all =
    let t = zip_turn c.args.self.now.records c.args.self.now.statuses c.loop-head.yielded c.into_iter-head-iterator.result c.loop-head.head-iterator c.next.new.self c.next.result (cc) (cc) c.loop-head.yielded_by (c.in-Some.head, c.in-Some.status) c.in-Some.is c.next.ensures.steps in
    documents_lack c.args.self.now.records c.args.self.now.statuses (length c.loop-head.yielded) c.in-Some.head.now c.in-Some.status.now t.0 t.1 (t.2 c.in-Some.head.now) (t.3 c.in-Some.status.now)
    (sym c.has_documents.ensures ∙ c.if-not-has_documents.true) all

pub returns-clause-yes : goal.returns-clause-yes
returns-clause-yes c reported =
    let t = zip_end c.args.self.now.records c.args.self.now.statuses c.loop-head.yielded c.into_iter-head-iterator.result c.loop-head.head-iterator c.next.new.self c.next.result (cc) (cc) c.loop-head.yielded_by c.in-None.is c.next.ensures.steps in
    let as_many = (subst IsSound c.self.view_is c.self.invariant.stored.sound).statuses in
    documents_all c.args.self.now.records c.args.self.now.statuses (length c.loop-head.yielded) (omega (arith, t, as_many)) c.loop-head.invariant
