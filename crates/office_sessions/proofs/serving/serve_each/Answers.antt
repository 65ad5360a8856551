use Rattle.std.proofs.Common.{◌≡◌, ◌∙◌, ◌+◌, inl, inr, ap, refl, subst, sym, ℕ, List, length, map, rules, Some, None, Bor}
use Rattle.std.proofs.lemmas.List.{length-map}
use Rattle.std.proofs.lemmas.List.{length-append}
use Rattle.sqlite.specs.Held.{state}
use Rattle.sqlite.specs.State.{HasCleanDisk}
use Rattle.office_desk.specs.Desk.{DeskState}
use Rattle.office_life.specs.Life.{LeadsBy}
use Rattle.office_life.specs.Standing.{LeavesAt}
use Rattle.office_wire.specs.declared.request_list.SentAnswer.{SentAnswer}
use Rattle.office_sessions.specs.Requests.{sent_as}
use Rattle.office_sessions.specs.Stints.{DidRequests}
use Rattle.office_sessions.specs.declared.reports.RequestsEnd.TheVariants as end
use Rattle.office_sessions.proofs.Exchanging.{one_done}
use Rattle.office_sessions.proofs.Stopping.{HasAnswered, all_answered, began, came_more, came_next, kept_on, no_more, none_answered, one_stopped}
use Rattle.office_sessions.proofs.serving.serve_each.Goals as goal

pub returns-in_default-clause-left : goal.returns-in_default-clause-left
returns-in_default-clause-left g c clean s at = none_answered g.S.Store s (map {A = Bor (List ℕ)} {B = List ℕ} (λ bytes. bytes.now) c.args.requests.now) c.new.result c.new.ensures.items c.args.desk.now at

pub loop-request-init : goal.loop-request-init
loop-request-init g c = record {
  clean = λ clean. clean;
  count = ap (λ (xs : List SentAnswer). length xs) c.in-Ok.ensures.items;
  room = search rules;
  has = λ clean s at. subst (λ (xs : List SentAnswer). HasAnswered g.S.Store s (map {A = Bor (List ℕ)} {B = List ℕ} (λ bytes. bytes.now) c.args.requests.now) 0 (map sent_as xs) c.args.desk.now) (sym c.in-Ok.ensures.items) (began g.S.Store s (map {A = Bor (List ℕ)} {B = List ℕ} (λ bytes. bytes.now) c.args.requests.now) c.args.desk.now at);
}

pub returns-in_default-serve_request-clause-left : goal.returns-in_default-serve_request-clause-left
returns-in_default-serve_request-clause-left g c clean s at =
    let came = map {A = Bor (List ℕ)} {B = List ℕ} (λ bytes. bytes.now) c.args.requests.now in
    let answers = c.loop-request.answers in
    let same = c.in_default-serve_request.ensures in
    let before = subst (λ (d : DeskState _). HasCleanDisk (state g.S.Store d.connection)) same clean in
    let count = length-map answers.items sent_as ∙ c.loop-request.invariant.count in
    subst (λ (d : DeskState _). LeavesAt (LeadsBy (DidRequests came (end.Stopped answers None)) s) (state g.S.Store d.connection)) (sym same)
    (no_more g.S.Store s came answers c.loop-request.request-index count c.loop-request.desk (c.loop-request.invariant.has before s at))

pub returns-then-not-is_whole-clause-left : goal.returns-then-not-is_whole-clause-left
returns-then-not-is_whole-clause-left g c clean s at =
    let stay = c.law_of_soundness.ensures.step in
    let ends = c.law_of_resumption.ensures.ends in
    let requests = c.args.requests.now in
    let came = map {A = Bor (List ℕ)} {B = List ℕ} (λ bytes. bytes.now) c.args.requests.now in
    let i = c.loop-request.request-index in
    let answers = c.loop-request.answers in
    let exchanged = c.in-Some.ensures in
    let has = c.loop-request.invariant.has (exchanged.served.call.clean clean) s at in
    let count = length-map answers.items sent_as ∙ c.loop-request.invariant.count in
    let part = c.is_whole.ensures.no (search rules) in
    elim (one_done stay ends g.S.Store _ has.at.sound _ (sent_as c.in-Some.it) c.loop-request.desk c.serve_request.new.desk exchanged clean has.at) [
      | inl all ↦ absurd (part all.0)
      | inr some ↦ one_stopped g.S.Store s came answers i count stay ends c.in-Some.it _ _ c.loop-request.desk c.serve_request.new.desk (came_next (λ bytes. bytes.now) requests i _ _ c.loop-request-test.true refl) has some
    ]

pub loop-request-preserved : goal.loop-request-preserved
loop-request-preserved g c = record {
  clean = λ clean. c.loop-request.invariant.clean (c.in-Some.ensures.served.call.clean clean);
  count = ap (λ (xs : List SentAnswer). length xs) c.keep.ensures.items ∙ length-append c.loop-request.answers.items _ ∙ ap (λ (n : ℕ). n + 1) c.loop-request.invariant.count;
  room = search rules;
  has = λ clean s at.
      let stay = c.law_of_soundness.ensures.step in
      let ends = c.law_of_resumption.ensures.ends in
      let requests = c.args.requests.now in
      let i = c.loop-request.request-index in
      let exchanged = c.in-Some.ensures in
      let has = c.loop-request.invariant.has (exchanged.served.call.clean clean) s at in
      let well = c.is_whole.ensures.yes (search rules) in
      elim (one_done stay ends g.S.Store _ has.at.sound _ (sent_as c.in-Some.it) c.loop-request.desk c.serve_request.new.desk exchanged clean has.at) [
        | inl all ↦ kept_on g.S.Store s (map {A = Bor (List ℕ)} {B = List ℕ} (λ bytes. bytes.now) c.args.requests.now) stay ends i c.loop-request.answers.items c.keep.new.answers.items _ c.in-Some.it c.loop-request.desk c.serve_request.new.desk c.keep.ensures.items (came_more (λ bytes. bytes.now) requests i _ _ c.loop-request-test.true refl) has all
        | inr some ↦ absurd (some.0 well)
      ];
}

pub returns-clause-left : goal.returns-clause-left
returns-clause-left g c clean s at =
    all_answered g.S.Store s (map {A = Bor (List ℕ)} {B = List ℕ} (λ bytes. bytes.now) c.args.requests.now) c.loop-request.answers c.loop-request.request-index c.loop-request.desk (search rules ∙ sym (length-map c.args.requests.now (λ (bytes : Bor (List ℕ)). bytes.now))) (c.loop-request.invariant.has clean s at)
