use Rattle.std.proofs.Common.{IsTrue, ap, refl, rules}
use Rattle.sqlite.specs.Held.{Held, state}
use Rattle.office_sql.proofs.CreateLemmas.{begun_new, creates_from}
use Rattle.office_sql.proofs.new_office.create_all.Goals as goal

pub returns-in_err-begin_office-clause-creates : goal.returns-in_err-begin_office-clause-creates
returns-in_err-begin_office-clause-creates g c = record {
  ok = λ clean blank. search rules;
  err = λ clean blank. let made = c.in_err-begin_office.ensures.begun in let bare = blank.bare in search (rules, made, bare);
  undone = λ clean blank is_open. let made = c.in_err-begin_office.ensures.begun in let bare = blank.bare in search (rules, made, bare);
}

pub returns-clause-creates : goal.returns-clause-creates
returns-clause-creates g c =
    let old = state g.S.Store c.args.conn.now in
    let tx = state g.S.Store c.transaction-tx.result.conn.now in
    let mid = state g.S.Store c.begin_office.new.tx.conn.now in
    let begun = c.transaction-tx.ensures.begun in
    let inside : IsTrue tx.in_transaction = rw begun refl in
    let now = ap (λ (h : Held _). (state g.S.Store h).now) begun in
    let is_open = ap (λ (h : Held _). (state g.S.Store h).is_open) begun in
    let committed = ap (λ (h : Held _). (state g.S.Store h).committed) begun in
    creates_from old mid _ c.commit.result (λ clean. search rules) (begun_new old tx mid now is_open inside committed c.in_ok-begin_office.ensures.begun)
    (λ clean was_open was_inside. search rules)
    (λ clean blank. let made = c.in_ok-begin_office.ensures.begun in let bare = blank.bare in search (rules, made, bare))
    (λ clean was_open was_inside still_open. search rules)
