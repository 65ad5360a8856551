-- Acts one after another: what one more act at their end comes to.
use Rattle.std.proofs.Common.{◌≡◌, inl, ℕ, ◌+◌, ◌<◌, ◌≤◌, false, arith, length, take, get_or, List, [], ◌∷◌, ◌++◌, IsTrue, Result, Ok, Err, refl, sym, ap, subst, ◌∙◌, append_assoc, append-nil}
use Rattle.std.specs.FinMap.{empty}
use Rattle.std.proofs.lemmas.List.{take_more}
use Rattle.sqlite.specs.Held.{state}
use Rattle.sqlite.specs.State.{HasCleanDisk}
use Rattle.sqlite_trees.specs.declared.store.Store.{Ghosts}
use Rattle.office_rules.specs.Acts.{after, answers, step}
use Rattle.office_rules.specs.Rows.{rows_of}
use Rattle.office_rules.specs.State.{State, Office, with_contents}
use Rattle.office_rules.specs.declared.act.Act.{Act}
use Rattle.office_rules.specs.declared.answer.Answer.{Answer}
use Rattle.office_store.specs.RepresentsRows.{ContainsRows}
use Rattle.office_store.specs.declared.fault.Fault.{Fault}
use Rattle.office_store.specs.declared.fault.Fault.TheVariants as fault
use Rattle.office_sql.specs.Office.{Leaves, SparesRest}
use Rattle.office_desk.specs.Calling.{IsPoisoned}
use Rattle.office_desk.specs.Desk.{DeskState}
use Rattle.office_rules.specs.Forms.{AreWellFormed, IsWellFormedAct}
use Rattle.office_desk.specs.Leaving.{IsAt, StopsAt, StopsLeaving}
use Rattle.office_desk.specs.Outcomes.{ActsLeave, AreAnswered, ContainsState, FromEach, IsActAnswered, SparesTheRest, acts_outcome}
use Rattle.office_desk.proofs.LeftFates.{none_left}
use Rattle.office_desk.proofs.LeftRest.{spares_here, spares_then}
use Rattle.office_desk.proofs.Outcomes.{stopped_answered, stopped_leaves}

after-push : (s : State) (acts : List Act) (a : Act) → after s (acts ++ a ∷ []) ≡ (step (after s acts) a).1
after-push s [] a = refl
after-push s (b ∷ acts) a = after-push (step s b).1 acts a

answers-push : (s : State) (acts : List Act) (a : Act) → answers s (acts ++ a ∷ []) ≡ answers s acts ++ (step (after s acts) a).0 ∷ []
answers-push s [] a = refl
answers-push s (b ∷ acts) a = ap (λ rest. (step s b).0 ∷ rest) (answers-push (step s b).1 acts a)

formed-push : (acts : List Act) (a : Act) → AreWellFormed acts → IsWellFormedAct a → AreWellFormed (acts ++ a ∷ [])
formed-push [] a all is = (is, tt)
formed-push (b ∷ acts) a all is = (all.0, formed-push acts a all.1 is)

module _ (acts : List Act) (i : ℕ) (a : Act) (within : i < length acts) (is : a ≡ get_or acts i a) where
  prefix_next : take (i + 1) acts ≡ take i acts ++ a ∷ []
  prefix_next = take_more acts i a within ∙ ap (λ b. take i acts ++ b ∷ []) (sym is)

  -- and each is of its form
  pub well_formed_next : AreWellFormed (take i acts) → IsWellFormedAct a → AreWellFormed (take (i + 1) acts)
  well_formed_next all formed = subst AreWellFormed (sym prefix_next) (formed-push (take i acts) a all formed)

  -- the state after one act more
  pub after_next : (s : State) → after s (take (i + 1) acts) ≡ (step (after s (take i acts)) a).1
  after_next s = ap (after s) prefix_next ∙ after-push s (take i acts) a

  pub office_next : (s : State) (office : Office) → office ≡ (step (after s (take i acts)) a).1.office → (after s (take (i + 1) acts)).office ≡ office
  office_next s office reported = ap (λ (t : State). t.office) (after_next s) ∙ sym reported

  -- and the answers with one more
  pub answers_next : (s : State) (given before now : List Answer) → before ≡ given ++ answers s (take i acts) → now ≡ before ++ (step (after s (take i acts)) a).0 ∷ []
      → now ≡ given ++ answers s (take (i + 1) acts)
  answers_next s given before now old reported =
      reported ∙ ap (λ ys. ys ++ (step (after s (take i acts)) a).0 ∷ []) old ∙ append_assoc given (answers s (take i acts)) ((step (after s (take i acts)) a).0 ∷ [])
      ∙ ap (λ ys. given ++ ys) (sym (answers-push s (take i acts) a) ∙ sym (ap (answers s) prefix_next))

-- at a poisoned desk after an act was done
stops_reopen : {S : Type 0} (office : Office) (f : Fault) (d : DeskState S) → f ≡ fault.Reopen → IsTrue d.is_poisoned → StopsAt office f d
stops_reopen office f d is gone = subst (λ (it : Fault). StopsAt office it d) (sym is) gone

leaves_reopen : {S : Type 0} (g : Ghosts S) (s next : State) (f : Fault) (done d : DeskState S) → f ≡ fault.Reopen → d.connection ≡ done.connection → ContainsRows (rows_of next) (state g done.connection) → StopsLeaving s next f (state g d.connection)
leaves_reopen g s next f done d is connection rows =
    subst (λ (it : Fault). StopsLeaving s next it (state g d.connection)) (sym is) (subst (λ it. ContainsRows (rows_of next) (state g it)) (sym connection) rows)

-- ---- what was called so far, and one more

-- acts so far were done, from one desk to another, and answered
pub record CalledPrefix {S : Type 0} (g : Ghosts S) (old new : DeskState S) (acts : List Act) (given found : List Answer) : Type 0 where
  pub still : new.is_poisoned ≡ false
  pub added : (s : State) → s.office ≡ old.office → found ≡ given ++ answers s acts
  pub office : (s : State) → s.office ≡ old.office → new.office ≡ (after s acts).office
  pub leaves : FromEach g old new (λ s. ContainsState (after s acts) (state g new.connection))
  pub rest : SparesTheRest g old new

-- none so far
pub none_called : {S : Type 0} (g : Ghosts S) (d : DeskState S) (given found : List Answer) → d.is_poisoned ≡ false → found ≡ given → CalledPrefix g d d [] given found
none_called g d given found is_open silent = record {
  still = is_open;
  added = λ s same. ◌∙◌ {A = List Answer} silent (sym (append-nil given));
  office = λ s same. sym same;
  leaves = λ s clean at. record { sound = at.sound; rows = at.rows };
  rest = spares_here g d;
}

-- how acts end, which may depend on the state at which the desk was
pub record Ends {S : Type 0} (g : Ghosts S) (old new : DeskState S) (all : State → List Act) (given found : List Answer) (r : Result (Unit {0}) Fault) : Type 0 where
  pub answered : (s : State) → s.office ≡ old.office → AreAnswered s (all s) (acts_outcome r given found) given found new
  pub leaves : FromEach g old new (λ s. ActsLeave s (all s) (acts_outcome r given found) (state g new.connection))
  pub rest : SparesTheRest g old new

-- a list begins with the first i acts of another and one more
pub record Begins (acts : List Act) (i : ℕ) (xs : List Act) : Type 0 where
  pub formed : AreWellFormed xs
  pub within : i < length xs
  pub first : take i xs ≡ take i acts
  pub next : take (i + 1) xs ≡ take (i + 1) acts

-- all were done
pub all_ended : {S : Type 0} (g : Ghosts S) (old new : DeskState S) (acts : List Act) (given found : List Answer) → CalledPrefix g old new acts given found
    → (all : State → List Act) → ((s : State) → AreWellFormed (all s)) → ((s : State) → s.office ≡ old.office → all s ≡ acts) → Ends g old new all given found (Ok tt)
all_ended g old new acts given found so_far all formed are = record {
  answered = λ s same. record {
    formed = formed s;
    fits = tt;
    added = subst (λ (xs : List Act). found ≡ given ++ answers s xs) (sym (are s same)) (so_far.added s same);
    leads = (so_far.office s same ∙ ap (λ (xs : List Act). (after s xs).office) (sym (are s same)), so_far.still);
  };
  leaves = λ s clean at. subst (λ (xs : List Act). ContainsState (after s xs) (state g new.connection)) (sym (are s (sym at.office))) (so_far.leaves s clean at);
  rest = so_far.rest;
}

-- no act was begun, for lack of memory
pub none_begun : {S : Type 0} (g : Ghosts S) (d : DeskState S) (all : State → List Act) (given found : List Answer) → ((s : State) → AreWellFormed (all s)) → d.is_poisoned ≡ false → found ≡ given → Ends g d d all given found (Err fault.Memory)
none_begun g d all given found formed is_open silent =
    let none : found ≡ given ++ [] = ◌∙◌ {A = List Answer} silent (sym (append-nil given)) in
    record {
      answered = λ s same. stopped_answered s (all s) given found fault.Memory 0 (omega arith) none d (formed s) (none_left (all s)) (sym same, is_open);
      leaves = λ s clean at. stopped_leaves s (all s) given found fault.Memory 0 (omega arith) none (state g d.connection) at.rows;
      rest = spares_here g d;
    }

module _ (acts : List Act) (i : ℕ) (a : Act) (within : i < length acts) (is : a ≡ get_or acts i a) {S : Type 0} (g : Ghosts S) (old mid : DeskState S) (given before : List Answer)
    (so_far : CalledPrefix g old mid (take i acts) given before) where
  -- from a state of the first desk, the next is after the acts so far
  at_mid : FromEach g old mid (λ s. IsAt g (after s (take i acts)) mid)
  at_mid s clean at =
      let left = so_far.leaves s clean at in
      record { is_open = so_far.still; office = so_far.office s (sym at.office); sound = left.sound; rows = left.rows }

  rest_next : (new : DeskState S) → SparesTheRest g mid new → SparesTheRest g old new
  rest_next new = spares_then g old mid new (λ s clean at. (after s (take i acts), at_mid s clean at)) so_far.rest

  -- another act is done and reported
  pub one_more : (new : DeskState S) (answer : Answer) (found : List Answer) → ((s : State) → s.office ≡ mid.office → IsActAnswered s a (Ok answer) mid new)
      → FromEach g mid new (λ s. ContainsState (step s a).1 (state g new.connection)) → SparesTheRest g mid new → found ≡ before ++ answer ∷ [] → CalledPrefix g old new (take (i + 1) acts) given found
  one_more new answer found answered leaves rest reported =
      let it : (s : State) → s.office ≡ old.office → IsActAnswered (after s (take i acts)) a (Ok answer) mid new = λ s same. answered (after s (take i acts)) (sym (so_far.office s same)) in
      record {
        still = (answered (with_contents mid.office empty) refl).leads.1;
        added = λ s same. answers_next acts i a within is s given before found (so_far.added s same) (◌∙◌ {A = List Answer} reported (ap (λ (b : Answer). before ++ b ∷ []) (it s same).answered));
        office = λ s same. sym (office_next acts i a within is s new.office (it s same).leads.0);
        leaves = λ s clean at.
            subst (λ (t : State). ContainsState t (state g new.connection)) (sym (after_next acts i a within is s)) (leaves (after s (take i acts)) clean (at_mid s (rest.clean clean) at));
        rest = rest_next new rest;
      }

  module _ (all : State → List Act) (begins : (s : State) → s.office ≡ old.office → Begins acts i (all s)) where
    -- what was answered so far are the first acts of the list
    added_first : (found : List Answer) → found ≡ before → (s : State) → s.office ≡ old.office → found ≡ given ++ answers s (take i (all s))
    added_first found silent s same =
        subst (λ (xs : List Act). found ≡ given ++ answers s xs) (sym (begins s same).first) (◌∙◌ {A = List Answer} silent (so_far.added s same))

    -- in memory the desk is stopped behind them
    answered_first : (new : DeskState S) (found : List Answer) (f : Fault) → found ≡ before → ((s : State) → s.office ≡ old.office → StopsAt (after s (take i acts)).office f new)
        → (s : State) → s.office ≡ old.office → AreAnswered s (all s) (acts_outcome (Err f) given found) given found new
    answered_first new found f silent stops s same =
        let low : i ≤ length (all s) = omega (arith, (begins s same).within) in
        stopped_answered s (all s) given found f i low (added_first found silent s same) new (begins s same).formed (inl (begins s same).within)
        (subst (λ (xs : List Act). StopsAt (after s xs).office f new) (sym (begins s same).first) (stops s same))

    -- and a crash leaves the tables after them or after one more
    leaves_first : (new : DeskState S) (found : List Answer) (f : Fault) → found ≡ before
        → FromEach g old new (λ s. StopsLeaving (after s (take i acts)) (step (after s (take i acts)) a).1 f (state g new.connection))
        → FromEach g old new (λ s. ActsLeave s (all s) (acts_outcome (Err f) given found) (state g new.connection))
    leaves_first new found f silent left s clean at =
        let same = sym at.office in
        let low : i ≤ length (all s) = omega (arith, (begins s same).within) in
        let next : (step (after s (take i acts)) a).1 ≡ after s (take (i + 1) (all s)) = sym (after_next acts i a within is s) ∙ ap (after s) (sym (begins s same).next) in
        stopped_leaves s (all s) given found f i low (added_first found silent s same) (state g new.connection)
        (subst (λ (t : State). StopsLeaving t (after s (take (i + 1) (all s))) f (state g new.connection)) (ap (after s) (sym (begins s same).first))
        (subst (λ (t : State). StopsLeaving (after s (take i acts)) t f (state g new.connection)) next (left s clean at)))

    -- the next act is stopped by a fault
    pub stopped_next : (new : DeskState S) (f : Fault) → ((s : State) → s.office ≡ mid.office → IsActAnswered s a (Err f) mid new) → FromEach g mid new (λ s. StopsLeaving s (step s a).1 f (state g new.connection)) → SparesTheRest g mid new
        → Ends g old new all given before (Err f)
    stopped_next new f answered leaves rest = record {
      answered = answered_first new before f refl (λ s same. (answered (after s (take i acts)) (sym (so_far.office s same))).leads);
      leaves = leaves_first new before f refl (λ s clean at. leaves (after s (take i acts)) clean (at_mid s (rest.clean clean) at));
      rest = rest_next new rest;
    }

    -- it is done, and finds no room for its answer
    pub unreported_next : (done new : DeskState S) (answer : Answer) (found : List Answer) (f : Fault) → ((s : State) → s.office ≡ mid.office → IsActAnswered s a (Ok answer) mid done)
        → FromEach g mid done (λ s. ContainsState (step s a).1 (state g done.connection)) → SparesTheRest g mid done → new.connection ≡ done.connection → found ≡ before → IsPoisoned f new
        → Ends g old new all given found (Err f)
    unreported_next done new answer found f answered leaves rest connection silent gone =
        let so = rest_next done rest in
        let clean_done : HasCleanDisk (state g new.connection) → HasCleanDisk (state g done.connection) = subst (λ it. HasCleanDisk (state g it)) connection in
        record {
          answered = answered_first new found f silent (λ s same. stops_reopen (after s (take i acts)).office f new gone.reopen gone.gone);
          leaves = leaves_first new found f silent (λ s clean at.
              let next = leaves (after s (take i acts)) (clean_done clean) (at_mid s (rest.clean (clean_done clean)) at) in
              leaves_reopen g (after s (take i acts)) (step (after s (take i acts)) a).1 f done new gone.reopen connection next.rows);
          rest = record {
            clean = λ clean. so.clean (clean_done clean);
            shield = λ shielded. subst (λ it. (state g it).IsShielded) (sym connection) (so.shield shielded);
            rest = λ s clean at. subst (λ it. Leaves (SparesRest (state g old.connection).now) (state g it)) (sym connection) (so.rest s (clean_done clean) at);
          };
        }
