-- Where a stint stands between two requests, and what a crash leaves where it ends.
use Rattle.std.proofs.Common.{◌≡◌, ◌∙◌, ap, ap₂, refl, subst, sym, ℕ, suc, ◌+◌, ◌<◌, get_or, List, [], ◌∷◌, ◌++◌, drop, length, map, take, Some, None, Vec}
use Rattle.std.specs.Global.{Global}
use Rattle.std.proofs.lemmas.List.{append-nil, drop-map, map_more, take-map}
use Rattle.std.proofs.Math.Seq.{drop-cons, take-length}
use Rattle.sqlite.specs.Held.{state}
use Rattle.sqlite_trees.specs.declared.store.Store.{Ghosts}
use Rattle.office_rules.specs.Acts.{after}
use Rattle.office_rules.specs.Forms.{AreWellFormed}
use Rattle.office_rules.specs.State.{State}
use Rattle.office_rules.specs.declared.act.Act.{Act}
use Rattle.office_desk.specs.Desk.{DeskState}
use Rattle.office_desk.specs.Leaving.{IsAt}
use Rattle.office_desk.proofs.Found.{after-append}
use Rattle.office_wire.specs.Sources.{Sent}
use Rattle.office_wire.specs.declared.request_list.SentAnswer.{SentAnswer}
use Rattle.office_life.specs.Life.{LeadsBy}
use Rattle.office_life.specs.Standing.{LeavesAt}
use Rattle.office_life.specs.Tables.{AreTablesAt}
use Rattle.office_life.proofs.DeskWork.{StaySound}
use Rattle.office_sessions.specs.Requests.{sent_as}
use Rattle.office_sessions.specs.Stints.{AreAnswered, AreStopped, DidRequests, IsOneServed, none, one_more}
use Rattle.office_sessions.specs.declared.reports.RequestsEnd.TheVariants as end
use Rattle.office_sessions.proofs.Exchanging.{IsAllServed, IsSomeServed}
use Rattle.office_sessions.proofs.Forms.{at_rows, formed_more}
use Rattle.office_sessions.proofs.Served.{RunsEnd}

-- ---- one request more

pub came_more : {A B : Type 0} (f : A → B) (xs : List A) (i : ℕ) (x d : A) → i < length xs → x ≡ get_or xs i d → take (i + 1) (map f xs) ≡ take i (map f xs) ++ f x ∷ []
came_more {A} {B} f xs i x d within is = take-map f (i + 1) xs ∙ map_more f xs i d within ∙ ap₂ (λ (a : List B) (b : B). a ++ b ∷ []) (sym (take-map f i xs)) (ap f (sym is))

pub came_next : {A B : Type 0} (f : A → B) (xs : List A) (i : ℕ) (x d : A) → i < length xs → x ≡ get_or xs i d → drop i (map f xs) ≡ f x ∷ map f (drop (suc i) xs)
came_next {A} {B} f xs i x d within is = drop-map f i xs ∙ ap (λ (a : List A). map f a) (drop-cons xs i d within) ∙ ap (λ (a : A). f a ∷ map f (drop (suc i) xs)) (sym is)

sent_more : (items : List SentAnswer) (it : SentAnswer) → map sent_as (items ++ it ∷ []) ≡ map sent_as items ++ sent_as it ∷ []
sent_more [] it = refl
sent_more (x ∷ items) it = ap (λ (rest : List Sent). sent_as x ∷ rest) (sent_more items it)

-- ---- where a stint stands

module _ {S : Type 0} (g : Ghosts S) (s : State) (came : List (List ℕ)) where
  -- so many requests were answered, and the desk is at the state after all their acts
  pub record HasAnswered (n : ℕ) (sent : List Sent) (d : DeskState S) : Type 0 where
    pub done : List Act
    pub formed : AreWellFormed done
    pub answered : AreAnswered s (take n came) sent done
    pub at : IsAt g (after s done) d

  pub began : (d : DeskState S) → IsAt g s d → HasAnswered 0 [] d
  began d at = record { done = []; formed = tt; answered = none; at = at }

  pub went_on : (stay : StaySound) (ends : RunsEnd) (n : ℕ) (sent : List Sent) (bytes : List ℕ) (it : Sent) (old new : DeskState S) → take (n + 1) came ≡ take n came ++ bytes ∷ [] → (has : HasAnswered n sent old)
      → IsAllServed stay ends g (after s has.done) has.at.sound bytes new it → HasAnswered (n + 1) (sent ++ it ∷ []) new
  went_on stay ends n sent bytes it old new longer has (well, (all, is, formed, at)) =
      record {
        done = has.done ++ all;
        formed = formed_more has.done all has.formed formed;
        answered = subst (λ (x : List (List ℕ)). AreAnswered s x (sent ++ it ∷ []) (has.done ++ all)) (sym longer) (one_more (take n came) sent has.done bytes it all has.answered well is);
        at = subst (λ (u : State). IsAt g u new) (sym (after-append s has.done all)) at;
      }

  pub kept_on : (stay : StaySound) (ends : RunsEnd) (n : ℕ) (items later : List SentAnswer) (bytes : List ℕ) (it : SentAnswer) (old new : DeskState S) → later ≡ items ++ it ∷ [] → take (n + 1) came ≡ take n came ++ bytes ∷ []
      → (has : HasAnswered n (map sent_as items) old) → IsAllServed stay ends g (after s has.done) has.at.sound bytes new (sent_as it) → HasAnswered (n + 1) (map sent_as later) new
  kept_on stay ends n items later bytes it old new kept longer has served =
      let sent = ap (λ (xs : List SentAnswer). map sent_as xs) kept ∙ sent_more items it in
      subst (λ (x : List Sent). HasAnswered (n + 1) x new) (sym sent) (went_on stay ends n (map sent_as items) bytes (sent_as it) old new longer has served)

  -- ---- the end

  module _ (answers : Vec SentAnswer Global) (n : ℕ) where
    pub all_answered : (d : DeskState S) → n ≡ length came → HasAnswered n (map sent_as answers.items) d → LeavesAt (LeadsBy (DidRequests came (end.Answered answers)) s) (state g d.connection)
    all_answered d whole has db may =
        let taken : take n came ≡ came = ap (λ (k : ℕ). take k came) whole ∙ take-length came in
        let did = subst (λ (x : List (List ℕ)). AreAnswered s x (map sent_as answers.items) has.done) taken has.answered in
        (after s has.done, (has.done, record { formed = has.formed; did = did }, refl), at_rows (state g d.connection) (after s has.done) has.at.sound has.at.rows db may)

    module _ (count : length (map sent_as answers.items) ≡ n) where
      first_answered : (d : DeskState S) → (has : HasAnswered n (map sent_as answers.items) d) → AreAnswered s (take (length (map sent_as answers.items)) came) (map sent_as answers.items) has.done
      first_answered d has = subst (λ (k : ℕ). AreAnswered s (take k came) (map sent_as answers.items) has.done) (sym count) has.answered

      pub no_more : (d : DeskState S) → HasAnswered n (map sent_as answers.items) d → LeavesAt (LeadsBy (DidRequests came (end.Stopped answers None)) s) (state g d.connection)
      no_more d has db may =
          let did : AreStopped came (map sent_as answers.items) None s has.done = record { first = has.done; answered = first_answered d has; some = []; next = refl; all = sym (append-nil has.done) } in
          (after s has.done, (has.done, record { formed = has.formed; did = did }, refl), at_rows (state g d.connection) (after s has.done) has.at.sound has.at.rows db may)

      pub one_stopped : (stay : StaySound) (ends : RunsEnd) (it : SentAnswer) (bytes : List ℕ) (later : List (List ℕ)) (old new : DeskState S) → drop n came ≡ bytes ∷ later → (has : HasAnswered n (map sent_as answers.items) old)
          → IsSomeServed stay ends g (after s has.done) has.at.sound bytes new (sent_as it) → LeavesAt (LeadsBy (DidRequests came (end.Stopped answers (Some it))) s) (state g new.connection)
      one_stopped stay ends it bytes later old new next has (part, leaves) db may =
          let left = leaves db may in
          let rest : drop (length (map sent_as answers.items)) came ≡ bytes ∷ later = ap (λ (k : ℕ). drop k came) count ∙ next in
          let did : AreStopped came (map sent_as answers.items) (Some (sent_as it)) s (has.done ++ left.0) = record {
            first = has.done;
            answered = first_answered old has;
            some = left.0;
            next = subst (λ (x : List (List ℕ)). IsOneServed (Some (sent_as it)) x (after s has.done) left.0) (sym rest) left.1;
            all = refl;
          } in (
            after s (has.done ++ left.0),
            (has.done ++ left.0, record { formed = formed_more has.done left.0 has.formed left.2; did = did }, refl),
            subst (λ (u : State). AreTablesAt db u) (sym (after-append s has.done left.0)) left.3,
          )

  pub none_answered : (answers : Vec SentAnswer Global) → answers.items ≡ [] → (d : DeskState S) → IsAt g s d → LeavesAt (LeadsBy (DidRequests came (end.Stopped answers None)) s) (state g d.connection)
  none_answered answers none_so d at =
      no_more answers 0 (ap (λ (xs : List SentAnswer). length (map sent_as xs)) none_so) d (subst (λ (xs : List SentAnswer). HasAnswered 0 (map sent_as xs) d) (sym none_so) (began d at))
