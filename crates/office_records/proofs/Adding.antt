-- To add an entity is to put it under the next number.
use Rattle.std.proofs.Common.{◌≡◌, ℕ, ◌+◌, List, [], ◌∷◌, ◌++◌, length, Some, None, false, sym, ap, ◌∙◌, arith}
use Rattle.std.specs.FinMap.{contains_key}
use Rattle.office_records.specs.Conditions.{first_of, conditions_of_add_schedule}
use Rattle.office_records.specs.Effects.{added_record}
use Rattle.office_records.specs.Lists.{numbered, put}
use Rattle.office_records.specs.Rows.{put_aggregation, put_record}
use Rattle.office_records.specs.Tree.{TreeState}
use Rattle.office_records.specs.declared.aggregation.Aggregation.{Aggregation}
use Rattle.office_records.specs.declared.head.Record.{Record}
use Rattle.office_records.specs.declared.status.Status.TheVariants.{Here}
use Rattle.office_records.proofs.Accepting.{none_holds}
use Rattle.office_records.proofs.Places.{numbered_within}
use Rattle.office_records.proofs.Putting.{put_next}

pub next_aggregation : (tree : TreeState) (n : ℕ) (it : Aggregation) → n ≡ length tree.aggregations → put_aggregation tree (n + 1) it ≡ record tree { aggregations = tree.aggregations ++ it ∷ [] }
next_aggregation tree n it is = ap (λ k. put_aggregation tree (k + 1) it) is ∙ ap (λ its. record tree { aggregations = its }) (put_next tree.aggregations it)

pub next_record : (tree : TreeState) (n : ℕ) (head : Record) → length tree.statuses ≡ length tree.records → n ≡ length tree.records → put_record tree (n + 1) head Here ≡ added_record tree head
next_record tree n head same is =
    let records : put tree.records (n + 1) head ≡ tree.records ++ head ∷ [] = ap (λ k. put tree.records (k + 1) head) is ∙ put_next tree.records head in
    let statuses : put tree.statuses (n + 1) Here ≡ tree.statuses ++ Here ∷ [] = ap (λ k. put tree.statuses (k + 1) Here) (is ∙ sym same) ∙ put_next tree.statuses Here in
    ap (λ heads. record tree { records = heads; statuses = put tree.statuses (n + 1) Here }) records ∙ ap (λ them. record tree { records = tree.records ++ head ∷ []; statuses = them }) statuses

-- under the next number nothing is there yet
pub none_next : {A : Type 0} (xs : List A) (n : ℕ) (x : A) → n ≡ length xs → numbered xs (n + 1) ≡ Some x → ⊥
none_next xs n x is at = let within = numbered_within xs (n + 1) x at in omega (arith, within.1, is)

-- and neither is a schedule under a code that may be added
pub adds_schedule : (tree : TreeState) (code : List ℕ) → first_of (conditions_of_add_schedule tree code) ≡ None → contains_key tree.schedules code ≡ false
adds_schedule tree code accepted = (none_holds (conditions_of_add_schedule tree code) accepted).0
