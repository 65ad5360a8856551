-- The last lines of a run's certificate are those of the aggregations that the run spent.
use Rattle.std.proofs.Common.{◌≡◌, ℕ, ℤ, List, [], ◌∷◌, map, Option, refl, sym, ap, subst, unwrap_or, option_map}
use Rattle.std.specs.Prelude.{IsTrue}
use Rattle.std.specs.List.{Contains}
use Rattle.std.specs.List.Sorted.{IsStrictlySortedBy}
use Rattle.std.specs.Ordering.{nat_cmp}
use Rattle.office_records.specs.Disposal.{is_below}
use Rattle.office_records.specs.Tree.{TreeState, has_record}
use Rattle.office_records.specs.declared.aggregation.Aggregation.{Aggregation}
use Rattle.office_rules.specs.Outcomes.{is_ending}
use Rattle.office_rules.specs.Runs.{entries_of, spent_list}
use Rattle.office_rules.specs.Sound.{IsSound}
use Rattle.office_rules.specs.State.{State}
use Rattle.office_rules.specs.declared.entry.Entry.{Entry}
use Rattle.office_rules.proofs.Listing.{listed_aggregations, spent_by_number}
use Rattle.office_rules.proofs.SoundPlans.{numbered_there}
use Rattle.office_evidence.specs.Parsed.{Certificate}
use Rattle.office_evidence.specs.Truth.{AreTheSpent, HasRef, WasSpentBy}
use Rattle.office_evidence.specs.declared.parsed.EntryLine.{EntryLine}
use Rattle.office_evidence.specs.declared.parsed.SpentLine.{SpentLine}
use Rattle.office_evidence.proofs.Viewed.{in_mapped, line_in, mapped_from, spent_in, view_of}
use Rattle.office_evidence.proofs.WellFormed.{spent_of}

same_numbers : (tree : TreeState) (spent : List ℕ) → spent ≡ map (λ it. it.number) (map (spent_in tree) spent)
same_numbers tree [] = refl
same_numbers tree (a ∷ rest) = ap (λ (ns : List ℕ). a ∷ ns) (same_numbers tree rest)

module _ (s : State) (run : ℕ) (sound : IsSound s) (day : ℤ) (by : List ℕ) where
  abbrev tree : TreeState
  tree = s.office.tree

  abbrev listed : List Entry
  listed = entries_of s.office run

  abbrev certificate : Certificate
  certificate = view_of tree run day by listed (spent_list tree listed)

  has_ref : (a : ℕ) → Contains (spent_list tree listed) a → HasRef tree a (spent_in tree a).ref_text
  has_ref a among =
      let within = spent_of s run sound a among in
      let it = numbered_there tree.aggregations a within.0 within.1 in
      (it.0, it.1, ap (λ (o : Option Aggregation). unwrap_or (option_map (λ (it : Aggregation). it.ref_text) o) []) (sym it.1))

  was_spent : (a : ℕ) → Contains (spent_list tree listed) a → WasSpentBy tree certificate a
  was_spent a among =
      let is = (listed_aggregations tree listed a).0 among in
      let ending = is.2 in
      let e = ending.3.0 in
      let number : e.record_no ≡ ending.0 = ending.3.2 in
      record {
        there = is.0;
        spent = is.1;
        ended = (
          line_in tree e,
          in_mapped (line_in tree) listed e ending.3.1,
          ending.3.3,
          subst (λ (r : ℕ). IsTrue (has_record tree r)) (sym number) ending.1,
          subst (λ (r : ℕ). IsTrue (is_below tree a r)) (sym number) ending.2,
        );
      }

  each : (it : SpentLine) → Contains certificate.spent it → WasSpentBy tree certificate it.number × HasRef tree it.number it.ref_text
  each it among =
      let from = mapped_from (spent_in tree) (spent_list tree listed) it among in
      subst (λ (x : SpentLine). WasSpentBy tree certificate x.number × HasRef tree x.number x.ref_text) from.2 (was_spent from.0 from.1, has_ref from.0 from.1)

  every : (a : ℕ) → WasSpentBy tree certificate a → (it : SpentLine) × Contains certificate.spent it × (it.number ≡ a)
  every a was =
      let from = mapped_from (line_in tree) listed was.ended.0 was.ended.1 in
      let e = from.0 in
      let same : line_in tree e ≡ was.ended.0 = from.2 in
      let ending = subst (λ (x : EntryLine). IsTrue (is_ending x.outcome)) (sym same) was.ended.2 in
      let there = subst (λ (x : EntryLine). IsTrue (has_record tree x.record_no)) (sym same) was.ended.3 in
      let below = subst (λ (x : EntryLine). IsTrue (is_below tree a x.record_no)) (sym same) was.ended.4 in
      let among = (listed_aggregations tree listed a).1 (was.there, was.spent, (e.record_no, there, below, (e, from.1, refl, ending))) in
      (spent_in tree a, in_mapped (spent_in tree) (spent_list tree listed) a among, refl)

  pub are_the_spent : AreTheSpent tree certificate
  are_the_spent = record {
    each = each;
    every = every;
    by_number = subst (λ (ns : List ℕ). IsStrictlySortedBy nat_cmp ns) (same_numbers tree (spent_list tree listed)) (spent_by_number tree listed);
  }
