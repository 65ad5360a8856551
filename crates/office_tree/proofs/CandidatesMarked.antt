-- The marks of what is cached of records are those of the candidates, above the last record too.
use Rattle.std.proofs.Common.{◌≡◌, ℕ, ◌+◌, ◌-◌, ◌<◌, ◌≤◌, ◌&&◌, true, false, List, length, Option, Some, None, inl, inr, sym, ap, ◌∙◌, arith}
use Rattle.std.specs.Prelude.{IfNone, IfSome, IsTrue}
use Rattle.std.proofs.lemmas.Option.{slice_get_cases, slice_get_past}
use Rattle.office_records.specs.Disposal.{counts, is_disposal}
use Rattle.office_records.specs.Lists.{is_some_and}
use Rattle.office_tree.specs.Marks.{mark_at, mark_of}
use Rattle.office_records.specs.Candidates.{HasNoCandidateAbove, IsNextCandidate, candidate_by, is_candidate}
use Rattle.office_tree.specs.RecordCaches.{AreRecordCaches}
use Rattle.office_records.specs.Sound.{IsSound}
use Rattle.office_records.specs.Tree.{TreeState, action_of, has_record}
use Rattle.office_tree.specs.declared.record_cache.RecordCache.{RecordCache}
use Rattle.office_records.proofs.Places.{numbered_at}
use Rattle.office_records.proofs.Reading.{record_there}

-- no candidate has a number past the last record's
past_records : (tree : TreeState) (r : ℕ) → IsSound tree → length tree.records < r → is_candidate tree r ≡ false
unfolding is_candidate
past_records tree r sound past =
    ap (λ o. candidate_by o (is_some_and (action_of tree r) is_disposal && counts tree r))
    (numbered_at tree.statuses r (r - 1) (omega arith) ∙ slice_get_past tree.statuses (r - 1) (omega (arith, sound.statuses)))

pub marked_as : (codes : List (List ℕ)) (tree now : TreeState) (looks : List RecordCache) (r : ℕ) → AreRecordCaches codes tree looks → IsSound tree → tree ≡ now → 0 < r
    → mark_at looks (r - 1) ≡ is_candidate now r
marked_as codes tree now looks r all sound same low =
    let next : r ≡ r - 1 + 1 = omega arith in
    (elim ((slice_get_cases looks (r - 1)).1) as (λ _. mark_at looks (r - 1) ≡ is_candidate tree r) [
      | inl here ↦ ap mark_of here.2 ∙ (all.each r here.0 (numbered_at looks r (r - 1) next ∙ here.2)).candidate
      | inr past ↦ ap mark_of past.1 ∙ sym (past_records tree r sound (omega (arith, past.0, all.count)))
    ])
    ∙ ap (λ (t : TreeState). is_candidate t r) same

-- what is found by the marks is the next candidate
module _ (codes : List (List ℕ)) (tree now : TreeState) (looks : List RecordCache) (all : AreRecordCaches codes tree looks) (sound : IsSound tree) (same : tree ≡ now) (above : ℕ) where
  pub there_as : (o : Option ℕ) → IfSome o (λ r. above < r) → IfSome o (λ r. r ≤ length looks) → IfSome o (λ r. IsTrue (has_record now r))
  there_as None higher within = tt
  there_as (Some r) higher within =
      let many : length tree.records ≡ length now.records = ap (λ (t : TreeState). length t.records) same in
      record_there now r (omega (arith, higher), omega (arith, within, all.count, many))

  pub found_as : (o : Option ℕ) → IfSome o (λ r. above < r) → IfSome o (λ r. mark_at looks (r - 1) ≡ true)
      → IfSome o (λ r. (k : ℕ) → above < k → k < r → mark_at looks (k - 1) ≡ false) → IfSome o (IsNextCandidate now above)
  found_as None higher marked between = tt
  found_as (Some r) higher marked between = record {
    higher = higher;
    candidate = sym (marked_as codes tree now looks r all sound same (omega (arith, higher))) ∙ marked;
    between = λ k low high. sym (marked_as codes tree now looks k all sound same (omega arith)) ∙ between k low high;
  }

  pub none_as : (o : Option ℕ) → IfNone o ((k : ℕ) → above < k → mark_at looks (k - 1) ≡ false) → IfNone o (HasNoCandidateAbove now above)
  none_as None none = λ k low. sym (marked_as codes tree now looks k all sound same (omega arith)) ∙ none k low
  none_as (Some r) none = tt
