-- Records that are there.
use Rattle.std.proofs.Common.{rules, ◌≤◌, ℕ, length, get_or, arith}
use Rattle.std.specs.Prelude.{IsTrue}
use Rattle.std.specs.FinMap.{values}
use Rattle.std.proofs.lemmas.List.Elements.{All-contains_itself, recursion_from_All}
use Rattle.office_records.specs.Tree.{TreeState, has_record}
use Rattle.office_rules.proofs.Listing.{value_found}
use Rattle.office_rules.specs.Readings.{all_entries_of}
use Rattle.office_rules.specs.Sound.{IsSoundOffice}
use Rattle.office_rules.specs.State.{Office}
use Rattle.office_machine.specs.EntryPlaces.{AreOfRecords}

pub within_has : (tree : TreeState) (r : ℕ) → 1 ≤ r → r ≤ length tree.records → IsTrue (has_record tree r)
within_has tree r low high = search rules

-- the record of each entry of a sound office is there
pub entries_there : (s : Office) → IsSoundOffice s → AreOfRecords s.tree (all_entries_of s)
unfolding IsSoundOffice
entries_there s sound =
    recursion_from_All (λ entry. IsTrue (has_record s.tree entry.record_no)) (values s.entries) (λ k d l.
    let entry = get_or (values s.entries) k d in
    let found = value_found s.entries entry (All-contains_itself (values s.entries) k d l) in
    let there = (sound.1.names.of_entries found.0.0 found.0.1 entry found.1).record_there in
    let own = (sound.1.entries.keyed found.0.0 found.0.1 entry found.1).1 in
    within_has s.tree entry.record_no (omega (arith, own, there.0)) (omega (arith, own, there.1)))
