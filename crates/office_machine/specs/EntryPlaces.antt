-- Entries whose records are there. Source: own.
use Rattle.std.specs.Prelude.{IsTrue, List}
use Rattle.std.specs.List.{AllByRecursion}
use Rattle.office_records.specs.Tree.{TreeState, has_record}
use Rattle.office_rules.specs.declared.entry.Entry.{Entry}

abbrev pub AreOfRecords : TreeState → List Entry → Type 0
AreOfRecords tree entries = AllByRecursion (λ entry. IsTrue (has_record tree entry.record_no)) entries
