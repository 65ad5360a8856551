-- What the statement of each table leaves that makes it.
use Rattle.std.proofs.Common.{ℕ, suc, drop, take, [], Ok, Result, OnOk, OnErr, IsTrue, refl}
use Rattle.sqlite.specs.State.{ExecutesInside, HasCleanDisk, KeepsCommit, State, Survives}
use Rattle.sqlite.specs.declared.error.Error.{Error}
use Rattle.office_sql.specs.SchemaVersions.{version_2}
use Rattle.office_sql.specs.Made.{GrowsTo, IsMadeUpTo, MakesInside}
use Rattle.office_sql.specs.Schema.{office, schedules, classes, aggregations, records, contents, holds, targets, runs, entries, certificates, schedules2, events}
use Rattle.office_sql.specs.Tables.{create_of, made_before}
use Rattle.office_sql.specs.declared.tables.OfficeTable.{OfficeTable}
use Rattle.office_sql.specs.declared.tables.OfficeTable.TheVariants as table
use Rattle.office_sql.proofs.ApartNames.{apart_office, apart_schedules, apart_classes, apart_aggregations, apart_records, apart_contents, apart_holds, apart_targets, apart_runs, apart_entries, apart_certificates, apart_schedules2}
use Rattle.office_sql.proofs.MakeLemmas.{creates}
use Rattle.office_sql.proofs.MakeTexts.{office_made, schedules_made, classes_made, aggregations_made, records_made, contents_made, holds_made, targets_made, runs_made, entries_made, certificates_made, schedules2_made, events_made}
use Rattle.office_sql.proofs.PutLemmas.{one_plain}
use Rattle.office_sql.proofs.SchemaLemmas.{office_defined, schedules_defined, classes_defined, aggregations_defined, records_defined, contents_defined, holds_defined, targets_defined, runs_defined, entries_defined, certificates_defined, schedules2_defined, events_defined}

-- the statement that makes a table, after those before it
pub creates_table : (t : OfficeTable) (old new : State) (r : Result (Unit {0}) Error) → (HasCleanDisk new → IsTrue old.in_transaction → OnOk r ((count : ℕ) × ExecutesInside 0 (create_of t) [] old new (Ok count)))
    → (HasCleanDisk new → IsTrue old.is_open → IsTrue old.in_transaction → OnErr r (KeepsCommit old new)) → Survives old new (λ _. ⊥) → MakesInside (IsMadeUpTo (made_before t)) (GrowsTo (made_before t) (suc (made_before t))) old new r
creates_table table.Office old new = creates (take 0 version_2) office (drop 1 version_2) (create_of table.Office) office_defined office_made refl (λ i. refl) refl apart_office old new
creates_table table.OldSchedules old new = creates (take 1 version_2) schedules (drop 2 version_2) (create_of table.OldSchedules) schedules_defined schedules_made refl one_plain refl apart_schedules old new
creates_table table.Classes old new = creates (take 2 version_2) classes (drop 3 version_2) (create_of table.Classes) classes_defined classes_made refl one_plain refl apart_classes old new
creates_table table.Aggregations old new = creates (take 3 version_2) aggregations (drop 4 version_2) (create_of table.Aggregations) aggregations_defined aggregations_made refl one_plain refl apart_aggregations old new
creates_table table.Records old new = creates (take 4 version_2) records (drop 5 version_2) (create_of table.Records) records_defined records_made refl one_plain refl apart_records old new
creates_table table.Contents old new = creates (take 5 version_2) contents (drop 6 version_2) (create_of table.Contents) contents_defined contents_made refl (λ i. refl) refl apart_contents old new
creates_table table.Holds old new = creates (take 6 version_2) holds (drop 7 version_2) (create_of table.Holds) holds_defined holds_made refl one_plain refl apart_holds old new
creates_table table.Targets old new = creates (take 7 version_2) targets (drop 8 version_2) (create_of table.Targets) targets_defined targets_made refl one_plain refl apart_targets old new
creates_table table.Runs old new = creates (take 8 version_2) runs (drop 9 version_2) (create_of table.Runs) runs_defined runs_made refl (λ i. refl) refl apart_runs old new
creates_table table.Entries old new = creates (take 9 version_2) entries (drop 10 version_2) (create_of table.Entries) entries_defined entries_made refl one_plain refl apart_entries old new
creates_table table.Certificates old new = creates (take 10 version_2) certificates (drop 11 version_2) (create_of table.Certificates) certificates_defined certificates_made refl (λ i. refl) refl apart_certificates old new
creates_table table.Schedules old new = creates (take 11 version_2) schedules2 (drop 12 version_2) (create_of table.Schedules) schedules2_defined schedules2_made refl one_plain refl apart_schedules2 old new
creates_table table.Events old new = creates (take 12 version_2) events (drop 13 version_2) (create_of table.Events) events_defined events_made refl (λ i. refl) refl tt old new
