-- What the writes of a change do to the tables, and how a save ends. Source: own.
use Rattle.std.specs.Prelude.{◌≡◌, ◌⊎◌, ℕ, pos, List, [], ◌∷◌, Result, OnOk, OnErr, IsTrue}
use Rattle.std.specs.String.{string_bytes}
use Rattle.hex.specs.Hex.{encode_lower}
use Rattle.sqlite_trees.specs.Tree.{Trees}
use Rattle.sqlite.specs.Effect.{Database}
use Rattle.sqlite.specs.State.{State, HasCleanDisk}
use Rattle.office_rules.specs.Rows.{record_row}
use Rattle.office_rules.specs.declared.rows.RowWrite.{RowWrite}
use Rattle.office_rules.specs.declared.rows.RowWrite.TheVariants as row_write
use Rattle.office_sql.specs.SchemaVersions.{version_2}
use Rattle.office_sql.specs.Office.{AreDone, IsAtRest, Removed, Wrote}
use Rattle.office_sql.specs.Schema.{aggregations, certificates, classes, contents, entries, events, holds, office, records, runs, schedules2, targets}
use Rattle.office_sql.specs.Shown.{certificate_row, content_row, office_row}
use Rattle.office_store.specs.Encoded.{encoded_aggregation, encoded_class, encoded_entry, encoded_event, encoded_hold, encoded_record, encoded_run, encoded_schedule, encoded_target, target_text}

-- a row write, done to the tables of version 2
abbrev pub IsWritten : RowWrite → Database → Database → Type 0
IsWritten (row_write.Schedule code schedule) =
    Wrote version_2 schedules2 ((0 ∷ []) ∷ []) (encoded_schedule code schedule)
IsWritten (row_write.Class code class) = Wrote version_2 classes ((0 ∷ []) ∷ []) (encoded_class code class)
IsWritten (row_write.Aggregation number it) =
    Wrote version_2 aggregations ((0 ∷ []) ∷ (1 ∷ []) ∷ []) (encoded_aggregation number it)
IsWritten (row_write.Record number head status) =
    Wrote version_2 records ((0 ∷ []) ∷ (1 ∷ []) ∷ []) (encoded_record number (record_row head status))
IsWritten (row_write.Event number event) = Wrote version_2 events ((0 ∷ []) ∷ []) (encoded_event number event)
IsWritten (row_write.Content number bytes) =
    Wrote version_2 contents ((0 ∷ []) ∷ []) (content_row (pos number) bytes.items)
IsWritten (row_write.DeleteContent number) = Removed version_2 contents ((0 ∷ []) ∷ []) (content_row (pos number) [])
IsWritten (row_write.Hold code hold) = Wrote version_2 holds ((0 ∷ []) ∷ []) (encoded_hold code hold)
IsWritten (row_write.Target hold target) = Wrote version_2 targets ((0 ∷ 1 ∷ 2 ∷ []) ∷ []) (encoded_target hold target)
IsWritten (row_write.RemoveTarget hold target) =
    Removed version_2 targets ((0 ∷ 1 ∷ 2 ∷ []) ∷ []) (encoded_target hold target)
IsWritten (row_write.Run number run) = Wrote version_2 runs ((0 ∷ []) ∷ []) (encoded_run number run)
IsWritten (row_write.Entry entry) = Wrote version_2 entries ((0 ∷ 1 ∷ []) ∷ []) (encoded_entry entry)
IsWritten (row_write.Certificate run text) =
    Wrote version_2 certificates ((0 ∷ []) ∷ []) (certificate_row (pos run) (string_bytes text))
IsWritten (row_write.Day day) = Wrote version_2 office ((0 ∷ []) ∷ []) (office_row (pos 1) (pos 2) day)

-- one after another
abbrev pub AreWritten : List RowWrite → Database → Database → Type 0
AreWritten writes = AreDone IsWritten writes

-- what a crash may leave is the old database, or the one with the writes
abbrev pub LeavesEither : List RowWrite → State → State → Type 0
LeavesEither writes old new =
    (db : Trees) → new.may_leave db → (db ≡ old.now.trees)
    ⊎ ((next : Database) × AreWritten writes old.now next × (db ≡ next.trees))

-- how a save ends
pub record Saves {X E : Type 0} (writes : List RowWrite) (old new : State) (result : Result X E) : Type 0 where
  pub ok : HasCleanDisk new → IsAtRest old → OnOk result (AreWritten writes old.now new.now × IsAtRest new)
  pub err : HasCleanDisk new → IsAtRest old → OnErr result (LeavesEither writes old new)
  -- where no fault has shut it, nothing was done
  pub undone : HasCleanDisk new → IsAtRest old → IsTrue new.is_open → OnErr result ((new.now ≡ old.now) × IsAtRest new)

-- the text that a write needs beside its values: a digest's digits, or what a target names, a number or a class's code
abbrev pub needed_text : RowWrite → List ℕ
needed_text (row_write.Record number head status) = encode_lower head.digest
needed_text (row_write.Target hold target) = target_text target
needed_text (row_write.RemoveTarget hold target) = target_text target
needed_text _ = []
