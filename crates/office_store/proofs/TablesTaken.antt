-- Each table, where its rows are taken in, is taken in at its place among all. Source: own.
use Rattle.std.proofs.Common.{◌≡◌, Result, arith, refl, subst}
use Rattle.sqlite.specs.State.{State}
use Rattle.sqlite_value.specs.Order.{Row}
use Rattle.office_rules.specs.Tables.{TableLists}
use Rattle.office_rules.specs.declared.table_row.Row.{Row as TableRow}
use Rattle.office_store.specs.Encoded.{encoded_entry}
use Rattle.office_sql.specs.SchemaVersions.{IsTableOf, schedules_table}
use Rattle.office_sql.specs.Office.{IsAtRestOver}
use Rattle.office_sql.specs.declared.schema_versions.SchemaVersion.{SchemaVersion}
use Rattle.office_sql.specs.declared.tables.OfficeTable.{OfficeTable}
use Rattle.office_sql.specs.declared.tables.OfficeTable.TheVariants as table
use Rattle.office_store.specs.Stored.{IsAggregationPair, IsCertificateRow, IsClassPair, IsEntryOfForm, IsHoldPair, IsNumber, IsRecordPair, IsRowOf, IsRunPair, IsSchedulePair, IsTargetPair, aggregation_pair, aggregation_table_row, certificate_pair, certificate_table_row, class_pair, class_table_row, entry_table_row, hold_pair, hold_table_row, number_row, number_table_row, record_pair, record_table_row, run_pair, run_table_row, schedule_pair, schedule_table_row, target_pair, target_table_row}
use Rattle.office_store.specs.Taken.{TakesIn, TakesRows}
use Rattle.office_store.specs.declared.fault.Fault.{Fault}
use Rattle.office_store.proofs.SchemaVersionTables.{all_schedules_too, only_schedules, schedules_are_a_table, classes_in, aggregations_in, records_in, contents_in, holds_in, targets_in, runs_in, entries_in, certificates_in}
use Rattle.office_store.proofs.MoreReadable.{aggregations_readable, certificates_readable, classes_readable, contents_readable, entries_readable, holds_readable, records_readable, runs_readable, schedules_readable, targets_readable}
use Rattle.office_store.proofs.TablesCome.{schedules_begun, schedules_whole, classes_begun, classes_whole, aggregations_begun, aggregations_whole, records_begun, records_whole, contents_begun, contents_whole, holds_begun, holds_whole, targets_begun, targets_whole, runs_begun, runs_whole, entries_begun, entries_whole, certificates_begun, certificates_whole}
use Rattle.office_store.proofs.Takings.{table_taken}

-- a table's rows are taken in, at a database at rest
abbrev pub TakesTable : {T X : Type 0} → SchemaVersion → OfficeTable → (T → Row) → (Row → Type 0) → (T → TableRow) → State → State → TableLists → TableLists → Type 0 → Result X Fault → Type 0
TakesTable ed of_table encoded IsIt table_row old new had has Examines result =
    TakesRows of_table encoded IsIt table_row (IsAtRestOver ed old) (IsAtRestOver ed new × (new.now ≡ old.now)) old new had has Examines result

module _ {X : Type 0} (ed : SchemaVersion) {old new : State} {had has : TableLists} {Examines : Type 0} {result : Result X Fault} where
  pub schedules_taken : (of_table : OfficeTable) → of_table ≡ schedules_table ed
      → ((e : SchemaVersion) → IsTableOf e of_table → TakesTable e of_table schedule_pair (IsRowOf schedule_pair IsSchedulePair) schedule_table_row old new had has Examines result) → TakesIn ed 1 2 old new had has Examines result
  schedules_taken of_table is takes =
      let it = subst (λ (t : OfficeTable). IsTableOf ed t → TakesTable ed t schedule_pair (IsRowOf schedule_pair IsSchedulePair) schedule_table_row old new had has Examines result) is (takes ed) in
      table_taken ed (schedules_table ed) schedule_pair (IsRowOf schedule_pair IsSchedulePair) schedule_table_row 1 2 (omega arith) (λ db all. all_schedules_too (IsRowOf schedule_pair IsSchedulePair) ed db (all.rows.schedules refl)) schedules_begun schedules_whole
      (λ db were all. schedules_readable ed db were (only_schedules (IsRowOf schedule_pair IsSchedulePair) ed db all))
      old new had has Examines result (it (schedules_are_a_table ed))

  pub classes_taken : ((e : SchemaVersion) → IsTableOf e table.Classes → TakesTable e table.Classes class_pair (IsRowOf class_pair IsClassPair) class_table_row old new had has Examines result) → TakesIn ed 2 3 old new had has Examines result
  classes_taken takes = table_taken ed table.Classes class_pair (IsRowOf class_pair IsClassPair) class_table_row 2 3 (omega arith) (λ db all. all.rows.classes refl) classes_begun classes_whole (classes_readable ed) old new had has Examines result (takes ed (classes_in ed))

  pub aggregations_taken : ((e : SchemaVersion) → IsTableOf e table.Aggregations → TakesTable e table.Aggregations aggregation_pair (IsRowOf aggregation_pair IsAggregationPair) aggregation_table_row old new had has Examines result) → TakesIn ed 3 4 old new had has Examines result
  aggregations_taken takes = table_taken ed table.Aggregations aggregation_pair (IsRowOf aggregation_pair IsAggregationPair) aggregation_table_row 3 4 (omega arith) (λ db all. all.rows.aggregations refl) aggregations_begun aggregations_whole (aggregations_readable ed) old new had has Examines result (takes ed (aggregations_in ed))

  pub records_taken : ((e : SchemaVersion) → IsTableOf e table.Records → TakesTable e table.Records record_pair (IsRowOf record_pair IsRecordPair) record_table_row old new had has Examines result) → TakesIn ed 4 5 old new had has Examines result
  records_taken takes = table_taken ed table.Records record_pair (IsRowOf record_pair IsRecordPair) record_table_row 4 5 (omega arith) (λ db all. all.rows.records refl) records_begun records_whole (records_readable ed) old new had has Examines result (takes ed (records_in ed))

  pub contents_taken : ((e : SchemaVersion) → IsTableOf e table.Contents → TakesTable e table.Contents number_row (IsRowOf number_row IsNumber) number_table_row old new had has Examines result) → TakesIn ed 6 7 old new had has Examines result
  contents_taken takes = table_taken ed table.Contents number_row (IsRowOf number_row IsNumber) number_table_row 6 7 (omega arith) (λ db all. all.rows.contents refl) contents_begun contents_whole (contents_readable ed) old new had has Examines result (takes ed (contents_in ed))

  pub holds_taken : ((e : SchemaVersion) → IsTableOf e table.Holds → TakesTable e table.Holds hold_pair (IsRowOf hold_pair IsHoldPair) hold_table_row old new had has Examines result) → TakesIn ed 7 8 old new had has Examines result
  holds_taken takes = table_taken ed table.Holds hold_pair (IsRowOf hold_pair IsHoldPair) hold_table_row 7 8 (omega arith) (λ db all. all.rows.holds refl) holds_begun holds_whole (holds_readable ed) old new had has Examines result (takes ed (holds_in ed))

  pub targets_taken : ((e : SchemaVersion) → IsTableOf e table.Targets → TakesTable e table.Targets target_pair (IsRowOf target_pair IsTargetPair) target_table_row old new had has Examines result) → TakesIn ed 8 9 old new had has Examines result
  targets_taken takes = table_taken ed table.Targets target_pair (IsRowOf target_pair IsTargetPair) target_table_row 8 9 (omega arith) (λ db all. all.rows.targets refl) targets_begun targets_whole (targets_readable ed) old new had has Examines result (takes ed (targets_in ed))

  pub runs_taken : ((e : SchemaVersion) → IsTableOf e table.Runs → TakesTable e table.Runs run_pair (IsRowOf run_pair IsRunPair) run_table_row old new had has Examines result) → TakesIn ed 9 10 old new had has Examines result
  runs_taken takes = table_taken ed table.Runs run_pair (IsRowOf run_pair IsRunPair) run_table_row 9 10 (omega arith) (λ db all. all.rows.runs refl) runs_begun runs_whole (runs_readable ed) old new had has Examines result (takes ed (runs_in ed))

  pub entries_taken : ((e : SchemaVersion) → IsTableOf e table.Entries → TakesTable e table.Entries encoded_entry (IsRowOf encoded_entry IsEntryOfForm) entry_table_row old new had has Examines result) → TakesIn ed 10 11 old new had has Examines result
  entries_taken takes = table_taken ed table.Entries encoded_entry (IsRowOf encoded_entry IsEntryOfForm) entry_table_row 10 11 (omega arith) (λ db all. all.rows.entries refl) entries_begun entries_whole (entries_readable ed) old new had has Examines result (takes ed (entries_in ed))

  pub certificates_taken : ((e : SchemaVersion) → IsTableOf e table.Certificates → TakesTable e table.Certificates certificate_pair (IsCertificateRow) certificate_table_row old new had has Examines result) → TakesIn ed 11 12 old new had has Examines result
  certificates_taken takes = table_taken ed table.Certificates certificate_pair (IsCertificateRow) certificate_table_row 11 12 (omega arith) (λ db all. all.rows.certificates refl) certificates_begun certificates_whole (certificates_readable ed) old new had has Examines result (takes ed (certificates_in ed))
