-- The row writes of a step of a run. Source: own.
use Rattle.std.specs.Prelude.{ℕ, List, [], ◌∷◌, ◌++◌}
use Rattle.office_records.specs.declared.head.Record.{Record}
use Rattle.office_records.specs.declared.status.Status.TheVariants as status
use Rattle.office_rules.specs.declared.entry.Entry.{Entry}
use Rattle.office_rules.specs.declared.outcome.Outcome.{Outcome}
use Rattle.office_rules.specs.declared.outcome.Outcome.TheVariants as outcome
use Rattle.office_rules.specs.declared.rows.RowWrite.{RowWrite}
use Rattle.office_rules.specs.declared.rows.RowWrite.TheVariants as row_write
use Rattle.office_rules.specs.declared.run.Run.{Run}

-- the rows of a record that a run takes: a sent one changes its status, an ended one loses its content too
abbrev pub outcome_writes : Outcome → ℕ → Record → List RowWrite
outcome_writes outcome.Sent r head = row_write.Record r head status.Sent ∷ []
outcome_writes outcome.Skipped r head = []
outcome_writes outcome.Destroyed r head = row_write.Record r head status.Ended ∷ row_write.DeleteContent r ∷ []
outcome_writes outcome.Transferred r head = row_write.Record r head status.Ended ∷ row_write.DeleteContent r ∷ []

-- its entry, its own rows, and the run with its cursor at it
abbrev pub taking_writes : Outcome → Entry → Record → Run → List RowWrite
taking_writes o entry head run =
    row_write.Entry entry ∷ outcome_writes o entry.record_no head
    ++ row_write.Run entry.run (record run { cursor = entry.record_no }) ∷ []
