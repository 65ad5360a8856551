use Rattle.std.proofs.Common.{rules}
use Rattle.office_store.proofs.WholeRows.{whole_row}
use Rattle.office_records.specs.declared.hold_row.HoldRow.{HoldRow}
use Rattle.office_store.proofs.stored.hold_rows.Tuple2CodeHoldRowStored.read.Goals as goal

pub returns-clause-ok : goal.returns-clause-ok
returns-clause-ok c = whole_row _ _ c.in_ok-has_columns.ensures.ok (search rules)

pub returns-clause-formed : goal.returns-clause-formed
returns-clause-formed c =
    let hold : HoldRow = record { reason = c.in_ok-words.field-0; placed = c.in_ok-placed.placed; placed_by = c.in_ok-words-2.field-0; lifted = c.in_ok-lifted.lifted } in (
      (c.in_ok-named.named, hold),
      (c.in_ok-named.ensures.formed, record { reason = c.in_ok-words.ensures.formed; placed = c.in_ok-placed.ensures.formed; placed_by = c.in_ok-words-2.ensures.formed; lifted = c.in_ok-lifted.ensures.formed }),
      returns-clause-ok c,
    )
