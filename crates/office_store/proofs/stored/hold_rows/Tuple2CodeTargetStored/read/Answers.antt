use Rattle.std.proofs.Common.{rules, ◌≡◌, ap}
use Rattle.std.specs.List.{slice_get}
use Rattle.office_sql.specs.declared.values.BadValue.TheVariants.{Damaged}
use Rattle.office_store.specs.Encoded.{target_kind, target_text}
use Rattle.office_store.specs.Stored.{IsRowOf, IsTargetPair, target_pair}
use Rattle.office_store.proofs.Targets.{IsUtf8-kind, IsUtf8-target}
use Rattle.office_store.proofs.WholeRows.{whole_row}
use Rattle.office_store.proofs.stored.hold_rows.Tuple2CodeTargetStored.read.Goals as goal

pub returns-in_err-kind-clause-damaged : goal.returns-in_err-kind-clause-damaged
returns-in_err-kind-clause-damaged c =
    let none : c.in_err-kind.field-0.0 ≡ Damaged → IsRowOf target_pair IsTargetPair c.args.row.now → ⊥ =
    λ e it. c.in_err-kind.ensures.damaged e (target_kind it.0.1) (IsUtf8-kind it.0.1) (ap (λ row. slice_get row 1) it.2) in
    search rules

pub returns-in_err-text-clause-damaged : goal.returns-in_err-text-clause-damaged
returns-in_err-text-clause-damaged c =
    let none : c.in_err-text.field-0.0 ≡ Damaged → IsRowOf target_pair IsTargetPair c.args.row.now → ⊥ =
    λ e it. c.in_err-text.ensures.damaged e (target_text it.0.1) (IsUtf8-target it.0.1 it.1.1) (ap (λ row. slice_get row 2) it.2) in
    search rules

pub returns-clause-ok : goal.returns-clause-ok
returns-clause-ok c = whole_row _ _ c.in_ok-has_columns.ensures.ok (search rules)

pub returns-clause-formed : goal.returns-clause-formed
returns-clause-formed c = ((c.in_ok-named.named, c.in_ok-target.target), (c.in_ok-named.ensures.formed, c.in_ok-target.ensures.formed), returns-clause-ok c)
