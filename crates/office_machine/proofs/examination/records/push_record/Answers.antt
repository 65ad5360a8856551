use Rattle.std.proofs.Common.{[], ◌∷◌, ◌++◌, ap, ◌∙◌, append_assoc}
use Rattle.office_base.specs.Rows.{numbered_rows}
use Rattle.office_base.proofs.Exits.{damaged_exit}
use Rattle.office_rules.specs.Rows.{record_rows}
use Rattle.office_machine.proofs.RecordRows.{next_record, no_record, records-push, row_among}
use Rattle.office_machine.proofs.examination.records.push_record.Goals as goal

pub returns-in_default-clause-damaged : goal.returns-in_default-clause-damaged
returns-in_default-clause-damaged c _ all ends rest is =
    let before = numbered_rows (record_rows c.args.heads.now.items c.args.statuses.now.items) in
    let at = row_among all ends before rest c.args.number c.args.columns (is ∙ append_assoc before ((c.args.number, c.args.columns) ∷ []) rest) in
    no_record c.record_of.result c.args.columns c.in_default.not-Some c.record_of.ensures at.0 at.1 at.2

pub returns-in_err-push_numbered-clause-damaged : goal.returns-in_err-push_numbered-clause-damaged
returns-in_err-push_numbered-clause-damaged c =
    let before = numbered_rows (record_rows c.args.heads.now.items c.args.statuses.now.items) in
    damaged_exit c.from_residual.result c.in_err-push_numbered.field-0.0 c.from_residual.ensures.1 c.in_err-push_numbered.ensures.damaged (λ fails all ends rest is.
    fails (next_record c.args.heads.now.items c.args.statuses.now.items c.requires all ends c.args.number c.args.columns rest (is ∙ append_assoc before ((c.args.number, c.args.columns) ∷ []) rest)))

pub returns-in-Ok-clause-ok : goal.returns-in-Ok-clause-ok
returns-in-Ok-clause-ok c =
    let statuses = c.in-Ok.ensures.items ∙ ap (λ ends. ends ++ c.in-Some.status ∷ []) c.try_reserve.ensures.items in
    (λ i. numbered_rows (record_rows (c.in_ok-push_numbered.ensures.ok i) (statuses i)))
    ∙ records-push c.args.heads.now.items c.args.statuses.now.items c.requires c.in-Some.head c.in-Some.status c.args.number c.args.columns c.in_ok-push_numbered.ensures.number c.in-Some.ensures
