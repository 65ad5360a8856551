use Rattle.std.proofs.Common.{IfErr, Result, Ok, Err, Some, ◌∙◌, ap, sym}
use Rattle.std.proofs.lemmas.Result.{err_from_is_err_and}
use Rattle.sqlite.specs.Held.{state}
use Rattle.office_sql.proofs.Layouts.{layout_is}
use Rattle.office_store.proofs.AtRest.{ok_at}
use Rattle.office_store.proofs.AllTaken.{day_refused, no_day, rest_taken, schema_version_refused}
use Rattle.office_store.proofs.OfficeRow.{one_named}
use Rattle.office_store.proofs.adoption.take_tables.Goals as goal

pub returns-in_err-schema_version-clause-takes : goal.returns-in_err-schema_version-clause-takes
returns-in_err-schema_version-clause-takes g c e =
    let failed = err_from_is_err_and c.from_residual.result c.from_residual.ensures.1 in
    no_day e (state g.S.Store c.args.conn.now) (state g.S.Store c.office_day.new.conn) (g.I.Intake.content c.args.intake.now) (g.I.Intake.content c.args.intake.now) g.I.Intake.examines c.from_residual.result c.in_err-schema_version.field-0.0
    (failed.1 ∙ ap Err failed.2) (c.in_err-schema_version.ensures.reads e) (c.in_err-schema_version.ensures.this_version e)

pub returns-in_err-check_schema_version-clause-takes : goal.returns-in_err-check_schema_version-clause-takes
returns-in_err-check_schema_version-clause-takes g c e =
    let failed = err_from_is_err_and c.from_residual-in_err-check_schema_version.result c.from_residual-in_err-check_schema_version.ensures.1 in
    schema_version_refused e (state g.S.Store c.args.conn.now) (state g.S.Store c.check_schema_version.new.conn) (g.I.Intake.content c.args.intake.now) (g.I.Intake.content c.args.intake.now) g.I.Intake.examines c.from_residual-in_err-check_schema_version.result
    (state g.S.Store c.office_day.new.conn) (c.in_ok-schema_version.schema_version, c.in_ok-schema_version.day) c.in_err-check_schema_version.field-0.0 (failed.1 ∙ ap Err failed.2) (c.in_ok-schema_version.ensures.reads e) (λ rest. c.in_err-check_schema_version.ensures.confirms e (c.layout-named.ensures ∙ layout_is e _ rest.office)) c.in_err-check_schema_version.ensures.faults c.check_schema_version.ensures.clean c.check_schema_version.ensures.shield

pub returns-in_err-give-clause-takes : goal.returns-in_err-give-clause-takes
returns-in_err-give-clause-takes g c e =
    let failed = err_from_is_err_and c.from_residual-in_err-give.result c.from_residual-in_err-give.ensures.1 in
    day_refused e (state g.S.Store c.args.conn.now) (state g.S.Store c.check_schema_version.new.conn) (g.I.Intake.content c.args.intake.now) (g.I.Intake.content c.give.new.intake) g.I.Intake.examines c.from_residual-in_err-give.result
    (state g.S.Store c.office_day.new.conn) (c.in_ok-schema_version.schema_version, c.in_ok-schema_version.day) c.in_err-give.field-0.0 (failed.1 ∙ ap Err failed.2) (c.in_ok-schema_version.ensures.reads e) (λ rest. c.in_ok-check_schema_version.ensures.confirms e (c.layout-named.ensures ∙ layout_is e _ rest.office)) c.check_schema_version.ensures.clean c.check_schema_version.ensures.shield
    c.in_err-give.ensures.damaged c.in_err-give.ensures.examined c.in_err-give.ensures.faults

pub returns-clause-takes : goal.returns-clause-takes
returns-clause-takes g c e =
    rest_taken e (state g.S.Store c.args.conn.now) (state g.S.Store c.take_rest.new.conn) (g.I.Intake.content c.args.intake.now) (g.I.Intake.content c.take_rest.new.intake) g.I.Intake.examines c.take_rest.result
    (state g.S.Store c.office_day.new.conn) (state g.S.Store c.check_schema_version.new.conn) (g.I.Intake.content c.give.new.intake) (c.in_ok-schema_version.schema_version, c.in_ok-schema_version.day) c.in_ok-schema_version.ensures.formed
    (c.in_ok-schema_version.ensures.reads e) (λ rest. c.in_ok-check_schema_version.ensures.confirms e (c.layout-named.ensures ∙ layout_is e _ rest.office)) c.check_schema_version.ensures.clean c.check_schema_version.ensures.shield c.in_ok-give.ensures.ok c.take_rest.ensures.takes

pub returns-clause-version : goal.returns-clause-version
returns-clause-version g c =
    ok_at c.take_rest.result
    (record {
      version = c.in_ok-schema_version.schema_version;
      layout = sym c.layout-named.ensures ∙ c.in_ok-check_schema_version.ensures.names;
      named = λ clean. c.in_ok-schema_version.ensures.named (c.check_schema_version.ensures.clean (c.take_rest.ensures.takes.clean clean));
    })

-- whatever it is reported by
each_err : {X E : Type 0} (P : E → Type 0) (result : Result X E) → ((e : E) → P e) → IfErr result P
each_err P (Ok x) all = tt
each_err P (Err e) all = all e

pub returns-in_err-schema_version-clause-mixed : goal.returns-in_err-schema_version-clause-mixed
returns-in_err-schema_version-clause-mixed g c =
    let failed = err_from_is_err_and c.from_residual.result c.from_residual.ensures.1 in
    rw (failed.1, failed.2) (λ named clean has is differs. c.in_err-schema_version.ensures.other clean has named is)

pub returns-in_err-check_schema_version-clause-mixed : goal.returns-in_err-check_schema_version-clause-mixed
returns-in_err-check_schema_version-clause-mixed g c =
    let failed = err_from_is_err_and c.from_residual-in_err-check_schema_version.result c.from_residual-in_err-check_schema_version.ensures.1 in
    rw (failed.1, failed.2) (λ named clean has is differs. c.in_err-check_schema_version.ensures.faults)

pub returns-in_err-give-clause-mixed : goal.returns-in_err-give-clause-mixed
returns-in_err-give-clause-mixed g c =
    let layout = sym c.layout-named.ensures ∙ c.in_ok-check_schema_version.ensures.names in
    each_err _ c.from_residual-in_err-give.result (λ f named clean has is differs.
    absurd (differs (layout ∙ ap Some (one_named c.in_ok-schema_version.schema_version named (state g.S.Store c.args.conn.now).now.trees (c.in_ok-schema_version.ensures.named (c.check_schema_version.ensures.clean clean) has) is))))

pub returns-clause-mixed : goal.returns-clause-mixed
returns-clause-mixed g c =
    let layout = sym c.layout-named.ensures ∙ c.in_ok-check_schema_version.ensures.names in
    each_err _ c.take_rest.result (λ f named clean has is differs.
    absurd (differs (layout ∙ ap Some (one_named c.in_ok-schema_version.schema_version named (state g.S.Store c.args.conn.now).now.trees (c.in_ok-schema_version.ensures.named (c.check_schema_version.ensures.clean (c.take_rest.ensures.takes.clean clean)) has) is))))
