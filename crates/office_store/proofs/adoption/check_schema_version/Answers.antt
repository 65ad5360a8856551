use Rattle.std.proofs.Common.{◌≡◌, ◌≢◌, Ok, Some, sym, subst, ◌∙◌, rules}
use Rattle.sqlite.specs.Held.{state}
use Rattle.office_sql.specs.declared.schema_versions.SchemaVersion.TheVariants as schema_version
use Rattle.office_store.specs.Adopted.{ConfirmsSchemaVersion}
use Rattle.office_store.proofs.SchemaVersionFound.{one_confirmed, other_names, schedules_looked}
use Rattle.office_store.proofs.adoption.check_schema_version.Goals as goal

pub returns-in-Some-One-One-clause-confirms : goal.returns-in-Some-One-One-clause-confirms
returns-in-Some-One-One-clause-confirms g c e is =
    let old = state g.S.Store c.args.conn.now in
    let named : c.args.named ≡ Some schema_version.One = search rules in
    subst (λ asked. ConfirmsSchemaVersion e asked old old (Ok tt)) (sym c.in-Some-One-One.is-1) (one_confirmed e old (λ rest. sym named ∙ is))

pub returns-in-Some-Two-Two-clause-confirms : goal.returns-in-Some-Two-Two-clause-confirms
returns-in-Some-Two-Two-clause-confirms g c e is =
    let old = state g.S.Store c.args.conn.now in
    let new = state g.S.Store c.no_row.new.conn in
    let named : c.args.named ≡ Some schema_version.Two = search rules in
    subst (λ asked. ConfirmsSchemaVersion e asked old new c.no_row.result) (sym c.in-Some-Two-Two.is-1) (schedules_looked e old new (λ rest. sym named ∙ is) c.no_row.result (c.no_row.ensures.finds schema_version.Two tt))

pub returns-in_default-clause-confirms : goal.returns-in_default-clause-confirms
returns-in_default-clause-confirms g c e is =
    let old = state g.S.Store c.args.conn.now in
    let differ : c.args.named ≢ Some c.args.schema_version = λ same. search rules in
    other_names e c.args.schema_version c.args.named differ old (λ rest. is) _

pub returns-in_default-2-clause-confirms : goal.returns-in_default-2-clause-confirms
returns-in_default-2-clause-confirms g c e is =
    let old = state g.S.Store c.args.conn.now in
    let differ : c.args.named ≢ Some c.args.schema_version = λ same. search rules in
    other_names e c.args.schema_version c.args.named differ old (λ rest. is) _

pub returns-in_default-3-clause-confirms : goal.returns-in_default-3-clause-confirms
returns-in_default-3-clause-confirms g c e is =
    let old = state g.S.Store c.args.conn.now in
    let differ : c.args.named ≢ Some c.args.schema_version = λ same. search rules in
    other_names e c.args.schema_version c.args.named differ old (λ rest. is) _
