use Rattle.std.proofs.Common.{◌∙◌, rules, pos, [], ◌∷◌, sym, ap}
use Rattle.std.proofs.lemmas.Result.{IfOk-at_ok}
use Rattle.sqlite_value.specs.declared.value.Value.TheVariants.{Int}
use Rattle.office_sql.specs.SchemaVersions.{version_of}
use Rattle.office_sql.specs.Values.{Has}
use Rattle.office_store.proofs.OfficeRow.{one_row, whole_office, is_number}
use Rattle.office_store.proofs.adoption.day_of.Goals as goal

pub returns-clause-ok : goal.returns-clause-ok
returns-clause-ok c =
    let row = c.row-item.result in
    let reported = c.in_ok-schema_version.ensures.ok in
    let rows_is = one_row c.args.rows.now row c.in-len1.len_at_least c.in-len1.len_below c.row-item.is in
    let is_one = is_number _ c.number.result 1 (sym c.ne.ensures ∙ c.if-ne.false) in
    let first : Has row 0 (Int (pos 1)) = IfOk-at_ok (λ n. Has row 0 (Int (pos n))) is_one c.number.ensures.ok in
    let third : Has row 2 (Int c.in_ok-day.field-0) = search rules in
    rows_is ∙ ap (λ r. r ∷ []) (whole_office row reported.1 reported.0 (version_of c.in_ok-schema_version.schema_version) c.in_ok-day.field-0 reported.2 (search rules) first third)
