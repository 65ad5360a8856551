use Rattle.std.proofs.Common.{◌≡◌, refl, rules}
use Rattle.hex.specs.Hex.{encode_lower}
use Rattle.office_rules.specs.Rows.{record_row}
use Rattle.office_sql.specs.SchemaVersions.{version_2}
use Rattle.office_sql.specs.declared.tables.OfficeTable.TheVariants as table
use Rattle.office_sql.proofs.Columns.{given_columns, one_more}
use Rattle.office_sql.proofs.OfTwo.{has_records}
use Rattle.office_sql.proofs.SuitedShown.{puts_as}
use Rattle.office_store.proofs.SuitedRecords.{record_suits}
use Rattle.office_store.proofs.row_writes.put_record.Goals as goal

pub returns-clause-written : goal.returns-clause-written
returns-clause-written g c =
    let digest : c.args.digest.now ≡ encode_lower c.args.head.now.digest = c.requires in
    puts_as table.Records (record_suits c.args.number (record_row c.args.head.now c.args.status))
    (one_more _ _ _ _ (search (given_columns, rules, digest)) (one_more _ _ _ _ (search (given_columns, rules, digest)) (one_more _ _ _ _ (search (given_columns, rules, digest)) (one_more _ _ _ _ (search (given_columns, rules, digest)) (one_more _ _ _ _ (search (given_columns, rules, digest)) (one_more _ _ _ _ (search (given_columns, rules, digest)) (one_more _ _ _ _ (search (given_columns, rules, digest)) (one_more _ _ _ _ (search (given_columns, rules, digest)) (one_more _ _ _ _ (search (given_columns, rules, digest)) (one_more _ _ _ _ (search (given_columns, rules, digest)) (one_more _ _ _ _ (search (given_columns, rules, digest)) (one_more _ _ _ _ (search (given_columns, rules, digest)) (one_more _ _ _ _ (search (given_columns, rules, digest)) (one_more _ _ _ _ (search (given_columns, rules, digest)) (one_more _ _ _ _ (search (given_columns, rules, digest)) (one_more _ _ _ _ (search (given_columns, rules, digest)) (one_more _ _ _ _ (search (given_columns, rules, digest)) (one_more _ _ _ _ (search (given_columns, rules, digest)) (one_more _ _ _ _ (search (given_columns, rules, digest)) (refl)))))))))))))))))))) c.put.ensures.put version_2 has_records
