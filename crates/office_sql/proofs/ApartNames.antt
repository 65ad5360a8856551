-- No table, and no index that a table makes, has the name of a table that is made after it.
use Rattle.std.proofs.Common.{◌≡◌, drop, false, refl}
use Rattle.std.specs.List.{AllByRecursion}
use Rattle.sqlite_schema.specs.declared.schema.Table.{Table}
use Rattle.sqlite_tied.specs.Compute.{everything}
use Rattle.office_sql.specs.SchemaVersions.{version_2}
use Rattle.office_sql.specs.Schema.{office, schedules, classes, aggregations, records, contents, holds, targets, runs, entries, certificates, schedules2}
use Rattle.office_sql.proofs.Grown.{clashes}

pub apart_office : AllByRecursion (λ (u : Table). clashes office u ≡ false) (drop 1 version_2)
unfolding everything
apart_office = (refl, (refl, (refl, (refl, (refl, (refl, (refl, (refl, (refl, (refl, (refl, (refl, tt))))))))))))

pub apart_schedules : AllByRecursion (λ (u : Table). clashes schedules u ≡ false) (drop 2 version_2)
unfolding everything
apart_schedules = (refl, (refl, (refl, (refl, (refl, (refl, (refl, (refl, (refl, (refl, (refl, tt)))))))))))

pub apart_classes : AllByRecursion (λ (u : Table). clashes classes u ≡ false) (drop 3 version_2)
unfolding everything
apart_classes = (refl, (refl, (refl, (refl, (refl, (refl, (refl, (refl, (refl, (refl, tt))))))))))

pub apart_aggregations : AllByRecursion (λ (u : Table). clashes aggregations u ≡ false) (drop 4 version_2)
unfolding everything
apart_aggregations = (refl, (refl, (refl, (refl, (refl, (refl, (refl, (refl, (refl, tt)))))))))

pub apart_records : AllByRecursion (λ (u : Table). clashes records u ≡ false) (drop 5 version_2)
unfolding everything
apart_records = (refl, (refl, (refl, (refl, (refl, (refl, (refl, (refl, tt))))))))

pub apart_contents : AllByRecursion (λ (u : Table). clashes contents u ≡ false) (drop 6 version_2)
unfolding everything
apart_contents = (refl, (refl, (refl, (refl, (refl, (refl, (refl, tt)))))))

pub apart_holds : AllByRecursion (λ (u : Table). clashes holds u ≡ false) (drop 7 version_2)
unfolding everything
apart_holds = (refl, (refl, (refl, (refl, (refl, (refl, tt))))))

pub apart_targets : AllByRecursion (λ (u : Table). clashes targets u ≡ false) (drop 8 version_2)
unfolding everything
apart_targets = (refl, (refl, (refl, (refl, (refl, tt)))))

pub apart_runs : AllByRecursion (λ (u : Table). clashes runs u ≡ false) (drop 9 version_2)
unfolding everything
apart_runs = (refl, (refl, (refl, (refl, tt))))

pub apart_entries : AllByRecursion (λ (u : Table). clashes entries u ≡ false) (drop 10 version_2)
unfolding everything
apart_entries = (refl, (refl, (refl, tt)))

pub apart_certificates : AllByRecursion (λ (u : Table). clashes certificates u ≡ false) (drop 11 version_2)
unfolding everything
apart_certificates = (refl, (refl, tt))

pub apart_schedules2 : AllByRecursion (λ (u : Table). clashes schedules2 u ≡ false) (drop 12 version_2)
unfolding everything
apart_schedules2 = (refl, tt)
