-- Each table is one of version 2.
use Rattle.std.proofs.Common.{inl, inr, refl}
use Rattle.sqlite_rules.specs.Lists.{Has}
use Rattle.office_sql.specs.SchemaVersions.{version_2}
use Rattle.office_sql.specs.Schema.{office, schedules, classes, aggregations, records, contents, holds, targets, runs, entries, certificates, schedules2, events}

pub has_office : Has version_2 office
has_office = inl refl

pub has_schedules : Has version_2 schedules
has_schedules = inr (inl refl)

pub has_classes : Has version_2 classes
has_classes = inr (inr (inl refl))

pub has_aggregations : Has version_2 aggregations
has_aggregations = inr (inr (inr (inl refl)))

pub has_records : Has version_2 records
has_records = inr (inr (inr (inr (inl refl))))

pub has_contents : Has version_2 contents
has_contents = inr (inr (inr (inr (inr (inl refl)))))

pub has_holds : Has version_2 holds
has_holds = inr (inr (inr (inr (inr (inr (inl refl))))))

pub has_targets : Has version_2 targets
has_targets = inr (inr (inr (inr (inr (inr (inr (inl refl)))))))

pub has_runs : Has version_2 runs
has_runs = inr (inr (inr (inr (inr (inr (inr (inr (inl refl))))))))

pub has_entries : Has version_2 entries
has_entries = inr (inr (inr (inr (inr (inr (inr (inr (inr (inl refl)))))))))

pub has_certificates : Has version_2 certificates
has_certificates = inr (inr (inr (inr (inr (inr (inr (inr (inr (inr (inl refl))))))))))

pub has_schedules2 : Has version_2 schedules2
has_schedules2 = inr (inr (inr (inr (inr (inr (inr (inr (inr (inr (inr (inl refl)))))))))))

pub has_events : Has version_2 events
has_events = inr (inr (inr (inr (inr (inr (inr (inr (inr (inr (inr (inr (inl refl))))))))))))
