-- One table more has rows of its form, after those that are taken in before it. Source: own.
use Rattle.std.proofs.Common.{All, map, take}
use Rattle.sqlite_trees.specs.Tree.{Trees}
use Rattle.office_store.specs.Encoded.{encoded_entry}
use Rattle.office_sql.specs.Bags.{rows_of}
use Rattle.office_sql.specs.SchemaVersions.{schedules_of}
use Rattle.office_sql.specs.declared.schema_versions.SchemaVersion.{SchemaVersion}
use Rattle.office_sql.specs.Schema.{aggregations, certificates, classes, contents, entries, holds, records, runs, targets}
use Rattle.office_store.specs.RepresentsRows.{events_in}
use Rattle.office_store.specs.Stored.{AreReadable, IsAggregationPair, IsCertificateRow, IsClassPair, IsEntryOfForm, IsEventPair, IsHoldPair, IsNumber, IsRecordPair, IsRowOf, IsRunPair, IsSchedulePair, IsTargetPair, aggregation_pair, class_pair, event_pair, hold_pair, number_row, record_pair, run_pair, schedule_pair, target_pair}

module _ (ed : SchemaVersion) (db : Trees) where
  pub schedules_readable : AreReadable ed 1 db → All (IsRowOf schedule_pair IsSchedulePair) (rows_of (schedules_of ed) db) → AreReadable ed 2 db
  schedules_readable were all = record {
    schedules = λ below. all;
    classes = were.classes;
    aggregations = were.aggregations;
    records = were.records;
    events = were.events;
    contents = were.contents;
    holds = were.holds;
    targets = were.targets;
    runs = were.runs;
    entries = were.entries;
    certificates = were.certificates;
  }

  pub classes_readable : AreReadable ed 2 db → All (IsRowOf class_pair IsClassPair) (rows_of classes db) → AreReadable ed 3 db
  classes_readable were all = record {
    schedules = were.schedules;
    classes = λ below. all;
    aggregations = were.aggregations;
    records = were.records;
    events = were.events;
    contents = were.contents;
    holds = were.holds;
    targets = were.targets;
    runs = were.runs;
    entries = were.entries;
    certificates = were.certificates;
  }

  pub aggregations_readable : AreReadable ed 3 db → All (IsRowOf aggregation_pair IsAggregationPair) (rows_of aggregations db) → AreReadable ed 4 db
  aggregations_readable were all = record {
    schedules = were.schedules;
    classes = were.classes;
    aggregations = λ below. all;
    records = were.records;
    events = were.events;
    contents = were.contents;
    holds = were.holds;
    targets = were.targets;
    runs = were.runs;
    entries = were.entries;
    certificates = were.certificates;
  }

  pub records_readable : AreReadable ed 4 db → All (IsRowOf record_pair IsRecordPair) (rows_of records db) → AreReadable ed 5 db
  records_readable were all = record {
    schedules = were.schedules;
    classes = were.classes;
    aggregations = were.aggregations;
    records = λ below. all;
    events = were.events;
    contents = were.contents;
    holds = were.holds;
    targets = were.targets;
    runs = were.runs;
    entries = were.entries;
    certificates = were.certificates;
  }

  pub events_readable : AreReadable ed 5 db → All (IsRowOf event_pair IsEventPair) (events_in ed db) → AreReadable ed 6 db
  events_readable were all = record {
    schedules = were.schedules;
    classes = were.classes;
    aggregations = were.aggregations;
    records = were.records;
    events = λ below. all;
    contents = were.contents;
    holds = were.holds;
    targets = were.targets;
    runs = were.runs;
    entries = were.entries;
    certificates = were.certificates;
  }

  pub contents_readable : AreReadable ed 6 db → All (IsRowOf number_row IsNumber) (map (take 1) (rows_of contents db)) → AreReadable ed 7 db
  contents_readable were all = record {
    schedules = were.schedules;
    classes = were.classes;
    aggregations = were.aggregations;
    records = were.records;
    events = were.events;
    contents = λ below. all;
    holds = were.holds;
    targets = were.targets;
    runs = were.runs;
    entries = were.entries;
    certificates = were.certificates;
  }

  pub holds_readable : AreReadable ed 7 db → All (IsRowOf hold_pair IsHoldPair) (rows_of holds db) → AreReadable ed 8 db
  holds_readable were all = record {
    schedules = were.schedules;
    classes = were.classes;
    aggregations = were.aggregations;
    records = were.records;
    events = were.events;
    contents = were.contents;
    holds = λ below. all;
    targets = were.targets;
    runs = were.runs;
    entries = were.entries;
    certificates = were.certificates;
  }

  pub targets_readable : AreReadable ed 8 db → All (IsRowOf target_pair IsTargetPair) (rows_of targets db) → AreReadable ed 9 db
  targets_readable were all = record {
    schedules = were.schedules;
    classes = were.classes;
    aggregations = were.aggregations;
    records = were.records;
    events = were.events;
    contents = were.contents;
    holds = were.holds;
    targets = λ below. all;
    runs = were.runs;
    entries = were.entries;
    certificates = were.certificates;
  }

  pub runs_readable : AreReadable ed 9 db → All (IsRowOf run_pair IsRunPair) (rows_of runs db) → AreReadable ed 10 db
  runs_readable were all = record {
    schedules = were.schedules;
    classes = were.classes;
    aggregations = were.aggregations;
    records = were.records;
    events = were.events;
    contents = were.contents;
    holds = were.holds;
    targets = were.targets;
    runs = λ below. all;
    entries = were.entries;
    certificates = were.certificates;
  }

  pub entries_readable : AreReadable ed 10 db → All (IsRowOf encoded_entry IsEntryOfForm) (rows_of entries db) → AreReadable ed 11 db
  entries_readable were all = record {
    schedules = were.schedules;
    classes = were.classes;
    aggregations = were.aggregations;
    records = were.records;
    events = were.events;
    contents = were.contents;
    holds = were.holds;
    targets = were.targets;
    runs = were.runs;
    entries = λ below. all;
    certificates = were.certificates;
  }

  pub certificates_readable : AreReadable ed 11 db → All IsCertificateRow (rows_of certificates db) → AreReadable ed 12 db
  certificates_readable were all = record {
    schedules = were.schedules;
    classes = were.classes;
    aggregations = were.aggregations;
    records = were.records;
    events = were.events;
    contents = were.contents;
    holds = were.holds;
    targets = were.targets;
    runs = were.runs;
    entries = were.entries;
    certificates = λ below. all;
  }
