-- The rows that were collected. Source: own.
use Rattle.std.specs.Prelude.{map}
use Rattle.std.specs.String.{string_bytes}
use Rattle.office_rules.specs.Tables.{TableLists}
use Rattle.office_store.specs.declared.loader.Collected.{Collected}

-- the rows that have come, as lists
abbrev pub collected_lists : Collected → TableLists
collected_lists g = record {
  days = g.days.items;
  schedules = g.schedules.items;
  classes = g.classes.items;
  aggregations = g.aggregations.items;
  records = g.records.items;
  events = g.events.items;
  contents = g.contents.items;
  holds = g.holds.items;
  targets = g.targets.items;
  runs = g.runs.items;
  entries = g.entries.items;
  certificates = map (λ e. (e.0, string_bytes e.1)) g.certificates.items;
}
