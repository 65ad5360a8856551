-- The office of the rows that have come, and rows of which there is none.
use Rattle.std.proofs.Common.{◌≡◌, ℕ, List, ◌∷◌, [], sym, ap, subst, ◌∙◌}
use Rattle.std.specs.Cmp.{nat_cmp_total}
use Rattle.std.specs.FinMap.{entries, from_entries}
use Rattle.std.specs.List.Sorted.{IsStrictlySortedBy}
use Rattle.std.specs.Map.{keys_of}
use Rattle.std.specs.Ordering.{nat_cmp}
use Rattle.office_base.specs.Rows.{numbered_rows}
use Rattle.office_base.proofs.Maps.{entries_of_ordered}
use Rattle.office_rules.specs.HoldLoading.{AreRowsOf}
use Rattle.office_rules.specs.Loading.{AreTablesOf, HaveKeys, entry_rows}
use Rattle.office_rules.specs.Rows.{rows_of}
use Rattle.office_rules.specs.State.{ByteMap, Office, State}
use Rattle.office_rules.specs.Tables.{Represents, TableLists}
use Rattle.office_machine.specs.TreeRows.{AreTreeRows}
use Rattle.office_machine.specs.Keys.{bare_rows}
use Rattle.office_machine.proofs.MapRows.{keys_of_none}

-- an office with these rows, whatever its contents are
pub tables_of : (t : TableLists) (s : Office) → t.days ≡ s.day ∷ [] → AreTreeRows t.schedules t.classes t.aggregations t.records t.events s.tree → AreRowsOf t.holds t.targets s.holds
    → numbered_rows s.runs ≡ t.runs → entries s.entries ≡ entry_rows t.entries → entries s.certificates ≡ t.certificates → AreTablesOf t s
unfolding rows_of
tables_of t s day tree holds runs by certificates contents keys = record {
  day = day;
  schedules = sym tree.of_schedules;
  classes = sym tree.of_classes;
  aggregations = sym tree.of_aggregations;
  records = sym tree.of_records;
  events = sym tree.of_events;
  contents = sym keys;
  holds = sym holds.columns;
  targets = holds.targets_exist;
  runs = sym runs;
  entries = sym by;
  certificates = sym certificates;
}

-- there are contents of keys that ascend
pub some_contents : (keys : List ℕ) → IsStrictlySortedBy nat_cmp keys → (contents : ByteMap) × HaveKeys contents keys
some_contents keys ascend =
    let bytes = bare_rows keys in
    (from_entries bytes, ap keys_of (entries_of_ordered nat_cmp nat_cmp_total bytes (subst (λ ks. IsStrictlySortedBy nat_cmp ks) (sym (keys_of_none keys)) ascend)) ∙ keys_of_none keys)

-- the rows of a state's tree
pub tree_rows : (t : TableLists) (s : State) → Represents t s → AreTreeRows t.schedules t.classes t.aggregations t.records t.events s.office.tree
unfolding rows_of
tree_rows t s represent = record { of_schedules = sym represent.schedules; of_classes = sym represent.classes; of_aggregations = sym represent.aggregations; of_records = sym represent.records; of_events = sym represent.events }
