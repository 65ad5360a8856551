-- Where the tables have the rows of a sound state, the rows that have come are the first of tables that represent it.
use Rattle.std.proofs.Common.{◌≡◌, ◌≢◌, ◌⊎◌, ◌≤◌, inl, inr, ℕ, suc, Bool, true, false, nat_lt, List, [], ◌∷◌, ◌++◌, All, map, refl, sym, ap, ap₂, subst, ◌∙◌, IsPermutation, arith}
use Rattle.std.specs.List.{AllByRecursion}
use Rattle.std.proofs.lemmas.Bool.Decides.{nat_tests}
use Rattle.std.proofs.lemmas.List.{append-nil, map-append}
use Rattle.std.proofs.lemmas.List.Elements.{All-weaker, recursion_from_All}
use Rattle.std.proofs.lemmas.List.Sorted.{All-permutation, IsPermutation-sym}
use Rattle.sqlite_value.specs.Order.{Row}
use Rattle.sqlite_trees.specs.Tree.{Trees}
use Rattle.office_records.specs.declared.event.Event.{Event}
use Rattle.office_records.specs.declared.target.Target.{Target}
use Rattle.office_rules.specs.Rows.{TableRows, rows_of}
use Rattle.office_rules.specs.Sound.{IsSound}
use Rattle.office_rules.specs.State.{State}
use Rattle.office_rules.specs.Tables.{Begins, IsPrefix, Represents, TableLists}
use Rattle.office_sql.specs.SchemaVersions.{schedules_table}
use Rattle.office_sql.specs.declared.schema_versions.SchemaVersion.{SchemaVersion}
use Rattle.office_sql.specs.declared.schema_versions.SchemaVersion.TheVariants as schema_version
use Rattle.office_sql.specs.Reads.{IsByKey, bag_of, key_of}
use Rattle.office_sql.specs.declared.tables.OfficeTable.{OfficeTable}
use Rattle.office_sql.specs.declared.tables.OfficeTable.TheVariants as table
use Rattle.office_store.specs.Encoded.{encoded_entry}
use Rattle.office_store.specs.Adopted.{HoldNoOffice}
use Rattle.office_store.specs.RepresentsRows.{RepresentsRowsIn, events_in}
use Rattle.office_store.specs.Stored.{AllReadable, IsCertificateRow, IsRowOf, IsSchedulePair, aggregation_pair, class_pair, event_pair, hold_pair, number_row, record_pair, run_pair, schedule_pair, target_pair, text_row}
use Rattle.office_store.specs.Taken.{HaveCome, HaveEventsCome, HaveRowsCome, IsPrefixOfNone}
use Rattle.office_store.proofs.WellFormedRows.{well_formed_records, own_entries, short_in_rows}
use Rattle.office_store.proofs.SchemaVersionTables.{all_schedules_too, schedules_by_key}
use Rattle.office_store.proofs.ReadTables.{read_aggregations, read_certificates, read_classes, read_contents, read_day, read_entries, read_events, read_holds, read_records, read_runs, read_schedules, under_keys}
use Rattle.office_store.proofs.ReadTargets.{same_targets}
use Rattle.office_store.proofs.ReadableRows.{rows_readable}
use Rattle.office_store.proofs.RowsInOrder.{AreInOrder, rows_in_order}

-- of two lists, the later
of_tail : {X : Type 0} (P : X → Type 0) (prefix tail : List X) → AllByRecursion P (prefix ++ tail) → AllByRecursion P tail
of_tail P [] tail all = all
of_tail P (x ∷ prefix) tail all = of_tail P prefix tail all.1

-- what shows no row is nothing
pub shows_none : {X : Type 0} (encoded : X → Row) (xs : List X) → map encoded xs ≡ [] → xs ≡ []
shows_none encoded [] none = refl
shows_none encoded (x ∷ xs) none = absurd cc

module _ {X : Type 0} (encoded : X → Row) where
  abbrev IsShown : Row → Type 0
  IsShown row = (x : X) × (row ≡ encoded x)

  -- rows that each show a thing are those of a list of things
  things_of : (rows : List Row) → AllByRecursion IsShown rows → (xs : List X) × (rows ≡ map encoded xs)
  things_of [] all = ([], refl)
  things_of (row ∷ rows) all =
      let rest = things_of rows all.1 in
      (all.0.0 ∷ rest.0, ap₂ (λ r l. r ∷ l) all.0.1 rest.1)

  module _ (table : OfficeTable) (db : Trees) (all : All IsShown (bag_of table db)) where
    -- the rows after those that came are those of things too
    whole_list : (xs : List X) (tail : List Row) → IsByKey (key_of table) (bag_of table db) (map encoded xs ++ tail) → (ts : List X) × IsByKey (key_of table) (bag_of table db) (map encoded (xs ++ ts))
    whole_list xs tail by =
        let each = recursion_from_All IsShown (map encoded xs ++ tail) (All-permutation IsShown (bag_of table db) (map encoded xs ++ tail) by.same all) in
        let rest = things_of tail (of_tail IsShown (map encoded xs) tail each) in
        (rest.0, subst (IsByKey (key_of table) (bag_of table db)) (ap (λ l. map encoded xs ++ l) rest.1 ∙ sym (map-append encoded xs rest.0)) by)

    -- where a table is read as that list, what has come begins it
    prefix_of : (whole begun : Bool) (xs us : List X) → ((ts : List X) → IsByKey (key_of table) (bag_of table db) (map encoded ts) → ts ≡ us) → HaveRowsCome whole begun table db (map encoded xs) → IsPrefix xs us
    prefix_of true begun xs us is come = ([], sym (is xs come) ∙ sym (append-nil xs))
    prefix_of false true xs us is come =
        let list = whole_list xs come.0 come.1 in
        (list.0, sym (is (xs ++ list.0) list.1))
    prefix_of false false xs us is come = (us, ap (λ l. l ++ us) (sym (shows_none encoded xs come)))

-- the events that have come begin those that are read
prefix_of_events : (ed : SchemaVersion) (db : Trees) (all : All (IsShown event_pair) (events_in ed db)) (whole begun : Bool) (xs us : List (ℕ × Event)) → ((ts : List (ℕ × Event)) → IsByKey (0 ∷ []) (events_in ed db) (map event_pair ts) → ts ≡ us)
    → HaveEventsCome ed whole begun db (map event_pair xs) → IsPrefix xs us
prefix_of_events schema_version.One db all whole begun xs us is come = (us, ap (λ l. l ++ us) (sym (shows_none event_pair xs come)))
prefix_of_events schema_version.Two db all whole begun xs us is come = prefix_of event_pair table.Events db all whole begun xs us is come

-- pairs of hold and target that begin with those that have come
pairs_of : (whole begun : Bool) (db : Trees) (xs others : List (List ℕ × Target)) → All (IsShown target_pair) (bag_of table.Targets db) → IsPermutation (bag_of table.Targets db) (map target_pair others)
    → HaveRowsCome whole begun table.Targets db (map target_pair xs)
    → (pairs : List (List ℕ × Target)) × IsPermutation (bag_of table.Targets db) (map target_pair pairs) × IsPrefix xs pairs × (xs ≢ [] → (whole ≡ true) ⊎ (begun ≡ true))
pairs_of true begun db xs others all same come = (xs, come.same, ([], sym (append-nil xs)), λ some. inl refl)
pairs_of false true db xs others all same come =
    let list = whole_list target_pair table.Targets db all xs come.0 come.1 in
    (xs ++ list.0, list.1.same, (list.0, refl), λ some. inr refl)
pairs_of false false db xs others all same come =
    let none = shows_none target_pair xs come in
    (others, same, (others, ap (λ l. l ++ others) (sym none)), λ some. absurd (some none))

-- targets come after all holds
after_holds : (whole begun : ℕ) → begun ≤ suc whole → (nat_lt 8 whole ≡ true) ⊎ (nat_lt 8 begun ≡ true) → nat_lt 7 whole ≡ true
after_holds whole begun near (inl late) = grind (arith, nat_tests)
after_holds whole begun near (inr late) = grind (arith, nat_tests)

-- the rows of a state, with targets in this order
tables_of : TableRows → List (List ℕ × Target) → TableLists
tables_of rows pairs = record {
  days = rows.day ∷ [];
  schedules = rows.schedules;
  classes = rows.classes;
  aggregations = rows.aggregations;
  records = rows.records;
  events = rows.events;
  contents = map (λ e. e.0) rows.contents;
  holds = rows.holds;
  targets = pairs;
  runs = rows.runs;
  entries = map (λ e. e.1) rows.entries_by;
  certificates = rows.certificates;
}

module _ {ed : SchemaVersion} (s : State) (db : Trees) (sound : IsSound s) (represents : RepresentsRowsIn ed (rows_of s) db) where
  tables_represent : (pairs : List (List ℕ × Target)) → IsPermutation (bag_of table.Targets db) (map target_pair pairs) → Represents (tables_of (rows_of s) pairs) s
  unfolding tables_of
  tables_represent pairs same = record {
    day = refl;
    schedules = refl;
    classes = refl;
    aggregations = refl;
    records = refl;
    events = refl;
    contents = refl;
    holds = refl;
    targets = same_targets (rows_of s).targets (short_in_rows s sound) db represents.targets pairs same;
    runs = refl;
    entries = under_keys (rows_of s).entries_by (own_entries s sound);
    certificates = refl;
  }

  module _ (all : AllReadable ed db) (whole begun : ℕ) (near : begun ≤ suc whole) (u : TableLists) (come : HaveCome ed whole begun u db) where
    rows : TableRows
    rows = rows_of s

    formed : {X : Type 0} (encoded : X → Row) (IsWellFormed : X → Type 0) (bag : List Row) → All (IsRowOf encoded IsWellFormed) bag → All (IsShown encoded) bag
    formed encoded IsWellFormed bag = All-weaker (IsRowOf encoded IsWellFormed) (IsShown encoded) (λ row it. (it.0, it.2)) bag

    they_begin : (t : TableLists) × Represents t s × Begins u t
    unfolding tables_of rows
    they_begin =
        let order : AreInOrder rows = rows_in_order s in
        let pairs = pairs_of (nat_lt 8 whole) (nat_lt 8 begun) db u.targets represents.targets.0 (formed target_pair _ (bag_of table.Targets db) (all.rows.targets refl)) (IsPermutation-sym _ _ represents.targets.1) come.targets in
        let first = λ (some : u.targets ≢ []). after_holds whole begun near (pairs.3 some) in (
          tables_of rows pairs.0,
          tables_represent pairs.0 pairs.1,
          record {
            days = ([], sym (read_day rows db order represents u.days come.office) ∙ sym (append-nil u.days));
            schedules = prefix_of schedule_pair (schedules_table ed) db (formed schedule_pair IsSchedulePair (bag_of (schedules_table ed) db) (all_schedules_too (IsRowOf schedule_pair IsSchedulePair) ed db (all.rows.schedules refl))) (nat_lt 1 whole) (nat_lt 1 begun) u.schedules rows.schedules (λ ts by. read_schedules rows db order represents ts (schedules_by_key ed db (map schedule_pair ts) by)) come.schedules;
            classes = prefix_of class_pair table.Classes db (formed class_pair _ (bag_of table.Classes db) (all.rows.classes refl)) (nat_lt 2 whole) (nat_lt 2 begun) u.classes rows.classes (read_classes rows db order represents) come.classes;
            aggregations = prefix_of aggregation_pair table.Aggregations db (formed aggregation_pair _ (bag_of table.Aggregations db) (all.rows.aggregations refl)) (nat_lt 3 whole) (nat_lt 3 begun) u.aggregations rows.aggregations (read_aggregations rows db order represents) come.aggregations;
            records = prefix_of record_pair table.Records db (formed record_pair _ (bag_of table.Records db) (all.rows.records refl)) (nat_lt 4 whole) (nat_lt 4 begun) u.records rows.records (read_records rows db order represents (λ e within. (well_formed_records s sound e within).1.digest)) come.records;
            events = prefix_of_events ed db (formed event_pair _ (events_in ed db) (all.rows.events refl)) (nat_lt 5 whole) (nat_lt 5 begun) u.events rows.events (read_events rows db order represents) come.events;
            contents = prefix_of number_row table.Contents db (formed number_row _ (bag_of table.Contents db) (all.rows.contents refl)) (nat_lt 6 whole) (nat_lt 6 begun) u.contents (map (λ e. e.0) rows.contents) (read_contents rows db order represents) come.contents;
            holds = prefix_of hold_pair table.Holds db (formed hold_pair _ (bag_of table.Holds db) (all.rows.holds refl)) (nat_lt 7 whole) (nat_lt 7 begun) u.holds rows.holds (read_holds rows db order represents) come.holds;
            all_holds = λ some. sym (read_holds rows db order represents u.holds (subst (λ b. HaveRowsCome b (nat_lt 7 begun) table.Holds db (map hold_pair u.holds)) (first some) come.holds));
            targets = pairs.2;
            runs = prefix_of run_pair table.Runs db (formed run_pair _ (bag_of table.Runs db) (all.rows.runs refl)) (nat_lt 9 whole) (nat_lt 9 begun) u.runs rows.runs (read_runs rows db order represents) come.runs;
            entries = prefix_of encoded_entry table.Entries db (formed encoded_entry _ (bag_of table.Entries db) (all.rows.entries refl)) (nat_lt 10 whole) (nat_lt 10 begun) u.entries (map (λ e. e.1) rows.entries_by) (read_entries rows db order represents (own_entries s sound)) come.entries;
            certificates = prefix_of text_row table.Certificates db (All-weaker IsCertificateRow (IsShown text_row) (λ row it. ((it.0, it.1), it.4)) (bag_of table.Certificates db) (all.rows.certificates refl)) (nat_lt 11 whole) (nat_lt 11 begun) u.certificates rows.certificates (read_certificates rows db order represents) come.certificates;
          },
        )

-- where no tables that begin with the rows that have come represent a state, the tables hold no office
pub none_held : {ed : SchemaVersion} (whole begun : ℕ) → begun ≤ suc whole → (u : TableLists) (db : Trees) → HaveCome ed whole begun u db → IsPrefixOfNone u → HoldNoOffice ed db
none_held whole begun near u db come none s sound texts represents =
    let it = they_begin s db sound represents (rows_readable s db sound texts represents) whole begun near u come in
    none it.0 it.2 s it.1 sound
