-- A state is known by its rows.
use Rattle.std.proofs.Common.{◌≡◌, [], ◌∷◌, ℤ, length, Option, Some, None, refl, sym, ap, ◌∙◌}
use Rattle.std.specs.Option.{option_map}
use Rattle.std.specs.Cmp.{nat_cmp_total}
use Rattle.std.specs.Cmp.Lexicographic.{nat_list_cmp_total}
use Rattle.std.specs.FinMap.{entries, get, same_map, same_entries_map, nat_cmp-IsAntisymmetric}
use Rattle.std.specs.FinMap.Entries.{find}
use Rattle.std.specs.FinSet.{same_set}
use Rattle.office_records.specs.Lists.{is_some_and}
use Rattle.office_records.specs.Tree.{code_cmp}
use Rattle.office_rules.specs.Holds.{HoldMap, HoldState, has_target}
use Rattle.office_rules.specs.HoldRows.{hold_row}
use Rattle.office_records.specs.declared.target.Target.{Target}
use Rattle.office_records.specs.declared.target.Target.TheVariants as target
use Rattle.office_rules.specs.Rows.{rows_of, record_rows, targets_of}
use Rattle.office_rules.specs.State.{State, with_contents}
use Rattle.office_rules.specs.Tables.{Represents, TableLists}
use Rattle.office_rules.proofs.HoldRows.{codes_apart}
use Rattle.office_rules.proofs.KeyedRows.{rows_by, rows_by-get}
use Rattle.office_rules.proofs.NumberedRows.{same_numbered, same_heads, same_statuses}

-- two holds with the same columns and targets are one
same_hold : (h g : HoldState) → hold_row h ≡ hold_row g → ((t : Target) → has_target h t ≡ has_target g t) → h ≡ g
same_hold h g rows on =
    let classes = same_set nat_list_cmp_total codes_apart h.classes g.classes (λ q. on (target.Class q)) in
    let aggregations = same_set nat_cmp_total nat_cmp-IsAntisymmetric h.aggregations g.aggregations (λ q. on (target.Aggregation q)) in
    let records = same_set nat_cmp_total nat_cmp-IsAntisymmetric h.records g.records (λ q. on (target.Record q)) in
    λ i. record { reason = (rows i).reason; placed = (rows i).placed; by = (rows i).placed_by; lifted = (rows i).lifted; classes = classes i; aggregations = aggregations i; records = records i }

same_found : (o p : Option HoldState) → option_map hold_row o ≡ option_map hold_row p → ((t : Target) → is_some_and o (λ hold. has_target hold t) ≡ is_some_and p (λ hold. has_target hold t)) → o ≡ p
same_found None None e on = refl
same_found None (Some g) e on = absurd cc
same_found (Some h) None e on = absurd cc
same_found (Some h) (Some g) e on = let rows : hold_row h ≡ hold_row g = cc in ap Some (same_hold h g rows on)

same_holds : (m n : HoldMap) → rows_by code_cmp hold_row (entries m) ≡ rows_by code_cmp hold_row (entries n) → targets_of m ≡ targets_of n → m ≡ n
same_holds m n rows targets =
    same_map nat_list_cmp_total codes_apart m n
    (λ q. same_found (get m q) (get n q) (sym (rows_by-get code_cmp hold_row m q) ∙ ap (find code_cmp q) rows ∙ rows_by-get code_cmp hold_row n q) (λ t i. targets i q t))

-- two states with the same rows are one, where each record has a status
pub one_state : (s t : State) → length s.office.tree.statuses ≡ length s.office.tree.records → length t.office.tree.statuses ≡ length t.office.tree.records → rows_of s ≡ rows_of t → s ≡ t
unfolding rows_of
one_state s t e f same =
    let a = s.office.tree in
    let b = t.office.tree in
    let columns = same_numbered (record_rows a.records a.statuses) (record_rows b.records b.statuses) (λ i. (same i).records) in
    let schedules = same_entries_map a.schedules b.schedules (λ i. (same i).schedules) in
    let classes = same_entries_map a.classes b.classes (λ i. (same i).classes) in
    let aggregations = same_numbered a.aggregations b.aggregations (λ i. (same i).aggregations) in
    let records = same_heads a.records b.records a.statuses b.statuses e f columns in
    let statuses = same_statuses a.records b.records a.statuses b.statuses e f columns in
    let events = same_entries_map a.events b.events (λ i. (same i).events) in
    let holds = same_holds s.office.holds t.office.holds (λ i. (same i).holds) (λ i. (same i).targets) in
    let runs = same_numbered s.office.runs t.office.runs (λ i. (same i).runs) in
    let by = same_entries_map s.office.entries t.office.entries (λ i. (same i).entries_by) in
    let certificates = same_entries_map s.office.certificates t.office.certificates (λ i. (same i).certificates) in
    let contents = same_entries_map s.contents t.contents (λ i. (same i).contents) in
    λ i. record {
      office = record {
        tree = record { schedules = schedules i; classes = classes i; aggregations = aggregations i; records = records i; statuses = statuses i; events = events i };
        holds = holds i;
        runs = runs i;
        entries = by i;
        certificates = certificates i;
        day = (same i).day;
      };
      contents = contents i;
    }

same_day : (x y : ℤ) → x ∷ [] ≡ y ∷ [] → x ≡ y
same_day x y e = cc

-- tables that were read represent at most one office
pub one_office : (t : TableLists) (s u : State) → length s.office.tree.statuses ≡ length s.office.tree.records → length u.office.tree.statuses ≡ length u.office.tree.records → Represents t s → Represents t u → s.office ≡ u.office
unfolding rows_of
one_office t s u e f a b =
    ap (λ (x : State). x.office) (one_state s (with_contents u.office s.contents) e f (λ i. record {
      day = same_day (rows_of s).day (rows_of u).day (sym a.day ∙ b.day) i;
      schedules = (sym a.schedules ∙ b.schedules) i;
      classes = (sym a.classes ∙ b.classes) i;
      aggregations = (sym a.aggregations ∙ b.aggregations) i;
      records = (sym a.records ∙ b.records) i;
      events = (sym a.events ∙ b.events) i;
      contents = (rows_of s).contents;
      holds = (sym a.holds ∙ b.holds) i;
      targets = λ code target. (sym (a.targets code target) ∙ b.targets code target) i;
      runs = (sym a.runs ∙ b.runs) i;
      entries_by = (sym a.entries ∙ b.entries) i;
      certificates = (sym a.certificates ∙ b.certificates) i;
    }))
