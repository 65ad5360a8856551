-- Each write of a row makes of a state's rows those of the next.
use Rattle.std.proofs.Common.{◌≡◌, ◌+◌, ◌≤◌, List, [], ◌∷◌, length, refl, ap, ◌∙◌, arith}
use Rattle.std.specs.Cmp.{nat_cmp_total}
use Rattle.std.specs.Cmp.Lexicographic.{nat_list_cmp_total}
use Rattle.std.specs.FinMap.{get, entries-insert, nat_cmp-IsAntisymmetric}
use Rattle.std.specs.FinMap.Entries.{put}
use Rattle.std.specs.String.{string_bytes}
use Rattle.office_records.specs.Tree.{code_cmp}
use Rattle.office_rules.specs.HoldEffects.{with_target, without_target}
use Rattle.office_rules.specs.HoldRows.{hold_from, hold_row}
use Rattle.office_rules.specs.Rows.{all_row_writes, record_row, record_rows, rows_of, write_rows}
use Rattle.office_base.specs.Rows.{numbered_rows}
use Rattle.office_rules.specs.State.{State}
use Rattle.office_rules.specs.Writes.{AllFollow, CanFollow, CanPut, CanWrite, HasPlace, all_writes, write}
use Rattle.office_rules.specs.declared.rows.RowWrite.{RowWrite}
use Rattle.office_rules.specs.declared.rows.RowWrite.TheVariants as row_write
use Rattle.office_rules.proofs.HoldRows.{codes_apart, hold_from-row, targets_of-gone, targets_of-hold, targets_of-put, with_target-row, without_target-row}
use Rattle.office_rules.proofs.KeyedRows.{entries-remove, rows_by-amended, rows_by-insert}
use Rattle.office_rules.proofs.NumberedRows.{length-record_rows, numbered_rows-put, record_rows-put}
use Rattle.office_rules.proofs.SoundMaps.{entry_total}

-- a write of a row that has a place
pub written : (s : State) (w : RowWrite) → length s.office.tree.statuses ≡ length s.office.tree.records → HasPlace s.office w → rows_of (write w s) ≡ write_rows w (rows_of s)
unfolding rows_of
written s (row_write.Schedule code schedule) e h = λ i. record (rows_of s) { schedules = entries-insert nat_list_cmp_total s.office.tree.schedules code schedule i }
written s (row_write.Class code class) e h = λ i. record (rows_of s) { classes = entries-insert nat_list_cmp_total s.office.tree.classes code class i }
written s (row_write.Aggregation number aggregation) e h = λ i. record (rows_of s) { aggregations = numbered_rows-put s.office.tree.aggregations number aggregation h.0 h.1 i }
written s (row_write.Record number head status) e h =
    let tree = s.office.tree in
    let fits : number ≤ length (record_rows tree.records tree.statuses) + 1 = omega (arith, h.1, length-record_rows tree.records tree.statuses e) in
    let rows = ap numbered_rows (record_rows-put tree.records tree.statuses number head status e) ∙ numbered_rows-put (record_rows tree.records tree.statuses) number (record_row head status) h.0 fits in
    λ i. record (rows_of s) { records = rows i }
written s (row_write.Event number event) e h = λ i. record (rows_of s) { events = entries-insert nat_cmp_total s.office.tree.events number event i }
written s (row_write.Content number bytes) e h = λ i. record (rows_of s) { contents = entries-insert nat_cmp_total s.contents number bytes.items i }
written s (row_write.DeleteContent number) e h = λ i. record (rows_of s) { contents = entries-remove nat_cmp_total nat_cmp-IsAntisymmetric s.contents number i }
written s (row_write.Hold code hold) e h =
    let holds = s.office.holds in
    let rows = rows_by-insert code_cmp hold_row nat_list_cmp_total holds code (hold_from hold (get holds code)) ∙ ap (λ row. put code_cmp code row (rows_of s).holds) (hold_from-row hold (get holds code)) in
    λ i. record (rows_of s) { holds = rows i; targets = targets_of-hold holds code hold i }
written s (row_write.Target code new) e h =
    let holds = s.office.holds in
    λ i. record (rows_of s) { holds = rows_by-amended code_cmp hold_row nat_list_cmp_total codes_apart holds code (with_target new) (with_target-row new) i; targets = targets_of-put holds code new h i }
written s (row_write.RemoveTarget code gone) e h =
    let holds = s.office.holds in
    λ i. record (rows_of s) { holds = rows_by-amended code_cmp hold_row nat_list_cmp_total codes_apart holds code (without_target gone) (without_target-row gone) i; targets = targets_of-gone holds code gone i }
written s (row_write.Run number run) e h = λ i. record (rows_of s) { runs = numbered_rows-put s.office.runs number run h.0 h.1 i }
written s (row_write.Entry entry) e h = λ i. record (rows_of s) { entries_by = entries-insert entry_total s.office.entries (entry.run, entry.record_no) entry i }
written s (row_write.Certificate run text) e h = λ i. record (rows_of s) { certificates = entries-insert nat_cmp_total s.office.certificates run (string_bytes text) i }
written s (row_write.Day day) e h = refl

-- ---- the writes of a change

-- each record has a status
abbrev pub EachHasStatus : State → Type 0
EachHasStatus s = length s.office.tree.statuses ≡ length s.office.tree.records

pub put_has_place : (s : State) (w : RowWrite) → CanPut s.office w → HasPlace s.office w
put_has_place s (row_write.Aggregation number aggregation) h = (h.0, h.1)
put_has_place s (row_write.Record number head status) h = (h.0, h.1)
put_has_place s (row_write.Target hold target) h = h.0
put_has_place s (row_write.Run number run) h = h
put_has_place s (row_write.Schedule code schedule) h = tt
put_has_place s (row_write.Class code class) h = tt
put_has_place s (row_write.Event number event) h = tt
put_has_place s (row_write.Hold code hold) h = tt
put_has_place s (row_write.RemoveTarget hold target) h = tt
put_has_place s (row_write.Entry entry) h = tt
put_has_place s (row_write.Certificate run text) h = tt
put_has_place s w h = absurd h

pub follow_has_place : (s : State) (w : RowWrite) → CanFollow s.office w → HasPlace s.office w
follow_has_place s (row_write.Record number head status) h = (h.0, omega (arith, h.1))
follow_has_place s (row_write.Run number run) h = (h.0, omega (arith, h.1))
follow_has_place s (row_write.Content number bytes) h = tt
follow_has_place s (row_write.DeleteContent number) h = tt
follow_has_place s (row_write.Day day) h = tt
follow_has_place s w h = absurd h

-- a tree with a record put in that is sound has a status for each record, and other writes leave both
pub put_has_status : (s : State) (w : RowWrite) → EachHasStatus s → CanPut s.office w → EachHasStatus (write w s)
put_has_status s (row_write.Record number head status) e h = h.2.statuses
put_has_status s w e h = e

pub follow_has_status : (s : State) (w : RowWrite) → EachHasStatus s → CanFollow s.office w → EachHasStatus (write w s)
follow_has_status s (row_write.Record number head status) e h = h.2.statuses
follow_has_status s w e h = e

all_followed : (s : State) (ws : List RowWrite) → EachHasStatus s → AllFollow s.office ws → rows_of (all_writes ws s) ≡ all_row_writes ws (rows_of s)
all_followed s [] e h = refl
all_followed s (w ∷ ws) e h = all_followed (write w s) ws (follow_has_status s w e h.0) h.1 ∙ ap (all_row_writes ws) (written s w e (follow_has_place s w h.0))

-- and the writes that the machine can do, one after another
pub all_written : (s : State) (ws : List RowWrite) → length s.office.tree.statuses ≡ length s.office.tree.records → CanWrite s.office ws → rows_of (all_writes ws s) ≡ all_row_writes ws (rows_of s)
all_written s [] e h = refl
all_written s (w ∷ ws) e h = all_followed (write w s) ws (put_has_status s w e h.0) h.1 ∙ ap (all_row_writes ws) (written s w e (put_has_place s w h.0))
