-- The writes of a change, done to tables that represent the rows of a state, make them represent those of the next.
use Rattle.std.proofs.Common.{◌≡◌, ◌+◌, ℕ, zero, suc, true, List, [], ◌∷◌, length, Option, Some, None, refl, sym, ap, subst, ◌∙◌, arith}
use Rattle.std.specs.FinMap.{get}
use Rattle.std.specs.Prelude.{slice_get}
use Rattle.sqlite.specs.Effect.{Database}
use Rattle.office_records.specs.Lists.{is_some_and, numbered}
use Rattle.office_records.specs.declared.head.Record.{Record}
use Rattle.office_records.specs.declared.status.Status.{Status}
use Rattle.office_rules.specs.Holds.{HoldMap, HoldState, has_target}
use Rattle.office_rules.specs.SoundHolds.{TargetsAreThere}
use Rattle.office_records.specs.declared.target.Target.{Target}
use Rattle.office_records.specs.declared.target.Target.TheVariants as target
use Rattle.office_rules.specs.declared.entry.Entry.{Entry}
use Rattle.office_rules.specs.Acts.{CanBeMade}
use Rattle.office_rules.specs.Rows.{record_row, record_rows, rows_of, targets_of}
use Rattle.office_rules.specs.Sound.{IsSound}
use Rattle.office_rules.specs.State.{EntryMap, Office, State}
use Rattle.office_rules.specs.Writes.{AllFollow, CanFollow, CanWrite, HasPlace, RefIsFree, RefsAreFree, all_writes, write}
use Rattle.office_rules.specs.declared.change.Change.{Change}
use Rattle.office_rules.specs.declared.rows.RecordRow.{RecordRow}
use Rattle.office_rules.specs.declared.rows.RowWrite.{RowWrite}
use Rattle.office_rules.specs.declared.rows.RowWrite.TheVariants as row_write
use Rattle.office_rules.proofs.FreeRefs.{refs_free}
use Rattle.office_rules.proofs.RowWrites.{EachHasStatus, follow_has_place, follow_has_status, put_has_place, put_has_status, written}
use Rattle.office_rules.proofs.SoundMaps.{entry_total}
use Rattle.office_store.specs.Written.{AreWritten, IsWritten}
use Rattle.office_store.specs.RepresentsRows.{RepresentsRows}
use Rattle.office_store.proofs.RowsInOrder.{in_entries, in_numbered, rows_in_order}
use Rattle.office_store.proofs.TargetRows.{IsShortTarget}
use Rattle.office_store.proofs.WrittenRows.{FitsRows, row_written}

-- the numbers of all targets have texts of their own
abbrev pub HaveShortTargets : HoldMap → Type 0
HaveShortTargets holds = (code : List ℕ) (t : Target) → targets_of holds code t ≡ true → IsShortTarget t

-- each entry is under its own run and record
abbrev pub HaveOwnKeys : EntryMap → Type 0
HaveOwnKeys entries = (key : ℕ × ℕ) (e : Entry) → get entries key ≡ Some e → key ≡ (e.run, e.record_no)

-- what a write of a target or of an entry asks of those that there are
abbrev pub FitsTable : Office → RowWrite → Type 0
FitsTable s (row_write.Target hold target) = HaveShortTargets s.holds
FitsTable s (row_write.RemoveTarget hold target) = HaveShortTargets s.holds
FitsTable s (row_write.Entry entry) = HaveOwnKeys s.entries
FitsTable s _ = Unit {0}

-- the head of a record's row, among heads with their statuses
head_of : (heads : List Record) (statuses : List Status) (i : ℕ) (row : RecordRow) → slice_get (record_rows heads statuses) i ≡ Some row → (head : Record) × (slice_get heads i ≡ Some head) × (head.ref_text ≡ row.ref_text)
head_of [] statuses i row e = absurd cc
head_of (h ∷ hs) [] i row e = absurd cc
head_of (h ∷ hs) (s ∷ ss) zero row e = let same : record_row h s ≡ row = cc in (h, refl, ap (λ (r : RecordRow). r.ref_text) same)
head_of (h ∷ hs) (s ∷ ss) (suc i) row e = head_of hs ss i row e

pub numbered_at : {A : Type 0} (xs : List A) (n i : ℕ) (x : A) → n ≡ suc (zero + i) → slice_get xs i ≡ Some x → numbered xs n ≡ Some x
numbered_at xs n i x e there = let same : n ≡ suc i = omega arith in ap (numbered xs) same ∙ there

fits_rows : (s : State) (w : RowWrite) → RefIsFree s.office w → FitsTable s.office w → FitsRows (rows_of s) w
unfolding rows_of
fits_rows s (row_write.Aggregation number it) free fits = λ e within same.
    let found = in_numbered 0 s.office.tree.aggregations e within in
    free e.0 e.1 (numbered_at s.office.tree.aggregations e.0 found.0 e.1 found.1 found.2) same
fits_rows s (row_write.Record number head status) free fits = λ e within same.
    let found = in_numbered 0 (record_rows s.office.tree.records s.office.tree.statuses) e within in
    let of = head_of s.office.tree.records s.office.tree.statuses found.0 e.1 found.2 in
    free e.0 of.0 (numbered_at s.office.tree.records e.0 found.0 of.0 found.1 of.1) (of.2 ∙ same)
fits_rows s (row_write.Target hold target) free fits = fits
fits_rows s (row_write.RemoveTarget hold target) free fits = fits
fits_rows s (row_write.Entry entry) free fits = λ e within. fits e.0 e.1 (in_entries entry_total s.office.entries e within)
fits_rows s (row_write.Schedule code schedule) free fits = tt
fits_rows s (row_write.Class code class) free fits = tt
fits_rows s (row_write.Event number event) free fits = tt
fits_rows s (row_write.Content number bytes) free fits = tt
fits_rows s (row_write.DeleteContent number) free fits = tt
fits_rows s (row_write.Hold code hold) free fits = tt
fits_rows s (row_write.Run number run) free fits = tt
fits_rows s (row_write.Certificate run text) free fits = tt
fits_rows s (row_write.Day day) free fits = tt

pub represents_written : (s : State) (w : RowWrite) (old new : Database) → length s.office.tree.statuses ≡ length s.office.tree.records → HasPlace s.office w → RefIsFree s.office w → FitsTable s.office w
    → RepresentsRows (rows_of s) old.trees → IsWritten w old new → RepresentsRows (rows_of (write w s)) new.trees
represents_written s w old new e place free fits represents did =
    subst (λ t. RepresentsRows t new.trees) (sym (written s w e place)) (row_written (rows_of s) w old new (rows_in_order s) (fits_rows s w free fits) represents did)

-- ---- the writes of a change

follow_fits : (s : State) (w : RowWrite) → CanFollow s.office w → FitsTable s.office w
follow_fits s (row_write.Record number head status) h = tt
follow_fits s (row_write.Run number run) h = tt
follow_fits s (row_write.Content number bytes) h = tt
follow_fits s (row_write.DeleteContent number) h = tt
follow_fits s (row_write.Day day) h = tt
follow_fits s w h = absurd h

put_fits : (s : Office) (w : RowWrite) → HaveShortTargets s.holds → HaveOwnKeys s.entries → FitsTable s w
put_fits s (row_write.Target hold target) short own = short
put_fits s (row_write.RemoveTarget hold target) short own = short
put_fits s (row_write.Entry entry) short own = own
put_fits s w short own = tt

represents_followed : (s : State) (ws : List RowWrite) (old new : Database) → EachHasStatus s → AllFollow s.office ws → RefsAreFree s.office ws → RepresentsRows (rows_of s) old.trees → AreWritten ws old new → RepresentsRows (rows_of (all_writes ws s)) new.trees
represents_followed s [] old new e follow free represents did = subst (λ (db : Database). RepresentsRows (rows_of s) db.trees) (sym did) represents
represents_followed s (w ∷ ws) old new e follow free represents did =
    let now = represents_written s w old did.0 e (follow_has_place s w follow.0) free.0 (follow_fits s w follow.0) represents did.1 in
    represents_followed (write w s) ws did.0 new (follow_has_status s w e follow.0) follow.1 free.1 now did.2

pub represents_all_written : (s : State) (ws : List RowWrite) (old new : Database) → length s.office.tree.statuses ≡ length s.office.tree.records → CanWrite s.office ws → RefsAreFree s.office ws → HaveShortTargets s.office.holds → HaveOwnKeys s.office.entries
    → RepresentsRows (rows_of s) old.trees → AreWritten ws old new → RepresentsRows (rows_of (all_writes ws s)) new.trees
represents_all_written s [] old new e can free short own represents did = subst (λ (db : Database). RepresentsRows (rows_of s) db.trees) (sym did) represents
represents_all_written s (w ∷ ws) old new e can free short own represents did =
    let now = represents_written s w old did.0 e (put_has_place s w can.0) free.0 (put_fits s.office w short own) represents did.1 in
    represents_followed (write w s) ws did.0 new (put_has_status s w e can.0) can.1 free.1 now did.2

-- ---- of a sound state

pub there_is_hold : (o : Option HoldState) (t : Target) → is_some_and o (λ hold. has_target hold t) ≡ true → (hold : HoldState) × (o ≡ Some hold) × (has_target hold t ≡ true)
there_is_hold None t h = absurd cc
there_is_hold (Some hold) t h = (hold, refl, h)

short_if_there : (hold : HoldState) (t : Target) (s : State) → IsSound s → TargetsAreThere s.office.tree.classes (length s.office.tree.aggregations) (length s.office.tree.records) hold → has_target hold t ≡ true → IsShortTarget t
short_if_there hold (target.Class code) s sound there h = tt
short_if_there hold (target.Aggregation a) s sound there h = omega (arith, (there.aggregation_targets a h).1, sound.limits.tree_few.aggregations_few)
short_if_there hold (target.Record r) s sound there h = omega (arith, (there.record_targets r h).1, sound.limits.tree_few.records_few)

pub short_targets : (s : State) → IsSound s → HaveShortTargets s.office.holds
short_targets s sound code t h =
    let found = there_is_hold (get s.office.holds code) t h in
    short_if_there found.0 t s sound (sound.names.of_holds code found.0 found.1) found.2

own_keys : (s : State) → IsSound s → HaveOwnKeys s.office.entries
own_keys s sound key e there = let is = sound.entries.keyed key.0 key.1 e there in λ i. (sym is.0 i, sym is.1 i)

pub saved_rows : (s : State) (change : Change) (old new : Database) → IsSound s → CanBeMade s.office change → RepresentsRows (rows_of s) old.trees → AreWritten change.writes.items old new → RepresentsRows (rows_of (all_writes change.writes.items s)) new.trees
unfolding CanBeMade
saved_rows s change old new sound made represents did =
    represents_all_written s change.writes.items old new sound.limits.statuses made.0 (refs_free s.office change made) (short_targets s sound) (own_keys s sound) represents did
