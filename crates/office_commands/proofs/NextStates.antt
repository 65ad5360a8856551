-- At which state a command leaves an office, whatever a crash leaves of it.
use Rattle.std.proofs.Common.{◌≡◌, ◌⊎◌, inl, inr, ℕ, ℤ, zero, suc, ◌+◌, List, [], ◌∷◌, length, take, Option, Some, Result, Ok, Err, refl, sym, ap, subst, ◌∙◌, arith}
use Rattle.std.specs.Prelude.{option_map}
use Rattle.csv.specs.Reading.{strip_bom}
use Rattle.sqlite_trees.specs.Tree.{Trees}
use Rattle.sqlite.specs.Held.{Held, state}
use Rattle.sqlite_trees.specs.declared.store.Store.{Ghosts}
use Rattle.sqlite.specs.State.{State as FileState, HasCleanDisk}
use Rattle.office_base.specs.declared.refusal.Refusal.{Refusal}
use Rattle.office_base.specs.declared.refusal.Refusal.TheVariants as refused
use Rattle.office_rules.specs.Acts.{after as after_acts, answers, step}
use Rattle.office_rules.specs.Forms.{AreWellFormed, IsWellFormedAct}
use Rattle.office_rules.specs.Rows.{rows_of}
use Rattle.office_rules.specs.Runs.{after_steps, candidates, open_run, whole}
use Rattle.office_rules.specs.Sound.{IsSound}
use Rattle.office_rules.specs.State.{Office, State}
use Rattle.office_rules.specs.declared.act.Act.{Act}
use Rattle.office_rules.specs.declared.act.Act.TheVariants as act
use Rattle.office_rules.specs.declared.answer.Answer.{Answer}
use Rattle.office_sql.specs.declared.schema_versions.SchemaVersion.{SchemaVersion}
use Rattle.office_sql.specs.declared.schema_versions.SchemaVersion.TheVariants as schema_version
use Rattle.office_sql.specs.Office.{IsAtRestOver, IsOfficeIn}
use Rattle.office_store.specs.RepresentsRows.{ContainsRows, RepresentsRows, RepresentsRowsIn}
use Rattle.office_store.specs.declared.fault.Fault.{Fault}
use Rattle.office_store.specs.declared.fault.Fault.TheVariants as fault
use Rattle.office_desk.specs.Leaving.{LeavesStep, StopsLeaving}
use Rattle.office_desk.specs.Opening.{RepresentIn}
use Rattle.office_desk.specs.Outcomes.{ActsCameTo, ActsOutcome, all_done, answers_of, stopped}
use Rattle.office_desk.specs.Resumptions.{RunLeft, RunOutcome, none_open, run_closed, run_stopped}
use Rattle.office_desk.proofs.RunSteps.{step_run}
use Rattle.office_json.specs.Answers.{answer_lines}
use Rattle.office_json.specs.Lists.{acts_in}
use Rattle.office_csv.specs.ImportRows.{Fields, parsed_row}
use Rattle.office_wire.specs.Importing.{AreAllRows, AreRowsDone, FitsText, ImportCameTo, ImportEnd, ImportOutcome, IsAnsweredBy, all_rows, bad_row, io_failed, import_result, no_header, out_of_memory, result_by, row_stopped}
use Rattle.office_command_line.specs.Orders as command
use Rattle.office_command_line.specs.Orders.{Command}
use Rattle.office_command_line.specs.declared.register.Register.{Register}
use Rattle.office_command_line.specs.declared.register.Register.TheVariants as register
use Rattle.office_commands.specs.Applying.{Applies, IsUnread, Performs}
use Rattle.office_commands.specs.Certifying.{CertificateEnds, Certifies}
use Rattle.office_commands.specs.Exporting.{ExportEnds, Exports}
use Rattle.office_wire.specs.declared.record_import.ImportStop.{ImportStop}
use Rattle.office_commands.specs.Importing.{AreImported, ImportLeaves, ImportsAt, IsRowCut, exit_of_import}
use Rattle.office_life.specs.Life.{AreDoneAt}
use Rattle.office_life.specs.Opening.{StopsOffice}
use Rattle.office_life.specs.Tables.{IsOfficeAt}
use Rattle.office_commands.specs.NextCommand.{AreActsDone, AreRowsAdded, IsAfterActs, IsFaultAlone, IsLeftBy, IsNotApplied, IsRunResumed, IsUntouched, IsVersionReported, LeavesAt, ReadsAt, SaysAll}
use Rattle.office_commands.specs.Calling.{Reports}
use Rattle.office_commands.specs.ExitStatuses.{exit_of_acts}
use Rattle.office_commands.specs.Opening.{EndsOpenFailed, IsOpened, OfficeOpenFailed, RepresentSome, WasFound, WasOpened}
use Rattle.office_commands.specs.Resuming.{IsRunReported, ResumeEnds, certificate_line}
use Rattle.office_commands.specs.Making.{InitEnds}
use Rattle.office_commands.specs.Running.{RunEnds}
use Rattle.office_commands.specs.declared.exit.Exit.{Exit}
use Rattle.office_commands.specs.declared.exit.Exit.TheVariants as how
use Rattle.office_commands.proofs.Unopened.{stops_there}

-- ---- what the laws say

abbrev pub IsOneDatabase : Type 0
IsOneDatabase = (ed : SchemaVersion) (s u : State) (db : Trees) → IsSound s → IsSound u → RepresentsRowsIn ed (rows_of s) db → RepresentsRowsIn ed (rows_of u) db → s ≡ u

abbrev pub StaySound : Type 0
StaySound = (s : State) (a : Act) → IsSound s → IsWellFormedAct a → IsSound (step s a).1

abbrev pub IsEnded : Type 0
IsEnded = (s : State) (run : ℕ) → open_run s.office ≡ Some run → after_steps s (suc (length (candidates s.office run))) ≡ whole s run

-- ---- exits that do not say that all was answered

fault_not_all : (f : Fault) (exit : Exit) → exit ≡ how.Fault f → SaysAll exit → ⊥
fault_not_all f exit is (inl done) = let other : how.Fault f ≡ how.Done = sym is ∙ done in cc
fault_not_all f exit is (inr some) = let other : how.Fault f ≡ how.SomeRefused = sym is ∙ some in cc

file_not_all : (exit : Exit) → exit ≡ how.File → SaysAll exit → ⊥
file_not_all exit is (inl done) = let other : how.File ≡ how.Done = sym is ∙ done in cc
file_not_all exit is (inr some) = let other : how.File ≡ how.SomeRefused = sym is ∙ some in cc

header_not_all : (exit : Exit) → exit ≡ how.CsvHeader → SaysAll exit → ⊥
header_not_all exit is (inl done) = let other : how.CsvHeader ≡ how.Done = sym is ∙ done in cc
header_not_all exit is (inr some) = let other : how.CsvHeader ≡ how.SomeRefused = sym is ∙ some in cc

row_not_all : (number : ℕ) (exit : Exit) → exit ≡ how.CsvRow number → SaysAll exit → ⊥
row_not_all number exit is (inl done) = let other : how.CsvRow number ≡ how.Done = sym is ∙ done in cc
row_not_all number exit is (inr some) = let other : how.CsvRow number ≡ how.SomeRefused = sym is ∙ some in cc

-- a report that is written whole, or that the writer cut short, is no fault
done_not_fault : (f : Fault) (lines : List ℕ) (written after : Option (List ℕ)) (exit : Exit) → Reports lines how.Done written after exit → exit ≡ how.Fault f → ⊥
done_not_fault f lines written after exit (inl all) is = let other : how.Done ≡ how.Fault f = sym all.1 ∙ is in cc
done_not_fault f lines written after exit (inr some) is = let other : how.File ≡ how.Fault f = sym some.1 ∙ is in cc

-- acts that a fault stopped
stopped_not_all : (replies : List Answer) (f : Fault) (lines : List ℕ) (written after : Option (List ℕ)) (exit : Exit) → Reports lines (exit_of_acts (stopped replies f)) written after exit → SaysAll exit → ⊥
stopped_not_all replies f lines written after exit (inl all) = fault_not_all f exit all.1
stopped_not_all replies f lines written after exit (inr some) = file_not_all exit some.1

-- ---- a resumption that a fault stopped

one_more : (n : ℕ) → suc n ≡ n + 1
one_more n = omega arith

-- if memory ran out, the run is open
memory_leaves_open : (s : State) (f : Fault) (n k : ℕ) (exit : Exit) → LeavesStep s f n → AreDoneAt f n k → exit ≡ how.Fault f → exit ≡ how.Fault fault.Memory → open_run (after_steps s k).office ≡ open_run s.office
memory_leaves_open s fault.Memory n k exit left done reported says = ap (λ (m : ℕ). open_run (after_steps s m).office) done ∙ left.still_open
memory_leaves_open s fault.Store n k exit left done reported says = let other : how.Fault fault.Store ≡ how.Fault fault.Memory = sym reported ∙ says in absurd cc
memory_leaves_open s fault.Reopen n k exit left done reported says = let other : how.Fault fault.Reopen ≡ how.Fault fault.Memory = sym reported ∙ says in absurd cc
memory_leaves_open s fault.Damaged n k exit left done reported says = absurd done
memory_leaves_open s fault.Version n k exit left done reported says = absurd done

-- ---- states stay sound

pub well_formed_prefix : (n : ℕ) (acts : List Act) → AreWellFormed acts → AreWellFormed (take n acts)
well_formed_prefix zero acts all = tt
well_formed_prefix (suc n) [] all = tt
well_formed_prefix (suc n) (a ∷ acts) (is, all) = (is, well_formed_prefix n acts all)

module _ (stay : StaySound) where
  pub sound_acts : (acts : List Act) (s : State) → IsSound s → AreWellFormed acts → IsSound (after_acts s acts)
  sound_acts [] s sound formed = sound
  sound_acts (a ∷ acts) s sound (is, rest) = sound_acts acts (step s a).1 (stay s a sound is) rest

  pub sound_steps : (n : ℕ) (s : State) → IsSound s → IsSound (after_steps s n)
  sound_steps zero s sound = sound
  sound_steps (suc n) s sound = sound_steps n _ (subst IsSound (step_run s) (stay s act.RunStep sound tt))

  sound_row : (s t : State) (answer : Answer) (x : Result Act Refusal) → IsAnsweredBy s x answer t → IsSound s → IsSound t
  sound_row s t answer (Ok a) (formed, reported, is) sound = subst IsSound (sym is) (stay s a sound formed)
  sound_row s t answer (Err why) (reported, is) sound = subst IsSound (sym is) sound

  sound_rows : (day : ℤ) (s t : State) (rows : List Fields) (answers : List Answer) → AreRowsDone day s rows answers t → IsSound s → IsSound t
  sound_rows day s t [] answers (none, is) sound = subst IsSound (sym is) sound
  sound_rows day s t (row ∷ rows) answers (answer, rest, m, reported, one, all) sound = sound_rows day m t rows rest all (sound_row s m answer (parsed_row day row) one sound)

-- ---- what a crash leaves

-- tables that are those of a state alone
pub at_rows : (new : FileState) (u : State) → IsSound u → ContainsRows (rows_of u) new → (db : Trees) → new.may_leave db → IsOfficeAt db u
at_rows new u sound holds db may =
    let is = sym (holds.rest.only db may) in
    record {
      schema_version = schema_version.Two;
      office = subst (λ (t : Trees). IsOfficeIn schema_version.Two t) is (new.now.schema, holds.rest.office);
      sound = sound;
      rows = subst (λ (t : Trees). RepresentsRows (rows_of u) t) is holds.represents;
    }

-- or those of one of two states, by the fault
pub at_stop : (new : FileState) (v w : State) (f : Fault) → IsSound v → IsSound w → StopsLeaving v w f new → (db : Trees) → new.may_leave db → IsOfficeAt db v ⊎ IsOfficeAt db w
at_stop new v w fault.Memory sv sw left db may = inl (at_rows new v sv left db may)
at_stop new v w fault.Store sv sw left db may = elim (left.either db may) [
  | inl old ↦ inl (record { schema_version = schema_version.Two; office = left.offices db may; sound = sv; rows = old })
  | inr next ↦ inr (record { schema_version = schema_version.Two; office = left.offices db may; sound = sw; rows = next })
]
at_stop new v w fault.Reopen sv sw left db may = inr (at_rows new w sw left db may)
at_stop new v w fault.Damaged sv sw left db may = absurd left
at_stop new v w fault.Version sv sw left db may = absurd left

module _ (one : IsOneDatabase) (stay : StaySound) (ends : IsEnded) (old new : FileState) (s : State) (clean : HasCleanDisk new) (sound : IsSound s) where
  -- the state at which the office was found is the one at which it was
  found_same : (ed : SchemaVersion) (t : State) → RepresentsRowsIn ed (rows_of s) old.now.trees → RepresentIn ed old.now.trees t → t ≡ s
  found_same ed t rows found = one ed t s old.now.trees found.sound sound found.rows rows

  pub was_found : (ed : SchemaVersion) → IsAtRestOver ed old → RepresentsRowsIn ed (rows_of s) old.now.trees → WasFound old new s
  was_found ed rest rows = (clean, inr (ed, rest, sound, rows))

  -- what was there before
  pub at_before : (ed : SchemaVersion) → IsAtRestOver ed old → RepresentsRowsIn ed (rows_of s) old.now.trees → (db : Trees) → old.may_leave db → IsOfficeAt db s
  at_before ed rest rows db may =
      let is = sym (rest.only db may) in
      record {
        schema_version = ed;
        office = subst (λ (t : Trees). IsOfficeIn ed t) is (old.now.schema, rest.office);
        sound = sound;
        rows = subst (λ (t : Trees). RepresentsRowsIn ed (rows_of s) t) is rows;
      }

  pub at_unopened : (ed : SchemaVersion) (f : Fault) → IsAtRestOver ed old → RepresentsRowsIn ed (rows_of s) old.now.trees → OfficeOpenFailed f old new → (db : Trees) → new.may_leave db → IsOfficeAt db s
  at_unopened schema_version.One f rest rows it db may = elim (((it.left clean).office schema_version.One rest).leaves db may) [
    | inl before ↦ at_before schema_version.One rest rows db before
    | inr next ↦ record { schema_version = schema_version.Two; office = next.3; sound = sound; rows = subst (λ (t : State). RepresentsRows (rows_of t) db) (found_same schema_version.One next.0 rows next.1) next.2 }
  ]
  at_unopened schema_version.Two f rest rows it db may = at_before schema_version.Two rest rows db (((it.left clean).office schema_version.Two rest).leaves db may)

-- where an office that was opened so may be left, whatever the tables are that count as being at a state
module _ (stay : StaySound) (ends : IsEnded) (At : Trees → State → Type 0) (office : (db : Trees) (u : State) → IsOfficeAt db u → At db u) (old new : FileState) (s : State) (sound : IsSound s)
    (was : WasFound old new s) (at_unopened : (f : Fault) → OfficeOpenFailed f old new → (db : Trees) → new.may_leave db → At db s)
    (stops : (f : Fault) → OfficeOpenFailed f old new → StopsOffice s f) where
  abbrev LeavesSo : (State → Type 0) → Type 0
  LeavesSo Is = (db : Trees) → new.may_leave db → (u : State) × Is u × At db u

  has_rows : (u : State) → IsSound u → ContainsRows (rows_of u) new → (db : Trees) → new.may_leave db → At db u
  has_rows u sound_u holds db may = office db u (at_rows new u sound_u holds db may)

  has_stopped : (v w : State) (f : Fault) → IsSound v → IsSound w → StopsLeaving v w f new → (db : Trees) → new.may_leave db → At db v ⊎ At db w
  has_stopped v w f sv sw left db may = elim (at_stop new v w f sv sw left db may) [ inl here ↦ inl (office db v here) | inr next ↦ inr (office db w next) ]

  untouched : (Is : State → Type 0) (written after : Option (List ℕ)) → (IsUntouched written after s s → Is s) → after ≡ written → ((db : Trees) → new.may_leave db → At db s) → LeavesSo Is
  untouched Is written after is same at db may = (s, is (refl, same), at db may)

  -- only a fault was reported
  fault_left : (Is : State → Type 0) (written after : Option (List ℕ)) (exit : Exit) → (IsFaultAlone written after exit s s → Is s) → EndsOpenFailed old new written after exit → LeavesSo Is
  fault_left Is written after exit is none db may =
      (s, is (record { fault = none.0; reported = none.1; stops = stops none.0 none.2; untouched = (refl, none.3) }), at_unopened none.0 none.2 db may)

  -- the office was opened and left at its state, and something was reported of it
  reads_left : (Is : Type 0) (written after : Option (List ℕ)) (exit : Exit) → Is → (o : Office) → IsOpened old new o → LeavesSo (ReadsAt Is written after exit s)
  reads_left Is written after exit is o opened db may = (s, inr (is, refl), has_rows s sound (opened.rows s was) db may)

  -- ---- init

  init_left : (written after : Option (List ℕ)) (exit : Exit) → InitEnds old new written after exit → LeavesSo (ReadsAt (IsVersionReported written after exit) written after exit s)
  init_left written after exit (inl none) = fault_left (ReadsAt (IsVersionReported written after exit) written after exit s) written after exit (λ alone. inl alone) none
  init_left written after exit (inr (o, opened, reported)) = reads_left (IsVersionReported written after exit) written after exit reported o opened

  -- ---- the readings

  export_left : (it : Register) (written after : Option (List ℕ)) (exit : Exit) → ExportEnds it old new written after exit → LeavesSo (ReadsAt (Exports s.office it written after exit) written after exit s)
  export_left it written after exit (inl none) = fault_left (ReadsAt (Exports s.office it written after exit) written after exit s) written after exit (λ alone. inl alone) none
  export_left it written after exit (inr (o, opened, done)) =
      reads_left (Exports s.office it written after exit) written after exit (subst (λ (x : Office). Exports x it written after exit) (sym (opened.is s was)) done) o opened

  certificate_left : (run : ℕ) (written after : Option (List ℕ)) (exit : Exit) → CertificateEnds run old new written after exit → LeavesSo (ReadsAt (Certifies s.office run written after exit) written after exit s)
  certificate_left run written after exit (inl none) = fault_left (ReadsAt (Certifies s.office run written after exit) written after exit s) written after exit (λ alone. inl alone) none
  certificate_left run written after exit (inr (o, opened, done)) =
      reads_left (Certifies s.office run written after exit) written after exit (subst (λ (x : Office). Certifies x run written after exit) (sym (opened.is s was)) done) o opened

  -- ---- apply

  module _ (text : List ℕ) (written after : Option (List ℕ)) where
    abbrev ActsLeft : Exit → State → Type 0
    ActsLeft exit u = IsUntouched written after s u × IsNotApplied s text exit ⊎ AreActsDone text written after exit s u

    module _ (acts : List Act) (read : acts_in text ≡ Ok acts) where
      came_left : (exit : Exit) (o : ActsOutcome) → ActsCameTo s acts o new → Reports (answer_lines (answers_of o)) (exit_of_acts o) written after exit → LeavesSo (ActsLeft exit)
      came_left exit (all_done replies) it so db may = (
        after_acts s acts,
        inr (record { acts = acts; read = read; formed = it.formed; outcome = all_done replies; fits = it.fits; answered = it.answered; reported = so; state = refl; all = λ says. refl }),
        has_rows (after_acts s acts) it.leaves.sound it.leaves.rows db may,
      )
      came_left exit (stopped replies f) it so db may =
          let not_all = stopped_not_all replies f (answer_lines replies) written after exit so in
          let n = length replies in
          let sound_at = λ (k : ℕ). sound_acts stay (take k acts) s sound (well_formed_prefix k acts it.formed) in
          let done : (u : State) → IsAfterActs s acts (stopped replies f) u → AreActsDone text written after exit s u = λ u is. record { acts = acts; read = read; formed = it.formed; outcome = stopped replies f; fits = it.fits; answered = it.answered; reported = so; state = is; all = λ says. absurd (not_all says) } in
          elim (has_stopped (after_acts s (take n acts)) (after_acts s (take (n + 1) acts)) f (sound_at n) (sound_at (n + 1)) it.leaves db may) [
            | inl here ↦ (after_acts s (take n acts), inr (done _ (inl refl)), here)
            | inr next ↦ (after_acts s (take (n + 1) acts), inr (done _ (inr refl)), next)
          ]

      performs_left : (exit : Exit) → Performs (WasFound old new) acts new written after exit → LeavesSo (ActsLeft exit)
      performs_left exit it = came_left exit it.outcome (it.came s was) it.reported

    not_read : (exit : Exit) → IsUnread text exit → IsNotApplied s text exit
    not_read exit (inl why) = inr (inr why)
    not_read exit (inr is) = inl (fault.Memory, is, tt)

    applies_left : (exit : Exit) → EndsOpenFailed old new written after exit ⊎ WasOpened old new × Applies (WasFound old new) text new written after exit → LeavesSo (ActsLeft exit)
    applies_left exit (inl none) = fault_left (ActsLeft exit) written after exit (λ alone. inl (alone.untouched, inl (alone.fault, alone.reported, alone.stops))) none
    applies_left exit (inr (opened, inl none)) = untouched (ActsLeft exit) written after (λ same. inl (same, not_read exit none.why)) none.silent (has_rows s sound (none.rows s was))
    applies_left exit (inr (opened, inr it)) = performs_left it.0 it.1 exit it.2

  -- ---- import

  module _ (day : ℤ) (text written after : Option (List ℕ)) where
    abbrev RowsLeft : Exit → State → Type 0
    RowsLeft exit u = IsFaultAlone written after exit s u ⊎ AreRowsAdded day text written after exit s u

    -- all rows of the text, if the exit says so
    all_by : (rows : List Fields) (reported : List Answer) (why : ImportEnd) (exit : Exit) → exit ≡ exit_of_import (result_by rows reported why) → SaysAll exit → FitsText text rows why → AreAllRows text rows
    all_by rows reported all_rows exit is says fits = fits
    all_by rows reported no_header exit is says fits = absurd (header_not_all exit is says)
    all_by rows reported bad_row exit is says fits = absurd (row_not_all (length rows + 1) exit is says)
    all_by rows reported out_of_memory exit is says fits = absurd (fault_not_all fault.Memory exit is says)
    all_by rows reported (row_stopped row f) exit is says fits = absurd (fault_not_all f exit is says)
    all_by rows reported io_failed exit is says fits = absurd (file_not_all exit is says)

    -- rows were added, and no more
    added : (exit : Exit) (o : ImportOutcome) (u : State) → exit ≡ exit_of_import (import_result o) → ImportCameTo day s text o u written after → ContainsRows (rows_of u) new → LeavesSo (RowsLeft exit)
    added exit o u is came holds db may = (
      u,
      inr (record {
        outcome = o;
        reached = u;
        came = came;
        reported = is;
        state = inl refl;
        all = λ says. (all_by o.rows o.answers o.why exit is says came.fits, refl);
      }),
      has_rows u (sound_rows stay day s u o.rows o.answers came.done sound) holds db may,
    )

    cut_row : (exit : Exit) (rows : List Fields) (replies : List Answer) (u : State) (row : Fields) (f : Fault) → exit ≡ how.Fault f → ImportCameTo day s text (record { rows = rows; answers = replies; why = row_stopped row f }) u written after → IsRowCut day u row f new → LeavesSo (RowsLeft exit)
    cut_row exit rows replies u row f is came (inl it) db may = added exit (record { rows = rows; answers = replies; why = row_stopped row f }) u is came it.1 db may
    cut_row exit rows replies u row f is came (inr (a, asks, formed, left)) db may =
        let sound_u = sound_rows stay day s u rows replies came.done sound in
        let o : ImportOutcome = record { rows = rows; answers = replies; why = row_stopped row f } in
        elim (has_stopped u (step u a).1 f sound_u (stay u a sound_u formed) left db may) [
          | inl here ↦ (u, inr (record { outcome = o; reached = u; came = came; reported = is; state = inl refl; all = λ says. absurd (fault_not_all f exit is says) }), here)
          | inr next ↦ (
            (step u a).1,
            inr (record {
              outcome = o;
              reached = u;
              came = came;
              reported = is;
              state = inr ((step u a).0, (rw asks (formed, refl, refl)));
              all = λ says. absurd (fault_not_all f exit is says);
            }),
            next,
          )
        ]

    left_by : (exit : Exit) (rows : List Fields) (replies : List Answer) (why : ImportEnd) (u : State) → exit ≡ exit_of_import (result_by rows replies why) → ImportCameTo day s text (record { rows = rows; answers = replies; why = why }) u written after → ImportLeaves day u why new → LeavesSo (RowsLeft exit)
    left_by exit rows replies (row_stopped row f) u is came leaves = cut_row exit rows replies u row f is came leaves
    left_by exit rows replies why u is came leaves = added exit (record { rows = rows; answers = replies; why = why }) u is came leaves

    imports_left : (exit : Exit) (done : Result ℕ ImportStop) → exit ≡ exit_of_import done → AreImported day text done new written after s → LeavesSo (RowsLeft exit)
    imports_left exit done is (o, u, gives, came, leaves) = left_by exit o.rows o.answers o.why u (is ∙ ap exit_of_import gives) came leaves

    import_left : (exit : Exit) → EndsOpenFailed old new written after exit ⊎ RepresentSome old new × ImportsAt (WasFound old new) day text new written after exit → LeavesSo (RowsLeft exit)
    import_left exit (inl none) = fault_left (RowsLeft exit) written after exit (λ alone. inl alone) none
    import_left exit (inr (found, (done, is, it))) = imports_left exit done is (it s was)

  -- ---- resume

  -- the steps that are done after a fault, by how many were taken before
  stopped_steps : (n : ℕ) (f : Fault) → StopsLeaving (after_steps s n) (after_steps s (suc n)) f new → (db : Trees) → new.may_leave db → (k : ℕ) × AreDoneAt f n k × At db (after_steps s k)
  stopped_steps n fault.Memory left db may = (n, refl, has_rows (after_steps s n) (sound_steps stay n s sound) left db may)
  stopped_steps n fault.Store left db may = elim (has_stopped (after_steps s n) (after_steps s (suc n)) fault.Store (sound_steps stay n s sound) (sound_steps stay (suc n) s sound) left db may) [
    | inl here ↦ (n, inl refl, here)
    | inr next ↦ (suc n, inr (one_more n), next)
  ]
  stopped_steps n fault.Reopen left db may = (suc n, one_more n, has_rows (after_steps s (suc n)) (sound_steps stay (suc n) s sound) left db may)
  stopped_steps n fault.Damaged left db may = absurd left
  stopped_steps n fault.Version left db may = absurd left

  module _ (written after : Option (List ℕ)) (exit : Exit) where
    abbrev RunLeftSo : State → Type 0
    RunLeftSo u = IsFaultAlone written after exit s u ⊎ IsRunResumed written after exit s u

    whole_left : (run : ℕ) → open_run s.office ≡ Some run → IsRunReported (run_closed run) written after exit → ContainsRows (rows_of (whole s run)) new → LeavesSo RunLeftSo
    whole_left run is_open reported holds db may =
        let n = suc (length (candidates s.office run)) in
        let is : whole s run ≡ after_steps s n = sym (ends s run is_open) in (
          whole s run,
          inr (record { outcome = run_closed run; fits = is_open; reported = reported; count = n; steps = is; state = refl; still_open = λ says. absurd (done_not_fault fault.Memory (certificate_line run) written after exit reported says); closed = λ done. (run, is_open, refl) }),
          has_rows (whole s run) (subst IsSound (sym is) (sound_steps stay n s sound)) holds db may,
        )

    run_left : (o : RunOutcome) → RunLeft o new s → IsRunReported o written after exit → LeavesSo RunLeftSo
    run_left (run_closed run) at reported db may = whole_left run at.fits reported at.leaves db may
    run_left none_open at reported db may =
        let not_done : exit ≡ how.Done → ⊥ = λ done. let other : how.Refused refused.NoRun ≡ how.Done = sym reported.0 ∙ done in cc in (
          s,
          inr (record { outcome = none_open; fits = at.fits; reported = reported; count = 0; steps = refl; state = refl; still_open = λ says. refl; closed = λ done. absurd (not_done done) }),
          has_rows s sound at.leaves db may,
        )
    run_left (run_stopped f) at reported db may =
        let n = at.leaves.0 in
        let not_done : exit ≡ how.Done → ⊥ = λ done. let other : how.Fault f ≡ how.Done = sym reported.0 ∙ done in cc in
        let it = stopped_steps n f at.leaves.2 db may in (
          after_steps s it.0,
          inr (record {
            outcome = run_stopped f;
            fits = tt;
            reported = reported;
            count = it.0;
            steps = refl;
            state = (n, at.leaves.1, it.1);
            still_open = λ says. memory_leaves_open s f n it.0 exit at.leaves.1 it.1 reported.0 says;
            closed = λ done. absurd (not_done done);
          }),
          it.2,
        )

    resume_left : ResumeEnds old new written after exit → LeavesSo RunLeftSo
    resume_left (inl none) = fault_left RunLeftSo written after exit (λ alone. inl alone) none
    resume_left (inr (opened, it)) = run_left it.outcome (it.came s was) it.reported

-- ---- each command

module _ (stay : StaySound) (ends : IsEnded) (At : Trees → State → Type 0) (office : (db : Trees) (u : State) → IsOfficeAt db u → At db u) {S : Type 0} (g : Ghosts S) (old new : Held S) (s : State) (sound : IsSound s)
    (was : WasFound (state g old) (state g new) s) (before : (db : Trees) → (state g old).may_leave db → At db s)
    (at_unopened : (f : Fault) → OfficeOpenFailed f (state g old) (state g new) → (db : Trees) → (state g new).may_leave db → At db s)
    (stops : (f : Fault) → OfficeOpenFailed f (state g old) (state g new) → StopsOffice s f) where
  -- whatever a crash leaves of it is at a state of this kind
  abbrev LeftSo : (State → Type 0) → Held S → Type 0
  LeftSo Is h = (db : Trees) → (state g h).may_leave db → (u : State) × Is u × At db u

  -- where the connection is as it was
  same_held : (Is : State → Type 0) → Is s → new ≡ old → LeftSo Is new
  same_held Is is same = subst (LeftSo Is) (sym same) (λ db may. (s, is, before db may))

  no_text : (text : List ℕ) (exit : Exit) → (exit ≡ how.File) ⊎ (exit ≡ how.Fault fault.Memory) → IsNotApplied s text exit
  no_text text exit (inl is) = inr (inl is)
  no_text text exit (inr is) = inl (fault.Memory, is, tt)

  pub command_so : (order : Command) (text : List ℕ) (written after : Option (List ℕ)) (exit : Exit) → RunEnds g order (Some text) old new written after exit → LeftSo (IsLeftBy order text written after exit s) new
  command_so command.nothing text written after exit it = same_held (IsUntouched written after s) (refl, it.2) it.1
  command_so (command.due unit count offset day) text written after exit it = same_held (IsUntouched written after s) (refl, it.2) it.1
  command_so (command.plan file) text written after exit it = same_held (IsUntouched written after s) (refl, it.2) it.1
  command_so (command.serve file port count) text written after exit it = same_held (IsUntouched written after s) (refl, it.2) it.1
  command_so (command.gate file port count access token journal) text written after exit it = same_held (IsUntouched written after s) (refl, it.2) it.1
  command_so (command.init file) text written after exit it = init_left stay ends At office (state g old) (state g new) s sound was at_unopened stops written after exit it
  command_so (command.apply file acts) text written after exit (inl none) = same_held (IsLeftBy (command.apply file acts) text written after exit s) (inl ((refl, none.2), no_text text exit none.0)) none.1
  command_so (command.apply file acts) text written after exit (inr it) = applies_left stay ends At office (state g old) (state g new) s sound was at_unopened stops text written after exit it
  command_so (command.import file day csv) text written after exit it = import_left stay ends At office (state g old) (state g new) s sound was at_unopened stops day (option_map strip_bom (Some text)) written after exit it
  command_so (command.overdue file day n) text written after exit it = export_left stay ends At office (state g old) (state g new) s sound was at_unopened stops (register.Overdue day n) written after exit it
  command_so (command.export file register) text written after exit it = export_left stay ends At office (state g old) (state g new) s sound was at_unopened stops register written after exit it
  command_so (command.resume file) text written after exit it = resume_left stay ends At office (state g old) (state g new) s sound was at_unopened stops written after exit it
  command_so (command.certificate file run) text written after exit it = certificate_left stay ends At office (state g old) (state g new) s sound was at_unopened stops run written after exit it

-- over an office at rest
pub command_left : IsOneDatabase → StaySound → IsEnded → {S : Type 0} (g : Ghosts S) (old new : Held S) (s : State) → HasCleanDisk (state g new) → IsSound s → (ed : SchemaVersion) → IsAtRestOver ed (state g old) → RepresentsRowsIn ed (rows_of s) (state g old).now.trees
    → (order : Command) (text : List ℕ) (written after : Option (List ℕ)) (exit : Exit) → RunEnds g order (Some text) old new written after exit → LeavesAt (IsLeftBy order text written after exit s) (state g new)
command_left one stay ends g old new s clean sound ed rest rows order text written after exit it =
    let was = state g old in
    let is = state g new in
    command_so stay ends IsOfficeAt (λ db u at. at) g old new s sound (was_found one stay ends was is s clean sound ed rest rows) (at_before one stay ends was is s clean sound ed rest rows)
    (λ f unopened. at_unopened one stay ends was is s clean sound ed f rest rows unopened) (stops_there was is s clean ed rest sound rows) order text written after exit it
