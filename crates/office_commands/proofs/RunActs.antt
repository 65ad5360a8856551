-- The acts that runs of the program did, and the contents that they report.
use Rattle.std.proofs.Common.{◌≡◌, ◌∙◌, inl, inr, ℕ, ℤ, List, [], ◌∷◌, ◌++◌, take, length, ◌+◌, Option, Some, Result, Ok, Err, refl, sym, ap, subst, append-nil, append_assoc}
use Rattle.std.proofs.Math.Seq.{take-length}
use Rattle.std.specs.Prelude.{◌⊎◌, option_map}
use Rattle.csv.specs.Reading.{strip_bom}
use Rattle.office_base.specs.declared.refusal.Refusal.{Refusal}
use Rattle.office_access.specs.Settings.{Settings}
use Rattle.office_gate.specs.InForce.{IsInForceSince}
use Rattle.office_gate.specs.Sessions.{CameByRights, carried_out, performed, stayed as stayed_by_rights}
use Rattle.office_rules.specs.Acts.{after as after_acts}
use Rattle.office_rules.specs.Forms.{AreWellFormed}
use Rattle.office_rules.specs.Runs.{after_steps}
use Rattle.office_rules.specs.Sound.{IsSound}
use Rattle.office_rules.specs.State.{State}
use Rattle.office_rules.specs.declared.act.Act.{Act}
use Rattle.office_rules.specs.declared.answer.Answer.{Answer}
use Rattle.office_desk.specs.Fates.{AreContentsAfter}
use Rattle.office_desk.proofs.Found.{after-append}
use Rattle.office_desk.specs.Resuming.{AreRunSteps}
use Rattle.office_desk.specs.Outcomes.{ActsOutcome, all_done, stopped}
use Rattle.office_commands.proofs.NextService.{acts_lead, formed-append, well_formed_steps}
use Rattle.office_commands.proofs.NextStates.{well_formed_prefix}
use Rattle.office_desk.proofs.StepFates.{after_run, are_steps, run_steps}
use Rattle.office_csv.specs.ImportRows.{Fields, parsed_row}
use Rattle.office_json.specs.Lists.{acts_in}
use Rattle.office_wire.specs.Importing.{ArePrefixRows, AreRowsDone, FitsText, ImportEnd, IsAnsweredBy, all_rows, bad_row, io_failed, no_header, out_of_memory, row_stopped}
use Rattle.office_command_line.specs.Orders as command
use Rattle.office_command_line.specs.Orders.{Command}
use Rattle.office_commands.specs.CommandActs.{AreActsOf, AreFirstActs, AreFirstRows, act_of, acts_of_rows}
use Rattle.office_commands.specs.FileHistory.{ActsOfRuns, AreActsOfRun, IsLeftAt, ProgramRun, ReportsContents, StateHistory, led, no_run, one_run, ran_command, ran_gate, ran_service, stayed}
use Rattle.office_commands.specs.NextCommand.{AreRowsAdded, IsAfterActs, IsLeftBy, IsOneMore, IsServedTo, ReadsAt}
use Rattle.office_commands.specs.declared.exit.Exit.{Exit}

-- acts of this kind lead there
abbrev LeadsBy : (List Act → Type 0) → State → State → Type 0
LeadsBy Are s u = (done : List Act) × Are done × AreWellFormed done × (u ≡ after_acts s done)

none_to : (Are : List Act → Type 0) (s u : State) → Are [] → u ≡ s → LeadsBy Are s u
none_to Are s u none same = ([], none, tt, same)

further : (First More Both : List Act → Type 0) → ((xs ys : List Act) → First xs → More ys → Both (xs ++ ys)) → (s t u : State) → LeadsBy First s t → LeadsBy More t u → LeadsBy Both s u
further First More Both join s t u (first, are, all, is) (more, others_are, others, then) =
    (first ++ more, join first more are others_are, formed-append first more all others, then ∙ ap (λ (x : State). after_acts x more) is ∙ sym (after-append s first more))

as_kind : (Are Other : List Act → Type 0) → ((done : List Act) → Are done → Other done) → (s u : State) → LeadsBy Are s u → LeadsBy Other s u
as_kind Are Other kind s u (done, are, formed, is) = (done, kind done are, formed, is)

-- ---- the rows of an import

row_to : (s t : State) (answer : Answer) (asked : Result Act Refusal) → IsAnsweredBy s asked answer t → LeadsBy (λ done. done ≡ act_of asked) s t
row_to s t answer (Ok a) (formed, reported, is) = (a ∷ [], refl, (formed, tt), is)
row_to s t answer (Err why) (reported, is) = none_to (λ done. done ≡ []) s t refl is

rows_to : (day : ℤ) (s t : State) (rows : List Fields) (answers : List Answer) → AreRowsDone day s rows answers t → LeadsBy (λ done. done ≡ acts_of_rows day rows) s t
rows_to day s t [] answers (none, is) = none_to (λ done. done ≡ []) s t refl is
rows_to day s t (row ∷ rows) answers (answer, rest, m, reported, one, all) =
    further (λ done. done ≡ act_of (parsed_row day row)) (λ done. done ≡ acts_of_rows day rows) (λ done. done ≡ acts_of_rows day (row ∷ rows)) (λ xs ys x y. (λ i. x i ++ y i)) s m t (row_to s m answer (parsed_row day row) one) (rows_to day m t rows rest all)

-- one row more asks for its act more
one_row : (day : ℤ) (rows : List Fields) (row : Fields) → acts_of_rows day rows ++ act_of (parsed_row day row) ≡ acts_of_rows day (rows ++ row ∷ [])
one_row day [] row = sym (append-nil (act_of (parsed_row day row)))
one_row day (first ∷ rows) row =
    append_assoc (act_of (parsed_row day first)) (acts_of_rows day rows) (act_of (parsed_row day row)) ∙ ap (λ (acts : List Act). act_of (parsed_row day first) ++ acts) (one_row day rows row)

-- ---- one run

acts_to : (text : List ℕ) (s u : State) (acts : List Act) (o : ActsOutcome) → acts_in text ≡ Ok acts → AreWellFormed acts → IsAfterActs s acts o u → LeadsBy (AreFirstActs text) s u
acts_to text s u acts (all_done replies) read formed is = (acts, record { listed = acts; read = read; count = length acts; first = sym (take-length acts) }, formed, is)
acts_to text s u acts (stopped replies f) read formed (inl is) =
    (take (length replies) acts, record { listed = acts; read = read; count = length replies; first = refl }, well_formed_prefix (length replies) acts formed, is)
acts_to text s u acts (stopped replies f) read formed (inr is) =
    (take (length replies + 1) acts, record { listed = acts; read = read; count = length replies + 1; first = refl }, well_formed_prefix (length replies + 1) acts formed, is)

-- the rows of an outcome are the first of the text
begins_by : (text : Option (List ℕ)) (rows : List Fields) (why : ImportEnd) → FitsText text rows why → (more : List Fields) × ArePrefixRows text (rows ++ more)
begins_by text rows all_rows fits = ([], subst (ArePrefixRows text) (sym (append-nil rows)) (inr (fits.0, fits.1, fits.2)))
begins_by text rows no_header fits = ([], inl (append-nil rows ∙ fits.1))
begins_by text rows bad_row fits = ([], subst (ArePrefixRows text) (sym (append-nil rows)) (inr (fits.0, fits.1, fits.2)))
begins_by text rows out_of_memory fits = ([], subst (ArePrefixRows text) (sym (append-nil rows)) fits)
begins_by text rows (row_stopped row f) fits = (row ∷ [], inr fits)
begins_by text rows io_failed fits = ([], subst (ArePrefixRows text) (sym (append-nil rows)) fits)

module _ (day : ℤ) (text : Option (List ℕ)) (s t u : State) (rows : List Fields) (reached : LeadsBy (λ done. done ≡ acts_of_rows day rows) s t) where
  rows_alone : (why : ImportEnd) → FitsText text rows why → u ≡ t → LeadsBy (AreFirstRows day text) s u
  rows_alone why fits is =
      let all = as_kind (λ done. done ≡ acts_of_rows day rows) (AreFirstRows day text) (λ done same. record { rows = rows; begins = begins_by text rows why fits; asked = same }) s t reached in
      subst (LeadsBy (AreFirstRows day text) s) (sym is) all

  row_more : (why : ImportEnd) → FitsText text rows why → IsOneMore day t why u → LeadsBy (AreFirstRows day text) s u
  row_more (row_stopped row f) fits (answer, one) =
      let all = rows ++ row ∷ [] in
      let begins : (others : List Fields) × ArePrefixRows text (all ++ others) = ([], subst (ArePrefixRows text) (sym (append-nil all)) (inr fits)) in
      further (λ done. done ≡ acts_of_rows day rows) (λ done. done ≡ act_of (parsed_row day row)) (AreFirstRows day text)
      (λ xs ys x y. record { rows = all; begins = begins; asked = (λ i. x i ++ y i) ∙ one_row day rows row }) s t u reached (row_to t u answer (parsed_row day row) one)
  row_more why fits none = absurd none

imported_to : (day : ℤ) (text : Option (List ℕ)) (written after : Option (List ℕ)) (exit : Exit) (s u : State) → AreRowsAdded day text written after exit s u → LeadsBy (AreFirstRows day text) s u
imported_to day text written after exit s u it =
    let o = it.outcome in
    let reached = rows_to day s it.reached o.rows o.answers it.came.done in
    elim it.state [ inl is ↦ rows_alone day text s it.reached u o.rows reached o.why it.came.fits is | inr more ↦ row_more day text s it.reached u o.rows reached o.why it.came.fits more ]

reading_to : {Is : Type 0} (written after : Option (List ℕ)) (exit : Exit) (s u : State) → ReadsAt Is written after exit s u → LeadsBy (λ done. done ≡ []) s u
reading_to written after exit s u (inl alone) = none_to (λ done. done ≡ []) s u refl alone.untouched.0
reading_to written after exit s u (inr (is, same)) = none_to (λ done. done ≡ []) s u refl same

order_to : (order : Command) (text : List ℕ) (written after : Option (List ℕ)) (exit : Exit) (s u : State) → IsLeftBy order text written after exit s u → LeadsBy (AreActsOf order text) s u
order_to (command.apply file acts) text written after exit s u (inl (none, why)) = none_to (λ done. (done ≡ []) ⊎ AreFirstActs text done) s u (inl refl) none.0
order_to (command.apply file acts) text written after exit s u (inr it) =
    as_kind (AreFirstActs text) (λ done. (done ≡ []) ⊎ AreFirstActs text done) (λ done are. inr are) s u (acts_to text s u it.acts it.outcome it.read it.formed it.state)
order_to (command.import file day csv) text written after exit s u (inl alone) = none_to (λ done. (done ≡ []) ⊎ AreFirstRows day (option_map strip_bom (Some text)) done) s u (inl refl) alone.untouched.0
order_to (command.import file day csv) text written after exit s u (inr it) =
    let csv_text = option_map strip_bom (Some text) in
    as_kind (AreFirstRows day csv_text) (λ done. (done ≡ []) ⊎ AreFirstRows day csv_text done) (λ done are. inr are) s u (imported_to day csv_text written after exit s u it)
order_to (command.resume file) text written after exit s u (inl alone) = none_to AreRunSteps s u tt alone.untouched.0
order_to (command.resume file) text written after exit s u (inr it) = (run_steps it.count, are_steps it.count, well_formed_steps it.count, it.steps ∙ sym (after_run it.count s))
order_to (command.init file) text written after exit s u it = reading_to written after exit s u it
order_to (command.export file register) text written after exit s u it = reading_to written after exit s u it
order_to (command.overdue file day n) text written after exit s u it = reading_to written after exit s u it
order_to (command.certificate file run) text written after exit s u it = reading_to written after exit s u it
order_to (command.serve file port count) text written after exit s u none = none_to (λ done. done ≡ []) s u refl none.0
order_to (command.gate file port count access token journal) text written after exit s u none = none_to (λ done. done ≡ []) s u refl none.0
order_to (command.plan file) text written after exit s u none = none_to (λ done. done ≡ []) s u refl none.0
order_to (command.due unit count offset day) text written after exit s u none = none_to (λ done. done ≡ []) s u refl none.0
order_to command.nothing text written after exit s u none = none_to (λ done. done ≡ []) s u refl none.0

-- what was permitted are acts
by_rights : (InForce : Settings → Type 0) (s u : State) → CameByRights InForce s u → IsServedTo s u
by_rights InForce s _ (stayed_by_rights) = acts_lead.still s
by_rights InForce s _ (performed t settings today name done before in_force formed all) = acts_lead.further s t (after_acts t done) (by_rights InForce s t before) (done, formed, refl)
by_rights InForce s _ (carried_out t settings name n before in_force may) =
    acts_lead.further s t (after_steps t n) (by_rights InForce s t before) (run_steps n, well_formed_steps n, sym (after_run n t))

run_to : (run : ProgramRun) (s u : State) → IsLeftAt run s u → LeadsBy (AreActsOfRun run) s u
run_to (ran_command order text written after exit) s u it = order_to order text written after exit s u it
run_to (ran_service port count written after exit) s u (done, formed, is) = (done, tt, formed, is)
run_to (ran_gate first port count written after exit) s u it = let some = by_rights (IsInForceSince first) s u it in (some.0, tt, some.1, some.2)

-- ---- any number of runs

one_more : (s t u : State) (runs : List ProgramRun) (run : ProgramRun) → LeadsBy (ActsOfRuns s runs) s t → IsLeftAt run t u → LeadsBy (AreActsOfRun run) t u → LeadsBy (ActsOfRuns s (runs ++ run ∷ [])) s u
one_more s t u runs run (first, of, all, is) left (more, are, others, then) =
    let both : u ≡ after_acts s (first ++ more) = then ∙ ap (λ (x : State). after_acts x more) is ∙ sym (after-append s first more) in
    let so : IsLeftAt run (after_acts s first) (after_acts s (first ++ more)) = subst (λ (x : State). IsLeftAt run x (after_acts s (first ++ more))) is (subst (IsLeftAt run t) both left) in
    (first ++ more, one_run runs run first more of are so, formed-append first more all others, both)

all_to : (s u : State) (runs : List ProgramRun) → StateHistory s runs u → LeadsBy (ActsOfRuns s runs) s u
all_to s u runs (stayed) = ([], no_run, tt, refl)
all_to s u runs (led before run t v history left) = one_more s t u before run (all_to s t before history) left (run_to run t u left)

pub reports_contents : ((s : State) (acts : List Act) → IsSound s → AreContentsAfter s acts (after_acts s acts)) → ReportsContents
reports_contents fates s u runs sound history =
    let it = all_to s u runs history in
    (it.0, it.1, it.2, it.3, subst (AreContentsAfter s it.0) (sym it.3) (fates s it.0 sound))
