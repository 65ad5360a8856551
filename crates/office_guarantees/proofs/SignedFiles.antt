-- The deeds of gates over an office's files, and whom the certificates in the files name.
use Rattle.std.proofs.Common.{◌≡◌, ◌∙◌, ◌++◌, ◌∷◌, [], ℕ, ℤ, inl, inr, List, Option, Some, refl, sym, ap, subst}
use Rattle.std.proofs.Math.Logic.{∥∥₁_map}
use Rattle.std.specs.FinMap.{get}
use Rattle.sqlite_wal.specs.Recovery.{Image}
use Rattle.office_access.specs.Deeds.{Deed, acts_of}
use Rattle.office_access.specs.Settings.{Settings}
use Rattle.office_rules.specs.Acts.{after as after_acts, step}
use Rattle.office_rules.specs.Forms.{AreWellFormed}
use Rattle.office_rules.specs.State.{Office, State, empty_state}
use Rattle.office_rules.specs.declared.act.Act.{Act}
use Rattle.office_life.specs.Standing.{Stage, StandsAt, unmade}
use Rattle.office_command_line.specs.Orders as command
use Rattle.office_command_line.specs.Orders.{Command}
use Rattle.office_evidence.specs.History.{IsOpenedAt}
use Rattle.office_evidence.specs.Truth.{IsTrueCertificate, IsTrueLine}
use Rattle.office_evidence.specs.declared.parsed.EntryLine.{EntryLine}
use Rattle.office_gate.specs.ByDeeds.{CameByDeeds}
use Rattle.office_gate.specs.InForce.{IsInForceSince}
use Rattle.office_gate.specs.Sessions.{CameByRights}
use Rattle.office_guard.specs.ByRights.{AllByRights}
use Rattle.office_guard.specs.SignedLines.{IsSignedLine, IsSignedOpening}
use Rattle.office_commands.specs.FileHistory.{FilesFollow, IsLeftAt, ProgramRun, StateHistory, led, ran_command, ran_gate, ran_service, stayed}
use Rattle.office_commands.specs.NextCommand.{IsLeftBy, ReadsAt}
use Rattle.office_commands.specs.declared.exit.Exit.{Exit}
use Rattle.office_guarantees.specs.SignedFiles.{AreSignedFiles, AsksForNames, ChangesNothing, FilesNameWhoSignedIn, GatesAloneAct, IsSignedCertificate}

-- ---- what the laws say

abbrev pub Joined : Type 0
Joined = (s : State) (deeds more : List Deed) → AllByRights s deeds → AllByRights (after_acts s (acts_of deeds)) more → AllByRights s (deeds ++ more)

abbrev pub Gated : Type 0
Gated = (first : Settings) (s t : State) → CameByRights (IsInForceSince first) s t → CameByDeeds (IsInForceSince first) s t

-- ---- lists of deeds

after_both : (s : State) (first more : List Deed) → after_acts s (acts_of (first ++ more)) ≡ after_acts (after_acts s (acts_of first)) (acts_of more)
after_both s [] more = refl
after_both s (d ∷ first) more = after_both (step s d.act).1 first more

formed_both : (first more : List Deed) → AreWellFormed (acts_of first) → AreWellFormed (acts_of more) → AreWellFormed (acts_of (first ++ more))
formed_both [] more all rest = rest
formed_both (d ∷ first) more all rest = (all.0, formed_both first more all.1 rest)

-- deeds by right lead there
abbrev LedByDeeds : State → State → Type 0
LedByDeeds s u = (deeds : List Deed) × AllByRights s deeds × AreWellFormed (acts_of deeds) × (u ≡ after_acts s (acts_of deeds))

-- ---- runs

reads_nothing : {Is : Type 0} (written after : Option (List ℕ)) (exit : Exit) (s u : State) → ReadsAt Is written after exit s u → u ≡ s
reads_nothing written after exit s u (inl alone) = alone.untouched.0
reads_nothing written after exit s u (inr (is, same)) = same

same_after : (order : Command) (text : List ℕ) (written after : Option (List ℕ)) (exit : Exit) (s u : State) → ChangesNothing order → IsLeftBy order text written after exit s u → u ≡ s
same_after (command.apply file acts) text written after exit s u quiet it = absurd quiet
same_after (command.import file day csv) text written after exit s u quiet it = absurd quiet
same_after (command.resume file) text written after exit s u quiet it = absurd quiet
same_after (command.init file) text written after exit s u quiet it = reads_nothing written after exit s u it
same_after (command.export file register) text written after exit s u quiet it = reads_nothing written after exit s u it
same_after (command.overdue file day n) text written after exit s u quiet it = reads_nothing written after exit s u it
same_after (command.certificate file run) text written after exit s u quiet it = reads_nothing written after exit s u it
same_after (command.serve file port count) text written after exit s u quiet it = it.0
same_after (command.gate file port count access token journal) text written after exit s u quiet it = it.0
same_after (command.plan file) text written after exit s u quiet it = it.0
same_after (command.due unit count offset day) text written after exit s u quiet it = it.0
same_after command.nothing text written after exit s u quiet it = it.0

-- of runs, those before the last and the last
but_last : (before : List ProgramRun) (run : ProgramRun) → GatesAloneAct (before ++ run ∷ []) → GatesAloneAct before × AsksForNames run
but_last [] run it = (tt, it.0)
but_last (first ∷ before) run it = let rest = but_last before run it.1 in ((it.0, rest.0), rest.1)

module _ (joined : Joined) (gated : Gated) where
  run_led : (run : ProgramRun) (t u : State) → AsksForNames run → IsLeftAt run t u → LedByDeeds t u
  run_led (ran_gate first port count written after exit) t u asks left = let it = gated first t u left in (it.deeds, it.by_right, it.formed, sym it.leads)
  run_led (ran_command order text written after exit) t u asks left = ([], tt, tt, same_after order text written after exit t u asks left)
  run_led (ran_service port count written after exit) t u asks left = absurd asks

  then_led : (s t u : State) → LedByDeeds s t → LedByDeeds t u → LedByDeeds s u
  then_led s t u (deeds, by_right, formed, is) (more, more_by_right, more_formed, then) = (
    deeds ++ more,
    joined s deeds more by_right (subst (λ (v : State). AllByRights v more) is more_by_right),
    formed_both deeds more formed more_formed,
    then ∙ ap (λ (v : State). after_acts v (acts_of more)) is ∙ sym (after_both s deeds more),
  )

  runs_led : (s u : State) (runs : List ProgramRun) → StateHistory s runs u → GatesAloneAct runs → LedByDeeds s u
  runs_led s u runs (stayed) alone = ([], tt, tt, refl)
  runs_led s u runs (led before run t v history left) alone =
      let parts = but_last before run alone in
      then_led s t u (runs_led s t before history parts.0) (run_led run t u parts.1 left)

  -- ---- certificates

  module _ (certificate : (acts : List Act) (office : Office) (run : ℕ) (text : List ℕ) → AreWellFormed acts → office ≡ (after_acts empty_state acts).office → get office.certificates run ≡ Some text → IsTrueCertificate empty_state acts run text)
      (lines : (deeds : List Deed) (day : ℤ) (place : ℕ) (line : EntryLine) → AllByRights empty_state deeds → IsTrueLine empty_state (acts_of deeds) day place line → IsSignedLine deeds place line)
      (openings : (s : State) (deeds : List Deed) (place run : ℕ) (day : ℤ) (by : List ℕ) → AllByRights s deeds → IsOpenedAt s (acts_of deeds) place run day by → IsSignedOpening deeds place day by) where
    signed : (deeds : List Deed) → AllByRights empty_state deeds → AreWellFormed (acts_of deeds) → (run : ℕ) (text : List ℕ) → get (after_acts empty_state (acts_of deeds)).office.certificates run ≡ Some text → IsSignedCertificate deeds run text
    signed deeds by_right formed run text there =
        let it = certificate (acts_of deeds) (after_acts empty_state (acts_of deeds)).office run text formed refl there in
        record {
          certificate = it;
          opening = openings empty_state deeds it.is_true.opening it.certificate.run it.certificate.day it.certificate.by by_right it.is_true.opened;
          lines = λ line has. let each = it.is_true.lines.each line has in (each.0, each.1, lines deeds it.certificate.day each.0 line by_right each.2);
        }

    pub files_name : FilesFollow → FilesNameWhoSignedIn
    files_name follow first runs stage image nothing history alone =
        ∥∥₁_map (follow unmade first empty_state runs stage image (inr (nothing, refl)) history) (λ (u : (x : State) × StateHistory empty_state runs x × StandsAt stage image x).
        let it = runs_led empty_state u.0 runs u.1 alone in
        let files : AreSignedFiles it.0 stage image = record {
          by_right = it.1;
          stands = subst (StandsAt stage image) it.3 u.2;
          certificates = λ run text there. signed it.0 it.1 it.2 run text there;
        } in
        let whole : (deeds : List Deed) × AreSignedFiles deeds stage image = (it.0, files) in
        whole)
