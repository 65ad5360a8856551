-- The acts of runs of the program account for what their file holds, and the evidence in it is true of them.
use Rattle.std.proofs.Common.{◌≡◌, ◌∙◌, ◌<◌, ◌++◌, ◌∷◌, [], ℕ, zero, suc, inl, inr, List, length, Option, None, Some, refl, ap, subst}
use Rattle.std.proofs.Math.Logic.{∥∥₁_map}
use Rattle.std.specs.FinMap.{get}
use Rattle.std.specs.Io.KnownBytes.{Appends}
use Rattle.sqlite_wal.specs.Recovery.{Image}
use Rattle.office_base.specs.declared.refusal.Refusal.TheVariants as refused
use Rattle.office_records.specs.Lists.{numbered}
use Rattle.office_records.proofs.Places.{numbered_push}
use Rattle.office_rules.specs.Acts.{after as after_acts, step}
use Rattle.office_rules.specs.Forms.{AreWellFormed, IsWellFormedAct}
use Rattle.office_rules.specs.Sound.{IsSound}
use Rattle.office_rules.specs.State.{Office, State, empty_state}
use Rattle.office_rules.specs.declared.act.Act.{Act}
use Rattle.office_rules.specs.declared.entry.Entry.{Entry}
use Rattle.office_store.specs.Adopted.{AreCertificatesTexts}
use Rattle.office_store.specs.declared.fault.Fault.TheVariants as fault
use Rattle.office_life.specs.Standing.{Stage, StandsAt, unmade}
use Rattle.office_command_line.specs.Orders as command
use Rattle.office_evidence.specs.Truth.{IsTrueCertificate, IsTrueEntry}
use Rattle.office_commands.specs.Certifying.{ReportsCertificate}
use Rattle.office_commands.specs.FileHistory.{ActsOfRuns, FileHistory, FilesFollow, IsLeftAt, ProgramRun, ReportsContents, StateHistory, no_run, one_run, ran_command}
use Rattle.office_commands.specs.declared.exit.Exit.TheVariants as how
use Rattle.office_guarantees.specs.TrueFiles.{AccountFor, FilesAreTrue, FilesAreTrueSince, HasPrinted, IsTrueEvidence, IsTrueEvidenceSince}

-- ---- what the laws say

-- certificates and entries are true of the acts of an office that was new
pub record TrueFromNew : Type 0 where
  pub certificate : (acts : List Act) (office : Office) (run : ℕ) (text : List ℕ) → AreWellFormed acts → office ≡ (after_acts empty_state acts).office → get office.certificates run ≡ Some text → IsTrueCertificate empty_state acts run text
  pub entry : (acts : List Act) (office : Office) (run r : ℕ) (e : Entry) → AreWellFormed acts → office ≡ (after_acts empty_state acts).office → get office.entries (run, r) ≡ Some e → IsTrueEntry empty_state acts run r e
  pub texts : (acts : List Act) → AreWellFormed acts → AreCertificatesTexts (after_acts empty_state acts)

-- and those of the runs that were opened since, of the acts of a sound office
pub record TrueSince : Type 0 where
  pub certificate : (s : State) (acts : List Act) (office : Office) (run : ℕ) (text : List ℕ) → IsSound s → AreWellFormed acts → office ≡ (after_acts s acts).office → length s.office.runs < run → get office.certificates run ≡ Some text → IsTrueCertificate s acts run text
  pub entry : (s : State) (acts : List Act) (office : Office) (run r : ℕ) (e : Entry) → IsSound s → AreWellFormed acts → office ≡ (after_acts s acts).office → length s.office.runs < run → get office.entries (run, r) ≡ Some e → IsTrueEntry s acts run r e
  pub texts : (s : State) (acts : List Act) → IsSound s → AreWellFormed acts → AreCertificatesTexts s → AreCertificatesTexts (after_acts s acts)

abbrev pub StaySound : Type 0
StaySound = (s : State) (a : Act) → IsSound s → IsWellFormedAct a → IsSound (step s a).1

abbrev pub CertificatesLast : Type 0
CertificatesLast = (s : State) (acts : List Act) (run : ℕ) (text : List ℕ) → IsSound s → AreWellFormed acts → get s.office.certificates run ≡ Some text → get (after_acts s acts).office.certificates run ≡ Some text

-- ---- lists of acts

after_both : (s : State) (first more : List Act) → after_acts s (first ++ more) ≡ after_acts (after_acts s first) more
after_both s [] more = refl
after_both s (a ∷ first) more = after_both (step s a).1 first more

formed_both : (first more : List Act) → AreWellFormed (first ++ more) → AreWellFormed first × AreWellFormed more
formed_both [] more formed = (tt, formed)
formed_both (a ∷ first) more (is, formed) = let rest = formed_both first more formed in ((is, rest.0), rest.1)

-- ---- what was printed

module _ (stay : StaySound) (last : CertificatesLast) where
  sound_after : (s : State) (acts : List Act) → IsSound s → AreWellFormed acts → IsSound (after_acts s acts)
  sound_after s [] sound formed = sound
  sound_after s (a ∷ acts) sound (is, formed) = sound_after (step s a).1 acts (stay s a sound is) formed

  -- a certificate was printed, and the office keeps it after these acts
  abbrev IsPrintedAt : State → List Act → ℕ → Option (List ℕ) → Option (List ℕ) → Type 0
  IsPrintedAt s done run written after = (text : List ℕ) × Appends written after text × (get (after_acts s done).office.certificates run ≡ Some text)

  -- by status 0, it is the one that is there
  reported_done : (there : Option (List ℕ)) (written after : Option (List ℕ)) → ReportsCertificate there written after how.Done → (body : List ℕ) × Appends written after body × (there ≡ Some body)
  reported_done None written after (says, silent) = let no : how.Done ≡ how.Refused refused.NoSuch = says in absurd cc
  reported_done (Some body) written after (inl (out, done)) = (body, out, refl)
  reported_done (Some body) written after (inr (some, failed)) = let no : how.Done ≡ how.File = failed in absurd cc

  -- the last run printed it
  printed_last : (s u : State) (run : ℕ) (file text : List ℕ) (written after : Option (List ℕ)) → IsLeftAt (ran_command (command.certificate file run) text written after how.Done) s u
      → (body : List ℕ) × Appends written after body × (get u.office.certificates run ≡ Some body)
  printed_last s u run file text written after (inl alone) = let no : how.Done ≡ how.Fault alone.fault = alone.reported in absurd cc
  printed_last s u run file text written after (inr (inl reported, same)) =
      let it = reported_done (get s.office.certificates run) written after reported in (it.0, it.1, ap (λ (x : State). get x.office.certificates run) same ∙ it.2)
  printed_last s u run file text written after (inr (inr (there, says, silent), same)) = let no : how.Done ≡ how.Fault fault.Memory = says in absurd cc

  module _ (s : State) (sound : IsSound s) (run : ℕ) (file text : List ℕ) (written after : Option (List ℕ)) where
    abbrev printing : ProgramRun
    printing = ran_command (command.certificate file run) text written after how.Done

    none_there : (n : ℕ) → numbered {A = ProgramRun} [] n ≡ Some printing → ⊥
    none_there zero there = absurd cc
    none_there (suc n) there = absurd cc

    printed_at : (runs : List ProgramRun) (done : List Act) → AreWellFormed done → ActsOfRuns s runs done → (n : ℕ) → numbered runs n ≡ Some printing → IsPrintedAt s done run written after
    printed_at runs done formed (no_run) n there = absurd (none_there n there)
    printed_at runs done formed (one_run before now first more of are left) n there =
        let both = formed_both first more formed in
        elim (numbered_push before now printing n there) [
          | inl was ↦
              let it = printed_at before first both.0 of n was in
              let kept = last (after_acts s first) more run it.0 (sound_after s first sound both.0) both.1 it.2 in
              (it.0, it.1, ap (λ (x : State). get x.office.certificates run) (after_both s first more) ∙ kept)
          | inr is ↦ printed_last (after_acts s first) (after_acts s (first ++ more)) run file text written after (subst (λ (it : ProgramRun). IsLeftAt it (after_acts s first) (after_acts s (first ++ more))) is.1 left)
        ]

  printed_of : (s : State) → IsSound s → (runs : List ProgramRun) (done : List Act) → AreWellFormed done → ActsOfRuns s runs done → (run : ℕ) (written after : Option (List ℕ)) → HasPrinted runs run written after → IsPrintedAt s done run written after
  printed_of s sound runs done formed of run written after (n, file, text, there) = printed_at s sound run file text written after runs done formed of n there

  -- ---- the acts of the runs

  module _ (follow : FilesFollow) (contents : ReportsContents) where
    account : (start : Stage) (first : Image) (s : State) (runs : List ProgramRun) (stage : Stage) (image : Image) → IsSound s → StandsAt start first s → FileHistory start first runs stage image
        → ∥ ((done : List Act) × AccountFor s runs done stage image) ∥₁
    account start first s runs stage image sound stands history =
        ∥∥₁_map (follow start first s runs stage image stands history) (λ (u : (x : State) × StateHistory s runs x × StandsAt stage image x).
        let it = contents s u.0 runs sound u.1 in
        let accounted : (done : List Act) × AccountFor s runs done stage image = (it.0, record { of_runs = it.1; formed = it.2; stands = subst (StandsAt stage image) it.3 u.2 }) in
        accounted)

    pub true_since : TrueSince → FilesAreTrueSince
    true_since of start first s runs stage image sound stands history =
        ∥∥₁_map (account start first s runs stage image sound stands history) (λ (it : (done : List Act) × AccountFor s runs done stage image).
        let office = (after_acts s it.0).office in
        let evidence : IsTrueEvidenceSince s runs it.0 = record {
          certificates = λ run text later there. of.certificate s it.0 office run text sound it.1.formed refl later there;
          entries = λ run r e later there. of.entry s it.0 office run r e sound it.1.formed refl later there;
          printed = λ run written after later has.
              let out = printed_of s sound runs it.0 it.1.formed it.1.of_runs run written after has in
              (out.0, out.1, of.certificate s it.0 office run out.0 sound it.1.formed refl later out.2);
          texts = of.texts s it.0 sound it.1.formed;
        } in
        let whole : (done : List Act) × AccountFor s runs done stage image × IsTrueEvidenceSince s runs done = (it.0, it.1, evidence) in
        whole)

    pub true_from_no_file : IsSound empty_state → TrueFromNew → FilesAreTrue
    true_from_no_file sound of first runs stage image nothing history =
        ∥∥₁_map (account unmade first empty_state runs stage image sound (inr (nothing, refl)) history) (λ (it : (done : List Act) × AccountFor empty_state runs done stage image).
        let office = (after_acts empty_state it.0).office in
        let evidence : IsTrueEvidence empty_state runs it.0 = record {
          certificates = λ run text there. of.certificate it.0 office run text it.1.formed refl there;
          entries = λ run r e there. of.entry it.0 office run r e it.1.formed refl there;
          printed = λ run written after has.
              let out = printed_of empty_state sound runs it.0 it.1.formed it.1.of_runs run written after has in
              (out.0, out.1, of.certificate it.0 office run out.0 it.1.formed refl out.2);
          texts = of.texts it.0 it.1.formed;
        } in
        let whole : (done : List Act) × AccountFor empty_state runs done stage image × IsTrueEvidence empty_state runs done = (it.0, it.1, evidence) in
        whole)
