-- Certificates stay UTF-8 over any acts.
use Rattle.std.proofs.Common.{◌≡◌, inl, inr, ℕ, List, length, Some, sym, subst, refl, arith}
use Rattle.std.specs.Prelude.{IsUtf8}
use Rattle.std.specs.FinMap.{get}
use Rattle.office_records.proofs.Places.{numbered_within}
use Rattle.office_rules.specs.Acts.{after}
use Rattle.office_rules.specs.Forms.{AreWellFormed}
use Rattle.office_rules.specs.Runs.{certificate_of, open_run}
use Rattle.office_rules.specs.Sound.{IsSound}
use Rattle.office_rules.specs.State.{State, empty_state}
use Rattle.office_rules.specs.declared.act.Act.{Act}
use Rattle.office_rules.proofs.SoundEmpty.{sound_empty}
use Rattle.office_rules.proofs.SoundMaps.{is_there}
use Rattle.office_rules.proofs.SoundRuns.{open_there}
use Rattle.office_evidence.specs.History.{before}
use Rattle.office_evidence.specs.Texts.{AreCertificatesUtf8}
use Rattle.office_evidence.proofs.CertificateTexts.{certificate_utf8}
use Rattle.office_evidence.proofs.Coming.{DidClose, certificate_comes}
use Rattle.office_evidence.proofs.Lasting.{HasCertificate}
use Rattle.office_evidence.proofs.Places.{before_end, came, sound_at}
use Rattle.office_evidence.proofs.Truths.{text_of_run}

-- the certificate with which a run is closed
closing_utf8 : (s : State) (run : ℕ) → IsSound s → open_run s.office ≡ Some run → IsUtf8 (certificate_of s.office run)
closing_utf8 s run sound open_is =
    let at = open_there s.office run open_is in
    certificate_utf8 _ (certificate_of s.office run) (text_of_run s run at.0.day at.0.by sound (record { it = at.0; there = at.1; on_day = refl; opened_by = refl }))

pub utf8_kept : (s : State) (acts : List Act) → IsSound s → AreWellFormed acts → AreCertificatesUtf8 s.office → AreCertificatesUtf8 (after s acts).office
utf8_kept s acts sound formed texts run text there =
    let at_end = subst (HasCertificate run text) (sym (before_end s acts)) there in
    elim (came (HasCertificate run text) (DidClose run text) (certificate_comes run text) s acts (length acts) sound formed at_end) [
      | inl was ↦ texts run text was
      | inr wrote ↦ subst IsUtf8 (sym wrote.did.is) (closing_utf8 (before s acts wrote.place) run (sound_at s acts wrote.place sound formed) wrote.did.open_is)
    ]

-- a new office keeps none
none_kept : AreCertificatesUtf8 empty_state.office
none_kept run text there =
    let closed = (sound_empty.runs.certified run).0 (is_there (get empty_state.office.certificates run) text there) in
    let within = numbered_within empty_state.office.runs run closed.0 closed.1 in
    absurd (omega (arith, within.0, within.1))

pub utf8_from_new : (acts : List Act) → AreWellFormed acts → AreCertificatesUtf8 (after empty_state acts).office
utf8_from_new acts formed = utf8_kept empty_state acts sound_empty formed none_kept
