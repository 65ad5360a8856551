-- Each entry of a run that was opened since is true of the acts.
use Rattle.std.proofs.Common.{◌≡◌, inl, inr, ℕ, suc, ◌<◌, List, length, Some, refl, sym, ap, subst, ◌∙◌, arith}
use Rattle.std.specs.FinMap.{get}
use Rattle.office_records.specs.Lists.{numbered}
use Rattle.office_rules.specs.Acts.{after}
use Rattle.office_rules.specs.Forms.{AreWellFormed}
use Rattle.office_rules.specs.Sound.{IsSound}
use Rattle.office_rules.specs.State.{State, Office, empty_state}
use Rattle.office_rules.specs.declared.act.Act.{Act}
use Rattle.office_rules.specs.declared.entry.Entry.{Entry}
use Rattle.office_rules.proofs.SoundEmpty.{sound_empty}
use Rattle.office_evidence.specs.History.{before}
use Rattle.office_evidence.specs.Truth.{IsTrueEntry}
use Rattle.office_evidence.proofs.Coming.{DidOpen, DidTake, entry_comes, run_comes}
use Rattle.office_evidence.proofs.Lasting.{HasEntry, HasRun, HasRuns, run_lasts}
use Rattle.office_evidence.proofs.Openings.{open_last}
use Rattle.office_evidence.proofs.Places.{IsDoneBefore, answered_at, before_end, came, lasts_from, next_at, sound_at}
use Rattle.office_evidence.proofs.TrueLines.{line_is_true}
use Rattle.office_evidence.proofs.Viewed.{line_by}

module _ (s : State) (acts : List Act) (sound : IsSound s) (formed : AreWellFormed acts) (run r : ℕ) (e : Entry) (wrote : IsDoneBefore s acts (length acts) (DidTake run r e)) where
  -- the run was opened before the step
  entry_of_opened : IsDoneBefore s acts wrote.place (DidOpen run) → IsTrueEntry s acts run r e
  entry_of_opened first =
      let early = first.early in
      let opens = first.did in
      let next = next_at s acts first.place first.done first.at in
      let has =
      lasts_from (HasRun run opens.day opens.by) (run_lasts run opens.day opens.by) s acts (suc first.place) wrote.place (omega arith) sound formed
      (subst (HasRun run opens.day opens.by) (sym next) opens.opened) in
      record {
        opening = first.place;
        day = opens.day;
        by = opens.by;
        opened = record {
          asked = first.at ∙ ap (λ (a : Act). Some a) opens.asked;
          answered = answered_at s acts first.place first.done first.at ∙ ap (λ x. Some x) opens.answered;
        };
        place = wrote.place;
        in_order = early;
        of_run = wrote.did.open_is;
        keyed = (ap (λ (x : Entry). x.run) wrote.did.is, ap (λ (x : Entry). x.record_no) wrote.did.is);
        line = line_by e (numbered (before s acts wrote.place).office.tree.records e.record_no);
        same = record { record_no = refl; outcome = refl; class = refl; schedule = refl; due = refl; hold = refl; confirmed_by = refl };
        is_true = line_is_true s acts sound formed run r wrote.place wrote.place e wrote.done opens.day opens.by (omega arith) wrote.at wrote.did has;
      }

-- an entry of a run that was opened since
pub entry_since : (s : State) (acts : List Act) (office : Office) (run r : ℕ) (e : Entry) → IsSound s → AreWellFormed acts → office ≡ (after s acts).office → length s.office.runs < run → get office.entries (run, r) ≡ Some e
    → IsTrueEntry s acts run r e
entry_since s acts office run r e sound formed same later there =
    let at_end = subst (HasEntry run r e) (sym (before_end s acts)) (ap (λ (o : Office). get o.entries (run, r)) (sym same) ∙ there) in
    elim (came (HasEntry run r e) (DidTake run r e) (entry_comes run r e) s acts (length acts) sound formed at_end) [
      | inl was ↦ let named = sound.names.of_entries run r e was in absurd (omega (arith, named.run_there.1, later))
      | inr wrote ↦
          let last = open_last (before s acts wrote.place) run wrote.did.open_is in
          elim (came (HasRuns run) (DidOpen run) (run_comes run) s acts wrote.place sound formed (omega (arith, last))) [
            | inl was ↦ absurd (omega (arith, was, later))
            | inr first ↦ entry_of_opened s acts sound formed run r e wrote first
          ]
    ]

-- each entry of an office that was new
pub entry_from_new : (acts : List Act) (office : Office) (run r : ℕ) (e : Entry) → AreWellFormed acts → office ≡ (after empty_state acts).office → get office.entries (run, r) ≡ Some e → IsTrueEntry empty_state acts run r e
entry_from_new acts office run r e formed same there =
    let last = after empty_state acts in
    let sound = subst IsSound (before_end empty_state acts) (sound_at empty_state acts (length acts) sound_empty formed) in
    let named = sound.names.of_entries run r e (ap (λ (o : Office). get o.entries (run, r)) (sym same) ∙ there) in
    entry_since empty_state acts office run r e sound_empty formed same named.run_there.0 there
