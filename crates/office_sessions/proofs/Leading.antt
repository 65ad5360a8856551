-- To which states stints lead that serve requests, one after another.
use Rattle.std.proofs.Common.{◌≡◌, ◌∙◌, ap, refl, subst, sym, inl, inr, ℕ, ◌+◌, ◌<◌, get_or, length, take, List, [], ◌∷◌, ◌++◌}
use Rattle.std.proofs.lemmas.List.{take_more}
use Rattle.std.proofs.Math.Logic.{∥∥₁_elim, ∥∥₁_map}
use Rattle.sqlite_disk.specs.declared.Disk.{Ghosts}
use Rattle.sqlite_disk.specs.declared.Files.{Files}
use Rattle.sqlite.specs.declared.file.Leftover.{Leftover}
use Rattle.sqlite_wal.specs.Recovery.{Image}
use Rattle.office_rules.specs.Acts.{after}
use Rattle.office_rules.specs.Sound.{IsSound}
use Rattle.office_rules.specs.State.{State}
use Rattle.office_rules.specs.declared.act.Act.{Act}
use Rattle.office_desk.proofs.Found.{after-append}
use Rattle.office_desk.specs.Fates.{AreContentsAfter}
use Rattle.office_life.specs.Life.{LeadsBy}
use Rattle.office_life.specs.Standing.{FilesLead, IsKnownAt, Stage, StandsAt, stage_after}
use Rattle.office_life.specs.Told.{IsCrashed}
use Rattle.office_sessions.specs.Life.{AreAllKnown, AreAllReported, DidErrand, IsAfterStints, IsReported, LivedOn, began, lived, remains_in, stage_then}
use Rattle.office_sessions.specs.declared.reports.Errand.{Errand}
use Rattle.office_sessions.specs.declared.reports.LifeReport.{LifeReport}

-- stints of that kind lead on
abbrev pub LeadOn : List Errand → List LifeReport → State → State → Type 0
LeadOn errands reports = LeadsBy (λ s done. LivedOn s errands reports done)

pub known_parts : (reports : List LifeReport) (it : LifeReport) (stage : Stage) → AreAllKnown stage (reports ++ it ∷ []) → AreAllKnown stage reports × IsKnownAt (stage_then stage reports) (remains_in it)
known_parts [] it stage all = (tt, all.0)
known_parts (x ∷ reports) it stage all = let rest = known_parts reports it (stage_after stage (remains_in x)) all.1 in ((all.0, rest.0), rest.1)

stage_on : (reports : List LifeReport) (it : LifeReport) (stage : Stage) → stage_then stage (reports ++ it ∷ []) ≡ stage_after (stage_then stage reports) (remains_in it)
stage_on [] it stage = refl
stage_on (x ∷ reports) it stage = stage_on reports it (stage_after stage (remains_in x))

pub began_at : (stage : Stage) (old : Image → Type 0) → FilesLead stage stage (LeadOn [] []) old old
began_at stage old image may = ∣ (image, may, λ s stands. ∣ (s, ([], began, refl), stands) ∣₁) ∣₁

-- stints lead on by one more
one_more : (errands : List Errand) (reports : List LifeReport) (asked : Errand) (it : LifeReport) (s t u : State) → LeadOn errands reports s t → LeadsBy (DidErrand asked it) t u → LeadOn (errands ++ asked ∷ []) (reports ++ it ∷ []) s u
one_more errands reports asked it s t u (done, all, is) (more, did, next) = (
  done ++ more,
  lived errands reports done asked it more all (subst (λ (x : State). DidErrand asked it x more) is did),
  next ∙ ap (λ (x : State). after x more) is ∙ sym (after-append s done more),
)

pub lived_on : (stage : Stage) (errands : List Errand) (reports : List LifeReport) (asked : Errand) (it : LifeReport) (old mid new later : Image → Type 0)
    → FilesLead stage (stage_then stage reports) (LeadOn errands reports) old mid
    → FilesLead (stage_then stage reports) (stage_after (stage_then stage reports) (remains_in it)) (LeadsBy (DidErrand asked it)) mid new → ((image : Image) → later image → new image)
    → FilesLead stage (stage_then stage (reports ++ it ∷ [])) (LeadOn (errands ++ asked ∷ []) (reports ++ it ∷ [])) old later
lived_on stage errands reports asked it old mid new later a b fewer =
    subst (λ (at : Stage). FilesLead stage at (LeadOn (errands ++ asked ∷ []) (reports ++ it ∷ [])) old later) (sym (stage_on reports it stage)) (λ image may.
    ∥∥₁_elim (b image (fewer image may)) squash₁ (λ m. ∥∥₁_map (a m.0 m.1) (λ k. (
      k.0,
      k.1,
      λ s stands. ∥∥₁_elim (k.2 s stands) squash₁ (λ t. ∥∥₁_map (m.2 t.0 t.2) (λ u. (u.0, one_more errands reports asked it s t.0 u.0 t.1 u.1, u.2))),
    ))))

-- the same along a list
pub one_longer : (all : List Errand) (i : ℕ) (asked : Errand) → i < length all → asked ≡ get_or all i asked → take (i + 1) all ≡ take i all ++ asked ∷ []
one_longer all i asked within is = take_more all i asked within ∙ ap (λ (x : Errand). take i all ++ x ∷ []) (sym is)

-- the office at their end
pub after_stints : ((s : State) (all : List Act) → IsSound s → AreContentsAfter s all (after s all)) → (errands : List Errand) (reports : List LifeReport) (s u : State) → IsSound s → LeadOn errands reports s u → IsAfterStints errands reports s u
after_stints fates errands reports s u sound (done, all, is) =
    record { done = done; lived = all; state = is; contents = subst (λ (t : State). AreContentsAfter s done t) (sym is) (fates s done sound) }

-- ---- what they report

module _ {D : Type 0} {g : Ghosts D} where
  pub reported_on : (errands : List Errand) (reports : List LifeReport) (asked : Errand) (it : LifeReport) (files mid : Files D) (rest : Leftover D g) (last : Files D) → AreAllReported g files errands reports mid
      → IsReported asked it mid rest → IsCrashed rest last → AreAllReported g files (errands ++ asked ∷ []) (reports ++ it ∷ []) last
  reported_on [] [] asked it files mid rest last is told crashed = (rest, last, subst (λ (f : Files D). IsReported asked it f rest) is told, crashed, refl)
  reported_on [] (x ∷ reports) asked it files mid rest last is told crashed = absurd is
  reported_on (t ∷ errands) [] asked it files mid rest last is told crashed = absurd is
  reported_on (t ∷ errands) (x ∷ reports) asked it files mid rest last (first, later, was, came, more) told crashed =
      (first, later, was, came, reported_on errands reports asked it later mid rest last more told crashed)
