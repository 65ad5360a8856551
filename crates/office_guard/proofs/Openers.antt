-- Whoever opened a run takes no step of it, if the rule was on at each deed.
use Rattle.std.proofs.Common.{◌≡◌, ◌≢◌, inl, inr, ℕ, zero, suc, ◌<◌, ℤ, true, false, ◌&&◌, List, [], ◌∷◌, ◌++◌, length, Option, Some, None, refl, sym, ap, subst, ◌∙◌, arith}
use Rattle.std.specs.Option.{option_map, unwrap_or}
use Rattle.std.specs.Prelude.{slice_get}
use Rattle.std.specs.Str.{bytes_eq}
use Rattle.std.proofs.lemmas.Slice.Eq.{bytes_eq-Decides}
use Rattle.office_base.specs.declared.refusal.Refusal.{Refusal}
use Rattle.office_records.specs.Conditions.{first_of}
use Rattle.office_records.specs.Lists.{is_some_and, numbered}
use Rattle.office_rules.specs.Acts.{step}
use Rattle.office_rules.specs.Conditions.{refusals_of_open_run}
use Rattle.office_rules.specs.Effects.{after_open_run, new_run}
use Rattle.office_rules.specs.Forms.{AreWellFormed}
use Rattle.office_rules.specs.Runs.{open_run, opened_by}
use Rattle.office_rules.specs.Sound.{IsSound}
use Rattle.office_rules.specs.State.{Office, State, with_office}
use Rattle.office_rules.specs.Steps.{by_refusal}
use Rattle.office_rules.specs.declared.act.Act.{Act}
use Rattle.office_rules.specs.declared.act.Act.TheVariants as act
use Rattle.office_rules.specs.declared.answer.Answer.{Answer}
use Rattle.office_rules.specs.declared.answer.Answer.TheVariants as answer
use Rattle.office_rules.specs.declared.entry.Entry.{Entry}
use Rattle.office_rules.specs.declared.run.Run.{Run}
use Rattle.office_access.specs.Deeds.{Deed, acts_of}
use Rattle.office_access.specs.Eyes.{forbids, is_opener}
use Rattle.office_access.specs.Kinds.{kind_of, same_kind}
use Rattle.office_access.specs.Settings.{signs}
use Rattle.office_access.specs.declared.kind.Kind.TheVariants as kind
use Rattle.office_access.specs.declared.rule.Rule.TheVariants as rule
use Rattle.office_evidence.specs.History.{IsOpenedAt, before}
use Rattle.office_evidence.proofs.Lasting.{HasRun, run_lasts}
use Rattle.office_evidence.specs.Truth.{IsTrueEntry}
use Rattle.office_evidence.proofs.Places.{answered_at, done_at, lasts_from, next_at}
use Rattle.office_guard.specs.ByRights.{AllByRights, AreOfTwoNames, IsByRight, OpenersDoNotCarryOut}
use Rattle.office_guard.proofs.Deeds.{deed_at}
use Rattle.office_guard.proofs.SignedLines.{signed_opening}
use Rattle.office_guard.proofs.StepActs.{was_step}

-- ---- by the office

-- the name of a step did not open the run
not_opener : (s : Office) (d : Deed) → IsByRight s d → d.settings.rules.opener_does_not_carry_out ≡ true → d.act ≡ act.RunStep → is_opener s (signs d.settings d.name) ≡ false
not_opener s d right on is = elim right [
  | inl may ↦
      let by_act : forbids d.settings.rules s (signs d.settings d.name) may.grants act.RunStep rule.OpenerDoesNotCarryOut ≡ false
      = ap (λ (a : Act). forbids d.settings.rules s (signs d.settings d.name) may.grants a rule.OpenerDoesNotCarryOut) (sym is) ∙ may.apart rule.OpenerDoesNotCarryOut in
      ap (λ b. b && same_kind (kind_of act.RunStep) kind.RunStep && is_opener s (signs d.settings d.name)) (sym on) ∙ by_act
  | inr taken ↦ ap (λ b. b && is_opener s (signs d.settings d.name)) (sym on) ∙ taken.permitted.apart
]

other : (xs ys : List ℕ) → bytes_eq xs ys ≡ false → xs ≢ ys
other xs ys off same = let on : bytes_eq xs ys ≡ true = (bytes_eq-Decides xs ys).1 same in absurd (cc)

by_another : (s : Office) (name : List ℕ) (run : ℕ) → is_opener s name ≡ false → open_run s ≡ Some run → name ≢ opened_by s run
by_another s name run off is_open =
    other name (opened_by s run) (ap (λ o. is_some_and (option_map (opened_by s) o) (bytes_eq name)) (sym is_open) ∙ off)

pub taken_by_another : (s : State) (deeds : List Deed) (place run : ℕ) (d : Deed) → AllByRights s deeds → OpenersDoNotCarryOut deeds → slice_get deeds place ≡ Some d → d.act ≡ act.RunStep
    → open_run (before s (acts_of deeds) place).office ≡ Some run → signs d.settings d.name ≢ opened_by (before s (acts_of deeds) place).office run
taken_by_another s [] place run d all keep there is is_open = absurd cc
taken_by_another s (x ∷ rest) zero run d all keep there is is_open =
    let same : x ≡ d = cc in
    subst (λ (it : Deed). signs it.settings it.name ≢ opened_by s.office run) same
    (by_another s.office (signs x.settings x.name) run (not_opener s.office x all.0 keep.0 (ap (λ (it : Deed). it.act) same ∙ is)) is_open)
taken_by_another s (x ∷ rest) (suc place) run d all keep there is is_open =
    taken_by_another (step s x.act).1 rest place run d all.1 keep.1 there is is_open

-- ---- by the deed that opened the run

get_last : {A : Type 0} (xs : List A) (x : A) → slice_get (xs ++ x ∷ []) (length xs) ≡ Some x
get_last [] x = refl
get_last (y ∷ ys) x = get_last ys x

-- the run is there, once it was opened
opens : (s : State) (day : ℤ) (by : List ℕ) (run : ℕ) → (step s (act.OpenRun day by)).0 ≡ answer.Number run → HasRun run day by (step s (act.OpenRun day by)).1
unfolding step
opens s day by run = at (first_of (refusals_of_open_run s.office day))
  where
    next : State
    next = with_office s (after_open_run s.office day by)

    at : (o : Option Refusal) → (by_refusal o s (answer.Number (suc (length s.office.runs))) next).0 ≡ answer.Number run → HasRun run day by (by_refusal o s (answer.Number (suc (length s.office.runs))) next).1
    at (Some refusal) answered = absurd cc
    at None answered =
        let is : suc (length s.office.runs) ≡ run = cc in
        record {
          it = new_run day by;
          there = ap (numbered (s.office.runs ++ new_run day by ∷ [])) (sym is) ∙ get_last s.office.runs (new_run day by);
          on_day = refl;
          opened_by = refl;
        }

pub taken_by_other_names : (s : State) (deeds : List Deed) (opening place run : ℕ) (day : ℤ) (by : List ℕ) (d : Deed) → IsSound s → AreWellFormed (acts_of deeds) → AllByRights s deeds → OpenersDoNotCarryOut deeds
    → IsOpenedAt s (acts_of deeds) opening run day by → opening < place → slice_get deeds place ≡ Some d → d.act ≡ act.RunStep → open_run (before s (acts_of deeds) place).office ≡ Some run
    → signs d.settings d.name ≢ by
taken_by_other_names s deeds opening place run day by d sound formed all keep is_opened later there is is_open =
    let acts = acts_of deeds in
    let answered : Some (step (before s acts opening) (act.OpenRun day by)).0 ≡ Some (answer.Number run)
    = sym (answered_at s acts opening (act.OpenRun day by) is_opened.asked) ∙ is_opened.answered in
    let new = opens (before s acts opening) day by run (some_same _ _ answered) in
    let first : HasRun run day by (before s acts (suc opening)) = subst (HasRun run day by) (sym (next_at s acts opening (act.OpenRun day by) is_opened.asked)) new in
    let has = lasts_from (HasRun run day by) (run_lasts run day by) s acts (suc opening) place (omega (arith, later)) sound formed first in
    let opener : opened_by (before s acts place).office run ≡ by = ap (λ o. unwrap_or (option_map (λ (it : Run). it.by) o) []) has.there ∙ has.opened_by in
    λ same. taken_by_another s deeds place run d all keep there is is_open (same ∙ sym opener)
  where
    some_same : (x y : Answer) → Some x ≡ Some y → x ≡ y
    some_same x y h = cc

-- ---- by the entries of a run

pub written_by_another : (s : State) (deeds : List Deed) (run r : ℕ) (e : Entry) → IsSound s → AreWellFormed (acts_of deeds) → AllByRights s deeds → OpenersDoNotCarryOut deeds
    → (it : IsTrueEntry s (acts_of deeds) run r e) → AreOfTwoNames deeds it.opening it.place
written_by_another s deeds run r e sound formed all keep it =
    let acts = acts_of deeds in
    let opener = signed_opening s deeds it.opening run it.day it.by all it.opened in
    let taken = done_at s acts it.place (answer.Step it.line.record_no it.line.outcome) it.is_true.answered in
    let is = was_step (before s acts it.place) taken.done it.line.record_no it.line.outcome taken.answered in
    let taker = deed_at deeds it.place taken.done taken.at in
    let apart = taken_by_other_names s deeds it.opening it.place run it.day it.by taker.0 sound formed all keep it.opened it.in_order taker.1 (taker.2 ∙ is) it.of_run in
    record { one = opener.deed; first = opener.done; other = taker.0; second = taker.1; apart = λ same. apart (sym same ∙ opener.signed) }
