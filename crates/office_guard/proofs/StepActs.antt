-- That a record was taken is the answer to a step of a run, and to no other act.
use Rattle.std.proofs.Common.{◌≡◌, ℕ, Option, Some, None, refl, sym, ap, ◌∙◌, arith}
use Rattle.std.specs.Option.{option_map, unwrap_or}
use Rattle.office_base.specs.declared.refusal.Refusal.{Refusal}
use Rattle.office_records.specs.Conditions.{first_of}
use Rattle.office_records.specs.Lists.{numbered}
use Rattle.office_rules.specs.Acts.{step}
use Rattle.office_rules.specs.Conditions.{refusals_of_open_run}
use Rattle.office_rules.specs.Effects.{after_open_run}
use Rattle.office_rules.specs.Runs.{cursor_of}
use Rattle.office_rules.specs.State.{State, with_office}
use Rattle.office_rules.specs.Steps.{by_refusal}
use Rattle.office_rules.specs.declared.act.Act.{Act}
use Rattle.office_rules.specs.declared.act.Act.TheVariants as act
use Rattle.office_rules.specs.declared.answer.Answer.{Answer}
use Rattle.office_rules.specs.declared.answer.Answer.TheVariants as answer
use Rattle.office_rules.specs.declared.outcome.Outcome.{Outcome}
use Rattle.office_rules.specs.declared.run.Run.{Run}
use Rattle.office_rules.proofs.OpenRun.{cursor_moved, opened}
use Rattle.office_rules.proofs.SoundTaken.{next_is}
use Rattle.office_access.proofs.Ended.{Frame, framed}
use Rattle.office_evidence.proofs.ActKinds.{Takes, kind_of}
use Rattle.office_evidence.proofs.ActKinds.Kind.{adds, closes, opens, quiet, takes}

-- a step that takes a record moves the cursor of its run
moves : (s t : State) (reported : Answer) → Takes s reported t → t.office.runs ≡ s.office.runs → ⊥
moves s t reported q same =
    let above = (next_is s.office q.run q.r q.next).above in
    let row = opened s q.run q.open_is in
    let there : cursor_of t.office q.run ≡ cursor_of s.office q.run = ap (λ runs. unwrap_or (option_map (λ (it : Run). it.cursor) (numbered runs q.run)) 0) same in
    let moved : cursor_of t.office q.run ≡ q.r = ap (λ (u : State). cursor_of u.office q.run) q.is ∙ cursor_moved s q.run q.r row.it row.there in
    absurd (omega (arith, above, there, moved))

beside : (s : State) (a : Act) (r : ℕ) (x : Outcome) → Frame s (step s a).1 → (step s a).0 ≡ answer.Step r x → ⊥
beside s a r x frame e = elim (kind_of s a) [
  | quiet q ↦ q.no_step r x e
  | adds q ↦ let both = sym q.answered ∙ e in absurd (cc)
  | opens q ↦ let both = sym q.answered ∙ e in absurd (cc)
  | takes q ↦ moves s (step s a).1 (step s a).0 q frame.runs
  | closes q ↦ let both = sym q.answered ∙ e in absurd (cc)
]

opening : (o : Option Refusal) (s t : State) (n r : ℕ) (x : Outcome) → (by_refusal o s (answer.Number n) t).0 ≡ answer.Step r x → ⊥
opening (Some refusal) s t n r x e = absurd cc
opening None s t n r x e = absurd cc

pub was_step : (s : State) (a : Act) (r : ℕ) (x : Outcome) → (step s a).0 ≡ answer.Step r x → a ≡ act.RunStep
unfolding step
was_step s act.RunStep r x e = refl
was_step s (act.OpenRun day by) r x e = absurd (opening (first_of (refusals_of_open_run s.office day)) s (with_office s (after_open_run s.office day by)) _ r x e)
was_step s a r x e = absurd (beside s a r x (framed s a tt) e)
