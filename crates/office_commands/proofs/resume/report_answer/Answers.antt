use Rattle.std.proofs.Common.{◌≡◌, ◌∙◌, ℕ, List, Option, Some, None, Ok, refl, sym, ap, subst}
use Rattle.office_base.specs.declared.refusal.Refusal.{Refusal}
use Rattle.office_base.specs.declared.refusal.Refusal.TheVariants.{NoRun}
use Rattle.office_rules.specs.declared.answer.Answer.{Answer}
use Rattle.office_rules.specs.declared.answer.Answer.TheVariants as answer
use Rattle.office_desk.specs.Resuming.{resumed_answer}
use Rattle.office_desk.specs.Resumptions.{run_closed, run_outcome}
use Rattle.office_commands.specs.Resuming.{IsRunReported}
use Rattle.office_commands.specs.declared.exit.Exit.{Exit}
use Rattle.office_commands.specs.declared.exit.Exit.TheVariants as how
use Rattle.office_commands.proofs.resume.report_answer.Goals as goal

-- a resumption answers that a run was closed, or a refusal
no_other : (a : Answer) (o : Option ℕ) → a ≡ resumed_answer o → ((run : ℕ) → a ≡ answer.RunClosed run → ⊥) → ((refusal : Refusal) → a ≡ answer.Refused refusal → ⊥) → ⊥
no_other a None is closed refused = refused NoRun is
no_other a (Some run) is closed refused = closed run is

-- the run that was closed is the one that was open
closes : (o : Option ℕ) (run : ℕ) → answer.RunClosed run ≡ resumed_answer o → o ≡ Some run
closes None run is = absurd cc
closes (Some open_run) run is = let same : open_run ≡ run = cc in ap Some same

-- where it is refused none was open
refuses : (o : Option ℕ) (refusal : Refusal) → answer.Refused refusal ≡ resumed_answer o → (o ≡ None) × (refusal ≡ NoRun)
refuses None refusal is = let same : refusal ≡ NoRun = cc in (refl, same)
refuses (Some run) refusal is = absurd cc

pub unreachable-requires : goal.unreachable-requires
unreachable-requires g c = no_other c.args.answer c.requires.0 c.requires.1 c.in_default.not-RunClosed c.in_default.not-Refused

-- what is reported of the run that was closed is reported of the run that was open
closed_reported : (a : Answer) (o : Option ℕ) (run : ℕ) (written after : Option (List ℕ)) (e : Exit) → o ≡ Some run → IsRunReported (run_closed run) written after e → IsRunReported (run_outcome (Ok a) o) written after e
closed_reported a o run written after e is reported = subst (λ (x : Option ℕ). IsRunReported (run_outcome (Ok a) x) written after e) (sym is) reported

-- where no run was open the refusal is reported
refused_reported : (a : Answer) (o : Option ℕ) (refusal : Refusal) (written after : Option (List ℕ)) → (o ≡ None) × (refusal ≡ NoRun) → after ≡ written → IsRunReported (run_outcome (Ok a) o) written after (how.Refused refusal)
refused_reported a o refusal written after is same = subst (λ (x : Option ℕ). IsRunReported (run_outcome (Ok a) x) written after (how.Refused refusal)) (sym is.0) (ap how.Refused is.1, same)

pub returns-in-RunClosed : goal.returns-in-RunClosed
returns-in-RunClosed g c o is =
    closed_reported c.args.answer o c.in-RunClosed.run' _ _ _ (closes o c.in-RunClosed.run' (sym c.in-RunClosed.is ∙ is)) c.report_closed.ensures

pub returns-in-Refused : goal.returns-in-Refused
returns-in-Refused g c o is = refused_reported c.args.answer o c.in-Refused.refusal _ _ (refuses o c.in-Refused.refusal (sym c.in-Refused.is ∙ is)) refl
