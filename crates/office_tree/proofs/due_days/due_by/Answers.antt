use Rattle.std.proofs.Common.{◌∙◌, ap, sym, ℤ, Some}
use Rattle.std.specs.Option.{option_map}
use Rattle.office_days.specs.Due.{due_from}
use Rattle.office_tree.proofs.ScheduleLemmas.{due_by-keep, due_by-other}
use Rattle.office_tree.proofs.due_days.due_by.Goals as goal

pub returns-in-Keep : goal.returns-in-Keep
returns-in-Keep c = sym (due_by-keep c.args.schedule c.args.start c.in-Keep.is)

pub returns-in-Some : goal.returns-in-Some
returns-in-Some c =
    ap (λ (day : ℤ). Some day) c.due_day.ensures.exact
    ∙ sym (due_by-other c.args.schedule c.args.start c.in_default.not-Keep ∙ ap (option_map (λ (day : ℤ). due_from day c.args.schedule.period c.args.schedule.offset)) c.in-Some.is)

pub returns-in-None : goal.returns-in-None
returns-in-None c =
    sym (due_by-other c.args.schedule c.args.start c.in_default.not-Keep ∙ ap (option_map (λ (day : ℤ). due_from day c.args.schedule.period c.args.schedule.offset)) c.in-None.is)
