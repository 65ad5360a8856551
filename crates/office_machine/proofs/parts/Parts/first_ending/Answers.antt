use Rattle.std.proofs.Common.{◌≡◌, ◌+◌, length, sym, ap, ◌∙◌, subst, arith}
use Rattle.std.specs.FinMap.{get}
use Rattle.std.specs.Option.{option_copied}
use Rattle.office_rules.proofs.SoundMaps.{entry_cmp-IsAntisymmetric, entry_total}
use Rattle.office_rules.specs.State.{Office}
use Rattle.office_machine.proofs.Stored.{get_is}
use Rattle.office_machine.proofs.EndingEntries.{NoneEnded, ending_is, no_ending, none_by_entry, none_by_next}
use Rattle.office_machine.proofs.parts.Parts.first_ending.Goals as goal
use Rattle.office_machine.proofs.parts.Parts.first_ending.Goals.{After-get, in-Some+else-is_ending, in_default}

-- what the next run has of the record is what is got
got : (c : After-get) → get c.args.self.now.entries (c.loop-before.before + 1, c.args.record_no) ≡ option_copied c.get.result
got c =
    ap (λ (s : Office). get s.entries (c.loop-before.before + 1, c.args.record_no)) (sym c.self.view_is)
    ∙ get_is entry_total entry_cmp-IsAntisymmetric c.self.inside.entries.entries (c.loop-before.before + 1, c.args.record_no)
    ∙ sym c.get.ensures.value

pub returns-then-is_ending : goal.returns-then-is_ending
returns-then-is_ending c =
    let there = got (goal.at.returns-then-is_ending c).After-get ∙ ap option_copied c.in-Some.is in
    sym (ending_is c.args.self.now c.requires (c.loop-before.before + 1) c.args.record_no c.in-Some.entry.now there (sym c.is_ending.ensures ∙ c.if-is_ending.true))

pub loop-before-preserved : goal.loop-before-preserved
loop-before-preserved c =
    let s = c.args.self.now in
    let r = c.args.record_no in
    let has = got (goal.at.loop-before-preserved c).After-get in
    elim c.match-get.branch [
      | in-Some+else-is_ending w ↦
          none_by_entry s r c.loop-before.before w.in-Some.entry.now c.loop-before.invariant (has ∙ ap option_copied w.in-Some.is) (sym w.is_ending.ensures ∙ w.if-is_ending.false)
      | in_default w ↦ none_by_next s r c.loop-before.before c.loop-before.invariant (has ∙ ap option_copied w.in_default.is)
    ]

pub returns : goal.returns
returns c =
    let all : c.loop-before.before ≡ length c.args.self.now.runs = omega (arith, c.loop-before-test.false, c.loop-before.auto.before-end, c.run_count-before-end.ensures) in
    sym (no_ending c.args.self.now c.requires c.args.record_no (subst (NoneEnded c.args.self.now c.args.record_no) all c.loop-before.invariant))
