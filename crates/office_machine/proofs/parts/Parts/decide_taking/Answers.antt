use Rattle.std.proofs.Common.{◌∙◌, sym, refl}
use Rattle.office_rules.specs.Disposing.{outcome_of}
use Rattle.office_machine.proofs.RunTaken.{taken_there, taken_confirmed, taken_comes, taken_change}
use Rattle.office_rules.proofs.SoundMaps.{some_is}
use Rattle.office_machine.proofs.parts.Parts.decide_taking.Goals as goal

pub outcome_of-requires : goal.outcome_of-requires
outcome_of-requires c = taken_there c.args.self.now c.args.run c.args.record_no c.requires.sound c.requires.next

pub unreachable-requires : goal.unreachable-requires
unreachable-requires c =
    let comes = some_is (outcome_of c.args.self.now c.args.record_no) (taken_comes c.args.self.now c.args.run c.args.record_no c.requires.sound c.requires.next) in
    c.in_default.not-Some comes.0 (c.outcome_of.ensures ∙ comes.1)

pub taking_writes-requires-clause-there : goal.taking_writes-requires-clause-there
taking_writes-requires-clause-there c = taken_there c.args.self.now c.args.run c.args.record_no c.requires.sound c.requires.next

pub taking_writes-requires-clause-confirmed : goal.taking_writes-requires-clause-confirmed
taking_writes-requires-clause-confirmed c = taken_confirmed c.args.self.now c.args.run c.args.record_no c.requires.sound c.requires.next

pub returns : goal.returns
returns c =
    (taken_change c.args.self.now c.args.run c.args.record_no c.in-Some.outcome (record { answer = _; writes = c.in_ok-writes.writes }) c.requires.sound c.requires.opened c.requires.next (sym c.outcome_of.ensures ∙ c.in-Some.is) refl c.in_ok-writes.ensures, refl)
