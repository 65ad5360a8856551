use Rattle.std.proofs.Common.{◌≡◌, ◌∙◌, Some, None, true, false, sym}
use Rattle.std.specs.Prelude.{nat_eq}
use Rattle.std.specs.Cmp.{nat_cmp_total}
use Rattle.std.specs.FinMap.{from_entries, get, nat_cmp-IsAntisymmetric}
use Rattle.std.specs.Ordering.{nat_cmp}
use Rattle.std.proofs.lemmas.Bool.{eqb-true, eq-eqb, both_ways}
use Rattle.office_machine.proofs.Stored.{get_is, inserted}
use Rattle.office_rules.proofs.SoundMaps.{one_there}
use Rattle.office_machine.proofs.examination.entries.note_ending.Goals as goal

pub returns-in-Some-clause-ending : goal.returns-in-Some-clause-ending
returns-in-Some-clause-ending c = λ ending.
    let entry = c.args.entry.now in
    inserted nat_cmp_total nat_cmp-IsAntisymmetric c.args.ends.now.entries c.insert.new.self.entries entry.record_no entry.run c.in_ok-run.ensures.updates.0

pub returns-in-None-clause-ending : goal.returns-in-None-clause-ending
returns-in-None-clause-ending c = λ ending.
    let entry = c.args.entry.now in
    inserted nat_cmp_total nat_cmp-IsAntisymmetric c.args.ends.now.entries c.insert.new.self.entries entry.record_no entry.run c.in_ok-run.ensures.updates.0

pub returns-in-Some-clause-one : goal.returns-in-Some-clause-one
returns-in-Some-clause-one c = λ ending reported run at.
    let entry = c.args.entry.now in
    let there : get (from_entries {R = nat_cmp} c.args.ends.now.entries) entry.record_no ≡ Some c.in-Some.run' = get_is nat_cmp_total nat_cmp-IsAntisymmetric c.args.ends.now.entries entry.record_no ∙ sym c.in_ok-run.ensures.old ∙ c.in-Some.is in
    let same : run ≡ c.in-Some.run' = one_there (get (from_entries {R = nat_cmp} c.args.ends.now.entries) entry.record_no) run c.in-Some.run' at there in
    let test : nat_eq c.in-Some.run' entry.run ≡ true = cc reported in
    same ∙ eqb-true c.in-Some.run' entry.run test

pub returns-in-None-clause-one : goal.returns-in-None-clause-one
returns-in-None-clause-one c = λ ending reported run at.
    let entry = c.args.entry.now in
    let none : get (from_entries {R = nat_cmp} c.args.ends.now.entries) entry.record_no ≡ None = get_is nat_cmp_total nat_cmp-IsAntisymmetric c.args.ends.now.entries entry.record_no ∙ sym c.in_ok-run.ensures.old ∙ c.in-None.is in
    let wrong : Some run ≡ None = sym at ∙ none in
    absurd (cc wrong)

pub returns-in-Some-clause-two : goal.returns-in-Some-clause-two
returns-in-Some-clause-two c = λ reported.
    let entry = c.args.entry.now in
    let there : get (from_entries {R = nat_cmp} c.args.ends.now.entries) entry.record_no ≡ Some c.in-Some.run' = get_is nat_cmp_total nat_cmp-IsAntisymmetric c.args.ends.now.entries entry.record_no ∙ sym c.in_ok-run.ensures.old ∙ c.in-Some.is in
    let test : nat_eq c.in-Some.run' entry.run ≡ false = cc reported in
    (sym c.is_ending.ensures ∙ c.if-not-is_ending.false, (c.in-Some.run', there, λ same. both_ways (nat_eq c.in-Some.run' entry.run) test (eq-eqb c.in-Some.run' entry.run same)))
