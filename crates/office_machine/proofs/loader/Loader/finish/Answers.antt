use Rattle.std.proofs.Common.{◌≡◌, ◌∙◌, Ok, true, false, length, subst, sym}
use Rattle.office_rules.specs.State.{Office}
use Rattle.office_machine.proofs.FoundSound.{entries_keyed, found_state}
use Rattle.office_machine.proofs.loader.Loader.finish.Goals as goal

pub is_sound-requires-clause-keyed : goal.is_sound-requires-clause-keyed
is_sound-requires-clause-keyed c =
    let some = c.in_ok-office.ensures.keys in
    entries_keyed c.args.self c.in_ok-office.office some.0 c.in_ok-office.ensures.parts some.1

pub returns-in-Ok-true-clause-sound : goal.returns-in-Ok-true-clause-sound
returns-in-Ok-true-clause-sound c = λ contents keys.
    let reported : c.is_sound.result ≡ Ok true = cc (c.in-Ok-true.is, c.in-Ok-true.field-0-test) in
    c.is_sound.ensures.yes reported contents (keys ∙ sym c.in_ok-office.ensures.same_keys ∙ sym c.as_slice.ensures.keys)

pub returns-in-Ok-false-clause-damaged : goal.returns-in-Ok-false-clause-damaged
returns-in-Ok-false-clause-damaged c = λ is u represents sound.
    let reported : c.is_sound.result ≡ Ok false = cc (c.in-Ok-false.is, c.in-Ok-false.field-0-test) in
    let many = subst (λ (o : Office). length o.tree.statuses ≡ length o.tree.records) c.office.view_is c.sound.ensures.statuses in
    let found = found_state c.args.self c.in_ok-office.office u many c.in_ok-office.ensures.parts represents sound in
    c.is_sound.ensures.no reported u.contents (found.0 ∙ sym c.in_ok-office.ensures.same_keys ∙ sym c.as_slice.ensures.keys) found.1
