use Rattle.std.proofs.Common.{◌≡◌, ◌∙◌, Bool, true, Ok, ap, subst, sym}
use Rattle.office_records.specs.Sound.{RefsDiffer}
use Rattle.office_rules.specs.State.{Office}
use Rattle.office_machine.specs.Keys.{bare_contents}
use Rattle.office_machine.proofs.ActiveKeys.{keys_of_bare}
use Rattle.office_machine.proofs.FoundSound.{found_sound, sound_endings, sound_parts}
use Rattle.office_machine.proofs.parts.Parts.is_sound.Goals as goal

pub returns-then-not-do_agree-clause-no : goal.returns-then-not-do_agree-clause-no
returns-then-not-do_agree-clause-no c = λ reported contents have sound.
    c.do_agree.ensures.no c.if-not-do_agree.true
    (sound_parts c.args.self.now (bare_contents c.args.keys.now) contents
    (have ∙ sym (keys_of_bare c.args.keys.now c.requires.ordered)) sound)

pub returns-then-not-has_one_each-clause-no : goal.returns-then-not-has_one_each-clause-no
returns-then-not-has_one_each-clause-no c = λ reported contents have sound.
    c.in_ok-has_one_each.ensures.no (ap (λ (b : Bool). Ok b) c.if-not-has_one_each.true) (sound_endings c.args.self.now contents sound)

pub returns-clause-yes : goal.returns-clause-yes
returns-clause-yes c = λ reported contents have.
    let differ : c.do_refs_differ.result ≡ true = cc in
    found_sound c.args.self.now (bare_contents c.args.keys.now) contents c.all_well_formed.ensures c.requires.keyed (c.do_agree.ensures.yes c.if-not-do_agree.false)
    (c.in_ok-has_one_each.ensures.yes (ap (λ (b : Bool). Ok b) c.if-not-has_one_each.false))
    (subst (λ (o : Office). RefsDiffer o.tree.aggregations o.tree.records) c.self.view_is (c.do_refs_differ.ensures.yes differ))
    (have ∙ sym (keys_of_bare c.args.keys.now c.requires.ordered))
