use Rattle.std.proofs.Common.{◌≡◌, ◌∙◌, ap, sym, codes, List, ℕ, Option, Some, None, rules}
use Rattle.std.specs.Option.{option_and_then}
use Rattle.std.specs.Fmt.{decimal}
use Rattle.office_journal.specs.Journals.{rest_after}
use Rattle.office_journal.proofs.Parts.{rest_after-parts}
use Rattle.office_journal.proofs.link.rest_after_number.Goals as goal

pub returns-in-Some : goal.returns-in-Some
returns-in-Some c =
    let first : rest_after (decimal c.args.number) c.args.text.now ≡ Some c.in-Some.rest.now = search rules in
    c.rest_after-in-Some.ensures
    ∙ ap (λ (o : Option (List ℕ)). option_and_then (rest_after (codes ",")) o) (sym first)
    ∙ sym (rest_after-parts (decimal c.args.number) (codes ",") c.args.text.now)

pub returns-in-None : goal.returns-in-None
returns-in-None c =
    let first : rest_after (decimal c.args.number) c.args.text.now ≡ None = search rules in
    ap (λ (o : Option (List ℕ)). option_and_then (rest_after (codes ",")) o) (sym first)
    ∙ sym (rest_after-parts (decimal c.args.number) (codes ",") c.args.text.now)
