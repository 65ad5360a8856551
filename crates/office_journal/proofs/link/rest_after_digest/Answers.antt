use Rattle.std.proofs.Common.{◌≡◌, ◌∙◌, ap, sym, codes, List, ℕ, Option, Some, None, rules}
use Rattle.std.specs.Option.{option_and_then}
use Rattle.hex.specs.Hex.{encode_lower}
use Rattle.office_journal.specs.Journals.{rest_after}
use Rattle.office_journal.proofs.Parts.{rest_after-parts}
use Rattle.office_journal.proofs.link.rest_after_digest.Goals as goal

pub returns-in-Some : goal.returns-in-Some
returns-in-Some c =
    let first : rest_after (encode_lower c.args.digest) c.args.text.now ≡ Some c.in-Some.rest.now = search rules in
    c.rest_after-in-Some.ensures
    ∙ ap (λ (o : Option (List ℕ)). option_and_then (rest_after (codes "\",\"line\":")) o) (sym first)
    ∙ sym (rest_after-parts (encode_lower c.args.digest) (codes "\",\"line\":") c.args.text.now)

pub returns-in-None : goal.returns-in-None
returns-in-None c =
    let first : rest_after (encode_lower c.args.digest) c.args.text.now ≡ None = search rules in
    ap (λ (o : Option (List ℕ)). option_and_then (rest_after (codes "\",\"line\":")) o) (sym first)
    ∙ sym (rest_after-parts (encode_lower c.args.digest) (codes "\",\"line\":") c.args.text.now)
