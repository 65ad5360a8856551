use Rattle.std.proofs.Common.{◌∙◌, sym}
use Rattle.office_settings.proofs.Marks.{parted_last, parted_none, parted_some}
use Rattle.office_settings.proofs.parts.parted.Goals as goal

pub returns-then-place-tokens : goal.returns-then-place-tokens
returns-then-place-tokens c =
    rw c.split_at.ensures.back
    (sym (parted_some (λ w. w.now) c.args.mark.now c.args.tokens.now c.in-Some.place (sym c.mark_place.ensures ∙ c.in-Some.is) c.if-place-tokens.true))

pub returns-in-None : goal.returns-in-None
returns-in-None c = sym (parted_none (λ w. w.now) c.args.mark.now c.args.tokens.now (sym c.mark_place.ensures ∙ c.in-None.is))

pub returns-else-place-tokens : goal.returns-else-place-tokens
returns-else-place-tokens c =
    sym (parted_last (λ w. w.now) c.args.mark.now c.args.tokens.now c.in-Some.place (sym c.mark_place.ensures ∙ c.in-Some.is) c.if-place-tokens.false)
