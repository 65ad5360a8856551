use Rattle.std.proofs.Common.{◌∙◌, get_or, map, refl, sym}
use Rattle.office_settings.proofs.Cut.{blank_cut, byte_cut}
use Rattle.office_settings.proofs.tokens.parted_tokens.Goals.{then-is_blank+in_ok-push_token, else-is_blank}
use Rattle.office_settings.proofs.tokens.parted_tokens.Goals as goal

pub loop-i-preserved : goal.loop-i-preserved
loop-i-preserved c = elim c.if-is_blank.branch [
  | then-is_blank+in_ok-push_token w ↦
      rw (w.tokens-is, w.start-is)
      (blank_cut c.args.text.now (map (λ w. w.now) c.loop-i.tokens.items) (map (λ w. w.now) w.push_token.new.tokens.items) c.loop-i.start c.loop-i.i
      (get_or c.args.text.now c.loop-i.i 0) c.loop-i-test.true refl (sym c.is_blank.ensures ∙ w.if-is_blank.true) w.in_ok-push_token.ensures
      c.loop-i.invariant)
  | else-is_blank w ↦
      rw (w.tokens-is, w.start-is)
      (byte_cut c.args.text.now (map (λ w. w.now) c.loop-i.tokens.items) c.loop-i.start c.loop-i.i (get_or c.args.text.now c.loop-i.i 0)
      c.loop-i-test.true refl (sym c.is_blank.ensures ∙ w.if-is_blank.false) c.loop-i.invariant)
]
