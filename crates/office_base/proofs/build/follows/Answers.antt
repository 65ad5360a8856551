use Rattle.std.proofs.Common.{◌≡◌, false, ap, ◌∙◌, sym}
use Rattle.std.specs.Ordering.{is_lt}
use Rattle.std.specs.declared.cmp.Ordering.TheVariants.{Less}
use Rattle.office_base.proofs.Ascending.{has_last}
use Rattle.office_base.proofs.build.follows.Goals as goal

pub returns-in-Some-clause-not_below : goal.returns-in-Some-clause-not_below
returns-in-Some-clause-not_below g c not all =
    let less = has_last (λ q. g.K.Ord.cmp q c.args.key.now ≡ Less) c.args.map.now.entries _ _ c.in-Some.ensures.last all in
    absurd (cc (c.is_lt.ensures, c.cmp.ensures, ap is_lt less))
