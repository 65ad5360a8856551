use Rattle.std.proofs.Common.{arith}
use Rattle.office_policy.proofs.Lists.{limit_pushed}
use Rattle.office_policy.proofs.classes.push_limit.Goals as goal

pub returns-in_ok-push-in-len1-up : goal.returns-in_ok-push-in-len1-up
returns-in_ok-push-in-len1-up c =
    limit_pushed (λ w. w.now) (λ limit. limit.patterns.items) c.args.limits.now.items c.push.new.self.items c.in_ok-limit-in-len1-up.limit
    c.args.classes.now c.in_ok-push-in-len1-up.ensures.items c.in_ok-limit-in-len1-up.ensures (omega (arith, c.in-len1-up.len_at_least))
