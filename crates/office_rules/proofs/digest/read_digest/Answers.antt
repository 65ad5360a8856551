use Rattle.std.proofs.Common.{sym, ap, ◌∙◌}
use Rattle.office_rules.specs.Digits.{digest_named}
use Rattle.office_rules.proofs.ReadDigests.{long_text, named_by, named_none, named_some}
use Rattle.office_rules.proofs.digest.read_digest.Goals as goal

pub returns-then-text-ne64-clause-named : goal.returns-then-text-ne64-clause-named
returns-then-text-ne64-clause-named c =
    named_none c.args.text.now (λ digest formed same. c.if-text-ne64.true (long_text c.args.text.now digest formed same))

pub returns-then-text-ne64-clause-every : goal.returns-then-text-ne64-clause-every
returns-then-text-ne64-clause-every c digest formed same = absurd (c.if-text-ne64.true (long_text c.args.text.now digest formed same))

pub returns-clause-named : goal.returns-clause-named
returns-clause-named c = named_by c.as_bytes.result.now c.digest_in.result c.digest_in.ensures.formed c.digest_in.ensures.exact c.digest_in.ensures.none ∙ ap (λ t. digest_named t) c.as_bytes.ensures.value

pub returns-clause-every : goal.returns-clause-every
returns-clause-every c digest formed same =
    named_by c.as_bytes.result.now c.digest_in.result c.digest_in.ensures.formed c.digest_in.ensures.exact c.digest_in.ensures.none
    ∙ ap (λ t. digest_named t) c.as_bytes.ensures.value
    ∙ sym (named_some c.args.text.now digest formed same)
