use Rattle.std.proofs.Common.{◌∙◌, ap, Some, None}
use Rattle.std.specs.Option.{option_map}
use Rattle.office_access.specs.Permits.{rule_against}
use Rattle.office_access.specs.declared.denial.Denial.TheVariants as denial
use Rattle.office_access.specs.declared.rule.Rules.{Rules}
use Rattle.office_access.proofs.Denied.{denied}
use Rattle.office_access.proofs.policy.Policy.permit.Goals as goal

pub returns-in-Some-deny : goal.returns-in-Some-deny
returns-in-Some-deny g c =
    denied c.args.self.now (g.V.OfficeView.office c.args.office.now) c.args.today c.args.name.now c.args.act.now c.in-Some.grants.now c.signature-signs.result.now (Some c.in-Some-deny.denial)
    c.in-Some.ensures c.signature-signs.ensures c.in-Some-deny.ensures

pub returns-in-None-deny : goal.returns-in-None-deny
returns-in-None-deny g c =
    c.deny_by_rule.ensures
    ∙ ap (λ (rules : Rules). option_map denial.Eyes (rule_against rules (g.V.OfficeView.office c.args.office.now) c.signature-signs.result.now c.in-Some.grants.now c.args.act.now)) c.rules.ensures
    ∙ denied c.args.self.now (g.V.OfficeView.office c.args.office.now) c.args.today c.args.name.now c.args.act.now c.in-Some.grants.now c.signature-signs.result.now None
    c.in-Some.ensures c.signature-signs.ensures c.in-None-deny.ensures
