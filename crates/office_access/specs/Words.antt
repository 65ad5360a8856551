-- The words for a denial. Source: own.
use Rattle.std.specs.Prelude.{ℕ, List, codes, Option, Some, None}
use Rattle.office_access.specs.declared.denial.Denial.{Denial}
use Rattle.office_access.specs.declared.denial.Denial.TheVariants as denial
use Rattle.office_access.specs.declared.rule.Rule.{Rule}
use Rattle.office_access.specs.declared.rule.Rule.TheVariants as rule

abbrev pub denial_word : Denial → List ℕ
denial_word denial.Name = codes "name"
denial_word denial.Right = codes "right"
denial_word denial.By = codes "by"
denial_word denial.Future = codes "future"
denial_word denial.Class = codes "class"
denial_word (denial.Eyes rule) = codes "eyes"

abbrev pub denial_rule : Denial → Option Rule
denial_rule (denial.Eyes rule) = Some rule
denial_rule _ = None

-- the name of the rule in the settings
abbrev pub rule_word : Rule → List ℕ
rule_word rule.OpenerDoesNotCarryOut = codes "opener-does-not-carry-out"
rule_word rule.ConfirmerDoesNotOpen = codes "confirmer-does-not-open"
rule_word rule.ChangerDoesNotOpen = codes "changer-does-not-open"
rule_word rule.SenderDoesNotReceive = codes "sender-does-not-receive"
rule_word rule.ReceiverDoesNotOpen = codes "receiver-does-not-open"
