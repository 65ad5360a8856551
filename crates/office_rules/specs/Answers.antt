-- What an answer says of its act. Source: own.
use Rattle.std.specs.Prelude.{Bool, true, false}
use Rattle.office_rules.specs.declared.answer.Answer.{Answer}
use Rattle.office_rules.specs.declared.answer.Answer.TheVariants as answer

-- the act is refused
abbrev pub is_refusal : Answer → Bool
is_refusal (answer.Refused refusal) = true
is_refusal _ = false
