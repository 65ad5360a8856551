-- The answers to acts, in JSON. Source: own.
use Rattle.std.specs.Prelude.{ℕ, List, [], ◌∷◌, ◌++◌, true, codes}
use Rattle.std.specs.List.{flat_map}
use Rattle.serde_json.specs.Data.{Data, boolean, number, unsigned, string, object, no_members, member}
use Rattle.serde_json.specs.Written.{compact_text}
use Rattle.office_base.specs.Refusals.{refusal_number}
use Rattle.office_rules.specs.Outcomes.{outcome_word}
use Rattle.office_rules.specs.declared.answer.Answer.{Answer}
use Rattle.office_rules.specs.declared.answer.Answer.TheVariants.{Done, Number, Same, Step, RunClosed, Refused}

-- an object of one member, a number
abbrev pub numbered_data : List ℕ → ℕ → Data
numbered_data name n = object (member name (number (unsigned n)) no_members)

-- what was there before, with its number
abbrev pub same_data : ℕ → Data
same_data n = object (member (codes "number") (number (unsigned n)) (member (codes "same") (boolean true) no_members))

-- what came of a record
abbrev pub step_data : ℕ → List ℕ → Data
step_data n outcome =
    object (member (codes "outcome") (string outcome) (member (codes "record") (number (unsigned n)) no_members))

-- an answer in JSON; the members of each object are in the order of their names
abbrev pub answer_data : Answer → Data
answer_data Done = object (member (codes "done") (boolean true) no_members)
answer_data (Number n) = numbered_data (codes "number") n
answer_data (Same n) = same_data n
answer_data (Step n outcome) = step_data n (outcome_word outcome)
answer_data (RunClosed n) = numbered_data (codes "certificate") n
answer_data (Refused refusal) = numbered_data (codes "refused") (refusal_number refusal)

-- its text, with no space
unfoldable pub answer_text : Answer → List ℕ
answer_text answer = compact_text (answer_data answer)

-- its line
unfoldable pub answer_line : Answer → List ℕ
answer_line answer = answer_text answer ++ 10 ∷ []

-- the lines of answers, in their order
abbrev pub answer_lines : List Answer → List ℕ
answer_lines answers = flat_map answer_line answers
