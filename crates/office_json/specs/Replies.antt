-- What is reported of acts besides a single answer, in JSON. Source: own.
use Rattle.std.specs.Prelude.{ℕ, List, Option, map, codes}
use Rattle.serde_json.specs.Data.{Data, Members, number, unsigned, string, array, object, no_members, member, put}
use Rattle.serde_json.specs.View.{items_of}
use Rattle.office_base.specs.Refusals.{refusal_number}
use Rattle.office_base.specs.declared.refusal.Refusal.{Refusal}
use Rattle.office_rules.specs.declared.answer.Answer.{Answer}
use Rattle.office_json.specs.Answers.{answer_data, numbered_data}
use Rattle.office_json.specs.RecordJson.{or_null}

-- the answers to acts, in their order
abbrev pub answers_data : List Answer → Data
answers_data answers = array (items_of (map answer_data answers))

-- a fault, by its number
abbrev pub fault_data : ℕ → Data
fault_data n = numbered_data (codes "fault") n

-- the answers to the acts before a fault, and the fault
abbrev pub stopped_data : List Answer → ℕ → Data
stopped_data answers n =
    object (member (codes "answers") (answers_data answers) (member (codes "fault") (number (unsigned n)) no_members))

-- the place, from 0, of a value that asks for no act, and its refusal
abbrev pub bad_act_data : ℕ → Refusal → Data
bad_act_data place refusal = object
    (member (codes "error") (string (codes "act"))
    (member (codes "place") (number (unsigned place))
    (member (codes "refused") (number (unsigned (refusal_number refusal))) no_members)))

-- a denial: its reason, and the rule that forbids it, or null
unfoldable pub denial_data : List ℕ → Option (List ℕ) → Data
denial_data reason rule =
    object (member (codes "error") (string reason) (member (codes "rule") (or_null string rule) no_members))

-- the answers to the acts before one that is denied, the denial, and the place of that act, from 0
unfoldable pub denied_data : List Answer → ℕ → List ℕ → Option (List ℕ) → Data
denied_data answers place reason rule = object
    (member (codes "answers") (answers_data answers)
    (member (codes "error") (string reason)
    (member (codes "place") (number (unsigned place))
    (member (codes "rule") (or_null string rule) no_members))))

-- ---- what the code puts

unfoldable pub with_denial : List ℕ → Option (List ℕ) → ℕ → Members → Members
with_denial reason rule place ms =
    put (codes "rule") (or_null string rule)
    (put (codes "place") (number (unsigned place)) (put (codes "error") (string reason) ms))
