-- The line of each kind of answer, letter by letter.
use Rattle.std.proofs.Common.{◌≡◌, ◌+◌, ◌<◌, refl, ℕ, List, ◌++◌, append_assoc, codes, decimal, drop, length}
use Rattle.std.proofs.Math.ListN.{get_or}
use Rattle.std.proofs.lemmas.List.{at_drop_more}
use Rattle.serde_json.proofs.OnLiterals.{serde_json_on_literals}
use Rattle.office_base.specs.Refusals.{refusal_number}
use Rattle.office_base.specs.declared.refusal.Refusal.{Refusal}
use Rattle.office_rules.specs.Outcomes.{outcome_word}
use Rattle.office_rules.specs.declared.outcome.Outcome.{Outcome}
use Rattle.office_rules.specs.declared.outcome.Outcome.TheVariants.{Destroyed, Transferred, Sent, Skipped}
use Rattle.office_rules.specs.declared.answer.Answer.{Answer}
use Rattle.office_rules.specs.declared.answer.Answer.TheVariants.{Done, Number, Same, Step, RunClosed, Refused}
use Rattle.office_json.specs.Answers.{answer_line, answer_lines, answer_text}

pub done_line : answer_line Done ≡ codes "{\"done\":true}\n"
unfolding answer_line answer_text serde_json_on_literals
done_line = refl

pub number_line : (n : ℕ) → answer_line (Number n) ≡ codes "{\"number\":" ++ (decimal n ++ codes "}\n")
unfolding answer_line answer_text serde_json_on_literals
number_line n = simp append_assoc

pub same_line : (n : ℕ) → answer_line (Same n) ≡ codes "{\"number\":" ++ (decimal n ++ codes ",\"same\":true}\n")
unfolding answer_line answer_text serde_json_on_literals
same_line n = simp append_assoc

pub step_line : (n : ℕ) (outcome : Outcome) → answer_line (Step n outcome) ≡ codes "{\"outcome\":\"" ++ (outcome_word outcome ++ (codes "\",\"record\":" ++ (decimal n ++ codes "}\n")))
unfolding answer_line answer_text serde_json_on_literals
step_line n Destroyed = simp append_assoc
step_line n Transferred = simp append_assoc
step_line n Sent = simp append_assoc
step_line n Skipped = simp append_assoc

pub run_closed_line : (n : ℕ) → answer_line (RunClosed n) ≡ codes "{\"certificate\":" ++ (decimal n ++ codes "}\n")
unfolding answer_line answer_text serde_json_on_literals
run_closed_line n = simp append_assoc

pub refused_line : (refusal : Refusal) → answer_line (Refused refusal) ≡ codes "{\"refused\":" ++ (decimal (refusal_number refusal) ++ codes "}\n")
unfolding answer_line answer_text serde_json_on_literals
refused_line refusal = simp append_assoc

-- the lines that are left are the next one and those after it
pub next_line : (answers : List Answer) (i : ℕ) (d : Answer) → i < length answers → answer_lines (drop i answers) ≡ answer_line (get_or answers i d) ++ answer_lines (drop (i + 1) answers)
next_line answers i d inside = at_drop_more answer_lines answers i d inside
