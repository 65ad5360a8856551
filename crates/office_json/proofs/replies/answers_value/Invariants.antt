use Rattle.std.proofs.Common.{◌≡◌, map, take}
use Rattle.serde_json.specs.View.{view}
use Rattle.office_json.specs.Answers.{answer_data}
use Rattle.office_json.proofs.replies.answers_value.Given as goal

abbrev pub invariant-loop-answer : goal.invariant-loop-answer
invariant-loop-answer l = map view l.values.items ≡ map answer_data (take l.answer-index l.answers)
