use Rattle.std.proofs.Common.{inl, inr, [], refl}
use Rattle.office_desk.specs.Outcomes.{acts_outcome}
use Rattle.office_commands.proofs.Applications.{answers_alone, performed, unread_by}
use Rattle.office_commands.proofs.apply.apply_at.Goals as goal

pub returns-in-Ok-write_answers-clause-done : goal.returns-in-Ok-write_answers-clause-done
returns-in-Ok-write_answers-clause-done g c =
    let found = c.perform_all-done.new.answers.items in
    performed g.S.Store c.args.desk.now c.perform_all-done.new.self c.args.text.now _ _ c.of_acts.result _ _ c.as_slice.ensures.value c.in-Ok.ensures.ok (acts_outcome c.perform_all-done.result [] found)
    (inl (rw (c.as_slice-in-Ok.ensures.value, answers_alone c.perform_all-done.result found) at c.in-Ok-write_answers.ensures.ok, rw c.as_slice-in-Ok-write_answers.ensures.value at c.of_acts.ensures))
    (rw c.new-answers.ensures.items at c.perform_all-done.ensures.leaves)

pub returns-in-Ok-clause-done : goal.returns-in-Ok-clause-done
returns-in-Ok-clause-done g c =
    let found = c.perform_all-done.new.answers.items in
    performed g.S.Store c.args.desk.now c.perform_all-done.new.self c.args.text.now _ _ _ _ _ c.as_slice.ensures.value c.in-Ok.ensures.ok (acts_outcome c.perform_all-done.result [] found)
    (inr (rw (c.as_slice-in-Ok.ensures.value, answers_alone c.perform_all-done.result found) at c.in-Err-write_answers.ensures.err, refl)) (rw c.new-answers.ensures.items at c.perform_all-done.ensures.leaves)

pub returns-clause-done : goal.returns-clause-done
returns-clause-done g c = inl (record {
  why = unread_by c.args.text.now c.in-Err.fault c.from.result c.in-Err.ensures.err c.from.ensures;
  rows = λ s was. was.1.rows;
  silent = refl;
})
