use Rattle.std.proofs.Common.{subst, sym, List, ℕ}
use Rattle.std.specs.Io.KnownBytes.{Appends}
use Rattle.office_base.specs.Output.{AppendsSome}
use Rattle.office_base.proofs.Written.{appends_both, on_err, some_before, some_then}
use Rattle.office_json.proofs.AnswerLines.{next_line}
use Rattle.office_json.proofs.answer_lines.write_answers.Goals as goal

pub returns-in_err-write_answer-clause-err : goal.returns-in_err-write_answer-clause-err
returns-in_err-write_answer-clause-err g c =
    on_err _ ((c.loop-answer.invariant _).1 (subst (λ (x : List ℕ). AppendsSome (g.W.Write.contents c.loop-answer.out) (g.W.Write.contents c.write_answer.new.out) x)
    (sym (next_line c.args.answers.now c.loop-answer.answer-index _ c.loop-answer-test.true)) (some_before _ _ _ _ c.in_err-write_answer.ensures.err)))

pub loop-answer-preserved : goal.loop-answer-preserved
loop-answer-preserved g c = λ new.
    let next = sym (next_line c.args.answers.now c.loop-answer.answer-index _ c.loop-answer-test.true) in (
      λ left. (c.loop-answer.invariant new).0 (subst (λ (x : List ℕ). Appends (g.W.Write.contents c.loop-answer.out) new x) next (appends_both _ _ _ _ _ c.in_ok-write_answer.ensures.ok left)),
      λ some. (c.loop-answer.invariant new).1 (subst (λ (x : List ℕ). AppendsSome (g.W.Write.contents c.loop-answer.out) new x) next (some_then _ _ _ _ _ c.in_ok-write_answer.ensures.ok some)),
    )
