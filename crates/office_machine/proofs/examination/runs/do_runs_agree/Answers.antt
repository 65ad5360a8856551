use Rattle.office_machine.proofs.RunTests.{keys_pass, keys_passed}
use Rattle.office_machine.proofs.examination.runs.do_runs_agree.Goals as goal

pub returns-then-not-are_of_closed_runs-clause-no : goal.returns-then-not-are_of_closed_runs-clause-no
returns-then-not-are_of_closed_runs-clause-no c reported represent =
    let pass = keys_passed c.args.runs.now (λ it. it.is_closed) c.args.certificates.now.entries (λ run there. (represent.certified run).0 there) in
    absurd (cc (c.are_of_closed_runs.ensures.1 pass, c.if-not-are_of_closed_runs.true))

pub returns-clause-yes : goal.returns-clause-yes
returns-clause-yes c reported = record {
  last = c.are_earlier_closed.ensures.yes c.if-not-are_earlier_closed.false;
  certified = keys_pass c.args.runs.now (λ it. it.is_closed) c.args.certificates.now.entries (c.are_of_closed_runs.ensures.0 c.if-not-are_of_closed_runs.false) (c.are_closed_certified.ensures.yes reported);
}

pub returns-clause-no : goal.returns-clause-no
returns-clause-no c reported represent = c.are_closed_certified.ensures.no reported (λ run it at closed. (represent.certified run).1 (it, at, closed))
