use Rattle.std.proofs.Common.{◌≡◌, ◌∙◌, ap, filter}
use Rattle.office_evidence.specs.Parsed.{parsed}
use Rattle.office_evidence.proofs.Chains.{given, given_any, memory, memory_any, passed_any, word_at}
use Rattle.office_evidence.proofs.Kept.{all_lines, first_line, is_entry_line, is_spent_line, kept_entries, kept_spent, second_line, third_line}
use Rattle.office_evidence.proofs.reading.certificate_of.Goals as goal

pub returns-in_err-run-clause-every : goal.returns-in_err-run-clause-every
returns-in_err-run-clause-every c d formed same =
    passed_any (λ it. parsed it ≡ d) c.from_residual.result c.in_err-run.field-0.0 c.from_residual.ensures.1
    (memory c.run_in.result d.run c.in_err-run.field-0.0 (c.run_in.ensures d.run formed.run_few (word_at c.args.lines.now (all_lines d) 0 _ same ∙ first_line d _)) c.in_err-run.was)

pub returns-in_err-day-clause-every : goal.returns-in_err-day-clause-every
returns-in_err-day-clause-every c d formed same =
    passed_any (λ it. parsed it ≡ d) c.from_residual-in_err-day.result c.in_err-day.field-0.0 c.from_residual-in_err-day.ensures.1
    (memory c.day_of.result d.day c.in_err-day.field-0.0 (c.day_of.ensures d.day formed.day (word_at c.args.lines.now (all_lines d) 1 _ same ∙ second_line d _)) c.in_err-day.was)

pub returns-in_err-by-clause-every : goal.returns-in_err-by-clause-every
returns-in_err-by-clause-every c d formed same =
    passed_any (λ it. parsed it ≡ d) c.from_residual-in_err-by.result c.in_err-by.field-0.0 c.from_residual-in_err-by.ensures.1
    (memory c.opener_in.result d.by c.in_err-by.field-0.0 (c.opener_in.ensures d.by formed.by (word_at c.args.lines.now (all_lines d) 2 _ same ∙ third_line d _)) c.in_err-by.was)

pub returns-in_err-entries-clause-every : goal.returns-in_err-entries-clause-every
returns-in_err-entries-clause-every c d formed same =
    passed_any (λ it. parsed it ≡ d) c.from_residual-in_err-entries.result c.in_err-entries.field-0.0 c.from_residual-in_err-entries.ensures.1
    (memory_any (λ read. read.items ≡ d.entries) c.entries_in.result c.in_err-entries.field-0.0 (c.entries_in.ensures.every d.entries formed.entries (ap (filter is_entry_line) same ∙ kept_entries d)) c.in_err-entries.was)

pub returns-in_err-spent-clause-every : goal.returns-in_err-spent-clause-every
returns-in_err-spent-clause-every c d formed same =
    passed_any (λ it. parsed it ≡ d) c.from_residual-in_err-spent.result c.in_err-spent.field-0.0 c.from_residual-in_err-spent.ensures.1
    (memory_any (λ read. read.items ≡ d.spent) c.spent_in.result c.in_err-spent.field-0.0 (c.spent_in.ensures.every d.spent formed.spent (ap (filter is_spent_line) same ∙ kept_spent d)) c.in_err-spent.was)

pub returns-clause-every : goal.returns-clause-every
returns-clause-every c d formed same =
    let run : c.in_ok-run.run' ≡ d.run = given c.run_in.result d.run c.in_ok-run.run' (c.run_in.ensures d.run formed.run_few (word_at c.args.lines.now (all_lines d) 0 _ same ∙ first_line d _)) c.in_ok-run.was in
    let day : c.in_ok-day.day ≡ d.day = given c.day_of.result d.day c.in_ok-day.day (c.day_of.ensures d.day formed.day (word_at c.args.lines.now (all_lines d) 1 _ same ∙ second_line d _)) c.in_ok-day.was in
    let by : c.in_ok-by.by ≡ d.by = given c.opener_in.result d.by c.in_ok-by.by (c.opener_in.ensures d.by formed.by (word_at c.args.lines.now (all_lines d) 2 _ same ∙ third_line d _)) c.in_ok-by.was in
    let entries : c.in_ok-entries.entries.items ≡ d.entries = given_any (λ read. read.items ≡ d.entries) c.entries_in.result c.in_ok-entries.entries (c.entries_in.ensures.every d.entries formed.entries (ap (filter is_entry_line) same ∙ kept_entries d)) c.in_ok-entries.was in
    let spent : c.in_ok-spent.spent.items ≡ d.spent = given_any (λ read. read.items ≡ d.spent) c.spent_in.result c.in_ok-spent.spent (c.spent_in.ensures.every d.spent formed.spent (ap (filter is_spent_line) same ∙ kept_spent d)) c.in_ok-spent.was in
    λ i. record { run = run i; day = day i; by = by i; entries = entries i; spent = spent i }
