use Rattle.std.proofs.Common.{◌≤◌, ◌∙◌, List, length, ap, sym, arith}
use Rattle.office_records.specs.Lists.{numbered}
use Rattle.office_records.specs.Tree.{start_in}
use Rattle.office_records.specs.declared.head.Record.{Record}
use Rattle.office_records.specs.declared.status.Status.{Status}
use Rattle.office_tree.proofs.Kept.{record_cache_right}
use Rattle.office_records.proofs.Places.{numbered_or}
use Rattle.office_records.proofs.Reading.{record_within}
use Rattle.office_tree.proofs.rows.Rows.record_cache.Goals as goal

pub returns : goal.returns
returns c =
    let r = c.args.record_no in
    let start = c.start_in-start.ensures ∙ ap (λ t. start_in t.aggregations t.records t.events c.schedule-schedule.result.now r) c.self.view_is in
    let heads = ap (λ t. t.records) c.self.view_is in
    let statuses = ap (λ t. t.statuses) c.self.view_is in
    let within = record_within c.args.self.now r c.requires.there in
    let many : r ≤ length c.self.inside.records.now = omega (arith, within.1, ap length heads) in
    let as_many : r ≤ length c.self.inside.statuses.now = omega (arith, within.1, c.requires.ready.sound.statuses, ap length statuses) in
    record_cache_right c.args.directory.now.schedule_numbers c.args.self.now r c.number_of.result c.plan_of-plan.result.now c.schedule-schedule.result.now _ _ c.start_in-start.result c.due_by.result c.is_candidate.result
    c.number_of.ensures c.plan_of-plan.ensures c.schedule-schedule.ensures start c.due_by.ensures
    (ap (λ (its : List Record). numbered its r) (sym heads) ∙ numbered_or c.self.inside.records.now r _ within.0 many)
    (ap (λ (its : List Status). numbered its r) (sym statuses) ∙ numbered_or c.self.inside.statuses.now r _ within.0 as_many) c.is_candidate.ensures
