use Rattle.std.proofs.Common.{length, ap, sym, subst, arith}
use Rattle.std.specs.FinMap.{FinMap, from_entries}
use Rattle.office_tree.specs.ChildLists.{HasChildren, HasLinks}
use Rattle.office_tree.specs.Indexes.{Indexes, aggregation_refs, record_refs}
use Rattle.office_tree.specs.ScheduleNumbers.{AreNumbered}
use Rattle.office_records.specs.Sound.{IsSound}
use Rattle.office_records.specs.Tree.{TreeState, code_cmp}
use Rattle.office_records.specs.declared.schedule.Schedule.{Schedule}
use Rattle.office_tree.proofs.Kept.{last_additions}
use Rattle.office_tree.proofs.Linked.{parent_low}
use Rattle.office_records.proofs.Places.{numbered_within}
use Rattle.office_tree.proofs.derived.Derived.of.Goals as goal

pub summaries_of-requires : goal.summaries_of-requires
summaries_of-requires c =
    let sound = subst IsSound (sym c.rows.view_is) c.requires in
    record {
      forest = sound.forest;
      roots = sound.names.root_classes;
      containers = sound.names.containers;
      few = sound.limits.records_few;
      statuses = sound.statuses;
    }

pub link_aggregations-requires-clause-within : goal.link_aggregations-requires-clause-within
link_aggregations-requires-clause-within c = λ a it there.
    let xs = c.rows.inside.aggregations.now in
    let sound = subst IsSound (sym c.rows.view_is) c.requires in
    parent_low xs a (length xs) it sound.forest there (omega (arith, (numbered_within xs a it there).1))

pub record_caches_of-requires : goal.record_caches_of-requires
record_caches_of-requires c =
    let right = c.in_ok-summaries.ensures c.args.rows.now c.requires (sym (ap (λ t. t.aggregations) c.rows.view_is)) (sym (ap (λ t. t.records) c.rows.view_is)) (sym (ap (λ t. t.statuses) c.rows.view_is)) in
    record {
      sound = c.requires;
      schedules = subst (λ (schedules : FinMap code_cmp Schedule). AreNumbered schedules c.in_ok-schedule_numbers.schedule_numbers) (ap (λ t. t.schedules) c.rows.view_is) c.in_ok-schedule_numbers.ensures;
      last = last_additions c.args.rows.now c.in_ok-summaries.summaries.items right;
    }

pub returns : goal.returns
returns c =
    let right = c.in_ok-summaries.ensures c.args.rows.now c.requires (sym (ap (λ t. t.aggregations) c.rows.view_is)) (sym (ap (λ t. t.records) c.rows.view_is)) (sym (ap (λ t. t.statuses) c.rows.view_is)) in
    record {
      stored = record {
        sound = c.requires;
        aggregations = subst (λ its. Indexes (from_entries {R = code_cmp} c.in_ok-by_aggregation_ref.by_aggregation_ref.entries) (aggregation_refs its)) (ap (λ t. t.aggregations) c.rows.view_is) c.in_ok-by_aggregation_ref.ensures;
        records = subst (λ its. Indexes (from_entries {R = code_cmp} c.in_ok-by_record_ref.by_record_ref.entries) (record_refs its)) (ap (λ t. t.records) c.rows.view_is) c.in_ok-by_record_ref.ensures;
        schedule_numbers = subst (λ (schedules : FinMap code_cmp Schedule). AreNumbered schedules c.in_ok-schedule_numbers.schedule_numbers) (ap (λ t. t.schedules) c.rows.view_is) c.in_ok-schedule_numbers.ensures;
        record_caches = c.in_ok-record_caches.ensures;
        summaries = right;
        records_in = subst (λ (t : TreeState). HasLinks t c.in_ok-records_in.records_in.last.items c.in_ok-records_in.records_in.before.items) c.rows.view_is c.in_ok-records_in.ensures;
      };
      aggregations_in = subst (λ (t : TreeState). HasChildren t.aggregations c.in_ok-aggregations_in.aggregations_in.last.items c.in_ok-aggregations_in.aggregations_in.before.items) c.rows.view_is c.in_ok-aggregations_in.ensures;
      class_index = c.in_ok-class_index.ensures;
    }
