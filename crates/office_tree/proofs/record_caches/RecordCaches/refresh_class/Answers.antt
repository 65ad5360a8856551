use Rattle.std.proofs.Common.{◌≡◌, ◌<◌, ◌∙◌, Some, ap, length, refl, sym, arith}
use Rattle.office_records.specs.Lists.{numbered}
use Rattle.office_tree.specs.RecordCaches.{IsRecordCache}
use Rattle.office_tree.specs.declared.record_cache.RecordCache.{RecordCache}
use Rattle.office_records.proofs.Places.{numbered_within}
use Rattle.office_records.proofs.Reading.{record_there}
use Rattle.office_tree.proofs.Visits.{rest_next, walk_ends, walk_goes, walk_starts}
use Rattle.office_tree.proofs.record_caches.RecordCaches.refresh_class.Goals as goal

pub loop-at-init : goal.loop-at-init
loop-at-init c =
    let m = c.args.class_lists.now in
    record {
      count = refl;
      walked = walk_starts m.first.items m.next.items m.previous.items m.class.items m.linked c.args.class c.first-at.result (λ r. (it : RecordCache) → numbered c.args.self.now.rows.items r ≡ Some it → IsRecordCache c.args.directory.now.schedule_numbers c.args.rows.now r it) c.requires.there.0 c.first-at.ensures;
      others = λ r apart. refl;
    }

pub refresh-requires-clause-there : goal.refresh-requires-clause-there
refresh-requires-clause-there c =
    let within = numbered_within c.args.class_lists.now.class.items c.loop-at.at c.args.class (c.loop-at.invariant.walked.here (omega (arith, c.loop-at-test.true))) in
    record_there c.args.rows.now c.loop-at.at (within.0, omega (arith, within.1, c.requires.all))

pub loop-at-smaller : goal.loop-at-smaller
loop-at-smaller c =
    let m = c.args.class_lists.now in
    let is = ap length (rest_next m.first.items m.next.items m.previous.items m.class.items m.linked c.loop-at.at c.next-at.result (omega (arith, c.loop-at-test.true)) c.next-at.ensures) in
    omega (arith, is)

pub loop-at-preserved : goal.loop-at-preserved
loop-at-preserved c =
    let m = c.args.class_lists.now in
    let at = c.loop-at.at in
    let some : 0 < at = omega (arith, c.loop-at-test.true) in
    let its = c.loop-at.invariant.walked.here some in
    record {
      count = c.refresh.ensures.count ∙ c.loop-at.invariant.count;
      walked =
          walk_goes m.first.items m.next.items m.previous.items m.class.items m.linked c.args.class at c.next-at.result
          (λ r. (it : RecordCache) → numbered c.loop-at.self.rows.items r ≡ Some it → IsRecordCache c.args.directory.now.schedule_numbers c.args.rows.now r it)
          (λ r. (it : RecordCache) → numbered c.refresh.new.self.rows.items r ≡ Some it → IsRecordCache c.args.directory.now.schedule_numbers c.args.rows.now r it)
          some c.next-at.ensures c.loop-at.invariant.walked c.refresh.ensures.here
          (λ r other done it e. done it (sym (c.refresh.ensures.others r other) ∙ e));
      others = λ r apart. c.refresh.ensures.others r (λ same. apart (ap (numbered m.class.items) same ∙ its)) ∙ c.loop-at.invariant.others r apart;
    }

pub returns : goal.returns
returns c = record {
  count = c.loop-at.invariant.count;
  here = walk_ends c.args.class_lists.now.next.items c.args.class_lists.now.class.items c.args.class c.loop-at.at (λ r. (it : RecordCache) → numbered c.loop-at.self.rows.items r ≡ Some it → IsRecordCache c.args.directory.now.schedule_numbers c.args.rows.now r it) (omega (arith, c.loop-at-test.false)) c.loop-at.invariant.walked;
  others = c.loop-at.invariant.others;
}
