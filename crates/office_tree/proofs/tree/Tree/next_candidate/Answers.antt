use Rattle.office_tree.specs.contracts.tree.Tree.{the_view}
use Rattle.office_tree.proofs.CandidatesMarked.{found_as, none_as, there_as}
use Rattle.office_tree.proofs.tree.Tree.next_candidate.Goals as goal

pub returns : goal.returns
returns c =
    let stored = c.self.invariant.stored in
    let looks = c.self.inside.derived.per_record.record_caches.rows.items in
    let found = c.next_candidate.ensures in
    record {
      there = there_as c.self.inside.derived.directory.schedule_numbers (the_view c.self.inside) c.args.self.now looks stored.record_caches stored.sound c.self.view_is c.args.above c.next_candidate.result found.higher found.there;
      found = found_as c.self.inside.derived.directory.schedule_numbers (the_view c.self.inside) c.args.self.now looks stored.record_caches stored.sound c.self.view_is c.args.above c.next_candidate.result found.higher found.candidate found.between;
      none = none_as c.self.inside.derived.directory.schedule_numbers (the_view c.self.inside) c.args.self.now looks stored.record_caches stored.sound c.self.view_is c.args.above c.next_candidate.result found.none;
    }
