use Rattle.office_tree.specs.contracts.tree.Tree.{the_view}
use Rattle.office_tree.proofs.ReadKept.{look_read}
use Rattle.office_tree.proofs.tree.Tree.record_cache.Goals as goal

pub returns-clause-due : goal.returns-clause-due
returns-clause-due c = (look_read c.self.inside.derived.directory.schedule_numbers (the_view c.self.inside) c.args.self.now c.self.inside.derived.per_record.record_caches.rows.items c.args.record_no c.index.result.now c.self.invariant.stored.record_caches c.self.view_is c.requires c.index.ensures).due

pub returns-clause-candidate : goal.returns-clause-candidate
returns-clause-candidate c = (look_read c.self.inside.derived.directory.schedule_numbers (the_view c.self.inside) c.args.self.now c.self.inside.derived.per_record.record_caches.rows.items c.args.record_no c.index.result.now c.self.invariant.stored.record_caches c.self.view_is c.requires c.index.ensures).candidate
