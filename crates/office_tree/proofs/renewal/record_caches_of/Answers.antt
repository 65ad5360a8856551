use Rattle.std.proofs.Common.{◌≡◌, length, ap, arith}
use Rattle.office_tree.proofs.Refreshed.{record_caches_all, record_caches_next, record_caches_none}
use Rattle.office_tree.proofs.renewal.record_caches_of.Goals as goal

pub loop-i-init : goal.loop-i-init
loop-i-init c = record_caches_none c.args.directory.now.schedule_numbers c.args.rows.now c.new-record_caches.result.rows.items c.new-record_caches.ensures

pub loop-i-preserved : goal.loop-i-preserved
loop-i-preserved c = record_caches_next c.args.directory.now.schedule_numbers c.args.rows.now c.loop-i.i c.loop-i.record_caches.rows.items c.add.new.self.rows.items c.record_cache-record_cache.result c.loop-i.invariant c.record_cache-record_cache.ensures c.in_ok-add.ensures

pub returns : goal.returns
returns c =
    let many : c.loop-i.i ≡ length c.args.rows.now.records = omega (arith, c.loop-i.auto.i-end, c.loop-i-test.false, ap (λ t. length t.records) c.rows.view_is) in
    record_caches_all c.args.directory.now.schedule_numbers c.args.rows.now c.loop-i.i c.loop-i.record_caches.rows.items c.loop-i.invariant many
