use Rattle.std.proofs.Common.{◌∙◌, ◌-◌, ◌≤◌, length, sym, ap, arith, length-set, subst}
use Rattle.office_records.specs.Lists.{numbered}
use Rattle.office_tree.specs.RecordCaches.{IsRecordCache}
use Rattle.office_tree.specs.declared.record_cache.RecordCache.{RecordCache}
use Rattle.office_records.proofs.Reading.{record_within}
use Rattle.office_tree.proofs.Refreshed.{written_here, written_other}
use Rattle.office_tree.proofs.record_caches.RecordCaches.refresh.Goals as goal

pub returns : goal.returns
returns c =
    let r = c.args.record_no in
    let looks = c.args.self.now.rows.items in
    let look = c.record_cache-record_cache.result in
    let put = c.put.ensures in
    let within = record_within c.args.rows.now r c.requires.there in
    let high : r ≤ length looks = omega (arith, within.1, c.requires.many) in
    record {
      count = ap length put ∙ length-set looks (r - 1) look;
      here = λ it e.
          let at = ap (λ its. numbered its r) (sym put) ∙ e in
          subst (λ (o : RecordCache). IsRecordCache c.args.directory.now.schedule_numbers c.args.rows.now r o) (written_here looks r look it within.0 high at) c.record_cache-record_cache.ensures;
      others = λ q other. ap (λ its. numbered its q) put ∙ written_other looks r look q within.0 high other;
    }
