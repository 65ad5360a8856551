use Rattle.std.proofs.Common.{ap}
use Rattle.serde_json.proofs.Views.{view-Object}
use Rattle.serde_json.specs.View.{members_view}
use Rattle.office_json.proofs.RecordMembers.{all_put}
use Rattle.office_json.proofs.Floatless.{record_has_none}
use Rattle.office_json.proofs.record_json.record_value.Goals as goal

pub returns-clause-value : goal.returns-clause-value
returns-clause-value c =
    let none = ap (λ entries. members_view entries) c.new-map.ensures.empty in
    rw (view-Object c.put_last.new.map)
    (all_put _ _ _ _ _ _ (rw none at c.in_ok-put_first.ensures) c.in_ok-put_second.ensures c.in_ok-put_third.ensures c.in_ok-put_last.ensures)

pub returns-clause-no_float : goal.returns-clause-no_float
returns-clause-no_float c = rw (returns-clause-value c) (record_has_none c.args.reported.now _)
