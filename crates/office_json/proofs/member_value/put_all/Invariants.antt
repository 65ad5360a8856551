use Rattle.std.proofs.Common.{◌≡◌, drop}
use Rattle.serde_json.specs.View.{members_view}
use Rattle.office_json.specs.MemberValues.{with_members}
use Rattle.office_json.proofs.member_value.put_all.Given as goal

abbrev pub invariant-loop-member : goal.invariant-loop-member
invariant-loop-member l =
    with_members (drop l.member-index l.members) (members_view l.map.entries) ≡ with_members l.members (members_view l.initial.map.entries)
