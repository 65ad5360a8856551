use Rattle.std.proofs.Common.{◌≡◌, drop}
use Rattle.serde_json.specs.View.{members_view}
use Rattle.office_notes.specs.Objects.{with_members}
use Rattle.office_notes.specs.Parts.{members_data}
use Rattle.office_notes.proofs.object.put_all.Given as goal

abbrev pub invariant-loop-member : goal.invariant-loop-member
invariant-loop-member l =
    with_members (members_data (drop l.member-index l.members)) (members_view l.map.entries)
    ≡ with_members (members_data l.members) (members_view l.initial.map.entries)
