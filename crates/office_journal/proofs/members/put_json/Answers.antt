use Rattle.std.proofs.Common.{◌≡◌, ◌<◌, false, rules, subst, sym}
use Rattle.json.specs.Json.{max_depth}
use Rattle.json.specs.Tree.{depth}
use Rattle.json.specs.Value.{value_view}
use Rattle.office_journal.specs.Members.{Puts, json_fields}
use Rattle.office_journal.proofs.Put.{puts_one}
use Rattle.office_journal.proofs.Room.{no_room, room_depth}
use Rattle.office_journal.proofs.members.put_json.Goals as goal

pub returns-then-not-branch-clause-unread : goal.returns-then-not-branch-clause-unread
returns-then-not-branch-clause-unread c =
    let off : c.in_ok-has_room.field-0 ≡ false = search rules in
    λ e read. no_room c.in_ok-has_room.field-0 c.args.text.now off c.in_ok-has_room.ensures read

pub returns-clause-put : goal.returns-clause-put
returns-clause-put c =
    let j = value_view c.in_ok-value.value in
    let shallow : depth j < max_depth = room_depth c.in_ok-has_room.field-0 c.args.text.now j (search rules) c.in_ok-has_room.ensures c.in_ok-value.ensures.ok in
    subst (λ o. Puts c.args.members.now c.value.new.self (json_fields c.args.name.now o)) (sym c.in_ok-value.ensures.ok)
    (puts_one c.args.members.now c.key.new.self c.value.new.self c.args.name.now j c.in_ok-key.ensures.room.0 c.in_ok-value-2.ensures.before
    c.in_ok-key.ensures.ok c.in_ok-value-2.ensures.ok c.in_ok-value.ensures.writable shallow)

pub returns-clause-read : goal.returns-clause-read
returns-clause-read c =
    let j = value_view c.in_ok-value.value in (
      j,
      c.in_ok-value.ensures.ok,
      c.in_ok-value.ensures.unique,
      room_depth c.in_ok-has_room.field-0 c.args.text.now j (search rules) c.in_ok-has_room.ensures c.in_ok-value.ensures.ok,
    )
