use Rattle.std.proofs.Common.{◌≡◌}
use Rattle.std.specs.List.{list_any}
use Rattle.std.specs.Str.{bytes_eq}
use Rattle.serde_json.specs.View.{members_view}
use Rattle.office_json.specs.Members.{are_named}
use Rattle.office_json.proofs.members.are_named.Given as goal

abbrev pub invariant-loop-name : goal.invariant-loop-name
invariant-loop-name l =
    (goal.iterator-loop-name).can_next l.name-iterator
    × (goal.iterator-loop-name).is_finite l.name-iterator
    × (are_named (λ name. list_any (λ other. bytes_eq name other.now) l.names) (members_view l.members.entries)
    ≡ are_named (λ name. list_any (λ other. bytes_eq name other.now) l.names) (members_view l.name-iterator))
