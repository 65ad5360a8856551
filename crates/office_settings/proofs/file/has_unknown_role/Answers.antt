use Rattle.std.proofs.Common.{◌≡◌, ◌∙◌, ℕ, List, map, not, Bool, sym, ap}
use Rattle.std.specs.List.{list_all}
use Rattle.office_settings.specs.Files.{is_described, roles_of}
use Rattle.office_settings.proofs.Marks.{list_all_map}
use Rattle.office_settings.proofs.file.has_unknown_role.Goals as goal

unknown_by : {X : Type 0} (p : List ℕ → Bool) (f : X → List ℕ) (roles : List X) (given : List (List ℕ)) (answer : Bool)
    → answer ≡ list_all (λ role. p (f role)) roles → map f roles ≡ given → not answer ≡ not (list_all p given)
unknown_by p f roles given answer is same = ap not (is ∙ sym (list_all_map p f roles) ∙ ap (list_all p) same)

pub returns : goal.returns
returns c =
    unknown_by (is_described c.args.entries.now) (λ w. w.now) c.roles.result.now (roles_of c.args.entry.now.line) c.are_described.result
    c.are_described.ensures (c.roles.ensures ∙ ap roles_of c.statement.ensures)
