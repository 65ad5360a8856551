use Rattle.std.proofs.Common.{◌∙◌, ℕ, Option, None, sym, subst}
use Rattle.std.specs.Prelude.{IsSome}
use Rattle.office_records.proofs.Plan.{get_is}
use Rattle.office_tree.proofs.class_index.ClassIndex.number_of.Goals as goal

pub unreachable-requires : goal.unreachable-requires
unreachable-requires c =
    let found = get_is c.args.self.now.numbers.entries c.args.code.now ∙ sym c.in-None.ensures.value in
    let bad : IsSome {T = ℕ} None = subst (λ (o : Option ℕ). IsSome o) found c.requires in
    cc

pub returns : goal.returns
returns c = get_is c.args.self.now.numbers.entries c.args.code.now ∙ sym c.in-Some.ensures.value
