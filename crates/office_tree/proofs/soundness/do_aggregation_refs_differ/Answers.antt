use Rattle.std.proofs.Common.{length, sym, ◌∙◌}
use Rattle.std.proofs.lemmas.Bool.Decides.{Decides-eqb}
use Rattle.office_records.specs.declared.aggregation.Aggregation.{Aggregation}
use Rattle.office_tree.proofs.CountedRefs.{counted_differ, differ_counted, not_same}
use Rattle.office_tree.proofs.soundness.do_aggregation_refs_differ.Goals as goal

pub returns-clause-yes : goal.returns-clause-yes
returns-clause-yes c as_many =
    counted_differ (λ (it : Aggregation). it.ref_text) c.args.aggregations.now c.args.index.now.entries c.requires c.len.ensures.ordered
    (sym c.len.ensures.len ∙ (Decides-eqb c.len.result (length c.args.aggregations.now)).0 as_many)

pub returns-clause-no : goal.returns-clause-no
returns-clause-no c fewer differ =
    not_same _ ((Decides-eqb c.len.result (length c.args.aggregations.now)).1
    (c.len.ensures.len ∙ differ_counted (λ (it : Aggregation). it.ref_text) c.args.aggregations.now c.args.index.now.entries c.requires c.len.ensures.ordered differ))
    fewer
