-- What is right of the changes by which an own class of an aggregation or of a record is set or taken away.
use Rattle.std.proofs.Common.{◌≡◌, ℕ, List, ◌∷◌, Option, Some, None, ℤ, refl, sym, ap, subst, ◌∙◌, arith}
use Rattle.office_records.specs.Conditions.{first_of}
use Rattle.office_records.specs.Effects.{reclassified}
use Rattle.office_records.specs.Lasting.{AggregationStays, HeadStays}
use Rattle.office_records.specs.Lists.{numbered, edited, put}
use Rattle.office_records.specs.Sound as tree
use Rattle.office_records.specs.declared.aggregation.Aggregation.{Aggregation}
use Rattle.office_records.specs.declared.classified.Classified.{Classified}
use Rattle.office_records.specs.declared.classified.Classified.TheVariants as classified
use Rattle.office_records.specs.declared.head.Record.{Record}
use Rattle.office_records.specs.declared.status.Status.{Status}
use Rattle.office_records.proofs.Amending.{IsSound-reclassify}
use Rattle.office_records.proofs.LastingRows.{keeps_aggregation, keeps_head}
use Rattle.office_records.proofs.Places.{numbered_within}
use Rattle.office_records.proofs.Putting.{put-edited, put_same}
use Rattle.office_rules.specs.Acts.{IsChangeTo}
use Rattle.office_rules.specs.Conditions.{conditions_of_reclassifying, refusals_of_reclassify}
use Rattle.office_rules.specs.State.{Office, with_contents}
use Rattle.office_rules.specs.Steps.{step_reclassify}
use Rattle.office_rules.specs.declared.answer.Answer.TheVariants.{Done}
use Rattle.office_rules.specs.declared.change.Change.{Change}
use Rattle.office_rules.specs.declared.rows.RowWrite.TheVariants as row_write
use Rattle.office_rules.proofs.Accepted.{accepted_by_tree}
use Rattle.office_machine.specs.DayWrites.{day_writes}
use Rattle.office_machine.proofs.DecidedTree.{put_change}

-- the tree stays sound
kept : (s : Office) (day : ℤ) (what : Classified) (class : Option (List ℕ)) → first_of (refusals_of_reclassify s day what class) ≡ None → tree.IsSound s.tree → tree.IsSound (reclassified s.tree what class)
kept s day what class accepted sound = IsSound-reclassify s.tree what class sound (accepted_by_tree s day what class accepted)

pub aggregation_reclassified : (s : Office) (day : ℤ) (a : ℕ) (class : Option (List ℕ)) (old it : Aggregation) (change : Change)
    → tree.IsSound s.tree → first_of (refusals_of_reclassify s day (classified.Aggregation a) class) ≡ None → numbered s.tree.aggregations a ≡ Some old → it ≡ record old { class = class } → Done ≡ change.answer
    → change.writes.items ≡ row_write.Aggregation a it ∷ day_writes s day → IsChangeTo s (λ contents. step_reclassify (with_contents s contents) day (classified.Aggregation a) class) change
aggregation_reclassified s day a class old it change sound accepted there is same writes =
    let what = classified.Aggregation a in
    let after : List Aggregation = edited s.tree.aggregations a (λ x. record x { class = class }) in
    let puts : put s.tree.aggregations a it ≡ after = ap (put s.tree.aggregations a) is ∙ put-edited s.tree.aggregations a (λ x. record x { class = class }) old there in
    let within = numbered_within s.tree.aggregations a old there in
    put_change s day (conditions_of_reclassifying s what class) Done (reclassified s.tree what class) (row_write.Aggregation a it) change accepted same refl writes (
      within.0,
      omega (arith, within.1),
      subst (λ (aggregations : List Aggregation). tree.IsSound (record s.tree { aggregations = aggregations })) (sym puts) (kept s day what class accepted sound),
      keeps_aggregation s.tree.aggregations a old it there (subst (AggregationStays old) (sym is) (record { ref_text = refl; parent = refl })),
    )
    (λ contents. ap (λ (aggregations : List Aggregation). with_contents (record s { tree = record s.tree { aggregations = aggregations } }) contents) puts)

pub record_reclassified : (s : Office) (day : ℤ) (r : ℕ) (class : Option (List ℕ)) (old head : Record) (status : Status) (change : Change)
    → tree.IsSound s.tree → first_of (refusals_of_reclassify s day (classified.Record r) class) ≡ None → numbered s.tree.records r ≡ Some old → numbered s.tree.statuses r ≡ Some status → head ≡ record old { class = class } → Done ≡ change.answer
    → change.writes.items ≡ row_write.Record r head status ∷ day_writes s day → IsChangeTo s (λ contents. step_reclassify (with_contents s contents) day (classified.Record r) class) change
record_reclassified s day r class old head status change sound accepted there representing is same writes =
    let what = classified.Record r in
    let heads = ap (put s.tree.records r) is ∙ put-edited s.tree.records r (λ x. record x { class = class }) old there in
    let statuses = put_same s.tree.statuses r status representing in
    let puts : record s.tree { records = put s.tree.records r head; statuses = put s.tree.statuses r status } ≡ reclassified s.tree what class = λ i. record s.tree { records = heads i; statuses = statuses i } in
    let within = numbered_within s.tree.records r old there in
    put_change s day (conditions_of_reclassifying s what class) Done (reclassified s.tree what class) (row_write.Record r head status) change accepted same refl writes
    (within.0, omega (arith, within.1), subst tree.IsSound (sym puts) (kept s day what class accepted sound), keeps_head s.tree.records r old head there (subst (HeadStays old) (sym is) (record { ref_text = refl; aggregation = refl; added = refl })))
    (λ contents. ap (λ t. with_contents (record s { tree = t }) contents) puts)
