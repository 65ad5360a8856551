use Rattle.std.proofs.Common.{◌≡◌, [], ◌∷◌, ◌++◌, ◌⊎◌, inl, inr, ℕ, append_assoc, sym, ap, ◌∙◌}
use Rattle.office_records.specs.declared.head.Record.{Record}
use Rattle.office_records.specs.declared.status.Status.TheVariants as status
use Rattle.office_rules.specs.declared.outcome.Outcome.{Outcome}
use Rattle.office_rules.specs.declared.outcome.Outcome.TheVariants as outcome
use Rattle.office_machine.specs.RunWrites.{outcome_writes}
use Rattle.office_rules.specs.declared.rows.RowWrite.TheVariants as row_write
use Rattle.office_machine.proofs.run_step.with_outcome.Goals as goal

ended : (o : Outcome) (r : ℕ) (head : Record) → (o ≡ outcome.Destroyed) ⊎ (o ≡ outcome.Transferred) → outcome_writes o r head ≡ row_write.Record r head status.Ended ∷ row_write.DeleteContent r ∷ []
ended o r head (inl is) = ap (λ (it : Outcome). outcome_writes it r head) is
ended o r head (inr is) = ap (λ (it : Outcome). outcome_writes it r head) is

pub returns-in_ok-push-in-Destroyed : goal.returns-in_ok-push-in-Destroyed
returns-in_ok-push-in-Destroyed c = λ head there.
    let gone = row_write.DeleteContent c.args.record_no ∷ [] in
    c.in_ok-push-in-Destroyed.ensures.items
    ∙ ap (λ ws. ws ++ gone) (c.in_ok-writes-in-Destroyed.ensures head there)
    ∙ append_assoc c.args.writes.items (row_write.Record c.args.record_no head status.Ended ∷ []) gone
    ∙ ap (λ ws. c.args.writes.items ++ ws) (sym (ended c.args.outcome c.args.record_no head c.in-Destroyed.is))
