-- What is closed, spent and last added in the worked office.
use Rattle.std.proofs.Common.{◌≡◌, [], ◌∷◌, Some, None, refl}
use Rattle.office_base.specs.declared.refusal.Refusal.TheVariants.{ChildOpen}
use Rattle.office_records.specs.Conditions.{first_of}
use Rattle.office_records.specs.Disposal.{is_spent}
use Rattle.office_records.specs.Tree.{last_addition, chain, above_in}
use Rattle.office_records.specs.declared.status.Status.{Status}
use Rattle.office_rules.specs.Conditions.{refusals_of_close_aggregation}
use Rattle.office_rules.specs.Meanings.{IsAccepted}
use Rattle.office_rules.specs.Runs.{spent_list}
use Rattle.office_rules.specs.Worked.{filing_day, filing_due, base_office, ended_office, child_closed, both_closed, ending_entry, twice_added}

pub child_open : first_of (refusals_of_close_aggregation ended_office filing_due 1) ≡ Some ChildOpen
child_open = refl

pub child_is_closed : IsAccepted (refusals_of_close_aggregation child_closed filing_due 1)
child_is_closed = refl

pub both_spent : spent_list both_closed.tree (ending_entry ∷ []) ≡ 1 ∷ 2 ∷ []
unfolding spent_list is_spent above_in chain
both_spent = refl

pub child_spent : spent_list child_closed.tree (ending_entry ∷ []) ≡ 2 ∷ []
unfolding spent_list is_spent above_in chain
child_spent = refl

pub later_addition : (status : Status) → last_addition (twice_added status).records 1 ≡ Some filing_due
unfolding last_addition
later_addition status = refl

pub one_addition : last_addition base_office.tree.records 1 ≡ Some filing_day
unfolding last_addition
one_addition = refl

pub no_addition : (status : Status) → last_addition (twice_added status).records 2 ≡ None
unfolding last_addition
no_addition status = refl
