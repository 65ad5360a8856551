-- Whether one name alone can destroy a record that others left: one that is due and that nobody confirmed, or one that
-- was sent and whose receipt nobody filed. It decides that the record goes, has a run, and carries the run out.
-- Source: own.
use Rattle.std.specs.Prelude.{Bool, not, ◌&&◌, ◌||◌, None, if◌then◌else◌}
use Rattle.std.specs.Option.{is_some}
use Rattle.office_access.specs.Rights.{may_at_all, may_carry_out, may_in}
use Rattle.office_access.specs.declared.grants.Grants.{Grants}
use Rattle.office_access.specs.declared.kind.Kind.TheVariants as kind
use Rattle.office_access.specs.declared.power.Power.TheVariants as power
use Rattle.office_access.specs.declared.rule.Rules.{Rules}

-- the rights and the rules allow to open a run and to carry that run out
abbrev pub runs_alone : Rules → Grants → Bool
runs_alone rules grants = may_in grants (power.Act kind.OpenRun) None && not rules.opener_does_not_carry_out

-- by a confirmation: while the run of another is open, if no rule keeps whoever has a part in a run from deciding; or
-- before a run of its own, if no rule keeps whoever confirmed from opening it
abbrev pub destroys_by_confirming : Rules → Grants → Bool → Bool
destroys_by_confirming rules grants is_run_open =
    may_at_all grants (power.Act kind.Confirm)
    && not rules.confirmer_does_not_open
    && (if is_run_open then not (is_some rules.changer_does_not_open) else runs_alone rules grants)

-- by a receipt, which says that an archive has the record: the same, with the rule of receipts
abbrev pub destroys_by_receipt : Rules → Grants → Bool → Bool
destroys_by_receipt rules grants is_run_open =
    may_at_all grants (power.Act kind.Receipt)
    && not rules.receiver_does_not_open
    && (is_run_open || runs_alone rules grants)

-- one of the two, and the run is carried out. It matters whether another name has opened a run
abbrev pub destroys_alone : Rules → Grants → Bool → Bool
destroys_alone rules grants is_run_open =
    may_carry_out grants
    && (destroys_by_confirming rules grants is_run_open || destroys_by_receipt rules grants is_run_open)
