-- A certificate whose lines name whoever signed in. Source: own.
use Rattle.std.specs.Prelude.{◌≡◌, ◌<◌, ℕ, ℤ, List, Some, slice_get}
use Rattle.office_access.specs.Deeds.{Deed}
use Rattle.office_access.specs.Settings.{signs}
use Rattle.office_evidence.specs.declared.parsed.EntryLine.{EntryLine}
use Rattle.office_records.specs.declared.action.Action.{Action}
use Rattle.office_rules.specs.declared.act.Act.TheVariants.{Confirm, OpenRun}

-- before this place one of the deeds confirmed the record of the line, and whom the line names is what the name signs
-- that signed in for it
pub record IsSignedLine (deeds : List Deed) (place : ℕ) (line : EntryLine) : Type 0 where
  pub earlier : ℕ
  pub before : earlier < place
  pub deed : Deed
  pub done : slice_get deeds earlier ≡ Some deed
  pub day : ℤ
  pub action : Action
  pub act : deed.act ≡ Confirm day line.record_no action line.confirmed_by
  pub signed : signs deed.settings deed.name ≡ line.confirmed_by

-- the deed at this place opened a run, and whom the run names is what the name signs that signed in for it
pub record IsSignedOpening (deeds : List Deed) (place : ℕ) (day : ℤ) (by : List ℕ) : Type 0 where
  pub deed : Deed
  pub done : slice_get deeds place ≡ Some deed
  pub act : deed.act ≡ OpenRun day by
  pub signed : signs deed.settings deed.name ≡ by
