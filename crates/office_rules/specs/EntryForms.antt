-- When what is in an entry is of its form and within its limits. Source: own.
use Rattle.std.specs.Prelude.{IfSome}
use Rattle.office_days.specs.Limits.{IsDueNumber}
use Rattle.office_records.specs.Forms.{IsCode, IsText}
use Rattle.office_rules.specs.declared.entry.Entry.{Entry}

-- the codes, the text and the due day of an entry
pub record IsWellFormedEntry (entry : Entry) : Type 0 where
  pub class : IsCode entry.class
  pub schedule : IsCode entry.schedule
  pub due : IsDueNumber entry.due
  pub confirmed_by : IsText entry.confirmed_by
  pub hold : IfSome entry.hold IsCode
