-- The numbers of the refusals, by which the least of several is reported. Source: own.
use Rattle.std.specs.Prelude.{ℕ}
use Rattle.office_base.specs.declared.refusal.Refusal.{Refusal}
use Rattle.office_base.specs.declared.refusal.Refusal.TheVariants.{DayBack, BadText, BadNumber, Exists, NoSuch, Full, Closed, ChildOpen, TooDeep, NeedsClass, HeldClass, Lifted, Ended, InTransfer, NotDue, WrongAction, RunOpen, NoRun, NotSent, WrongDigest, NotYet}

abbrev pub refusal_number : Refusal → ℕ
refusal_number DayBack = 1
refusal_number BadText = 2
refusal_number BadNumber = 3
refusal_number Exists = 4
refusal_number NoSuch = 5
refusal_number Full = 6
refusal_number Closed = 7
refusal_number ChildOpen = 8
refusal_number TooDeep = 9
refusal_number NeedsClass = 10
refusal_number HeldClass = 11
refusal_number Lifted = 12
refusal_number Ended = 13
refusal_number InTransfer = 14
refusal_number NotDue = 15
refusal_number WrongAction = 16
refusal_number RunOpen = 17
refusal_number NoRun = 18
refusal_number NotSent = 19
refusal_number WrongDigest = 20
refusal_number NotYet = 21
