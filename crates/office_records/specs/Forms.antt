-- When what is in a tree is of its form and within its limits. The types of the code see to it; here it is said of
-- states, for rows that come from elsewhere. Source: own.
use Rattle.std.specs.Prelude.{◌≡◌, ◌<◌, ◌≤◌, ℕ, true, List, length, Some, IfSome}
use Rattle.std.specs.List.{All}
use Rattle.std.specs.FinMap.{get}
use Rattle.office_days.specs.Limits.{IsDayNumber, IsDueNumber, longest}
use Rattle.office_records.specs.Codes.{is_code}
use Rattle.office_records.specs.TextForms.{is_text}
use Rattle.office_records.specs.Lists.{numbered}
use Rattle.office_records.specs.Tree.{TreeState}
use Rattle.office_records.specs.declared.schedule.Schedule.{Schedule}
use Rattle.office_records.specs.declared.class.Class.{Class}
use Rattle.office_records.specs.declared.aggregation.Aggregation.{Aggregation}
use Rattle.office_records.specs.declared.event.Event.{Event}
use Rattle.office_records.specs.declared.head.Record.{Record}
use Rattle.office_records.specs.declared.head.Review.{Review}
use Rattle.office_records.specs.declared.head.Confirmation.{Confirmation}
use Rattle.office_records.specs.declared.head.Receipt.{Receipt}

abbrev pub IsCode : List ℕ → Type 0
IsCode text = is_code text ≡ true

abbrev pub IsText : List ℕ → Type 0
IsText text = is_text text ≡ true

-- 32 bytes
abbrev pub IsDigest : List ℕ → Type 0
IsDigest digest = (length digest ≡ 32) × All (λ b. b < 256) digest

-- its period is within the limit of its unit
abbrev pub IsWellFormedSchedule : Schedule → Type 0
IsWellFormedSchedule it = it.period.count ≤ longest it.period.unit

pub record IsWellFormedClass (it : Class) : Type 0 where
  pub title : IsText it.title
  pub schedule : IsCode it.schedule

pub record IsWellFormedAggregation (it : Aggregation) : Type 0 where
  pub ref_text : IsText it.ref_text
  pub title : IsText it.title
  pub class : IfSome it.class IsCode
  pub closed : IfSome it.closed IsDayNumber

pub record IsWellFormedReview (it : Review) : Type 0 where
  pub day : IsDayNumber it.day
  pub by : IsText it.by

pub record IsWellFormedConfirmation (it : Confirmation) : Type 0 where
  pub due : IsDueNumber it.due
  pub day : IsDayNumber it.day
  pub by : IsText it.by

pub record IsWellFormedReceipt (it : Receipt) : Type 0 where
  pub day : IsDayNumber it.day
  pub by : IsText it.by

-- a content has at most 262,144 bytes
pub record IsWellFormedRecord (head : Record) : Type 0 where
  pub ref_text : IsText head.ref_text
  pub title : IsText head.title
  pub originated : IsDayNumber head.originated
  pub added : IsDayNumber head.added
  pub class : IfSome head.class IsCode
  pub schedule : IfSome head.schedule IsCode
  pub length_few : head.length ≤ 262_144
  pub digest : IsDigest head.digest
  pub review : IfSome head.review IsWellFormedReview
  pub confirmation : IfSome head.confirmation IsWellFormedConfirmation
  pub receipt : IfSome head.receipt IsWellFormedReceipt

-- the two days of an event, and who reported it
pub record IsWellFormedEvent (it : Event) : Type 0 where
  pub occurred : IsDayNumber it.occurred
  pub day : IsDayNumber it.day
  pub by : IsText it.by

-- every text, code, day and number of a tree is of its form and within its limit
pub record IsWellFormedTree (tree : TreeState) : Type 0 where
  pub schedules : (code : List ℕ) (it : Schedule) → get tree.schedules code ≡ Some it
      → IsCode code × IsWellFormedSchedule it
  pub classes : (code : List ℕ) (it : Class) → get tree.classes code ≡ Some it → IsCode code × IsWellFormedClass it
  pub aggregations : (a : ℕ) (it : Aggregation) → numbered tree.aggregations a ≡ Some it → IsWellFormedAggregation it
  pub records : (r : ℕ) (head : Record) → numbered tree.records r ≡ Some head → IsWellFormedRecord head
  pub events : (r : ℕ) (it : Event) → get tree.events r ≡ Some it → IsWellFormedEvent it
