-- Words in which the laws are reported. Source: own.
use Rattle.std.specs.Prelude.{◌≡◌, ◌<◌, ◌≤◌, ℕ, Bool, true, List, length, Option, Some, None, IsTrue}
use Rattle.office_base.specs.declared.refusal.Refusal.{Refusal}
use Rattle.office_records.specs.Conditions.{first_of}
use Rattle.office_records.specs.Forms.{IsCode, IsText}
use Rattle.office_days.specs.Limits.{IsDayNumber}
use Rattle.office_rules.specs.Holds.{is_held}
use Rattle.office_rules.specs.declared.outcome.Outcome.TheVariants.{Destroyed, Transferred}
use Rattle.office_rules.specs.Disposing.{is_ready}
use Rattle.office_rules.specs.NewRecords.{NewRecord}
use Rattle.office_rules.specs.Runs.{cursor_of, run_day}
use Rattle.office_rules.specs.State.{Office}
use Rattle.office_rules.specs.declared.answer.Answer.{Answer}
use Rattle.office_rules.specs.declared.answer.Answer.TheVariants.{Step}
use Rattle.std.specs.Prelude.{IfSome}

-- no condition of an act's table holds
abbrev pub IsAccepted : List (Refusal × Bool) → Type 0
IsAccepted conditions = first_of conditions ≡ None

-- the record is held, as the office is
abbrev pub IsHeldIn : Office → ℕ → Type 0
IsHeldIn s r = is_held s.holds s.tree r ≡ true

-- the record whose end an answer reports
abbrev pub ended_by : Answer → Option ℕ
ended_by (Step r Destroyed) = Some r
ended_by (Step r Transferred) = Some r
ended_by _ = None

-- a record is a candidate of a run: it is there, above the cursor, and ready
pub record IsCandidate (s : Office) (run r : ℕ) : Type 0 where
  pub above : cursor_of s run < r
  pub there : r ≤ length s.tree.records
  pub ready : IsTrue (is_ready s (run_day s run) r)

-- the forms of what is asked with a new record
pub record IsWellFormedNewRecord (new : NewRecord) : Type 0 where
  pub ref_text : IsText new.ref_text
  pub title : IsText new.title
  pub originated : IsDayNumber new.originated
  pub class : IfSome new.class IsCode
  pub schedule : IfSome new.schedule IsCode
  pub content_few : length new.content ≤ 262_144
