-- Which records a disposal run takes once they are due. Source: own.
use Rattle.std.specs.Prelude.{◌≡◌, ◌<◌, ℕ, Bool, true, false, ◌&&◌, Option, Some, None}
use Rattle.office_records.specs.Disposal.{counts, is_disposal}
use Rattle.office_records.specs.Lists.{is_some_and}
use Rattle.office_records.specs.Tree.{TreeState, action_of, status_of}
use Rattle.office_records.specs.declared.status.Status.{Status}
use Rattle.office_records.specs.declared.status.Status.TheVariants.{Here, Sent, Received, Ended}

abbrev pub candidate_by : Option Status → Bool → Bool
candidate_by (Some Here) may = may
candidate_by (Some Sent) may = false
candidate_by (Some Received) may = true
candidate_by (Some Ended) may = false
candidate_by None may = false

-- a record that a run takes once it is due: it is here, its action is to transfer or to destroy and its confirmation
-- counts; or it is received
unfoldable pub is_candidate : TreeState → ℕ → Bool
is_candidate tree r = candidate_by (status_of tree r) (is_some_and (action_of tree r) is_disposal && counts tree r)

-- the least candidate above a number
pub record IsNextCandidate (tree : TreeState) (above r : ℕ) : Type 0 where
  pub higher : above < r
  pub candidate : is_candidate tree r ≡ true
  pub between : (k : ℕ) → above < k → k < r → is_candidate tree k ≡ false

-- no record above a number is a candidate
abbrev pub HasNoCandidateAbove : TreeState → ℕ → Type 0
HasNoCandidateAbove tree above = (k : ℕ) → above < k → is_candidate tree k ≡ false
