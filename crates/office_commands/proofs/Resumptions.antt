-- How a resumption ends.
use Rattle.std.proofs.Common.{ℕ, List, Option}
use Rattle.sqlite.specs.State.{State as FileState}
use Rattle.office_rules.specs.State.{State}
use Rattle.office_commands.specs.Resuming.{Resumes}
use Rattle.office_commands.specs.declared.exit.Exit.{Exit}

-- a resumption from each state of one kind was so from each of another that is among them
pub resumes_of : (Was Other : State → Type 0) → ((s : State) → Other s → Was s) → (new : FileState) (written after : Option (List ℕ)) (e : Exit) → Resumes Was new written after e → Resumes Other new written after e
resumes_of Was Other to new written after e it = record { outcome = it.outcome; reported = it.reported; came = λ s was. it.came s (to s was) }
