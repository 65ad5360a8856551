-- Offices that do the acts of one log. Source: own.
use Rattle.std.specs.Prelude.{◌≡◌, ◌++◌, List}
use Rattle.sqlite.specs.Held.{state}
use Rattle.sqlite.specs.State.{HasCleanDisk}
use Rattle.sqlite_trees.specs.declared.store.Store.{Ghosts}
use Rattle.office_rules.specs.Acts.{after, answers}
use Rattle.office_rules.specs.State.{State}
use Rattle.office_rules.specs.declared.act.Act.{Act}
use Rattle.office_rules.specs.declared.answer.Answer.{Answer}
use Rattle.office_desk.specs.Desk.{DeskState}
use Rattle.office_desk.specs.Leaving.{IsAt}
use Rattle.office_desk.specs.Outcomes.{ActsCameTo, AreAnswered, all_done}

-- a desk at the state did all of the acts, over a clean disk, and answered them behind what was answered before
pub record DidAll {S : Type 0} (g : Ghosts S) (s : State) (acts : List Act) (given found : List Answer)
    (old new : DeskState S) : Type 0 where
  pub clean : HasCleanDisk (state g new.connection)
  pub began : IsAt g s old
  pub told : List Answer
  pub answered : AreAnswered s acts (all_done told) given found new
  pub came : ActsCameTo s acts (all_done told) (state g new.connection)

-- offices that do the entries of one log in order
pub record OneLog {S : Type 0} (g : Ghosts S) : Type 0 where
  -- acts that are done in two lists: the answers and the end of the joined list
  pub joined : (s : State) (first rest : List Act)
      → (after s (first ++ rest) ≡ after (after s first) rest)
      × (answers s (first ++ rest) ≡ answers s first ++ answers (after s first) rest)
  -- offices at one state that did the same acts gave the same answers, and are at one state
  pub alike : (s : State) (acts : List Act) (given found other_found : List Answer)
      (old one other_old other : DeskState S)
      → DidAll g s acts given found old one → DidAll g s acts given other_found other_old other
      → (found ≡ other_found) × IsAt g (after s acts) one × IsAt g (after s acts) other
