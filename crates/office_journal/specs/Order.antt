-- The order of what a gate does and what its journal says. Source: docs/ACCESS.md, "The journal".
use Rattle.std.specs.Prelude.{ℕ, List, [], ◌∷◌, ◌++◌, ⊤}
use Rattle.std.specs.List.{Contains}

-- what happens at a gate, one after another; an act is here its text of JSON
pub data Event : Type 0 where
  -- the line with that number is in the journal: it asks for these acts
  asked : ℕ → List (List ℕ) → Event
  -- an act is done
  done : List ℕ → Event
  -- the line of the answer to the line with that number is in the journal
  answered : ℕ → Event
  -- the answer to the line with that number goes out
  replied : ℕ → Event

-- what may happen after what was seen: an act is done that stands in a line, and an answer goes out that has its line
abbrev pub MayFollow : List Event → Event → Type 0
MayFollow seen (asked line acts) = ⊤
MayFollow seen (done act) = (line : ℕ) × (acts : List (List ℕ)) × Contains seen (asked line acts) × Contains acts act
MayFollow seen (answered line) = ⊤
MayFollow seen (replied line) = Contains seen (answered line)

abbrev pub JournaledAfter : List Event → List Event → Type 0
JournaledAfter seen [] = ⊤
JournaledAfter seen (event ∷ rest) = MayFollow seen event × JournaledAfter (seen ++ event ∷ []) rest

-- each act that is done stands in a line that was written before, and no answer goes out before its line
abbrev pub IsJournaled : List Event → Type 0
IsJournaled events = JournaledAfter [] events
