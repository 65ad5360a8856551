-- Which acts a run of the program did, by what it read. Source: own.
use Rattle.std.specs.Prelude.{◌≡◌, ◌⊎◌, ℕ, ℤ, List, [], ◌∷◌, ◌++◌, take, Option, Result, Ok, Err, Some, option_map}
use Rattle.csv.specs.Reading.{strip_bom}
use Rattle.office_base.specs.declared.refusal.Refusal.{Refusal}
use Rattle.office_rules.specs.declared.act.Act.{Act}
use Rattle.office_desk.specs.Resuming.{AreRunSteps}
use Rattle.office_command_line.specs.Orders as command
use Rattle.office_command_line.specs.Orders.{Command}
use Rattle.office_json.specs.Lists.{acts_in}
use Rattle.office_csv.specs.ImportRows.{Fields, parsed_row}
use Rattle.office_wire.specs.Importing.{ArePrefixRows}

-- the act that a row asks for, if its fields can be read
abbrev pub act_of : Result Act Refusal → List Act
act_of (Ok a) = a ∷ []
act_of (Err why) = []

-- the acts that rows of a CSV file ask for on a day, in their order
abbrev pub acts_of_rows : ℤ → List Fields → List Act
acts_of_rows day [] = []
acts_of_rows day (row ∷ rows) = act_of (parsed_row day row) ++ acts_of_rows day rows

-- the acts are the first of those that a text lists
pub record AreFirstActs (text : List ℕ) (done : List Act) : Type 0 where
  pub listed : List Act
  pub read : acts_in text ≡ Ok listed
  pub count : ℕ
  pub first : done ≡ take count listed

-- the acts are those that the first rows of a CSV file ask for
pub record AreFirstRows (day : ℤ) (text : Option (List ℕ)) (done : List Act) : Type 0 where
  pub rows : List Fields
  pub begins : (more : List Fields) × ArePrefixRows text (rows ++ more)
  pub asked : done ≡ acts_of_rows day rows

-- the acts are those of a command that read this text: none; or of `apply` the first that it lists, of `import` those
-- that its first rows ask for, and of `resume` steps of a run
abbrev pub AreActsOf : Command → List ℕ → List Act → Type 0
AreActsOf (command.apply file acts) text done = (done ≡ []) ⊎ AreFirstActs text done
AreActsOf (command.import file day csv) text done =
    (done ≡ []) ⊎ AreFirstRows day (option_map strip_bom (Some text)) done
AreActsOf (command.resume file) text done = AreRunSteps done
AreActsOf (command.init file) text done = done ≡ []
AreActsOf (command.export file register) text done = done ≡ []
AreActsOf (command.overdue file day n) text done = done ≡ []
AreActsOf (command.certificate file run) text done = done ≡ []
AreActsOf (command.serve file port count) text done = done ≡ []
AreActsOf (command.gate file port count access token journal) text done = done ≡ []
AreActsOf (command.plan file) text done = done ≡ []
AreActsOf (command.due unit count offset day) text done = done ≡ []
AreActsOf command.nothing text done = done ≡ []
