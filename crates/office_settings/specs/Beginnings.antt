-- Files of settings with marks, and beginnings of such files. Source: docs/ACCESS.md, "The settings".
use Rattle.std.specs.Prelude.{◌≡◌, ◌++◌, [], ◌∷◌, List, Result, Ok, Err}
use Rattle.office_settings.specs.declared.wrong.Fault.{Fault}
use Rattle.office_settings.specs.Files.{Entry}
use Rattle.office_settings.specs.Statements as line

-- the first statement is `begin`, and the last one is `end`
pub record AreMarked (entries : List Entry) : Type 0 where
  pub first : Entry
  pub inner : List Entry
  pub last : Entry
  pub are : entries ≡ first ∷ inner ++ last ∷ []
  pub begins : first.line ≡ line.begins
  pub ends : last.line ≡ line.ends

-- a reading has all these statements, each of its line, or finds a fault
abbrev pub HasAllOrFault : List Entry → Result (List Entry) Fault → Type 0
HasAllOrFault entries (Ok read) = read ≡ entries
HasAllOrFault entries (Err fault) = Unit {0}
