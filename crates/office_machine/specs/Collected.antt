-- What is so of the rows that have come, in the maps and lists of an office under construction. Source: own.
use Rattle.std.specs.Prelude.{◌≡◌, ◌∷◌, [], ℕ, ℤ, List, Option, Some, None, length, map}
use Rattle.std.specs.FinMap.{get}
use Rattle.std.specs.List.{list_any}
use Rattle.office_records.specs.Lists.{is_some_and}
use Rattle.office_records.specs.declared.head.Record.{Record}
use Rattle.office_records.specs.declared.status.Status.{Status}
use Rattle.office_rules.specs.HoldLoading.{is_pair}
use Rattle.office_rules.specs.Holds.{HoldMap, has_target}
use Rattle.office_records.specs.declared.target.Target.{Target}
use Rattle.office_rules.specs.declared.entry.Entry.{Entry}
use Rattle.office_rules.specs.Loading.{entry_rows}

-- the day that has come, if one has
abbrev pub days_of : Option ℤ → List ℤ
days_of None = []
days_of (Some day) = day ∷ []

-- each record has a status, the holds have exactly those targets, and each entry is under its run and record
pub record AreCollected (heads : List Record) (statuses : List Status) (holds : HoldMap)
    (targets : List (List ℕ × Target)) (entries : List ((ℕ × ℕ) × Entry)) : Type 0 where
  pub long : length statuses ≡ length heads
  pub targets_exist : (code : List ℕ) (target : Target)
      → list_any (λ e. is_pair e.0 e.1 code target) targets ≡ is_some_and (get holds code) (λ hold. has_target hold target)
  pub keyed : entry_rows (map (λ e. e.1) entries) ≡ entries
