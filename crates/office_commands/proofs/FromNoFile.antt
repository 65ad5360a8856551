-- Where a command or a service leaves an office that may not be made yet.
use Rattle.std.proofs.Common.{◌≡◌, ◌⊎◌, inl, inr, ℕ, List, Option, Some, sym, subst}
use Rattle.sqlite_trees.specs.Tree.{Trees}
use Rattle.sqlite_trees.specs.declared.store.Store.{Ghosts}
use Rattle.sqlite.specs.Files.{IsEmpty}
use Rattle.sqlite.specs.Held.{Held, state}
use Rattle.sqlite.specs.State.{State as FileState, HasCleanDisk}
use Rattle.office_rules.specs.Sound.{IsSound}
use Rattle.office_rules.specs.State.{State, empty_state}
use Rattle.office_sql.specs.declared.schema_versions.SchemaVersion.TheVariants as schema_version
use Rattle.office_store.specs.declared.fault.Fault.{Fault}
use Rattle.office_desk.specs.Desk.{DeskState}
use Rattle.office_desk.specs.Leaving.{IsAt}
use Rattle.office_life.specs.Opening.{StopsOffice}
use Rattle.office_life.specs.Standing.{RestsAt}
use Rattle.office_life.specs.Tables.{AreTablesAt, IsOfficeAt}
use Rattle.office_command_line.specs.Orders.{Command}
use Rattle.office_commands.specs.NextCommand.{IsLeftBy}
use Rattle.office_commands.specs.Opening.{OfficeOpenFailed, WasFound}
use Rattle.office_commands.specs.Running.{RunEnds}
use Rattle.office_commands.specs.Serving.{IsDeskOf, ServiceEndsBy}
use Rattle.office_commands.specs.declared.exit.Exit.{Exit}
use Rattle.office_commands.proofs.NextService.{Leading, ServedAt, service_so}
use Rattle.office_commands.proofs.NextStates.{IsEnded, IsOneDatabase, StaySound, at_before, at_unopened, command_so, was_found}
use Rattle.office_commands.proofs.Unopened.{stops_there, stops_unmade}

-- an office at this state; or still the tables, of which there were none
abbrev pub IsOfficeOrBefore : FileState → Trees → State → Type 0
IsOfficeOrBefore old db u = IsOfficeAt db u ⊎ ((db ≡ old.now.trees) × IsEmpty old.now.trees × (u ≡ empty_state))

pub tables_at : (old : FileState) (db : Trees) (u : State) → IsOfficeOrBefore old db u → AreTablesAt db u
tables_at old db u (inl office) = inl office
tables_at old db u (inr none) = inr (subst IsEmpty (sym none.0) none.1, none.2)

pub sound_at : (empty : IsSound empty_state) (old : FileState) (s : State) → RestsAt old s → IsSound s
sound_at empty old s (inl (ed, rest, sound, rows)) = sound
sound_at empty old s (inr (blank, none, is)) = subst IsSound (sym is) empty

module _ (one : IsOneDatabase) (stay : StaySound) (empty : IsSound empty_state) (ends : IsEnded) (old new : FileState) (s : State) (clean : HasCleanDisk new) where
  rest_found : RestsAt old s → WasFound old new s
  rest_found (inl (ed, rest, sound, rows)) = was_found one stay ends old new s clean sound ed rest rows
  rest_found (inr (blank, none, is)) = (clean, inl (blank, is))

  stops_rest : RestsAt old s → (f : Fault) → OfficeOpenFailed f old new → StopsOffice s f
  stops_rest (inl (ed, rest, sound, rows)) = stops_there old new s clean ed rest sound rows
  stops_rest (inr (blank, none, is)) = stops_unmade old new s clean blank none

  before_rest : RestsAt old s → (db : Trees) → old.may_leave db → IsOfficeOrBefore old db s
  before_rest (inl (ed, rest, sound, rows)) db may = inl (at_before one stay ends old new s clean sound ed rest rows db may)
  before_rest (inr (blank, none, is)) db may = inr (blank.only db may, none, is)

  unopened_rest : RestsAt old s → (f : Fault) → OfficeOpenFailed f old new → (db : Trees) → new.may_leave db → IsOfficeOrBefore old db s
  unopened_rest (inl (ed, rest, sound, rows)) f it db may = inl (at_unopened one stay ends old new s clean sound ed f rest rows it db may)
  unopened_rest (inr (blank, none, is)) f it db may = elim ((it.left clean).first blank db may) [
    | inl before ↦ inr (before, none, is)
    | inr made ↦ inl (subst (IsOfficeAt db) (sym is) (record { schema_version = schema_version.Two; office = made.1; sound = empty; rows = made.0 }))
  ]

module _ (one : IsOneDatabase) (stay : StaySound) (empty : IsSound empty_state) (ends : IsEnded) {S : Type 0} (g : Ghosts S) (old new : Held S) (s : State) (clean : HasCleanDisk (state g new)) (rests : RestsAt (state g old) s) where
  desk_rest : (it : RestsAt (state g old) s) (desk : DeskState S) → HasCleanDisk (state g desk.connection) → IsDeskOf g old desk → IsAt g s desk
  desk_rest it desk clean_desk of = of.is_at s (rest_found one stay empty ends (state g old) (state g desk.connection) s clean_desk it)

  pub command_from : (order : Command) (text : List ℕ) (written after : Option (List ℕ)) (exit : Exit) → RunEnds g order (Some text) old new written after exit
      → (db : Trees) → (state g new).may_leave db → (u : State) × IsLeftBy order text written after exit s u × IsOfficeOrBefore (state g old) db u
  command_from order text written after exit it =
      let was = state g old in
      let is = state g new in
      command_so stay ends (IsOfficeOrBefore was) (λ db u at. inl at) g old new s (sound_at empty was s rests) (rest_found one stay empty ends was is s clean rests) (before_rest one stay empty ends was is s clean rests)
      (unopened_rest one stay empty ends was is s clean rests) (stops_rest one stay empty ends was is s clean rests) order text written after exit it

  -- a service that leads there, by where each request leaves a desk
  module _ (To : State → State → Type 0) (leading : Leading To) (Leaves : State → DeskState S → Type 0)
      (left : (t : State) → IsSound t → (d : DeskState S) → Leaves t d → ServedAt To leading stay ends (IsOfficeOrBefore (state g old)) (λ db u at. inl at) g t d) where
    pub service_from : (port count : ℕ) (written after : Option (List ℕ)) (exit : Exit) → ServiceEndsBy Leaves g port count old new written after exit
        → (db : Trees) → (state g new).may_leave db → (u : State) × To s u × IsOfficeOrBefore (state g old) db u
    service_from port count written after exit it =
        let was = state g old in
        let is = state g new in
        service_so To leading stay ends (IsOfficeOrBefore was) (λ db u at. inl at) g old new s clean (desk_rest rests) (unopened_rest one stay empty ends was is s clean rests) Leaves left port count written after exit it
