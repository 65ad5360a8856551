-- Acts of their forms keep an office sound, and where its tables are then.
use Rattle.std.proofs.Common.{◌≡◌, ℕ, zero, suc, List, [], ◌∷◌, ◌++◌, take, inl, sym, subst}
use Rattle.sqlite_trees.specs.Tree.{Trees}
use Rattle.sqlite.specs.State.{State as FileState}
use Rattle.office_rules.specs.Acts.{after, step}
use Rattle.office_rules.specs.Forms.{AreWellFormed, IsWellFormedAct}
use Rattle.office_rules.specs.Rows.{rows_of}
use Rattle.office_rules.specs.Sound.{IsSound}
use Rattle.office_rules.specs.State.{State}
use Rattle.office_rules.specs.declared.act.Act.{Act}
use Rattle.office_sql.specs.Office.{IsOfficeIn}
use Rattle.office_sql.specs.declared.schema_versions.SchemaVersion.TheVariants as schema_version
use Rattle.office_store.specs.RepresentsRows.{ContainsRows, RepresentsRows}
use Rattle.office_desk.specs.Resuming.{AreRunSteps}
use Rattle.office_life.specs.Tables.{AreTablesAt}
use Rattle.office_life.proofs.DeskWork.{StaySound}

-- ---- acts

pub formed_first : (n : ℕ) (all : List Act) → AreWellFormed all → AreWellFormed (take n all)
formed_first zero all each = tt
formed_first (suc n) [] each = tt
formed_first (suc n) (a ∷ all) (is, each) = (is, formed_first n all each)

pub formed_more : (first more : List Act) → AreWellFormed first → AreWellFormed more → AreWellFormed (first ++ more)
formed_more [] more each others = others
formed_more (a ∷ first) more (is, each) others = (is, formed_more first more each others)

pub formed_steps : (all : List Act) → AreRunSteps all → AreWellFormed all
formed_steps [] each = tt
formed_steps (a ∷ all) (is, each) = (subst IsWellFormedAct (sym is) tt, formed_steps all each)

pub steps_first : (n : ℕ) (all : List Act) → AreRunSteps all → AreRunSteps (take n all)
steps_first zero all each = tt
steps_first (suc n) [] each = tt
steps_first (suc n) (a ∷ all) (is, each) = (is, steps_first n all each)

pub sound_after : StaySound → (all : List Act) (s : State) → IsSound s → AreWellFormed all → IsSound (after s all)
sound_after stay [] s sound each = sound
sound_after stay (a ∷ all) s sound (is, each) = sound_after stay all (step s a).1 (stay s a sound is) each

-- ---- tables

pub at_tables : (u : State) → IsSound u → (db : Trees) → IsOfficeIn schema_version.Two db → RepresentsRows (rows_of u) db → AreTablesAt db u
at_tables u sound db office rows = inl (record { schema_version = schema_version.Two; office = office; sound = sound; rows = rows })

pub at_rows : (file : FileState) (u : State) → IsSound u → ContainsRows (rows_of u) file → (db : Trees) → file.may_leave db → AreTablesAt db u
at_rows file u sound contains db may =
    let is = sym (contains.rest.only db may) in
    at_tables u sound db (subst (λ (t : Trees). IsOfficeIn schema_version.Two t) is (file.now.schema, contains.rest.office)) (subst (λ (t : Trees). RepresentsRows (rows_of u) t) is contains.represents)
