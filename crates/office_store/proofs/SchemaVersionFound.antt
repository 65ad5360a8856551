-- The tables are those of the version that `office` names, as it is found out table by table.
use Rattle.std.proofs.Common.{◌≡◌, ◌≢◌, ◌==◌, ℕ, pos, Option, Some, false, true, not, ne_eqb, arith, List, [], ◌∷◌, length, Result, Ok, Err, refl, sym, ap, ◌∙◌, IsPermutation}
use Rattle.std.proofs.lemmas.List.{nil_from_length}
use Rattle.std.proofs.lemmas.List.Sorted.{length_permutation}
use Rattle.std.proofs.lemmas.Result.{IfErr-weaker, IfOk-weaker}
use Rattle.sqlite_value.specs.Order.{Row}
use Rattle.sqlite_trees.proofs.ListLemmas.{IsPermutation-same}
use Rattle.sqlite.specs.State.{State}
use Rattle.office_sql.specs.declared.schema_versions.SchemaVersion.{SchemaVersion}
use Rattle.office_sql.specs.declared.schema_versions.SchemaVersion.TheVariants as schema_version
use Rattle.office_sql.specs.SchemaVersions.{version_of}
use Rattle.office_sql.specs.Office.{IsAtRestOver}
use Rattle.office_sql.specs.declared.tables.OfficeTable.TheVariants as table
use Rattle.office_store.specs.Adopted.{ConfirmsSchemaVersion, FindsNone}
use Rattle.office_store.specs.Calling.{layout_number}
use Rattle.office_store.specs.declared.fault.Fault.{Fault}

pub is_nil : (rows : List Row) → not (length rows == 0) ≡ false → rows ≡ []
is_nil [] h = refl
is_nil (row ∷ rows) h = let some : ◌==◌ (length (row ∷ rows)) 0 ≡ false = ne_eqb (length (row ∷ rows)) 0 (λ e. omega (arith, e)) in absurd cc

pub not_nil : (rows : List Row) → not (length rows == 0) ≡ true → rows ≢ []
not_nil [] h = λ e. absurd cc
not_nil (row ∷ rows) h = λ e. cc

pub none_in : {bag rows : List Row} → IsPermutation bag rows → rows ≡ [] → bag ≡ []
none_in {bag = bag} {rows = rows} same none = nil_from_length bag (sym (length_permutation bag rows same) ∙ ap length none)

pub none_shown : {bag rows : List Row} → IsPermutation bag rows → bag ≡ [] → rows ≡ []
none_shown {bag = bag} {rows = rows} same none = nil_from_length rows (length_permutation bag rows same ∙ ap length none)

none_had : {bag : List Row} → IsPermutation [] bag → bag ≡ []
none_had {bag = bag} has = nil_from_length bag (length_permutation [] bag has)

-- the names of the tables are those of version 2
abbrev NamesTwo : SchemaVersion → State → Type 0
NamesTwo ed old = IsAtRestOver ed old → Some schema_version.Two ≡ Some ed

-- so they are of no office of version 1
not_one : (old : State) → NamesTwo schema_version.One old → IsAtRestOver schema_version.One old → ⊥
not_one old named rest = let two : Some schema_version.Two ≡ Some schema_version.One = named rest in cc

-- it is found out that `schedules` has no row, or that it has one, or it is not read
pub schedules_looked : (ed : SchemaVersion) (old new : State) → NamesTwo ed old → (result : Result (Unit {0}) Fault) → FindsNone {X = Unit {0}} schema_version.Two table.OldSchedules old new result → ConfirmsSchemaVersion ed schema_version.Two old new result
schedules_looked schema_version.One old new named result it =
    let never = not_one old named in
    record { is = λ clean rest. absurd (never rest); same = λ clean rest. absurd (never rest); damaged = λ clean rest. absurd (never rest); kept = λ clean rest. absurd (never rest); leaves = λ clean rest. absurd (never rest) }
schedules_looked schema_version.Two old new named result it = record {
  is = λ clean rest. IfOk-weaker result _ _ (λ x none. (refl, IsPermutation-same _ _ (sym none.0))) (it.none clean rest);
  same = λ clean rest. IfOk-weaker result _ _ (λ x none. (none.1, none.2)) (it.none clean rest);
  damaged = λ clean rest. IfErr-weaker result _ _ (λ f some wrong now emptied. some wrong (none_had emptied)) (it.damaged clean rest);
  kept = it.kept;
  leaves = it.leaves;
}

-- the names are those of version 1, of which no table is to have no row
pub one_confirmed : (ed : SchemaVersion) (old : State) → (IsAtRestOver ed old → Some schema_version.One ≡ Some ed) → ConfirmsSchemaVersion ed schema_version.One old old (Ok tt)
one_confirmed schema_version.One old named = record { is = λ clean rest. (refl, tt); same = λ clean rest. (rest, refl); damaged = λ clean rest. tt; kept = λ clean rest. tt; leaves = λ clean rest db may. may }
one_confirmed schema_version.Two old named =
    record { is = λ clean rest. absurd (let one : Some schema_version.One ≡ Some schema_version.Two = named rest in cc); same = λ clean rest. (rest, refl); damaged = λ clean rest. tt; kept = λ clean rest. tt; leaves = λ clean rest db may. may }

-- a version's number is that of its tables
pub number_named : (ed : SchemaVersion) (n : ℕ) → pos n ≡ version_of ed → n ≡ layout_number (Some ed)
number_named schema_version.One n is = cc
number_named schema_version.Two n is = cc

-- the names are not those of the version
pub other_names : (ed named : SchemaVersion) (found : Option SchemaVersion) → found ≢ Some named → (old : State) → (IsAtRestOver ed old → found ≡ Some ed) → (f : Fault) → ConfirmsSchemaVersion ed named old old (Err f)
other_names ed named found differ old reported f = record {
  is = λ clean rest. tt;
  same = λ clean rest. tt;
  damaged = λ clean rest wrong now emptied. differ (reported rest ∙ ap Some (sym now));
  kept = λ clean rest other. (rest, refl);
  leaves = λ clean rest db may. may;
}
