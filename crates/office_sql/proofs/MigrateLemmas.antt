-- The statements of a migration, one after another.
use Rattle.std.proofs.Common.{◌≡◌, ◌≢◌, inl, inr, ℕ, ℤ, List, [], ◌∷◌, map, filter, not, bytes_eq, false, Ok, Err, Result, refl, sym, ap, subst, ◌∙◌, IsPermutation}
use Rattle.std.specs.List.{AllByRecursion}
use Rattle.sqlite_value.specs.Order.{Row}
use Rattle.sqlite_catalog.proofs.StepLemmas.{unnamed}
use Rattle.sqlite_schema.specs.declared.schema.Schema.{Schema}
use Rattle.sqlite_schema.specs.declared.schema.Table.{Table}
use Rattle.sqlite_rules.specs.Lists.{Has}
use Rattle.sqlite_rules.proofs.ListLemmas.{all_from, all_has, has_left}
use Rattle.sqlite_rules.proofs.RuleLemmas.{same_table}
use Rattle.sqlite_keyed.proofs.ListLemmas.{all_both}
use Rattle.sqlite.specs.Change.{is_used}
use Rattle.sqlite.specs.Effect.{Database}
use Rattle.sqlite.specs.State.{State, Survives}
use Rattle.sqlite.specs.declared.error.Error.{Error}
use Rattle.office_sql.specs.Bags.{rows_of, share}
use Rattle.office_sql.specs.SchemaVersions.{later_tables, version_1, version_2}
use Rattle.office_sql.specs.Made.{GrowsTo, IsMadeUpTo, MakesInside}
use Rattle.office_sql.specs.Migrated.{IsMigrated, IsNoneOfThree, IsReadyToMove, Moved, MovedOver, Raised}
use Rattle.office_sql.specs.declared.schema_versions.SchemaVersion.TheVariants as schema_version
use Rattle.office_sql.specs.Office.{GoesInside, IsOffice, IsOfficeOf, KeepsOthers, Removed, SparesRest}
use Rattle.office_sql.specs.Schema.{at, events, office, schedules, schedules2}
use Rattle.office_sql.proofs.Inside.{early, quiet_then}
use Rattle.office_sql.proofs.Kept.{spares_rest}
use Rattle.office_sql.proofs.OfTwo.{has_events, has_office, has_schedules, has_schedules2}
use Rattle.office_sql.proofs.Grown.{kept_made}
use Rattle.office_sql.proofs.Rest.{keeps_spared, keeps_then, spares_then}

module _ (a b c : State) {X Y : Type 0} (P Q R : Database → Database → Type 0) where
  -- one step, and another that rests on what the first did
  pub goes_then : {x : X} (r : Result Y Error) → GoesInside version_2 P a b (Ok x) → Survives b c (λ _. ⊥) → (P a.now b.now → GoesInside version_2 Q b c r) → (P a.now b.now → Q b.now c.now → R a.now c.now) → GoesInside version_2 R a c r
  goes_then (Ok y) first quiet next joins = record {
    ok = λ clean inside.
        let f = first.ok (early b c quiet clean) inside in
        let n = (next f.0).ok clean f.1 in
        (joins f.0 n.0, n.1, n.2 ∙ f.2);
    err = λ _ _. tt;
    survives = quiet_then a b c first.survives quiet;
  }
  goes_then (Err e) first quiet next joins = record {
    ok = λ _ _. tt;
    err = λ clean inside.
        let f = first.ok (early b c quiet clean) inside in
        let keeps = (next f.0).err clean f.1 in
        record { was_open = λ _. inside.is_open; committed = λ o. keeps.committed o ∙ f.2 };
    survives = quiet_then a b c first.survives quiet;
  }

none_kept : (rows : List Row) → filter (λ r. not (share ([] ∷ []) r [])) rows ≡ []
none_kept [] = refl
none_kept (r ∷ rows) = none_kept rows

-- the rows of one table among those that are kept
same_rows : (t u : Table) → Has version_2 u → (old new : Database) → KeepsOthers version_2 t old new → bytes_eq u.name t.name ≡ false → rows_of u new.trees ≡ rows_of u old.trees
same_rows t u listed old new others differs = all_has (λ (u : Table). bytes_eq u.name t.name ≡ false → rows_of u new.trees ≡ rows_of u old.trees) version_2 u others listed differs

-- moved, and then emptied
pub record Emptied (old new : Database) : Type 0 where
  pub is_office : IsOffice new
  pub moved : IsPermutation (rows_of schedules old.trees) (rows_of schedules2 new.trees)
  pub emptied : rows_of schedules new.trees ≡ []
  pub others : AllByRecursion (λ t. bytes_eq t.name schedules.name ≡ false → bytes_eq t.name schedules2.name ≡ false → rows_of t new.trees ≡ rows_of t old.trees) version_2
  pub rest : SparesRest old new

pub empties : (a b c : Database) → Moved a b → Removed version_2 schedules ([] ∷ []) [] b c → Emptied a c
empties a b c moved gone = record {
  is_office = record { has = gone.has; room = tt };
  moved = subst (λ rows. IsPermutation (rows_of schedules a.trees) rows) (sym (same_rows schedules schedules2 has_schedules2 b c gone.others refl)) moved.rows;
  emptied = gone.removed ∙ none_kept (rows_of schedules b.trees);
  others = all_both (λ (t : Table). bytes_eq t.name schedules2.name ≡ false → rows_of t b.trees ≡ rows_of t a.trees) (λ t. bytes_eq t.name schedules.name ≡ false → rows_of t c.trees ≡ rows_of t b.trees)
      (λ t. bytes_eq t.name schedules.name ≡ false → bytes_eq t.name schedules2.name ≡ false → rows_of t c.trees ≡ rows_of t a.trees) (λ t was same apart other. same apart ∙ was other) version_2 moved.others gone.others;
  rest = spares_then a b c moved.rest (spares_rest schedules has_schedules b c moved.is_office.has gone.spares);
}

pub reports : (day : ℤ) (a b c : Database) → Emptied a b → Raised day b c → MovedOver day a c
reports day a b c left reported = record {
  is_office = reported.is_office;
  row = reported.row;
  moved = subst (λ rows. IsPermutation (rows_of schedules a.trees) rows) (sym (same_rows office schedules2 has_schedules2 b c reported.others refl)) left.moved;
  emptied = same_rows office schedules has_schedules b c reported.others refl ∙ left.emptied;
  others = all_both (λ (t : Table). bytes_eq t.name schedules.name ≡ false → bytes_eq t.name schedules2.name ≡ false → rows_of t b.trees ≡ rows_of t a.trees) (λ t. bytes_eq t.name office.name ≡ false → rows_of t c.trees ≡ rows_of t b.trees)
      (λ t. IsNoneOfThree t → rows_of t c.trees ≡ rows_of t a.trees) (λ t was same apart. same apart.0 ∙ was apart.1 apart.2) version_2 left.others reported.others;
  rest = spares_then a b c left.rest reported.rest;
}

-- the one row of `office` is until it is reported anew
pub still_one : (day : ℤ) (a b : Database) → IsReadyToMove day a.trees → Emptied a b → rows_of office b.trees ≡ rows_of office a.trees
still_one day a b ready left = left.others.0 refl refl

-- the later tables are made over those of version 1
pub later_office : (old new : Database) → GrowsTo 11 13 old new → IsOffice new
later_office old new made = record { has = made.has; room = tt }

pub still_ready : (day : ℤ) (old new : Database) → GrowsTo 11 13 old new → IsReadyToMove day old.trees → IsReadyToMove day new.trees
still_ready day old new made ready = record {
  rows = subst (AllByRecursion _) (sym made.kept.1.0) ready.rows;
  office = made.kept.0 ∙ ready.office;
}

-- no table of version 1 has the name of the new one
not_later : AllByRecursion (λ (t : Table). bytes_eq t.name schedules2.name ≡ false) version_1
not_later = (refl, (refl, (refl, (refl, (refl, (refl, (refl, (refl, (refl, (refl, (refl, tt)))))))))))

pub migrated : (day : ℤ) (a b c : Database) → IsOfficeOf schema_version.One a → GrowsTo 11 13 a b → MovedOver day b c → IsMigrated day a c
migrated day a b c was made over = record {
  is_office = over.is_office;
  row = over.row;
  moved = subst (λ rows. IsPermutation rows (rows_of schedules2 c.trees)) made.kept.1.0 over.moved;
  emptied = over.emptied;
  no_event = over.others.1.1.1.1.1.1.1.1.1.1.1.1.0 (refl, refl, refl) ∙ made.fresh.1.0;
  others = all_from (λ (t : Table). bytes_eq t.name office.name ≡ false → bytes_eq t.name schedules.name ≡ false → rows_of t c.trees ≡ rows_of t a.trees) version_1 (λ t h none one.
      all_has (λ (t : Table). IsNoneOfThree t → rows_of t c.trees ≡ rows_of t b.trees) version_2 t over.others (has_left version_1 later_tables t h) (none, one, all_has (λ (t : Table). bytes_eq t.name schedules2.name ≡ false) version_1 t not_later h)
      ∙ all_has (λ (t : Table). rows_of t b.trees ≡ rows_of t a.trees) version_1 t made.kept h);
  rest = keeps_then a b c (kept_made _ _ _ a b made) (keeps_spared b c over.rest);
}

-- the later tables are made, and the schedules moved over
pub migrates_then : (day : ℤ) (a b c : State) {X Y : Type 0} {x : X} (r : Result Y Error) → IsReadyToMove day a.now.trees → MakesInside (IsMadeUpTo 11) (GrowsTo 11 13) a b (Ok x) → Survives b c (λ _. ⊥)
    → (rows_of schedules2 b.now.trees ≡ [] → IsReadyToMove day b.now.trees → GoesInside version_2 (MovedOver day) b c r) → MakesInside (IsOfficeOf schema_version.One) (IsMigrated day) a c r
migrates_then day a b c (Ok y) ready made quiet over = record {
  ok = λ clean was_open inside was.
      let m = made.ok (early b c quiet clean) was_open inside (record { has = was.has; room = was.room }) in
      let o = (over m.0.fresh.0 (still_ready day a.now b.now m.0 ready)).ok clean (record { is_open = m.1; inside = m.2; has = (later_office a.now b.now m.0).has }) in
      (migrated day a.now b.now c.now was m.0 o.0, o.1.is_open, o.1.inside, o.2 ∙ m.3);
  err = λ _ _ _ _. tt;
  survives = quiet_then a b c made.survives quiet;
}
migrates_then day a b c (Err e) ready made quiet over = record {
  ok = λ _ _ _ _. tt;
  err = λ clean was_open inside was.
      let m = made.ok (early b c quiet clean) was_open inside (record { has = was.has; room = was.room }) in
      let kept = (over m.0.fresh.0 (still_ready day a.now b.now m.0 ready)).err clean (record { is_open = m.1; inside = m.2; has = (later_office a.now b.now m.0).has }) in
      record { was_open = λ _. was_open; committed = λ o. kept.committed o ∙ m.3 };
  survives = quiet_then a b c made.survives quiet;
}
