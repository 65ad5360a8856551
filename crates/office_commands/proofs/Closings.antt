-- What closing leaves of a connection and its files.
use Rattle.std.proofs.Common.{◌≡◌, ◌⊎◌, ◌<◌, ◌≤◌, ap, subst, sym, IsTrue, ◌∙◌, false, inl, inr, refl, arith}
use Rattle.std.proofs.Math.Logic.{∥∥₁_map}
use Rattle.std.proofs.lemmas.Bool.{both_ways, cases_Bool}
use Rattle.sqlite_disk.specs.Disk.{MoreFaults}
use Rattle.sqlite_disk.specs.declared.Disk.{Ghosts}
use Rattle.sqlite_disk.specs.declared.Files.{Files}
use Rattle.sqlite_store.specs.FileStore.{faults, recovers, state, view}
use Rattle.sqlite_store.specs.declared.store.FileStore.{FileStore}
use Rattle.sqlite_trees.specs.Tree.{Trees}
use Rattle.sqlite_trees.specs.View.{HasCause}
use Rattle.sqlite_trees.specs.declared.error.StoreError.{StoreError}
use Rattle.sqlite_trees.specs.declared.error.StoreError.TheVariants.{Broken, Corrupt, Full, Io, OutOfMemory, Unstorable}
use Rattle.sqlite_wal.specs.Recovery.{Image}
use Rattle.sqlite.specs.Files.{ExcusesClose, file_state}
use Rattle.sqlite.specs.Held.{AreDatabases, Held}
use Rattle.office_life.specs.Tables.{ContainTables}
use Rattle.office_life.proofs.LeftTables.{leaves_tables}

-- where a store allows nothing but these tables, each image of it holds them
pub holds_last : {D : Type 0} {g : Ghosts D} (last : FileStore D g) (trees : Trees) → IsTrue (view last).is_numbered → AreDatabases (recovers last) → ((db : Trees) → recovers last db → db ≡ trees) → (image : Image) → (state last).may_leave image
    → ∥ ContainTables image trees ∥₁
holds_last last trees numbered sound only image may =
    ∥∥₁_map (leaves_tables last numbered sound image may) (λ (db : (x : Trees) × recovers last x × ContainTables image x). subst (ContainTables image) (only db.0 db.1) db.2)

-- why a closing failed, by why the copying failed once the store was rolled back
pub excused : {D : Type 0} {g : Ghosts D} (c : Held (FileStore D g)) (before last : FileStore D g) (why : StoreError) → faults c.store ≤ faults before → faults before ≤ faults last
    → (IsTrue (view c.store).is_open → IsTrue (view before).is_open ⊎ MoreFaults (faults c.store) (faults before)) → (IsTrue (view before).is_open → (view before).is_broken ≡ false)
    → HasCause (view before) (MoreFaults (faults before) (faults last)) ⊥ why → ExcusesClose c last why
excused c before last OutOfMemory up more closes mended it = tt
excused c before last Io up more closes mended it = omega arith
excused c before last Corrupt up more closes mended it = omega arith
excused c before last Full up more closes mended it = omega arith
excused c before last Unstorable up more closes mended it = it
excused c before last Broken up more closes mended it = elim (cases_Bool (view c.store).is_open) [
  | inl was ↦ elim (closes was) [ inl still ↦ absurd (both_ways _ (mended still) it) | inr fault ↦ inr (omega arith) ]
  | inr shut ↦ inl shut
]

-- a call of the disk failed or a limit was met, if the connection was open; or memory was refused
pub hindered : {D : Type 0} {g : Ghosts D} (c : Held (FileStore D g)) (last : FileStore D g) (why : StoreError) → IsTrue (view c.store).is_open → ExcusesClose c last why → (0 < faults last) ⊎ (why ≡ OutOfMemory)
hindered c last OutOfMemory on it = inr refl
hindered c last Io on it = inl (omega arith)
hindered c last Corrupt on it = inl (omega arith)
hindered c last Full on it = inl (omega arith)
hindered c last Unstorable on it = absurd it
hindered c last Broken on it = elim it [ inl shut ↦ absurd (both_ways _ shut on) | inr more ↦ inl (omega arith) ]
