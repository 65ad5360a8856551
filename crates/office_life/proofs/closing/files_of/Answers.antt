use Rattle.std.proofs.Common.{◌≤◌, ℕ, arith, subst}
use Rattle.std.proofs.lemmas.Bool.{and_from}
use Rattle.std.proofs.Math.Logic.{∥∥₁_map}
use Rattle.sqlite_disk.specs.Disk.{MoreFaults}
use Rattle.sqlite_pool.proofs.StateLemmas.{may_leave_is}
use Rattle.sqlite_wal.specs.Files.{outcomes}
use Rattle.office_life.proofs.LeftTables.{leaves_tables, never_dirty}
use Rattle.office_life.proofs.closing.files_of.Goals as goal

pub returns-then-copy-clause-clean : goal.returns-then-copy-clause-clean
returns-then-copy-clause-clean g c never = never_dirty never c.args.conn.store

pub returns-else-copy-clause-clean : goal.returns-else-copy-clause-clean
returns-else-copy-clause-clean g c never = never_dirty never c.args.conn.store

pub returns-then-copy-clause-tables : goal.returns-then-copy-clause-tables
returns-then-copy-clause-tables g c never image may =
    let back = c.into_store-store.result in
    let last = c.copy.new.store in
    let clean = never_dirty never back in
    let fewer = c.copy.ensures.fewer in
    let numbered = c.copy.ensures.numbered never c.if-copy.true (c.into_store-store.ensures.numbered clean) in
    let left = may_leave_is last.pool image (and_from _ _ (never _) (never _)) (subst (λ p. outcomes g.D.Disk p.0 p.1 image) c.close.ensures may) in
    ∥∥₁_map (leaves_tables last numbered (λ db found. c.into_store-store.ensures.sound clean db (fewer db found)) image left)
    (λ db. (db.0, c.into_store-store.ensures.quiet.outcomes db.0 (fewer db.0 db.1), db.2))

-- faults that were there before are so many fewer
fewer_before : (first old new : ℕ) → first ≤ old → MoreFaults old new → MoreFaults first new
fewer_before first old new few more = omega (arith, few, more)

pub returns-else-copy-clause-shut : goal.returns-else-copy-clause-shut
returns-else-copy-clause-shut g c never =
    let shut = c.copy.ensures.shut never c.if-copy.false in
    let kept = c.into_store-store.ensures.undone.kept (never_dirty never c.into_store-store.result) in
    record { was_open = kept.was_open shut.was_open; shut = shut.shut; failed = fewer_before _ _ _ c.into_store-store.ensures.quiet.counts shut.failed }
