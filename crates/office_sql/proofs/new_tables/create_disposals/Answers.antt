use Rattle.std.proofs.Common.{Err, drop, take}
use Rattle.sqlite.specs.Held.{state}
use Rattle.office_sql.specs.SchemaVersions.{version_2}
use Rattle.office_sql.proofs.MakeLemmas.{makes_failed, makes_then}
use Rattle.office_sql.proofs.new_tables.create_disposals.Goals as goal

pub returns-in_err-create-2-clause-made : goal.returns-in_err-create-2-clause-made
returns-in_err-create-2-clause-made g c =
    makes_failed _ _ _ _ _ _ (makes_then (take 8 version_2) (drop 8 (take 9 version_2)) (drop 9 (take 10 version_2)) (drop 10 version_2) (state g.S.Store c.args.tx.now.conn.now) (state g.S.Store c.create.new.tx.conn.now) (state g.S.Store c.create-2.new.tx.conn.now) (Err c.in_err-create-2.field-0.0) c.in_ok-create.ensures.made c.in_err-create-2.ensures.made) c.from_residual-in_err-create-2.result c.from_residual-in_err-create-2.ensures.0

pub returns-clause-made : goal.returns-clause-made
returns-clause-made g c =
    makes_then (take 8 version_2) (drop 8 (take 10 version_2)) (drop 10 (take 11 version_2)) (drop 11 version_2) (state g.S.Store c.args.tx.now.conn.now) (state g.S.Store c.create-2.new.tx.conn.now) (state g.S.Store c.create-3.new.tx.conn.now) c.create-3.result (makes_then (take 8 version_2) (drop 8 (take 9 version_2)) (drop 9 (take 10 version_2)) (drop 10 version_2) (state g.S.Store c.args.tx.now.conn.now) (state g.S.Store c.create.new.tx.conn.now) (state g.S.Store c.create-2.new.tx.conn.now) _ c.in_ok-create.ensures.made c.in_ok-create-2.ensures.made) c.create-3.ensures.made
