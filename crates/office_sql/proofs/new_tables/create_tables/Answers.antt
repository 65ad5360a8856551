use Rattle.std.proofs.Common.{Err, drop, take}
use Rattle.sqlite.specs.Held.{state}
use Rattle.office_sql.specs.SchemaVersions.{version_2}
use Rattle.office_sql.proofs.MakeLemmas.{makes_failed, makes_then}
use Rattle.office_sql.proofs.new_tables.create_tables.Goals as goal

pub returns-in_err-create_holdings-clause-made : goal.returns-in_err-create_holdings-clause-made
returns-in_err-create_holdings-clause-made g c =
    makes_failed _ _ _ _ _ _ (makes_then (take 0 version_2) (drop 0 (take 3 version_2)) (drop 3 (take 6 version_2)) (drop 6 version_2) (state g.S.Store c.args.tx.now.conn.now) (state g.S.Store c.create_plans.new.tx.conn.now) (state g.S.Store c.create_holdings.new.tx.conn.now) (Err c.in_err-create_holdings.field-0.0) c.in_ok-create_plans.ensures.made c.in_err-create_holdings.ensures.made) c.from_residual-in_err-create_holdings.result c.from_residual-in_err-create_holdings.ensures.0

pub returns-in_err-create_stays-clause-made : goal.returns-in_err-create_stays-clause-made
returns-in_err-create_stays-clause-made g c =
    makes_failed _ _ _ _ _ _ (makes_then (take 0 version_2) (drop 0 (take 6 version_2)) (drop 6 (take 8 version_2)) (drop 8 version_2) (state g.S.Store c.args.tx.now.conn.now) (state g.S.Store c.create_holdings.new.tx.conn.now) (state g.S.Store c.create_stays.new.tx.conn.now) (Err c.in_err-create_stays.field-0.0) (makes_then (take 0 version_2) (drop 0 (take 3 version_2)) (drop 3 (take 6 version_2)) (drop 6 version_2) (state g.S.Store c.args.tx.now.conn.now) (state g.S.Store c.create_plans.new.tx.conn.now) (state g.S.Store c.create_holdings.new.tx.conn.now) _ c.in_ok-create_plans.ensures.made c.in_ok-create_holdings.ensures.made) c.in_err-create_stays.ensures.made) c.from_residual-in_err-create_stays.result c.from_residual-in_err-create_stays.ensures.0

pub returns-clause-made : goal.returns-clause-made
returns-clause-made g c =
    makes_then (take 0 version_2) (drop 0 (take 8 version_2)) (drop 8 (take 13 version_2)) (drop 13 version_2) (state g.S.Store c.args.tx.now.conn.now) (state g.S.Store c.create_stays.new.tx.conn.now) (state g.S.Store c.create_last.new.tx.conn.now) c.create_last.result (makes_then (take 0 version_2) (drop 0 (take 6 version_2)) (drop 6 (take 8 version_2)) (drop 8 version_2) (state g.S.Store c.args.tx.now.conn.now) (state g.S.Store c.create_holdings.new.tx.conn.now) (state g.S.Store c.create_stays.new.tx.conn.now) _ (makes_then (take 0 version_2) (drop 0 (take 3 version_2)) (drop 3 (take 6 version_2)) (drop 6 version_2) (state g.S.Store c.args.tx.now.conn.now) (state g.S.Store c.create_plans.new.tx.conn.now) (state g.S.Store c.create_holdings.new.tx.conn.now) _ c.in_ok-create_plans.ensures.made c.in_ok-create_holdings.ensures.made) c.in_ok-create_stays.ensures.made) c.create_last.ensures.made
