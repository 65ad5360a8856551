use Rattle.std.proofs.Common.{drop, take}
use Rattle.sqlite.specs.Held.{state}
use Rattle.office_sql.specs.SchemaVersions.{version_2}
use Rattle.office_sql.proofs.MakeLemmas.{makes_then}
use Rattle.office_sql.proofs.new_tables.create_last.Goals as goal

pub returns-clause-made : goal.returns-clause-made
returns-clause-made g c =
    makes_then (take 8 version_2) (drop 8 (take 11 version_2)) (drop 11 (take 13 version_2)) (drop 13 version_2) (state g.S.Store c.args.tx.now.conn.now) (state g.S.Store c.create_disposals.new.tx.conn.now) (state g.S.Store c.create_later.new.tx.conn.now) c.create_later.result c.in_ok-create_disposals.ensures.made c.create_later.ensures.made
