use Rattle.std.proofs.Common.{drop, take}
use Rattle.sqlite.specs.Held.{state}
use Rattle.office_sql.specs.SchemaVersions.{version_2}
use Rattle.office_sql.proofs.MakeLemmas.{makes_then}
use Rattle.office_sql.proofs.new_tables.create_later.Goals as goal

pub returns-clause-made : goal.returns-clause-made
returns-clause-made g c =
    makes_then (take 11 version_2) (drop 11 (take 12 version_2)) (drop 12 (take 13 version_2)) (drop 13 version_2) (state g.S.Store c.args.tx.now.conn.now) (state g.S.Store c.create.new.tx.conn.now) (state g.S.Store c.create-2.new.tx.conn.now) c.create-2.result c.in_ok-create.ensures.made c.create-2.ensures.made
