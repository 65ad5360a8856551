use Rattle.sqlite.specs.Held.{state}
use Rattle.office_sql.proofs.MigrateLemmas.{migrates_then}
use Rattle.office_sql.proofs.migration.migrate_in.Goals as goal

pub returns-clause-migrated : goal.returns-clause-migrated
returns-clause-migrated g c day ready =
    migrates_then day (state g.S.Store c.args.tx.now.conn.now) (state g.S.Store c.create_later.new.tx.conn.now) (state g.S.Store c.move_over.new.tx.conn.now) c.move_over.result ready
    c.in_ok-create_later.ensures.made c.move_over.ensures.quiet (c.move_over.ensures.moved day)
