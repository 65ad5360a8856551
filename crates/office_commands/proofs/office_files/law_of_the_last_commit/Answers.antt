use Rattle.office_commands.proofs.office_files.law_of_the_last_commit.Goals as goal

pub returns-clause-only : goal.returns-clause-only
returns-clause-only g c is_open db left = g.met.S.Store.settled c.args.conn.now.store db is_open left

pub returns-clause-stays : goal.returns-clause-stays
returns-clause-stays g c is_open = g.met.S.Store.stays c.args.conn.now.store is_open
