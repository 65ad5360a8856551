use Rattle.std.proofs.Common.{rules}
use Rattle.office_sql.proofs.migration.migrate_all.Goals as goal

pub returns-in_err-migrate_in-clause-migrates : goal.returns-in_err-migrate_in-clause-migrates
returns-in_err-migrate_in-clause-migrates g c day = record {
  ok = λ clean rest ready. search rules;
  err = λ clean rest ready. let made = c.in_err-migrate_in.ensures.migrated day (rw c.transaction-tx.ensures.begun ready) in let office = rest.office in search (rules, made, office);
  undone = λ clean rest ready is_open. let made = c.in_err-migrate_in.ensures.migrated day (rw c.transaction-tx.ensures.begun ready) in let office = rest.office in search (rules, made, office);
}

pub returns-clause-migrates : goal.returns-clause-migrates
returns-clause-migrates g c day = record {
  ok = λ clean rest ready. let made = c.in_ok-migrate_in.ensures.migrated day (rw c.transaction-tx.ensures.begun ready) in let office = rest.office in search (rules, made, office);
  err = λ clean rest ready. let made = c.in_ok-migrate_in.ensures.migrated day (rw c.transaction-tx.ensures.begun ready) in let office = rest.office in search (rules, made, office);
  undone = λ clean rest ready is_open. let made = c.in_ok-migrate_in.ensures.migrated day (rw c.transaction-tx.ensures.begun ready) in let office = rest.office in search (rules, made, office);
}
