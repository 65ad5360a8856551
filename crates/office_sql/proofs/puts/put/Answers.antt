use Rattle.std.proofs.Common.{refl}
use Rattle.sqlite.specs.Values.{bound}
use Rattle.office_sql.specs.Tables.{insert_of}
use Rattle.office_sql.proofs.Inside.{ran_inside}
use Rattle.office_sql.proofs.PutRows.{puts_row}
use Rattle.office_sql.proofs.puts.put.Goals as goal

pub returns-clause-put : goal.returns-clause-put
returns-clause-put g c suits tables mine =
    let ran = rw c.insert.ensures at c.execute.ensures.ran in
    ran_inside (insert_of c.args.table) (bound c.args.row.now) (bound c.args.row.now) (puts_row c.args.table (bound c.args.row.now) suits tables mine _ _) (λ did. did.has) refl c.execute.result ran c.execute.ensures.kept c.execute.ensures.survives
