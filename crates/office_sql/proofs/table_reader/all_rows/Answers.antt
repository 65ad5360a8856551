use Rattle.std.proofs.Common.{IfOk, []}
use Rattle.sqlite.specs.Held.{state}
use Rattle.sqlite.specs.State.{CommitsShowing, HasCleanDisk, Shown, Survives}
use Rattle.office_sql.specs.Tables.{text_of}
use Rattle.office_sql.proofs.ReadLemmas.{clean_before}
use Rattle.office_sql.proofs.RowByRow.{table_read}
use Rattle.office_sql.proofs.table_reader.all_rows.Goals as goal

pub returns : goal.returns
returns g c =
    let calls = c.query_all in
    let old = state g.S.Store c.args.conn.now in
    let new = state g.S.Store calls.new.self in
    let t = c.args.table in
    let shows : HasCleanDisk new → IfOk calls.result (λ rows. Shown (text_of t) [] old new rows.items) = rw c.text.ensures at calls.ensures.ok in
    let survives : Survives old new (CommitsShowing (text_of t) [] old) = rw c.text.ensures at calls.ensures.survives in
    record {
      read = λ tables mine. table_read tables t mine (λ rows. rows.items) old new calls.result shows survives;
      mode = calls.ensures.mode;
      clean = clean_before old new calls.ensures.survives;
      shield = calls.ensures.survives.shield;
    }
