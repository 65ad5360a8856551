use Rattle.std.proofs.Common.{◌≡◌, ◌==◌, inl, inr, not, true, false, length, rules}
use Rattle.sqlite.specs.Held.{state}
use Rattle.sqlite.specs.State.{HasCleanDisk, IsUnchanged}
use Rattle.office_sql.specs.SchemaVersions.{tables_of}
use Rattle.office_sql.specs.Office.{IsAtRestOver}
use Rattle.office_sql.specs.Reads.{IsByKey, bag_of, key_of}
use Rattle.office_sql.proofs.RowByRow.{listed}
use Rattle.office_store.proofs.AtRest.{rest_kept}
use Rattle.office_store.proofs.SchemaVersionFound.{is_nil, none_in, none_shown, not_nil}
use Rattle.office_store.proofs.adoption.no_row.Goals as goal

pub returns-in_err-rows-clause-finds : goal.returns-in_err-rows-clause-finds
returns-in_err-rows-clause-finds g c e is =
    let read = c.all_rows.ensures.read (tables_of e) (listed e c.args.table is) in
    record {
      none = search rules;
      damaged = search rules;
      kept = search rules;
      leaves = λ clean rest db may. elim ((read.survives rest.office.has).crash clean db may) [ inl left ↦ left | inr never ↦ absurd never ];
    }

pub returns-then-not-is_empty-clause-finds : goal.returns-then-not-is_empty-clause-finds
returns-then-not-is_empty-clause-finds g c e is =
    let old = state g.S.Store c.args.conn.now in
    let new = state g.S.Store c.all_rows.new.conn in
    let rows = c.in_ok-rows.rows.items in
    let read = c.all_rows.ensures.read (tables_of e) (listed e c.args.table is) in
    let by : HasCleanDisk new → IsAtRestOver e old → IsByKey (key_of c.args.table) (bag_of c.args.table old.now.trees) rows = λ clean rest. let all = read.rows clean rest.office.has in search (rules, all) in
    let some : not (length rows == 0) ≡ true = search rules in
    record {
      none = λ clean rest. tt;
      damaged = λ clean rest wrong none. not_nil rows some (none_shown (by clean rest).same none);
      kept = λ clean rest other.
          let all = read.same clean rest.office.has in
          rest_kept g.S.Store g.met.S.Store.settled g.met.S.Store.stays e c.args.conn.now c.all_rows.new.conn rest (search (rules, all));
      leaves = λ clean rest db may. elim ((read.survives rest.office.has).crash clean db may) [ inl left ↦ left | inr never ↦ absurd never ];
    }

pub returns-clause-finds : goal.returns-clause-finds
returns-clause-finds g c e is =
    let old = state g.S.Store c.args.conn.now in
    let new = state g.S.Store c.all_rows.new.conn in
    let rows = c.in_ok-rows.rows.items in
    let read = c.all_rows.ensures.read (tables_of e) (listed e c.args.table is) in
    let by : HasCleanDisk new → IsAtRestOver e old → IsByKey (key_of c.args.table) (bag_of c.args.table old.now.trees) rows = λ clean rest. let all = read.rows clean rest.office.has in search (rules, all) in
    let same : HasCleanDisk new → IsAtRestOver e old → IsUnchanged old new = λ clean rest. let all = read.same clean rest.office.has in search (rules, all) in
    let none : not (length rows == 0) ≡ false = search rules in
    record {
      none = λ clean rest.
          let kept = rest_kept g.S.Store g.met.S.Store.settled g.met.S.Store.stays e c.args.conn.now c.all_rows.new.conn rest (same clean rest) in
          (none_in (by clean rest).same (is_nil rows none), kept.0, kept.1);
      damaged = λ clean rest. tt;
      kept = λ clean rest. tt;
      leaves = λ clean rest db may. elim ((read.survives rest.office.has).crash clean db may) [ inl left ↦ left | inr never ↦ absurd never ];
    }
