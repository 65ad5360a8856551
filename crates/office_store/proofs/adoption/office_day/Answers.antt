use Rattle.std.proofs.Common.{inl, inr, refl, rules, [], ◌∷◌, IsPermutation}
use Rattle.std.proofs.lemmas.List.Sorted.{IsPermutation-sym, IsPermutation-trans}
use Rattle.std.proofs.lemmas.Result.{IfOk-weaker, IfErr-weaker}
use Rattle.sqlite.specs.Held.{state}
use Rattle.sqlite.specs.State.{HasCleanDisk, IsUnchanged}
use Rattle.office_sql.specs.Bags.{rows_of}
use Rattle.office_sql.specs.SchemaVersions.{tables_of}
use Rattle.office_sql.specs.Office.{IsAtRestOver}
use Rattle.office_sql.specs.Schema.{office}
use Rattle.office_sql.proofs.RowByRow.{office_in}
use Rattle.office_store.proofs.AtRest.{kept_at, rest_kept}
use Rattle.office_store.proofs.OfficeRow.{named_or_not, only_row}
use Rattle.office_store.proofs.adoption.office_day.Goals as goal

pub returns-in_err-rows-clause-reads : goal.returns-in_err-rows-clause-reads
returns-in_err-rows-clause-reads g c ed =
    let all = c.all_rows.ensures.read (tables_of ed) (office_in ed) in
    record {
      read = search rules;
      same = search rules;
      kept = search rules;
      faults = search rules;
      damaged = search rules;
      version = search rules;
      leaves = λ clean rest db may. elim ((all.survives rest.office.has).crash clean db may) [ inl left ↦ left | inr never ↦ absurd never ];
      clean = search rules;
      shield = search rules;
    }

pub returns-clause-reads : goal.returns-clause-reads
returns-clause-reads g c ed =
    let old = state g.S.Store c.args.conn.now in
    let bag = rows_of office old.now.trees in
    let rows = c.deref.result.now in
    let read = c.all_rows.ensures.read (tables_of ed) (office_in ed) in
    let held : HasCleanDisk (state g.S.Store c.all_rows.new.conn) → IsAtRestOver ed old → IsPermutation rows bag = λ clean rest.
    let all = read.rows clean rest.office.has in IsPermutation-sym bag rows (rw c.deref.ensures.value (search (rules, all))) in
    record {
      read = λ clean rest. IfOk-weaker c.day_of.result _ _ (λ p is. rw is at (held clean rest)) c.day_of.ensures.ok;
      same = λ clean rest. let same = read.same clean rest.office.has in search (rules, same);
      kept = λ clean rest.
          let all = read.same clean rest.office.has in
          let same : IsUnchanged old (state g.S.Store c.all_rows.new.conn) = search (rules, all) in
          kept_at c.day_of.result (rest_kept g.S.Store g.met.S.Store.settled g.met.S.Store.stays ed c.args.conn.now c.all_rows.new.conn rest same);
      faults = search rules;
      damaged = λ clean rest. IfErr-weaker c.day_of.result _ _ (λ fault none damaged all. none damaged ed all.office.0 all.office.1 (only_row _ rows (IsPermutation-trans _ bag rows all.office.2 (IsPermutation-sym rows bag (held clean rest))))) c.day_of.ensures.damaged;
      version = λ clean rest. IfErr-weaker c.day_of.result _ _ (λ fault is other. let v = is other in (v.0, v.1, v.2, rw v.3 at (held clean rest), v.4, v.5)) c.day_of.ensures.version;
      leaves = λ clean rest db may. elim ((read.survives rest.office.has).crash clean db may) [ inl left ↦ left | inr never ↦ absurd never ];
      clean = search rules;
      shield = search rules;
    }

pub returns-clause-this_version : goal.returns-clause-this_version
returns-clause-this_version g c ed clean rest =
    let bag = rows_of office (state g.S.Store c.args.conn.now).now.trees in
    let rows = c.deref.result.now in
    let all = (c.all_rows.ensures.read (tables_of ed) (office_in ed)).rows clean rest.office.has in
    let held : IsPermutation bag rows = rw c.deref.ensures.value (search (rules, all)) in
    IfErr-weaker c.day_of.result _ _ (λ fault none is other. none is other.0 other.1 other.2 other.4 other.5 (only_row _ rows (IsPermutation-trans _ bag rows other.3 held))) c.day_of.ensures.this_version

pub returns-clause-named : goal.returns-clause-named
returns-clause-named g c clean has =
    let bag = rows_of office (state g.S.Store c.args.conn.now).now.trees in
    let rows = c.deref.result.now in
    let all = (c.all_rows.ensures.read (office ∷ []) (inl refl)).rows clean has in
    let held : IsPermutation rows bag = IsPermutation-sym bag rows (rw c.deref.ensures.value (search (rules, all))) in
    IfOk-weaker c.day_of.result _ _ (λ p is. (p.1, rw is at held)) c.day_of.ensures.ok

pub returns-clause-other : goal.returns-clause-other
returns-clause-other g c clean has =
    let db = (state g.S.Store c.args.conn.now).now.trees in
    let bag = rows_of office db in
    let rows = c.deref.result.now in
    let all = (c.all_rows.ensures.read (office ∷ []) (inl refl)).rows clean has in
    let held : IsPermutation rows bag = IsPermutation-sym bag rows (rw c.deref.ensures.value (search (rules, all))) in
    named_or_not c.day_of.result db c.day_of.ensures.faults
    (IfErr-weaker c.day_of.result _ _ (λ fault is other. let v = is other in (v.0, v.1, v.2, rw v.3 at held, v.4, v.5)) c.day_of.ensures.version)
