use Rattle.std.proofs.Common.{◌≡◌, ◌∷◌, [], subst, sym, rules}
use Rattle.sqlite.specs.Held.{state}
use Rattle.office_sql.specs.SchemaVersions.{version_2}
use Rattle.office_sql.specs.Office.{GoesInside, Removed, Wrote}
use Rattle.office_sql.specs.Schema.{targets}
use Rattle.office_sql.specs.Shown.{target_row}
use Rattle.office_sql.proofs.OfTwo.{has_certificates, has_contents, has_targets}
use Rattle.office_store.specs.Encoded.{encoded_target, target_kind}
use Rattle.office_store.proofs.row_writes.write_row.Goals as goal

pub returns-in-Schedule-clause-written : goal.returns-in-Schedule-clause-written
returns-in-Schedule-clause-written g c = rw (sym c.it.view_is, c.in-Schedule.is) c.put_schedule.ensures.written

pub returns-in-Class-clause-written : goal.returns-in-Class-clause-written
returns-in-Class-clause-written g c = rw (sym c.it.view_is, c.in-Class.is) c.put_class.ensures.written

pub returns-in-Aggregation-clause-written : goal.returns-in-Aggregation-clause-written
returns-in-Aggregation-clause-written g c = rw (sym c.it.view_is, c.in-Aggregation.is) c.put_aggregation.ensures.written

pub returns-in-Record-clause-written : goal.returns-in-Record-clause-written
returns-in-Record-clause-written g c = rw (sym c.it.view_is, c.in-Record.is) c.put_record.ensures.written

pub returns-in-Hold-clause-written : goal.returns-in-Hold-clause-written
returns-in-Hold-clause-written g c = rw (sym c.it.view_is, c.in-Hold.is) c.put_hold.ensures.written

pub returns-in-Run-clause-written : goal.returns-in-Run-clause-written
returns-in-Run-clause-written g c = rw (sym c.it.view_is, c.in-Run.is) c.put_run.ensures.written

pub returns-in-Entry-clause-written : goal.returns-in-Entry-clause-written
returns-in-Entry-clause-written g c = rw (sym c.it.view_is, c.in-Entry.is) c.put_entry.ensures.written

pub returns-in-Content-clause-written : goal.returns-in-Content-clause-written
returns-in-Content-clause-written g c = let put = c.put_content.ensures.written version_2 has_contents in rw (sym c.it.view_is) (search (rules, put))

pub returns-in-DeleteContent-clause-written : goal.returns-in-DeleteContent-clause-written
returns-in-DeleteContent-clause-written g c = let removed = c.remove_content.ensures.removed version_2 has_contents in rw (sym c.it.view_is) (search (rules, removed))

pub returns-in-Certificate-clause-written : goal.returns-in-Certificate-clause-written
returns-in-Certificate-clause-written g c = let put = c.put_certificate.ensures.written version_2 has_certificates in rw (sym c.it.view_is) (search (rules, put))

pub returns-in-Day-clause-written : goal.returns-in-Day-clause-written
returns-in-Day-clause-written g c = rw (sym c.it.view_is, c.in-Day.is) c.put_day.ensures.written

pub returns-in-Target-clause-written : goal.returns-in-Target-clause-written
returns-in-Target-clause-written g c =
    let same : target_row c.in-Target.hold (target_kind c.in-Target.target) c.as_str-text.result.now ≡ encoded_target c.in-Target.hold c.in-Target.target = search rules in
    rw (sym c.it.view_is, c.in-Target.is) (subst (λ row. GoesInside {X = Unit {0}} version_2 (Wrote version_2 targets ((0 ∷ 1 ∷ 2 ∷ []) ∷ []) row) (state g.S.Store c.args.tx.now.conn.now) (state g.S.Store c.put_target.new.tx.conn.now) c.put_target.result) same (c.put_target.ensures.written version_2 has_targets))

pub returns-in-RemoveTarget-clause-written : goal.returns-in-RemoveTarget-clause-written
returns-in-RemoveTarget-clause-written g c =
    let same : target_row c.text.result.now c.target_kind.result.now c.as_str-text.result.now ≡ encoded_target c.in-RemoveTarget.hold c.in-RemoveTarget.target = search rules in
    rw (sym c.it.view_is, c.in-RemoveTarget.is) (subst (λ row. GoesInside {X = Unit {0}} version_2 (Removed version_2 targets ((0 ∷ 1 ∷ 2 ∷ []) ∷ []) row) (state g.S.Store c.args.tx.now.conn.now) (state g.S.Store c.remove_target.new.tx.conn.now) c.remove_target.result) same (c.remove_target.ensures.removed version_2 has_targets))
