use Rattle.std.proofs.lemmas.Result.{IfOk-weaker}
use Rattle.office_base.proofs.Exits.{damaged_exit, damaged_so}
use Rattle.office_rules.specs.Tables.{lists_of}
use Rattle.office_rules.proofs.GivenRows.{aggregations_broken, aggregations_next, contents_broken, contents_next, events_broken, events_next, records_broken, records_next}
use Rattle.office_rules.proofs.tables.Tables.give_records.Goals as goal

pub returns-in_err-give_all-clause-damaged : goal.returns-in_err-give_all-clause-damaged
returns-in_err-give_all-clause-damaged g c =
    let at = c.requires in
    damaged_exit c.from_residual.result c.in_err-give_all.field-0.0 c.from_residual.ensures.1 c.in_err-give_all.ensures.damaged (aggregations_broken (lists_of c.args.self.now) _ c.deref.ensures.value _ at)

pub returns-in_err-give_all-2-clause-damaged : goal.returns-in_err-give_all-2-clause-damaged
returns-in_err-give_all-2-clause-damaged g c =
    let at = c.requires in
    let aggregations = aggregations_next (lists_of c.args.self.now) _ c.deref.ensures.value _ _ at c.in_ok-give_all.ensures.ok in
    damaged_exit c.from_residual-in_err-give_all-2.result c.in_err-give_all-2.field-0.0 c.from_residual-in_err-give_all-2.ensures.1 c.in_err-give_all-2.ensures.damaged (records_broken (lists_of c.args.self.now) _ c.deref-2.ensures.value _ aggregations)

pub returns-in_err-give_all-3-clause-damaged : goal.returns-in_err-give_all-3-clause-damaged
returns-in_err-give_all-3-clause-damaged g c =
    let at = c.requires in
    let aggregations = aggregations_next (lists_of c.args.self.now) _ c.deref.ensures.value _ _ at c.in_ok-give_all.ensures.ok in
    let records = records_next (lists_of c.args.self.now) _ c.deref-2.ensures.value _ _ aggregations c.in_ok-give_all-2.ensures.ok in
    damaged_exit c.from_residual-in_err-give_all-3.result c.in_err-give_all-3.field-0.0 c.from_residual-in_err-give_all-3.ensures.1 c.in_err-give_all-3.ensures.damaged (events_broken (lists_of c.args.self.now) _ c.deref-3.ensures.value _ records)

pub returns-clause-ok : goal.returns-clause-ok
returns-clause-ok g c =
    let at = c.requires in
    let aggregations = aggregations_next (lists_of c.args.self.now) _ c.deref.ensures.value _ _ at c.in_ok-give_all.ensures.ok in
    let records = records_next (lists_of c.args.self.now) _ c.deref-2.ensures.value _ _ aggregations c.in_ok-give_all-2.ensures.ok in
    let events = events_next (lists_of c.args.self.now) _ c.deref-3.ensures.value _ _ records c.in_ok-give_all-3.ensures.ok in
    IfOk-weaker c.give_all-4.result _ _ (λ _ came. contents_next (lists_of c.args.self.now) _ c.deref-4.ensures.value _ _ events came) c.give_all-4.ensures.ok

pub returns-clause-damaged : goal.returns-clause-damaged
returns-clause-damaged g c =
    let at = c.requires in
    let aggregations = aggregations_next (lists_of c.args.self.now) _ c.deref.ensures.value _ _ at c.in_ok-give_all.ensures.ok in
    let records = records_next (lists_of c.args.self.now) _ c.deref-2.ensures.value _ _ aggregations c.in_ok-give_all-2.ensures.ok in
    let events = events_next (lists_of c.args.self.now) _ c.deref-3.ensures.value _ _ records c.in_ok-give_all-3.ensures.ok in
    damaged_so c.give_all-4.result c.give_all-4.ensures.damaged (contents_broken (lists_of c.args.self.now) _ c.deref-4.ensures.value _ events)
