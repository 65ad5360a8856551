use Rattle.std.proofs.Common.{◌≡◌, sym, subst}
use Rattle.office_rules.specs.declared.outcome.Outcome.{Outcome}
use Rattle.office_evidence.specs.Parsed.{IsHoldOf, columns_of}
use Rattle.office_evidence.specs.Reading.{Gives}
use Rattle.office_evidence.proofs.Chains.{given, goes_on, memory, no_error, passed_on, word_at}
use Rattle.office_evidence.proofs.lines.entry_of.Goals as goal

pub returns-in_err-due-clause-every : goal.returns-in_err-due-clause-every
returns-in_err-due-clause-every c it formed same =
    absurd (no_error c.due_in.result it.due c.ok_or-3.result _ _ (c.due_in.ensures it.due formed.due (word_at c.args.words.now (columns_of it) 6 _ same)) c.ok_or-3.ensures.value c.in_err-due.was)

pub returns-in_err-hold-clause-every : goal.returns-in_err-hold-clause-every
returns-in_err-hold-clause-every c it formed same =
    let outcome : c.in_ok-outcome.outcome ≡ it.outcome = goes_on c.outcome_in.result it.outcome c.in_ok-outcome.outcome c.ok_or-2.result _ (c.outcome_in.ensures it.outcome (word_at c.args.words.now (columns_of it) 2 _ same)) c.ok_or-2.ensures.value c.in_ok-outcome.was in
    let gives : Gives c.hold_in.result it.hold = c.hold_in.ensures.every it.hold (subst (λ (o : Outcome). IsHoldOf o it.hold) (sym outcome) formed.hold) (word_at c.args.words.now (columns_of it) 7 _ same) in
    passed_on c.from_residual-in_err-hold.result it c.in_err-hold.field-0.0 c.from_residual-in_err-hold.ensures.1 (memory c.hold_in.result it.hold c.in_err-hold.field-0.0 gives c.in_err-hold.was)

pub returns-in_err-confirmed_by-clause-every : goal.returns-in_err-confirmed_by-clause-every
returns-in_err-confirmed_by-clause-every c it formed same =
    passed_on c.from_residual-in_err-confirmed_by.result it c.in_err-confirmed_by.field-0.0 c.from_residual-in_err-confirmed_by.ensures.1
    (memory c.text_in-2.result it.confirmed_by c.in_err-confirmed_by.field-0.0 (c.text_in-2.ensures it.confirmed_by formed.confirmed_by (word_at c.args.words.now (columns_of it) 8 _ same)) c.in_err-confirmed_by.was)

pub returns-in_err-length-clause-every : goal.returns-in_err-length-clause-every
returns-in_err-length-clause-every c it formed same =
    absurd (no_error c.number_in-2.result it.length c.ok_or-4.result _ _ (c.number_in-2.ensures it.length formed.length_few (word_at c.args.words.now (columns_of it) 9 _ same)) c.ok_or-4.ensures.value c.in_err-length.was)

pub returns-in_err-digest-clause-every : goal.returns-in_err-digest-clause-every
returns-in_err-digest-clause-every c it formed same =
    absurd (no_error c.read_digest.result it.digest c.ok_or-5.result _ _ (c.read_digest.ensures.every it.digest formed.digest (word_at c.args.words.now (columns_of it) 10 _ same)) c.ok_or-5.ensures.value c.in_err-digest.was)

pub returns-clause-every : goal.returns-clause-every
returns-clause-every c it formed same =
    let number : c.in_ok-record_no.record_no ≡ it.record_no = goes_on c.number_in.result it.record_no c.in_ok-record_no.record_no c.ok_or.result _ (c.number_in.ensures it.record_no formed.record_few (word_at c.args.words.now (columns_of it) 1 _ same)) c.ok_or.ensures.value c.in_ok-record_no.was in
    let outcome : c.in_ok-outcome.outcome ≡ it.outcome = goes_on c.outcome_in.result it.outcome c.in_ok-outcome.outcome c.ok_or-2.result _ (c.outcome_in.ensures it.outcome (word_at c.args.words.now (columns_of it) 2 _ same)) c.ok_or-2.ensures.value c.in_ok-outcome.was in
    let ref_text : c.in_ok-ref_text.ref_text ≡ it.ref_text = given c.text_in.result it.ref_text c.in_ok-ref_text.ref_text (c.text_in.ensures it.ref_text formed.ref_text (word_at c.args.words.now (columns_of it) 3 _ same)) c.in_ok-ref_text.was in
    let class : c.in_ok-class.class ≡ it.class = given c.code_in.result it.class c.in_ok-class.class (c.code_in.ensures it.class formed.class (word_at c.args.words.now (columns_of it) 4 _ same)) c.in_ok-class.was in
    let schedule : c.in_ok-schedule.schedule ≡ it.schedule = given c.code_in-2.result it.schedule c.in_ok-schedule.schedule (c.code_in-2.ensures it.schedule formed.schedule (word_at c.args.words.now (columns_of it) 5 _ same)) c.in_ok-schedule.was in
    let due : c.in_ok-due.due ≡ it.due = goes_on c.due_in.result it.due c.in_ok-due.due c.ok_or-3.result _ (c.due_in.ensures it.due formed.due (word_at c.args.words.now (columns_of it) 6 _ same)) c.ok_or-3.ensures.value c.in_ok-due.was in
    let gives : Gives c.hold_in.result it.hold = c.hold_in.ensures.every it.hold (subst (λ (o : Outcome). IsHoldOf o it.hold) (sym outcome) formed.hold) (word_at c.args.words.now (columns_of it) 7 _ same) in
    let hold : c.in_ok-hold.hold ≡ it.hold = given c.hold_in.result it.hold c.in_ok-hold.hold gives c.in_ok-hold.was in
    let by : c.in_ok-confirmed_by.confirmed_by ≡ it.confirmed_by = given c.text_in-2.result it.confirmed_by c.in_ok-confirmed_by.confirmed_by (c.text_in-2.ensures it.confirmed_by formed.confirmed_by (word_at c.args.words.now (columns_of it) 8 _ same)) c.in_ok-confirmed_by.was in
    let size : c.in_ok-length.length ≡ it.length = goes_on c.number_in-2.result it.length c.in_ok-length.length c.ok_or-4.result _ (c.number_in-2.ensures it.length formed.length_few (word_at c.args.words.now (columns_of it) 9 _ same)) c.ok_or-4.ensures.value c.in_ok-length.was in
    let digest : c.in_ok-digest.digest ≡ it.digest = goes_on c.read_digest.result it.digest c.in_ok-digest.digest c.ok_or-5.result _ (c.read_digest.ensures.every it.digest formed.digest (word_at c.args.words.now (columns_of it) 10 _ same)) c.ok_or-5.ensures.value c.in_ok-digest.was in
    λ i. record { record_no = number i; outcome = outcome i; ref_text = ref_text i; class = class i; schedule = schedule i; due = due i; hold = hold i; confirmed_by = by i; length = size i; digest = digest i }
