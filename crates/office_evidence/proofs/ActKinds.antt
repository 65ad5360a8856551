-- What one act does, as far as runs, entries and certificates are concerned: one of five kinds.
use Rattle.std.proofs.Common.{◌≡◌, ◌≢◌, ◌∙◌, inl, inr, ℕ, suc, ℤ, List, [], ◌∷◌, ◌++◌, length, Option, Some, None, refl, sym, ap, unwrap_or}
use Rattle.std.specs.Option.{is_none}
use Rattle.office_base.specs.declared.refusal.Refusal.{Refusal}
use Rattle.office_base.specs.declared.refusal.Refusal.TheVariants.{NoRun}
use Rattle.office_records.specs.Conditions.{first_of}
use Rattle.office_records.specs.Lists.{edited, numbered}
use Rattle.office_records.specs.declared.head.Record.{Record}
use Rattle.office_records.specs.declared.classified.Classified.TheVariants as classified
use Rattle.office_records.proofs.Places.{length-edited}
use Rattle.office_rules.specs.Acts.{step}
use Rattle.office_rules.specs.Conditions.{refusals_of_add_schedule, refusals_of_add_class, refusals_of_set_class_schedule, refusals_of_add_aggregation, refusals_of_add_record, refusals_of_close_aggregation, refusals_of_set_record_schedule, refusals_of_reclassify, refusals_of_confirm, refusals_of_review, refusals_of_receipt, refusals_of_event, refusals_of_place_hold, refusals_of_hold_on, refusals_of_hold_off, refusals_of_lift_hold, refusals_of_open_run, same_record}
use Rattle.office_rules.specs.Disposing.{outcome_of}
use Rattle.office_rules.specs.Effects.{after_add_schedule, after_add_class, after_set_class_schedule, after_add_aggregation, after_close_aggregation, after_set_record_schedule, after_reclassify, after_confirm, after_review, after_receipt, after_event, after_place_hold, after_hold_on, after_hold_off, after_lift_hold, after_open_run, with_new_record}
use Rattle.office_rules.specs.NewRecords.{NewRecord, add_record, new_record}
use Rattle.office_rules.specs.Runs.{closed, next_ready, open_run, run_step, step_at, step_of, with_outcomes}
use Rattle.office_rules.specs.State.{State, Office, with_office}
use Rattle.office_rules.specs.Steps.{answer_at, answer_in, by_refusal, by_same_record, stepped}
use Rattle.office_rules.specs.declared.act.Act.{Act}
use Rattle.office_rules.specs.declared.act.Act.TheVariants as act
use Rattle.office_rules.specs.declared.answer.Answer.{Answer}
use Rattle.office_rules.specs.declared.answer.Answer.TheVariants as answer
use Rattle.office_rules.specs.declared.outcome.Outcome.{Outcome}
use Rattle.office_rules.specs.declared.outcome.Outcome.TheVariants as outcome
use Rattle.office_rules.proofs.SoundMaps.{edited_elsewhere, edited_here, pushed_keeps, same_or_not}

-- ---- what a record keeps

-- ref, length and digest are the same
pub record IsAlike (x y : Record) : Type 0 where
  pub ref_text : y.ref_text ≡ x.ref_text
  pub size : y.length ≡ x.length
  pub digest : y.digest ≡ x.digest

-- each record of the first list is at its number in the second, alike
abbrev pub KeepsHeads : List Record → List Record → Type 0
KeepsHeads xs ys = (n : ℕ) (x : Record) → numbered xs n ≡ Some x → (y : Record) × (numbered ys n ≡ Some y) × IsAlike x y

alike : (x : Record) → IsAlike x x
alike x = record { ref_text = refl; size = refl; digest = refl }

pub same_heads : (xs : List Record) → KeepsHeads xs xs
same_heads xs n x there = (x, there, alike x)

pub more_heads : (xs : List Record) (new : Record) → KeepsHeads xs (xs ++ new ∷ [])
more_heads xs new n x there = (x, pushed_keeps xs new n x there, alike x)

edited_heads : (xs : List Record) (r : ℕ) (change : Record → Record) → ((x : Record) → IsAlike x (change x)) → KeepsHeads xs (edited xs r change)
edited_heads xs r change same n x there = elim (same_or_not n r) [
  | inl here ↦ (change x, ap (numbered (edited xs r change)) here ∙ edited_here xs r change x (ap (numbered xs) (sym here) ∙ there), same x)
  | inr elsewhere ↦ (x, edited_elsewhere xs r n change elsewhere ∙ there, alike x)
]

-- ---- the five kinds

-- neither runs nor entries nor certificates are others, and the records are as many, alike
pub record Quiet (s : State) (reported : Answer) (t : State) : Type 0 where
  pub runs : t.office.runs ≡ s.office.runs
  pub entries : t.office.entries ≡ s.office.entries
  pub certificates : t.office.certificates ≡ s.office.certificates
  pub records : length t.office.tree.records ≡ length s.office.tree.records
  pub heads : KeepsHeads s.office.tree.records t.office.tree.records
  pub no_step : (r : ℕ) (o : Outcome) → reported ≢ answer.Step r o
  pub no_close : (n : ℕ) → reported ≢ answer.RunClosed n

-- a record was added
pub record Adds (s : State) (a : Act) (reported : Answer) (t : State) : Type 0 where
  pub day : ℤ
  pub new : NewRecord
  pub asked : a ≡ add_record day new
  pub answered : reported ≡ answer.Number (suc (length s.office.tree.records))
  pub is : t ≡ with_new_record s day new

-- a run was opened
pub record Opens (s : State) (a : Act) (reported : Answer) (t : State) : Type 0 where
  pub day : ℤ
  pub by : List ℕ
  pub asked : a ≡ act.OpenRun day by
  pub answered : reported ≡ answer.Number (suc (length s.office.runs))
  pub is : t ≡ with_office s (after_open_run s.office day by)

-- a step of the open run took a record
pub record Takes (s : State) (reported : Answer) (t : State) : Type 0 where
  pub run : ℕ
  pub open_is : open_run s.office ≡ Some run
  pub r : ℕ
  pub next : next_ready s.office run ≡ Some r
  pub answered : reported ≡ answer.Step r (unwrap_or (outcome_of s.office r) outcome.Skipped)
  pub is : t ≡ with_outcomes s run (r ∷ [])

-- a step closed it
pub record Closes (s : State) (reported : Answer) (t : State) : Type 0 where
  pub run : ℕ
  pub open_is : open_run s.office ≡ Some run
  pub none_next : next_ready s.office run ≡ None
  pub answered : reported ≡ answer.RunClosed run
  pub is : t ≡ closed s run

pub data Kind (s : State) (a : Act) (reported : Answer) (t : State) : Type 0 where
  quiet : Quiet s reported t → Kind s a reported t
  adds : Adds s a reported t → Kind s a reported t
  opens : Opens s a reported t → Kind s a reported t
  takes : Takes s reported t → Kind s a reported t
  closes : Closes s reported t → Kind s a reported t

-- nothing is done
stays : (s : State) (a : Act) (reported : Answer) → ((r : ℕ) (o : Outcome) → reported ≢ answer.Step r o) → ((n : ℕ) → reported ≢ answer.RunClosed n) → Kind s a reported s
stays s a reported no_step no_close = quiet (record { runs = refl; entries = refl; certificates = refl; records = refl; heads = same_heads s.office.tree.records; no_step = no_step; no_close = no_close })

-- an act that is refused or does this
refused : (s : State) (a : Act) (o : Option Refusal) (reported : Answer) (t : State) → Kind s a reported t → Kind s a (by_refusal o s reported t).0 (by_refusal o s reported t).1
refused s a (Some refusal) reported t kind = stays s a (answer.Refused refusal) (λ r o e. absurd cc) (λ n e. absurd cc)
refused s a None reported t kind = kind

-- an act on the tree or on the holds, answered by Done or a number
made : (s : State) (a : Act) (o : Option Refusal) (reported : Answer) (office : Office) → office.runs ≡ s.office.runs → office.entries ≡ s.office.entries → office.certificates ≡ s.office.certificates
    → length office.tree.records ≡ length s.office.tree.records → KeepsHeads s.office.tree.records office.tree.records → ((r : ℕ) (o : Outcome) → reported ≢ answer.Step r o) → ((n : ℕ) → reported ≢ answer.RunClosed n)
    → Kind s a (by_refusal o s reported (with_office s office)).0 (by_refusal o s reported (with_office s office)).1
made s a o reported office runs entries certificates records heads no_step no_close =
    refused s a o reported (with_office s office) (quiet (record { runs = runs; entries = entries; certificates = certificates; records = records; heads = heads; no_step = no_step; no_close = no_close }))

done : (s : State) (a : Act) (o : Option Refusal) (office : Office) → office.runs ≡ s.office.runs → office.entries ≡ s.office.entries → office.certificates ≡ s.office.certificates
    → length office.tree.records ≡ length s.office.tree.records → KeepsHeads s.office.tree.records office.tree.records → Kind s a (by_refusal o s answer.Done (with_office s office)).0 (by_refusal o s answer.Done (with_office s office)).1
done s a o office runs entries certificates records heads = made s a o answer.Done office runs entries certificates records heads (λ r o e. absurd cc) (λ n e. absurd cc)

added : (s : State) (day : ℤ) (new : NewRecord) (o : Option ℕ) → Kind s (add_record day new) (by_same_record o s day new).0 (by_same_record o s day new).1
added s day new (Some r) = stays s (add_record day new) (answer.Same r) (λ r o e. absurd cc) (λ n e. absurd cc)
added s day new None =
    refused s (add_record day new) (first_of (refusals_of_add_record s.office day new)) (answer.Number (suc (length s.office.tree.records))) (with_new_record s day new)
    (adds (record { day = day; new = new; asked = refl; answered = refl; is = refl }))

-- ---- a step of a run

next_kind : (s : State) (run : ℕ) (next : Option ℕ) → open_run s.office ≡ Some run → next_ready s.office run ≡ next → Kind s act.RunStep (answer_at s.office run next) (step_at s run next)
next_kind s run None open_is e = closes (record { run = run; open_is = open_is; none_next = e; answered = refl; is = refl })
next_kind s run (Some r) open_is e = takes (record { run = run; open_is = open_is; r = r; next = e; answered = refl; is = refl })

run_kind : (s : State) (o : Option ℕ) → open_run s.office ≡ o → Kind s act.RunStep (stepped ((NoRun, is_none o) ∷ []) s (answer_in s.office o) (step_of s o)).0 (stepped ((NoRun, is_none o) ∷ []) s (answer_in s.office o) (step_of s o)).1
unfolding run_step
run_kind s None e = stays s act.RunStep (answer.Refused NoRun) (λ r o e. absurd cc) (λ n e. absurd cc)
run_kind s (Some run) e = next_kind s run (next_ready s.office run) e refl

-- ---- any act

pub kind_of : (s : State) (a : Act) → Kind s a (step s a).0 (step s a).1
unfolding step
kind_of s (act.AddSchedule day code trigger period offset action) =
    done s (act.AddSchedule day code trigger period offset action) (first_of (refusals_of_add_schedule s.office day code)) (after_add_schedule s.office day code (record { trigger = trigger; period = period; offset = offset; action = action })) refl refl refl refl (same_heads s.office.tree.records)
kind_of s (act.AddClass day code title schedule) =
    done s (act.AddClass day code title schedule) (first_of (refusals_of_add_class s.office day code (record { title = title; schedule = schedule }))) (after_add_class s.office day code (record { title = title; schedule = schedule })) refl refl refl refl (same_heads s.office.tree.records)
kind_of s (act.SetClassSchedule day class schedule) =
    done s (act.SetClassSchedule day class schedule) (first_of (refusals_of_set_class_schedule s.office day class schedule)) (after_set_class_schedule s.office day class schedule) refl refl refl refl (same_heads s.office.tree.records)
kind_of s (act.AddAggregation day ref_text title parent class) =
    made s (act.AddAggregation day ref_text title parent class) (first_of (refusals_of_add_aggregation s.office day ref_text parent class)) (answer.Number (suc (length s.office.tree.aggregations))) (after_add_aggregation s.office day ref_text title parent class) refl refl refl refl (same_heads s.office.tree.records) (λ r o e. absurd cc) (λ n e. absurd cc)
kind_of s (act.CloseAggregation day a) =
    done s (act.CloseAggregation day a) (first_of (refusals_of_close_aggregation s.office day a)) (after_close_aggregation s.office day a) refl refl refl refl (same_heads s.office.tree.records)
kind_of s (act.AddRecord day ref_text title originated aggregation class schedule content) =
    let new = new_record ref_text title originated aggregation class schedule content in
    added s day new (same_record s.office new)
kind_of s (act.SetRecordSchedule day r schedule) =
    done s (act.SetRecordSchedule day r schedule) (first_of (refusals_of_set_record_schedule s.office day r schedule)) (after_set_record_schedule s.office day r schedule) refl refl refl (length-edited s.office.tree.records r _) (edited_heads s.office.tree.records r _ (λ x. record { ref_text = refl; size = refl; digest = refl }))
kind_of s (act.Reclassify day (classified.Aggregation a) class) =
    done s (act.Reclassify day (classified.Aggregation a) class) (first_of (refusals_of_reclassify s.office day (classified.Aggregation a) class)) (after_reclassify s.office day (classified.Aggregation a) class) refl refl refl refl (same_heads s.office.tree.records)
kind_of s (act.Reclassify day (classified.Record r) class) =
    done s (act.Reclassify day (classified.Record r) class) (first_of (refusals_of_reclassify s.office day (classified.Record r) class)) (after_reclassify s.office day (classified.Record r) class) refl refl refl (length-edited s.office.tree.records r _) (edited_heads s.office.tree.records r _ (λ x. record { ref_text = refl; size = refl; digest = refl }))
kind_of s (act.Confirm day r named by) =
    done s (act.Confirm day r named by) (first_of (refusals_of_confirm s.office day r named)) (after_confirm s.office day r named by) refl refl refl (length-edited s.office.tree.records r _) (edited_heads s.office.tree.records r _ (λ x. record { ref_text = refl; size = refl; digest = refl }))
kind_of s (act.Review day r schedule by) =
    done s (act.Review day r schedule by) (first_of (refusals_of_review s.office day r schedule)) (after_review s.office day r schedule by) refl refl refl (length-edited s.office.tree.records r _) (edited_heads s.office.tree.records r _ (λ x. record { ref_text = refl; size = refl; digest = refl }))
kind_of s (act.Receipt day r digest by) =
    done s (act.Receipt day r digest by) (first_of (refusals_of_receipt s.office day r digest)) (after_receipt s.office day r by) refl refl refl (length-edited s.office.tree.records r _) (edited_heads s.office.tree.records r _ (λ x. record { ref_text = refl; size = refl; digest = refl }))
kind_of s (act.Event day r occurred by) =
    done s (act.Event day r occurred by) (first_of (refusals_of_event s.office day r occurred)) (after_event s.office day r occurred by) refl refl refl refl (same_heads s.office.tree.records)
kind_of s (act.PlaceHold day code reason by) =
    done s (act.PlaceHold day code reason by) (first_of (refusals_of_place_hold s.office day code)) (after_place_hold s.office day code reason by) refl refl refl refl (same_heads s.office.tree.records)
kind_of s (act.HoldOn day code target) =
    done s (act.HoldOn day code target) (first_of (refusals_of_hold_on s.office day code target)) (after_hold_on s.office day code target) refl refl refl refl (same_heads s.office.tree.records)
kind_of s (act.HoldOff day code target) =
    done s (act.HoldOff day code target) (first_of (refusals_of_hold_off s.office day code target)) (after_hold_off s.office day code target) refl refl refl refl (same_heads s.office.tree.records)
kind_of s (act.LiftHold day code) =
    done s (act.LiftHold day code) (first_of (refusals_of_lift_hold s.office day code)) (after_lift_hold s.office day code) refl refl refl refl (same_heads s.office.tree.records)
kind_of s (act.OpenRun day by) =
    refused s (act.OpenRun day by) (first_of (refusals_of_open_run s.office day)) (answer.Number (suc (length s.office.runs))) (with_office s (after_open_run s.office day by)) (opens (record { day = day; by = by; asked = refl; answered = refl; is = refl }))
kind_of s act.RunStep = run_kind s (open_run s.office) refl
