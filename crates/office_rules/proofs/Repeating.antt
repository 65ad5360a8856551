-- A record that was added is found by what it was asked for with, whatever is done afterwards.
use Rattle.std.proofs.Common.{◌≡◌, ℕ, zero, suc, ◌+◌, ◌++◌, ℤ, Bool, true, false, cond, List, [], ◌∷◌, length, Option, Some, None, refl, sym, ap, ◌∙◌, arith}
use Rattle.std.specs.Prelude.{◌==◌, ◌&&◌, slice_get}
use Rattle.std.specs.Ordering.{int_eq}
use Rattle.std.specs.Str.{bytes_eq}
use Rattle.std.proofs.lemmas.Bool.{eq-eqb}
use Rattle.std.proofs.lemmas.Bool.Decides.{Decides-int_eq}
use Rattle.std.proofs.lemmas.Slice.Eq.{bytes_eq-Decides}
use Rattle.sha2.specs.Sha256.{sha256}
use Rattle.office_base.specs.declared.refusal.Refusal.{Refusal}
use Rattle.office_records.specs.Conditions.{first_of}
use Rattle.office_records.specs.Lists.{edited, edited_at, numbered}
use Rattle.office_records.specs.declared.head.Record.{Record}
use Rattle.office_records.specs.declared.classified.Classified.{Classified}
use Rattle.office_records.specs.declared.classified.Classified.TheVariants as classified
use Rattle.office_rules.specs.Acts.{after, answers, step}
use Rattle.office_rules.specs.Conditions.{is_same_record, number_passing, refusals_of_add_record, same_record}
use Rattle.office_rules.specs.Effects.{after_reclassify, new_head, with_new_record}
use Rattle.office_rules.specs.NewRecords.{NewRecord, add_record, new_record}
use Rattle.office_rules.specs.Runs.{closed, next_ready, open_run, run_step, step_at, step_of, with_outcomes}
use Rattle.office_rules.specs.State.{State, with_office}
use Rattle.office_rules.specs.Steps.{by_refusal, by_same_record}
use Rattle.office_rules.specs.declared.act.Act.{Act}
use Rattle.office_rules.specs.declared.act.Act.TheVariants as act
use Rattle.office_rules.specs.declared.answer.Answer.{Answer}
use Rattle.office_rules.specs.declared.answer.Answer.TheVariants.{Number, Same}

-- who asks for the one record asks for the other
abbrev Alike : Record → Record → Type 0
Alike x y = (new : NewRecord) → is_same_record new x ≡ is_same_record new y

-- the first records are at their numbers in the second list, alike
abbrev Stay : List Record → List Record → Type 0
Stay [] ys = Unit {0}
Stay (x ∷ xs) [] = ⊥
Stay (x ∷ xs) (y ∷ ys) = Alike x y × Stay xs ys

stay_same : (xs : List Record) → Stay xs xs
stay_same [] = tt
stay_same (x ∷ xs) = (λ new. refl, stay_same xs)

stay_more : (xs more : List Record) → Stay xs (xs ++ more)
stay_more [] more = tt
stay_more (x ∷ xs) more = (λ new. refl, stay_more xs more)

stay_edited_at : (xs : List Record) (i : ℕ) (change : Record → Record) → ((x : Record) → Alike x (change x)) → Stay xs (edited_at xs i change)
stay_edited_at [] i change alike = tt
stay_edited_at (x ∷ xs) zero change alike = (alike x, stay_same xs)
stay_edited_at (x ∷ xs) (suc i) change alike = (λ new. refl, stay_edited_at xs i change alike)

stay_edited : (xs : List Record) (r : ℕ) (change : Record → Record) → ((x : Record) → Alike x (change x)) → Stay xs (edited xs r change)
stay_edited xs zero change alike = stay_same xs
stay_edited xs (suc i) change alike = stay_edited_at xs i change alike

-- ---- the first that passes

passing_by : (test : Record → Bool) (m n : ℕ) (x y : Record) (xs ys : List Record) (b : Bool) → test x ≡ b → test x ≡ test y
    → (number_passing test (suc m) xs ≡ Some n → number_passing test (suc m) ys ≡ Some n) → number_passing test m (x ∷ xs) ≡ Some n → number_passing test m (y ∷ ys) ≡ Some n
passing_by test m n x y xs ys true e same rest is =
    let here : Some m ≡ Some n = sym (ap (λ b. cond b (Some m) (number_passing test (suc m) xs)) e) ∙ is in
    ap (λ b. cond b (Some m) (number_passing test (suc m) ys)) (sym same ∙ e) ∙ here
passing_by test m n x y xs ys false e same rest is =
    ap (λ b. cond b (Some m) (number_passing test (suc m) ys)) (sym same ∙ e) ∙ rest (sym (ap (λ b. cond b (Some m) (number_passing test (suc m) xs)) e) ∙ is)

-- a record that is found is found where all stay alike
passing_stays : (new : NewRecord) (m n : ℕ) (xs ys : List Record) → Stay xs ys → number_passing (is_same_record new) m xs ≡ Some n → number_passing (is_same_record new) m ys ≡ Some n
passing_stays new m n [] ys stay is = absurd cc
passing_stays new m n (x ∷ xs) [] stay is = absurd stay
passing_stays new m n (x ∷ xs) (y ∷ ys) stay is =
    passing_by (is_same_record new) m n x y xs ys (is_same_record new x) refl (stay.0 new) (passing_stays new (suc m) n xs ys stay.1) is

appended_by : (test : Record → Bool) (m : ℕ) (x y : Record) (ys : List Record) (b : Bool) → test y ≡ b → number_passing test m (y ∷ ys) ≡ None
    → (number_passing test (suc m) ys ≡ None → number_passing test (suc m) (ys ++ x ∷ []) ≡ Some (suc m + length ys)) → number_passing test m (y ∷ ys ++ x ∷ []) ≡ Some (m + suc (length ys))
appended_by test m x y ys true e none rest =
    let found : Some m ≡ None = sym (ap (λ b. cond b (Some m) (number_passing test (suc m) ys)) e) ∙ none in
    absurd cc
appended_by test m x y ys false e none rest =
    let next : suc m + length ys ≡ m + suc (length ys) = omega arith in
    ap (λ b. cond b (Some m) (number_passing test (suc m) (ys ++ x ∷ []))) e ∙ rest (sym (ap (λ b. cond b (Some m) (number_passing test (suc m) ys)) e) ∙ none) ∙ ap Some next

-- where none passes, the one that is added passes first
passing_appended : (test : Record → Bool) (m : ℕ) (xs : List Record) (x : Record) → number_passing test m xs ≡ None → test x ≡ true → number_passing test m (xs ++ x ∷ []) ≡ Some (m + length xs)
passing_appended test m [] x none passes =
    let here : m ≡ m + 0 = omega arith in
    ap (λ b. cond b (Some m) None) passes ∙ ap Some here
passing_appended test m (y ∷ ys) x none passes = appended_by test m x y ys (test y) refl none (λ left. passing_appended test (suc m) ys x left passes)

all_true : (a b c d e f : Bool) → a ≡ true → b ≡ true → c ≡ true → d ≡ true → e ≡ true → f ≡ true → (a && b && c && d && e && f) ≡ true
all_true a b c d e f ha hb hc hd he hf = λ i. ha i && hb i && hc i && hd i && he i && hf i

-- the head of a new record is what it was asked for with
same_head : (day : ℤ) (new : NewRecord) → is_same_record new (new_head day new) ≡ true
same_head day new =
    let bytes = length new.content in
    let digest = sha256 new.content in
    all_true (bytes_eq new.ref_text new.ref_text) (bytes_eq new.title new.title) (int_eq new.originated new.originated) (new.aggregation == new.aggregation) (bytes == bytes) (bytes_eq digest digest)
    ((bytes_eq-Decides new.ref_text new.ref_text).1 refl) ((bytes_eq-Decides new.title new.title).1 refl) ((Decides-int_eq new.originated new.originated).1 refl)
    (eq-eqb new.aggregation new.aggregation refl) (eq-eqb bytes bytes refl) ((bytes_eq-Decides digest digest).1 refl)

-- ---- each act

abbrev records : State → List Record
records s = s.office.tree.records

stay_by : (refusal : Option Refusal) (s : State) (answer : Answer) (next : State) → Stay (records s) (records next) → Stay (records s) (records (by_refusal refusal s answer next).1)
stay_by None s answer next stay = stay
stay_by (Some refusal) s answer next stay = stay_same (records s)

stay_new : (same : Option ℕ) (s : State) (day : ℤ) (new : NewRecord) → Stay (records s) (records (by_same_record same s day new).1)
stay_new (Some r) s day new = stay_same (records s)
stay_new None s day new = stay_by (first_of (refusals_of_add_record s.office day new)) s (Number (suc (length (records s)))) (with_new_record s day new) (stay_more (records s) (new_head day new ∷ []))

stay_reclassified : (s : State) (day : ℤ) (what : Classified) (class : Option (List ℕ)) → Stay (records s) (records (with_office s (after_reclassify s.office day what class)))
stay_reclassified s day (classified.Aggregation a) class = stay_same (records s)
stay_reclassified s day (classified.Record r) class = stay_edited (records s) r (λ head. record head { class = class }) (λ x new. refl)

stay_at : (s : State) (run : ℕ) (next : Option ℕ) → Stay (records s) (records (step_at s run next))
unfolding closed with_outcomes
stay_at s run None = stay_same (records s)
stay_at s run (Some r) = stay_same (records s)

stay_run : (s : State) (run : Option ℕ) → Stay (records s) (records (step_of s run))
unfolding run_step
stay_run s None = stay_same (records s)
stay_run s (Some run) = stay_at s run (next_ready s.office run)

-- no act changes what a record was asked for with
stay_step : (s : State) (a : Act) → Stay (records s) (records (step s a).1)
unfolding step
stay_step s (act.AddSchedule day code trigger period offset action) = stay_by _ s _ _ (stay_same (records s))
stay_step s (act.AddClass day code title schedule) = stay_by _ s _ _ (stay_same (records s))
stay_step s (act.SetClassSchedule day class schedule) = stay_by _ s _ _ (stay_same (records s))
stay_step s (act.AddAggregation day ref_text title parent class) = stay_by _ s _ _ (stay_same (records s))
stay_step s (act.CloseAggregation day a) = stay_by _ s _ _ (stay_same (records s))
stay_step s (act.AddRecord day ref_text title originated aggregation class schedule content) =
    let new = new_record ref_text title originated aggregation class schedule content in
    stay_new (same_record s.office new) s day new
stay_step s (act.SetRecordSchedule day r schedule) = stay_by _ s _ _ (stay_edited (records s) r (λ head. record head { schedule = schedule }) (λ x new. refl))
stay_step s (act.Reclassify day what class) = stay_by _ s _ _ (stay_reclassified s day what class)
stay_step s (act.Confirm day r named by) = stay_by _ s _ _ (stay_edited (records s) r _ (λ x new. refl))
stay_step s (act.Review day r schedule by) = stay_by _ s _ _ (stay_edited (records s) r _ (λ x new. refl))
stay_step s (act.Receipt day r digest by) = stay_by _ s _ _ (stay_edited (records s) r _ (λ x new. refl))
stay_step s (act.Event day r occurred by) = stay_by _ s _ _ (stay_same (records s))
stay_step s (act.PlaceHold day code reason by) = stay_by _ s _ _ (stay_same (records s))
stay_step s (act.HoldOn day code target) = stay_by _ s _ _ (stay_same (records s))
stay_step s (act.HoldOff day code target) = stay_by _ s _ _ (stay_same (records s))
stay_step s (act.LiftHold day code) = stay_by _ s _ _ (stay_same (records s))
stay_step s (act.OpenRun day by) = stay_by _ s _ _ (stay_same (records s))
stay_step s act.RunStep = stay_by _ s _ _ (stay_run s (open_run s.office))

-- ---- what was added is found

added_by : (refusal : Option Refusal) (s : State) (day : ℤ) (new : NewRecord) (n : ℕ) → same_record s.office new ≡ None
    → (by_refusal refusal s (Number (suc (length (records s)))) (with_new_record s day new)).0 ≡ Number n
    → same_record (by_refusal refusal s (Number (suc (length (records s)))) (with_new_record s day new)).1.office new ≡ Some n
added_by None s day new n none is =
    let at : suc (length (records s)) ≡ n = cc in
    let number : 1 + length (records s) ≡ n = omega (arith, at) in
    passing_appended (is_same_record new) 1 (records s) (new_head day new) none (same_head day new) ∙ ap Some number
added_by (Some refusal) s day new n none is = absurd cc

added_new : (same : Option ℕ) (s : State) (day : ℤ) (new : NewRecord) (n : ℕ) → same_record s.office new ≡ same → (by_same_record same s day new).0 ≡ Number n → same_record (by_same_record same s day new).1.office new ≡ Some n
added_new (Some r) s day new n e is = absurd cc
added_new None s day new n e is = added_by (first_of (refusals_of_add_record s.office day new)) s day new n e is

-- a record that was answered by a new number is found under it
found_new : (s : State) (day : ℤ) (new : NewRecord) (n : ℕ) → (step s (add_record day new)).0 ≡ Number n → same_record (step s (add_record day new)).1.office new ≡ Some n
unfolding step
found_new s day new n is = added_new (same_record s.office new) s day new n refl is

found_step : (s : State) (a : Act) (new : NewRecord) (n : ℕ) → same_record s.office new ≡ Some n → same_record (step s a).1.office new ≡ Some n
found_step s a new n found = passing_stays new 1 n (records s) (records (step s a).1) (stay_step s a) found

found_after : (s : State) (acts : List Act) (new : NewRecord) (n : ℕ) → same_record s.office new ≡ Some n → same_record (after s acts).office new ≡ Some n
found_after s [] new n found = found
found_after s (a ∷ rest) new n found = found_after (step s a).1 rest new n (found_step s a new n found)

found_in : (s : State) (acts : List Act) (i n : ℕ) (day : ℤ) (new : NewRecord) → slice_get acts i ≡ Some (add_record day new) → slice_get (answers s acts) i ≡ Some (Number n) → same_record (after s acts).office new ≡ Some n
found_in s [] i n day new asked reported = absurd cc
found_in s (a ∷ rest) zero n day new asked reported =
    let same : a ≡ add_record day new = cc in
    let answer : (step s a).0 ≡ Number n = cc in
    let found = found_new s day new n (ap (λ (x : Act). (step s x).0) (sym same) ∙ answer) in
    found_after (step s a).1 rest new n (ap (λ (x : Act). same_record (step s x).1.office new) same ∙ found)
found_in s (a ∷ rest) (suc i) n day new asked reported = found_in (step s a).1 rest i n day new asked reported

found_at : (s : State) (acts : List Act) (k n : ℕ) (day : ℤ) (new : NewRecord) → numbered acts k ≡ Some (add_record day new) → numbered (answers s acts) k ≡ Some (Number n) → same_record (after s acts).office new ≡ Some n
found_at s acts zero n day new asked reported = absurd cc
found_at s acts (suc i) n day new asked reported = found_in s acts i n day new asked reported

-- ---- and reported

reported_step : (s : State) (later : ℤ) (new : NewRecord) (n : ℕ) → same_record s.office new ≡ Some n → step s (add_record later new) ≡ (Same n, s)
unfolding step
reported_step s later new n found = ap (λ o. by_same_record o s later new) found

reported_in : (s : State) (acts : List Act) (i n : ℕ) (later : ℤ) (new : NewRecord) → same_record s.office new ≡ Some n → slice_get acts i ≡ Some (add_record later new) → slice_get (answers s acts) i ≡ Some (Same n)
reported_in s [] i n later new found asked = absurd cc
reported_in s (a ∷ rest) zero n later new found asked =
    let same : a ≡ add_record later new = cc in
    ap (λ (x : Act). Some (step s x).0) same ∙ ap (λ (p : Answer × State). Some p.0) (reported_step s later new n found)
reported_in s (a ∷ rest) (suc i) n later new found asked = reported_in (step s a).1 rest i n later new (found_step s a new n found) asked

pub reported_again : (s : State) (acts more : List Act) (k n : ℕ) (day later : ℤ) (new : NewRecord) → numbered acts k ≡ Some (add_record day new) → numbered (answers s acts) k ≡ Some (Number n)
    → step (after (after s acts) more) (add_record later new) ≡ (Same n, after (after s acts) more)
reported_again s acts more k n day later new asked reported =
    reported_step (after (after s acts) more) later new n (found_after (after s acts) more new n (found_at s acts k n day new asked reported))

pub reported_each : (s : State) (acts more others : List Act) (k j n : ℕ) (day later : ℤ) (new : NewRecord) → numbered acts k ≡ Some (add_record day new) → numbered (answers s acts) k ≡ Some (Number n)
    → numbered others j ≡ Some (add_record later new) → numbered (answers (after (after s acts) more) others) j ≡ Some (Same n)
reported_each s acts more others k zero n day later new asked reported other = absurd cc
reported_each s acts more others k (suc j) n day later new asked reported other =
    reported_in (after (after s acts) more) others j n later new (found_after (after s acts) more new n (found_at s acts k n day new asked reported)) other
