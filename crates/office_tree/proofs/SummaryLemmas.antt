-- How the numbers of the records below an aggregation, and of those of them that are not ended, change with each write of one row.
use Rattle.std.proofs.Common.{◌≡◌, ℕ, zero, suc, ◌+◌, ◌<◌, ◌≤◌, nat_eq, nat_lt, ◌==◌, Bool, true, false, cond, not, ◌&&◌, ◌||◌, List, [], ◌∷◌, filter, length, slice_get, Option, Some, None, refl, sym, ap, ◌∙◌, arith}
use Rattle.std.proofs.lemmas.Bool.Decides.{nat_tests}
use Rattle.std.specs.List.{list_any, list_all}
use Rattle.std.specs.Option.{option_and_then, is_some}
use Rattle.office_records.specs.Disposal.{is_below, is_ended, records_below, is_spent}
use Rattle.office_records.specs.Lasting.{AggregationStays, HeadStays}
use Rattle.office_records.specs.Lists.{numbered, numbers_after, is_some_and, put, put_at}
use Rattle.office_records.specs.Rows.{put_aggregation, put_record, put_schedule, put_class}
use Rattle.office_records.specs.Sound.{IsSound, IsForest}
use Rattle.office_tree.specs.Summaries.{active_below}
use Rattle.office_records.specs.Tree.{TreeState, empty_tree, chain, chain_of, above_head, above_in, status_of, last_addition}
use Rattle.office_records.specs.declared.aggregation.Aggregation.{Aggregation}
use Rattle.office_records.specs.declared.class.Class.{Class}
use Rattle.office_records.specs.declared.head.Record.{Record}
use Rattle.office_records.specs.declared.schedule.Schedule.{Schedule}
use Rattle.office_records.specs.declared.status.Status.{Status}
use Rattle.office_tree.proofs.Counting.{filter_agrees, count_more, count_changed, filter_both, filter_none, length_filter, length_numbers, all_by_count}
use Rattle.office_records.proofs.LastAdditions.{no_last_addition}
use Rattle.office_records.proofs.Places.{numbered_within}
use Rattle.office_records.proofs.Putting.{length-put, length-put_next, numbered-put}

-- ---- a thing put into a list, and the others

put_at_other : {A : Type 0} (xs : List A) (i : ℕ) (x : A) (j : ℕ) → i ≤ length xs → (j ≡ i → ⊥) → slice_get (put_at xs i x) j ≡ slice_get xs j
put_at_other [] zero x zero h other = absurd (other refl)
put_at_other [] zero x (suc j) h other = refl
put_at_other [] (suc i) x j h other = absurd (omega arith)
put_at_other (y ∷ ys) zero x zero h other = absurd (other refl)
put_at_other (y ∷ ys) zero x (suc j) h other = refl
put_at_other (y ∷ ys) (suc i) x zero h other = refl
put_at_other (y ∷ ys) (suc i) x (suc j) h other = put_at_other ys i x j (omega (arith, h)) (λ e. other (ap suc e))

-- a put leaves the other numbers
pub numbered-put_other : {A : Type 0} (xs : List A) (n : ℕ) (x : A) (m : ℕ) → n ≤ length xs + 1 → (m ≡ n → ⊥) → numbered (put xs n x) m ≡ numbered xs m
numbered-put_other xs zero x m h other = refl
numbered-put_other xs (suc n) x zero h other = refl
numbered-put_other xs (suc n) x (suc m) h other = put_at_other xs n x m (omega (arith, h)) (λ e. other (ap suc e))

put_at_reads : {A B : Type 0} (g : Option A → B) (xs : List A) (i : ℕ) (x old : A) (j : ℕ) → slice_get xs i ≡ Some old → g (Some x) ≡ g (Some old) → g (slice_get (put_at xs i x) j) ≡ g (slice_get xs j)
put_at_reads g [] i x old j e same = absurd cc
put_at_reads g (y ∷ ys) zero x old zero e same = same ∙ ap g (sym e)
put_at_reads g (y ∷ ys) zero x old (suc j) e same = refl
put_at_reads g (y ∷ ys) (suc i) x old zero e same = refl
put_at_reads g (y ∷ ys) (suc i) x old (suc j) e same = put_at_reads g ys i x old j e same

-- what reads the same of the new thing and of the old one reads the same of all numbers
pub numbered-put_reads : {A B : Type 0} (g : Option A → B) (xs : List A) (n : ℕ) (x old : A) (m : ℕ) → numbered xs n ≡ Some old → g (Some x) ≡ g (Some old) → g (numbered (put xs n x) m) ≡ g (numbered xs m)
numbered-put_reads g xs zero x old m e same = refl
numbered-put_reads g xs (suc n) x old zero e same = refl
numbered-put_reads g xs (suc n) x old (suc m) e same = put_at_reads g xs n x old m e same

-- ---- whether an aggregation is above a record, and whether a record is not ended

-- the aggregation is this one or contains it
abbrev pub is_at_or_above : TreeState → ℕ → ℕ → Bool
is_at_or_above tree aggregation a = list_any (λ b. b == a) (chain_of tree.aggregations aggregation)

-- of a record's row: the aggregation contains it
abbrev head_below : List Aggregation → ℕ → Option Record → Bool
head_below aggregations a o = list_any (λ b. b == a) (above_head aggregations o)

-- the record is not ended
abbrev pub is_active : TreeState → ℕ → Bool
is_active tree r = not (is_some_and (status_of tree r) is_ended)

-- the record is below the aggregation, and not ended
abbrev is_active_below : TreeState → ℕ → ℕ → Bool
is_active_below tree a r = is_below tree a r && is_active tree r

below_head : (tree : TreeState) (a r : ℕ) → is_below tree a r ≡ head_below tree.aggregations a (numbered tree.records r)
unfolding above_in
below_head tree a r = refl

-- a record is below the aggregations from its own up
pub below_aggregation : (tree : TreeState) (a r : ℕ) (head : Record) → numbered tree.records r ≡ Some head → is_below tree a r ≡ is_at_or_above tree head.aggregation a
below_aggregation tree a r head e = below_head tree a r ∙ ap (head_below tree.aggregations a) e

-- those below that are not ended, at once
active_both : (tree : TreeState) (a : ℕ) → active_below tree a ≡ filter (is_active_below tree a) (numbers_after 0 (length tree.records))
active_both tree a = filter_both (is_below tree a) (is_active tree) (numbers_after 0 (length tree.records))

-- ---- a new record

below_put_other : (tree : TreeState) (q : ℕ) (head : Record) (status : Status) (a r : ℕ) → q ≤ length tree.records + 1 → (r ≡ q → ⊥) → is_below (put_record tree q head status) a r ≡ is_below tree a r
below_put_other tree q head status a r h other =
    below_head (put_record tree q head status) a r ∙ ap (head_below tree.aggregations a) (numbered-put_other tree.records q head r h other) ∙ sym (below_head tree a r)

active_put_other : (tree : TreeState) (q : ℕ) (head : Record) (status : Status) (r : ℕ) → q ≤ length tree.statuses + 1 → (r ≡ q → ⊥) → is_active (put_record tree q head status) r ≡ is_active tree r
active_put_other tree q head status r h other = ap (λ o. not (is_some_and o is_ended)) (numbered-put_other tree.statuses q status r h other)

below_put_here : (tree : TreeState) (q : ℕ) (head : Record) (status : Status) (a : ℕ) → 0 < q → q ≤ length tree.records + 1 → is_below (put_record tree q head status) a q ≡ is_at_or_above tree head.aggregation a
below_put_here tree q head status a low high = below_aggregation (put_record tree q head status) a q head (numbered-put tree.records q head low high)

active_put_here : (tree : TreeState) (q : ℕ) (head : Record) (status : Status) → 0 < q → q ≤ length tree.statuses + 1 → is_active (put_record tree q head status) q ≡ not (is_ended status)
active_put_here tree q head status low high = ap (λ o. not (is_some_and o is_ended)) (numbered-put tree.statuses q status low high)

-- tests of the records there that agree, and of one more
added_count : (p q : ℕ → Bool) (old new n : ℕ) (b : Bool) → new ≡ old + 1 → n ≡ old + 1 → ((r : ℕ) → (r ≡ n → ⊥) → p r ≡ q r) → q n ≡ b → length (filter q (numbers_after 0 new)) ≡ length (filter p (numbers_after 0 old)) + cond b 1 0
added_count p q old new n b new_is n_is agree here =
    let longer : new ≡ suc old = omega (arith, new_is) in
    let last : suc old ≡ n = omega (arith, n_is) in
    let before : filter q (numbers_after 0 old) ≡ filter p (numbers_after 0 old) = filter_agrees q p old 0 (λ r low high. sym (agree r (λ e. absurd (omega (arith, low, high, e, n_is))))) in
    ap (λ k. length (filter q (numbers_after 0 k))) longer
    ∙ count_more q old
    ∙ ap (λ ns. length ns + cond (q (suc old)) 1 0) before
    ∙ ap (λ k. length (filter p (numbers_after 0 old)) + cond (q k) 1 0) last
    ∙ ap (λ c. length (filter p (numbers_after 0 old)) + cond c 1 0) here

-- a new record is one more below its aggregation and what contains that
pub records-next : (tree : TreeState) (q : ℕ) (head : Record) (status : Status) (a : ℕ) → q ≡ length tree.records + 1
    → length (records_below (put_record tree q head status) a) ≡ length (records_below tree a) + cond (is_at_or_above tree head.aggregation a) 1 0
records-next tree q head status a q_is =
    added_count (is_below tree a) (is_below (put_record tree q head status) a) (length tree.records) (length (put tree.records q head)) q (is_at_or_above tree head.aggregation a)
    (length-put_next tree.records q head (omega (arith, q_is))) q_is
    (λ r other. sym (below_put_other tree q head status a r (omega (arith, q_is)) other))
    (below_put_here tree q head status a (omega (arith, q_is)) (omega (arith, q_is)))

-- and one more there that is not ended, if it is not, where there are as many statuses as records
pub active-next_beside : (tree : TreeState) (q : ℕ) (head : Record) (status : Status) (a : ℕ) → length tree.statuses ≡ length tree.records → q ≡ length tree.records + 1
    → length (active_below (put_record tree q head status) a) ≡ length (active_below tree a) + cond (is_at_or_above tree head.aggregation a && not (is_ended status)) 1 0
active-next_beside tree q head status a beside q_is =
    let next = put_record tree q head status in
    let statuses : q ≤ length tree.statuses + 1 = omega (arith, q_is, beside) in
    let here : is_active_below next a q ≡ is_at_or_above tree head.aggregation a && not (is_ended status) =
    (λ t. below_put_here tree q head status a (omega (arith, q_is)) (omega (arith, q_is)) t && active_put_here tree q head status (omega (arith, q_is)) statuses t) in
    ap length (active_both next a)
    ∙ added_count (is_active_below tree a) (is_active_below next a) (length tree.records) (length (put tree.records q head)) q (is_at_or_above tree head.aggregation a && not (is_ended status))
    (length-put_next tree.records q head (omega (arith, q_is))) q_is
    (λ r other. sym (λ t. below_put_other tree q head status a r (omega (arith, q_is)) other t && active_put_other tree q head status r statuses other t))
    here
    ∙ ap (λ ns. length ns + cond (is_at_or_above tree head.aggregation a && not (is_ended status)) 1 0) (sym (active_both tree a))

-- so it is in a sound tree
pub active-next : (tree : TreeState) (q : ℕ) (head : Record) (status : Status) (a : ℕ) → IsSound tree → q ≡ length tree.records + 1
    → length (active_below (put_record tree q head status) a) ≡ length (active_below tree a) + cond (is_at_or_above tree head.aggregation a && not (is_ended status)) 1 0
active-next tree q head status a sound q_is = active-next_beside tree q head status a sound.statuses q_is

-- the same, where the aggregation is its own or contains it, and where not

pub records-next_above : (tree : TreeState) (q : ℕ) (head : Record) (status : Status) (a : ℕ) → q ≡ length tree.records + 1 → is_at_or_above tree head.aggregation a ≡ true
    → length (records_below (put_record tree q head status) a) ≡ length (records_below tree a) + 1
records-next_above tree q head status a q_is among = records-next tree q head status a q_is ∙ ap (λ b. length (records_below tree a) + cond b 1 0) among

pub records-next_apart : (tree : TreeState) (q : ℕ) (head : Record) (status : Status) (a : ℕ) → q ≡ length tree.records + 1 → is_at_or_above tree head.aggregation a ≡ false
    → length (records_below (put_record tree q head status) a) ≡ length (records_below tree a)
records-next_apart tree q head status a q_is apart =
    let same = records-next tree q head status a q_is ∙ ap (λ b. length (records_below tree a) + cond b 1 0) apart in
    omega (arith, same)

pub active-next_above : (tree : TreeState) (q : ℕ) (head : Record) (status : Status) (a : ℕ) → IsSound tree → q ≡ length tree.records + 1 → is_at_or_above tree head.aggregation a ≡ true → is_ended status ≡ false
    → length (active_below (put_record tree q head status) a) ≡ length (active_below tree a) + 1
active-next_above tree q head status a sound q_is among here =
    active-next tree q head status a sound q_is ∙ (λ t. length (active_below tree a) + cond (among t && not (here t)) 1 0)

and_off : (b c : Bool) → b ≡ false → (b && c) ≡ false
and_off b c e = ap (λ d. d && c) e

off_and : (b c : Bool) → c ≡ true → (b && not c) ≡ false
off_and true c e = ap not e
off_and false c e = refl

pub active-next_apart : (tree : TreeState) (q : ℕ) (head : Record) (status : Status) (a : ℕ) → IsSound tree → q ≡ length tree.records + 1 → is_at_or_above tree head.aggregation a ≡ false
    → length (active_below (put_record tree q head status) a) ≡ length (active_below tree a)
active-next_apart tree q head status a sound q_is apart =
    let same = active-next tree q head status a sound q_is ∙ ap (λ b. length (active_below tree a) + cond b 1 0) (and_off (is_at_or_above tree head.aggregation a) (not (is_ended status)) apart) in
    omega (arith, same)

pub active-next_ended : (tree : TreeState) (q : ℕ) (head : Record) (status : Status) (a : ℕ) → IsSound tree → q ≡ length tree.records + 1 → is_ended status ≡ true
    → length (active_below (put_record tree q head status) a) ≡ length (active_below tree a)
active-next_ended tree q head status a sound q_is over =
    let same = active-next tree q head status a sound q_is ∙ ap (λ b. length (active_below tree a) + cond b 1 0) (off_and (is_at_or_above tree head.aggregation a) (is_ended status) over) in
    omega (arith, same)

-- ---- a record put in place of one that is there

below_put : (tree : TreeState) (q : ℕ) (head : Record) (status : Status) (a : ℕ) (old : Record) → numbered tree.records q ≡ Some old → HeadStays old head → (r : ℕ) → is_below (put_record tree q head status) a r ≡ is_below tree a r
below_put tree q head status a old there stays r =
    below_head (put_record tree q head status) a r
    ∙ numbered-put_reads (head_below tree.aggregations a) tree.records q head old r there (ap (λ aggregation. list_any (λ b. b == a) (chain_of tree.aggregations aggregation)) (sym stays.aggregation))
    ∙ sym (below_head tree a r)

-- the same records are below each aggregation
pub records-put : (tree : TreeState) (q : ℕ) (head : Record) (status : Status) (a : ℕ) (old : Record) → numbered tree.records q ≡ Some old → HeadStays old head → records_below (put_record tree q head status) a ≡ records_below tree a
records-put tree q head status a old there stays =
    let long : length (put tree.records q head) ≡ length tree.records = length-put tree.records q head (numbered_within tree.records q old there).1 in
    (λ t. filter (λ r. below_put tree q head status a old there stays r t) (numbers_after 0 (long t)))

-- and the same that are not ended, where the record is ended after as before
pub active-put_kept : (tree : TreeState) (q : ℕ) (head : Record) (status : Status) (a : ℕ) (old : Record) (was : Status) → numbered tree.records q ≡ Some old → HeadStays old head
    → numbered tree.statuses q ≡ Some was → is_ended status ≡ is_ended was → active_below (put_record tree q head status) a ≡ active_below tree a
active-put_kept tree q head status a old was there stays status_there same =
    let active : (r : ℕ) → is_active (put_record tree q head status) r ≡ is_active tree r = λ r. numbered-put_reads (λ o. not (is_some_and o is_ended)) tree.statuses q status was r status_there (ap not same) in
    (λ t. filter (λ r. active r t) (records-put tree q head status a old there stays t))

-- what it adds to and takes from the number of those that are not ended
pub active-put : (tree : TreeState) (q : ℕ) (head : Record) (status : Status) (a : ℕ) (old : Record) (was : Status) → numbered tree.records q ≡ Some old → HeadStays old head → numbered tree.statuses q ≡ Some was
    → length (active_below (put_record tree q head status) a) + cond (is_at_or_above tree old.aggregation a && not (is_ended was)) 1 0
    ≡ length (active_below tree a) + cond (is_at_or_above tree old.aggregation a && not (is_ended status)) 1 0
active-put tree q head status a old was there stays status_there =
    let next = put_record tree q head status in
    let within = numbered_within tree.records q old there in
    let status_within = numbered_within tree.statuses q was status_there in
    let long : length (put tree.records q head) ≡ length tree.records = length-put tree.records q head within.1 in
    let before : is_active_below tree a q ≡ is_at_or_above tree old.aggregation a && not (is_ended was) =
    (λ t. below_aggregation tree a q old there t && not (is_some_and (status_there t) is_ended)) in
    let after : is_active_below next a q ≡ is_at_or_above tree old.aggregation a && not (is_ended status) =
    (λ t. (below_put tree q head status a old there stays q ∙ below_aggregation tree a q old there) t && active_put_here tree q head status within.0 (omega (arith, status_within.1)) t) in
    let agree : (r : ℕ) → (r ≡ q → ⊥) → is_active_below tree a r ≡ is_active_below next a r =
    (λ r other. sym (λ t. below_put tree q head status a old there stays r t && active_put_other tree q head status r (omega (arith, status_within.1)) other t)) in
    (λ t. length (active_both next a t) + cond (sym before t) 1 0)
    ∙ ap (λ k. length (filter (is_active_below next a) (numbers_after 0 k)) + cond (is_active_below tree a q) 1 0) long
    ∙ count_changed (is_active_below tree a) (is_active_below next a) q agree (length tree.records) 0 within.0 (omega (arith, within.1))
    ∙ (λ t. length (sym (active_both tree a) t) + cond (after t) 1 0)

-- it was not ended, and is ended now: one less where the aggregation is its own or contains it
pub active-put_ends : (tree : TreeState) (q : ℕ) (head : Record) (status : Status) (a : ℕ) (old : Record) (was : Status) → numbered tree.records q ≡ Some old → HeadStays old head → numbered tree.statuses q ≡ Some was
    → is_ended was ≡ false → is_ended status ≡ true → is_at_or_above tree old.aggregation a ≡ true → length (active_below tree a) ≡ length (active_below (put_record tree q head status) a) + 1
active-put_ends tree q head status a old was there stays status_there before now among =
    let left : cond {A = ℕ} (is_at_or_above tree old.aggregation a && not (is_ended was)) 1 0 ≡ 1 = (λ t. cond {A = ℕ} (among t && not (before t)) 1 0) in
    let right : cond {A = ℕ} (is_at_or_above tree old.aggregation a && not (is_ended status)) 1 0 ≡ 0 = (λ t. cond {A = ℕ} (among t && not (now t)) 1 0) in
    omega (arith, active-put tree q head status a old was there stays status_there, left, right)

-- it was ended, and is not now: one more there
pub active-put_unends : (tree : TreeState) (q : ℕ) (head : Record) (status : Status) (a : ℕ) (old : Record) (was : Status) → numbered tree.records q ≡ Some old → HeadStays old head → numbered tree.statuses q ≡ Some was
    → is_ended was ≡ true → is_ended status ≡ false → is_at_or_above tree old.aggregation a ≡ true → length (active_below (put_record tree q head status) a) ≡ length (active_below tree a) + 1
active-put_unends tree q head status a old was there stays status_there before now among =
    let left : cond {A = ℕ} (is_at_or_above tree old.aggregation a && not (is_ended was)) 1 0 ≡ 0 = (λ t. cond {A = ℕ} (among t && not (before t)) 1 0) in
    let right : cond {A = ℕ} (is_at_or_above tree old.aggregation a && not (is_ended status)) 1 0 ≡ 1 = (λ t. cond {A = ℕ} (among t && not (now t)) 1 0) in
    omega (arith, active-put tree q head status a old was there stays status_there, left, right)

-- elsewhere as many as before, whatever the status
pub active-put_apart : (tree : TreeState) (q : ℕ) (head : Record) (status : Status) (a : ℕ) (old : Record) (was : Status) → numbered tree.records q ≡ Some old → HeadStays old head → numbered tree.statuses q ≡ Some was
    → is_at_or_above tree old.aggregation a ≡ false → length (active_below (put_record tree q head status) a) ≡ length (active_below tree a)
active-put_apart tree q head status a old was there stays status_there apart =
    let left : cond {A = ℕ} (is_at_or_above tree old.aggregation a && not (is_ended was)) 1 0 ≡ 0 = ap (λ b. cond {A = ℕ} b 1 0) (and_off (is_at_or_above tree old.aggregation a) (not (is_ended was)) apart) in
    let right : cond {A = ℕ} (is_at_or_above tree old.aggregation a && not (is_ended status)) 1 0 ≡ 0 = ap (λ b. cond {A = ℕ} b 1 0) (and_off (is_at_or_above tree old.aggregation a) (not (is_ended status)) apart) in
    omega (arith, active-put tree q head status a old was there stays status_there, left, right)

-- ---- an aggregation's row

abbrev parent_of : Option Aggregation → Option ℕ
parent_of o = option_and_then (λ it. it.parent) o

-- the number, if there is one, is at most n
abbrev AtMost : ℕ → Option ℕ → Type 0
AtMost n o = (a : ℕ) → o ≡ Some a → a ≤ n

parent_low : (xs : List Aggregation) → IsForest xs → (n a : ℕ) (o : Option Aggregation) → numbered xs a ≡ o → a ≤ n → AtMost n (parent_of o)
parent_low xs forest n a None e h p up = absurd cc
parent_low xs forest n a (Some it) e h p up = let low = forest.below a p it e up in omega (arith, low.1, h)

-- aggregations that keep the parents of the first n keep the chains of these
chain_kept : (xs ys : List Aggregation) (n : ℕ) → IsForest xs → ((a : ℕ) → a ≤ n → parent_of (numbered ys a) ≡ parent_of (numbered xs a)) → (m : ℕ) (o : Option ℕ) → AtMost n o → chain ys m o ≡ chain xs m o
unfolding chain
chain_kept xs ys n forest same m None low = refl
chain_kept xs ys n forest same zero (Some a) low = refl
chain_kept xs ys n forest same (suc m) (Some a) low =
    ap (λ o. a ∷ chain ys m o) (same a (low a refl)) ∙ ap (λ rest. a ∷ rest) (chain_kept xs ys n forest same m (parent_of (numbered xs a)) (parent_low xs forest n a (numbered xs a) refl (low a refl)))

aggregation_kept : (xs ys : List Aggregation) (n : ℕ) → IsForest xs → ((a : ℕ) → a ≤ n → parent_of (numbered ys a) ≡ parent_of (numbered xs a)) → (a : ℕ) (o : Option Record) → ((head : Record) → o ≡ Some head → head.aggregation ≤ n) → head_below ys a o ≡ head_below xs a o
aggregation_kept xs ys n forest same a None low = refl
aggregation_kept xs ys n forest same a (Some head) low =
    ap (list_any (λ b. b == a)) (chain_kept xs ys n forest same head.aggregation (Some head.aggregation) (λ b e. let is : head.aggregation ≡ b = cc in omega (arith, is, low head refl)))

aggregation_low : (tree : TreeState) → IsSound tree → (r : ℕ) (head : Record) → numbered tree.records r ≡ Some head → head.aggregation ≤ length tree.aggregations
aggregation_low tree sound r head e = (sound.names.containers r head e).1

-- aggregations that keep the parents of those of a sound tree keep what is below each
below_kept : (tree : TreeState) (ys : List Aggregation) → IsSound tree → ((a : ℕ) → a ≤ length tree.aggregations → parent_of (numbered ys a) ≡ parent_of (numbered tree.aggregations a))
    → (a r : ℕ) → is_below (record tree { aggregations = ys }) a r ≡ is_below tree a r
below_kept tree ys sound same a r =
    below_head (record tree { aggregations = ys }) a r
    ∙ aggregation_kept tree.aggregations ys (length tree.aggregations) sound.forest same a (numbered tree.records r) (aggregation_low tree sound r)
    ∙ sym (below_head tree a r)

parents_next : (tree : TreeState) (a : ℕ) (it : Aggregation) → a ≡ length tree.aggregations + 1 → (b : ℕ) → b ≤ length tree.aggregations → parent_of (numbered (put tree.aggregations a it) b) ≡ parent_of (numbered tree.aggregations b)
parents_next tree a it a_is b low = ap parent_of (numbered-put_other tree.aggregations a it b (omega (arith, a_is)) (λ e. absurd (omega (arith, low, a_is, e))))

parents_put : (tree : TreeState) (a : ℕ) (it old : Aggregation) → numbered tree.aggregations a ≡ Some old → AggregationStays old it → (b : ℕ) → parent_of (numbered (put tree.aggregations a it) b) ≡ parent_of (numbered tree.aggregations b)
parents_put tree a it old there stays b = numbered-put_reads parent_of tree.aggregations a it old b there (sym stays.parent)

-- a new aggregation leaves what is below each, its own number too
pub records-next_aggregation : (tree : TreeState) (a : ℕ) (it : Aggregation) (b : ℕ) → IsSound tree → a ≡ length tree.aggregations + 1 → records_below (put_aggregation tree a it) b ≡ records_below tree b
records-next_aggregation tree a it b sound a_is =
    let same = below_kept tree (put tree.aggregations a it) sound (parents_next tree a it a_is) b in
    (λ t. filter (λ r. same r t) (numbers_after 0 (length tree.records)))

pub active-next_aggregation : (tree : TreeState) (a : ℕ) (it : Aggregation) (b : ℕ) → IsSound tree → a ≡ length tree.aggregations + 1 → active_below (put_aggregation tree a it) b ≡ active_below tree b
active-next_aggregation tree a it b sound a_is = ap (filter (is_active tree)) (records-next_aggregation tree a it b sound a_is)

-- an aggregation put in place of one that is there leaves what is below each
pub records-put_aggregation : (tree : TreeState) (a : ℕ) (it : Aggregation) (b : ℕ) (old : Aggregation) → IsSound tree → numbered tree.aggregations a ≡ Some old → AggregationStays old it → records_below (put_aggregation tree a it) b ≡ records_below tree b
records-put_aggregation tree a it b old sound there stays =
    let same = below_kept tree (put tree.aggregations a it) sound (λ c low. parents_put tree a it old there stays c) b in
    (λ t. filter (λ r. same r t) (numbers_after 0 (length tree.records)))

pub active-put_aggregation : (tree : TreeState) (a : ℕ) (it : Aggregation) (b : ℕ) (old : Aggregation) → IsSound tree → numbered tree.aggregations a ≡ Some old → AggregationStays old it → active_below (put_aggregation tree a it) b ≡ active_below tree b
active-put_aggregation tree a it b old sound there stays = ap (filter (is_active tree)) (records-put_aggregation tree a it b old sound there stays)

-- ---- numbers of aggregations that are not there

other_number : (m n : ℕ) → m < n → (m == n) ≡ false
other_number m n h = grind (arith, nat_tests)

chain_without : (xs : List Aggregation) (n b : ℕ) → IsForest xs → n < b → (m : ℕ) (o : Option ℕ) → AtMost n o → list_any (λ c. c == b) (chain xs m o) ≡ false
unfolding chain
chain_without xs n b forest h m None low = refl
chain_without xs n b forest h zero (Some a) low = refl
chain_without xs n b forest h (suc m) (Some a) low =
    let most : a ≤ n = low a refl in
    ap (λ c. c || list_any (λ c. c == b) (chain xs m (parent_of (numbered xs a)))) (other_number a b (omega (arith, most, h)))
    ∙ chain_without xs n b forest h m (parent_of (numbered xs a)) (parent_low xs forest n a (numbered xs a) refl most)

head_without : (xs : List Aggregation) (n b : ℕ) → IsForest xs → n < b → (o : Option Record) → ((head : Record) → o ≡ Some head → head.aggregation ≤ n) → head_below xs b o ≡ false
head_without xs n b forest h None low = refl
head_without xs n b forest h (Some head) low = chain_without xs n b forest h head.aggregation (Some head.aggregation) (λ a e. let is : head.aggregation ≡ a = cc in omega (arith, is, low head refl))

-- an aggregation that contains one that is there is there
pub at_or_above_low : (tree : TreeState) (aggregation a : ℕ) → IsSound tree → aggregation ≤ length tree.aggregations → length tree.aggregations < a → is_at_or_above tree aggregation a ≡ false
at_or_above_low tree aggregation a sound low h = chain_without tree.aggregations (length tree.aggregations) a sound.forest h aggregation (Some aggregation) (λ b e. let is : aggregation ≡ b = cc in omega (arith, is, low))

-- below a number that no aggregation has there is no record
pub no_records : (tree : TreeState) (a : ℕ) → IsSound tree → length tree.aggregations < a → records_below tree a ≡ []
no_records tree a sound h =
    filter_none (is_below tree a) (numbers_after 0 (length tree.records)) (λ r. below_head tree a r ∙ head_without tree.aggregations (length tree.aggregations) a sound.forest h (numbered tree.records r) (aggregation_low tree sound r))

pub no_active : (tree : TreeState) (a : ℕ) → IsSound tree → length tree.aggregations < a → active_below tree a ≡ []
no_active tree a sound h = ap (filter (is_active tree)) (no_records tree a sound h)

-- and no addition to it
pub no_addition : (tree : TreeState) (a : ℕ) → IsSound tree → length tree.aggregations < a → last_addition tree.records a ≡ None
no_addition tree a sound h = (no_last_addition tree.records a).1 (λ r head e same. absurd (omega (arith, aggregation_low tree sound r head e, h, same)))

-- so of a new aggregation
pub records-new_aggregation : (tree : TreeState) (a : ℕ) (it : Aggregation) → IsSound tree → a ≡ length tree.aggregations + 1 → records_below (put_aggregation tree a it) a ≡ []
records-new_aggregation tree a it sound a_is = records-next_aggregation tree a it a sound a_is ∙ no_records tree a sound (omega (arith, a_is))

pub active-new_aggregation : (tree : TreeState) (a : ℕ) (it : Aggregation) → IsSound tree → a ≡ length tree.aggregations + 1 → active_below (put_aggregation tree a it) a ≡ []
active-new_aggregation tree a it sound a_is = active-next_aggregation tree a it a sound a_is ∙ no_active tree a sound (omega (arith, a_is))

pub last_addition-new_aggregation : (tree : TreeState) (a : ℕ) (it : Aggregation) → IsSound tree → a ≡ length tree.aggregations + 1 → last_addition (put_aggregation tree a it).records a ≡ None
last_addition-new_aggregation tree a it sound a_is = no_addition tree a sound (omega (arith, a_is))

-- ---- a schedule's and a class's row

pub records-put_schedule : (tree : TreeState) (code : List ℕ) (schedule : Schedule) (a : ℕ) → records_below (put_schedule tree code schedule) a ≡ records_below tree a
records-put_schedule tree code schedule a = refl

pub active-put_schedule : (tree : TreeState) (code : List ℕ) (schedule : Schedule) (a : ℕ) → active_below (put_schedule tree code schedule) a ≡ active_below tree a
active-put_schedule tree code schedule a = refl

pub records-put_class : (tree : TreeState) (code : List ℕ) (class : Class) (a : ℕ) → records_below (put_class tree code class) a ≡ records_below tree a
records-put_class tree code class a = refl

pub active-put_class : (tree : TreeState) (code : List ℕ) (class : Class) (a : ℕ) → active_below (put_class tree code class) a ≡ active_below tree a
active-put_class tree code class a = refl

-- ---- what is spent, by these numbers

pub all_ended_by_count : (tree : TreeState) (a : ℕ) → list_all (λ r. is_some_and (status_of tree r) is_ended) (records_below tree a) ≡ nat_eq (length (active_below tree a)) 0
all_ended_by_count tree a = all_by_count (λ r. is_some_and (status_of tree r) is_ended) (records_below tree a)

pub spent_by_counts : (tree : TreeState) (a : ℕ) → is_spent tree a ≡ is_some_and (numbered tree.aggregations a) (λ it. is_some it.closed) && nat_lt 0 (length (records_below tree a)) && nat_eq (length (active_below tree a)) 0
unfolding is_spent
spent_by_counts tree a = ap (λ b. is_some_and (numbered tree.aggregations a) (λ (it : Aggregation). is_some it.closed) && nat_lt 0 (length (records_below tree a)) && b) (all_ended_by_count tree a)

-- ---- bounds, and the empty tree

pub records_few : (tree : TreeState) (a : ℕ) → length (records_below tree a) ≤ length tree.records
records_few tree a = omega (arith, length_filter (is_below tree a) (numbers_after 0 (length tree.records)), length_numbers (length tree.records) 0)

pub active_few : (tree : TreeState) (a : ℕ) → length (active_below tree a) ≤ length (records_below tree a)
active_few tree a = length_filter (is_active tree) (records_below tree a)

pub records-empty : (a : ℕ) → records_below empty_tree a ≡ []
records-empty a = refl

pub active-empty : (a : ℕ) → active_below empty_tree a ≡ []
active-empty a = refl
