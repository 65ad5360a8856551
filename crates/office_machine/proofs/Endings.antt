-- The runs of the entries that ended their records, under these records.
use Rattle.std.proofs.Common.{◌≡◌, ◌≢◌, ◌+◌, ◌≤◌, ℕ, Bool, List, length, [], ◌∷◌, ◌++◌, Some, None, refl, sym, ap, ◌∙◌, subst, true, false, inl, inr, Option, arith, append_assoc, append-nil}
use Rattle.std.specs.Prelude.{◌&&◌, IsSome, IsNone, IsTrue}
use Rattle.std.specs.Option.{is_none, is_some}
use Rattle.std.proofs.lemmas.Bool.{and_parts, cases_Bool, cases_lt, false≢true, not-false, not-true}
use Rattle.std.specs.Cmp.{nat_cmp_total}
use Rattle.std.specs.FinMap.{FinMap, empty, get, get-empty, insert, nat_cmp-IsAntisymmetric}
use Rattle.std.specs.List.{Contains}
use Rattle.std.specs.Ordering.{nat_cmp}
use Rattle.std.proofs.lemmas.List.Elements.{Contains-append_left, Contains-append_right, Contains-push, Contains-push_cases}
use Rattle.office_records.specs.Disposal.{is_ended}
use Rattle.office_records.specs.Lists.{numbered, is_some_and}
use Rattle.office_records.specs.declared.status.Status.{Status}
use Rattle.office_records.specs.declared.status.Status.TheVariants.{Here, Sent, Received, Ended}
use Rattle.office_records.proofs.Places.{numbered_within}
use Rattle.office_rules.specs.Outcomes.{is_ending}
use Rattle.office_rules.specs.declared.entry.Entry.{Entry}
use Rattle.office_rules.specs.Loading.{AreEndings, EachHasOneEnding, TwoRunsEndOne}
use Rattle.office_rules.proofs.SoundMaps.{put_cases, put_elsewhere, put_here, same_or_not, some_is}

-- a map of runs by record
abbrev Ends : Type 0
Ends = FinMap nat_cmp ℕ

-- nothing is noted of no entries
pub endings_none : AreEndings (empty {X = ℕ} {R = nat_cmp}) []
endings_none = record {
  each = λ r run there. let none : get (empty {X = ℕ} {R = nat_cmp}) r ≡ None = get-empty nat_cmp r in absurd cc;
  all = λ e among ending. absurd (omega (arith, among.1));
}

ended_before : (m : Ends) (es : List Entry) (e : Entry) (r run : ℕ) → AreEndings m es → get m r ≡ Some run → (f : Entry) × Contains (es ++ e ∷ []) f × (f.run ≡ run) × (f.record_no ≡ r) × IsTrue (is_ending f.outcome)
ended_before m es e r run h there = let one = h.each r run there in (one.0, Contains-append_left es (e ∷ []) one.0 one.1, one.2, one.3, one.4)

-- an entry that ended nothing changes nothing
pub endings_other : (m : Ends) (es : List Entry) (e : Entry) → AreEndings m es → is_ending e.outcome ≡ false → AreEndings m (es ++ e ∷ [])
endings_other m es e h other = record {
  each = λ r run there. ended_before m es e r run h there;
  all = λ f among ending. elim (Contains-push_cases es e f among) [
    | inl old ↦ h.all f old ending
    | inr same ↦ let ends : is_ending e.outcome ≡ true = ap (λ (x : Entry). is_ending x.outcome) same ∙ ending in absurd cc
  ];
}

noted_before : (m : Ends) (e f : Entry) → get m f.record_no ≡ Some f.run → ((run : ℕ) → get m e.record_no ≡ Some run → run ≡ e.run) → get (insert m e.record_no e.run) f.record_no ≡ Some f.run
noted_before m e f there one = elim (same_or_not f.record_no e.record_no) [
  | inl same ↦ ap (get (insert m e.record_no e.run)) same ∙ put_here nat_cmp_total nat_cmp-IsAntisymmetric m e.record_no e.run ∙ ap Some (sym (one f.run (ap (get m) (sym same) ∙ there)))
  | inr other ↦ put_elsewhere nat_cmp_total nat_cmp-IsAntisymmetric m e.record_no e.run f.record_no other ∙ there
]

-- an entry that ended a record of which no other run is noted
pub endings_more : (m : Ends) (es : List Entry) (e : Entry) → AreEndings m es → is_ending e.outcome ≡ true → ((run : ℕ) → get m e.record_no ≡ Some run → run ≡ e.run) → AreEndings (insert m e.record_no e.run) (es ++ e ∷ [])
endings_more m es e h ending one = record {
  each = λ r run there. elim (put_cases nat_cmp_total nat_cmp-IsAntisymmetric m e.record_no e.run r run there) [
    | inl here ↦ (e, Contains-push es e, here.1, sym here.0, ending)
    | inr before ↦ ended_before m es e r run h before
  ];
  all = λ f among ends. elim (Contains-push_cases es e f among) [
    | inl old ↦ noted_before m e f (h.all f old ends) one
    | inr same ↦ subst (λ (x : Entry). get (insert m e.record_no e.run) x.record_no ≡ Some x.run) same (put_here nat_cmp_total nat_cmp-IsAntisymmetric m e.record_no e.run)
  ];
}

-- an entry that ended a record of which another run is noted
pub endings_two : (m : Ends) (es rest all : List Entry) (e : Entry) → AreEndings m es → es ++ e ∷ rest ≡ all → is_ending e.outcome ≡ true → (run : ℕ) → get m e.record_no ≡ Some run → run ≢ e.run → TwoRunsEndOne all
endings_two m es rest all e h whole ending run there differs =
    let one = h.each e.record_no run there in
    let first : Contains all one.0 = subst (λ (xs : List Entry). Contains xs one.0) whole (Contains-append_left es (e ∷ rest) one.0 one.1) in
    let second : Contains all e = subst (λ (xs : List Entry). Contains xs e) whole (Contains-append_right es (e ∷ rest) e (0, omega arith, refl)) in
    (one.0, e, first, second, one.4, ending, one.3, λ same. differs (sym one.2 ∙ same))

-- the entries so far, of which the runs are noted, and those that are left
abbrev pub AreNoted : Ends → List Entry → List Entry → Type 0
AreNoted m left all = (done : List Entry) × (done ++ left ≡ all) × AreEndings m done

-- nothing is noted at first
pub none_noted : (m : Ends) (left all : List Entry) → m ≡ empty → left ≡ all → AreNoted m left all
none_noted m left all e same = ([], same, subst (λ (n : Ends). AreEndings n []) (sym e) endings_none)

-- one entry more
pub noted_next : (m n : Ends) (left rest all : List Entry) (e : Entry) → AreNoted m left all → left ≡ e ∷ rest → (is_ending e.outcome ≡ false → n ≡ m) → (is_ending e.outcome ≡ true → n ≡ insert m e.record_no e.run)
    → (is_ending e.outcome ≡ true → (run : ℕ) → get m e.record_no ≡ Some run → run ≡ e.run) → AreNoted n rest all
noted_next m n left rest all e noted first other ending one =
    let done = noted.0 in
    let whole : (done ++ e ∷ []) ++ rest ≡ all = append_assoc done (e ∷ []) rest ∙ ap (λ xs. done ++ xs) (sym first) ∙ noted.1 in (
      done ++ e ∷ [],
      whole,
      elim (cases_Bool (is_ending e.outcome)) [
        | inl is ↦ subst (λ (k : Ends). AreEndings k (done ++ e ∷ [])) (sym (ending is)) (endings_more m done e noted.2 is (one is))
        | inr is ↦ subst (λ (k : Ends). AreEndings k (done ++ e ∷ [])) (sym (other is)) (endings_other m done e noted.2 is)
      ],
    )

-- all are noted at last
pub all_noted : (m : Ends) (left all : List Entry) → AreNoted m left all → left ≡ [] → AreEndings m all
all_noted m left all noted none = subst (AreEndings m) (sym (append-nil noted.0) ∙ ap (λ xs. noted.0 ++ xs) (sym none) ∙ noted.1) noted.2

-- another run ended the record of the next entry
pub other_noted : (m : Ends) (left rest all : List Entry) (e : Entry) → AreNoted m left all → left ≡ e ∷ rest → is_ending e.outcome ≡ true → (run : ℕ) → get m e.record_no ≡ Some run → run ≢ e.run → TwoRunsEndOne all
other_noted m left rest all e noted first = endings_two m noted.0 rest all e noted.2 (ap (λ xs. noted.0 ++ xs) (sym first) ∙ noted.1)

-- each ended record has one where each has a run under it
pub one_ending : (m : Ends) (statuses : List Status) (es : List Entry) → AreEndings m es → ((r : ℕ) → numbered statuses r ≡ Some Ended → IsSome (get m r)) → EachHasOneEnding statuses es
one_ending m statuses es h each = record {
  one = λ r ended. let run = some_is (get m r) (each r ended) in let one = h.each r run.0 run.1 in (one.0, one.1, one.3, one.4);
  once = λ e f among too ending ends same. let first = h.all e among ending in let second = ap (get m) same ∙ h.all f too ends in cc;
}

-- and not where two runs ended one
pub two_endings : (statuses : List Status) (es : List Entry) → TwoRunsEndOne es → EachHasOneEnding statuses es → ⊥
two_endings statuses es (e, f, among, too, ending, ends, same, differs) one = differs (one.once e f among too ending ends same)

lacks : {A : Type 0} (o : Option A) (x : A) → IsNone o → o ≡ Some x → ⊥
lacks o x none there = false≢true (sym none ∙ ap is_some there)

-- nor where one has no run under it
pub no_ending : (m : Ends) (statuses : List Status) (es : List Entry) (r : ℕ) → AreEndings m es → numbered statuses r ≡ Some Ended → IsNone (get m r) → EachHasOneEnding statuses es → ⊥
no_ending m statuses es r h ended none one =
    let entry = one.one r ended in
    let there = ap (get m) (sym entry.2) ∙ h.all entry.0 entry.1 entry.3 in
    absurd (lacks (get m r) entry.0.run none there)

-- ---- ended records that have no run under them

pub ended_only : (status : Status) → is_ended status ≡ true → status ≡ Ended
ended_only Here e = absurd cc
ended_only Sent e = absurd cc
ended_only Received e = absurd cc
ended_only Ended e = refl

ended_is : (o : Option Status) → is_some_and o is_ended ≡ true → o ≡ Some Ended
ended_is None e = absurd cc
ended_is (Some status) e = ap Some (ended_only status e)

-- the record is ended and has no run under it
abbrev pub lacks_ending : List Status → Ends → ℕ → Bool
lacks_ending statuses m r = is_some_and (numbered statuses r) is_ended && is_none (get m r)

pub has_ending : (statuses : List Status) (m : Ends) (r : ℕ) → lacks_ending statuses m r ≡ false → numbered statuses r ≡ Some Ended → IsSome (get m r)
has_ending statuses m r has ended = not-false (is_some (get m r)) (sym (ap (λ o. is_some_and o is_ended && is_none (get m r)) ended) ∙ has)

pub has_no_ending : (statuses : List Status) (m : Ends) (r : ℕ) → lacks_ending statuses m r ≡ true → (numbered statuses r ≡ Some Ended) × IsNone (get m r)
has_no_ending statuses m r lacking =
    let both = and_parts (is_some_and (numbered statuses r) is_ended) (is_none (get m r)) lacking in
    (ended_is (numbered statuses r) both.0, not-true (is_some (get m r)) both.1)

-- each of so many records that is ended has a run under it
abbrev pub HaveEndings : List Status → Ends → ℕ → Type 0
HaveEndings statuses m n = (r : ℕ) → r ≤ n → numbered statuses r ≡ Some Ended → IsSome (get m r)

pub none_has : (statuses : List Status) (m : Ends) → HaveEndings statuses m 0
none_has statuses m r high ended = let within = numbered_within statuses r Ended ended in absurd (omega (arith, within))

pub next_has : (statuses : List Status) (m : Ends) (n : ℕ) → HaveEndings statuses m n → lacks_ending statuses m (n + 1) ≡ false → HaveEndings statuses m (n + 1)
next_has statuses m n all has r high ended = elim (cases_lt n r) [
  | inl above ↦ let same : n + 1 ≡ r = omega arith in has_ending statuses m r (ap (lacks_ending statuses m) (sym same) ∙ has) ended
  | inr below ↦ all r below ended
]

pub all_have : (statuses : List Status) (m : Ends) (n : ℕ) → HaveEndings statuses m n → length statuses ≤ n → (r : ℕ) → numbered statuses r ≡ Some Ended → IsSome (get m r)
all_have statuses m n all many r ended = let within = numbered_within statuses r Ended ended in all r (omega (arith, within, many)) ended
