-- Each candidate of a run that nothing interrupts has its entry, and the content of what it ended is gone.
use Rattle.std.proofs.Common.{◌≡◌, ◌≢◌, ℕ, zero, suc, ◌==◌, Bool, true, false, cond, IsTrue, List, [], ◌∷◌, Option, Some, None, Contains, refl, sym, ap, ◌∙◌, subst, arith, inl, inr}
use Rattle.std.proofs.lemmas.Bool.{cases_eq}
use Rattle.std.proofs.lemmas.Bool.Decides.{nat_tests}
use Rattle.std.specs.FinMap.{get}
use Rattle.office_records.specs.Tree.{action_of, status_of}
use Rattle.office_records.specs.declared.action.Action.TheVariants as action
use Rattle.office_records.specs.declared.status.Status.TheVariants as status
use Rattle.office_rules.specs.Disposing.{entry_of, outcome_of}
use Rattle.office_rules.specs.Holds.{is_held}
use Rattle.office_rules.specs.Meanings.{IsCandidate}
use Rattle.office_rules.specs.Outcomes.{is_ending}
use Rattle.office_rules.specs.Runs.{all_contents, all_entries, candidates, closed, contents_with, entries_with, whole, with_outcomes}
use Rattle.office_rules.specs.State.{ByteMap, EntryMap, Office, State}
use Rattle.office_rules.specs.declared.outcome.Outcome.{Outcome}
use Rattle.office_rules.specs.declared.outcome.Outcome.TheVariants as outcome
use Rattle.office_rules.proofs.Candidates.{candidates_are}
use Rattle.office_rules.proofs.Contents.{get-removed}
use Rattle.office_rules.proofs.SoundMaps.{entry_cmp-IsAntisymmetric, entry_total, put_elsewhere, put_here}

-- ---- contents

cond_none : (b : Bool) (x : Option (List ℕ)) → x ≡ None → cond b None x ≡ None
cond_none true x h = refl
cond_none false x h = h

-- what is gone stays gone
gone_once : (contents : ByteMap) (c r : ℕ) (o : Option Outcome) → get contents r ≡ None → get (contents_with contents c o) r ≡ None
gone_once contents c r None h = h
gone_once contents c r (Some outcome.Sent) h = h
gone_once contents c r (Some outcome.Skipped) h = h
gone_once contents c r (Some outcome.Destroyed) h = get-removed contents c r outcome.Destroyed refl ∙ cond_none (c == r) (get contents r) h
gone_once contents c r (Some outcome.Transferred) h = get-removed contents c r outcome.Transferred refl ∙ cond_none (c == r) (get contents r) h

gone_all : (s : Office) (rs : List ℕ) (r : ℕ) (contents : ByteMap) → get contents r ≡ None → get (all_contents s rs contents) r ≡ None
gone_all s [] r contents h = h
gone_all s (x ∷ rs) r contents h = gone_all s rs r (contents_with contents x (outcome_of s x)) (gone_once contents x r (outcome_of s x) h)

gone_here : (contents : ByteMap) (r : ℕ) (o : Outcome) → IsTrue (is_ending o) → get (contents_with contents r (Some o)) r ≡ None
gone_here contents r outcome.Sent ends = absurd cc
gone_here contents r outcome.Skipped ends = absurd cc
gone_here contents r outcome.Destroyed ends = let same : (r == r) ≡ true = grind (arith, nat_tests) in get-removed contents r r outcome.Destroyed refl ∙ ap (λ b. cond b None (get contents r)) same
gone_here contents r outcome.Transferred ends = let same : (r == r) ≡ true = grind (arith, nat_tests) in get-removed contents r r outcome.Transferred refl ∙ ap (λ b. cond b None (get contents r)) same

gone_taken : (s : Office) (rs : List ℕ) (r : ℕ) (o : Outcome) (contents : ByteMap) → Contains rs r → outcome_of s r ≡ Some o → IsTrue (is_ending o) → get (all_contents s rs contents) r ≡ None
gone_taken s [] r o contents (k, h, e) is ends = absurd (omega (arith, h))
gone_taken s (x ∷ rs) r o contents (zero, h, e) is ends =
    let here : get (contents_with contents r (outcome_of s r)) r ≡ None = subst (λ (p : Option Outcome). get (contents_with contents r p) r ≡ None) (sym is) (gone_here contents r o ends) in
    gone_all s rs r (contents_with contents x (outcome_of s x)) (subst (λ (y : ℕ). get (contents_with contents y (outcome_of s y)) r ≡ None) (sym e) here)
gone_taken s (x ∷ rs) r o contents (suc k, h, e) is ends = gone_taken s rs r o (contents_with contents x (outcome_of s x)) (k, omega (arith, h), e) is ends

-- ---- entries

pair_apart : (run x r : ℕ) → x ≢ r → ◌≢◌ {A = ℕ × ℕ} (run, r) (run, x)
pair_apart run x r other e = other (sym (ap (λ (p : ℕ × ℕ). p.1) e))

-- an entry that is there stays
stays_once : (s : Office) (run x r : ℕ) (entries : EntryMap) (o : Outcome) (p : Option Outcome) → outcome_of s x ≡ p → outcome_of s r ≡ Some o → get entries (run, r) ≡ Some (entry_of s run r o)
    → get (entries_with entries run x (entry_of s run x) p) (run, r) ≡ Some (entry_of s run r o)
stays_once s run x r entries o None was is there = there
stays_once s run x r entries o (Some q) was is there = elim (cases_eq x r) [
  | inl same ↦
      let at : get (entries_with entries run r (entry_of s run r) (Some o)) (run, r) ≡ Some (entry_of s run r o) = put_here entry_total entry_cmp-IsAntisymmetric entries (run, r) (entry_of s run r o) in
      let alike : Some q ≡ Some o = sym was ∙ ap (outcome_of s) same ∙ is in
      subst (λ (y : ℕ). get (entries_with entries run y (entry_of s run y) (Some q)) (run, r) ≡ Some (entry_of s run r o)) (sym same)
      (subst (λ (z : Option Outcome). get (entries_with entries run r (entry_of s run r) z) (run, r) ≡ Some (entry_of s run r o)) (sym alike) at)
  | inr other ↦ put_elsewhere entry_total entry_cmp-IsAntisymmetric entries (run, x) (entry_of s run x q) (run, r) (pair_apart run x r other) ∙ there
]

stays_all : (s : Office) (run : ℕ) (rs : List ℕ) (r : ℕ) (o : Outcome) (entries : EntryMap) → outcome_of s r ≡ Some o → get entries (run, r) ≡ Some (entry_of s run r o)
    → get (all_entries s run rs entries) (run, r) ≡ Some (entry_of s run r o)
stays_all s run [] r o entries is there = there
stays_all s run (x ∷ rs) r o entries is there =
    stays_all s run rs r o (entries_with entries run x (entry_of s run x) (outcome_of s x)) is (stays_once s run x r entries o (outcome_of s x) refl is there)

entered_taken : (s : Office) (run : ℕ) (rs : List ℕ) (r : ℕ) (o : Outcome) (entries : EntryMap) → Contains rs r → outcome_of s r ≡ Some o → get (all_entries s run rs entries) (run, r) ≡ Some (entry_of s run r o)
entered_taken s run [] r o entries (k, h, e) is = absurd (omega (arith, h))
entered_taken s run (x ∷ rs) r o entries (zero, h, e) is =
    let at : get (entries_with entries run r (entry_of s run r) (Some o)) (run, r) ≡ Some (entry_of s run r o) = put_here entry_total entry_cmp-IsAntisymmetric entries (run, r) (entry_of s run r o) in
    let here = subst (λ (z : Option Outcome). get (entries_with entries run r (entry_of s run r) z) (run, r) ≡ Some (entry_of s run r o)) (sym is) at in
    stays_all s run rs r o (entries_with entries run x (entry_of s run x) (outcome_of s x)) is
    (subst (λ (y : ℕ). get (entries_with entries run y (entry_of s run y) (outcome_of s y)) (run, r) ≡ Some (entry_of s run r o)) (sym e) here)
entered_taken s run (x ∷ rs) r o entries (suc k, h, e) is = entered_taken s run rs r o (entries_with entries run x (entry_of s run x) (outcome_of s x)) (k, omega (arith, h), e) is

-- ---- the whole run

pub entered : (s : State) (run r : ℕ) (o : Outcome) → IsCandidate s.office run r → outcome_of s.office r ≡ Some o → get (whole s run).office.entries (run, r) ≡ Some (entry_of s.office run r o)
unfolding closed with_outcomes
entered s run r o candidate is = entered_taken s.office run (candidates s.office run) r o s.office.entries ((candidates_are s.office run r).1 candidate) is

pub gone : (s : State) (run r : ℕ) (o : Outcome) → IsCandidate s.office run r → outcome_of s.office r ≡ Some o → IsTrue (is_ending o) → get (whole s run).contents r ≡ None
unfolding closed with_outcomes
gone s run r o candidate is ends = gone_taken s.office (candidates s.office run) r o s.contents ((candidates_are s.office run r).1 candidate) is ends

pub destroyed : (s : State) (run r : ℕ) → IsCandidate s.office run r → status_of s.office.tree r ≡ Some status.Here → action_of s.office.tree r ≡ Some action.Destroy → is_held s.office.holds s.office.tree r ≡ false
    → (get (whole s run).office.entries (run, r) ≡ Some (entry_of s.office run r outcome.Destroyed)) × (get (whole s run).contents r ≡ None)
destroyed s run r candidate here planned free =
    let is : outcome_of s.office r ≡ Some outcome.Destroyed = rw (here, planned, free) refl in
    (entered s run r outcome.Destroyed candidate is, gone s run r outcome.Destroyed candidate is refl)
