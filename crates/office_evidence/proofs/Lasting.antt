-- What stays over any acts: how many runs and records there are at least, a record's ref, length and digest, a run's day
-- and opener, its entries and its certificate.
use Rattle.std.proofs.Common.{◌≡◌, ◌≢◌, inl, inr, ℕ, ◌<◌, ◌≤◌, ℤ, true, false, List, [], ◌∷◌, length, Option, Some, refl, sym, ap, subst, ◌∙◌, arith, unwrap_or}
use Rattle.std.proofs.lemmas.List.{length-append}
use Rattle.std.specs.FinMap.{get, insert}
use Rattle.std.specs.Option.{option_map}
use Rattle.office_records.specs.Lists.{numbered, edited}
use Rattle.office_records.specs.declared.head.Record.{Record}
use Rattle.office_records.proofs.Places.{length-edited}
use Rattle.office_rules.specs.Acts.{after}
use Rattle.office_rules.specs.Disposing.{entry_of, outcome_of}
use Rattle.office_rules.specs.Effects.{new_head, new_run, with_new_record}
use Rattle.office_rules.specs.Forms.{AreWellFormed}
use Rattle.office_rules.specs.Runs.{closed, cursor_of, entries_with, open_run, with_outcomes}
use Rattle.office_rules.specs.Sound.{IsSound}
use Rattle.office_rules.specs.State.{State}
use Rattle.office_rules.specs.declared.act.Act.{Act}
use Rattle.office_rules.specs.declared.entry.Entry.{Entry}
use Rattle.office_rules.specs.declared.outcome.Outcome.{Outcome}
use Rattle.office_rules.specs.declared.run.Run.{Run}
use Rattle.office_rules.proofs.Certifying.{other_certificates}
use Rattle.office_rules.proofs.OpenRun.{length-runs}
use Rattle.office_rules.proofs.SoundMaps.{edited_here, edited_elsewhere, entry_total, entry_cmp-IsAntisymmetric, is_there, one_there, pushed_keeps, put_elsewhere, same_or_not}
use Rattle.office_rules.proofs.SoundRuns.{open_there}
use Rattle.office_rules.proofs.SoundTaken.{taken}
use Rattle.office_evidence.proofs.ActKinds.{IsAlike, KeepsHeads, kind_of, more_heads}
use Rattle.office_evidence.proofs.ActKinds.Kind.{adds, closes, opens, quiet, takes}
use Rattle.office_evidence.proofs.Places.{Lasts, before_end, lasts}

-- ---- how many there are

abbrev pub HasRuns : ℕ → State → Type 0
HasRuns n s = n ≤ length s.office.runs

abbrev pub HasRecords : ℕ → State → Type 0
HasRecords n s = n ≤ length s.office.tree.records

pub runs_of_closed : (s : State) (run : ℕ) → length (closed s run).office.runs ≡ length s.office.runs
unfolding closed
runs_of_closed s run = length-edited s.office.runs run _

pub records_of_closed : (s : State) (run : ℕ) → length (closed s run).office.tree.records ≡ length s.office.tree.records
unfolding closed
records_of_closed s run = refl

pub records_of_taken : (s : State) (run r : ℕ) → length (with_outcomes s run (r ∷ [])).office.tree.records ≡ length s.office.tree.records
unfolding with_outcomes
records_of_taken s run r = refl

pub runs_last : (n : ℕ) → Lasts (HasRuns n)
runs_last n s a sound formed low = elim (kind_of s a) [
  | quiet q ↦ let same = ap length q.runs in omega (arith, same, low)
  | adds q ↦ let same = ap (λ (t : State). length t.office.runs) q.is in omega (arith, same, low)
  | opens q ↦ let same = ap (λ (t : State). length t.office.runs) q.is in omega (arith, same, low, length-append s.office.runs (new_run q.day q.by ∷ []))
  | takes q ↦ let same = ap (λ (t : State). length t.office.runs) q.is ∙ length-runs s q.run (q.r ∷ []) in omega (arith, same, low)
  | closes q ↦ let same = ap (λ (t : State). length t.office.runs) q.is ∙ runs_of_closed s q.run in omega (arith, same, low)
]

pub records_last : (n : ℕ) → Lasts (HasRecords n)
records_last n s a sound formed low = elim (kind_of s a) [
  | quiet q ↦ let same = q.records in omega (arith, same, low)
  | adds q ↦ let same = ap (λ (t : State). length t.office.tree.records) q.is in omega (arith, same, low, length-append s.office.tree.records (new_head q.day q.new ∷ []))
  | opens q ↦ let same = ap (λ (t : State). length t.office.tree.records) q.is in omega (arith, same, low)
  | takes q ↦ let same = ap (λ (t : State). length t.office.tree.records) q.is ∙ records_of_taken s q.run q.r in omega (arith, same, low)
  | closes q ↦ let same = ap (λ (t : State). length t.office.tree.records) q.is ∙ records_of_closed s q.run in omega (arith, same, low)
]

-- ---- a record's ref, length and digest

pub record HasHead (r : ℕ) (head : Record) (s : State) : Type 0 where
  pub it : Record
  pub there : numbered s.office.tree.records r ≡ Some it
  pub same : IsAlike head it

heads_of_closed : (s : State) (run : ℕ) → (closed s run).office.tree.records ≡ s.office.tree.records
unfolding closed
heads_of_closed s run = refl

heads_of_taken : (s : State) (run r : ℕ) → (with_outcomes s run (r ∷ [])).office.tree.records ≡ s.office.tree.records
unfolding with_outcomes
heads_of_taken s run r = refl

has_head : (r : ℕ) (head : Record) (s t : State) → HasHead r head s → KeepsHeads s.office.tree.records t.office.tree.records → HasHead r head t
has_head r head s t has keeps =
    let now = keeps r has.it has.there in
    record {
      it = now.0;
      there = now.1;
      same = record { ref_text = now.2.ref_text ∙ has.same.ref_text; size = now.2.size ∙ has.same.size; digest = now.2.digest ∙ has.same.digest };
    }

same_records : (r : ℕ) (head : Record) (s t : State) → t.office.tree.records ≡ s.office.tree.records → HasHead r head s → HasHead r head t
same_records r head s t same has = record { it = has.it; there = ap (λ heads. numbered heads r) same ∙ has.there; same = has.same }

pub head_lasts : (r : ℕ) (head : Record) → Lasts (HasHead r head)
head_lasts r head s a sound formed has = elim (kind_of s a) [
  | quiet q ↦ has_head r head s _ has q.heads
  | adds q ↦ subst (HasHead r head) (sym q.is) (has_head r head s (with_new_record s q.day q.new) has (more_heads s.office.tree.records (new_head q.day q.new)))
  | opens q ↦ same_records r head s _ (ap (λ (t : State). t.office.tree.records) q.is) has
  | takes q ↦ same_records r head s _ (ap (λ (t : State). t.office.tree.records) q.is ∙ heads_of_taken s q.run q.r) has
  | closes q ↦ same_records r head s _ (ap (λ (t : State). t.office.tree.records) q.is ∙ heads_of_closed s q.run) has
]

-- ---- entries

pub entries_of_closed : (s : State) (run : ℕ) → (closed s run).office.entries ≡ s.office.entries
unfolding closed
entries_of_closed s run = refl

-- the entries after a step that took a record with that outcome
pub entries_of_taken : (s : State) (run r : ℕ) (o : Outcome) → outcome_of s.office r ≡ Some o → (with_outcomes s run (r ∷ [])).office.entries ≡ insert s.office.entries (run, r) (entry_of s.office run r o)
unfolding with_outcomes
entries_of_taken s run r o comes = ap (λ (x : Option Outcome). entries_with s.office.entries run r (entry_of s.office run r) x) comes

abbrev pub HasEntry : ℕ → ℕ → Entry → State → Type 0
HasEntry run r e s = get s.office.entries (run, r) ≡ Some e

-- an entry's key is another one than that of the record that is taken next
pub other_key : (s : State) (run r a q : ℕ) (e : Entry) → IsSound s → open_run s.office ≡ Some run → cursor_of s.office run < r → get s.office.entries (a, q) ≡ Some e → let key : ℕ × ℕ = (a, q) in let next : ℕ × ℕ = (run, r) in key ≢ next
other_key s run r a q e sound open_is above there same =
    let at = open_there s.office run open_is in
    let runs : a ≡ run = ap (λ (k : ℕ × ℕ). k.0) same in
    let records : q ≡ r = ap (λ (k : ℕ × ℕ). k.1) same in
    let passed : q ≤ at.0.cursor = sound.entries.passed a q e at.0 there (ap (numbered s.office.runs) runs ∙ at.1) in
    let cursor : cursor_of s.office run ≡ at.0.cursor = ap (λ (o : Option Run). unwrap_or (option_map (λ (it : Run). it.cursor) o) 0) at.1 in
    omega (arith, records, passed, cursor, above)

pub entry_lasts : (run r : ℕ) (e : Entry) → Lasts (HasEntry run r e)
entry_lasts run r e s a sound formed there = elim (kind_of s a) [
  | quiet q ↦ ap (λ m. get m (run, r)) q.entries ∙ there
  | adds q ↦ ap (λ (t : State). get t.office.entries (run, r)) q.is ∙ there
  | opens q ↦ ap (λ (t : State). get t.office.entries (run, r)) q.is ∙ there
  | takes q ↦
      let it = taken s q.run q.r sound q.next in
      ap (λ (t : State). get t.office.entries (run, r)) q.is
      ∙ ap (λ m. get m (run, r)) (entries_of_taken s q.run q.r it.3 it.4.comes)
      ∙ put_elsewhere entry_total entry_cmp-IsAntisymmetric s.office.entries (q.run, q.r) (entry_of s.office q.run q.r it.3) (run, r)
      (other_key s q.run q.r run r e sound q.open_is it.4.above there)
      ∙ there
  | closes q ↦ ap (λ (t : State). get t.office.entries (run, r)) q.is ∙ ap (λ m. get m (run, r)) (entries_of_closed s q.run) ∙ there
]

-- ---- certificates

pub certificates_of_taken : (s : State) (run r : ℕ) → (with_outcomes s run (r ∷ [])).office.certificates ≡ s.office.certificates
unfolding with_outcomes
certificates_of_taken s run r = refl

abbrev pub HasCertificate : ℕ → List ℕ → State → Type 0
HasCertificate run text s = get s.office.certificates run ≡ Some text

-- a run that has its certificate is not the open one
closed_before : (s : State) (run going : ℕ) (text : List ℕ) → IsSound s → open_run s.office ≡ Some going → get s.office.certificates run ≡ Some text → run ≢ going
closed_before s run going text sound open_is there same =
    let at = open_there s.office going open_is in
    let closed_run = (sound.runs.certified run).0 (is_there (get s.office.certificates run) text there) in
    let one : at.0 ≡ closed_run.0 = one_there (numbered s.office.runs going) at.0 closed_run.0 at.1 (ap (numbered s.office.runs) (sym same) ∙ closed_run.1) in
    let no : false ≡ true = sym at.2 ∙ ap (λ (it : Run). it.is_closed) one ∙ closed_run.2 in
    absurd cc

pub certificate_lasts : (run : ℕ) (text : List ℕ) → Lasts (HasCertificate run text)
certificate_lasts run text s a sound formed there = elim (kind_of s a) [
  | quiet q ↦ ap (λ m. get m run) q.certificates ∙ there
  | adds q ↦ ap (λ (t : State). get t.office.certificates run) q.is ∙ there
  | opens q ↦ ap (λ (t : State). get t.office.certificates run) q.is ∙ there
  | takes q ↦ ap (λ (t : State). get t.office.certificates run) q.is ∙ ap (λ m. get m run) (certificates_of_taken s q.run q.r) ∙ there
  | closes q ↦
      ap (λ (t : State). get t.office.certificates run) q.is
      ∙ other_certificates s q.run run (closed_before s run q.run text sound q.open_is there)
      ∙ there
]

-- ---- a run's day and who opened it

pub record HasRun (run : ℕ) (day : ℤ) (by : List ℕ) (s : State) : Type 0 where
  pub it : Run
  pub there : numbered s.office.runs run ≡ Some it
  pub on_day : it.day ≡ day
  pub opened_by : it.by ≡ by

run_by : (run : ℕ) (day : ℤ) (by : List ℕ) (s t : State) → t.office.runs ≡ s.office.runs → HasRun run day by s → HasRun run day by t
run_by run day by s t same has = record { it = has.it; there = ap (λ runs. numbered runs run) same ∙ has.there; on_day = has.on_day; opened_by = has.opened_by }

-- where one run's row is changed but for its day and who opened it
run_edited : (run other : ℕ) (day : ℤ) (by : List ℕ) (change : Run → Run) (s t : State) → t.office.runs ≡ edited s.office.runs other change → ((it : Run) → (change it).day ≡ it.day) → ((it : Run) → (change it).by ≡ it.by)
    → HasRun run day by s → HasRun run day by t
run_edited run other day by change s t same same_day same_by has = elim (same_or_not run other) [
  | inl here ↦ record {
    it = change has.it;
    there = ap (λ runs. numbered runs run) same ∙ ap (numbered (edited s.office.runs other change)) here ∙ edited_here s.office.runs other change has.it (ap (numbered s.office.runs) (sym here) ∙ has.there);
    on_day = same_day has.it ∙ has.on_day;
    opened_by = same_by has.it ∙ has.opened_by;
  }
  | inr elsewhere ↦ record {
    it = has.it;
    there = ap (λ runs. numbered runs run) same ∙ edited_elsewhere s.office.runs other run change elsewhere ∙ has.there;
    on_day = has.on_day;
    opened_by = has.opened_by;
  }
]

runs_taken : (s : State) (run r : ℕ) → (with_outcomes s run (r ∷ [])).office.runs ≡ edited s.office.runs run (λ it. record it { cursor = r })
unfolding with_outcomes
runs_taken s run r = refl

runs_closed : (s : State) (run : ℕ) → (closed s run).office.runs ≡ edited s.office.runs run (λ it. record it { is_closed = true })
unfolding closed
runs_closed s run = refl

pub run_lasts : (run : ℕ) (day : ℤ) (by : List ℕ) → Lasts (HasRun run day by)
run_lasts run day by s a sound formed has = elim (kind_of s a) [
  | quiet q ↦ run_by run day by s _ q.runs has
  | adds q ↦ run_by run day by s _ (ap (λ (t : State). t.office.runs) q.is) has
  | opens q ↦ record {
    it = has.it;
    there = ap (λ (t : State). numbered t.office.runs run) q.is ∙ pushed_keeps s.office.runs (new_run q.day q.by) run has.it has.there;
    on_day = has.on_day;
    opened_by = has.opened_by;
  }
  | takes q ↦ run_edited run q.run day by (λ it. record it { cursor = q.r }) s _ (ap (λ (t : State). t.office.runs) q.is ∙ runs_taken s q.run q.r) (λ it. refl) (λ it. refl) has
  | closes q ↦ run_edited run q.run day by (λ it. record it { is_closed = true }) s _ (ap (λ (t : State). t.office.runs) q.is ∙ runs_closed s q.run) (λ it. refl) (λ it. refl) has
]

-- ---- over all acts

over_all : (P : State → Type 0) → Lasts P → (s : State) (acts : List Act) → IsSound s → AreWellFormed acts → P s → P (after s acts)
over_all P one s acts sound formed p = subst P (before_end s acts) (lasts P one s acts (length acts) sound formed p)

pub entry_stays : (s : State) (acts : List Act) (run r : ℕ) (e : Entry) → IsSound s → AreWellFormed acts → get s.office.entries (run, r) ≡ Some e → get (after s acts).office.entries (run, r) ≡ Some e
entry_stays s acts run r e = over_all (HasEntry run r e) (entry_lasts run r e) s acts

pub certificate_stays : (s : State) (acts : List Act) (run : ℕ) (text : List ℕ) → IsSound s → AreWellFormed acts → get s.office.certificates run ≡ Some text → get (after s acts).office.certificates run ≡ Some text
certificate_stays s acts run text = over_all (HasCertificate run text) (certificate_lasts run text) s acts
