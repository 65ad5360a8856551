-- Where what is there came from: the act that opened a run, took a record, closed a run or added a record.
use Rattle.std.proofs.Common.{◌≡◌, inl, inr, ℕ, suc, ◌<◌, ℤ, List, [], ◌∷◌, ◌++◌, length, Option, Some, None, refl, sym, ap, ◌∙◌, arith, unwrap_or}
use Rattle.std.specs.Prelude.{slice_get}
use Rattle.std.proofs.lemmas.Bool.{cases_lt}
use Rattle.std.proofs.lemmas.List.{length-append}
use Rattle.std.specs.Cmp.{nat_cmp_total}
use Rattle.std.specs.FinMap.{get, insert, nat_cmp-IsAntisymmetric}
use Rattle.office_records.specs.Lists.{numbered}
use Rattle.office_rules.specs.Acts.{step}
use Rattle.office_rules.specs.Disposing.{entry_of, outcome_of}
use Rattle.office_rules.specs.Effects.{new_head, new_run}
use Rattle.office_rules.specs.NewRecords.{NewRecord, add_record}
use Rattle.office_rules.specs.Runs.{certificate_of, closed, next_ready, open_run}
use Rattle.office_rules.specs.Sound.{IsSound}
use Rattle.office_rules.specs.State.{State}
use Rattle.office_rules.specs.declared.act.Act.{Act}
use Rattle.office_rules.specs.declared.act.Act.TheVariants as act
use Rattle.office_rules.specs.declared.answer.Answer.TheVariants as answer
use Rattle.office_rules.specs.declared.entry.Entry.{Entry}
use Rattle.office_rules.specs.declared.outcome.Outcome.{Outcome}
use Rattle.office_rules.specs.declared.outcome.Outcome.TheVariants as outcome
use Rattle.office_rules.proofs.OpenRun.{length-runs}
use Rattle.office_rules.proofs.SoundMaps.{entry_total, entry_cmp-IsAntisymmetric, put_cases, put_here}
use Rattle.office_rules.proofs.SoundTaken.{taken}
use Rattle.office_evidence.proofs.ActKinds.{Opens, Takes, kind_of}
use Rattle.office_evidence.proofs.ActKinds.Kind.{adds, closes, opens, quiet, takes}
use Rattle.office_evidence.proofs.Lasting.{HasCertificate, HasEntry, HasRecords, HasRun, HasRuns, certificates_of_taken, entries_of_closed, entries_of_taken, records_of_closed, records_of_taken, runs_of_closed}
use Rattle.office_evidence.proofs.Places.{Comes}

-- ---- entries

-- the act was a step of the run, which took the record and wrote this entry
pub record DidTake (run r : ℕ) (e : Entry) (s : State) (a : Act) : Type 0 where
  pub open_is : open_run s.office ≡ Some run
  pub next : next_ready s.office run ≡ Some r
  pub outcome : Outcome
  pub comes : outcome_of s.office r ≡ Some outcome
  pub answered : (step s a).0 ≡ answer.Step r outcome
  pub is : e ≡ entry_of s.office run r outcome
  pub written : get (step s a).1.office.entries (run, r) ≡ Some e

-- what a step that took a record did
pub taken_by : (s : State) (a : Act) → IsSound s → (q : Takes s (step s a).0 (step s a).1) → (o : Outcome) × DidTake q.run q.r (entry_of s.office q.run q.r o) s a
taken_by s a sound q =
    let it = taken s q.run q.r sound q.next in
    let o = it.3 in (
      o,
      record {
        open_is = q.open_is;
        next = q.next;
        outcome = o;
        comes = it.4.comes;
        answered = q.answered ∙ ap (λ (x : Option Outcome). answer.Step q.r (unwrap_or x outcome.Skipped)) it.4.comes;
        is = refl;
        written =
            ap (λ (t : State). get t.office.entries (q.run, q.r)) q.is
            ∙ ap (λ m. get m (q.run, q.r)) (entries_of_taken s q.run q.r o it.4.comes)
            ∙ put_here entry_total entry_cmp-IsAntisymmetric s.office.entries (q.run, q.r) (entry_of s.office q.run q.r o);
      },
    )

same_take : (s : State) (a : Act) (run r other q : ℕ) (e f : Entry) → run ≡ other → r ≡ q → f ≡ e → get (step s a).1.office.entries (run, r) ≡ Some e → DidTake other q f s a → DidTake run r e s a
same_take s a run r other q e f runs records same there it = record {
  open_is = it.open_is ∙ ap (λ (n : ℕ). Some n) (sym runs);
  next = ap (next_ready s.office) runs ∙ it.next ∙ ap (λ (n : ℕ). Some n) (sym records);
  outcome = it.outcome;
  comes = ap (outcome_of s.office) records ∙ it.comes;
  answered = it.answered ∙ ap (λ n. answer.Step n it.outcome) (sym records);
  is = sym same ∙ it.is ∙ (λ i. entry_of s.office (sym runs i) (sym records i) it.outcome);
  written = there;
}

pub entry_comes : (run r : ℕ) (e : Entry) → Comes (HasEntry run r e) (DidTake run r e)
unfolding taken_by
entry_comes run r e s a sound there = elim (kind_of s a) [
  | quiet q ↦ inl (ap (λ m. get m (run, r)) (sym q.entries) ∙ there)
  | adds q ↦ inl (ap (λ (t : State). get t.office.entries (run, r)) (sym q.is) ∙ there)
  | opens q ↦ inl (ap (λ (t : State). get t.office.entries (run, r)) (sym q.is) ∙ there)
  | takes q ↦
      let it = taken s q.run q.r sound q.next in
      let new = entry_of s.office q.run q.r it.3 in
      let did = taken_by s a sound q in
      elim (put_cases entry_total entry_cmp-IsAntisymmetric s.office.entries (q.run, q.r) new (run, r) e
      (ap (λ m. get m (run, r)) (sym (entries_of_taken s q.run q.r it.3 it.4.comes)) ∙ ap (λ (t : State). get t.office.entries (run, r)) (sym q.is) ∙ there)) [
        | inl here ↦ inr (same_take s a run r q.run q.r e new (ap (λ (k : ℕ × ℕ). k.0) here.0) (ap (λ (k : ℕ × ℕ). k.1) here.0) here.1 there did.1)
        | inr was ↦ inl was
      ]
  | closes q ↦ inl (ap (λ m. get m (run, r)) (sym (entries_of_closed s q.run)) ∙ ap (λ (t : State). get t.office.entries (run, r)) (sym q.is) ∙ there)
]

-- ---- certificates

-- the act was the step that closed the run, with this certificate
pub record DidClose (run : ℕ) (text : List ℕ) (s : State) (a : Act) : Type 0 where
  pub open_is : open_run s.office ≡ Some run
  pub none_next : next_ready s.office run ≡ None
  pub answered : (step s a).0 ≡ answer.RunClosed run
  pub is : text ≡ certificate_of s.office run
  pub written : get (step s a).1.office.certificates run ≡ Some text

certificates_of_closed : (s : State) (run : ℕ) → (closed s run).office.certificates ≡ insert s.office.certificates run (certificate_of s.office run)
unfolding closed
certificates_of_closed s run = refl

pub certificate_comes : (run : ℕ) (text : List ℕ) → Comes (HasCertificate run text) (DidClose run text)
certificate_comes run text s a sound there = elim (kind_of s a) [
  | quiet q ↦ inl (ap (λ m. get m run) (sym q.certificates) ∙ there)
  | adds q ↦ inl (ap (λ (t : State). get t.office.certificates run) (sym q.is) ∙ there)
  | opens q ↦ inl (ap (λ (t : State). get t.office.certificates run) (sym q.is) ∙ there)
  | takes q ↦ inl (ap (λ m. get m run) (sym (certificates_of_taken s q.run q.r)) ∙ ap (λ (t : State). get t.office.certificates run) (sym q.is) ∙ there)
  | closes q ↦
      elim (put_cases nat_cmp_total nat_cmp-IsAntisymmetric s.office.certificates q.run (certificate_of s.office q.run) run text
      (ap (λ m. get m run) (sym (certificates_of_closed s q.run)) ∙ ap (λ (t : State). get t.office.certificates run) (sym q.is) ∙ there)) [
        | inl here ↦ inr (record {
          open_is = q.open_is ∙ ap (λ (n : ℕ). Some n) (sym here.0);
          none_next = ap (next_ready s.office) here.0 ∙ q.none_next;
          answered = q.answered ∙ ap (λ n. answer.RunClosed n) (sym here.0);
          is = sym here.1 ∙ ap (certificate_of s.office) (sym here.0);
          written = there;
        })
        | inr was ↦ inl was
      ]
]

-- ---- runs

-- the act opened the run of that number
pub record DidOpen (run : ℕ) (s : State) (a : Act) : Type 0 where
  pub day : ℤ
  pub by : List ℕ
  pub asked : a ≡ act.OpenRun day by
  pub answered : (step s a).0 ≡ answer.Number run
  pub fewer : length s.office.runs < run
  pub opened : HasRun run day by (step s a).1

get_last : {A : Type 0} (xs : List A) (x : A) → slice_get (xs ++ x ∷ []) (length xs) ≡ Some x
get_last [] x = refl
get_last (y ∷ ys) x = get_last ys x

did_open : (run : ℕ) (s : State) (a : Act) → (q : Opens s a (step s a).0 (step s a).1) → run ≡ suc (length s.office.runs) → DidOpen run s a
did_open run s a q is = record {
  day = q.day;
  by = q.by;
  asked = q.asked;
  answered = q.answered ∙ ap (λ n. answer.Number n) (sym is);
  fewer = omega (arith, is);
  opened = record {
    it = new_run q.day q.by;
    there = ap (numbered (step s a).1.office.runs) is ∙ ap (λ (t : State). slice_get t.office.runs (length s.office.runs)) q.is ∙ get_last s.office.runs (new_run q.day q.by);
    on_day = refl;
    opened_by = refl;
  };
}

pub run_comes : (run : ℕ) → Comes (HasRuns run) (DidOpen run)
run_comes run s a sound low = elim (kind_of s a) [
  | quiet q ↦ let same = ap length q.runs in inl (omega (arith, same, low))
  | adds q ↦ let same = ap (λ (t : State). length t.office.runs) q.is in inl (omega (arith, same, low))
  | opens q ↦
      let same = ap (λ (t : State). length t.office.runs) q.is in
      let more = length-append s.office.runs (new_run q.day q.by ∷ []) in
      elim (cases_lt (length s.office.runs) run) [
        | inl new ↦ inr (did_open run s a q (omega (arith, same, more, low, new)))
        | inr old ↦ inl old
      ]
  | takes q ↦ let same = ap (λ (t : State). length t.office.runs) q.is ∙ length-runs s q.run (q.r ∷ []) in inl (omega (arith, same, low))
  | closes q ↦ let same = ap (λ (t : State). length t.office.runs) q.is ∙ runs_of_closed s q.run in inl (omega (arith, same, low))
]

-- ---- records

-- the act added the record of that number
pub record DidAdd (r : ℕ) (s : State) (a : Act) : Type 0 where
  pub day : ℤ
  pub new : NewRecord
  pub asked : a ≡ add_record day new
  pub answered : (step s a).0 ≡ answer.Number r

pub record_comes : (r : ℕ) → Comes (HasRecords r) (DidAdd r)
record_comes r s a sound low = elim (kind_of s a) [
  | quiet q ↦ let same = q.records in inl (omega (arith, same, low))
  | adds q ↦
      let same = ap (λ (t : State). length t.office.tree.records) q.is in
      let more = length-append s.office.tree.records (new_head q.day q.new ∷ []) in
      elim (cases_lt (length s.office.tree.records) r) [
        | inl new ↦ let is : suc (length s.office.tree.records) ≡ r = omega (arith, same, more, low, new) in
            inr (record { day = q.day; new = q.new; asked = q.asked; answered = q.answered ∙ ap (λ n. answer.Number n) is })
        | inr old ↦ inl old
      ]
  | opens q ↦ let same = ap (λ (t : State). length t.office.tree.records) q.is in inl (omega (arith, same, low))
  | takes q ↦ let same = ap (λ (t : State). length t.office.tree.records) q.is ∙ records_of_taken s q.run q.r in inl (omega (arith, same, low))
  | closes q ↦ let same = ap (λ (t : State). length t.office.tree.records) q.is ∙ records_of_closed s q.run in inl (omega (arith, same, low))
]
