-- How far a run has come: its cursor is moved by its own steps alone, each to the record that it takes.
use Rattle.std.proofs.Common.{◌≡◌, ◌≢◌, inl, inr, ℕ, zero, suc, ◌≤◌, true, List, [], ◌∷◌, ◌++◌, Option, Some, None, refl, sym, ap, subst, ◌∙◌, arith, unwrap_or, option_map}
use Rattle.std.specs.Prelude.{slice_get}
use Rattle.office_records.specs.Lists.{edited, numbered}
use Rattle.office_rules.specs.Acts.{step}
use Rattle.office_rules.specs.Disposing.{entry_of}
use Rattle.office_rules.specs.Effects.{new_run}
use Rattle.office_rules.specs.Runs.{closed, cursor_of, with_outcomes}
use Rattle.office_rules.specs.State.{State}
use Rattle.office_rules.specs.declared.act.Act.{Act}
use Rattle.office_rules.specs.declared.entry.Entry.{Entry}
use Rattle.office_rules.specs.declared.run.Run.{Run}
use Rattle.office_rules.proofs.OpenRun.{cursor_moved}
use Rattle.office_rules.proofs.Places.{numbered_same}
use Rattle.office_rules.proofs.SoundMaps.{edited_elsewhere, same_or_not}
use Rattle.office_rules.proofs.SoundRuns.{open_there}
use Rattle.office_evidence.proofs.ActKinds.{kind_of}
use Rattle.office_evidence.proofs.ActKinds.Kind.{adds, closes, opens, quiet, takes}
use Rattle.office_evidence.proofs.Coming.{DidTake, taken_by}
use Rattle.office_evidence.proofs.Places.{Comes}

-- the last record that a run took has this number or a higher one
abbrev pub HasPassed : ℕ → ℕ → State → Type 0
HasPassed run r s = r ≤ cursor_of s.office run

-- the act was a step of the run, which took a record of this number or of a higher one
pub record DidPass (run r : ℕ) (s : State) (a : Act) : Type 0 where
  pub taken : ℕ
  pub high : r ≤ taken
  pub entry : Entry
  pub did : DidTake run taken entry s a

abbrev cursor_by : Option Run → ℕ
cursor_by o = unwrap_or (option_map (λ (it : Run). it.cursor) o) 0

cursor_pushed_at : (runs : List Run) (it : Run) (i : ℕ) → it.cursor ≡ 0 → cursor_by (slice_get (runs ++ it ∷ []) i) ≡ cursor_by (slice_get runs i)
cursor_pushed_at [] it zero new = new
cursor_pushed_at [] it (suc i) new = refl
cursor_pushed_at (x ∷ xs) it zero new = refl
cursor_pushed_at (x ∷ xs) it (suc i) new = cursor_pushed_at xs it i new

-- a run that was just opened took no record
cursor_pushed : (runs : List Run) (it : Run) (run : ℕ) → it.cursor ≡ 0 → cursor_by (numbered (runs ++ it ∷ []) run) ≡ cursor_by (numbered runs run)
cursor_pushed runs it zero new = refl
cursor_pushed runs it (suc i) new = cursor_pushed_at runs it i new

shut_cursor : (o : Option Run) → cursor_by (option_map (λ (it : Run). record it { is_closed = true }) o) ≡ cursor_by o
shut_cursor None = refl
shut_cursor (Some it) = refl

-- a closing leaves each run where it is
cursor_closed : (s : State) (run other : ℕ) → cursor_of (closed s other).office run ≡ cursor_of s.office run
unfolding closed
cursor_closed s run other = elim (same_or_not run other) [
  | inl here ↦
      ap (λ (n : ℕ). cursor_by (numbered (edited s.office.runs other (λ it. record it { is_closed = true })) n)) here
      ∙ ap cursor_by (numbered_same s.office.runs other (λ it. record it { is_closed = true }))
      ∙ shut_cursor (numbered s.office.runs other)
      ∙ ap (λ (n : ℕ). cursor_by (numbered s.office.runs n)) (sym here)
  | inr elsewhere ↦ ap cursor_by (edited_elsewhere s.office.runs other run (λ it. record it { is_closed = true }) elsewhere)
]

-- a step leaves each other run where it is
cursor_other : (s : State) (run other r : ℕ) → run ≢ other → cursor_of (with_outcomes s other (r ∷ [])).office run ≡ cursor_of s.office run
unfolding with_outcomes
cursor_other s run other r elsewhere = ap cursor_by (edited_elsewhere s.office.runs other run (λ it. record it { cursor = r }) elsewhere)

pub passed_comes : (run r : ℕ) → Comes (HasPassed run r) (DidPass run r)
passed_comes run r s a sound low = elim (kind_of s a) [
  | quiet q ↦ let same = ap (λ (runs : List Run). cursor_by (numbered runs run)) q.runs in inl (omega (arith, same, low))
  | adds q ↦ let same = ap (λ (t : State). cursor_of t.office run) q.is in inl (omega (arith, same, low))
  | opens q ↦
      let same = ap (λ (t : State). cursor_of t.office run) q.is ∙ cursor_pushed s.office.runs (new_run q.day q.by) run refl in
      inl (omega (arith, same, low))
  | takes q ↦ elim (same_or_not run q.run) [
    | inl here ↦
        let at = open_there s.office q.run q.open_is in
        let moved = ap (λ (n : ℕ). cursor_of (step s a).1.office n) here ∙ ap (λ (t : State). cursor_of t.office q.run) q.is ∙ cursor_moved s q.run q.r at.0 at.1 in
        let did = taken_by s a sound q in
        inr (record {
          taken = q.r;
          high = omega (arith, moved, low);
          entry = entry_of s.office q.run q.r did.0;
          did = subst (λ (n : ℕ). DidTake n q.r (entry_of s.office q.run q.r did.0) s a) (sym here) did.1;
        })
    | inr elsewhere ↦
        let same = ap (λ (t : State). cursor_of t.office run) q.is ∙ cursor_other s run q.run q.r elsewhere in
        inl (omega (arith, same, low))
  ]
  | closes q ↦
      let same = ap (λ (t : State). cursor_of t.office run) q.is ∙ cursor_closed s run q.run in
      inl (omega (arith, same, low))
]
