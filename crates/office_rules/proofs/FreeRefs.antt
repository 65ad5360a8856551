-- A change that can be made puts no row in under another's ref, at none of its writes.
use Rattle.std.proofs.Common.{◌≡◌, ◌≢◌, ◌≤◌, ◌<◌, ◌+◌, ◌⊎◌, inl, inr, ℕ, suc, zero, List, [], ◌∷◌, length, Some, refl, sym, ap, ◌∙◌, arith}
use Rattle.office_records.specs.Lists.{Differ, numbered, put, put_at}
use Rattle.office_records.specs.Sound.{RefsDiffer}
use Rattle.office_records.proofs.Putting.{numbered-put}
use Rattle.office_rules.specs.Acts.{CanBeMade}
use Rattle.office_rules.specs.Sound.{IsSoundOffice}
use Rattle.office_rules.specs.State.{Office}
use Rattle.office_rules.specs.Writes.{AllFollow, CanFollow, CanPut, CanWrite, RefIsFree, RefsAreFree, all_office_writes, write_office}
use Rattle.office_rules.specs.declared.change.Change.{Change}
use Rattle.office_rules.specs.declared.rows.RowWrite.{RowWrite}
use Rattle.office_rules.specs.declared.rows.RowWrite.TheVariants as row_write

-- what a list with one put in has under another number is what it had
put_at_other : {A : Type 0} (xs : List A) (i j : ℕ) (x y : A) → i ≢ j → numbered xs (suc j) ≡ Some y → numbered (put_at xs i x) (suc j) ≡ Some y
put_at_other [] i j x y apart there = absurd cc
put_at_other (z ∷ zs) zero zero x y apart there = absurd (apart refl)
put_at_other (z ∷ zs) zero (suc j) x y apart there = there
put_at_other (z ∷ zs) (suc i) zero x y apart there = there
put_at_other (z ∷ zs) (suc i) (suc j) x y apart there = put_at_other zs i j x y (λ same. apart (ap suc same)) there

put_other : {A : Type 0} (xs : List A) (n m : ℕ) (x y : A) → n ≢ m → numbered xs m ≡ Some y → numbered (put xs n x) m ≡ Some y
put_other xs zero m x y apart there = there
put_other xs (suc i) zero x y apart there = absurd cc
put_other xs (suc i) (suc j) x y apart there = put_at_other xs i j x y (λ same. apart (ap suc same)) there

same_or_apart : (n m : ℕ) → (n ≡ m) ⊎ (n ≢ m)
same_or_apart zero zero = inl refl
same_or_apart zero (suc m) = inr (λ e. absurd cc)
same_or_apart (suc n) zero = inr (λ e. absurd cc)
same_or_apart (suc n) (suc m) = rest (same_or_apart n m)
  where
    rest : (n ≡ m) ⊎ (n ≢ m) → (suc n ≡ suc m) ⊎ (suc n ≢ suc m)
    rest (inl same) = inl (ap suc same)
    rest (inr apart) = inr (λ e. apart cc)

module _ {A : Type 0} (name : A → List ℕ) where
  -- where all differ with one put in, no other had its name
  none_other : (xs : List A) (n : ℕ) (x : A) → Differ name (put xs n x) → 0 < n → n ≤ length xs + 1 → (m : ℕ) (y : A) → numbered xs m ≡ Some y → name y ≡ name x → m ≡ n
  none_other xs n x differ low high m y there same = or (same_or_apart n m)
    where
      or : (n ≡ m) ⊎ (n ≢ m) → m ≡ n
      or (inl e) = sym e
      or (inr apart) = differ m n y x (put_other xs n m x y apart there) (numbered-put xs n x low high) same

  -- under the name that it had before, all differed before
  differed : (xs : List A) (n : ℕ) (x old : A) → Differ name (put xs n x) → 0 < n → n ≤ length xs → numbered xs n ≡ Some old → name old ≡ name x → Differ name xs
  differed xs n x old differ low high there named k m y z at_k at_m same =
      let k_now = now k y at_k in
      let m_now = now m z at_m in
      differ k m k_now.0 m_now.0 k_now.1 m_now.1 (k_now.2 ∙ same ∙ sym m_now.2)
    where
      now : (m : ℕ) (y : A) → numbered xs m ≡ Some y → (z : A) × (numbered (put xs n x) m ≡ Some z) × (name z ≡ name y)
      now m y at = or (same_or_apart n m)
        where
          or : (n ≡ m) ⊎ (n ≢ m) → (z : A) × (numbered (put xs n x) m ≡ Some z) × (name z ≡ name y)
          or (inr apart) = (y, put_other xs n m x y apart at, refl)
          or (inl e) =
              let has : numbered (put xs n x) m ≡ Some x = ap (numbered (put xs n x)) (sym e) ∙ numbered-put xs n x low (omega (arith, high)) in
              let is : old ≡ y = let both = sym there ∙ ap (numbered xs) e ∙ at in cc in
              (x, has, sym named ∙ ap name is)

abbrev Differs : Office → Type 0
Differs s = RefsDiffer s.tree.aggregations s.tree.records

-- a row that follows has its ref for itself, where refs differ after it, and they differed before it
free_to_follow : (s : Office) (w : RowWrite) → CanFollow s w → Differs (write_office w s) → RefIsFree s w × Differs s
free_to_follow s (row_write.Record number head status) (low, high, sound, (old, there, stays)) differ = (
  none_other (λ it. it.ref_text) s.tree.records number head differ.of_records low (omega (arith, high)),
  record { of_aggregations = differ.of_aggregations; of_records = differed (λ it. it.ref_text) s.tree.records number head old differ.of_records low high there stays.ref_text },
)
free_to_follow s (row_write.Run number run) follows differ = (tt, differ)
free_to_follow s (row_write.Content number bytes) follows differ = (tt, differ)
free_to_follow s (row_write.DeleteContent number) follows differ = (tt, differ)
free_to_follow s (row_write.Day day) follows differ = (tt, differ)
free_to_follow s w follows differ = absurd follows

all_free : (s : Office) (ws : List RowWrite) → AllFollow s ws → Differs (all_office_writes ws s) → RefsAreFree s ws × Differs s
all_free s [] follow differ = (tt, differ)
all_free s (w ∷ ws) (follows, rest) differ =
    let later = all_free (write_office w s) ws rest differ in
    let now = free_to_follow s w follows later.1 in
    ((now.0, later.0), now.1)

-- and so has the first row, where refs differ after it
free_to_put : (s : Office) (w : RowWrite) → CanPut s w → Differs (write_office w s) → RefIsFree s w
free_to_put s (row_write.Aggregation number it) (low, high, sound, keeps) differ = none_other (λ it. it.ref_text) s.tree.aggregations number it differ.of_aggregations low high
free_to_put s (row_write.Record number head status) (low, high, sound, keeps) differ = none_other (λ it. it.ref_text) s.tree.records number head differ.of_records low high
free_to_put s (row_write.Schedule code schedule) puts differ = tt
free_to_put s (row_write.Class code class) puts differ = tt
free_to_put s (row_write.Event number event) puts differ = tt
free_to_put s (row_write.Hold code hold) puts differ = tt
free_to_put s (row_write.Target hold target) puts differ = tt
free_to_put s (row_write.RemoveTarget hold target) puts differ = tt
free_to_put s (row_write.Run number run) puts differ = tt
free_to_put s (row_write.Entry entry) puts differ = tt
free_to_put s (row_write.Certificate run text) puts differ = tt
free_to_put s w puts differ = absurd puts

written_free : (s : Office) (ws : List RowWrite) → CanWrite s ws → Differs (all_office_writes ws s) → RefsAreFree s ws
written_free s [] can differ = tt
written_free s (w ∷ ws) (puts, follow) differ =
    let later = all_free (write_office w s) ws follow differ in
    (free_to_put s w puts later.1, later.0)

pub refs_free : (s : Office) (change : Change) → CanBeMade s change → RefsAreFree s change.writes.items
unfolding CanBeMade IsSoundOffice
refs_free s change (can, (contents, sound)) = written_free s change.writes.items can sound.refs
