-- Numbers under keys, where the number of a key that is not there is 0. Source: own.
use Rattle.std.specs.Prelude.{◌≡◌, ◌+◌, ◌-◌, ℕ, Bool, if◌then◌else◌}
use Rattle.std.specs.declared.cmp.Ordering.{Ordering}
use Rattle.std.specs.BTreeMap.{BTreeMap, get}
use Rattle.std.specs.Map.{count_at}

abbrev pub number_at : {K : Type 0} → (K → K → Ordering) → BTreeMap K ℕ → K → ℕ
number_at cmp numbers key = count_at (get cmp numbers) key

abbrev pub one_if : Bool → ℕ
one_if b = if b then 1 else 0

-- the numbers under these keys are one more, and every other stays
abbrev pub AreOneMore : {K : Type 0} → (K → K → Ordering) → BTreeMap K ℕ → BTreeMap K ℕ → (K → Bool) → Type 0
AreOneMore {K} cmp old new these = (key : K) → number_at cmp new key ≡ number_at cmp old key + one_if (these key)

-- the numbers under these keys are one less, if they were not 0, and every other stays
abbrev pub AreOneLess : {K : Type 0} → (K → K → Ordering) → BTreeMap K ℕ → BTreeMap K ℕ → (K → Bool) → Type 0
AreOneLess {K} cmp old new these = (key : K) → number_at cmp new key ≡ number_at cmp old key - one_if (these key)
