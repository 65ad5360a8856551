-- The bytes of a line that are read so far, and the rest of them.
use Rattle.std.proofs.Common.{◌≡◌, ◌≢◌, ◌∙◌, ◌+◌, ◌<◌, ◌≤◌, ◌==◌, ℕ, List, ◌∷◌, length, get_or, drop, cond, true, false, Bool, sym, ap, arith, add-one, drop-cons}
use Rattle.office_journal.specs.Journals.{after_byte, closes, open_once}
use Rattle.office_journal.specs.declared.nesting.Nesting.{Nesting}

-- braces and quotes stand so after i bytes
pub record AreScanned (bytes : List ℕ) (n : Nesting) (i : ℕ) : Type 0 where
  pub depth : n.depth ≤ i + 1
  pub rest : closes n (drop i bytes) ≡ closes open_once bytes

rest_at : (bytes : List ℕ) (i b : ℕ) → i < length bytes → b ≡ get_or bytes i 0 → drop i bytes ≡ b ∷ drop (i + 1) bytes
rest_at bytes i b low at = rw (at, add-one i) (drop-cons bytes i 0 low)

step : (n : Nesting) (b : ℕ) (rest : List ℕ) (depth : Bool) → ((after_byte n b).depth == 0) ≡ depth
    → closes n (b ∷ rest) ≡ cond depth (length rest == 0) (closes (after_byte n b) rest)
step n b rest depth e = ap (λ d. cond d (length rest == 0) (closes (after_byte n b) rest)) e

-- one byte more, after which braces are open
pub scanned_more : (bytes : List ℕ) (n m : Nesting) (i b : ℕ) → i < length bytes → b ≡ get_or bytes i 0 → m ≡ after_byte n b
    → m.depth ≤ n.depth + 1 → m.depth ≢ 0 → AreScanned bytes n i → AreScanned bytes m (i + 1)
scanned_more bytes n m i b low at is below more done = record {
  depth = let before = done.depth in omega (arith, before, below);
  rest =
      let off : ((after_byte n b).depth == 0) ≡ false = rw (← is) (not_zero m.depth more) in
      ap (λ k. closes k (drop (i + 1) bytes)) is
      ∙ sym (step n b (drop (i + 1) bytes) false off)
      ∙ ap (closes n) (sym (rest_at bytes i b low at))
      ∙ done.rest;
}
  where
    not_zero : (d : ℕ) → d ≢ 0 → (d == 0) ≡ false
    not_zero d h = grind arith

-- the byte after which none is
pub scanned_last : (bytes : List ℕ) (n m : Nesting) (i b : ℕ) → i < length bytes → b ≡ get_or bytes i 0 → m ≡ after_byte n b
    → m.depth ≡ 0 → AreScanned bytes n i → closes open_once bytes ≡ (length (drop (i + 1) bytes) == 0)
scanned_last bytes n m i b low at is shut done =
    let on : ((after_byte n b).depth == 0) ≡ true = ap (λ (k : Nesting). k.depth == 0) (sym is) ∙ ap (λ d. d == 0) shut in
    sym done.rest ∙ ap (closes n) (rest_at bytes i b low at) ∙ step n b (drop (i + 1) bytes) true on
