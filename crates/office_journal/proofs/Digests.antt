-- A SHA-256 digest has 32 bytes.
use Rattle.std.proofs.Common.{◌≡◌, ℕ, zero, suc, ◌*◌, ◌/◌, ◌%◌, ◌^◌, ◌<◌, List, length, refl, arith, length-append}
use Rattle.std.specs.Prelude.{slice_index}
use Rattle.std.specs.List.{All}
use Rattle.std.specs.Int.{w32, to_be_bytes, bytes_high_first, byte_at}
use Rattle.std.proofs.lemmas.List.Elements.{All-nil, All-cons, All-append}
use Rattle.office_journal.specs.Chain.{IsDigest}
use Rattle.sha2.specs.Sha256.{digest_bytes, final_hash, initial_hash_256, sha256}

digest_length : (h : List ℕ) (n : ℕ) → length (digest_bytes h n) ≡ n * 4
unfolding digest_bytes
digest_length h zero = refl
digest_length h (suc n) =
    let before = digest_length h n in
    let both = length-append (digest_bytes h n) (to_be_bytes w32 (slice_index h n)) in
    let four : length (to_be_bytes w32 (slice_index h n)) ≡ 4 = refl in
    omega (arith, before, both, four)

low_byte : (n : ℕ) → n % 256 < 256
low_byte n = omega arith

byte_small : (i n : ℕ) → byte_at i n < 256
byte_small zero n = low_byte n
byte_small (suc i) n = low_byte (n / 256 ^ suc i)

bytes_small : (k n : ℕ) → All (λ b. b < 256) (bytes_high_first k n)
bytes_small zero n = All-nil (λ b. b < 256)
bytes_small (suc k) n = All-cons (λ b. b < 256) (byte_at k n) (bytes_high_first k n) (byte_small k n) (bytes_small k n)

digest_small : (h : List ℕ) (n : ℕ) → All (λ b. b < 256) (digest_bytes h n)
unfolding digest_bytes
digest_small h zero = All-nil (λ b. b < 256)
digest_small h (suc n) = All-append (λ b. b < 256) (digest_bytes h n) (to_be_bytes w32 (slice_index h n)) (digest_small h n) (bytes_small 4 (slice_index h n))

pub IsDigest-sha256 : (m : List ℕ) → IsDigest (sha256 m)
unfolding sha256
IsDigest-sha256 m = let h = final_hash initial_hash_256 m in (digest_length h 8, digest_small h 8)
