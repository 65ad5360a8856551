-- What a head fixes. Source: own.
use Rattle.std.specs.Prelude.{◌≡◌, ◌≢◌, ◌<◌, ℕ, ◌+◌, List, [], ◌∷◌, ◌++◌, length}
use Rattle.std.specs.List.{All}
use Rattle.sha2.specs.Sha256.{sha256}
use Rattle.office_journal.specs.declared.head.Head.{Head}
use Rattle.office_journal.specs.Lines.{head_after, opening}

-- a line of these bytes comes right after that of a head: it begins with the digest and with the next number
abbrev pub Follows : Head → List ℕ → Type 0
Follows head bytes = (text : List ℕ) × (bytes ≡ opening head.digest (head.line + 1) ++ text)

-- lines, each right after the one before, lead from a head to another
abbrev pub LeadTo : Head → List (List ℕ) → Head → Type 0
LeadTo head [] last = head ≡ last
LeadTo head (bytes ∷ rest) last = Follows head bytes × LeadTo (head_after head bytes) rest last

-- a SHA-256 has 32 bytes
abbrev pub IsDigest : List ℕ → Type 0
IsDigest digest = (length digest ≡ 32) × All (λ b. b < 256) digest

-- two texts with one SHA-256
pub record Collision : Type 0 where
  pub one : List ℕ
  pub other : List ℕ
  pub differ : one ≢ other
  pub same : sha256 one ≡ sha256 other
