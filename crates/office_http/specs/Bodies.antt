-- The body of a request: the bytes after its head, as many as the head says. Source: RFC 9112 section 6.2.
use Rattle.std.specs.Prelude.{◌≡◌, ℕ, ◌-◌, ◌≤◌, ◌<◌, Bool, true, false, List, ◌++◌, length, take, drop, slice_range, Option, IfSome, IsTrue}
use Rattle.std.specs.Io.KnownBytes.{Consumes}

-- whether so many bytes follow the head, and the body if they do; what comes after them is not looked at
abbrev pub IsBody : Bool → ℕ → List ℕ → List ℕ → Type 0
IsBody true size rest body = (size ≤ length rest) × (take size rest ≡ body)
IsBody false size rest body = length rest < size

-- a buffer was read on, so that a body may lie from start to end in it: whether that is whole, by what is before and
-- after in the reader
pub record ReadsBody (start end : ℕ) (whole : Bool) (old new : List ℕ) (before after : Option (List ℕ)) : Type 0 where
  pub body : IfSome before (λ left. IsBody whole (end - start) (drop start old ++ left) (slice_range new start end))
  pub long : IsTrue whole → end ≤ length new
  pub read : (piece : List ℕ) × (new ≡ old ++ piece) × Consumes before after piece
