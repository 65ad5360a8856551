-- Where connections come from: what is known of them. Source: own.
use Rattle.std.specs.Prelude.{◌≡◌, ℕ, List, [], ◌∷◌, ◌++◌, IfSome, MatchResult, Option, Some, Result}
use Rattle.office_base.specs.declared.output.Io.{Io}

-- what went out on a connection, and the status of the answer
pub record Sent : Type 0 where
  pub bytes : List ℕ
  pub status : Result ℕ Io

-- what a source reports of its connections: all bytes of each that is to come, and what went out on each that came
pub record Traffic : Type 0 where
  pub coming : List (List ℕ)
  pub sent : List Sent

-- the next connection came: what is read of it are all its bytes, and nothing was written to it
abbrev pub IsAccepted : Traffic → Option (List ℕ) → Option (List ℕ) → Option Traffic → Type 0
IsAccepted traffic bytes written after =
    (first : List ℕ) × (rest : List (List ℕ)) × (traffic.coming ≡ first ∷ rest) × (bytes ≡ Some first)
    × (written ≡ Some []) × (after ≡ Some (record { coming = rest; sent = traffic.sent }))

-- a connection was awaited; at an error none came, since none is to come
abbrev pub Accepts : {R W : Type 0} → (R → Option (List ℕ)) → (W → Option (List ℕ)) → Result (R × W) Io → Option Traffic
    → Option Traffic → Type 0
Accepts all written accepted before after =
    IfSome before
    (λ traffic. MatchResult accepted
    (λ sides. IsAccepted traffic (all sides.0) (written sides.1) after)
    (λ e. (traffic.coming ≡ []) × (after ≡ Some traffic)))

-- a connection was closed, and what went out on it is known
abbrev pub Closes : Option (List ℕ) → Result ℕ Io → Result ℕ Io → Option Traffic → Option Traffic → Type 0
Closes written served closed before after =
    IfSome before
    (λ traffic. (closed ≡ served)
    × IfSome written
    (λ bytes. after ≡ Some (record {
      coming = traffic.coming;
      sent = traffic.sent ++ record { bytes = bytes; status = served } ∷ [];
    })))
