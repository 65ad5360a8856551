-- The settings in force at a gate. Source: docs/ACCESS.md, "The settings".
use Rattle.std.specs.Prelude.{◌≡◌, ◌⊎◌, List, [], ◌∷◌, ◌++◌, ℕ, false, true, Bool, IfSome, Option, Some, Result, Ok, Err}
use Rattle.office_access.specs.Settings.{Settings}
use Rattle.office_base.specs.declared.stop.Stop.{Stop}
use Rattle.office_base.specs.declared.stop.Stop.TheVariants as stop
use Rattle.office_gate.specs.declared.access.Access.{Access}
use Rattle.office_gate.specs.declared.access.AccessError.{AccessError}
use Rattle.office_gate.specs.declared.access.AccessError.TheVariants as error
use Rattle.office_policy.specs.Readings.{IsReading}
use Rattle.office_policy.specs.declared.settings.Settings.{Settings as FileSettings}
use Rattle.office_settings.specs.Files.{entries_of, lines_in}

-- a text is a file of settings, and this is the policy that they have
pub record IsPolicyIn (text : List ℕ) (policy : Settings) : Type 0 where
  pub settings : FileSettings
  pub read : IsReading (Ok settings) (entries_of (lines_in text))
  pub has : policy ≡ settings.policy

abbrev pub error_of_stop : Stop → AccessError
error_of_stop stop.Io = error.Io
error_of_stop stop.Memory = error.Memory

-- why a text that was read is not taken over: memory was refused, or the text is no file of settings, for this reason
abbrev pub IsRefused : List ℕ → AccessError → Type 0
IsRefused text error.Io = ⊥
IsRefused text error.Memory = Unit {0}
IsRefused text (error.Wrong fault) = IsReading (Err fault) (entries_of (lines_in text))

-- of a source that reports its readings, it is known that there was one more
abbrev pub AddsReading : Option (List (Result (List ℕ) Stop)) → Option (List (Result (List ℕ) Stop)) → Result (List ℕ) Stop
    → Type 0
AddsReading before after it = IfSome before (λ readings. after ≡ Some (readings ++ it ∷ []))

-- The settings after a text was read anew. Those of another text are in force, for the same proxy; or the text is the same
-- one, or is not taken over, and the settings and the proxy are those of before.
abbrev pub AreInForce : {T : Type 0} → Result Bool AccessError → (old new : Access T) → Type 0
AreInForce (Ok true) old new = IsPolicyIn new.seen.items new.gate.policy × (new.gate.token ≡ old.gate.token)
AreInForce (Ok false) old new = (new.seen ≡ old.seen) × (new.gate ≡ old.gate)
AreInForce (Err error.Io) old new = (new.seen ≡ old.seen) × (new.gate ≡ old.gate)
AreInForce (Err error.Memory) old new = new.gate ≡ old.gate
AreInForce (Err (error.Wrong fault)) old new = IsRefused new.seen.items (error.Wrong fault) × (new.gate ≡ old.gate)

-- which reading leads to that
abbrev pub IsTakenOver : {T : Type 0} → Result (List ℕ) Stop → Result Bool AccessError → (old new : Access T) → Type 0
IsTakenOver (Ok text) (Ok true) old new = new.seen.items ≡ text
IsTakenOver (Ok text) (Ok false) old new = old.seen.items ≡ text
IsTakenOver (Ok text) (Err error.Io) old new = ⊥
IsTakenOver (Ok text) (Err error.Memory) old new = Unit {0}
IsTakenOver (Ok text) (Err (error.Wrong fault)) old new = new.seen.items ≡ text
IsTakenOver (Err stop) (Ok renewed) old new = ⊥
IsTakenOver (Err stop) (Err e) old new = e ≡ error_of_stop stop

-- the text was read anew, once; of a source that reports its readings, it is known what came
pub record Renews {T : Type 0} (readings : T → Option (List (Result (List ℕ) Stop))) (result : Result Bool AccessError)
    (old new : Access T) : Type 0 where
  pub read : (it : Result (List ℕ) Stop) × AddsReading (readings old.source) (readings new.source) it
      × IsTakenOver it result old new
  pub in_force : AreInForce result old new

-- settings in force: those of the first moment, or those of a text that was read since
abbrev pub IsInForceSince : Settings → Settings → Type 0
IsInForceSince first settings = (settings ≡ first) ⊎ ((text : List ℕ) × IsPolicyIn text settings)
