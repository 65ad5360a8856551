-- What the tests of events report of them, and back.
use Rattle.std.proofs.Common.{◌≡◌, ◌≤◌, ◌<◌, ◌≤ℤ◌, ℕ, ℤ, Bool, true, false, List, Some, ◌∙◌, arith, refl}
use Rattle.std.specs.Prelude.{◌&&◌, int_le, nat_le}
use Rattle.std.specs.Cmp.{nat_cmp_total}
use Rattle.std.specs.FinMap.{from_entries, get}
use Rattle.std.specs.List.{All, Contains}
use Rattle.std.specs.List.Sorted.{IsStrictlySortedBy}
use Rattle.std.specs.Map.{keys_of}
use Rattle.std.specs.Cmp.{eq_by_cmp_equiv}
use Rattle.std.specs.Ordering.{nat_cmp}
use Rattle.std.proofs.lemmas.Bool.Decides.{nat_tests}
use Rattle.std.proofs.lemmas.Int.{ints}
use Rattle.std.proofs.lemmas.List.Elements.{All-contains_itself, All-weaker}
use Rattle.std.proofs.lemmas.Map.Keys.{IsDistinct-from_sorted}
use Rattle.std.proofs.lemmas.Map.Views.{lookup-from_Contains}
use Rattle.office_records.specs.Examined.{is_sound_event}
use Rattle.office_records.specs.Sound.{AreEventsSound}
use Rattle.office_records.specs.declared.event.Event.{Event}
use Rattle.office_tree.proofs.EachWellFormed.{each_event}
use Rattle.office_tree.proofs.EventPlaces.{event_is}

-- an event that passes is one of a record that is there, and not ahead
passes : (count : ℕ) (last : ℤ) (r : ℕ) (it : Event) → is_sound_event count last r it ≡ true → ((0 < r) × (r ≤ count)) × ((it.occurred ≤ℤ it.day) × (it.day ≤ℤ last))
passes count last r it e = tests (nat_le 1 r) (nat_le r count) (int_le it.occurred it.day) (int_le it.day last) refl refl refl refl e
  where
    tests : (a b c d : Bool) → nat_le 1 r ≡ a → nat_le r count ≡ b → int_le it.occurred it.day ≡ c → int_le it.day last ≡ d → (a && b && c && d) ≡ true → ((0 < r) × (r ≤ count)) × ((it.occurred ≤ℤ it.day) × (it.day ≤ℤ last))
    tests true true true true ea eb ec ed e = ((grind (arith, nat_tests), grind (arith, nat_tests)), (omega (arith, ints, ec), omega (arith, ints, ed)))
    tests true true true false ea eb ec ed e = absurd cc
    tests true true false d ea eb ec ed e = absurd cc
    tests true false c d ea eb ec ed e = absurd cc
    tests false b c d ea eb ec ed e = absurd cc

pub events_sound : (es : List (ℕ × Event)) (count : ℕ) (last : ℤ) → All (λ e. is_sound_event count last e.0 e.1 ≡ true) es → AreEventsSound (from_entries es) count last
events_sound es count last all = record {
  of_records = λ r it found. (passes count last r it (each_event (λ r it. is_sound_event count last r it ≡ true) es all r it found)).0;
  not_ahead = λ r it found. (passes count last r it (each_event (λ r it. is_sound_event count last r it ≡ true) es all r it found)).1;
}

-- and one of a record that is there, and not ahead, passes
sound_passes : (count : ℕ) (last : ℤ) (r : ℕ) (it : Event) → (0 < r) × (r ≤ count) → (it.occurred ≤ℤ it.day) × (it.day ≤ℤ last) → is_sound_event count last r it ≡ true
sound_passes count last r it there ahead = grind (arith, ints, nat_tests)

pub events_tested : (es : List (ℕ × Event)) (count : ℕ) (last : ℤ) → IsStrictlySortedBy nat_cmp (keys_of es) → AreEventsSound (from_entries es) count last → All (λ e. is_sound_event count last e.0 e.1 ≡ true) es
events_tested es count last ordered sound =
    All-weaker (Contains es) (λ (e : ℕ × Event). is_sound_event count last e.0 e.1 ≡ true)
    (λ (e : ℕ × Event) (at : Contains es e).
    let found : get (from_entries {R = nat_cmp} es) e.0 ≡ Some e.1 = event_is es e.0 ∙ lookup-from_Contains (eq_by_cmp_equiv nat_cmp_total) e.0 e.1 es (IsDistinct-from_sorted nat_cmp (keys_of es) ordered) at in
    sound_passes count last e.0 e.1 (sound.of_records e.0 e.1 found) (sound.not_ahead e.0 e.1 found))
    es (All-contains_itself es)
