-- The row write of the office's day: a change that leaves it out, where the day is there already, leads to the same state.
use Rattle.std.proofs.Common.{◌≡◌, ◌≤◌, Bool, true, false, [], ◌∷◌, length, ℤ, refl, sym, ◌∙◌, arith}
use Rattle.std.specs.Prelude.{if◌then◌else◌}
use Rattle.std.specs.Ordering.{int_eq}
use Rattle.std.proofs.lemmas.Bool.Decides.{Decides-int_eq}
use Rattle.office_rules.specs.State.{Office, State}
use Rattle.office_rules.specs.Writes.{AllFollow, all_writes, write}
use Rattle.office_rules.specs.declared.rows.RowWrite.TheVariants as row_write
use Rattle.office_machine.specs.DayWrites.{day_writes}

led : (b : Bool) (day : ℤ) (t : State) → (b ≡ true → t.office.day ≡ day) → all_writes (if b then [] else row_write.Day day ∷ []) t ≡ write (row_write.Day day) t
led true day t same = λ i. record t { office = record t.office { day = same refl i } }
led false day t same = refl

-- in a state of the office's day they lead to that state on the act's
pub day_led : (s : Office) (day : ℤ) (t : State) → t.office.day ≡ s.day → all_writes (day_writes s day) t ≡ write (row_write.Day day) t
day_led s day t stays = led (int_eq day s.day) day t (λ e. stays ∙ sym ((Decides-int_eq day s.day).0 e))

follow : (b : Bool) (u : Office) (day : ℤ) → AllFollow u (if b then [] else row_write.Day day ∷ [])
follow true u day = tt
follow false u day = (tt, tt)

-- they can be done at any time
pub days_follow : (s u : Office) (day : ℤ) → AllFollow u (day_writes s day)
days_follow s u day = follow (int_eq day s.day) u day

few : (b : Bool) (day : ℤ) → length (if b then [] else row_write.Day day ∷ []) ≤ 1
few true day = omega arith
few false day = omega arith

-- at most one
pub few_days : (s : Office) (day : ℤ) → length (day_writes s day) ≤ 1
few_days s day = few (int_eq day s.day) day
