-- A side of a connection: the connection itself, and when its time began, once it has. Source: own.
use Rattle.std.specs.Prelude.{Option, refl}
use Rattle.std.specs.Coded.{Coded, code_by, coded×, coded_option}
use Rattle.std.specs.contracts.time.Duration as duration
use Rattle.std.specs.declared.time.Duration.{Duration}

pub record Side (C : Type 0) : Type 0 where
  pub connection : C
  pub began : Option Duration

abbrev pub side_code : {C : Type 0} → Coded C → Coded (Side C)
side_code {C} connection =
    code_by (C × Option Duration)
    (coded× connection (coded_option duration.the_row.coded))
    (λ side. (side.connection, side.began))
    (λ p. record { connection = p.0; began = p.1 })
    (λ _. refl)
