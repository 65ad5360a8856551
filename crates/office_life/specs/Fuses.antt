-- What a `Fuses` shows. Source: own.
use Rattle.std.specs.Prelude.{ℕ}
use Rattle.office_life.specs.declared.fuses.Fuses.{Fuses}

-- the disk that it passes calls on to
abbrev pub inner_of : {D : Type 0} → Fuses D → D
inner_of f = f.inner

-- how many calls it passes on before the next crash
abbrev pub calls_left : {D : Type 0} → Fuses D → ℕ
calls_left f = f.calls_left
