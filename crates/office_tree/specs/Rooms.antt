-- Room for one row more, so that a push needs no memory. Source: own.
use Rattle.std.specs.Prelude.{◌<◌, vec_capacity, vec_len}
use Rattle.std.specs.Global.{Vec}

-- there is room for one row more
abbrev pub HasRoom : {A : Type 0} → Vec A → Type 0
HasRoom rows = vec_len rows < vec_capacity rows
