-- What holds whatever a call answered.
use Rattle.std.proofs.Common.{Result, Ok, Err, OnOk}

pub on_ok : {T E P : Type 0} (r : Result T E) → P → OnOk r P
on_ok (Ok x) p = p
on_ok (Err e) p = tt
