-- How the acts of a list grow.
use Rattle.std.proofs.Common.{◌≡◌, ap, sym, refl, ℕ, List, [], ◌∷◌, ◌++◌, append_assoc, Result, Ok, Err}
use Rattle.office_rules.specs.declared.act.Act.{Act}
use Rattle.office_json.specs.Lists.{NoActs, and_act}

-- acts, with those that were read before them
abbrev pub with_prefix : List Act → Result (List Act) NoActs → Result (List Act) NoActs
with_prefix prefix (Ok acts) = Ok (prefix ++ acts)
with_prefix prefix (Err why) = Err why

abbrev ok_of : List Act → Result (List Act) NoActs
ok_of acts = Ok acts

pub one_more : (prefix : List Act) (place : ℕ) (act : Act) (rest : Result (List Act) NoActs) → with_prefix prefix (and_act place (Ok act) rest) ≡ with_prefix (prefix ++ act ∷ []) rest
one_more prefix place act (Ok acts) = ap (λ (all : List Act). ok_of all) (sym (append_assoc prefix (act ∷ []) acts))
one_more prefix place act (Err why) = refl
