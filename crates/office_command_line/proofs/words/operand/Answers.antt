use Rattle.std.proofs.Common.{◌≡◌, ◌∙◌, ap, List, [], ℕ, Option, Some, None, option_map, unwrap_or, refl, Bor}
use Rattle.clap.specs.Words.{found_of}
use Rattle.clap.proofs.WalkLemmas.{first_value-rows}
use Rattle.office_command_line.proofs.words.operand.Goals as goal

now_unwrap : (o : Option (Bor (List ℕ))) (d : Bor (List ℕ)) → (unwrap_or o d).now ≡ unwrap_or (option_map (λ s. s.now) o) d.now
now_unwrap None d = refl
now_unwrap (Some x) d = refl

pub returns : goal.returns
returns c = rw c.unwrap_or.ensures (now_unwrap c.get_str.result _ ∙ ap (λ (o : Option (List ℕ)). unwrap_or o []) (c.get_str.ensures ∙ first_value-rows (found_of c.args.matches.now) c.args.name.now))
