use Rattle.std.proofs.Common.{◌∙◌, ◌++◌, ◌∷◌, [], List, Option, Result, Ok, Err, ℕ, append-nil, subst}
use Rattle.std.specs.Prelude.{OnOk, codes}
use Rattle.std.specs.Io.KnownBytes.{Appends, Keeps}
use Rattle.office_base.specs.Output.{AppendsSome}
use Rattle.office_base.proofs.Written.{appends_both, appends_none, kept_some, on_err}
use Rattle.office_commands.proofs.command.report_listening.Goals as goal

-- the line whose number has these digits
abbrev line_with : List ℕ → List ℕ
line_with digits = codes "listening 127.0.0.1:" ++ digits ++ 10 ∷ []

on_ok : {T E P : Type 0} (r : Result T E) → P → OnOk r P
on_ok (Ok x) p = p
on_ok (Err e) p = tt

-- a flush adds nothing
sent : (old mid new : Option (List ℕ)) (line : List ℕ) → Appends old mid line → Keeps mid new → Appends old new line
sent old mid new line all kept = subst (Appends old new) (append-nil line) (appends_both old mid new line [] all (appends_none mid new kept))

pub returns-in_err-put_parts-clause-err : goal.returns-in_err-put_parts-clause-err
returns-in_err-put_parts-clause-err g c =
    let same = c.as_bytes.ensures.value ∙ c.format.ensures.text in
    on_err _ (subst (λ (digits : List ℕ). AppendsSome (g.W.Write.contents c.args.out.now) (g.W.Write.contents c.put_parts.new.out) (line_with digits)) same c.in_err-put_parts.ensures.err)

pub returns-clause-ok : goal.returns-clause-ok
returns-clause-ok g c =
    let same = c.as_bytes.ensures.value ∙ c.format.ensures.text in
    on_ok _ (sent _ _ _ _ (subst (λ (digits : List ℕ). Appends (g.W.Write.contents c.args.out.now) (g.W.Write.contents c.put_parts.new.out) (line_with digits)) same c.in_ok-put_parts.ensures.ok) c.flush.ensures.bytes)

pub returns-clause-err : goal.returns-clause-err
returns-clause-err g c =
    let same = c.as_bytes.ensures.value ∙ c.format.ensures.text in
    on_err _ (kept_some _ _ _ _ (subst (λ (digits : List ℕ). Appends (g.W.Write.contents c.args.out.now) (g.W.Write.contents c.put_parts.new.out) (line_with digits)) same c.in_ok-put_parts.ensures.ok) c.flush.ensures.bytes)
