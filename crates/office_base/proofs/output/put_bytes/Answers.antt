use Rattle.std.proofs.Common.{◌≡◌, ◌∙◌, ap, drop, subst, sym, ℕ, List, Bor}
use Rattle.std.proofs.lemmas.Bool.{eqb-true}
use Rattle.std.proofs.lemmas.List.{nil_from_length}
use Rattle.office_base.proofs.Written.{IsPut, all_put, kept_put, left_of, more_put, none_put, some_put}
use Rattle.office_base.proofs.output.put_bytes.Goals as goal
use Rattle.office_base.proofs.output.put_bytes.Goals.{in-Ok, in-Err+else-not-is_interrupted}

pub loop-init : goal.loop-init
loop-init g c = none_put _ _

pub returns-then-is_empty-clause-ok : goal.returns-then-is_empty-clause-ok
returns-then-is_empty-clause-ok g c = all_put _ _ _ _ (nil_from_length _ (eqb-true _ _ (sym c.if-is_empty.ensures))) c.loop.invariant

pub returns-in-Ok-eq0-clause-err : goal.returns-in-Ok-eq0-clause-err
returns-in-Ok-eq0-clause-err g c = some_put _ _ _ _ (more_put _ _ _ _ _ 0 c.loop.invariant (rw c.in-Ok-eq0.field-0-test at c.in-Ok-eq0.ensures.bytes))

pub returns-then-not-is_interrupted-clause-err : goal.returns-then-not-is_interrupted-clause-err
returns-then-not-is_interrupted-clause-err g c = some_put _ _ _ _ (kept_put _ _ _ _ _ c.loop.invariant c.in-Err.ensures.bytes)

pub returns-clause-err : goal.returns-clause-err
returns-clause-err g c = some_put _ _ _ _ c.loop.invariant

pub loop-preserved : goal.loop-preserved
loop-preserved g c =
    elim c.match-write.branch [
      | in-Ok w ↦
          let same : c.match-write.rest.now ≡ drop w.in-Ok.count c.loop.rest.now = ap (λ (r : Bor (List ℕ)). r.now) w.rest-is ∙ left_of w.in-Ok.count c.loop.rest.now in
          subst (λ (x : List ℕ). IsPut (g.W.Write.contents c.args.out.now) (g.W.Write.contents c.write.new.self) c.args.bytes.now x) (sym same)
          (more_put _ _ _ _ _ w.in-Ok.count c.loop.invariant w.in-Ok.ensures.bytes)
      | in-Err+else-not-is_interrupted w ↦ rw w.rest-is (kept_put _ _ _ _ _ c.loop.invariant w.in-Err.ensures.bytes)
    ]
