use Rattle.std.proofs.Common.{◌≡◌, ◌∙◌, inl, inr, Bool, true, false, ◌||◌, not, IsTrue, refl, sym, ap}
use Rattle.sqlite_store.specs.FileStore.{view}
use Rattle.sqlite_trees.specs.View.{View}
use Rattle.office_life.proofs.LeftTables.{never_dirty}
use Rattle.office_life.proofs.closing.copy.Goals as goal

-- what is neither broken nor failed is open
open_if_whole : (failed is_open : Bool) → (failed || not is_open) ≡ false → IsTrue is_open
open_if_whole failed true whole = refl
open_if_whole true false whole = cc
open_if_whole false false whole = cc

closed_if_broken : (is_open : Bool) → (IsTrue is_open → ⊥) → is_open ≡ false
closed_if_broken true never = absurd (never refl)
closed_if_broken false never = refl

is_shut : (is_open : Bool) → is_open ≡ false → IsTrue is_open → ⊥
is_shut is_open shut on = cc

broken_if_not : (b : Bool) → not b ≡ false → b ≡ true
broken_if_not true is = refl
broken_if_not false is = cc

whole_if_not : (b : Bool) → IsTrue (not b) → b ≡ false
whole_if_not true is = cc
whole_if_not false is = refl

pub returns-in-Err-clause-shut : goal.returns-in-Err-clause-shut
returns-in-Err-clause-shut g c never is =
    let was = c.args.store.now in
    let last = c.checkpoint.new.self in
    let clean = never_dirty never last in
    let whole : (view was).is_broken ≡ false = sym (c.is_broken.ensures.shown (never_dirty never was)) ∙ c.if-is_broken.false in
    let broken : (view last).is_broken ≡ true = sym (c.is_broken-in-Err.ensures.shown clean) ∙ broken_if_not _ is in
    let was_open = open_if_whole was.has_failed (view was).is_open whole in
    let shut : (view last).is_open ≡ false = closed_if_broken (view last).is_open (λ on. let same = ap (λ (v : View). v.is_broken) (c.checkpoint.ensures.same on) in let no : true ≡ false = sym broken ∙ same ∙ whole in cc) in
    record {
      was_open = was_open;
      shut = shut;
      failed = elim (c.checkpoint.ensures.quiet.closes clean was_open) [ inl on ↦ absurd (is_shut (view last).is_open shut on) | inr more ↦ more ];
    }

pub returns-in-Ok-clause-numbered : goal.returns-in-Ok-clause-numbered
returns-in-Ok-clause-numbered g c never held numbered =
    let on = c.in-Ok.ensures.open (never_dirty never c.checkpoint.new.self) in
    ap (λ (v : View). v.is_numbered) (c.checkpoint.ensures.same on) ∙ numbered

pub returns-in-Err-clause-numbered : goal.returns-in-Err-clause-numbered
returns-in-Err-clause-numbered g c never held numbered =
    let last = c.checkpoint.new.self in
    let whole : (view last).is_broken ≡ false = sym (c.is_broken-in-Err.ensures.shown (never_dirty never last)) ∙ whole_if_not _ held in
    ap (λ (v : View). v.is_numbered) (c.checkpoint.ensures.same (open_if_whole last.has_failed (view last).is_open whole)) ∙ numbered
