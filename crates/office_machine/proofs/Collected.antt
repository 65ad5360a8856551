-- What an office under construction keeps true as rows come.
use Rattle.std.proofs.Common.{◌≡◌, ◌≢◌, ℕ, List, [], ◌∷◌, ◌++◌, map, Option, refl, sym, ap, ◌∙◌}
use Rattle.std.specs.Cmp.Lexicographic.{nat_list_cmp_total}
use Rattle.std.specs.FinMap.{empty, get, get-empty}
use Rattle.std.specs.List.{list_any}
use Rattle.std.specs.List.Sorted.{IsStrictlySortedBy}
use Rattle.std.proofs.lemmas.List.{map-append}
use Rattle.office_base.proofs.Maps.{entries_of_ordered}
use Rattle.office_records.specs.Lists.{is_some_and}
use Rattle.office_records.specs.Tree.{code_cmp}
use Rattle.office_records.specs.declared.head.Record.{Record}
use Rattle.office_records.specs.declared.status.Status.{Status}
use Rattle.office_rules.specs.HoldLoading.{AreRowsOf, hold_rows, is_pair}
use Rattle.office_rules.specs.Holds.{HoldMap, HoldState, has_target}
use Rattle.office_rules.specs.HoldRows.{hold_row}
use Rattle.office_records.specs.declared.target.Target.{Target}
use Rattle.office_rules.specs.declared.entry.Entry.{Entry}
use Rattle.office_rules.specs.Loading.{entry_rows}
use Rattle.office_machine.specs.Collected.{AreCollected}

-- which targets the holds have
abbrev HaveTargets : HoldMap → List (List ℕ × Target) → Type 0
HaveTargets holds targets = (code : List ℕ) (target : Target) → list_any (λ e. is_pair e.0 e.1 code target) targets ≡ is_some_and (get holds code) (λ hold. has_target hold target)

-- the rows of holds are their own
pub own_rows : (holds : HoldMap) (targets : List (List ℕ × Target)) → HaveTargets holds targets → AreRowsOf (hold_rows holds) targets holds
own_rows holds targets represent = record { columns = refl; targets_exist = represent }

pub with_holds : (heads : List Record) (statuses : List Status) (holds after : HoldMap) (targets reported : List (List ℕ × Target)) (es : List ((ℕ × ℕ) × Entry)) → AreCollected heads statuses holds targets es → HaveTargets after reported
    → AreCollected heads statuses after reported es
with_holds heads statuses holds after targets reported es are represent = record { long = are.long; targets_exist = represent; keyed = are.keyed }

pub not_empty : {A : Type 0} (xs : List A) (x : A) → xs ++ x ∷ [] ≢ []
not_empty [] x e = absurd cc
not_empty (y ∷ xs) x e = absurd cc

entry_rows-push : (es : List ((ℕ × ℕ) × Entry)) (e : Entry) → entry_rows (map (λ x. x.1) es) ≡ es → entry_rows (map (λ x. x.1) (es ++ ((e.run, e.record_no), e) ∷ [])) ≡ es ++ ((e.run, e.record_no), e) ∷ []
entry_rows-push es e keyed =
    ap entry_rows (map-append (λ x. x.1) es (((e.run, e.record_no), e) ∷ []))
    ∙ map-append (λ x. ((x.run, x.record_no), x)) (map (λ x. x.1) es) (e ∷ [])
    ∙ ap (λ prefix. prefix ++ ((e.run, e.record_no), e) ∷ []) keyed

-- one more entry under its run and record
pub with_entry : (heads : List Record) (statuses : List Status) (holds : HoldMap) (targets : List (List ℕ × Target)) (es : List ((ℕ × ℕ) × Entry)) (e : Entry) → AreCollected heads statuses holds targets es
    → AreCollected heads statuses holds targets (es ++ ((e.run, e.record_no), e) ∷ [])
with_entry heads statuses holds targets es e are = record { long = are.long; targets_exist = are.targets_exist; keyed = entry_rows-push es e are.keyed }

-- ---- no row has come

pub nothing_collected : AreCollected [] [] empty [] []
nothing_collected = record {
  long = refl;
  targets_exist = λ code target. sym (ap (λ (o : Option HoldState). is_some_and o (λ hold. has_target hold target)) (get-empty {X = HoldState} code_cmp code));
  keyed = refl;
}

pub no_hold_rows : hold_rows empty ≡ []
unfolding IsStrictlySortedBy
no_hold_rows = ap (map (λ (e : List ℕ × HoldState). (e.0, hold_row e.1))) (entries_of_ordered code_cmp nat_list_cmp_total [] tt)
