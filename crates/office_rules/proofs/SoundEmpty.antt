-- The empty office is sound.
use Rattle.std.proofs.Common.{◌≡◌, ℕ, zero, suc, ◌≤◌, List, [], length, Some, None, refl, ap, false, arith, rules}
use Rattle.std.specs.Prelude.{IsSome}
use Rattle.std.specs.Option.{is_some}
use Rattle.std.specs.Ordering.{nat_cmp}
use Rattle.std.specs.declared.cmp.Ordering.{Ordering}
use Rattle.std.specs.FinMap.{get, empty, get-empty, len-empty}
use Rattle.office_records.specs.Lists.{numbered}
use Rattle.office_records.specs.Tree.{code_cmp, chain, chain_of}
use Rattle.office_records.specs.declared.class.Class.{Class}
use Rattle.office_records.specs.declared.schedule.Schedule.{Schedule}
use Rattle.office_rules.specs.Holds.{HoldState}
use Rattle.office_records.proofs.Refs.{RefsDiffer-empty}
use Rattle.office_rules.specs.Sound.{IsSound}
use Rattle.office_rules.specs.State.{empty_state, entry_cmp}

none_numbered : {A : Type 0} (n : ℕ) (x : A) (P : Type 0) → numbered {A = A} [] n ≡ Some x → P
none_numbered zero x P e = absurd cc
none_numbered (suc n) x P e = absurd cc

none_found : {K V : Type 0} (R : K → K → Ordering) (k : K) (x : V) (P : Type 0) → get (empty {X = V} {R = R}) k ≡ Some x → P
none_found {K} {V} R k x P e = let none : get (empty {X = V} {R = R}) k ≡ None = get-empty R k in absurd cc

none_there : {K : Type 0} (V : Type 0) (R : K → K → Ordering) (k : K) (P : Type 0) → IsSome (get (empty {X = V} {R = R}) k) → P
none_there V R k P e = let none : is_some (get (empty {X = V} {R = R}) k) ≡ false = ap is_some (get-empty R k) in absurd cc

no_chain : (a : ℕ) → length (chain_of [] a) ≤ 8
unfolding chain
no_chain zero = omega arith
no_chain (suc zero) = omega arith
no_chain (suc (suc a)) = omega arith

pub sound_empty : IsSound empty_state
sound_empty = record {
  limits = record {
    tree_few = record {
      schedules_few = omega (arith, len-empty code_cmp Schedule);
      classes_few = omega (arith, len-empty code_cmp Class);
      aggregations_few = omega arith;
      records_few = omega arith;
    };
    tree_forms = record {
      schedules = λ code it e. none_found code_cmp code it _ e;
      classes = λ code it e. none_found code_cmp code it _ e;
      aggregations = λ a it e. none_numbered a it _ e;
      records = λ r it e. none_numbered r it _ e;
      events = λ r it e. none_found nat_cmp r it _ e;
    };
    statuses = refl;
    holds_few = record {
      holds_few = omega (arith, len-empty code_cmp HoldState);
      targets_few = λ code hold e. none_found code_cmp code hold _ e;
    };
    hold_forms = λ code hold e. none_found code_cmp code hold _ e;
    runs_few = omega arith;
    run_forms = λ n it e. none_numbered n it _ e;
    entry_forms = λ run r e there. none_found entry_cmp (run, r) e _ there;
    day_form = (search rules, search rules);
  };
  forest = record {
    below = λ a p it e up. none_numbered a it _ e;
    depth = no_chain;
  };
  names = record {
    of_tree = record {
      class_schedules = λ code class e. none_found code_cmp code class _ e;
      aggregation_classes = λ a it e. none_numbered a it _ e;
      root_classes = λ a it e up. none_numbered a it _ e;
      containers = λ r head e. none_numbered r head _ e;
      record_classes = λ r head e. none_numbered r head _ e;
      record_schedules = λ r head e. none_numbered r head _ e;
    };
    of_holds = λ code hold e. none_found code_cmp code hold _ e;
    of_entries = λ run r e there. none_found entry_cmp (run, r) e _ there;
  };
  closed = λ a p it parent e up there _. none_numbered a it _ e;
  contents = λ r. (λ some. none_there (List ℕ) nat_cmp r _ some, λ h. none_numbered r h.0 _ h.1);
  documents = record {
    confirmed = λ r head status e _ _. none_numbered r head _ e;
    disposal = λ r head e. none_numbered r head _ e;
    received = λ r head e _. none_numbered r head _ e;
    transferred = λ run r e head there _ _. none_found entry_cmp (run, r) e _ there;
  };
  entries = record {
    keyed = λ run r e there. none_found entry_cmp (run, r) e _ there;
    ended = λ r e. none_numbered r _ _ e;
    once = λ run other r e f there _ _ _. none_found entry_cmp (run, r) e _ there;
    no_other = λ run r e there _. none_found entry_cmp (run, r) e _ there;
    holds = λ run r e there. none_found entry_cmp (run, r) e _ there;
    passed = λ run r e it there _. none_found entry_cmp (run, r) e _ there;
  };
  runs = record {
    last = λ run it e _. none_numbered run it _ e;
    certified = λ run. (λ some. none_there (List ℕ) nat_cmp run _ some, λ h. none_numbered run h.0 _ h.1);
  };
  days = record {
    closed = λ a it e. none_numbered a it _ e;
    added = λ r head e. none_numbered r head _ e;
    reviewed = λ r head e. none_numbered r head _ e;
    confirmed = λ r head e. none_numbered r head _ e;
    receipted = λ r head e. none_numbered r head _ e;
    held = λ code hold e. none_found code_cmp code hold _ e;
    run_days = λ run it e. none_numbered run it _ e;
  };
  events = record {
    of_records = λ r it e. none_found nat_cmp r it _ e;
    not_ahead = λ r it e. none_found nat_cmp r it _ e;
  };
  refs = RefsDiffer-empty;
}
