-- One more hold, whose code is above those of the others.
use Rattle.std.proofs.Common.{◌≡◌, ◌<◌, ℕ, List, [], ◌∷◌, ◌++◌, length, Bool, true, false, cond, Option, Some, None, refl, sym, ap, subst, ◌∙◌, append_assoc, arith}
use Rattle.std.specs.Prelude.{nat_le}
use Rattle.std.specs.Option.{is_some}
use Rattle.std.specs.List.{All}
use Rattle.std.specs.Map.{keys_of}
use Rattle.std.specs.Ordering.{eq_by_cmp, is_eq, ordering_reverse}
use Rattle.std.specs.declared.cmp.Ordering.TheVariants.{Less, Greater}
use Rattle.std.specs.Cmp.Lexicographic.{nat_list_cmp_total}
use Rattle.std.specs.FinMap.{entries, get, get-entries, get-insert, insert, len, len-entries}
use Rattle.std.specs.FinMap.Entries.{by_order, find, put}
use Rattle.std.proofs.lemmas.Bool.Decides.{nat_tests}
use Rattle.std.proofs.lemmas.List.{length-append}
use Rattle.std.proofs.lemmas.List.Elements.{All-from_recursion, All-head, All-tail}
use Rattle.office_base.proofs.Ascending.{above_prefix}
use Rattle.office_records.specs.Lists.{is_some_and}
use Rattle.office_records.specs.Tree.{code_cmp}
use Rattle.office_records.proofs.Inserting.{len-insert_free, same_code}
use Rattle.office_rules.specs.HoldForms.{FitsHoldLimits}
use Rattle.office_rules.specs.HoldLoading.{AreRowsOf, IsAbove, hold_rows}
use Rattle.office_rules.specs.Holds.{HoldMap, HoldState, has_target}
use Rattle.office_rules.specs.HoldRows.{hold_from, put_hold}
use Rattle.office_records.specs.declared.hold_row.HoldRow.{HoldRow}
use Rattle.office_records.specs.declared.target.Target.{Target}
use Rattle.office_rules.proofs.AmendedHolds.{OfEach-insert}
use Rattle.office_holds.proofs.BareHolds.{bare_count, bare_none, row_keys, rows_ascend, rows_length}
use Rattle.office_holds.proofs.CoveringRows.{rows-insert}
use Rattle.office_rules.proofs.HoldSoundness.{HasFewTargets}

module _ {V : Type 0} where
  above_first : (k : List ℕ) (e : List ℕ × V) (es : List (List ℕ × V)) → All (λ q. code_cmp q k ≡ Less) (keys_of (e ∷ es)) → code_cmp k e.0 ≡ Greater
  above_first k e es all = nat_list_cmp_total.antisymm k e.0 ∙ ap ordering_reverse (All-head (λ q. code_cmp q k ≡ Less) e.0 (keys_of es) all)

  -- a code above all others goes to the end
  put_above : (es : List (List ℕ × V)) (k : List ℕ) (v : V) → All (λ q. code_cmp q k ≡ Less) (keys_of es) → put code_cmp k v es ≡ es ++ (k, v) ∷ []
  put_above [] k v all = refl
  put_above (e ∷ es) k v all =
      ap (λ r. by_order r ((k, v) ∷ e ∷ es) ((e.0, v) ∷ es) (e ∷ put code_cmp k v es)) (above_first k e es all)
      ∙ ap (λ rest. e ∷ rest) (put_above es k v (All-tail (λ q. code_cmp q k ≡ Less) e.0 (keys_of es) all))

  -- and is none of them
  none_found : (es : List (List ℕ × V)) (k : List ℕ) → All (λ q. code_cmp q k ≡ Less) (keys_of es) → find code_cmp k es ≡ None
  none_found [] k all = refl
  none_found (e ∷ es) k all =
      ap (λ r. cond (is_eq r) (Some e.1) (find code_cmp k es)) (above_first k e es all)
      ∙ none_found es k (All-tail (λ q. code_cmp q k ≡ Less) e.0 (keys_of es) all)

-- no hold is there under it
pub get-above : (holds : HoldMap) (code : List ℕ) → IsAbove holds code → get holds code ≡ None
get-above holds code above = get-entries holds code ∙ none_found (entries holds) code above

none_there : (row : HoldRow) (t : Target) (tie : Bool) (there : Option HoldState) → (tie ≡ true → there ≡ None)
    → is_some_and (cond tie (Some (hold_from row None)) there) (λ hold. has_target hold t) ≡ is_some_and there (λ hold. has_target hold t)
none_there row t true there free = bare_none row t ∙ sym (ap (λ (o : Option HoldState). is_some_and o (λ hold. has_target hold t)) (free refl))
none_there row t false there free = refl

module _ (holds : HoldMap) (code : List ℕ) (row : HoldRow) (above : IsAbove holds code) where
  put_bare : put_hold holds code row ≡ insert holds code (hold_from row None)
  put_bare = ap (λ o. insert holds code (hold_from row o)) (get-above holds code above)

  -- the rows of holds with one more
  pub rows-next : (rows : List (List ℕ × HoldRow)) (targets : List (List ℕ × Target)) → AreRowsOf rows targets holds → AreRowsOf (rows ++ (code, row) ∷ []) targets (put_hold holds code row)
  rows-next rows targets are = record {
    columns = ap hold_rows put_bare
        ∙ rows-insert holds code (hold_from row None)
        ∙ put_above (hold_rows holds) code row (subst (λ ks. All (λ q. code_cmp q code ≡ Less) ks) (sym (row_keys (entries holds))) above)
        ∙ ap (λ prefix. prefix ++ (code, row) ∷ []) are.columns;
    targets_exist = λ q t.
        are.targets_exist q t
        ∙ sym (ap (λ h. is_some_and (get h q) (λ hold. has_target hold t)) put_bare
        ∙ ap (λ (o : Option HoldState). is_some_and o (λ hold. has_target hold t)) (get-insert nat_list_cmp_total holds code (hold_from row None) q)
        ∙ none_there row t (eq_by_cmp code_cmp q code) (get holds q) (λ tie. ap (get holds) (same_code q code tie) ∙ get-above holds code above));
  }

  -- they stay within their limits where there is room
  pub fits-next : FitsHoldLimits holds → nat_le 1_000 (len holds) ≡ false → FitsHoldLimits (put_hold holds code row)
  fits-next fits room = subst FitsHoldLimits (sym put_bare) (record {
    holds_few = let more = len-insert_free holds code (hold_from row None) (no_key (get holds code) (get-above holds code above)) in omega (arith, more, below (len holds) room);
    targets_few = OfEach-insert HasFewTargets holds code (hold_from row None) fits.targets_few (bare_count row);
  }) where
    no_key : (o : Option HoldState) → o ≡ None → is_some o ≡ false
    no_key o e = ap is_some e

    below : (n : ℕ) → nat_le 1_000 n ≡ false → n < 1_000
    below n h = grind (arith, nat_tests)

module _ (holds represent : HoldMap) (code : List ℕ) (row : HoldRow) (rest : List (List ℕ × HoldRow)) (begins : hold_rows represent ≡ (hold_rows holds ++ (code, row) ∷ []) ++ rest) where
  begin_so : hold_rows represent ≡ hold_rows holds ++ (code, row) ∷ rest
  begin_so = begins ∙ append_assoc (hold_rows holds) ((code, row) ∷ []) rest

  -- the code of a row after those of holds is above theirs
  pub above-next : IsAbove holds code
  above-next =
      subst (λ ks. All (λ q. code_cmp q code ≡ Less) ks) (row_keys (entries holds))
      (All-from_recursion (λ q. code_cmp q code ≡ Less) (keys_of (hold_rows holds)) (above_prefix code_cmp (hold_rows holds) code row rest (rows_ascend (hold_rows holds ++ (code, row) ∷ rest) represent begin_so)))

  -- and there are more holds
  pub more-next : len holds < len represent
  more-next =
      let few = len-entries holds ∙ sym (rows_length (entries holds)) in
      let many = len-entries represent ∙ sym (rows_length (entries represent)) ∙ ap length begin_so ∙ length-append (hold_rows holds) ((code, row) ∷ rest) in
      omega (arith, few, many)
