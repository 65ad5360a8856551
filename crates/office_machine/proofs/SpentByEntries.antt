-- The aggregations that are spent by entries: what an aggregation is tested for, and the list of those that pass.
use Rattle.std.proofs.Common.{◌≡◌, ℕ, suc, ◌-◌, ◌<◌, Bool, true, false, cond, ◌&&◌, List, [], ◌∷◌, ◌++◌, filter, length, refl, sym, ap, ◌∙◌, append_assoc, arith}
use Rattle.std.proofs.lemmas.Bool.{and_parts, and_from, and_right}
use Rattle.std.specs.Cmp.{both_ways}
use Rattle.std.specs.List.{list_any}
use Rattle.office_records.specs.Disposal.{is_below, is_spent, records_below}
use Rattle.office_records.specs.Lists.{numbers_after}
use Rattle.office_records.specs.Tree.{TreeState, has_record}
use Rattle.office_rules.specs.Outcomes.{is_ending}
use Rattle.office_rules.specs.declared.entry.Entry.{Entry}
use Rattle.office_rules.specs.Runs.{ended_below, is_ended_in, spent_list}
use Rattle.office_rules.proofs.Listing.{HasEndedBelow, any_is, is_any, ended_below_is, is_ended_below, is_spent_by}

-- ---- a record below that one of the entries ended

entry_is : (tree : TreeState) (a : ℕ) (e : Entry) → ended_below tree a e ≡ true → (is_ending e.outcome ≡ true) × (has_record tree e.record_no ≡ true) × (is_below tree a e.record_no ≡ true)
entry_is tree a e h =
    let all = and_parts (is_ending e.outcome && has_record tree e.record_no) (is_below tree a e.record_no) h in
    let first = and_parts (is_ending e.outcome) (has_record tree e.record_no) all.0 in
    (first.0, first.1, all.1)

any_is_ended : (tree : TreeState) (entries : List Entry) (a : ℕ) → list_any (ended_below tree a) entries ≡ true → HasEndedBelow tree entries a
any_is_ended tree entries a h =
    let one = any_is (ended_below tree a) entries h in
    let all = entry_is tree a one.0 one.2 in
    (one.0.record_no, all.1, all.2, (one.0, one.1, refl, all.0))

ended_is_any : (tree : TreeState) (entries : List Entry) (a : ℕ) → HasEndedBelow tree entries a → list_any (ended_below tree a) entries ≡ true
ended_is_any tree entries a (r, there, below, (e, listed, same, ending)) =
    let first = and_from (is_ending e.outcome) (has_record tree e.record_no) ending (ap (has_record tree) same ∙ there) in
    is_any (ended_below tree a) entries e listed (and_from (is_ending e.outcome && has_record tree e.record_no) (is_below tree a e.record_no) first (ap (is_below tree a) same ∙ below))

-- an entry ended a record that is there and below exactly where a record below is one that an entry ended
any_ended : (tree : TreeState) (entries : List Entry) (a : ℕ) → list_any (ended_below tree a) entries ≡ list_any (is_ended_in entries) (records_below tree a)
any_ended tree entries a = both_ways (list_any (ended_below tree a) entries) (list_any (is_ended_in entries) (records_below tree a))
    (λ h. is_ended_below tree entries a (any_is_ended tree entries a h))
    (λ h. ended_is_any tree entries a (ended_below_is tree entries a h))

-- ---- the test of one aggregation

and_true : (x y : Bool) → y ≡ true → x ≡ (x && y)
and_true true y h = sym h
and_true false y h = refl

module _ (tree : TreeState) (entries : List Entry) (a : ℕ) (found : Bool) (is : found ≡ list_any (ended_below tree a) entries) where
  -- where an entry ended one below, the aggregation passes if it is spent
  pub spent_where_found : (spent : Bool) → spent ≡ is_spent tree a → found ≡ true → spent ≡ is_spent_by tree entries a
  spent_where_found spent spent_is h = spent_is ∙ and_true (is_spent tree a) (list_any (is_ended_in entries) (records_below tree a)) (sym (any_ended tree entries a) ∙ sym is ∙ h)

  -- else it does not pass
  pub unspent_where_none : found ≡ false → found ≡ is_spent_by tree entries a
  unspent_where_none h = h ∙ sym (and_right (is_spent tree a) (list_any (is_ended_in entries) (records_below tree a)) (sym (any_ended tree entries a) ∙ sym is ∙ h))

-- ---- the aggregations one by one

-- those after a number that pass
abbrev pub spent_after : TreeState → List Entry → ℕ → List ℕ
spent_after tree entries n = filter (is_spent_by tree entries) (numbers_after n (length tree.aggregations - n))

module _ (tree : TreeState) (entries : List Entry) where
  next_number : (n : ℕ) → n < length tree.aggregations → numbers_after n (length tree.aggregations - n) ≡ suc n ∷ numbers_after (suc n) (length tree.aggregations - suc n)
  next_number n left = let more : length tree.aggregations - n ≡ suc (length tree.aggregations - suc n) = omega arith in ap (numbers_after n) more

  chosen : (n : ℕ) (b : Bool) → n < length tree.aggregations → is_spent_by tree entries (suc n) ≡ b → spent_after tree entries n ≡ cond b (suc n ∷ spent_after tree entries (suc n)) (spent_after tree entries (suc n))
  chosen n b left is = ap (filter (is_spent_by tree entries)) (next_number n left) ∙ ap (λ c. cond c (suc n ∷ spent_after tree entries (suc n)) (spent_after tree entries (suc n))) is

  -- at first all are after
  pub spent_at_first : spent_after tree entries 0 ≡ spent_list tree entries
  unfolding spent_list
  spent_at_first = let all : length tree.aggregations - 0 ≡ length tree.aggregations = omega arith in ap (λ n. filter (is_spent_by tree entries) (numbers_after 0 n)) all

  -- one that passes is put behind those before it
  pub spent_next : (so_far all : List ℕ) (n m : ℕ) → m ≡ suc n → n < length tree.aggregations → true ≡ is_spent_by tree entries m → so_far ++ spent_after tree entries n ≡ all → (so_far ++ m ∷ []) ++ spent_after tree entries m ≡ all
  spent_next so_far all n m next left passes before =
      ap (λ k. (so_far ++ k ∷ []) ++ spent_after tree entries k) next
      ∙ append_assoc so_far (suc n ∷ []) (spent_after tree entries (suc n))
      ∙ ap (λ rest. so_far ++ rest) (sym (chosen n true left (sym (passes ∙ ap (is_spent_by tree entries) next))))
      ∙ before

  -- one that does not pass is left out
  pub unspent_next : (so_far all : List ℕ) (n m : ℕ) → m ≡ suc n → n < length tree.aggregations → false ≡ is_spent_by tree entries m → so_far ++ spent_after tree entries n ≡ all → so_far ++ spent_after tree entries m ≡ all
  unspent_next so_far all n m next left fails before =
      ap (λ k. so_far ++ spent_after tree entries k) next
      ∙ ap (λ rest. so_far ++ rest) (sym (chosen n false left (sym (fails ∙ ap (is_spent_by tree entries) next))))
      ∙ before
