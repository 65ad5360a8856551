-- The pieces of a text, one after another, and the lines that were checked.
use Rattle.std.proofs.Common.{◌≡◌, ◌≢◌, ◌∙◌, ◌+◌, ◌<◌, ◌≤◌, ◌==◌, not, nat_lt, ◌^◌, ◌-◌, ℕ, suc, List, [], ◌∷◌, ◌++◌, length, take, drop, position, cond, Bool, true, false, Option, Some, None, Result, Ok, Err, refl, sym, ap, arith, append_assoc, subst, length-drop}
use Rattle.std.specs.List.{All, flat_map, prefix_len}
use Rattle.std.proofs.lemmas.Grind.{flat_map-append}
use Rattle.std.proofs.lemmas.List.Elements.{All-nil, All-cons}
use Rattle.office_journal.specs.declared.head.Head.{Head}
use Rattle.office_journal.specs.declared.wrong.Wrong.{Wrong}
use Rattle.std.specs.Prelude.{codes}
use Rattle.std.specs.Fmt.{decimal}
use Rattle.hex.specs.Hex.{encode_lower}
use Rattle.office_journal.specs.Chain.{Follows, LeadTo}
use Rattle.office_journal.specs.Lines.{head_after}
use Rattle.office_journal.specs.Journals.{IsJournal, begun, checked_from, checked_step, follow, is_whole, linked, numbered, pieces, rest_after, with_first}
use Rattle.office_journal.specs.declared.wrong.Wrong.TheVariants.{NoLine, OtherNumber}
use Rattle.office_journal.proofs.Parts.{rest_after-some}

-- ---- pieces by the first line feed

-- the first n bytes are no line feed, and behind them is one
pub record EndsAt (text : List ℕ) (n : ℕ) : Type 0 where
  pub within : n < length text
  pub split : pieces text ≡ take n text ∷ pieces (drop (n + 1) text)
  pub whole : text ≡ take n text ++ 10 ∷ drop (n + 1) text

-- no byte is a line feed
pub record IsLast (text : List ℕ) : Type 0 where
  pub split : pieces text ≡ text ∷ []
  pub each : All (λ b. b ≢ 10) text

-- ---- where the first line feed is

ends_here : (b : ℕ) (rest : List ℕ) → (b == 10) ≡ true → EndsAt (b ∷ rest) 0
ends_here b rest is = record {
  within = omega arith;
  split = ap (λ e. cond e ([] ∷ pieces rest) (with_first b (pieces rest))) is;
  whole = let same : b ≡ 10 = equal b 10 is in ap (λ k. k ∷ rest) same;
}
  where
    equal : (x y : ℕ) → (x == y) ≡ true → x ≡ y
    equal x y h = grind arith

ends_later : (b : ℕ) (rest : List ℕ) (n : ℕ) → (b == 10) ≡ false → EndsAt rest n → EndsAt (b ∷ rest) (suc n)
ends_later b rest n is later = record {
  within = let low = later.within in omega (arith, low);
  split =
      ap (λ e. cond e ([] ∷ pieces rest) (with_first b (pieces rest))) is ∙ ap (with_first b) later.split
      ∙ ap (λ k. (b ∷ take n rest) ∷ pieces (drop k (b ∷ rest))) (next n);
  whole = ap (λ xs. b ∷ xs) later.whole ∙ ap (λ k. b ∷ (take n rest ++ 10 ∷ drop k (b ∷ rest))) (next n);
}
  where
    next : (n : ℕ) → suc (n + 1) ≡ suc n + 1
    next n = omega arith

one_more : (n : ℕ) → 1 + n ≡ suc n
one_more n = omega arith

ends_by : (b : ℕ) (rest : List ℕ) (e : Bool) → (b == 10) ≡ e → (prefix_len (λ x. not (x == 10)) rest < length rest → EndsAt rest (prefix_len (λ x. not (x == 10)) rest))
    → prefix_len (λ x. not (x == 10)) (b ∷ rest) < length (b ∷ rest) → EndsAt (b ∷ rest) (prefix_len (λ x. not (x == 10)) (b ∷ rest))
ends_by b rest true is later h =
    let none : prefix_len (λ x. not (x == 10)) (b ∷ rest) ≡ 0 = ap (λ e. cond (not e) (1 + prefix_len (λ x. not (x == 10)) rest) 0) is in
    subst (EndsAt (b ∷ rest)) (sym none) (ends_here b rest is)
ends_by b rest false is later h =
    let more : prefix_len (λ x. not (x == 10)) (b ∷ rest) ≡ suc (prefix_len (λ x. not (x == 10)) rest) = ap (λ e. cond (not e) (1 + prefix_len (λ x. not (x == 10)) rest) 0) is ∙ one_more (prefix_len (λ x. not (x == 10)) rest) in
    subst (EndsAt (b ∷ rest)) (sym more) (ends_later b rest (prefix_len (λ x. not (x == 10)) rest) is (later (omega (arith, more, h))))

ends : (text : List ℕ) → prefix_len (λ x. not (x == 10)) text < length text → EndsAt text (prefix_len (λ x. not (x == 10)) text)
ends [] h = absurd (omega (arith, h))
ends (b ∷ rest) h = ends_by b rest (b == 10) refl (ends rest) h

last_by : (b : ℕ) (rest : List ℕ) (e : Bool) → (b == 10) ≡ e → (length rest ≤ prefix_len (λ x. not (x == 10)) rest → IsLast rest)
    → length (b ∷ rest) ≤ prefix_len (λ x. not (x == 10)) (b ∷ rest) → IsLast (b ∷ rest)
last_by b rest true is later h =
    let none : prefix_len (λ x. not (x == 10)) (b ∷ rest) ≡ 0 = ap (λ e. cond (not e) (1 + prefix_len (λ x. not (x == 10)) rest) 0) is in
    absurd (omega (arith, none, h))
last_by b rest false is later h =
    let more : prefix_len (λ x. not (x == 10)) (b ∷ rest) ≡ suc (prefix_len (λ x. not (x == 10)) rest) = ap (λ e. cond (not e) (1 + prefix_len (λ x. not (x == 10)) rest) 0) is ∙ one_more (prefix_len (λ x. not (x == 10)) rest) in
    let tail : IsLast rest = later (omega (arith, more, h)) in
    record {
      split = ap (λ e. cond e ([] ∷ pieces rest) (with_first b (pieces rest))) is ∙ ap (with_first b) tail.split;
      each = All-cons (λ x. x ≢ 10) b rest (differs b 10 is) tail.each;
    }
  where
    differs : (x y : ℕ) → (x == y) ≡ false → x ≢ y
    differs x y h e = grind arith

last : (text : List ℕ) → length text ≤ prefix_len (λ x. not (x == 10)) text → IsLast text
last [] h = record { split = refl; each = All-nil (λ x. x ≢ 10) }
last (b ∷ rest) h = last_by b rest (b == 10) refl (last rest) h

place_by : (text : List ℕ) (n m : ℕ) (e : Bool) → nat_lt m (length text) ≡ e → cond e (Some m) None ≡ Some n → (m ≡ n) × (m < length text)
place_by text n m true is h = (cc, below m (length text) is)
  where
    below : (a b : ℕ) → nat_lt a b ≡ true → a < b
    below a b k = grind arith
place_by text n m false is h = absurd cc

none_by : (text : List ℕ) (m : ℕ) (e : Bool) → nat_lt m (length text) ≡ e → (let r : Option ℕ = cond e (Some m) None in r) ≡ None → length text ≤ m
none_by text m true is h = absurd cc
none_by text m false is h = above m (length text) is
  where
    above : (a b : ℕ) → nat_lt a b ≡ false → b ≤ a
    above a b k = grind arith

pub ends_at : (text : List ℕ) (n : ℕ) → position (λ b. b == 10) text ≡ Some n → EndsAt text n
ends_at text n h =
    let m = prefix_len (λ x. not (x == 10)) text in
    let found = place_by text n (prefix_len (λ x. not (x == 10)) text) (nat_lt (prefix_len (λ x. not (x == 10)) text) (length text)) refl h in
    subst (EndsAt text) found.0 (ends text found.1)

pub is_last : (text : List ℕ) → position (λ b. b == 10) text ≡ None → IsLast text
is_last text h = last text (none_by text (prefix_len (λ x. not (x == 10)) text) (nat_lt (prefix_len (λ x. not (x == 10)) text) (length text)) refl h)

-- ---- a line that follows

-- what it means that a line was taken
pub record IsTaken (head : Head) (line : List ℕ) (after : Head) : Type 0 where
  pub follows : Follows head line
  pub next : after ≡ head_after head line

taken_by : (head after : Head) (line first rest : List ℕ) (o : Option (List ℕ)) → o ≡ rest_after (decimal (head.line + 1) ++ codes ",") rest
    → line ≡ codes "{\"before\":\"" ++ first → first ≡ (encode_lower head.digest ++ codes "\",\"line\":") ++ rest
    → numbered head line o ≡ Ok after → IsTaken head line after
taken_by head after line first rest None e one two h = absurd cc
taken_by head after line first rest (Some text) e one two h = record {
  follows =
      let three : rest ≡ (decimal (head.line + 1) ++ codes ",") ++ text = rest_after-some (decimal (head.line + 1) ++ codes ",") rest text (sym e) in (
        text,
        one ∙ ap (λ xs. codes "{\"before\":\"" ++ xs) (two ∙ ap (λ xs. (encode_lower head.digest ++ codes "\",\"line\":") ++ xs) three)
            ∙ sym (regroup (codes "{\"before\":\"") (encode_lower head.digest) (codes "\",\"line\":") (decimal (head.line + 1)) (codes ",") text),
      );
  next = sym (ok_same (head_after head line) after h);
}
  where
    ok_same : (a b : Head) → (let r : Result Head Wrong = Ok a in r) ≡ Ok b → a ≡ b
    ok_same a b h = cc

    regroup : (a h m n k t : List ℕ) → ((((a ++ h) ++ m) ++ n) ++ k) ++ t ≡ a ++ ((h ++ m) ++ ((n ++ k) ++ t))
    regroup a h m n k t = simp append_assoc

linked_by : (head after : Head) (line first rest : List ℕ) (full : Bool) → line ≡ codes "{\"before\":\"" ++ first → first ≡ (encode_lower head.digest ++ codes "\",\"line\":") ++ rest
    → cond full (Err OtherNumber) (numbered head line (rest_after (decimal (head.line + 1) ++ codes ",") rest)) ≡ Ok after → IsTaken head line after
linked_by head after line first rest true one two h = absurd cc
linked_by head after line first rest false one two h = taken_by head after line first rest (rest_after (decimal (head.line + 1) ++ codes ",") rest) refl one two h

opened_by : (head after : Head) (line first : List ℕ) (o : Option (List ℕ)) → o ≡ rest_after (encode_lower head.digest ++ codes "\",\"line\":") first
    → line ≡ codes "{\"before\":\"" ++ first → linked head line o ≡ Ok after → IsTaken head line after
opened_by head after line first None e one h = absurd cc
opened_by head after line first (Some rest) e one h =
    linked_by head after line first rest (head.line == 2 ^ 64 - 1) one
    (rest_after-some (encode_lower head.digest ++ codes "\",\"line\":") first rest (sym e)) h

begun_by : (head after : Head) (line : List ℕ) (o : Option (List ℕ)) → o ≡ rest_after (codes "{\"before\":\"") line → begun head line o ≡ Ok after → IsTaken head line after
begun_by head after line None e h = absurd cc
begun_by head after line (Some first) e h =
    opened_by head after line first (rest_after (encode_lower head.digest ++ codes "\",\"line\":") first) refl
    (rest_after-some (codes "{\"before\":\"") line first (sym e)) h

whole_by : (head after : Head) (line : List ℕ) (whole : Bool) → cond whole (begun head line (rest_after (codes "{\"before\":\"") line)) (Err NoLine) ≡ Ok after → IsTaken head line after
whole_by head after line true h = begun_by head after line (rest_after (codes "{\"before\":\"") line) refl h
whole_by head after line false h = absurd cc

pub is_taken : (head after : Head) (line : List ℕ) → follow head line ≡ Ok after → IsTaken head line after
unfolding follow
is_taken head after line h = whole_by head after line (is_whole line) h

-- ---- the lines so far

some_pieces : (text : List ℕ) → pieces text ≢ []
some_pieces [] h = absurd cc
some_pieces (b ∷ rest) h = by (b == 10) (pieces rest) h
  where
    first : (ps : List (List ℕ)) → with_first b ps ≢ []
    first [] e = absurd cc
    first (p ∷ ps) e = absurd cc

    by : (e : Bool) (ps : List (List ℕ)) → cond e ([] ∷ ps) (with_first b ps) ≡ [] → ⊥
    by true ps e = absurd cc
    by false ps e = first ps e

pub line_step : (head : Head) (place : ℕ) (line : List ℕ) (ps : List (List ℕ)) → ps ≢ []
    → checked_from head place (line ∷ ps) ≡ checked_step place (follow head line) (λ after. checked_from after (place + 1) ps)
line_step head place line [] more = absurd (more refl)
line_step head place line (next ∷ rest) more = refl

lead_more : (start head : Head) (lines : List (List ℕ)) (line : List ℕ) → LeadTo start lines head → Follows head line → LeadTo start (lines ++ line ∷ []) (head_after head line)
lead_more start head [] line h f = (subst (λ k. Follows k line) (sym h) f, ap (λ k. head_after k line) h)
lead_more start head (first ∷ lines) line h f = (h.0, lead_more (head_after start first) head lines line h.1 f)

-- the lines of a text up to its rest lead to a head
pub record AreChecked (start : Head) (text : List ℕ) (head : Head) (place : ℕ) (rest : List ℕ) : Type 0 where
  pub left : checked_from head place (pieces rest) ≡ checked_from start 1 (pieces text)
  pub lines : List (List ℕ)
  pub whole : text ≡ flat_map (λ line. line ++ 10 ∷ []) lines ++ rest
  pub linked : LeadTo start lines head
  pub place_in : place + length rest ≤ length text + 1

pub none_checked : (start : Head) (text : List ℕ) → AreChecked start text start 1 text
none_checked start text = record { left = refl; lines = []; whole = refl; linked = refl; place_in = omega arith }

-- the check goes on as the line says
pub left_at : (start head : Head) (text rest : List ℕ) (place n : ℕ) → AreChecked start text head place rest → EndsAt rest n
    → checked_step place (follow head (take n rest)) (λ after. checked_from after (place + 1) (pieces (drop (n + 1) rest))) ≡ checked_from start 1 (pieces text)
left_at start head text rest place n done here =
    sym (line_step head place (take n rest) (pieces (drop (n + 1) rest)) (some_pieces (drop (n + 1) rest)))
    ∙ ap (checked_from head place) (sym here.split) ∙ done.left

pub err_checked : (start head : Head) (text rest : List ℕ) (place n : ℕ) (wrong : Wrong) → AreChecked start text head place rest → EndsAt rest n
    → follow head (take n rest) ≡ Err wrong → Err (record { place = place; wrong = wrong }) ≡ checked_from start 1 (pieces text)
err_checked start head text rest place n wrong done here is =
    ap (λ (r : Result Head Wrong). checked_step place r (λ next. checked_from next (place + 1) (pieces (drop (n + 1) rest)))) (sym is)
    ∙ left_at start head text rest place n done here

pub one_checked : (start head after : Head) (text rest : List ℕ) (place n : ℕ) → AreChecked start text head place rest → EndsAt rest n
    → follow head (take n rest) ≡ Ok after → AreChecked start text after (place + 1) (drop (n + 1) rest)
one_checked start head after text rest place n done here is =
    let taken = is_taken head after (take n rest) is in
    record {
      left =
          ap (λ (r : Result Head Wrong). checked_step place r (λ next. checked_from next (place + 1) (pieces (drop (n + 1) rest)))) (sym is)
          ∙ left_at start head text rest place n done here;
      lines = done.lines ++ take n rest ∷ [];
      whole =
          done.whole ∙ ap (λ xs. flat_map (λ line. line ++ 10 ∷ []) done.lines ++ xs) here.whole
          ∙ regroup (flat_map (λ line. line ++ 10 ∷ []) done.lines) (take n rest) (drop (n + 1) rest)
          ∙ ap (λ xs. xs ++ drop (n + 1) rest) (sym (flat_map-append (λ line. line ++ 10 ∷ []) done.lines (take n rest ∷ [])));
      linked = subst (λ k. LeadTo start (done.lines ++ take n rest ∷ []) k) (sym taken.next) (lead_more start head done.lines (take n rest) done.linked taken.follows);
      place_in =
          let before = done.place_in in let within = here.within in
          let gone : length (drop (n + 1) rest) + (n + 1) ≡ length rest = shorter rest (n + 1) (omega (arith, within)) in
          omega (arith, before, gone);
    }
  where
    regroup : (a x t : List ℕ) → a ++ (x ++ 10 ∷ t) ≡ (a ++ ((x ++ 10 ∷ []) ++ [])) ++ t
    regroup a x t = simp append_assoc

    shorter : (xs : List ℕ) (k : ℕ) → k ≤ length xs → length (drop k xs) + k ≡ length xs
    shorter xs k h = omega (arith, length-drop k xs)

pub all_checked : (start head : Head) (text rest : List ℕ) (place : ℕ) → AreChecked start text head place rest → IsLast rest
    → Ok (record { head = head; torn = length rest }) ≡ checked_from start 1 (pieces text)
all_checked start head text rest place done last = ap (checked_from head place) (sym last.split) ∙ done.left

pub is_journal : (start head : Head) (text rest : List ℕ) (place : ℕ) → AreChecked start text head place rest → IsLast rest
    → IsJournal start text (record { head = head; torn = length rest })
is_journal start head text rest place done last = record { lines = done.lines; torn = rest; whole = done.whole; linked = done.linked; rest = last.each; count = refl }

pub none_of : (o : Option ℕ) → ((n : ℕ) → o ≡ Some n → ⊥) → o ≡ None
none_of None h = refl
none_of (Some n) h = absurd (h n refl)

-- after as many lines as the text has bytes nothing is left
pub nothing_left : (start head : Head) (text rest : List ℕ) (before : ℕ) → AreChecked start text head (before + 1) rest → length text ≤ before → length rest ≡ 0
nothing_left start head text rest before done all = let place = done.place_in in omega (arith, place, all)

empty_last : (rest : List ℕ) → length rest ≡ 0 → IsLast rest
empty_last [] h = record { split = refl; each = All-nil (λ x. x ≢ 10) }
empty_last (b ∷ rest) h = absurd (omega (arith, h))

pub nothing_checked : (start head : Head) (text rest : List ℕ) (before : ℕ) → AreChecked start text head (before + 1) rest → length text ≤ before
    → Ok (record { head = head; torn = 0 }) ≡ checked_from start 1 (pieces text)
nothing_checked start head text rest before done all =
    let none = nothing_left start head text rest before done all in
    ap (λ (n : ℕ). Ok (record { head = head; torn = n })) (sym none) ∙ all_checked start head text rest (before + 1) done (empty_last rest none)

pub nothing_journal : (start head : Head) (text rest : List ℕ) (before : ℕ) → AreChecked start text head (before + 1) rest → length text ≤ before
    → IsJournal start text (record { head = head; torn = 0 })
nothing_journal start head text rest before done all =
    let none = nothing_left start head text rest before done all in
    subst (λ n. IsJournal start text (record { head = head; torn = n })) none (is_journal start head text rest (before + 1) done (empty_last rest none))
