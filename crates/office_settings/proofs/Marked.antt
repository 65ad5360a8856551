-- A file with the mark `begin` has it first, and `end` last.
use Rattle.std.proofs.Common.{◌≡◌, ◌⊎◌, inl, inr, ◌∙◌, ◌+◌, ◌==◌, ◌&&◌, ℕ, List, [], ◌∷◌, ◌++◌, length, not, Bool, true, false, Ok, refl, sym, ap, subst}
use Rattle.std.proofs.Math.Dec.{eqb-suc-zero}
use Rattle.office_settings.specs.Beginnings.{AreMarked}
use Rattle.office_settings.specs.Files.{Entry, entries_from, entries_of, has_begin, has_end, is_begin, is_end, with_line}
use Rattle.office_settings.specs.Statements.{Line}
use Rattle.office_settings.specs.Statements as line
use Rattle.office_settings.proofs.Beginnings.{HasOne, and_off, are_read, at_line, both_ends, contrary, entry_of, goes, last_off}

-- ---- the first statement

record IsBegun (entries : List Entry) : Type 0 where
  first : Entry
  rest : List Entry
  is : entries ≡ first ∷ rest
  begins : is_begin first.line ≡ true

by_first : (number : ℕ) (it : Line) (b : Bool) → is_begin it ≡ b → (has_begin (entry_of number it ∷ []) ≡ false) ⊎ IsBegun (entry_of number it ∷ [])
by_first number it true e = inr (record { first = entry_of number it; rest = []; is = refl; begins = e })
by_first number it false e = inl (last_off [] (entry_of number it) is_begin refl e)

begun_more : (above : List Entry) (number : ℕ) (it : Line) → (is_begin it && not (length above == 0)) ≡ false
    → (has_begin above ≡ false) ⊎ IsBegun above → (has_begin (above ++ entry_of number it ∷ []) ≡ false) ⊎ IsBegun (above ++ entry_of number it ∷ [])
begun_more [] number it placed h = by_first number it (is_begin it) refl
begun_more (first ∷ others) number it placed (inl none) =
    inl (last_off (first ∷ others) (entry_of number it) is_begin none (and_off (is_begin it) (not (length (first ∷ others) == 0)) (ap not (eqb-suc-zero (length others))) placed))
begun_more (first ∷ others) number it placed (inr begun) = inr (record {
  first = begun.first;
  rest = begun.rest ++ entry_of number it ∷ [];
  is = ap (λ (es : List Entry). es ++ entry_of number it ∷ []) begun.is;
  begins = begun.begins;
})

-- ---- the last statement

record IsEnded (entries : List Entry) : Type 0 where
  front : List Entry
  last : Entry
  is : entries ≡ front ++ last ∷ []
  ends : is_end last.line ≡ true

ended_more : (above : List Entry) (number : ℕ) (it : Line) (e : Bool) → is_end it ≡ e → has_end above ≡ false
    → (has_end (above ++ entry_of number it ∷ []) ≡ false) ⊎ IsEnded (above ++ entry_of number it ∷ [])
ended_more above number it true e h = inr (record { front = above; last = entry_of number it; is = refl; ends = e })
ended_more above number it false e h = inl (last_off above (entry_of number it) is_end h e)

-- ---- all lines

record AreShaped (entries : List Entry) : Type 0 where
  begun : (has_begin entries ≡ false) ⊎ IsBegun entries
  ended : (has_end entries ≡ false) ⊎ IsEnded entries

shaped_more : (above : List Entry) (number : ℕ) (text : List ℕ) (entries : List Entry) → AreShaped above → HasOne above number text entries → AreShaped entries
shaped_more above number text entries h one = subst AreShaped (sym one.appends) (record {
  begun = begun_more above number one.it one.placed h.begun;
  ended = ended_more above number one.it (is_end one.it) refl one.open_so;
})

shaped : (lines : List (List ℕ)) (above entries : List Entry) (number : ℕ) → AreShaped above → entries_from above number lines ≡ Ok entries
    → AreShaped entries
shaped [] above entries number h is = let same : above ≡ entries = cc in subst AreShaped same h
shaped (text ∷ rest) above entries number h is =
    let step = goes (with_line above number text) (λ it. entries_from it (number + 1) rest) entries is in
    let next : AreShaped step.middle = elim (at_line above step.middle number text step.first) [
      | inl none ↦ subst AreShaped (sym none.same) h
      | inr one ↦ shaped_more above number text step.middle h one
    ] in
    shaped rest step.middle entries (number + 1) next step.then_so

-- ---- the marks

begins_only : (it : Line) → is_begin it ≡ true → it ≡ line.begins
begins_only line.begins h = refl
begins_only _ h = absurd cc

ends_only : (it : Line) → is_end it ≡ true → it ≡ line.ends
ends_only line.ends h = refl
ends_only _ h = absurd cc

both_marks : (it : Line) → it ≡ line.begins → it ≡ line.ends → ⊥
both_marks it h k = cc

by_front : (entries front rest : List Entry) (first last : Entry) → entries ≡ first ∷ rest → entries ≡ front ++ last ∷ []
    → first.line ≡ line.begins → last.line ≡ line.ends → AreMarked entries
by_front entries [] rest first last f l b e =
    let same : first ≡ last = one (sym f ∙ l) in
    absurd (both_marks first.line b (ap (λ (it : Entry). it.line) same ∙ e))
  where
    one : first ∷ rest ≡ last ∷ [] → first ≡ last
    one h = cc
by_front entries (head ∷ front) rest first last f l b e =
    let same : first ≡ head = one (sym f ∙ l) in
    record { first = head; inner = front; last = last; are = l; begins = ap (λ (it : Entry). it.line) (sym same) ∙ b; ends = e }
  where
    one : first ∷ rest ≡ head ∷ front ++ last ∷ [] → first ≡ head
    one h = cc

pub marked : (lines : List (List ℕ)) (entries : List Entry) → entries_of lines ≡ Ok entries → has_begin entries ≡ true → AreMarked entries
marked lines entries h b =
    let it = are_read lines entries h in
    let shape = shaped lines [] entries 1 (record { begun = inl refl; ended = inl refl }) it.from in
    elim shape.begun [
      | inl none ↦ absurd (contrary (has_begin entries) b none)
      | inr begun ↦ elim shape.ended [
        | inl none ↦ absurd (contrary (has_end entries) (both_ends (has_begin entries) (has_end entries) it.whole_so.ends b) none)
        | inr ended ↦
            by_front entries ended.front begun.rest begun.first ended.last begun.is ended.is (begins_only begun.first.line begun.begins)
            (ends_only ended.last.line ended.ends)
      ]
    ]
