-- Lines as they are written.
use Rattle.std.proofs.Common.{◌≡◌, ◌∙◌, ◌+◌, ◌-◌, ◌^◌, ◌<◌, ◌==◌, ◌&&◌, nat_lt, ℕ, List, [], ◌∷◌, ◌++◌, map, cond, Bool, true, false, Some, None, refl, ap, arith}
use Rattle.std.specs.Str.{bytes_eq}
use Rattle.std.proofs.lemmas.Bool.{and_parts}
use Rattle.std.proofs.lemmas.Slice.Eq.{bytes_eq-Decides}
use Rattle.office_journal.specs.declared.head.Head.{Head}
use Rattle.office_journal.specs.declared.line.Line.{Line}
use Rattle.office_journal.specs.Chain.{Follows, LeadTo}
use Rattle.office_journal.specs.Lines.{head_after, head_from, head_of, is_after, line_bytes, opening, start}

-- what it means that a line comes right after that of a head
pub record ComesAfter (head : Head) (line : Line) : Type 0 where
  pub room : head.line < 2 ^ 64 - 1
  pub number : line.number ≡ head.line + 1
  pub before : line.before ≡ head.digest

pub comes_after : (head : Head) (line : Line) → is_after head line ≡ true → ComesAfter head line
comes_after head line h =
    let both = and_parts (nat_lt head.line (2 ^ 64 - 1) && (line.number == head.line + 1)) (bytes_eq line.before head.digest) h in
    let numbers = and_parts (nat_lt head.line (2 ^ 64 - 1)) (line.number == head.line + 1) both.0 in
    record {
      room = below head.line (2 ^ 64 - 1) numbers.0;
      number = equal line.number (head.line + 1) numbers.1;
      before = (bytes_eq-Decides line.before head.digest).0 both.1;
    }
  where
    below : (a b : ℕ) → nat_lt a b ≡ true → a < b
    below a b e = grind arith

    equal : (a b : ℕ) → (a == b) ≡ true → a ≡ b
    equal a b e = grind arith

-- one line more
pub head_from-more : (head : Head) (line : Line) (rest : List Line) → is_after head line ≡ true
    → head_from head (line ∷ rest) ≡ head_from (head_after head (line_bytes line)) rest
head_from-more head line rest h = ap (λ b. cond b (head_from (head_after head (line_bytes line)) rest) None) h

pub head_from-none : (head : Head) (line : Line) (rest : List Line) → is_after head line ≡ false → head_from head (line ∷ rest) ≡ None
head_from-none head line rest h = ap (λ b. cond b (head_from (head_after head (line_bytes line)) rest) None) h

-- ---- lines lead to the head of them

follows : (head : Head) (line : Line) → ComesAfter head line → Follows head (line_bytes line)
follows head line after =
    (line.text.items, ap (λ d. opening d line.number ++ line.text.items) after.before ∙ ap (λ n. opening head.digest n ++ line.text.items) after.number)

lead_by : (head last : Head) (line : Line) (rest : List Line) (after : Bool) → is_after head line ≡ after
    → ((next : Head) → head_from next rest ≡ Some last → LeadTo next (map line_bytes rest) last)
    → cond after (head_from (head_after head (line_bytes line)) rest) None ≡ Some last
    → LeadTo head (map line_bytes (line ∷ rest)) last
lead_by head last line rest true is later h = (follows head line (comes_after head line is), later (head_after head (line_bytes line)) h)
lead_by head last line rest false is later h = absurd cc

lead : (head last : Head) (lines : List Line) → head_from head lines ≡ Some last → LeadTo head (map line_bytes lines) last
lead head last [] h = some_same head last h
  where
    some_same : (a b : Head) → Some a ≡ Some b → a ≡ b
    some_same a b e = cc
lead head last (line ∷ rest) h = lead_by head last line rest (is_after head line) refl (λ next. lead next last rest) h

pub lead_of : (lines : List Line) (head : Head) → head_of lines ≡ Some head → LeadTo start (map line_bytes lines) head
lead_of lines head h = lead start head lines h
