-- What a beginning of a file is read as.
use Rattle.std.proofs.Common.{◌≡◌, ◌⊎◌, inl, inr, ◌∙◌, ◌+◌, ◌==◌, ◌&&◌, ◌||◌, ℕ, List, [], ◌∷◌, ◌++◌, length, take, drop, codes, cond, not, Bool, true, false, Option, Some, None, Result, Ok, Err, refl, sym, ap, subst, arith}
use Rattle.std.specs.List.{list_any}
use Rattle.std.specs.Option.{is_some}
use Rattle.std.proofs.Math.Dec.{eqb-suc-zero}
use Rattle.std.proofs.lemmas.Bool.{eqb-true}
use Rattle.std.proofs.lemmas.List.{take-append-drop}
use Rattle.std.proofs.lemmas.List.Folds.{list_any-append}
use Rattle.office_settings.specs.declared.wrong.Fault.{Fault}
use Rattle.office_settings.specs.declared.wrong.Wrong.{Wrong}
use Rattle.office_settings.specs.declared.wrong.Wrong.TheVariants.{AfterEnd, Alike, BeginBelow, CutOff, EndAlone, NoRole, NoSite, NoZone, NotUtf8, SetTwice, SignedText, UnknownRole}
use Rattle.office_settings.specs.Beginnings.{HasAllOrFault}
use Rattle.office_settings.specs.Files.{Entry, entries_from, entries_of, fault_at, has_begin, has_end, has_setting, is_alike, is_begin, is_end, lines_in, same_setting, sets_again, setting_of, shown_by, then_entries, unless, unless_wrong, whole, with_line, with_read, with_statement}
use Rattle.office_settings.specs.Looks.{is_signable, text_in}
use Rattle.office_settings.specs.Statements.{Line, statement_of}
use Rattle.office_settings.specs.Tokens.{tokens_in}
use Rattle.office_settings.proofs.Ends.{end_read, end_words}
use Rattle.office_settings.proofs.LinesCut.{AreCutLines, cut_lines}
use Rattle.office_settings.proofs.WordsCut.{first_word}

-- ---- a line

abbrev pub entry_of : ℕ → Line → Entry
entry_of number it = record { number = number; line = it }

-- a line that has a statement
pub record HasOne (above : List Entry) (number : ℕ) (text : List ℕ) (entries : List Entry) : Type 0 where
  pub it : Line
  pub reads : statement_of (tokens_in text) ≡ Ok it
  pub appends : entries ≡ above ++ entry_of number it ∷ []
  pub open_so : has_end above ≡ false
  pub placed : (is_begin it && not (length above == 0)) ≡ false

-- a line that has none
pub record HasNone (above : List Entry) (text : List ℕ) (entries : List Entry) : Type 0 where
  pub empty : (length (tokens_in text) == 0) ≡ true
  pub same : entries ≡ above

by_tests : (above entries : List Entry) (number : ℕ) (it : Line) (low alone again bad like : Bool) → (is_begin it && not (length above == 0)) ≡ low
    → unless_wrong number (cond low (Some BeginBelow) (cond alone (Some EndAlone) None)) (cond again (Err (fault_at number SetTwice))
    (cond bad (Err (fault_at number SignedText)) (cond like (Err (fault_at number Alike)) (Ok (above ++ entry_of number it ∷ []))))) ≡ Ok entries
    → ((is_begin it && not (length above == 0)) ≡ false) × (entries ≡ above ++ entry_of number it ∷ [])
by_tests above entries number it true alone again bad like e h = absurd cc
by_tests above entries number it false true again bad like e h = absurd cc
by_tests above entries number it false false true bad like e h = absurd cc
by_tests above entries number it false false false true like e h = absurd cc
by_tests above entries number it false false false false true e h = absurd cc
by_tests above entries number it false false false false false e h = (e, cc)

with_tests : (above entries : List Entry) (number : ℕ) (it : Line) → with_statement above number it ≡ Ok entries
    → ((is_begin it && not (length above == 0)) ≡ false) × (entries ≡ above ++ entry_of number it ∷ [])
with_tests above entries number it h =
    by_tests above entries number it (is_begin it && not (length above == 0)) (is_end it && not (has_begin above)) (list_any (sets_again it) above)
    (not (is_signable (shown_by it))) (list_any (is_alike it) above) refl h

by_line : (above entries : List Entry) (number : ℕ) (text : List ℕ) (bad empty ended : Bool) (read : Result Line Wrong)
    → (length (tokens_in text) == 0) ≡ empty → has_end above ≡ ended → statement_of (tokens_in text) ≡ read
    → cond bad (Err (fault_at number NotUtf8)) (cond empty (Ok above) (cond ended (Err (fault_at number AfterEnd)) (with_read above number read))) ≡ Ok entries
    → HasNone above text entries ⊎ HasOne above number text entries
by_line above entries number text true empty ended read n e s h = absurd cc
by_line above entries number text false true ended read n e s h = inl (record { empty = n; same = cc })
by_line above entries number text false false true read n e s h = absurd cc
by_line above entries number text false false false (Err wrong) n e s h = absurd cc
by_line above entries number text false false false (Ok it) n e s h =
    let tests = with_tests above entries number it h in
    inr (record { it = it; reads = s; appends = tests.1; open_so = e; placed = tests.0 })

pub at_line : (above entries : List Entry) (number : ℕ) (text : List ℕ) → with_line above number text ≡ Ok entries
    → HasNone above text entries ⊎ HasOne above number text entries
at_line above entries number text h =
    by_line above entries number text (not (is_some (text_in text))) (length (tokens_in text) == 0) (has_end above) (statement_of (tokens_in text))
    refl refl refl h

-- ---- lines

pub record Goes (read : Result (List Entry) Fault) (next : List Entry → Result (List Entry) Fault) (entries : List Entry) : Type 0 where
  pub middle : List Entry
  pub first : read ≡ Ok middle
  pub then_so : next middle ≡ Ok entries

pub goes : (read : Result (List Entry) Fault) (next : List Entry → Result (List Entry) Fault) (entries : List Entry) → then_entries read next ≡ Ok entries
    → Goes read next entries
goes (Err fault) next entries h = absurd cc
goes (Ok middle) next entries h = record { middle = middle; first = refl; then_so = h }

by_front : (read : Result (List Entry) Fault) (n m : ℕ) (front lines : List (List ℕ))
    → ((above : List Entry) → entries_from above n (front ++ lines) ≡ then_entries (entries_from above n front) (λ entries. entries_from entries m lines))
    → then_entries read (λ entries. entries_from entries n (front ++ lines))
    ≡ then_entries (then_entries read (λ entries. entries_from entries n front)) (λ entries. entries_from entries m lines)
by_front (Err fault) n m front lines h = refl
by_front (Ok above) n m front lines h = h above

parted_at : (front lines : List (List ℕ)) (n m : ℕ) → n + length front ≡ m → (above : List Entry)
    → entries_from above n (front ++ lines) ≡ then_entries (entries_from above n front) (λ entries. entries_from entries m lines)
parted_at [] lines n m e above = let same : n ≡ m = omega (arith, e) in ap (λ k. entries_from above k lines) same
parted_at (text ∷ front) lines n m e above =
    by_front (with_line above n text) (n + 1) m front lines (parted_at front lines (n + 1) m (let it : (n + 1) + length front ≡ m = omega (arith, e) in it))

-- below the mark `end` nothing is appended
ended_line : (above entries : List Entry) (number : ℕ) (text : List ℕ) → has_end above ≡ true → with_line above number text ≡ Ok entries → entries ≡ above
ended_line above entries number text e h = elim (at_line above entries number text h) [ inl none ↦ none.same | inr one ↦ absurd (contrary (sym e ∙ one.open_so)) ]
  where
    contrary : true ≡ false → ⊥
    contrary h = cc

ended : (lines : List (List ℕ)) (above entries : List Entry) (number : ℕ) → has_end above ≡ true → entries_from above number lines ≡ Ok entries
    → entries ≡ above
ended [] above entries number e h = cc
ended (text ∷ rest) above entries number e h =
    let step = goes (with_line above number text) (λ it. entries_from it (number + 1) rest) entries h in
    let same = ended_line above step.middle number text e step.first in
    ended rest step.middle entries (number + 1) (ap has_end same ∙ e) step.then_so ∙ same

-- below another statement no mark `begin` is appended
pub last_off : (xs : List Entry) (it : Entry) (p : Line → Bool) → list_any (λ entry. p entry.line) xs ≡ false → p it.line ≡ false
    → list_any (λ entry. p entry.line) (xs ++ it ∷ []) ≡ false
last_off xs it p h k = list_any-append (λ (entry : Entry). p entry.line) xs (it ∷ []) ∙ off (list_any (λ (entry : Entry). p entry.line) xs) (p it.line) h k
  where
    off : (a b : Bool) → a ≡ false → b ≡ false → (a || (b || false)) ≡ false
    off a b h k = rw (h, k) refl

pub and_off : (a b : Bool) → b ≡ true → (a && b) ≡ false → a ≡ false
and_off true b e h = absurd cc
and_off false b e h = refl

unbegun : (lines : List (List ℕ)) (first : Entry) (others entries : List Entry) (number : ℕ) → has_begin (first ∷ others) ≡ false
    → entries_from (first ∷ others) number lines ≡ Ok entries → has_begin entries ≡ false
unbegun [] first others entries number e h = let same : first ∷ others ≡ entries = cc in ap has_begin (sym same) ∙ e
unbegun (text ∷ rest) first others entries number e h =
    let step = goes (with_line (first ∷ others) number text) (λ it. entries_from it (number + 1) rest) entries h in
    elim (at_line (first ∷ others) step.middle number text step.first) [
      | inl none ↦ unbegun rest first others entries (number + 1) e (ap (λ (above : List Entry). entries_from above (number + 1) rest) (sym none.same) ∙ step.then_so)
      | inr one ↦
          unbegun rest first (others ++ entry_of number one.it ∷ []) entries (number + 1)
          (last_off (first ∷ others) (entry_of number one.it) is_begin e (and_off (is_begin one.it) (not (length (first ∷ others) == 0)) (ap not (eqb-suc-zero (length others))) one.placed))
          (ap (λ (above : List Entry). entries_from above (number + 1) rest) (sym one.appends) ∙ step.then_so)
    ]

-- ---- the whole

pub record IsWhole (entries : List Entry) : Type 0 where
  pub ends : (has_begin entries && not (has_end entries)) ≡ false
  pub site : has_setting entries 0 ≡ true
  pub zone : has_setting entries 1 ≡ true

by_parts : (entries read : List Entry) (cut site zone : Bool) (unknown signer : Option Entry) → (has_begin entries && not (has_end entries)) ≡ cut
    → has_setting entries 0 ≡ site → has_setting entries 1 ≡ zone
    → cond cut (Err (record { line = None; wrong = CutOff })) (cond (not site) (Err (record { line = None; wrong = NoSite }))
    (cond (not zone) (Err (record { line = None; wrong = NoZone })) (unless unknown UnknownRole (unless signer NoRole (Ok entries))))) ≡ Ok read
    → IsWhole entries × (read ≡ entries)
by_parts entries read true site zone unknown signer c s z h = absurd cc
by_parts entries read false false zone unknown signer c s z h = absurd cc
by_parts entries read false true false unknown signer c s z h = absurd cc
by_parts entries read false true true (Some entry) signer c s z h = absurd cc
by_parts entries read false true true None (Some entry) c s z h = absurd cc
by_parts entries read false true true None None c s z h = (record { ends = c; site = s; zone = z }, cc)

is_whole : (entries read : List Entry) → whole entries ≡ Ok read → IsWhole entries × (read ≡ entries)
unfolding whole
is_whole entries read h =
    by_parts entries read (has_begin entries && not (has_end entries)) (has_setting entries 0) (has_setting entries 1) _ _ refl refl refl h

pub record AreRead (lines : List (List ℕ)) (entries : List Entry) : Type 0 where
  pub from : entries_from [] 1 lines ≡ Ok entries
  pub whole_so : IsWhole entries

pub are_read : (lines : List (List ℕ)) (entries : List Entry) → entries_of lines ≡ Ok entries → AreRead lines entries
unfolding entries_of
are_read lines entries h =
    let step = goes (entries_from [] 1 lines) whole entries h in
    let done = is_whole step.middle entries step.then_so in
    record { from = step.first ∙ ap (λ (es : List Entry). Ok es) (sym done.1); whole_so = subst IsWhole (sym done.1) done.0 }

-- one statement is not both the site and the time zone
one_setting : (n : Option ℕ) → same_setting n (Some 0) ≡ true → same_setting n (Some 1) ≡ true → ⊥
one_setting None h k = cc
one_setting (Some n) h k = let zero_so = eqb-true n 0 h in let one_so = eqb-true n 1 k in omega arith

or_off : (a : Bool) → (a || false) ≡ true → a ≡ true
or_off true h = refl
or_off false h = h

-- ---- the line that is cut

pub both_ends : (a e : Bool) → (a && not e) ≡ false → a ≡ true → e ≡ true
both_ends true true h k = refl
both_ends true false h k = absurd cc
both_ends false e h k = absurd cc

or_last : (a b : Bool) → a ≡ false → (a || (b || false)) ≡ true → b ≡ true
or_last true b h k = absurd cc
or_last false true h k = refl
or_last false false h k = k

or_first : (a b : Bool) → a ≡ true → (a || b) ≡ true
or_first true b h = refl
or_first false b h = absurd cc

or_more : (a b : Bool) → b ≡ true → (a || (b || false)) ≡ true
or_more true b h = refl
or_more false b h = rw h refl

pub contrary : (b : Bool) → b ≡ true → b ≡ false → ⊥
contrary b h k = absurd cc

-- a line that is cut in its mark `end`, or behind it
by_end : (a c entries : List Entry) (m : ℕ) (cut more : List ℕ) (below : List (List ℕ)) → entries_from a m ((cut ++ more) ∷ below) ≡ Ok entries
    → (one : HasOne a m cut c) → is_end one.it ≡ true → c ≡ entries
by_end a c entries m cut more below h one e =
    let words = end_words (tokens_in cut) one.it one.reads e in
    let word = first_word cut more (codes "end") words.rest words.is in
    let cut_ends = end_read [] words.rest one.it (ap statement_of (sym words.is) ∙ one.reads) in
    let step = goes (with_line a m (cut ++ more)) (λ it. entries_from it (m + 1) below) entries h in
    elim (at_line a step.middle m (cut ++ more) step.first) [
      | inl none ↦ absurd (contrary (length (tokens_in (cut ++ more)) == 0) none.empty (ap (λ (ws : List (List ℕ)). length ws == 0) word.is ∙ eqb-suc-zero (length word.rest)))
      | inr two ↦
          let whole_ends = end_read word.on word.rest two.it (ap statement_of (sym word.is) ∙ two.reads) in
          let same : step.middle ≡ c = two.appends ∙ ap (λ (it : Line). a ++ entry_of m it ∷ []) (whole_ends ∙ sym cut_ends) ∙ sym one.appends in
          let has : has_end c ≡ true =
          ap has_end one.appends ∙ list_any-append (λ (entry : Entry). is_end entry.line) a (entry_of m one.it ∷ []) ∙ or_more (has_end a) (is_end one.it) e in
          sym (ended below step.middle entries (m + 1) (ap has_end same ∙ has) step.then_so ∙ same)
    ]

begun_cut : (a c entries : List Entry) (m : ℕ) (cut more : List ℕ) (below : List (List ℕ)) (e : Bool) → entries_from a m ((cut ++ more) ∷ below) ≡ Ok entries
    → with_line a m cut ≡ Ok c → IsWhole c → has_begin a ≡ true → has_end a ≡ e → c ≡ entries
begun_cut a c entries m cut more below true h k it b e =
    ended_line a c m cut e k ∙ sym (ended ((cut ++ more) ∷ below) a entries m e h)
begun_cut a c entries m cut more below false h k it b e = elim (at_line a c m cut k) [
  | inl none ↦
      absurd (contrary (has_end c) (both_ends (has_begin c) (has_end c) it.ends (ap has_begin none.same ∙ b)) (ap has_end none.same ∙ e))
  | inr one ↦
      let begins : has_begin c ≡ true =
      ap has_begin one.appends ∙ list_any-append (λ (entry : Entry). is_begin entry.line) a (entry_of m one.it ∷ []) ∙ or_first (has_begin a) (is_begin one.it || false) b in
      let ends : (has_end a || (is_end one.it || false)) ≡ true =
      sym (ap has_end one.appends ∙ list_any-append (λ (entry : Entry). is_end entry.line) a (entry_of m one.it ∷ [])) ∙ both_ends (has_begin c) (has_end c) it.ends begins in
      by_end a c entries m cut more below h one (or_last (has_end a) (is_end one.it) e ends)
]

unbegun_cut : (a c entries : List Entry) (m : ℕ) (cut more : List ℕ) (below : List (List ℕ)) → entries_from a m ((cut ++ more) ∷ below) ≡ Ok entries
    → with_line a m cut ≡ Ok c → IsWhole c → has_begin a ≡ false → has_begin entries ≡ true → c ≡ entries
unbegun_cut [] c entries m cut more below h k it b e = elim (at_line [] c m cut k) [
  | inl none ↦ absurd (contrary (has_setting c 0) it.site (ap (λ (es : List Entry). has_setting es 0) none.same))
  | inr one ↦
      let site : same_setting (setting_of one.it) (Some 0) ≡ true = or_off _ (sym (ap (λ (es : List Entry). has_setting es 0) one.appends) ∙ it.site) in
      let zone : same_setting (setting_of one.it) (Some 1) ≡ true = or_off _ (sym (ap (λ (es : List Entry). has_setting es 1) one.appends) ∙ it.zone) in
      absurd (one_setting (setting_of one.it) site zone)
]
unbegun_cut (first ∷ others) c entries m cut more below h k it b e =
    absurd (contrary (has_begin entries) e (unbegun ((cut ++ more) ∷ below) first others entries m b h))

at_cut : (a c entries : List Entry) (m : ℕ) (cut more : List ℕ) (below : List (List ℕ)) (b : Bool) → entries_from a m ((cut ++ more) ∷ below) ≡ Ok entries
    → with_line a m cut ≡ Ok c → IsWhole c → has_begin a ≡ b → has_begin entries ≡ true → c ≡ entries
at_cut a c entries m cut more below true h k it b e = begun_cut a c entries m cut more below (has_end a) h k it b refl
at_cut a c entries m cut more below false h k it b e = unbegun_cut a c entries m cut more below h k it b e

-- ---- the lines of a beginning

of_lines : (lines part : List (List ℕ)) (entries c : List Entry) → AreCutLines lines part → entries_of lines ≡ Ok entries → has_begin entries ≡ true
    → entries_of part ≡ Ok c → c ≡ entries
of_lines lines part entries c it h b k =
    let all_read = are_read lines entries h in
    let part_read = are_read part c k in
    let all_steps = goes (entries_from [] 1 it.front) (λ a. entries_from a (1 + length it.front) ((it.cut ++ it.more) ∷ it.below)) entries
    (sym (parted_at it.front ((it.cut ++ it.more) ∷ it.below) 1 (1 + length it.front) refl [])
    ∙ ap (λ (ls : List (List ℕ)). entries_from [] 1 ls) (sym it.are) ∙ all_read.from) in
    let part_steps = goes (entries_from [] 1 it.front) (λ a. entries_from a (1 + length it.front) (it.cut ∷ [])) c
    (sym (parted_at it.front (it.cut ∷ []) 1 (1 + length it.front) refl []) ∙ ap (λ (ls : List (List ℕ)). entries_from [] 1 ls) (sym it.begin_so)
    ∙ part_read.from) in
    let same : part_steps.middle ≡ all_steps.middle = one (sym part_steps.first ∙ all_steps.first) in
    let last = goes (with_line part_steps.middle (1 + length it.front) it.cut) (λ a. Ok a) c part_steps.then_so in
    at_cut all_steps.middle c entries (1 + length it.front) it.cut it.more it.below (has_begin all_steps.middle) all_steps.then_so
    (ap (λ (a : List Entry). with_line a (1 + length it.front) it.cut) (sym same) ∙ last.first ∙ last.then_so) part_read.whole_so refl b
  where
    one : {x y : List Entry} → (let read : Result (List Entry) Fault = Ok x in read) ≡ Ok y → x ≡ y
    one h = cc

of_text : (text : List ℕ) (n : ℕ) (entries c : List Entry) → entries_of (lines_in text) ≡ Ok entries → has_begin entries ≡ true
    → entries_of (lines_in (take n text)) ≡ Ok c → c ≡ entries
of_text text n entries c h b k =
    let cut = cut_lines (λ b. b == 10) (take n text) (drop n text) in
    of_lines (lines_in text) (lines_in (take n text)) entries c
    (subst (λ (all : List ℕ). AreCutLines (lines_in all) (lines_in (take n text))) (take-append-drop n text) cut) h b k

by_read : (entries : List Entry) (read : Result (List Entry) Fault) → ((c : List Entry) → read ≡ Ok c → c ≡ entries) → HasAllOrFault entries read
by_read entries (Err fault) h = tt
by_read entries (Ok c) h = h c refl

-- a beginning of a file with marks
pub beginning : (text : List ℕ) (n : ℕ) (entries : List Entry) → entries_of (lines_in text) ≡ Ok entries → has_begin entries ≡ true
    → HasAllOrFault entries (entries_of (lines_in (take n text)))
beginning text n entries h b = by_read entries (entries_of (lines_in (take n text))) (λ c k. of_text text n entries c h b k)
