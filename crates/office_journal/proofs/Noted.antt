-- The lines that are written are those of a journal.
use Rattle.std.proofs.Common.{◌≡◌, ◌∙◌, ℕ, zero, suc, ◌+◌, ◌-◌, ◌^◌, ◌<◌, ◌≤◌, ◌==◌, cond, Bool, true, false, List, [], ◌∷◌, ◌++◌, length, take, Some, Result, Ok, Err, refl, sym, ap, subst, arith, append_assoc, append-nil, length-append}
use Rattle.std.specs.Prelude.{codes}
use Rattle.std.specs.Fmt.{decimal}
use Rattle.std.proofs.lemmas.List.Elements.{recursion_from_All}
use Rattle.std.proofs.Math.Seq.{take-append_seam}
use Rattle.hex.specs.Hex.{encode_lower}
use Rattle.json.specs.Print.{print}
use Rattle.json.specs.Token.{end_object}
use Rattle.json.proofs.Printed.Decimals.{IsNumber-decimal}
use Rattle.office_journal.specs.declared.head.Head.{Head}
use Rattle.office_journal.specs.declared.check.Checked.{Checked}
use Rattle.office_journal.specs.declared.wrong.Wrong.{Wrong}
use Rattle.office_journal.specs.declared.wrong.Wrong.TheVariants.{NoLine, OtherNumber}
use Rattle.office_journal.specs.declared.wrong.WrongLine.{WrongLine}
use Rattle.office_journal.specs.Chain.{IsDigest}
use Rattle.office_journal.specs.Journals.{begun, checked, checked_from, checked_step, follow, is_whole, linked, numbered, open_once, pieces, rest_after, with_first}
use Rattle.office_journal.specs.Lines.{head_after}
use Rattle.office_journal.specs.Members.{AreWritable, Field, fields_tokens, members_text}
use Rattle.office_journal.specs.Noting.{AllWritable, GoOn, last_of, left_by_stop, line_of, with_feed, written}
use Rattle.office_journal.proofs.Bytes.{hex_pass}
use Rattle.office_journal.proofs.Digests.{IsDigest-sha256}
use Rattle.office_journal.proofs.Parts.{rest_after-append}
use Rattle.office_journal.proofs.Scanned.{NoFeed, off, good, good_closes, good_feeds, out, within, is_inert, inerts}
use Rattle.office_journal.proofs.ShownText.{shown_good}
use Rattle.office_journal.proofs.Tokens.{fields_text, number_text}

-- ---- one line is whole

regroup : (a h m n k t : List ℕ) → ((((a ++ h) ++ m) ++ n) ++ k) ++ t ≡ a ++ (h ++ (m ++ (n ++ (k ++ t))))
regroup a h m n k t = simp append_assoc

-- the text behind the number closes the brace, and has no line feed
members_good : (fields : List Field) → AreWritable fields → good (out 0) (members_text fields) ≡ true
unfolding members_text
members_good fields w = shown_good 0 (print (fields_tokens fields ++ end_object ∷ [])) w.utf8 ∙ fields_text false fields w.numbers

-- what follows the first brace of a line
abbrev behind_brace : Head → List Field → List ℕ
behind_brace head fields =
    codes "\"before\":\"" ++ (encode_lower head.digest ++ (codes "\",\"line\":" ++ (decimal (head.line + 1) ++ (codes "," ++ members_text fields))))

brace : (head : Head) (fields : List Field) → line_of head fields ≡ 123 ∷ behind_brace head fields
brace head fields = regroup (codes "{\"before\":\"") (encode_lower head.digest) (codes "\",\"line\":") (decimal (head.line + 1)) (codes ",") (members_text fields)

good_line : (head : Head) (fields : List Field) → IsDigest head.digest → head.line < 2 ^ 64 - 1 → AreWritable fields → good open_once (behind_brace head fields) ≡ true
good_line head fields digest room w =
    let text = members_text fields in
    let number : List ℕ = decimal (head.line + 1) in
    begins (encode_lower head.digest ++ (codes "\",\"line\":" ++ (number ++ (codes "," ++ text))))
    ∙ inerts 0 true (encode_lower head.digest) (codes "\",\"line\":" ++ (number ++ (codes "," ++ text))) (hex_pass is_inert refl head.digest (recursion_from_All _ _ digest.1))
    ∙ middle (number ++ (codes "," ++ text))
    ∙ number_text 0 number (codes "," ++ text) (IsNumber-decimal (head.line + 1) (omega (arith, room)))
    ∙ inerts 0 false (codes ",") text refl
    ∙ members_good fields w
  where
    begins : (rest : List ℕ) → good open_once (codes "\"before\":\"" ++ rest) ≡ good (within 0) rest
    begins rest = refl

    middle : (rest : List ℕ) → good (within 0) (codes "\",\"line\":" ++ rest) ≡ good (out 0) rest
    middle rest = refl

whole_line : (head : Head) (fields : List Field) → IsDigest head.digest → head.line < 2 ^ 64 - 1 → AreWritable fields → is_whole (line_of head fields) ≡ true
whole_line head fields digest room w = ap is_whole (brace head fields) ∙ good_closes open_once (behind_brace head fields) (good_line head fields digest room w)

no_feed : (head : Head) (fields : List Field) → IsDigest head.digest → head.line < 2 ^ 64 - 1 → AreWritable fields → NoFeed (line_of head fields)
no_feed head fields digest room w =
    subst NoFeed (sym (brace head fields)) (refl, good_feeds open_once (behind_brace head fields) (good_line head fields digest room w))

-- ---- one line follows

grouped : (a h m n k t : List ℕ) → ((((a ++ h) ++ m) ++ n) ++ k) ++ t ≡ a ++ ((h ++ m) ++ ((n ++ k) ++ t))
grouped a h m n k t = simp append_assoc

follows_by : (head : Head) (line a hm nk t : List ℕ) → a ≡ codes "{\"before\":\"" → hm ≡ encode_lower head.digest ++ codes "\",\"line\":" → nk ≡ decimal (head.line + 1) ++ codes ","
    → line ≡ a ++ (hm ++ (nk ++ t)) → (head.line == 2 ^ 64 - 1) ≡ false → is_whole line ≡ true → follow head line ≡ Ok (head_after head line)
unfolding follow
follows_by head line a hm nk t ea eh en e room whole =
    let first : rest_after (codes "{\"before\":\"") line ≡ Some (hm ++ (nk ++ t)) =
    ap (λ p. rest_after p line) (sym ea) ∙ ap (rest_after a) e ∙ rest_after-append a (hm ++ (nk ++ t)) in
    let second : rest_after (encode_lower head.digest ++ codes "\",\"line\":") (hm ++ (nk ++ t)) ≡ Some (nk ++ t) =
    ap (λ p. rest_after p (hm ++ (nk ++ t))) (sym eh) ∙ rest_after-append hm (nk ++ t) in
    let third : rest_after (decimal (head.line + 1) ++ codes ",") (nk ++ t) ≡ Some t =
    ap (λ p. rest_after p (nk ++ t)) (sym en) ∙ rest_after-append nk t in
    ap (λ b. cond b (begun head line (rest_after (codes "{\"before\":\"") line)) (Err NoLine)) whole
    ∙ ap (begun head line) first
    ∙ ap (linked head line) second
    ∙ ap (λ b. cond b (Err OtherNumber) (numbered head line (rest_after (decimal (head.line + 1) ++ codes ",") (nk ++ t)))) room
    ∙ ap (numbered head line) third

line_follows : (head : Head) (fields : List Field) → IsDigest head.digest → head.line < 2 ^ 64 - 1 → AreWritable fields
    → follow head (line_of head fields) ≡ Ok (head_after head (line_of head fields))
line_follows head fields digest room w =
    follows_by head (line_of head fields) (codes "{\"before\":\"") (encode_lower head.digest ++ codes "\",\"line\":") (decimal (head.line + 1) ++ codes ",") (members_text fields)
    refl refl refl (grouped (codes "{\"before\":\"") (encode_lower head.digest) (codes "\",\"line\":") (decimal (head.line + 1)) (codes ",") (members_text fields))
    (no_last head.line room) (whole_line head fields digest room w)
  where
    no_last : (n : ℕ) → n < 2 ^ 64 - 1 → (n == 2 ^ 64 - 1) ≡ false
    no_last n h = off n (2 ^ 64 - 1) (λ e. omega (arith, e, h))

-- ---- pieces

pub pieces_line : (line rest : List ℕ) → NoFeed line → pieces (line ++ 10 ∷ rest) ≡ line ∷ pieces rest
pieces_line [] rest h = refl
pieces_line (b ∷ line) rest h =
    ap (λ e. cond e ([] ∷ pieces (line ++ 10 ∷ rest)) (with_first b (pieces (line ++ 10 ∷ rest)))) h.0
    ∙ ap (with_first b) (pieces_line line rest h.1)

pub pieces_torn : (torn : List ℕ) → NoFeed torn → pieces torn ≡ torn ∷ []
pieces_torn [] h = refl
pieces_torn (b ∷ torn) h =
    ap (λ e. cond e ([] ∷ pieces torn) (with_first b (pieces torn))) h.0 ∙ ap (with_first b) (pieces_torn torn h.1)

pub take_feed : (count : ℕ) (line : List ℕ) → NoFeed line → NoFeed (take count line)
take_feed zero line h = tt
take_feed (suc count) [] h = tt
take_feed (suc count) (b ∷ line) h = (h.0, take_feed count line h.1)

-- a text is whole lines, each with its line feed, and then bytes of a torn line
abbrev joined : List (List ℕ) → List ℕ
joined [] = []
joined (line ∷ lines) = (line ++ 10 ∷ []) ++ joined lines

abbrev EachNoFeed : List (List ℕ) → Type 0
EachNoFeed [] = Unit {0}
EachNoFeed (line ∷ lines) = NoFeed line × EachNoFeed lines

record Parted (text : List ℕ) : Type 0 where
  lines : List (List ℕ)
  torn : List ℕ
  whole : text ≡ joined lines ++ torn
  each : EachNoFeed lines
  last : NoFeed torn

part_more : (b : ℕ) (rest : List ℕ) (e : Bool) → (b == 10) ≡ e → (lines : List (List ℕ)) (torn : List ℕ) → rest ≡ joined lines ++ torn → EachNoFeed lines → NoFeed torn → Parted (b ∷ rest)
part_more b rest true is lines torn whole each last =
    record { lines = [] ∷ lines; torn = torn; whole = ap (λ x. x ∷ rest) (equal b 10 is) ∙ ap (λ xs. 10 ∷ xs) whole; each = (tt, each); last = last }
  where
    equal : (x y : ℕ) → (x == y) ≡ true → x ≡ y
    equal x y h = grind arith
part_more b rest false is [] torn whole each last = record { lines = []; torn = b ∷ torn; whole = ap (λ xs. b ∷ xs) whole; each = tt; last = (is, last) }
part_more b rest false is (line ∷ lines) torn whole each last =
    record { lines = (b ∷ line) ∷ lines; torn = torn; whole = ap (λ xs. b ∷ xs) whole; each = ((is, each.0), each.1); last = last }

parted : (text : List ℕ) → Parted text
parted [] = record { lines = []; torn = []; whole = refl; each = tt; last = tt }
parted (b ∷ rest) = let p = parted rest in part_more b rest (b == 10) refl p.lines p.torn p.whole p.each p.last

pieces_joined : (lines : List (List ℕ)) (more : List ℕ) → EachNoFeed lines → pieces (joined lines ++ more) ≡ lines ++ pieces more
pieces_joined [] more h = refl
pieces_joined (line ∷ lines) more h =
    ap pieces (apart line (joined lines) more) ∙ pieces_line line (joined lines ++ more) h.0 ∙ ap (λ ps. line ∷ ps) (pieces_joined lines more h.1)
  where
    apart : (a x y : List ℕ) → ((a ++ 10 ∷ []) ++ x) ++ y ≡ a ++ 10 ∷ (x ++ y)
    apart a x y = simp append_assoc

-- ---- the check goes on

-- a list that is not empty
record IsMore (ps : List (List ℕ)) : Type 0 where
  first : List ℕ
  rest : List (List ℕ)
  same : ps ≡ first ∷ rest

more_with : (b : ℕ) (ps : List (List ℕ)) → IsMore (with_first b ps)
more_with b [] = record { first = b ∷ []; rest = []; same = refl }
more_with b (piece ∷ ps) = record { first = b ∷ piece; rest = ps; same = refl }

more_pieces : (text : List ℕ) → IsMore (pieces text)
more_pieces [] = record { first = []; rest = []; same = refl }
more_pieces (b ∷ rest) = by (b == 10)
  where
    by : (e : Bool) → IsMore (cond e ([] ∷ pieces rest) (with_first b (pieces rest)))
    by true = record { first = []; rest = pieces rest; same = refl }
    by false = more_with b (pieces rest)

more_append : (lines ps : List (List ℕ)) → IsMore ps → IsMore (lines ++ ps)
more_append [] ps h = h
more_append (line ∷ lines) ps h = record { first = line; rest = lines ++ ps; same = refl }

one_step : (head : Head) (place : ℕ) (line : List ℕ) (ps : List (List ℕ)) → IsMore ps
    → checked_from head place (line ∷ ps) ≡ checked_step place (follow head line) (λ after. checked_from after (place + 1) ps)
one_step head place line ps h =
    ap (λ xs. checked_from head place (line ∷ xs)) h.same
    ∙ sym (ap (λ xs. checked_step place (follow head line) (λ after. checked_from after (place + 1) xs)) h.same)

ok_same : (a b : Checked) → (let r : Result Checked WrongLine = Ok a in r) ≡ Ok b → a ≡ b
ok_same a b h = cc

shifted_by : (one other : ℕ) (ps : List (List ℕ)) (read : Checked)
    → ((after : Head) → checked_from after (one + 1) ps ≡ Ok read → checked_from after (other + 1) ps ≡ Ok read)
    → (r : Result Head Wrong) → checked_step one r (λ after. checked_from after (one + 1) ps) ≡ Ok read
    → checked_step other r (λ after. checked_from after (other + 1) ps) ≡ Ok read
shifted_by one other ps read later (Err wrong) k = absurd cc
shifted_by one other ps read later (Ok after) k = later after k

-- places are only counted, so a check that finds nothing wrong does not depend on where it begins
shifted : (ps : List (List ℕ)) (head : Head) (one other : ℕ) (read : Checked) → checked_from head one ps ≡ Ok read → checked_from head other ps ≡ Ok read
shifted [] head one other read h = h
shifted (piece ∷ []) head one other read h = h
shifted (piece ∷ next ∷ ps) head one other read h =
    shifted_by one other (next ∷ ps) read (λ after. shifted (next ∷ ps) after (one + 1) (other + 1) read) (follow head piece) h

one_more : (torn : List ℕ) → IsMore (torn ∷ [])
one_more torn = record { first = torn; rest = []; same = refl }

gone_by : (place : ℕ) (ps qs : List (List ℕ)) (read after : Checked)
    → ((next : Head) → checked_from next (place + 1) ps ≡ Ok read → checked_from next (place + 1) qs ≡ Ok after)
    → (r : Result Head Wrong) → checked_step place r (λ next. checked_from next (place + 1) ps) ≡ Ok read
    → checked_step place r (λ next. checked_from next (place + 1) qs) ≡ Ok after
gone_by place ps qs read after later (Err wrong) e = absurd cc
gone_by place ps qs read after later (Ok next) e = later next e

-- where lines and a torn one were checked, the same lines and other pieces are
gone_on : (lines : List (List ℕ)) (torn : List ℕ) (ps : List (List ℕ)) (head : Head) (place : ℕ) (read : Checked) (after : Checked) → IsMore ps
    → checked_from head place (lines ++ torn ∷ []) ≡ Ok read → checked_from read.head 1 ps ≡ Ok after → checked_from head place (lines ++ ps) ≡ Ok after
gone_on [] torn ps head place read after more h k =
    let same : head ≡ read.head = ap (λ (c : Checked). c.head) (ok_same (record { head = head; torn = length torn }) read h) in
    shifted ps head 1 place after (ap (λ x. checked_from x 1 ps) same ∙ k)
gone_on (line ∷ lines) torn ps head place read after more h k =
    one_step head place line (lines ++ ps) (more_append lines ps more)
    ∙ gone_by place (lines ++ torn ∷ []) (lines ++ ps) read after (λ next e. gone_on lines torn ps next (place + 1) read after more e k) (follow head line)
    (sym (one_step head place line (lines ++ torn ∷ []) (more_append lines (torn ∷ []) (one_more torn))) ∙ h)

torn_by : (place : ℕ) (ps : List (List ℕ)) (torn : List ℕ) (read : Checked) → ((next : Head) → checked_from next (place + 1) ps ≡ Ok read → read.torn ≡ length torn)
    → (r : Result Head Wrong) → checked_step place r (λ next. checked_from next (place + 1) ps) ≡ Ok read → read.torn ≡ length torn
torn_by place ps torn read later (Err wrong) e = absurd cc
torn_by place ps torn read later (Ok next) e = later next e

-- as many bytes are torn as follow the lines
last_torn : (lines : List (List ℕ)) (torn : List ℕ) (head : Head) (place : ℕ) (read : Checked) → checked_from head place (lines ++ torn ∷ []) ≡ Ok read → read.torn ≡ length torn
last_torn [] torn head place read h = sym (ap (λ (c : Checked). c.torn) (ok_same (record { head = head; torn = length torn }) read h))
last_torn (line ∷ lines) torn head place read h =
    torn_by place (lines ++ torn ∷ []) torn read (λ next. last_torn lines torn next (place + 1) read) (follow head line)
    (sym (one_step head place line (lines ++ torn ∷ []) (more_append lines (torn ∷ []) (one_more torn))) ∙ h)

-- a text as the check parts it
split : (text : List ℕ) (p : Parted text) → pieces text ≡ p.lines ++ p.torn ∷ []
split text p = ap pieces p.whole ∙ pieces_joined p.lines p.torn p.each ∙ ap (λ ps. p.lines ++ ps) (pieces_torn p.torn p.last)

no_torn : (torn : List ℕ) → length torn ≡ 0 → torn ≡ []
no_torn [] h = refl
no_torn (b ∷ torn) h = absurd (omega (arith, h))

pub more_lines : (start head : Head) (text more : List ℕ) (read : Checked) → GoOn start text head → checked head more ≡ Ok read → checked start (text ++ more) ≡ Ok read
unfolding checked
more_lines start head text more read h k =
    let p = parted text in
    let here : checked_from start 1 (p.lines ++ p.torn ∷ []) ≡ Ok (record { head = head; torn = 0 }) = ap (checked_from start 1) (sym (split text p)) ∙ h in
    let none : p.torn ≡ [] = no_torn p.torn (sym (last_torn p.lines p.torn start 1 (record { head = head; torn = 0 }) here)) in
    let whole : text ++ more ≡ joined p.lines ++ more = ap (λ xs. xs ++ more) (p.whole ∙ ap (λ xs. joined p.lines ++ xs) none ∙ append-nil (joined p.lines)) in
    ap (λ xs. checked_from start 1 (pieces xs)) whole
    ∙ ap (checked_from start 1) (pieces_joined p.lines more p.each)
    ∙ gone_on p.lines p.torn (pieces more) start 1 (record { head = head; torn = 0 }) read (more_pieces more) here k

-- the lines without the torn one
pub whole_lines : (start : Head) (text : List ℕ) (read : Checked) → checked start text ≡ Ok read → GoOn start (take (length text - read.torn) text) read.head
unfolding checked
whole_lines start text read h =
    let p = parted text in
    let here : checked_from start 1 (p.lines ++ p.torn ∷ []) ≡ Ok read = ap (checked_from start 1) (sym (split text p)) ∙ h in
    let count : read.torn ≡ length p.torn = last_torn p.lines p.torn start 1 read here in
    let sum : length text ≡ length (joined p.lines) + length p.torn = ap length p.whole ∙ length-append (joined p.lines) p.torn in
    let size : length text - read.torn ≡ length (joined p.lines) = omega (arith, count, sum) in
    let cut : take (length text - read.torn) text ≡ joined p.lines =
    ap (λ n. take n text) size ∙ ap (take (length (joined p.lines))) p.whole ∙ take-append_seam (joined p.lines) p.torn in
    ap (λ xs. checked_from start 1 (pieces xs)) (cut ∙ sym (append-nil (joined p.lines)))
    ∙ ap (checked_from start 1) (pieces_joined p.lines [] p.each)
    ∙ gone_on p.lines p.torn ([] ∷ []) start 1 read (record { head = read.head; torn = 0 }) (one_more []) here refl

pub within_text : (start : Head) (text : List ℕ) (read : Checked) → checked start text ≡ Ok read → read.torn ≤ length text
unfolding checked
within_text start text read h =
    let p = parted text in
    let here : checked_from start 1 (p.lines ++ p.torn ∷ []) ≡ Ok read = ap (checked_from start 1) (sym (split text p)) ∙ h in
    let count : read.torn ≡ length p.torn = last_torn p.lines p.torn start 1 read here in
    let sum : length text ≡ length (joined p.lines) + length p.torn = ap length p.whole ∙ length-append (joined p.lines) p.torn in
    omega (arith, count, sum)

-- ---- what is written

pub one_written : (head : Head) (fields : List Field) → IsDigest head.digest → head.line < 2 ^ 64 - 1 → AreWritable fields
    → GoOn head (with_feed (line_of head fields)) (head_after head (line_of head fields))
unfolding checked
one_written head fields digest room w =
    let line = line_of head fields in
    ap (checked_from head 1) (pieces_line line [] (no_feed head fields digest room w))
    ∙ ap (λ r. checked_step 1 r (λ after. checked_from after 2 ([] ∷ []))) (line_follows head fields digest room w)

torn_alone : (head : Head) (torn : List ℕ) → NoFeed torn → checked head torn ≡ Ok (record { head = head; torn = length torn })
unfolding checked
torn_alone head torn h = ap (checked_from head 1) (pieces_torn torn h)

pub stopped : (head : Head) (lines : List (List Field)) (next : List Field) (count : ℕ) → IsDigest head.digest → AllWritable lines → AreWritable next
    → head.line + length lines < 2 ^ 64 - 1
    → checked head (left_by_stop head lines next count) ≡ Ok (record { head = last_of head lines; torn = length (take count (line_of (last_of head lines) next)) })
stopped head [] next count digest all w room = torn_alone head (take count (line_of head next)) (take_feed count (line_of head next) (no_feed head next digest (omega (arith, room)) w))
stopped head (fields ∷ lines) next count digest all w room =
    let line = line_of head fields in
    let after = head_after head line in
    let read : Checked = record { head = last_of after lines; torn = length (take count (line_of (last_of after lines) next)) } in
    ap (checked head) (append_assoc (with_feed line) (written after lines) (take count (line_of (last_of after lines) next)))
    ∙ more_lines head after (with_feed line) (left_by_stop after lines next count) read (one_written head fields digest (omega (arith, room)) all.0)
    (stopped after lines next count (IsDigest-sha256 line) all.1 w (omega (arith, room)))
