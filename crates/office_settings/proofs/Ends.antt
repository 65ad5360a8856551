-- The words that are the mark below all other statements.
use Rattle.std.proofs.Common.{◌≡◌, ◌∙◌, ◌==◌, ◌&&◌, ◌||◌, ℕ, List, [], ◌∷◌, ◌++◌, length, codes, cond, not, nat_lt, Bool, true, false, Option, Some, None, Result, Ok, Err, refl, sym, ap}
use Rattle.std.specs.List.{list_all}
use Rattle.std.specs.Str.{bytes_eq}
use Rattle.std.proofs.lemmas.Slice.Eq.{bytes_eq-Decides}
use Rattle.office_settings.specs.declared.wrong.Wrong.{Wrong}
use Rattle.office_settings.specs.declared.wrong.Wrong.TheVariants.{Act, Beginning, Class, Condition, Journal, Keep, Limit, Mark, Name, NameLine, Role, RoleLine, Rule, SentActs, Site, Thing, Zone}
use Rattle.office_settings.specs.Addresses.{is_site, is_zone}
use Rattle.office_settings.specs.Files.{is_end}
use Rattle.office_settings.specs.Forms.{is_class, is_name, is_role}
use Rattle.office_settings.specs.Keywords.{is_act, is_on_or_off, is_thing}
use Rattle.office_settings.specs.Numbers.{only_number}
use Rattle.office_settings.specs.Statements.{Line, Parts, acts_line, is_condition, is_line, journal_line, keep_line, limit_line, mark_line, may_line, name_line, numbered, parted, reads_line, reason_line, role_line, rule_line, site_line, statement_of, then_line, things_line, zone_line}
use Rattle.office_settings.specs.Statements as line

-- if it is the mark, then the test holds
abbrev EndsIf : Bool → Result Line Wrong → Type 0
EndsIf e (Err wrong) = Unit {0}
EndsIf e (Ok line) = is_end line ≡ true → e ≡ true

abbrev NoEnd : Result Line Wrong → Type 0
NoEnd read = EndsIf false read

both : (b e : Bool) (one other : Result Line Wrong) → EndsIf b one → EndsIf b other → EndsIf b (cond e one other)
both b true one other h k = h
both b false one other h k = k

any_way : (b : Bool) (read : Result Line Wrong) → NoEnd read → EndsIf b read
any_way b (Err wrong) h = tt
any_way b (Ok line) h = λ e. absurd (contrary (h e))
  where
    contrary : false ≡ true → ⊥
    contrary h = cc

then_none : (parts : Result Parts Wrong) (next : Parts → Result Line Wrong) → ((it : Parts) → NoEnd (next it)) → NoEnd (then_line parts next)
then_none (Err wrong) next h = tt
then_none (Ok parts) next h = h parts

numbered_none : (line : ℕ → Line) (n : Option ℕ) → ((k : ℕ) → is_end (line k) ≡ false) → NoEnd (numbered line n)
numbered_none line None h = tt
numbered_none line (Some n) h = λ e. sym (h n) ∙ e

acts_none : (role : List ℕ) (parts : Parts) → NoEnd (acts_line role parts)
acts_none role parts =
    both false (length parts.before == 0) (Err Act) _ tt
    (both false (not (list_all is_act parts.before)) (Err Act) _ tt (both false (not (list_all is_class parts.after)) (Err Class) _ tt (λ e. e)))

things_none : (role : List ℕ) (sent : Bool) (parts : Parts) → NoEnd (things_line role sent parts)
things_none role sent parts =
    both false (length parts.before == 0) (Err Thing) _ tt
    (both false (not (list_all is_thing parts.before)) (Err Thing) _ tt (both false (not (list_all is_class parts.after)) (Err Class) _ tt (λ e. e)))

may_none : (role : List ℕ) (rest : List (List ℕ)) → NoEnd (may_line role rest)
unfolding may_line
may_none role rest =
    then_none (parted (codes "if") rest) _
    (λ condition. both false (not (is_condition condition.after)) (Err Condition) _ tt
    (then_none (parted (codes "in") condition.before) _ (λ parts. both false (length condition.after == 0) _ (Err SentActs) (acts_none role parts) tt)))

reads_none : (role : List ℕ) (rest : List (List ℕ)) → NoEnd (reads_line role rest)
unfolding reads_line
reads_none role rest =
    then_none (parted (codes "if") rest) _
    (λ condition. both false (not (is_condition condition.after)) (Err Condition) _ tt
    (then_none (parted (codes "in") condition.before) _ (things_none role (nat_lt 0 (length condition.after)))))

role_none : (rest : List (List ℕ)) → NoEnd (role_line rest)
unfolding role_line
role_none [] = tt
role_none (role ∷ []) = tt
role_none (role ∷ verb ∷ rest) =
    both false ((length rest == 0) || not (bytes_eq verb (codes "may") || bytes_eq verb (codes "reads"))) (Err RoleLine) _ tt
    (both false (not (is_role role)) (Err Role) _ tt (both false (bytes_eq verb (codes "may")) _ _ (may_none role rest) (reads_none role rest)))

is_none : (name : List ℕ) (parts : Parts) → NoEnd (is_line name parts)
unfolding is_line
is_none name parts =
    both false (not (list_all is_class parts.after)) (Err Class) _ tt (both false (bytes_eq name (codes "*")) _ _ (λ e. e) (λ e. e))

name_none : (rest : List (List ℕ)) → NoEnd (name_line rest)
unfolding name_line
name_none [] = tt
name_none (name ∷ []) = tt
name_none (name ∷ verb ∷ rest) =
    both false (length rest == 0) (Err NameLine) _ tt
    (both false (bytes_eq verb (codes "is")) _ _
    (both false (not (is_name name) && not (bytes_eq name (codes "*"))) (Err Name) _ tt (then_none (parted (codes "in") rest) _ (is_none name)))
    (both false (not (bytes_eq verb (codes "signs"))) (Err NameLine) _ tt (both false (not (is_name name)) (Err Name) _ tt (λ e. e))))

reason_none : (acts : List (List ℕ)) → NoEnd (reason_line acts)
reason_none acts = both false (length acts == 0) (Err Act) _ tt (both false (list_all is_act acts) _ (Err Act) (λ e. e) tt)

rule_none : (rest : List (List ℕ)) → NoEnd (rule_line rest)
unfolding rule_line
rule_none [] = tt
rule_none (token ∷ rest) =
    both false (bytes_eq token (codes "changer-does-not-open")) _ _ (numbered_none line.changer (only_number 1 3_650 rest) (λ k. refl))
    (both false (bytes_eq token (codes "reason-for")) _ _ (reason_none rest)
    (both false (is_on_or_off token && (length rest == 0)) _ (Err Rule) (λ e. e) tt))

limit_none : (rest : List (List ℕ)) → NoEnd (limit_line rest)
unfolding limit_line
limit_none [] = tt
limit_none (token ∷ rest) =
    both false (bytes_eq token (codes "requests")) _ _ (numbered_none line.requests (only_number 1 1_000 rest) (λ k. refl))
    (both false (bytes_eq token (codes "lists")) _ _ (numbered_none line.lists (only_number 1 100 rest) (λ k. refl))
    (both false (bytes_eq token (codes "journal-bytes")) _ (Err Limit)
    (numbered_none line.journal_bytes (only_number 10_000 1_000_000_000_000 rest) (λ k. refl)) tt))

keep_none : (rest : List (List ℕ)) → NoEnd (keep_line rest)
unfolding keep_line
keep_none [] = tt
keep_none (token ∷ rest) =
    both false (bytes_eq token (codes "contents")) _ _ (numbered_none line.content_days (only_number 0 366 rest) (λ k. refl))
    (both false (bytes_eq token (codes "free")) _ (Err Keep) (numbered_none line.free_megabytes (only_number 0 1_000_000 rest) (λ k. refl)) tt)

journal_none : (rest : List (List ℕ)) → NoEnd (journal_line rest)
unfolding journal_line
journal_none [] = tt
journal_none (token ∷ []) =
    both false (bytes_eq token (codes "readings")) _ _ (λ e. e) (both false (bytes_eq token (codes "acts")) _ (Err Journal) (λ e. e) tt)
journal_none (first ∷ second ∷ rest) = tt

site_none : (rest : List (List ℕ)) → NoEnd (site_line rest)
unfolding site_line
site_none [] = tt
site_none (token ∷ []) = both false (is_site token) _ (Err Site) (λ e. e) tt
site_none (first ∷ second ∷ rest) = tt

zone_none : (rest : List (List ℕ)) → NoEnd (zone_line rest)
unfolding zone_line
zone_none [] = tt
zone_none (token ∷ []) = both false (is_zone token) _ (Err Zone) (λ e. e) tt
zone_none (first ∷ second ∷ rest) = tt

begin_none : (rest : List (List ℕ)) → NoEnd (mark_line line.begins rest)
begin_none rest = both false (length rest == 0) _ (Err Mark) (λ e. e) tt

by_word : (e : Bool) (read : Result Line Wrong) → EndsIf e (cond e read (Err Beginning))
by_word true (Err wrong) = tt
by_word true (Ok line) = λ k. refl
by_word false read = tt

-- only a line that begins with the word is the mark
only_end : (token : List ℕ) (rest : List (List ℕ)) → EndsIf (bytes_eq token (codes "end")) (statement_of (token ∷ rest))
unfolding statement_of
only_end token rest =
    let b = bytes_eq token (codes "end") in
    both b (bytes_eq token (codes "role")) _ _ (any_way b _ (role_none rest))
    (both b (bytes_eq token (codes "name")) _ _ (any_way b _ (name_none rest))
    (both b (bytes_eq token (codes "rule")) _ _ (any_way b _ (rule_none rest))
    (both b (bytes_eq token (codes "limit")) _ _ (any_way b _ (limit_none rest))
    (both b (bytes_eq token (codes "keep")) _ _ (any_way b _ (keep_none rest))
    (both b (bytes_eq token (codes "journal")) _ _ (any_way b _ (journal_none rest))
    (both b (bytes_eq token (codes "site")) _ _ (any_way b _ (site_none rest))
    (both b (bytes_eq token (codes "zone")) _ _ (any_way b _ (zone_none rest))
    (both b (bytes_eq token (codes "begin")) _ _ (any_way b _ (begin_none rest)) (by_word b (mark_line line.ends rest))))))))))

pub record IsEndLine (tokens : List (List ℕ)) : Type 0 where
  pub rest : List (List ℕ)
  pub is : tokens ≡ codes "end" ∷ rest

is_end_by : (token : List ℕ) (rest : List (List ℕ)) (read : Result Line Wrong) (line : Line) → read ≡ Ok line → is_end line ≡ true
    → EndsIf (bytes_eq token (codes "end")) read → IsEndLine (token ∷ rest)
is_end_by token rest (Err wrong) line is e h = absurd cc
is_end_by token rest (Ok it) line is e h =
    let same : it ≡ line = cc in
    record { rest = rest; is = ap (λ (w : List ℕ). w ∷ rest) ((bytes_eq-Decides token (codes "end")).0 (h (ap is_end same ∙ e))) }

none : (it : Line) → statement_of [] ≡ Ok it → ⊥
unfolding statement_of
none it is = cc

-- a line that is the mark begins with its word
pub end_words : (tokens : List (List ℕ)) (line : Line) → statement_of tokens ≡ Ok line → is_end line ≡ true → IsEndLine tokens
end_words [] line is e = absurd (none line is)
end_words (token ∷ rest) line is e = is_end_by token rest (statement_of (token ∷ rest)) line is e (only_end token rest)

mark_only : (e : Bool) (it : Line) → (let read : Result Line Wrong = cond e (Ok line.ends) (Err Mark) in read) ≡ Ok it → it ≡ line.ends
mark_only true it h = cc
mark_only false it h = absurd cc

-- a line that begins with the word, and goes on, is the mark or none
pub end_read : (on : List ℕ) (rest : List (List ℕ)) (it : Line) → statement_of ((codes "end" ++ on) ∷ rest) ≡ Ok it → it ≡ line.ends
unfolding statement_of
end_read [] rest it h = mark_only (length rest == 0) it h
end_read (b ∷ on) rest it h = absurd cc
