-- The certificate of a run, line by line: its text is that of its lines, and they are of their forms.
use Rattle.std.proofs.Common.{◌≡◌, ℕ, zero, suc, ℤ, Bool, true, false, cond, List, [], ◌∷◌, ◌++◌, length, map, filter, Option, Some, None, refl, ap, ◌∙◌, arith, unwrap_or, option_map, codes}
use Rattle.std.specs.Fmt.{decimal}
use Rattle.std.specs.List.{All, AllByRecursion, Contains, flat_map}
use Rattle.std.specs.Prelude.{IsSome}
use Rattle.std.proofs.lemmas.List.Elements.{All-contains, All-contains_itself, All-map, All-weaker, recursion_from_All}
use Rattle.office_records.specs.Lists.{numbered}
use Rattle.office_records.specs.Tree.{TreeState}
use Rattle.office_records.specs.declared.aggregation.Aggregation.{Aggregation}
use Rattle.office_records.specs.declared.head.Record.{Record}
use Rattle.office_rules.specs.Certificates.{aggregation_words, certificate_lines, certificate_text, counted, date_text, entry_words, lines_text, made_of, sealed, tabbed}
use Rattle.office_rules.specs.Outcomes.{is_ending, is_sending, is_skipping}
use Rattle.office_rules.specs.declared.entry.Entry.{Entry}
use Rattle.office_rules.specs.declared.outcome.Outcome.{Outcome}
use Rattle.office_evidence.specs.Parsed.{Certificate, columns_of, count_in, lines_of, spent_columns, text_of}
use Rattle.office_evidence.specs.declared.parsed.EntryLine.{EntryLine}
use Rattle.office_evidence.specs.declared.parsed.SpentLine.{SpentLine}

-- the line of an entry and its record
abbrev pub line_by : Entry → Option Record → EntryLine
line_by e o = record {
  record_no = e.record_no;
  outcome = e.outcome;
  ref_text = unwrap_or (option_map (λ head. head.ref_text) o) [];
  class = e.class;
  schedule = e.schedule;
  due = e.due;
  hold = e.hold;
  confirmed_by = e.confirmed_by;
  length = unwrap_or (option_map (λ head. head.length) o) 0;
  digest = unwrap_or (option_map (λ head. head.digest) o) [];
}

abbrev pub line_in : TreeState → Entry → EntryLine
line_in tree e = line_by e (numbered tree.records e.record_no)

abbrev pub spent_by : ℕ → Option Aggregation → SpentLine
spent_by a o = record { number = a; ref_text = unwrap_or (option_map (λ it. it.ref_text) o) [] }

abbrev pub spent_in : TreeState → ℕ → SpentLine
spent_in tree a = spent_by a (numbered tree.aggregations a)

-- the certificate of these
abbrev pub view_of : TreeState → ℕ → ℤ → List ℕ → List Entry → List ℕ → Certificate
view_of tree run day by entries spent = record { run = run; day = day; by = by; entries = map (line_in tree) entries; spent = map (spent_in tree) spent }

-- ---- its lines

by_first : {X Y : Type 0} (first : Bool) (x : X) (y : Y) (xs : List X) (ys : List Y) → length xs ≡ length ys → length (cond first (x ∷ xs) xs) ≡ length (cond first (y ∷ ys) ys)
by_first true x y xs ys same = ap suc same
by_first false x y xs ys same = same

as_many : (tree : TreeState) (test : Outcome → Bool) (entries : List Entry) → length (filter (λ e. test e.outcome) entries) ≡ length (filter (λ line. test line.outcome) (map (line_in tree) entries))
as_many tree test [] = refl
as_many tree test (e ∷ es) = by_first (test e.outcome) e (line_in tree e) (filter (λ e. test e.outcome) es) (filter (λ line. test line.outcome) (map (line_in tree) es)) (as_many tree test es)

same_count : (tree : TreeState) (test : Outcome → Bool) (entries : List Entry) → counted test entries ≡ count_in test (map (line_in tree) entries)
same_count tree test entries = ap decimal (as_many tree test entries)

one_line : (e : Entry) (o : Option Record) → IsSome o → made_of (entry_words e) o ≡ tabbed (columns_of (line_by e o)) ∷ []
unfolding entry_words
one_line e None there = absurd cc
one_line e (Some head) there = refl

entry_lines : (tree : TreeState) (entries : List Entry) → AllByRecursion (λ e. IsSome (numbered tree.records e.record_no)) entries
    → flat_map (λ e. made_of (entry_words e) (numbered tree.records e.record_no)) entries ≡ map (λ line. tabbed (columns_of line)) (map (line_in tree) entries)
entry_lines tree [] there = refl
entry_lines tree (e ∷ es) there =
    ap (λ (ls : List (List ℕ)). ls ++ flat_map (λ e. made_of (entry_words e) (numbered tree.records e.record_no)) es) (one_line e (numbered tree.records e.record_no) there.0)
    ∙ ap (λ (ls : List (List ℕ)). tabbed (columns_of (line_in tree e)) ∷ ls) (entry_lines tree es there.1)

one_spent : (a : ℕ) (o : Option Aggregation) → IsSome o → made_of (aggregation_words a) o ≡ tabbed (spent_columns (spent_by a o)) ∷ []
one_spent a None there = absurd cc
one_spent a (Some it) there = refl

spent_lines : (tree : TreeState) (spent : List ℕ) → AllByRecursion (λ a. IsSome (numbered tree.aggregations a)) spent
    → flat_map (λ a. made_of (aggregation_words a) (numbered tree.aggregations a)) spent ≡ map (λ it. tabbed (spent_columns it)) (map (spent_in tree) spent)
spent_lines tree [] there = refl
spent_lines tree (a ∷ rest) there =
    ap (λ (ls : List (List ℕ)). ls ++ flat_map (λ a. made_of (aggregation_words a) (numbered tree.aggregations a)) rest) (one_spent a (numbered tree.aggregations a) there.0)
    ∙ ap (λ (ls : List (List ℕ)). tabbed (spent_columns (spent_in tree a)) ∷ ls) (spent_lines tree rest there.1)

how_many : {X Y : Type 0} (f : X → Y) (xs : List X) → length xs ≡ length (map f xs)
how_many f [] = refl
how_many f (x ∷ xs) = ap suc (how_many f xs)

-- the lines of a run's certificate are those of its view, if each record and each aggregation is there
pub same_lines : (tree : TreeState) (run : ℕ) (day : ℤ) (by : List ℕ) (entries : List Entry) (spent : List ℕ) → All (λ e. IsSome (numbered tree.records e.record_no)) entries → All (λ a. IsSome (numbered tree.aggregations a)) spent
    → certificate_lines tree run day by entries spent ≡ lines_of (view_of tree run day by entries spent)
unfolding certificate_lines lines_of
same_lines tree run day by entries spent there spent_there =
    let ended = same_count tree is_ending entries in
    let sent = same_count tree is_sending entries in
    let skipped = same_count tree is_skipping entries in
    let listed = entry_lines tree entries (recursion_from_All (λ e. IsSome (numbered tree.records e.record_no)) entries there) in
    let many = ap decimal (how_many (spent_in tree) spent) in
    let last = spent_lines tree spent (recursion_from_All (λ a. IsSome (numbered tree.aggregations a)) spent spent_there) in
    λ i. (codes "CERTIFICATE " ++ decimal run)
    ∷ (codes "DAY " ++ date_text day)
    ∷ (codes "BY " ++ by)
    ∷ (codes "ENDED " ++ ended i)
    ∷ (codes "SENT " ++ sent i)
    ∷ (codes "SKIPPED " ++ skipped i)
    ∷ listed i
    ++ (codes "SPENT " ++ many i)
    ∷ last i

pub same_text : (tree : TreeState) (run : ℕ) (day : ℤ) (by : List ℕ) (entries : List Entry) (spent : List ℕ) → All (λ e. IsSome (numbered tree.records e.record_no)) entries → All (λ a. IsSome (numbered tree.aggregations a)) spent
    → certificate_text tree run day by entries spent ≡ text_of (view_of tree run day by entries spent)
unfolding certificate_text text_of
same_text tree run day by entries spent there spent_there = ap (λ (ls : List (List ℕ)). sealed (lines_text ls)) (same_lines tree run day by entries spent there spent_there)

-- ---- what a mapped list contains

pub all_of : {X : Type 0} (P : X → Type 0) (xs : List X) → ((x : X) → Contains xs x → P x) → All P xs
all_of P xs each = All-weaker (Contains xs) P each xs (All-contains_itself xs)

pub mapped_from : {X Y : Type 0} (f : X → Y) (xs : List X) (y : Y) → Contains (map f xs) y → (x : X) × Contains xs x × (f x ≡ y)
mapped_from {X} {Y} f xs y there =
    let Came : Y → Type 0 = λ z. (x : X) × Contains xs x × (f x ≡ z) in
    All-contains Came (map f xs) y (All-map Came f xs (all_of (λ x. Came (f x)) xs (λ x c. (x, c, refl)))) there

pub in_mapped : {X Y : Type 0} (f : X → Y) (xs : List X) (x : X) → Contains xs x → Contains (map f xs) (f x)
in_mapped f [] x (k, low, same) = absurd (omega arith)
in_mapped f (y ∷ ys) x (zero, low, same) = (0, omega arith, ap f same)
in_mapped f (y ∷ ys) x (suc k, low, same) = let rest = in_mapped f ys x (k, omega arith, same) in (suc rest.0, omega (arith, rest.1), rest.2)
