-- How rows are read, one after another.
use Rattle.std.proofs.Common.{◌≡◌, ◌≢◌, ◌∙◌, refl, sym, ap, ℕ, List, [], ◌∷◌, ◌++◌, map, length, true, false, Option, Some, None, inl, inr}
use Rattle.csv.specs.Machine.{Read, next_record}
use Rattle.csv.specs.Records.{AllText}
use Rattle.csv.specs.Reading.{default_config, Reached, NextIs, ReadsNext}
use Rattle.csv.specs.declared.parser.State.{State}
use Rattle.office_csv.specs.ImportRows.{Fields, fields_in}
use Rattle.office_csv.specs.ImportText.{AreAtPrefix, AreTexts, IsBadNext, IsEnded, TakesNoText}

taken : (q : Option Read) (fields : List (List ℕ)) (s : State) (rest : List ℕ) → NextIs q true fields s rest → (p : Read) × (q ≡ Some p) × (fields ≡ p.0) × (s ≡ p.1) × (rest ≡ p.2)
taken None fields s rest h = cc
taken (Some p) fields s rest h = (p, refl, h.1, h.2, h.3)

ended : (q : Option Read) (fields : List (List ℕ)) (s : State) (rest : List ℕ) → NextIs q false fields s rest → q ≡ None
ended None fields s rest h = refl
ended (Some p) fields s rest h = cc

-- ---- the rows

pub none_yet : (o : Option (List ℕ)) (s : State) → AreAtPrefix s o [] s o
unfolding Reached
none_yet None s = tt
none_yet (Some text) s = ((refl, refl), tt)

reached_more : (s0 : State) (text : List ℕ) (rows : List Fields) (s : State) (rest : List ℕ) (row : Fields) (p : Read) → Reached default_config s0 text (map fields_in rows) s rest → next_record default_config s [] [] rest ≡ Some p → fields_in row ≡ p.0 → Reached default_config s0 text (map fields_in (rows ++ row ∷ [])) p.1 p.2
unfolding Reached
reached_more s0 text [] s rest row p h e f = (p, (rw (h.0, h.1) e), f, (refl, refl))
reached_more s0 text (r ∷ rows) s rest row p h e f = (h.0, h.1, h.2, reached_more h.0.1 h.0.2 rows s rest row p h.3 e f)

texts_more : (rows : List Fields) (row : Fields) → AreTexts rows → AllText (fields_in row) → AreTexts (rows ++ row ∷ [])
texts_more [] row all one = (one, tt)
texts_more (r ∷ rows) row all one = (all.0, texts_more rows row all.1 one)

more_at : (s0 : State) (text : List ℕ) (rows : List Fields) (s s2 : State) (rest rest2 : List ℕ) (row : Fields) (p : Read) → Reached default_config s0 text (map fields_in rows) s rest → next_record default_config s [] [] rest ≡ Some p → fields_in row ≡ p.0 → s2 ≡ p.1 → rest2 ≡ p.2 → Reached default_config s0 text (map fields_in (rows ++ row ∷ [])) s2 rest2
more_at s0 text rows s s2 rest rest2 row p h e f es er = rw (es, er) (reached_more s0 text rows s rest row p h e f)

-- one row more
pub one_more : (o o1 o2 : Option (List ℕ)) (s0 s s2 : State) (rows : List Fields) (row : Fields) (fields : List (List ℕ)) → AreAtPrefix s0 o rows s o1 → ReadsNext default_config s o1 o2 true fields s2 → AllText fields → fields ≡ fields_in row → AreAtPrefix s0 o (rows ++ row ∷ []) s2 o2
one_more None o1 o2 s0 s s2 rows row fields f h all e = tt
one_more (Some text) None o2 s0 s s2 rows row fields f h all e = absurd f
one_more (Some text) (Some rest) None s0 s s2 rows row fields f h all e = absurd h
one_more (Some text) (Some rest) (Some rest2) s0 s s2 rows row fields f h all e =
    let k = taken _ fields s2 rest2 h in
    (more_at s0 text rows s s2 rest rest2 row k.0 f.0 k.1 (sym e ∙ k.2) k.3 k.4, texts_more rows row f.1 (rw e at all))

-- no row is left
pub no_more : (o1 o2 : Option (List ℕ)) (s s2 : State) (fields : List (List ℕ)) → ReadsNext default_config s o1 o2 false fields s2 → IsEnded s o1
no_more None o2 s s2 fields h = tt
no_more (Some rest) None s s2 fields h = absurd h
no_more (Some rest) (Some rest2) s s2 fields h = ended _ fields s2 rest2 h

-- the next row has another number of fields
pub bad_next : (o1 o2 : Option (List ℕ)) (s s2 : State) (fields : List (List ℕ)) → ReadsNext default_config s o1 o2 true fields s2 → length fields ≢ 7 → IsBadNext s o1
bad_next None o2 s s2 fields h bad = tt
bad_next (Some rest) None s s2 fields h bad = absurd h
bad_next (Some rest) (Some rest2) s s2 fields h bad =
    let k = taken _ fields s2 rest2 h in
    (k.0, k.1, inl (λ e. bad (ap length k.2 ∙ e)))

pub bad_text : (o : Option (List ℕ)) (s : State) → TakesNoText s o → IsBadNext s o
bad_text None s h = tt
bad_text (Some rest) s h = (h.0, h.1, inr h.2)
