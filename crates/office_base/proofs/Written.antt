-- What writes one after the other append, of which the last may have failed.
use Rattle.std.proofs.Common.{◌≡◌, ◌∙◌, ap, refl, subst, sym, arith, ℕ, ◌+◌, ◌-◌, List, [], ◌++◌, append-nil, append_assoc, drop, length, length-append, length-drop, take, Option, Some, None, Result, Ok, Err, take_all, map, Bor, ◌<◌, ◌≤◌}
use Rattle.std.proofs.Math.Seq.{take-append-add, take-append_seam}
use Rattle.std.proofs.Math.ListN.{get_or}
use Rattle.std.proofs.lemmas.List.{at_drop_all, at_drop_more, take-append-drop, take-append-le}
use Rattle.std.specs.Prelude.{OnErr}
use Rattle.std.specs.List.{concat}
use Rattle.std.specs.Io.KnownBytes.{Appends, Keeps}
use Rattle.office_base.specs.Output.{AppendsSome}

pub appends_both : (old mid new : Option (List ℕ)) (a b : List ℕ) → Appends old mid a → Appends mid new b → Appends old new (a ++ b)
appends_both None mid new a b h k = tt
appends_both (Some xs) None new a b h k = absurd h
appends_both (Some xs) (Some ys) None a b h k = absurd k
appends_both (Some xs) (Some ys) (Some zs) a b h k = k ∙ ap (λ (t : List ℕ). t ++ b) h ∙ append_assoc xs a b

-- what is kept gains nothing
pub appends_none : (old new : Option (List ℕ)) → Keeps old new → Appends old new []
appends_none None new h = tt
appends_none (Some xs) None h = absurd h
appends_none (Some xs) (Some ys) h = h ∙ sym (append-nil xs)

pub all_then : (old mid new : Option (List ℕ)) (a b : List ℕ) → Appends old mid a → Appends mid new b → Appends old new (a ++ b)
all_then old mid new a b h k = appends_both old mid new a b h k

-- some of the second, after all of the first
pub some_then : (old mid new : Option (List ℕ)) (a b : List ℕ) → Appends old mid a → AppendsSome mid new b → AppendsSome old new (a ++ b)
some_then old mid new a b h it = record {
  count = length a + it.count;
  within = omega (arith, it.within, length-append a b);
  out = rw (take-append-add a b it.count) (appends_both old mid new a (take it.count b) h it.out);
}

-- some of the first, and nothing of the second
pub some_before : (old new : Option (List ℕ)) (a b : List ℕ) → AppendsSome old new a → AppendsSome old new (a ++ b)
some_before old new a b it = record {
  count = it.count;
  within = omega (arith, it.within, length-append a b);
  out = rw (take-append-le it.count a b it.within) it.out;
}

-- all of them, with nothing after
pub kept_some : (old mid new : Option (List ℕ)) (a : List ℕ) → Appends old mid a → Keeps mid new → AppendsSome old new a
kept_some old mid new a h k = record {
  count = length a;
  within = omega arith;
  out = rw (take_all (length a) a (omega arith)) (subst (λ (x : List ℕ). Appends old new x) (append-nil a) (appends_both old mid new a [] h (appends_none mid new k)));
}

-- ---- as far as bytes were written

-- these bytes were written of all, and those are left
pub record IsPut (old new : Option (List ℕ)) (all left : List ℕ) : Type 0 where
  pub done : List ℕ
  pub parts : all ≡ done ++ left
  pub written : Appends old new done

pub none_put : (old : Option (List ℕ)) (all : List ℕ) → IsPut old old all all
none_put None all = record { done = []; parts = refl; written = tt }
none_put (Some xs) all = record { done = []; parts = refl; written = sym (append-nil xs) }

pub all_put : (old new : Option (List ℕ)) (all left : List ℕ) → left ≡ [] → IsPut old new all left → Appends old new all
all_put old new all left none it =
    let same : all ≡ it.done = it.parts ∙ (ap (λ (x : List ℕ). it.done ++ x) none ∙ append-nil it.done) in
    subst (λ (x : List ℕ). Appends old new x) (sym same) it.written

pub more_put : (old mid new : Option (List ℕ)) (all left : List ℕ) (n : ℕ) → IsPut old mid all left → Appends mid new (take n left) → IsPut old new all (drop n left)
more_put old mid new all left n it more = record {
  done = it.done ++ take n left;
  parts = it.parts ∙ (ap (λ (x : List ℕ). it.done ++ x) (sym (take-append-drop n left)) ∙ sym (append_assoc it.done (take n left) (drop n left)));
  written = appends_both old mid new it.done (take n left) it.written more;
}

kept : (old mid new : Option (List ℕ)) (done : List ℕ) → Appends old mid done → Keeps mid new → Appends old new done
kept old mid new done h k = subst (λ (x : List ℕ). Appends old new x) (append-nil done) (appends_both old mid new done [] h (appends_none mid new k))

pub kept_put : (old mid new : Option (List ℕ)) (all left : List ℕ) → IsPut old mid all left → Keeps mid new → IsPut old new all left
kept_put old mid new all left it keeps = record { done = it.done; parts = it.parts; written = kept old mid new it.done it.written keeps }

-- what was put is some of all
pub some_put : (old new : Option (List ℕ)) (all left : List ℕ) → IsPut old new all left → AppendsSome old new all
some_put old new all left it = record {
  count = length it.done;
  within = omega (arith, ap length it.parts, length-append it.done left);
  out = subst (λ (x : List ℕ). Appends old new x) (sym (ap (λ (x : List ℕ). take (length it.done) x) it.parts ∙ take-append_seam it.done left)) it.written;
}

-- and so is what was written where the second failed
pub err_then : {T E : Type 0} (r : Result T E) (old mid new : Option (List ℕ)) (a b : List ℕ) → Appends old mid a → OnErr r (AppendsSome mid new b) → OnErr r (AppendsSome old new (a ++ b))
err_then (Ok x) old mid new a b h k = tt
err_then (Err e) old mid new a b h k = some_then old mid new a b h k

-- what is left after the first n is all that is left
pub left_of : (n : ℕ) (xs : List ℕ) → take (length xs - n) (drop n xs) ≡ drop n xs
left_of n xs =
    let ys : List ℕ = drop n xs in
    ap (λ (k : ℕ). take k ys) (sym (length-drop n xs)) ∙ (ap (λ (x : List ℕ). take (length ys) x) (sym (append-nil ys)) ∙ take-append_seam ys [])

-- ---- parts one after another

abbrev pub bytes_of : List (Bor (List ℕ)) → List ℕ
bytes_of parts = concat (map (λ (part : Bor (List ℕ)). part.now) parts)

pub next_part : (parts : List (Bor (List ℕ))) (i : ℕ) (d : Bor (List ℕ)) → i < length parts → bytes_of (drop i parts) ≡ (get_or parts i d).now ++ bytes_of (drop (i + 1) parts)
next_part parts i d inside = at_drop_more bytes_of parts i d inside

pub on_err : {T E P : Type 0} (r : Result T E) → P → OnErr r P
on_err (Ok x) p = tt
on_err (Err e) p = p

pub no_part : (old : Option (List ℕ)) (parts : List (Bor (List ℕ))) (i : ℕ) → length parts ≤ i → Appends old old (bytes_of (drop i parts))
no_part None parts i past = tt
no_part (Some xs) parts i past = rw (at_drop_all bytes_of parts i past) (sym (append-nil xs))
