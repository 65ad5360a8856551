-- What a buffer that was filled says of the body that lies in it.
use Rattle.std.proofs.Common.{◌≡◌, ◌∙◌, sym, ap, refl, subst, ℕ, ◌+◌, ◌-◌, ◌<◌, ◌≤◌, Bool, true, false, List, ◌++◌, [], length, length-append, length-drop, take, drop, append_assoc, slice_range, arith, Option, Some, None, Result, Ok, Err, OnOk, IfOk, IfSome, IsTrue, IsFalse}
use Rattle.std.specs.Io.KnownBytes.{Consumes, IsAtEnd}
use Rattle.std.proofs.lemmas.List.{take-append-le, drop-append-le}
use Rattle.office_http.specs.Bodies.{IsBody, ReadsBody}

moved : (start : ℕ) (buf piece left : List ℕ) → start ≤ length buf → drop start buf ++ (piece ++ left) ≡ drop start (buf ++ piece) ++ left
moved start buf piece left h = sym (append_assoc (drop start buf) piece left) ∙ ap (λ (t : List ℕ). t ++ left) (sym (drop-append-le start buf piece h))

fills : (n start : ℕ) (held left : List ℕ) → start + n ≤ length held → IsBody true n (drop start held ++ left) (take n (drop start held))
fills n start held left h =
    let long : n ≤ length (drop start held) = simp length-drop (omega (arith, h)) in
    (simp length-append (omega (arith, long)), take-append-le n (drop start held) left long)

whole_is : (start end : ℕ) (buf held piece left all : List ℕ) → start ≤ end → start ≤ length buf → held ≡ buf ++ piece → all ≡ piece ++ left → end ≤ length held → IsBody true (end - start) (drop start buf ++ all) (slice_range held start end)
whole_is start end buf held piece left all o s eh ea l =
    let same : drop start buf ++ all ≡ drop start held ++ left = ap (λ (t : List ℕ). drop start buf ++ t) ea ∙ (moved start buf piece left s ∙ ap (λ (t : List ℕ). drop start t ++ left) (sym eh)) in
    let P : List ℕ → Type 0 = λ t. IsBody true (end - start) t (slice_range held start end) in
    subst P (sym same) (fills (end - start) start held left (omega (arith, o, l)))

cut_is : (start end : ℕ) (buf held piece left all body : List ℕ) → start ≤ length buf → held ≡ buf ++ piece → all ≡ piece ++ left → left ≡ [] → length held < end → IsBody false (end - start) (drop start buf ++ all) body
cut_is start end buf held piece left all body s eh ea el l =
    let lh : length held ≡ length buf + length piece = ap length eh ∙ length-append buf piece in
    let la : length all ≡ length piece + length left = ap length ea ∙ length-append piece left in
    let ll : length left ≡ 0 = ap length el in
    simp (length-append, length-drop) (omega (arith, s, l, lh, la, ll))

body_read : (w : Bool) (old new : Option (List ℕ)) (start end : ℕ) (buf held piece : List ℕ) → start ≤ end → start ≤ length buf → held ≡ buf ++ piece → Consumes old new piece → (IsTrue w → end ≤ length held) → (IsFalse w → (length held < end) × IsAtEnd new) → IfSome old (λ left. IsBody w (end - start) (drop start buf ++ left) (slice_range held start end))
body_read w None new start end buf held piece o s e c k l = tt
body_read w (Some all) None start end buf held piece o s e c k l = absurd c
body_read true (Some all) (Some left) start end buf held piece o s e c k l = whole_is start end buf held piece left all o s e c (k refl)
body_read false (Some all) (Some left) start end buf held piece o s e c k l = cut_is start end buf held piece left all (slice_range held start end) s e c (l refl).1 (l refl).0

pub reads_body : {E : Type 0} (r : Result Bool E) (old new : Option (List ℕ)) (start end : ℕ) (buf held : List ℕ) → start ≤ end → start ≤ length buf → OnOk r ((piece : List ℕ) × (held ≡ buf ++ piece) × Consumes old new piece) → IfOk r (λ w. IsTrue w → end ≤ length held) → IfOk r (λ w. IsFalse w → (length held < end) × IsAtEnd new) → IfOk r (λ w. ReadsBody start end w buf held old new)
reads_body (Err e) old new start end buf held o s h k l = tt
reads_body (Ok w) old new start end buf held o s h k l = record { body = body_read w old new start end buf held h.0 o s h.1 h.2 k l; long = k; read = h }
