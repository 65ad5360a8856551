-- What came of a line whose text was made.
use Rattle.std.proofs.Common.{◌≡◌, ◌≢◌, ◌∙◌, ℕ, ◌+◌, List, [], ◌∷◌, ◌++◌, Option, Result, Ok, Err, refl, ap, subst}
use Rattle.std.specs.Prelude.{IfErr, IfOk, OnOk}
use Rattle.std.specs.Str.{IsUtf8}
use Rattle.json.specs.Print.{print}
use Rattle.json.specs.Token.{Token, end_object}
use Rattle.office_journal.specs.declared.journal.Journal.{Journal}
use Rattle.office_journal.specs.declared.unwritten.Unwritten.{Unwritten}
use Rattle.office_journal.specs.declared.unwritten.Unwritten.TheVariants.{Memory, NoJson, Full, Io, Poisoned}
use Rattle.office_journal.specs.Lines.{opening}
use Rattle.office_journal.specs.Members.{AreShallow, AreWritable, Field, HaveNumbers, fields_tokens, members_text}
use Rattle.office_journal.specs.Noting.{IsNoted, IsUnwritten, IsWritten, line_of}
use Rattle.office_journal.specs.Shown.{shown}
use Rattle.office_journal.specs.Unread.{IsJudged}

-- the texts were read, so none of them refused the line
pub judged : (read : Type 0) (r : Result ℕ Unwritten) → read → r ≢ Err NoJson → IsJudged read r
judged read (Ok line) h k = h
judged read (Err Memory) h k = tt
judged read (Err NoJson) h k = absurd (k refl)
judged read (Err Full) h k = h
judged read (Err Io) h k = h
judged read (Err Poisoned) h k = h

-- the line with these members is the line with their text
noted_by : {W : Type 0} (contents : W → Option (List ℕ)) (old new : Journal W) (r : Result ℕ Unwritten) (fields : List Field)
    → AreWritable fields → AreShallow fields → OnOk r (IsWritten contents old new (line_of old.head fields)) → IfOk r (λ line. line ≡ old.head.line + 1)
    → IfErr r (IsUnwritten contents old new (line_of old.head fields)) → IsNoted contents old new fields r
noted_by contents old new (Ok line) fields w s h k u = (k, w, s, h)
noted_by contents old new (Err why) fields w s h k u = u

pub noted : {W : Type 0} (contents : W → Option (List ℕ)) (old new : Journal W) (r : Result ℕ Unwritten) (fields : List Field) (tokens : List Token) (text : List ℕ)
    → tokens ≡ fields_tokens fields → HaveNumbers fields → AreShallow fields → IsUtf8 (print (tokens ++ end_object ∷ [])) → text ≡ shown (print (tokens ++ end_object ∷ []))
    → OnOk r (IsWritten contents old new (opening old.head.digest (old.head.line + 1) ++ text))
    → IfOk r (λ line. line ≡ old.head.line + 1)
    → IfErr r (IsUnwritten contents old new (opening old.head.digest (old.head.line + 1) ++ text)) → IsNoted contents old new fields r
unfolding members_text
noted contents old new r fields tokens text e numbers shallow utf8 t h k u =
    let same : text ≡ members_text fields = t ∙ ap (λ ts. shown (print (ts ++ end_object ∷ []))) e in
    noted_by contents old new r fields (record { numbers = numbers; utf8 = subst (λ ts. IsUtf8 (print (ts ++ end_object ∷ []))) e utf8 }) shallow
    (subst (λ x. OnOk r (IsWritten contents old new (opening old.head.digest (old.head.line + 1) ++ x))) same h) k
    (subst (λ x. IfErr r (IsUnwritten contents old new (opening old.head.digest (old.head.line + 1) ++ x))) same u)
