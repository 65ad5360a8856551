-- A text decodes exactly where it is what encoding writes.
use Rattle.std.proofs.Common.{◌≡◌, ◌↔◌, refl, ℕ, List, Some, Result, Ok, Err}
use Rattle.std.specs.Result.{result_ok}
use Rattle.base64.specs.Engines.{standard}
use Rattle.base64.specs.GeneralPurpose.{decode_of, decoded_of, encode_of}
use Rattle.base64.proofs.EngineFacts.{decode_of_iff}
use Rattle.office_json.specs.Contents.{TakesEncodings}

ok_from : {E : Type 0} (r : Result (List ℕ) E) (b : List ℕ) → result_ok r ≡ Some b → r ≡ Ok b
ok_from (Ok x) b e = cc
ok_from (Err e) b h = cc

pub takes_encodings : TakesEncodings
unfolding decoded_of
takes_encodings text bytes t b =
    let both : (decode_of standard text ≡ Ok bytes) ↔ (text ≡ encode_of standard bytes) = decode_of_iff standard text bytes (refl, refl) t b in
    (λ e. both.0 (ok_from (decode_of standard text) bytes e), λ e. rw (both.1 e) refl)
