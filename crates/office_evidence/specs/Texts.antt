-- The certificates of an office as texts. Source: own.
use Rattle.std.specs.Prelude.{◌≡◌, ℕ, List, Some, IsUtf8}
use Rattle.std.specs.FinMap.{get}
use Rattle.office_rules.specs.State.{Office}

-- each certificate that the office keeps is UTF-8
abbrev pub AreCertificatesUtf8 : Office → Type 0
AreCertificatesUtf8 s = (run : ℕ) (text : List ℕ) → get s.certificates run ≡ Some text → IsUtf8 text
