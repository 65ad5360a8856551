-- The rules of four eyes that the settings switch on. Source: docs/ACCESS.md, "Four eyes".
use Rattle.std.specs.Prelude.{ℕ, Bool, false, List, codes, min, Option, Some, None}
use Rattle.std.specs.List.{fold, list_any}
use Rattle.std.specs.Str.{bytes_eq}
use Rattle.office_access.specs.declared.rule.Rules.{Rules}
use Rattle.office_settings.specs.Files.{Entry}
use Rattle.office_settings.specs.Statements.{Line}
use Rattle.office_settings.specs.Statements as line

abbrev pub is_rule : List ℕ → Line → Bool
is_rule keyword (line.rule token) = bytes_eq token keyword
is_rule keyword _ = false

-- a line switches that rule on
abbrev pub is_on : List ℕ → List Entry → Bool
is_on keyword entries = list_any (λ entry. is_rule keyword entry.line) entries

-- the days of a line that has them, or those of the lines above; the office counts to 65535
abbrev pub changer_days : Option ℕ → Line → Option ℕ
changer_days above (line.changer days) = Some (min days 65535)
changer_days above _ = above

unfoldable pub rules_of : List Entry → Rules
rules_of entries = record {
  opener_does_not_carry_out = is_on (codes "opener-does-not-carry-out") entries;
  confirmer_does_not_open = is_on (codes "confirmer-does-not-open") entries;
  changer_does_not_open = fold (λ days entry. changer_days days entry.line) None entries;
  sender_does_not_receive = is_on (codes "sender-does-not-receive") entries;
  receiver_does_not_open = is_on (codes "receiver-does-not-open") entries;
}
