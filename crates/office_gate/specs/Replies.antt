-- The replies to what a name may not do: status 403 with the reason. Source: own; the status is that of RFC 9110 section
-- 15.5.4.
use Rattle.std.specs.Prelude.{ℕ, List, codes}
use Rattle.std.specs.Option.{option_map}
use Rattle.office_access.specs.Words.{denial_rule, denial_word, rule_word}
use Rattle.office_access.specs.declared.denial.Denial.{Denial}
use Rattle.office_http.specs.Replies.{Response, error_word_response}
use Rattle.office_http.specs.declared.reply.Allow.TheVariants as allow
use Rattle.office_http.specs.declared.status.Status.TheVariants as status
use Rattle.office_json.specs.Replies.{denial_data, denied_data}
use Rattle.office_rules.specs.declared.answer.Answer.{Answer}
use Rattle.office_wire.specs.Replies.{json_response}

-- why nothing is done or read
unfoldable pub denial_response : Denial → Response
denial_response denial =
    json_response status.Forbidden (denial_data (denial_word denial) (option_map rule_word (denial_rule denial)))

-- why an act at a place, from 0, is not done, and the answers to the acts before it
unfoldable pub denied_response : Denial → ℕ → List Answer → Response
denied_response denial place answers =
    json_response status.Forbidden
    (denied_data answers place (denial_word denial) (option_map rule_word (denial_rule denial)))

-- no proxy states who signed in
unfoldable pub token_response : Response
token_response = error_word_response status.Forbidden allow.Absent (codes "token")
