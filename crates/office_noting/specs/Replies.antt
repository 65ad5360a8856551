-- The replies to requests that are not in the journal: status 503 with a word. Source: own; the status is that of RFC 9110
-- section 15.6.4.
use Rattle.std.specs.Prelude.{ℕ, codes, Result, Ok, Err}
use Rattle.office_http.specs.Replies.{Response, error_word_response}
use Rattle.office_http.specs.declared.reply.Allow.TheVariants as allow
use Rattle.office_http.specs.declared.status.Status.TheVariants as status
use Rattle.office_journal.specs.declared.unwritten.Unwritten.{Unwritten}

-- no line has the request, and nothing was done
unfoldable pub unasked_response : Response
unasked_response = error_word_response status.ServiceUnavailable allow.Absent (codes "journal")

-- no line has the answer, and what was asked for may be done
unfoldable pub unnoted_response : Response
unnoted_response = error_word_response status.ServiceUnavailable allow.Absent (codes "unnoted")

-- what goes out: the answer, once its line is in the journal
abbrev pub reply_after : Response → Result ℕ Unwritten → Response
reply_after done (Ok line) = done
reply_after done (Err why) = unnoted_response
