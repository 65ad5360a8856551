use Rattle.office_http.proofs.MessageLemmas.{is_message, is_message_head}
use Rattle.office_http.proofs.reply_text.law_of_replies.Goals as goal

pub returns-clause-message : goal.returns-clause-message
returns-clause-message c = is_message

pub returns-clause-head : goal.returns-clause-head
returns-clause-head c = is_message_head
