use Rattle.office_rules.proofs.WorkedTransfer.{here_is_sent, held_is_skipped, free_is_ended, other_digest, own_digest, is_received, ended_has_no_receipt}
use Rattle.office_rules.proofs.laws.worked.law_of_a_transfer.Goals as goal

pub returns : goal.returns
returns c = record {
  sent = here_is_sent;
  skipped = held_is_skipped;
  ended = free_is_ended;
  wrong_digest = other_digest;
  right_digest = own_digest;
  received = is_received;
  of_ended = ended_has_no_receipt;
}
