use Rattle.office_proof.proofs.CertificateLines.{lines_whole, columns_whole, words_joined, words_parted, lines_parted_again, head_reported, entries_in_order, spent_in_order}
use Rattle.office_proof.proofs.laws.law_of_certificate_lines.Goals as goal

pub returns : goal.returns
returns c = record {
  lines = lines_whole;
  lines_parted = lines_parted_again;
  columns = columns_whole;
  parted = words_parted;
  joined = words_joined;
  head = head_reported;
  entries_listed = entries_in_order;
  spent_listed = spent_in_order;
}
