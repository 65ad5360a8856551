use Rattle.office_guarantees.proofs.SignedFiles.{files_name}
use Rattle.office_guarantees.proofs.signed_files.law_of_signed_files.Goals as goal

pub returns : goal.returns
returns c =
    let by_right = c.law_of_certificates_by_right.ensures in
    files_name c.law_of_acts_by_right.ensures.joined c.law_of_gated_offices.ensures c.law_of_a_true_certificate.ensures.new_office by_right.lines by_right.openings c.law_of_file_histories.ensures.follow
