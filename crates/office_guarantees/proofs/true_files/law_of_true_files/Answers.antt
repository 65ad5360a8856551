use Rattle.office_guarantees.proofs.Accounts.{true_from_no_file, true_since}
use Rattle.office_guarantees.proofs.true_files.law_of_true_files.Goals as goal

pub returns : goal.returns
returns c =
    let histories = c.law_of_file_histories.ensures in
    let certificate = c.law_of_a_true_certificate.ensures in
    let entry = c.law_of_true_entries.ensures in
    let texts = c.law_of_certificate_texts.ensures in
    let sound = c.law_of_soundness.ensures in
    let lasting = c.law_of_lasting_evidence.ensures.certificate in
    record {
      from_no_file = true_from_no_file sound.step lasting histories.follow histories.contents sound.empty (record { certificate = certificate.new_office; entry = entry.new_office; texts = texts.new_office });
      since = true_since sound.step lasting histories.follow histories.contents (record { certificate = certificate.since; entry = entry.since; texts = texts.kept });
    }
