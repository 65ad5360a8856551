use Rattle.office_evidence.proofs.TrueEntries.{entry_from_new, entry_since}
use Rattle.office_evidence.proofs.laws.truth.law_of_true_entries.Goals as goal

pub returns : goal.returns
returns c = record { new_office = entry_from_new; since = entry_since }
