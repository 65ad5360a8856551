use Rattle.office_notes.proofs.ReadNumbers.{read_numbers}
use Rattle.office_notes.proofs.Readings.{read_back}
use Rattle.office_notes.proofs.laws.law_of_readings.Goals as goal

pub returns-clause-whole : goal.returns-clause-whole
returns-clause-whole c = read_back

pub returns-clause-numbers : goal.returns-clause-numbers
returns-clause-numbers c = read_numbers
