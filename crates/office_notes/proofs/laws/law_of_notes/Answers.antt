use Rattle.office_notes.proofs.SameNotes.{same_but_content, same_text}
use Rattle.office_notes.proofs.laws.law_of_notes.Goals as goal

pub returns-clause-act : goal.returns-clause-act
returns-clause-act c = same_but_content

pub returns-clause-text : goal.returns-clause-text
returns-clause-text c = same_text
