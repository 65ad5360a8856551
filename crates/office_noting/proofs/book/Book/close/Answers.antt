use Rattle.std.proofs.Common.{inr}
use Rattle.office_noting.proofs.book.Book.close.Goals as goal

pub returns-clause-line : goal.returns-clause-line
returns-clause-line g c = inr (record { at = c.text.result; preceding = c.nothing.result }, c.note_closed.ensures.noted)
