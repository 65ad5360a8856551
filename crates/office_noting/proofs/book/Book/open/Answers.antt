use Rattle.std.proofs.Common.{inr, refl}
use Rattle.office_noting.proofs.book.Book.open.Goals as goal

pub returns-in-Err-clause-err : goal.returns-in-Err-clause-err
returns-in-Err-clause-err g c =
    inr (
      record { at = c.text.result; settings = c.args.settings; preceding = c.args.preceding },
      refl,
      c.note_opened.new.self,
      c.in-Err.ensures.noted,
    )
