use Rattle.std.proofs.Common.{inr, refl}
use Rattle.office_noting.proofs.book.Book.note_settings.Goals as goal

pub returns-clause-line : goal.returns-clause-line
returns-clause-line g c =
    inr (record { at = c.text.result; sha256 = c.args.sha256; preceding = c.nothing.result }, refl, c.note_settings.ensures.noted)
