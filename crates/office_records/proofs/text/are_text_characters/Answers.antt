use Rattle.std.proofs.Common.{sym}
use Rattle.std.proofs.lemmas.Str.{is_utf8-from_IsUtf8}
use Rattle.office_records.proofs.PrintableTexts.{printable}
use Rattle.office_records.proofs.text.are_text_characters.Goals as goal

pub returns-then-are_printable-clause-characters : goal.returns-then-are_printable-clause-characters
returns-then-are_printable-clause-characters c = sym (printable c.args.text.now (c.are_printable.ensures c.if-are_printable.true))

pub returns-then-are_printable-clause-utf8 : goal.returns-then-are_printable-clause-utf8
returns-then-are_printable-clause-utf8 c = is_utf8-from_IsUtf8 c.args.text.now c.utf8.text

pub returns-clause-utf8 : goal.returns-clause-utf8
returns-clause-utf8 c = is_utf8-from_IsUtf8 c.args.text.now c.utf8.text
