use Rattle.std.proofs.Common.{sym}
use Rattle.office_journal.proofs.Noted.{whole_lines}
use Rattle.office_journal.proofs.open.open_journal.Goals as goal

pub returns-clause-whole : goal.returns-clause-whole
returns-clause-whole c = whole_lines c.args.start.now c.args.text.now c.in_ok-head.field-0 (sym c.in_ok-head.ensures.exact)
