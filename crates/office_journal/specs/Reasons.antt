-- The reasons of a check in words. Source: own.
use Rattle.std.specs.Prelude.{ℕ, List, codes}
use Rattle.office_journal.specs.declared.wrong.Wrong.{Wrong}
use Rattle.office_journal.specs.declared.wrong.Wrong.TheVariants.{NoLine, OtherBefore, OtherNumber}

abbrev pub reason : Wrong → List ℕ
reason NoLine = codes "this is no line of a journal"
reason OtherBefore = codes "this line names another line before it"
reason OtherNumber = codes "this line has another number than the next"
