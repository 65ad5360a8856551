use Rattle.csv.specs.Reading.{reader_state, source_of}
use Rattle.office_csv.specs.ImportText.{IsPlain}
use Rattle.office_wire.proofs.Imported.{Prefix}
use Rattle.office_wire.proofs.record_import.import_rows.Given as goal

abbrev pub invariant-loop-before : goal.invariant-loop-before
invariant-loop-before g l =
    IsPlain l.rdr
    × Prefix g.S.Store l.day (reader_state l.initial.rdr) (source_of g.R.Read.remaining l.initial.rdr) (reader_state l.rdr) (source_of g.R.Read.remaining l.rdr) l.initial.desk l.desk
    (g.W.Write.contents l.initial.out) (g.W.Write.contents l.out) l.before l.refused
