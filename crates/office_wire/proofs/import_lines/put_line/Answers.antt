use Rattle.office_base.proofs.Written.{err_then}
use Rattle.office_wire.proofs.import_lines.put_line.Goals as goal

pub returns-clause-err : goal.returns-clause-err
returns-clause-err g c = err_then c.put_word.result _ _ _ _ _ c.in_ok-put_number.ensures.ok c.put_word.ensures.err
