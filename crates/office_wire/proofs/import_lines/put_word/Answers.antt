use Rattle.office_base.proofs.Written.{err_then}
use Rattle.office_wire.proofs.import_lines.put_word.Goals as goal

pub returns-clause-err : goal.returns-clause-err
returns-clause-err g c = err_then c.put_last.result _ _ _ _ _ c.in_ok-put_bytes.ensures.ok c.put_last.ensures.err
