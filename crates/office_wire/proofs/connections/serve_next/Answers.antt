use Rattle.office_wire.proofs.Exchanged.{some_next_served}
use Rattle.office_wire.proofs.connections.serve_next.Goals as goal

pub returns-clause-next : goal.returns-clause-next
returns-clause-next g c =
    some_next_served g.S.Store g.C.Reader.Read.remaining c.in_ok-reader.reader c.serve_with-served.new.reader g.C.Writer.Write.contents c.in_ok-reader.writer c.serve_with-served.new.writer c.serve_with-served.result c.args.desk.now c.serve_with-served.new.desk
    (record {
      served = c.serve_with-served.ensures.served;
      gone = c.serve_with-served.ensures.gone;
      unavailable = c.serve_with-served.ensures.unavailable;
      halves = c.serve_with-served.ensures.halves;
    })
    _ _ _ _ c.in_ok-reader.ensures.reports c.close.ensures.reports
