-- What a resumption left of the file, once the desk is closed.
use Rattle.sqlite.specs.Held.{state}
use Rattle.sqlite_trees.specs.declared.store.Store.{Ghosts}
use Rattle.office_rules.specs.State.{State}
use Rattle.office_desk.specs.Desk.{DeskState}
use Rattle.office_desk.specs.Resumptions.{RunCameTo, RunLeads, RunLeaves, RunLeft, RunOutcome, none_open, run_closed, run_stopped}

leads_left : {S : Type 0} (g : Ghosts S) (s : State) (o : RunOutcome) (d : DeskState S) → RunLeads g s o d → RunLeaves s o (state g d.connection)
leads_left g s (run_closed run) d at = at.rows
leads_left g s none_open d at = at.rows
leads_left g s (run_stopped f) d stop = (stop.0, stop.1, stop.3)

pub run_left : {S : Type 0} (g : Ghosts S) (s : State) (o : RunOutcome) (d : DeskState S) → RunCameTo g s o d → RunLeft o (state g d.connection) s
run_left g s o d it = record {
  fits = it.fits;
  leaves = leads_left g s o d it.leads;
  whole = λ still begun run is m. (it.whole still begun run is m).rows;
  midway = it.midway;
  none = it.none;
  fates = it.fates;
}
