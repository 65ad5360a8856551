use Rattle.std.proofs.Common.{inl, inr, refl}
use Rattle.std.specs.Prelude.{option_map}
use Rattle.csv.specs.Reading.{strip_bom}
use Rattle.sqlite.specs.Held.{state}
use Rattle.office_commands.specs.Importing.{ImportEnds}
use Rattle.office_commands.specs.Opening.{WasAt, WasFound}
use Rattle.office_commands.proofs.Callings.{clean_closed, once_closed, shield_closed}
use Rattle.office_commands.proofs.Desks.{represent_some, was_at}
use Rattle.office_commands.proofs.Imports.{imports_of}
use Rattle.office_commands.proofs.Unopened.{unopened}
use Rattle.office_commands.proofs.record_import.import_on.Goals as goal

pub returns-in-Ok-clause-ends : goal.returns-in-Ok-clause-ends
returns-in-Ok-clause-ends g c =
    let desk = c.import_at-exit.new.desk in
    let text = g.R.Read.remaining c.args.input.now in
    once_closed _ _ c.close.ensures.same
    (λ h. ImportEnds c.args.day text (state g.S.Store c.args.conn) (state g.S.Store h) (g.W.Write.contents c.args.out.now) (g.W.Write.contents c.import_at-exit.new.out) c.import_at-exit.result)
    (inr (
      represent_some g.S.Store c.args.conn c.in-Ok.desk c.in-Ok.ensures.ok (state g.S.Store desk.connection) c.import_at-exit.ensures.clean,
      imports_of (WasAt g.S.Store c.in-Ok.desk desk) (WasFound (state g.S.Store c.args.conn) (state g.S.Store desk.connection)) (was_at g.S.Store c.args.conn c.in-Ok.desk c.in-Ok.ensures.ok desk c.import_at-exit.ensures.clean)
          c.args.day (option_map strip_bom text) _ _ _ _ c.import_at-exit.ensures.done,
    ))

pub returns-in-Ok-clause-clean : goal.returns-in-Ok-clause-clean
returns-in-Ok-clause-clean g c = clean_closed g.S.Store c.args.conn c.import_at-exit.new.desk.connection c.close.result c.close.ensures.same (λ clean. c.in-Ok.ensures.ok.clean (c.import_at-exit.ensures.clean clean))

pub returns-in-Err-clause-ends : goal.returns-in-Err-clause-ends
returns-in-Err-clause-ends g c = inl (c.in-Err.fault, refl, unopened g.S.Store c.args.conn c.in-Err.fault c.in-Err.conn c.in-Err.ensures.err, refl)

pub returns-in-Err-clause-clean : goal.returns-in-Err-clause-clean
returns-in-Err-clause-clean g c = c.in-Err.ensures.err.clean

pub returns-in-Ok-clause-shield : goal.returns-in-Ok-clause-shield
returns-in-Ok-clause-shield g c = shield_closed g.S.Store c.args.conn c.import_at-exit.new.desk.connection c.close.result c.close.ensures.same (λ shielded. c.import_at-exit.ensures.shield (c.in-Ok.ensures.ok.shield shielded))

pub returns-in-Err-clause-shield : goal.returns-in-Err-clause-shield
returns-in-Err-clause-shield g c = c.in-Err.ensures.err.shield
