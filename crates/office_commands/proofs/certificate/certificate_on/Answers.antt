use Rattle.std.proofs.Common.{inl, inr, refl}
use Rattle.sqlite.specs.Held.{state}
use Rattle.office_commands.specs.Certifying.{CertificateEnds}
use Rattle.office_commands.proofs.Callings.{clean_closed, once_closed, shield_closed}
use Rattle.office_commands.proofs.Desks.{opened}
use Rattle.office_commands.proofs.Unopened.{unopened}
use Rattle.office_commands.proofs.certificate.certificate_on.Goals as goal

pub returns-in-Ok-clause-ends : goal.returns-in-Ok-clause-ends
returns-in-Ok-clause-ends g c =
    let it = c.in-Ok.ensures.ok in
    let desk = c.in-Ok.desk in
    once_closed _ _ c.close.ensures.same
    (λ h. CertificateEnds c.args.run (state g.S.Store c.args.conn) (state g.S.Store h) (g.W.Write.contents c.args.out.now) (g.W.Write.contents c.certificate_at-exit.new.out) c.certificate_at-exit.result)
    (inr (desk.office, opened g.S.Store c.args.conn desk it, c.certificate_at-exit.ensures))

pub returns-in-Ok-clause-clean : goal.returns-in-Ok-clause-clean
returns-in-Ok-clause-clean g c = clean_closed g.S.Store c.args.conn c.in-Ok.desk.connection c.close.result c.close.ensures.same c.in-Ok.ensures.ok.clean

pub returns-in-Err-clause-ends : goal.returns-in-Err-clause-ends
returns-in-Err-clause-ends g c = inl (c.in-Err.fault, refl, unopened g.S.Store c.args.conn c.in-Err.fault c.in-Err.conn c.in-Err.ensures.err, refl)

pub returns-in-Err-clause-clean : goal.returns-in-Err-clause-clean
returns-in-Err-clause-clean g c = c.in-Err.ensures.err.clean

pub returns-in-Ok-clause-shield : goal.returns-in-Ok-clause-shield
returns-in-Ok-clause-shield g c = shield_closed g.S.Store c.args.conn c.in-Ok.desk.connection c.close.result c.close.ensures.same c.in-Ok.ensures.ok.shield

pub returns-in-Err-clause-shield : goal.returns-in-Err-clause-shield
returns-in-Err-clause-shield g c = c.in-Err.ensures.err.shield
