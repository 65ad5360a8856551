use Rattle.std.proofs.Common.{◌≡◌, ◌≢◌, pos, sym, ap, ◌∙◌, rules}
use Rattle.office_sql.specs.declared.schema_versions.SchemaVersion.TheVariants as schema_version
use Rattle.office_desk.proofs.MigratedDesks.{not_moved, over_moved, over_store}
use Rattle.office_desk.proofs.desk.Desk.migrate.Goals as goal

pub returns-then-version-ne1-clause-ok : goal.returns-then-version-ne1-clause-ok
returns-then-version-ne1-clause-ok g c =
    over_store g.S.Store c.args.machine c.args.store c.new.result c.new.ensures.open c.new.ensures.office c.new.ensures.connection
    (λ rest.
    let reported : pos c.version.result ≡ pos 1 = c.version.ensures.rest schema_version.One rest in
    let one : c.version.result ≡ 1 = cc in
    let other : c.version.result ≢ 1 = search rules in
    other one)

pub returns-in-Ok-clause-ok : goal.returns-in-Ok-clause-ok
returns-in-Ok-clause-ok g c =
    over_moved g.S.Store c.args.machine c.args.store c.migrate.new.self c.new-in-Ok.result c.new-in-Ok.ensures.open c.new-in-Ok.ensures.office c.new-in-Ok.ensures.connection
    (λ rest.
    let two : pos c.version.result ≡ pos 2 = c.version.ensures.rest schema_version.Two rest in
    let one : c.version.result ≡ 1 = search rules in
    let wrong : pos 1 ≡ pos 2 = ap pos (sym one) ∙ two in
    cc)
    c.in-Ok.ensures.moved

pub returns-in-Err-clause-err : goal.returns-in-Err-clause-err
returns-in-Err-clause-err g c =
    not_moved g.S.Store c.args.store c.migrate.new.self c.release.result c.in-Err.fault c.release.ensures.same c.release.ensures.ended
    (λ rest.
    let two : pos c.version.result ≡ pos 2 = c.version.ensures.rest schema_version.Two rest in
    let one : c.version.result ≡ 1 = search rules in
    let wrong : pos 1 ≡ pos 2 = ap pos (sym one) ∙ two in
    cc)
    c.in-Err.ensures.moved
