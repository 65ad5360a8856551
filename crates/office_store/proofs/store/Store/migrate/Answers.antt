use Rattle.std.proofs.Common.{◌≡◌, ◌≢◌, ◌∙◌, inl, inr, pos, rules, sym, subst}
use Rattle.std.proofs.lemmas.Result.{IfOk-weaker, IfErr-weaker}
use Rattle.sqlite.specs.Effect.{Database}
use Rattle.sqlite.specs.Held.{state}
use Rattle.office_rules.specs.Rows.{rows_of}
use Rattle.office_sql.specs.declared.schema_versions.SchemaVersion.TheVariants as schema_version
use Rattle.office_sql.specs.Migrated.{Migrates}
use Rattle.office_store.specs.Calling.{AreMoved}
use Rattle.office_store.specs.RepresentsRows.{AreOfficeTables, OldRepresentsRows, RepresentsRows}
use Rattle.office_store.proofs.Saved.{over_trees}
use Rattle.office_store.proofs.MovedRows.{moved_represent, ready_to_move, rest_moved}
use Rattle.office_store.proofs.store.Store.migrate.Goals as goal

pub returns-then-version-ne1-clause-moved : goal.returns-then-version-ne1-clause-moved
returns-then-version-ne1-clause-moved g c = record {
  faults = tt;
  clean = search rules;
  shield = λ shielded. shielded;
  moved = λ s clean holds.
      let reported : pos c.version.result ≡ pos 1 = c.version.ensures.rest schema_version.One holds.rest in
      let one : c.version.result ≡ 1 = cc in
      let other : c.version.result ≢ 1 = search rules in
      absurd (other one);
}

pub returns-clause-same : goal.returns-clause-same
returns-clause-same g c other =
    let one : c.version.result ≡ 1 = search rules in
    absurd (other (sym c.version.ensures.named ∙ one))

pub returns-clause-moved : goal.returns-clause-moved
returns-clause-moved g c =
    let old = state g.S.Store c.args.self.now in
    let new = state g.S.Store c.migrate_all.new.conn in
    record {
      faults = search rules;
      clean = search rules;
      shield = search rules;
      moved = λ s clean holds.
          let t = rows_of s in
          let r = c.migrate_all.result in
          let moves : Migrates t.day old new r = subst (λ h. Migrates t.day (state g.S.Store h) new r) c.self.view_is (c.migrate_all.ensures.migrates t.day) in
          let ready = ready_to_move t old.now.trees holds.represents in
          let it : AreMoved t old new r = record {
            ok = IfOk-weaker r _ _ (λ x did. record { rest = did.1; represents = moved_represent t old.now new.now holds.represents did.0 }) (moves.ok clean holds.rest ready);
            err = IfErr-weaker r _ _ (λ x left db may. elim (left db may) [
              | inl same ↦ inl same
              | inr next ↦ inr (subst (RepresentsRows t) (sym next.2) (moved_represent t old.now next.0 holds.represents next.1), subst AreOfficeTables (sym next.2) (over_trees schema_version.Two next.0 next.1.is_office))
            ]) (moves.err clean holds.rest ready);
            undone = λ is_open. IfErr-weaker r _ _ (λ x left. record { rest = left.1; represents = subst (λ (d : Database). OldRepresentsRows t d.trees) (sym left.0) holds.represents }) (moves.undone clean holds.rest ready is_open);
            rest = rest_moved t.day old new r clean holds.rest ready moves;
          } in
          let ok = it.ok in
          let err = it.err in
          let undone = it.undone in
          let rest = it.rest in
          search rules;
    }

pub returns-in_err-migrate_all-clause-moved : goal.returns-in_err-migrate_all-clause-moved
returns-in_err-migrate_all-clause-moved g c =
    let old = state g.S.Store c.args.self.now in
    let new = state g.S.Store c.migrate_all.new.conn in
    record {
      faults = search rules;
      clean = search rules;
      shield = search rules;
      moved = λ s clean holds.
          let t = rows_of s in
          let r = c.migrate_all.result in
          let moves : Migrates t.day old new r = subst (λ h. Migrates t.day (state g.S.Store h) new r) c.self.view_is (c.migrate_all.ensures.migrates t.day) in
          let ready = ready_to_move t old.now.trees holds.represents in
          let it : AreMoved t old new r = record {
            ok = IfOk-weaker r _ _ (λ x did. record { rest = did.1; represents = moved_represent t old.now new.now holds.represents did.0 }) (moves.ok clean holds.rest ready);
            err = IfErr-weaker r _ _ (λ x left db may. elim (left db may) [
              | inl same ↦ inl same
              | inr next ↦ inr (subst (RepresentsRows t) (sym next.2) (moved_represent t old.now next.0 holds.represents next.1), subst AreOfficeTables (sym next.2) (over_trees schema_version.Two next.0 next.1.is_office))
            ]) (moves.err clean holds.rest ready);
            undone = λ is_open. IfErr-weaker r _ _ (λ x left. record { rest = left.1; represents = subst (λ (d : Database). OldRepresentsRows t d.trees) (sym left.0) holds.represents }) (moves.undone clean holds.rest ready is_open);
            rest = rest_moved t.day old new r clean holds.rest ready moves;
          } in
          let ok = it.ok in
          let err = it.err in
          let undone = it.undone in
          let rest = it.rest in
          search rules;
    }
