use Rattle.std.proofs.Common.{◌≡◌, IsTrue, sym, ap, subst, ◌∙◌, arith}
use Rattle.sqlite_trees.specs.View.{View, IsClean}
use Rattle.sqlite_wal.proofs.StateLemmas.{open_from}
use Rattle.sqlite_trees.proofs.Doubt.{clean_of as sure, no_doubt}
use Rattle.sqlite_rules.proofs.ViewLemmas.{still_quiet}
use Rattle.sqlite_store.specs.FileStore.{state, view}
use Rattle.sqlite_wal.specs.Recovery.{Image}
use Rattle.sqlite_wal.specs.Files.{outcomes}
use Rattle.sqlite_wal.specs.Reads.{AreClean}
use Rattle.sqlite_pool.proofs.StateLemmas.{clean_is, may_leave_is}
use Rattle.sqlite.specs.Closing.{HoldsAlone, IsCopied}
use Rattle.sqlite.specs.Files.{IsClosed}
use Rattle.sqlite.proofs.Theorems.{copied}
use Rattle.office_commands.proofs.Closings.{excused, holds_last}
use Rattle.office_commands.proofs.office_files.close.Goals as goal

pub returns-in-Ok-clause-left : goal.returns-in-Ok-clause-left
returns-in-Ok-clause-left g c honest =
    let back = c.into_store-store.result in
    let before = c.rollback.new.self in
    let last = c.checkpoint.new.self in
    let q = c.checkpoint.ensures.quiet in
    let stays = g.met.D.Disk.seen_may_stay in
    let sure_now = subst (λ p. AreClean g.D.Disk p.0 p.1) c.close.ensures honest in
    let none : IsClean (view last) = no_doubt _ (clean_is last.pool ∙ sure_now) in
    let clean : IsClean (view before) = omega (arith, q.clean) in
    let early : IsClean (view back) = omega (arith, c.rollback.ensures.quiet.clean) in
    let h = open_from (state before) c.in-Ok.ensures.ready (sure (view before).is_clean clean) in
    let second = c.rollback.ensures.undone.kept clean in
    let first = c.into_store-store.ensures.undone.kept early in
    let on = c.in-Ok.ensures.open none in
    let same = c.checkpoint.ensures.same on in
    let numbered : IsTrue (view last).is_numbered = ap (λ (v : View). v.is_numbered) same ∙ second.numbered ∙ c.into_store-store.ensures.numbered early in
    let committed : (view last).committed ≡ (view c.args.conn.store).committed = ap (λ (v : View). v.committed) same ∙ second.committed h ∙ first.committed (second.was_open h) in
    let was_open = first.was_open (second.was_open h) in
    let earlier = λ (db : _) (found : _). c.rollback.ensures.quiet.outcomes db (q.outcomes db found) in
    let sound = λ (db : _) (found : _). c.into_store-store.ensures.sound early db (earlier db found) in
    let at = λ (image : Image) (may : outcomes g.D.Disk c.close.result.log c.close.result.db image). may_leave_is last.pool image sure_now (subst (λ p. outcomes g.D.Disk p.0 p.1 image) c.close.ensures may) in
    let each = λ (image : Image) (may : outcomes g.D.Disk c.close.result.log c.close.result.db image).
    subst (HoldsAlone image) committed (copied last stays on numbered sound (c.in-Ok.ensures.moved (c.rollback.ensures.logged (second.was_open h))) image (at image may)) in
    let holds = λ (image : Image) (may : outcomes g.D.Disk c.close.result.log c.close.result.db image).
    holds_last last (view c.args.conn.store).committed numbered sound
    (λ db found. c.law_of_the_last_commit.ensures.only was_open db (c.into_store-store.ensures.quiet.outcomes db (earlier db found))) image (at image may) in
    record {
      copied = record {
        was_clean = omega (arith, c.into_store-store.ensures.quiet.clean);
        was_open = was_open;
        seen = each _ (stays _, stays _);
        left = each;
      };
      now = holds _ (stays _, stays _);
      left = holds;
    }

pub returns-in-Ok-clause-shield : goal.returns-in-Ok-clause-shield
returns-in-Ok-clause-shield g c shielded =
    let closed = still_quiet (still_quiet c.into_store-store.ensures.quiet c.rollback.ensures.quiet) c.checkpoint.ensures.quiet in
    (c.checkpoint.new.self, sym c.close.ensures, closed.shield shielded)

pub returns-in-Err-clause-shield : goal.returns-in-Err-clause-shield
returns-in-Err-clause-shield g c =
    let closed = still_quiet (still_quiet c.into_store-store.ensures.quiet c.rollback.ensures.quiet) c.checkpoint.ensures.quiet in
    closed.shield

pub returns-in-Err-clause-left : goal.returns-in-Err-clause-left
returns-in-Err-clause-left g c =
    let before = c.rollback.new.self in
    let last = c.checkpoint.new.self in
    let first = still_quiet c.into_store-store.ensures.quiet c.rollback.ensures.quiet in
    let q = c.checkpoint.ensures.quiet in
    let closed : IsClosed c.args.conn last = record {
      quiet = still_quiet first q;
      sound = λ none db may.
          c.into_store-store.ensures.sound (omega (arith, q.clean, c.rollback.ensures.quiet.clean)) db (c.rollback.ensures.quiet.outcomes db (q.outcomes db may));
    } in
    record {
      closed = closed;
      numbered = λ none on.
          let clean : IsClean (view before) = omega (arith, q.clean) in
          let early : IsClean (view c.into_store-store.result) = omega (arith, c.rollback.ensures.quiet.clean) in
          ap (λ (v : View). v.is_numbered) (c.checkpoint.ensures.same on) ∙ c.rollback.ensures.undone.numbered ∙ c.into_store-store.ensures.numbered early;
      failed = λ none.
          let clean : IsClean (view before) = omega (arith, q.clean) in
          excused c.args.conn before last c.in-Err.why first.counts q.counts (first.closes clean) (λ on. (c.rollback.ensures.undone.undone on).1) (c.in-Err.ensures.cause none);
    }
