use Rattle.std.proofs.Common.{sym, ◌∙◌}
use Rattle.office_commands.proofs.Reopenings.{held_crashed}
use Rattle.office_commands.proofs.next_command.law_of_a_killed_command.Goals as goal

pub returns : goal.returns
returns g c = record {
  crashed = λ clean. held_crashed c.args.conn (sym c.into_store.ensures.undone.numbered ∙ c.into_store.ensures.numbered clean);
  numbered = λ clean. sym c.into_store.ensures.undone.numbered ∙ c.into_store.ensures.numbered clean;
}
