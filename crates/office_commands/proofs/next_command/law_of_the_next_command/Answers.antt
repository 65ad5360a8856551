use Rattle.office_commands.proofs.Reopenings.{held_closed, held_later}
use Rattle.office_commands.proofs.next_command.law_of_the_next_command.Goals as goal

pub returns : goal.returns
returns g c = record { closed = λ last it ed copied clean office. record { now = held_closed last it ed copied clean office; after_a_crash = held_later last it ed copied clean office } }
