use Rattle.office_noting.proofs.Turns.{turns_asked}
use Rattle.office_noting.proofs.laws.law_of_noted_sessions.Goals as goal

pub returns : goal.returns
returns g c = turns_asked g.W.Write.contents g.S.Store
