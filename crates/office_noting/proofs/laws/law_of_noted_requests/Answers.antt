use Rattle.office_noting.proofs.Leaves.{left}
use Rattle.office_noting.proofs.Lines.{answered_in, asked_in}
use Rattle.office_noting.proofs.laws.law_of_noted_requests.Goals as goal

pub returns : goal.returns
returns g c = record {
  asked = asked_in g.W.Write.contents g.S.Store;
  answered = answered_in g.W.Write.contents g.S.Store;
  left = λ visit request r ledger after old new. left g.W.Write.contents g.S.Store visit old new request r ledger after;
}
