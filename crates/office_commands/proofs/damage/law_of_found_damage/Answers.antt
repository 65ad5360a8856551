use Rattle.std.proofs.Common.{refl}
use Rattle.sqlite_disk.specs.Modelled.{start_of}
use Rattle.office_commands.proofs.FoundDamage.{found, left_clean}
use Rattle.office_commands.proofs.damage.law_of_found_damage.Goals as goal

pub returns-clause-left : goal.returns-clause-left
returns-clause-left g c shielded =
    left_clean (start_of g.S.Start) (λ it. g.C.Calls.history it.calls) (λ _. refl) (λ _. refl) c.args.left.now shielded

pub returns-clause-command : goal.returns-clause-command
returns-clause-command g c image opened order text written after exit =
    found (start_of g.S.Start) (λ it. g.C.Calls.history it.calls) (λ _. refl) (λ _. refl) c.args.left.now image opened _ written after exit

pub returns-clause-service : goal.returns-clause-service
returns-clause-service g c image opened port count written after exit =
    found (start_of g.S.Start) (λ it. g.C.Calls.history it.calls) (λ _. refl) (λ _. refl) c.args.left.now image opened _ written after exit

pub returns-clause-gate : goal.returns-clause-gate
returns-clause-gate g c image opened first port count written after exit =
    found (start_of g.S.Start) (λ it. g.C.Calls.history it.calls) (λ _. refl) (λ _. refl) c.args.left.now image opened _ written after exit
