-- The certificate that is stored when a run closes.
use Rattle.std.proofs.Common.{◌≡◌, ◌≢◌, ℕ, List, [], Option, Some, ap, ◌∙◌, unwrap_or}
use Rattle.std.specs.Prelude.{pos}
use Rattle.std.specs.Option.{option_map}
use Rattle.std.specs.Cmp.{nat_cmp_total}
use Rattle.std.specs.FinMap.{get, nat_cmp-IsAntisymmetric}
use Rattle.office_records.specs.Lists.{numbered}
use Rattle.office_rules.specs.Certificates.{certificate_text}
use Rattle.office_rules.specs.Runs.{entries_of, spent_list, certificate_of, closed}
use Rattle.office_rules.specs.State.{State, Office}
use Rattle.office_rules.specs.declared.run.Run.{Run}
use Rattle.office_rules.proofs.SoundMaps.{put_here, put_elsewhere}

-- the certificate of a run that is there reports its day and who opened it
certificate_is : (s : Office) (run : ℕ) (it : Run) → numbered s.runs run ≡ Some it → certificate_of s run ≡ certificate_text s.tree run it.day it.by (entries_of s run) (spent_list s.tree (entries_of s run))
certificate_is s run it there =
    ap (λ (o : Option Run). certificate_text s.tree run (unwrap_or (option_map (λ it. it.day) o) (pos 0)) (unwrap_or (option_map (λ it. it.by) o) []) (entries_of s run) (spent_list s.tree (entries_of s run))) there

pub certificate_stored : (s : State) (run : ℕ) (it : Run) → numbered s.office.runs run ≡ Some it
    → get (closed s run).office.certificates run ≡ Some (certificate_text s.office.tree run it.day it.by (entries_of s.office run) (spent_list s.office.tree (entries_of s.office run)))
unfolding closed
certificate_stored s run it there = put_here nat_cmp_total nat_cmp-IsAntisymmetric s.office.certificates run (certificate_of s.office run) ∙ ap (λ (t : List ℕ). Some t) (certificate_is s.office run it there)

pub other_certificates : (s : State) (run other : ℕ) → other ≢ run → get (closed s run).office.certificates other ≡ get s.office.certificates other
unfolding closed
other_certificates s run other apart = put_elsewhere nat_cmp_total nat_cmp-IsAntisymmetric s.office.certificates run (certificate_of s.office run) other apart
