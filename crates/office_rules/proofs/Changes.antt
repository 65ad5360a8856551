-- What a change leads to, in the office and in its rows.
use Rattle.std.proofs.Common.{◌≡◌, List, [], ◌∷◌, length, refl, sym, ap, ◌∙◌}
use Rattle.office_rules.specs.Acts.{IsDecidedFor, step}
use Rattle.office_rules.specs.Rows.{rows_of, all_row_writes}
use Rattle.office_rules.specs.State.{State, Office, ByteMap, with_contents}
use Rattle.office_rules.specs.Writes.{write, all_writes, all_office_writes}
use Rattle.office_rules.specs.declared.act.Act.{Act}
use Rattle.office_rules.specs.declared.change.Change.{Change}
use Rattle.office_rules.specs.declared.change.Decision.TheVariants.{Go}
use Rattle.office_rules.specs.declared.rows.RowWrite.{RowWrite}
use Rattle.office_rules.proofs.RowWrites.{all_written}

-- the office of a state with writes is its office with these writes
office_written : (ws : List RowWrite) (s : State) → (all_writes ws s).office ≡ all_office_writes ws s.office
office_written [] s = refl
office_written (w ∷ ws) s = office_written ws (write w s)

pub office_changed : (s : Office) (a : Act) (change : Change) (contents : ByteMap) → IsDecidedFor s a (Go change) → all_office_writes change.writes.items s ≡ (step (with_contents s contents) a).1.office
office_changed s a change contents decided = sym (office_written change.writes.items (with_contents s contents)) ∙ ap (λ (t : State). t.office) (decided.leads contents)

pub rows_changed : (s : Office) (a : Act) (change : Change) (contents : ByteMap) → length s.tree.statuses ≡ length s.tree.records → IsDecidedFor s a (Go change)
    → all_row_writes change.writes.items (rows_of (with_contents s contents)) ≡ rows_of (step (with_contents s contents) a).1
rows_changed s a change contents many decided = sym (all_written (with_contents s contents) change.writes.items many decided.fits) ∙ ap rows_of (decided.leads contents)
