use Rattle.std.proofs.Common.{◌≡◌, map, rules, sym}
use Rattle.std.specs.Map.{values_of}
use Rattle.std.proofs.lemmas.List.Elements.{All-map, All-push, All-same}
use Rattle.std.proofs.lemmas.Map.Iter.{iter_end}
use Rattle.office_rules.specs.EntryForms.{IsWellFormedEntry}
use Rattle.office_machine.proofs.examination.runs.well_formed_entries.Goals as goal

pub loop-entry-preserved : goal.loop-entry-preserved
loop-entry-preserved c = All-push (λ entry. IsWellFormedEntry entry.now) c.loop-entry.yielded c.in-Some.entry c.loop-entry.invariant c.well_formed_entry.ensures

pub returns : goal.returns
returns c =
    let all : map (λ entry. entry.now) c.loop-entry.yielded ≡ values_of c.args.entries.now.entries = search (rules, iter_end) in
    All-same IsWellFormedEntry _ _ (sym all) (All-map IsWellFormedEntry (λ entry. entry.now) c.loop-entry.yielded c.loop-entry.invariant)
