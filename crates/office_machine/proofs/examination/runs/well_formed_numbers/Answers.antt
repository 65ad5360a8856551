use Rattle.std.proofs.Common.{◌≡◌, ◌<◌, ◌^◌, map, rules, sym}
use Rattle.std.specs.Map.{keys_of}
use Rattle.std.proofs.lemmas.List.Elements.{All-map, All-push, All-same}
use Rattle.std.proofs.lemmas.Map.Iter.{iter_end}
use Rattle.office_machine.proofs.examination.runs.well_formed_numbers.Goals as goal

pub loop-run-preserved : goal.loop-run-preserved
loop-run-preserved c = All-push (λ run. run.now < 2 ^ 32) c.loop-run.yielded c.in-Some.run' c.loop-run.invariant c.well_formed_number.ensures

pub returns : goal.returns
returns c =
    let all : map (λ run. run.now) c.loop-run.yielded ≡ keys_of c.args.certificates.now.entries = search (rules, iter_end) in
    All-same (λ run. run < 2 ^ 32) _ _ (sym all) (All-map (λ run. run < 2 ^ 32) (λ run. run.now) c.loop-run.yielded c.loop-run.invariant)
