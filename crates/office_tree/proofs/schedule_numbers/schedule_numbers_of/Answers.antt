use Rattle.std.proofs.Common.{◌≡◌, List, ℕ, Option, map, rules, subst}
use Rattle.std.proofs.lemmas.List.Elements.{All-map, All-push, All-weaker}
use Rattle.std.proofs.lemmas.Map.Iter.{iter_end}
use Rattle.std.specs.Borrow.{Bor}
use Rattle.std.specs.BTreeMap.{keys}
use Rattle.std.specs.List.{All}
use Rattle.std.specs.Map.Iter.{deref}
use Rattle.std.specs.Prelude.{IsSome}
use Rattle.office_tree.specs.ScheduleNumbers.{IsAmong}
use Rattle.office_records.specs.declared.schedule.Schedule.{Schedule}
use Rattle.office_tree.proofs.Codes.{code_among}
use Rattle.office_records.proofs.Plan.{get_is}
use Rattle.office_tree.proofs.schedule_numbers.schedule_numbers_of.Goals as goal

pub loop-code-preserved : goal.loop-code-preserved
loop-code-preserved c =
    All-push (λ (code : Bor (List ℕ)). IsAmong c.add.new.self code.now) c.loop-code.yielded c.in-Some.code
    (All-weaker (λ (code : Bor (List ℕ)). IsAmong c.loop-code.schedule_numbers code.now) (λ (code : Bor (List ℕ)). IsAmong c.add.new.self code.now) (λ code among. (among.0, c.add.ensures.stay among.0 code.now among.1)) c.loop-code.yielded c.loop-code.invariant)
    c.in_ok-add.ensures.among

pub returns : goal.returns
returns c = λ code there.
    let shown : map deref c.loop-code.yielded ≡ keys c.args.schedules.now = search (rules, iter_end) in
    let all : All (IsAmong c.loop-code.schedule_numbers) (keys c.args.schedules.now) = subst (All (IsAmong c.loop-code.schedule_numbers)) shown (All-map (IsAmong c.loop-code.schedule_numbers) deref c.loop-code.yielded c.loop-code.invariant) in
    code_among c.loop-code.schedule_numbers c.args.schedules.now.entries code all (subst (λ (o : Option Schedule). IsSome o) (get_is c.args.schedules.now.entries code) there)
