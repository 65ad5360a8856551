-- What the program reports its caller at the end. Source: own.
use Rattle.std.specs.Prelude.{ℕ, List, [], ◌∷◌, ◌++◌, codes, Option, Some, None, Result, Ok, Err, if◌then◌else◌, Bool}
use Rattle.std.specs.Fmt.{decimal}
use Rattle.std.specs.List.{list_any}
use Rattle.office_base.specs.declared.refusal.Refusal.{Refusal}
use Rattle.office_base.specs.Refusals.{refusal_number}
use Rattle.office_base.specs.declared.output.Io.{Io}
use Rattle.office_rules.specs.Answers.{is_refusal}
use Rattle.office_store.specs.Faults.{fault_number}
use Rattle.office_store.specs.declared.fault.Fault.TheVariants as fault
use Rattle.office_desk.specs.Outcomes.{ActsOutcome, all_done, stopped}
use Rattle.office_json.specs.declared.lists.ListFault.{ListFault}
use Rattle.office_json.specs.declared.lists.ListFault.TheVariants as list
use Rattle.office_commands.specs.declared.exit.Exit.{Exit}
use Rattle.office_commands.specs.declared.exit.Exit.TheVariants.{Done, Refused, SomeRefused, LineRefused, ActRefused, NotJson, CsvHeader, CsvRow, BadWords, File, Socket, SomeFailed, Fault}
use Rattle.office_base.specs.declared.stop.Stop.{Stop}
use Rattle.office_base.specs.declared.stop.Stop.TheVariants as stop

-- a refusal is reported as such, and a writer's error as that of a file
abbrev pub exit_of : Result (Option Refusal) Io → Exit
exit_of (Ok None) = Done
exit_of (Ok (Some refusal)) = Refused refusal
exit_of (Err failed) = File

-- reading or writing that failed is reported as that of a file, lack of memory as fault 30
abbrev pub exit_of_stop : Stop → Exit
exit_of_stop stop.Io = File
exit_of_stop stop.Memory = Fault fault.Memory

-- a line that is refused is reported with its number
abbrev pub exit_of_plan : Result (Option (ℕ × Refusal)) Stop → Exit
exit_of_plan (Ok None) = Done
exit_of_plan (Ok (Some p)) = LineRefused p.0 p.1
exit_of_plan (Err stopped_by) = exit_of_stop stopped_by

-- a text that is no list of acts is reported by what is wrong with it, lack of memory as fault 30
abbrev pub exit_of_list : ListFault → Exit
exit_of_list list.NotJson = NotJson
exit_of_list (list.BadAct place refusal) = ActRefused place refusal
exit_of_list list.Memory = Fault fault.Memory

-- a fault is reported as such, and a refusal among the answers by the exit status alone
abbrev pub exit_of_acts : ActsOutcome → Exit
exit_of_acts (all_done replies) = if list_any is_refusal replies then SomeRefused else Done
exit_of_acts (stopped replies f) = Fault f

-- a service that was poisoned is reported as the fault by which a desk answers no more, and a connection that failed by
-- the exit status alone
abbrev pub exit_of_service : Bool → Bool → Exit
exit_of_service has_failed is_poisoned =
    if is_poisoned then Fault fault.Reopen else if has_failed then SomeFailed else Done

-- 0 done, 1 something refused, 2 bad words, 3 a file, the store or a connection, 4 memory
abbrev pub exit_status : Exit → ℕ
exit_status Done = 0
exit_status (Refused refusal) = 1
exit_status SomeRefused = 1
exit_status (LineRefused line refusal) = 1
exit_status (ActRefused place refusal) = 1
exit_status NotJson = 1
exit_status CsvHeader = 1
exit_status (CsvRow number) = 1
exit_status BadWords = 2
exit_status File = 3
exit_status Socket = 3
exit_status SomeFailed = 3
exit_status (Fault fault.Memory) = 4
exit_status (Fault fault.Store) = 3
exit_status (Fault fault.Reopen) = 3
exit_status (Fault fault.Damaged) = 3
exit_status (Fault fault.Version) = 3

-- the line on standard error, with its line feed, or nothing
abbrev pub line_said : Exit → List ℕ
line_said Done = []
line_said (Refused refusal) = codes "office: refused " ++ decimal (refusal_number refusal) ++ 10 ∷ []
line_said (LineRefused line refusal) =
    codes "office: line " ++ decimal line ++ codes " refused " ++ decimal (refusal_number refusal) ++ 10 ∷ []
line_said SomeRefused = []
line_said (ActRefused place refusal) =
    codes "office: act " ++ decimal place ++ codes " refused " ++ decimal (refusal_number refusal) ++ 10 ∷ []
line_said NotJson = codes "office: json" ++ 10 ∷ []
line_said CsvHeader = codes "office: csv header" ++ 10 ∷ []
line_said (CsvRow number) = codes "office: csv row " ++ decimal number ++ 10 ∷ []
line_said BadWords = []
line_said File = codes "office: file" ++ 10 ∷ []
line_said Socket = codes "office: socket" ++ 10 ∷ []
line_said SomeFailed = []
line_said (Fault f) = codes "office: fault " ++ decimal (fault_number f) ++ 10 ∷ []
