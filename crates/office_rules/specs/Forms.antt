-- When what an act asks for is of its form and within its limits; the types of the code see to it. Source: own.
use Rattle.std.specs.Prelude.{◌≤◌, IfSome, List}
use Rattle.std.specs.List.{AllByRecursion}
use Rattle.office_days.specs.Limits.{IsDayNumber, longest}
use Rattle.office_records.specs.Forms.{IsCode, IsText}
use Rattle.office_rules.specs.HoldForms.{IsWellFormedTarget}
use Rattle.office_rules.specs.Meanings.{IsWellFormedNewRecord}
use Rattle.office_rules.specs.NewRecords.{new_record}
use Rattle.office_rules.specs.declared.act.Act.{Act}
use Rattle.office_rules.specs.declared.act.Act.TheVariants as act

-- the days, codes, texts and periods of an act
abbrev pub IsWellFormedAct : Act → Type 0
IsWellFormedAct (act.AddSchedule day code trigger period offset action) =
    IsDayNumber day × IsCode code × (period.count ≤ longest period.unit)
IsWellFormedAct (act.AddClass day code title schedule) = IsDayNumber day × IsCode code × IsText title × IsCode schedule
IsWellFormedAct (act.SetClassSchedule day class schedule) = IsDayNumber day × IsCode class × IsCode schedule
IsWellFormedAct (act.AddAggregation day ref_text title parent class) =
    IsDayNumber day × IsText ref_text × IsText title × IfSome class IsCode
IsWellFormedAct (act.CloseAggregation day a) = IsDayNumber day
IsWellFormedAct (act.AddRecord day ref_text title originated aggregation class schedule content) =
    IsDayNumber day × IsWellFormedNewRecord (new_record ref_text title originated aggregation class schedule content)
IsWellFormedAct (act.SetRecordSchedule day r schedule) = IsDayNumber day × IfSome schedule IsCode
IsWellFormedAct (act.Reclassify day what class) = IsDayNumber day × IfSome class IsCode
IsWellFormedAct (act.Confirm day r named by) = IsDayNumber day × IsText by
IsWellFormedAct (act.Review day r schedule by) = IsDayNumber day × IfSome schedule IsCode × IsText by
IsWellFormedAct (act.Receipt day r digest by) = IsDayNumber day × IsText by
IsWellFormedAct (act.Event day r occurred by) = IsDayNumber day × IsDayNumber occurred × IsText by
IsWellFormedAct (act.PlaceHold day code reason by) = IsDayNumber day × IsCode code × IsText reason × IsText by
IsWellFormedAct (act.HoldOn day code target) = IsDayNumber day × IsCode code × IsWellFormedTarget target
IsWellFormedAct (act.HoldOff day code target) = IsDayNumber day × IsCode code × IsWellFormedTarget target
IsWellFormedAct (act.LiftHold day code) = IsDayNumber day × IsCode code
IsWellFormedAct (act.OpenRun day by) = IsDayNumber day × IsText by
IsWellFormedAct act.RunStep = Unit {0}

-- each act of the list is of its form, as every act is that can be handed in
abbrev pub AreWellFormed : List Act → Type 0
AreWellFormed acts = AllByRecursion IsWellFormedAct acts
