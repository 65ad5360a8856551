-- The kinds of acts and what a right allows, each with a number of its own. Source: own.
use Rattle.std.specs.Prelude.{ℕ, Bool, true, false, ◌||◌, ◌==◌, Option, Some, None, ℤ, int_lt}
use Rattle.std.specs.Option.{is_some}
use Rattle.office_access.specs.declared.kind.Kind.{Kind}
use Rattle.office_access.specs.declared.kind.Kind.TheVariants as kind
use Rattle.office_access.specs.declared.power.Power.{Power}
use Rattle.office_access.specs.declared.power.Power.TheVariants as power
use Rattle.office_access.specs.declared.reading.Reading.{Reading}
use Rattle.office_access.specs.declared.reading.Reading.TheVariants as reading
use Rattle.office_rules.specs.declared.act.Act.{Act}
use Rattle.office_rules.specs.declared.act.Act.TheVariants as act

abbrev pub kind_number : Kind → ℕ
kind_number kind.AddSchedule = 0
kind_number kind.AddClass = 1
kind_number kind.SetClassSchedule = 2
kind_number kind.AddAggregation = 3
kind_number kind.CloseAggregation = 4
kind_number kind.AddRecord = 5
kind_number kind.SetRecordSchedule = 6
kind_number kind.Reclassify = 7
kind_number kind.PlaceHold = 8
kind_number kind.HoldOn = 9
kind_number kind.HoldOff = 10
kind_number kind.LiftHold = 11
kind_number kind.Confirm = 12
kind_number kind.Review = 13
kind_number kind.Receipt = 14
kind_number kind.Event = 15
kind_number kind.OpenRun = 16
kind_number kind.RunStep = 17

abbrev pub reading_number : Reading → ℕ
reading_number reading.Records = 21
reading_number reading.Contents = 22
reading_number reading.Lists = 23
reading_number reading.Certificates = 24
reading_number reading.Catalogue = 25
reading_number reading.History = 26
reading_number reading.Health = 27

abbrev pub power_number : Power → ℕ
power_number (power.Act kind) = kind_number kind
power_number power.Resume = 18
power_number power.Vault = 19
power_number power.LaterDay = 20
power_number (power.Read reading) = reading_number reading

abbrev pub same_kind : Kind → Kind → Bool
same_kind one other = kind_number one == kind_number other

abbrev pub same_power : Power → Power → Bool
same_power one other = power_number one == power_number other

-- the kind of an act
abbrev pub kind_of : Act → Kind
kind_of (act.AddSchedule day code trigger period offset action) = kind.AddSchedule
kind_of (act.AddClass day code title schedule) = kind.AddClass
kind_of (act.SetClassSchedule day class schedule) = kind.SetClassSchedule
kind_of (act.AddAggregation day ref_text title parent class) = kind.AddAggregation
kind_of (act.CloseAggregation day a) = kind.CloseAggregation
kind_of (act.AddRecord day ref_text title originated aggregation class schedule content) = kind.AddRecord
kind_of (act.SetRecordSchedule day r schedule) = kind.SetRecordSchedule
kind_of (act.Reclassify day what class) = kind.Reclassify
kind_of (act.Confirm day r named by) = kind.Confirm
kind_of (act.Review day r schedule by) = kind.Review
kind_of (act.Receipt day r digest by) = kind.Receipt
kind_of (act.Event day r occurred by) = kind.Event
kind_of (act.PlaceHold day code reason by) = kind.PlaceHold
kind_of (act.HoldOn day code target) = kind.HoldOn
kind_of (act.HoldOff day code target) = kind.HoldOff
kind_of (act.LiftHold day code) = kind.LiftHold
kind_of (act.OpenRun day by) = kind.OpenRun
kind_of act.RunStep = kind.RunStep

-- the right that an act needs
abbrev pub power_for : Act → Power
power_for a = power.Act (kind_of a)

-- the acts that decide which records a run takes
abbrev pub is_decision : Act → Bool
is_decision (act.Confirm day r named by) = true
is_decision (act.Review day r schedule by) = true
is_decision (act.Event day r occurred by) = true
is_decision (act.SetRecordSchedule day r schedule) = true
is_decision (act.Reclassify day what class) = true
is_decision (act.SetClassSchedule day class schedule) = true
is_decision (act.CloseAggregation day a) = true
is_decision _ = false

-- the acts that make something with a schedule or a class of its own, or with a day of origin before the day of the act
abbrev pub is_making : Act → Bool
is_making (act.AddClass day code title schedule) = true
is_making (act.AddAggregation day ref_text title parent class) = is_some class
is_making (act.AddRecord day ref_text title originated a class schedule content) =
    is_some class || is_some schedule || int_lt originated day
is_making _ = false

-- the day of the run that an act opens
abbrev pub opening_day : Act → Option ℤ
opening_day (act.OpenRun day by) = Some day
opening_day _ = None

-- the record of which an act is the receipt
abbrev pub received_record : Act → Option ℕ
received_record (act.Receipt day r digest by) = Some r
received_record _ = None

-- the day of an act; a step of a run has none
abbrev pub day_of : Act → Option ℤ
day_of (act.AddSchedule day code trigger period offset action) = Some day
day_of (act.AddClass day code title schedule) = Some day
day_of (act.SetClassSchedule day class schedule) = Some day
day_of (act.AddAggregation day ref_text title parent class) = Some day
day_of (act.CloseAggregation day a) = Some day
day_of (act.AddRecord day ref_text title originated aggregation class schedule content) = Some day
day_of (act.SetRecordSchedule day r schedule) = Some day
day_of (act.Reclassify day what class) = Some day
day_of (act.Confirm day r named by) = Some day
day_of (act.Review day r schedule by) = Some day
day_of (act.Receipt day r digest by) = Some day
day_of (act.Event day r occurred by) = Some day
day_of (act.PlaceHold day code reason by) = Some day
day_of (act.HoldOn day code target) = Some day
day_of (act.HoldOff day code target) = Some day
day_of (act.LiftHold day code) = Some day
day_of (act.OpenRun day by) = Some day
day_of act.RunStep = None
