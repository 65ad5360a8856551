-- The tables of the office: what each is, its keys and its texts. Source: own.
use Rattle.std.specs.Prelude.{ℕ, List, [], ◌∷◌}
use Rattle.sqlite_schema.specs.declared.schema.Table.{Table}
use Rattle.office_sql.specs.Schema.{aggregations, certificates, classes, contents, entries, events, holds, office, records, runs, schedules, schedules2, targets}
use Rattle.office_sql.specs.declared.tables.TheConstants.{CREATE_AGGREGATIONS, CREATE_CERTIFICATES, CREATE_CLASSES, CREATE_CONTENTS, CREATE_ENTRIES, CREATE_EVENTS, CREATE_HOLDS, CREATE_OFFICE, CREATE_RECORDS, CREATE_RUNS, CREATE_SCHEDULES, CREATE_SCHEDULES2, CREATE_TARGETS, PUT_AGGREGATIONS, PUT_CERTIFICATES, PUT_CLASSES, PUT_CONTENTS, PUT_ENTRIES, PUT_EVENTS, PUT_HOLDS, PUT_OFFICE, PUT_RECORDS, PUT_RUNS, PUT_SCHEDULES, PUT_SCHEDULES2, PUT_TARGETS, READ_AGGREGATIONS, READ_CERTIFICATES, READ_CLASSES, READ_CONTENTS, READ_ENTRIES, READ_EVENTS, READ_HOLDS, READ_OFFICE, READ_RECORDS, READ_RUNS, READ_SCHEDULES, READ_SCHEDULES2, READ_TARGETS}
use Rattle.office_sql.specs.declared.tables.OfficeTable.{OfficeTable}
use Rattle.office_sql.specs.declared.tables.OfficeTable.TheVariants as table

-- the table that it is
abbrev pub table_of : OfficeTable → Table
table_of table.Office = office
table_of table.OldSchedules = schedules
table_of table.Classes = classes
table_of table.Aggregations = aggregations
table_of table.Records = records
table_of table.Contents = contents
table_of table.Holds = holds
table_of table.Targets = targets
table_of table.Runs = runs
table_of table.Entries = entries
table_of table.Certificates = certificates
table_of table.Schedules = schedules2
table_of table.Events = events

-- the columns of each of its keys
abbrev pub keys_of : OfficeTable → List (List ℕ)
keys_of table.Aggregations = (0 ∷ []) ∷ (1 ∷ []) ∷ []
keys_of table.Records = (0 ∷ []) ∷ (1 ∷ []) ∷ []
keys_of table.Targets = (0 ∷ 1 ∷ 2 ∷ []) ∷ []
keys_of table.Entries = (0 ∷ 1 ∷ []) ∷ []
keys_of _ = (0 ∷ []) ∷ []

-- how many are made before it
abbrev pub made_before : OfficeTable → ℕ
made_before table.Office = 0
made_before table.OldSchedules = 1
made_before table.Classes = 2
made_before table.Aggregations = 3
made_before table.Records = 4
made_before table.Contents = 5
made_before table.Holds = 6
made_before table.Targets = 7
made_before table.Runs = 8
made_before table.Entries = 9
made_before table.Certificates = 10
made_before table.Schedules = 11
made_before table.Events = 12

-- the text that makes it
abbrev pub create_of : OfficeTable → List ℕ
create_of table.Office = CREATE_OFFICE.now
create_of table.OldSchedules = CREATE_SCHEDULES.now
create_of table.Classes = CREATE_CLASSES.now
create_of table.Aggregations = CREATE_AGGREGATIONS.now
create_of table.Records = CREATE_RECORDS.now
create_of table.Contents = CREATE_CONTENTS.now
create_of table.Holds = CREATE_HOLDS.now
create_of table.Targets = CREATE_TARGETS.now
create_of table.Runs = CREATE_RUNS.now
create_of table.Entries = CREATE_ENTRIES.now
create_of table.Certificates = CREATE_CERTIFICATES.now
create_of table.Schedules = CREATE_SCHEDULES2.now
create_of table.Events = CREATE_EVENTS.now

-- the text that puts a row into it
abbrev pub insert_of : OfficeTable → List ℕ
insert_of table.Office = PUT_OFFICE.now
insert_of table.OldSchedules = PUT_SCHEDULES.now
insert_of table.Classes = PUT_CLASSES.now
insert_of table.Aggregations = PUT_AGGREGATIONS.now
insert_of table.Records = PUT_RECORDS.now
insert_of table.Contents = PUT_CONTENTS.now
insert_of table.Holds = PUT_HOLDS.now
insert_of table.Targets = PUT_TARGETS.now
insert_of table.Runs = PUT_RUNS.now
insert_of table.Entries = PUT_ENTRIES.now
insert_of table.Certificates = PUT_CERTIFICATES.now
insert_of table.Schedules = PUT_SCHEDULES2.now
insert_of table.Events = PUT_EVENTS.now

-- the text that reads it
abbrev pub text_of : OfficeTable → List ℕ
text_of table.Office = READ_OFFICE.now
text_of table.OldSchedules = READ_SCHEDULES.now
text_of table.Classes = READ_CLASSES.now
text_of table.Aggregations = READ_AGGREGATIONS.now
text_of table.Records = READ_RECORDS.now
text_of table.Contents = READ_CONTENTS.now
text_of table.Holds = READ_HOLDS.now
text_of table.Targets = READ_TARGETS.now
text_of table.Runs = READ_RUNS.now
text_of table.Entries = READ_ENTRIES.now
text_of table.Certificates = READ_CERTIFICATES.now
text_of table.Schedules = READ_SCHEDULES2.now
text_of table.Events = READ_EVENTS.now
