-- Statements that were read, as the grammar has them. Source: own.
use Rattle.std.specs.Prelude.{map, Result, Ok, Err}
use Rattle.office_settings.specs.declared.parts.Parts.{Parts}
use Rattle.office_settings.specs.declared.statement.Statement.{Statement}
use Rattle.office_settings.specs.declared.statement.Statement.TheVariants as it
use Rattle.office_settings.specs.declared.wrong.Wrong.{Wrong}
use Rattle.office_settings.specs.Statements as grammar

abbrev pub parts_read : Result Parts Wrong → Result grammar.Parts Wrong
parts_read (Err wrong) = Err wrong
parts_read (Ok parts) = Ok (record { before = map (λ w. w.now) parts.before.now; after = map (λ w. w.now) parts.after.now })

-- the line that a statement is
abbrev pub line_of : Statement → grammar.Line
line_of (it.May role) = grammar.may role.role.now (map (λ w. w.now) role.things.now) (map (λ w. w.now) role.classes.now)
line_of (it.Reads role is_for_sent) = grammar.reads role.role.now (map (λ w. w.now) role.things.now) (map (λ w. w.now) role.classes.now) is_for_sent
line_of (it.Is line) = grammar.has line.name.now (map (λ w. w.now) line.roles.now) (map (λ w. w.now) line.classes.now)
line_of (it.Others line) = grammar.others_have (map (λ w. w.now) line.roles.now) (map (λ w. w.now) line.classes.now)
line_of (it.Signs line) = grammar.signs line.name.now (map (λ w. w.now) line.text.now)
line_of (it.Rule token) = grammar.rule token.now
line_of (it.Changer days) = grammar.changer days
line_of (it.ReasonFor acts) = grammar.reason_for (map (λ w. w.now) acts.now)
line_of (it.Requests n) = grammar.requests n
line_of (it.Lists n) = grammar.lists n
line_of (it.JournalBytes n) = grammar.journal_bytes n
line_of (it.ContentDays n) = grammar.content_days n
line_of (it.FreeMegabytes n) = grammar.free_megabytes n
line_of (it.JournalsReadings is) = grammar.journals_readings is
line_of (it.Site token) = grammar.site token.now
line_of (it.Zone token) = grammar.zone token.now
line_of it.Begin = grammar.begins
line_of it.End = grammar.ends

abbrev pub read : Result Statement Wrong → Result grammar.Line Wrong
read (Err wrong) = Err wrong
read (Ok statement) = Ok (line_of statement)
