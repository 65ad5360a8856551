-- What the text of each table means that reads it, under any schema that has the table.
use Rattle.std.proofs.Common.{◌≡◌, ℕ, ◌+◌, ◌-◌, if◌then◌else◌, List, [], ◌∷◌, Option, Some, Ok, length, map, take, slice_get, find, eqb, nat_le, ◌^◌, false, refl, ap, subst, sym}
use Rattle.sqlite_value.specs.Order.{Row, column}
use Rattle.sqlite_resolve.specs.Lowering.{fresh, max_budget, nothing}
use Rattle.sqlite_resolve.specs.Program.{program}
use Rattle.sqlite_resolve.specs.Select.{parts}
use Rattle.sqlite_resolve.specs.declared.scope.Output.{Output}
use Rattle.sqlite_schema.specs.Names.{is_key, place_of, table_named}
use Rattle.sqlite_schema.specs.declared.schema.Column.{Column}
use Rattle.sqlite_schema.specs.declared.schema.Schema.{Schema}
use Rattle.sqlite_schema.specs.declared.schema.Table.{Table}
use Rattle.sqlite.proofs.Callers.{IsPlain, command_of}
use Rattle.sqlite_tied.specs.Compute.{everything}
use Rattle.office_sql.specs.Reads.{in_order, key_of}
use Rattle.office_sql.specs.Schema.{at, office, schedules, schedules2, classes, aggregations, records, events, contents, holds, targets, runs, entries, certificates}
use Rattle.office_sql.specs.Tables.{table_of, text_of}
use Rattle.office_sql.specs.declared.tables.OfficeTable.{OfficeTable}
use Rattle.office_sql.specs.declared.tables.OfficeTable.TheVariants as table
use Rattle.office_sql.proofs.Queried.{after, by_bytes, clauses_of, core_of, draft_of, reads_compiled, shown_as, sorts_of}
use Rattle.office_sql.proofs.ReadLemmas.{ReadsWhole}
use Rattle.office_sql.proofs.Understood.{understood_is, unlisted}

-- the columns that are read: of contents the key alone
abbrev columns_read : OfficeTable → List Column
columns_read table.Contents = take 1 contents.columns
columns_read t = (table_of t).columns

abbrev named_places : Option ℕ → ℕ → List Column → List Output
named_places key at [] = []
named_places key at (c ∷ cs) = shown_as c.name (if is_key key at then 0 else at + 1) (if is_key key at then nothing else by_bytes) ∷ named_places key (at + 1) cs

abbrev places_from : Option ℕ → ℕ → List Column → List ℕ
places_from key at [] = []
places_from key at (c ∷ cs) = (if is_key key at then 0 else at + 1) ∷ places_from key (at + 1) cs

abbrev names_of : OfficeTable → List (List ℕ)
names_of t = map (λ c. c.name) (columns_read t)

abbrev pub places_of : OfficeTable → List ℕ
places_of t = places_from (table_of t).key 0 (columns_read t)

-- the columns of the key are first
abbrev key_names : OfficeTable → List (List ℕ)
key_names t = take (length (key_of t)) (names_of t)

abbrev key_places : OfficeTable → List ℕ
key_places t = take (length (key_of t)) (places_of t)

abbrev outputs_of : OfficeTable → List Output
outputs_of t = named_places (table_of t).key 0 (columns_read t)

parts_is : (t : OfficeTable) (s : Schema) (place tree : ℕ) → table_named s (table_of t).name ≡ Some place → slice_get s.tables place ≡ Some (at tree (table_of t))
    → parts s (core_of (table_of t).name (names_of t)) (sorts_of (key_names t)) (fresh 1 max_budget)
    ≡ Ok (clauses_of (table_of t).name place tree (outputs_of t) (key_places t), after (100_000 - length (names_of t) - length (key_names t)) (if is_key (table_of t).key 0 then nothing else by_bytes))
unfolding everything
parts_is table.Office s place tree named found = simp (named, found)
parts_is table.OldSchedules s place tree named found = simp (named, found)
parts_is table.Classes s place tree named found = simp (named, found)
parts_is table.Aggregations s place tree named found = simp (named, found)
parts_is table.Records s place tree named found = simp (named, found)
parts_is table.Contents s place tree named found = simp (named, found)
parts_is table.Holds s place tree named found = simp (named, found)
parts_is table.Targets s place tree named found = simp (named, found)
parts_is table.Runs s place tree named found = simp (named, found)
parts_is table.Entries s place tree named found = simp (named, found)
parts_is table.Certificates s place tree named found = simp (named, found)
parts_is table.Schedules s place tree named found = simp (named, found)
parts_is table.Events s place tree named found = simp (named, found)

typed_is : (t : OfficeTable) (s : Schema) (tree : ℕ) → find (λ u. eqb u.tree tree) s.tables ≡ Some (at tree (table_of t)) → nat_le (2 ^ 31) tree ≡ false
    → program s [] (draft_of tree (places_of t) (key_places t)) ≡ Ok (record { lets = []; body = in_order tree (places_of t) (key_places t) })
unfolding everything
typed_is table.Office s tree only low = simp (low, only)
typed_is table.OldSchedules s tree only low = simp (low, only)
typed_is table.Classes s tree only low = simp (low, only)
typed_is table.Aggregations s tree only low = simp (low, only)
typed_is table.Records s tree only low = simp (low, only)
typed_is table.Contents s tree only low = simp (low, only)
typed_is table.Holds s tree only low = simp (low, only)
typed_is table.Targets s tree only low = simp (low, only)
typed_is table.Runs s tree only low = simp (low, only)
typed_is table.Entries s tree only low = simp (low, only)
typed_is table.Certificates s tree only low = simp (low, only)
typed_is table.Schedules s tree only low = simp (low, only)
typed_is table.Events s tree only low = simp (low, only)

-- the text of each table reads it whole, by its key
pub text_is : (t : OfficeTable) → ReadsWhole (text_of t) (table_of t) (places_of t) (key_of t)
unfolding everything
text_is table.Office = record {
  keys = key_places table.Office;
  names = names_of table.Office;
  known = λ s place tree it.
      let is = reads_compiled s place tree (table_of table.Office) it (text_of table.Office) _ (names_of table.Office) (key_names table.Office) (outputs_of table.Office) (places_of table.Office) (key_places table.Office) _ refl refl refl refl refl (parts_is table.Office s place tree it.named it.found) (typed_is table.Office s tree it.only it.low) in
      let known = understood_is s (text_of table.Office) _ is tt in
      (ap command_of known, subst IsPlain (sym known) (refl, refl), unlisted s (text_of table.Office) _ is);
  tied = λ r. refl;
  as_many = refl;
}
text_is table.OldSchedules = record {
  keys = key_places table.OldSchedules;
  names = names_of table.OldSchedules;
  known = λ s place tree it.
      let is = reads_compiled s place tree (table_of table.OldSchedules) it (text_of table.OldSchedules) _ (names_of table.OldSchedules) (key_names table.OldSchedules) (outputs_of table.OldSchedules) (places_of table.OldSchedules) (key_places table.OldSchedules) _ refl refl refl refl refl (parts_is table.OldSchedules s place tree it.named it.found) (typed_is table.OldSchedules s tree it.only it.low) in
      let known = understood_is s (text_of table.OldSchedules) _ is tt in
      (ap command_of known, subst IsPlain (sym known) (refl, refl), unlisted s (text_of table.OldSchedules) _ is);
  tied = λ r. refl;
  as_many = refl;
}
text_is table.Classes = record {
  keys = key_places table.Classes;
  names = names_of table.Classes;
  known = λ s place tree it.
      let is = reads_compiled s place tree (table_of table.Classes) it (text_of table.Classes) _ (names_of table.Classes) (key_names table.Classes) (outputs_of table.Classes) (places_of table.Classes) (key_places table.Classes) _ refl refl refl refl refl (parts_is table.Classes s place tree it.named it.found) (typed_is table.Classes s tree it.only it.low) in
      let known = understood_is s (text_of table.Classes) _ is tt in
      (ap command_of known, subst IsPlain (sym known) (refl, refl), unlisted s (text_of table.Classes) _ is);
  tied = λ r. refl;
  as_many = refl;
}
text_is table.Aggregations = record {
  keys = key_places table.Aggregations;
  names = names_of table.Aggregations;
  known = λ s place tree it.
      let is = reads_compiled s place tree (table_of table.Aggregations) it (text_of table.Aggregations) _ (names_of table.Aggregations) (key_names table.Aggregations) (outputs_of table.Aggregations) (places_of table.Aggregations) (key_places table.Aggregations) _ refl refl refl refl refl (parts_is table.Aggregations s place tree it.named it.found) (typed_is table.Aggregations s tree it.only it.low) in
      let known = understood_is s (text_of table.Aggregations) _ is tt in
      (ap command_of known, subst IsPlain (sym known) (refl, refl), unlisted s (text_of table.Aggregations) _ is);
  tied = λ r. refl;
  as_many = refl;
}
text_is table.Records = record {
  keys = key_places table.Records;
  names = names_of table.Records;
  known = λ s place tree it.
      let is = reads_compiled s place tree (table_of table.Records) it (text_of table.Records) _ (names_of table.Records) (key_names table.Records) (outputs_of table.Records) (places_of table.Records) (key_places table.Records) _ refl refl refl refl refl (parts_is table.Records s place tree it.named it.found) (typed_is table.Records s tree it.only it.low) in
      let known = understood_is s (text_of table.Records) _ is tt in
      (ap command_of known, subst IsPlain (sym known) (refl, refl), unlisted s (text_of table.Records) _ is);
  tied = λ r. refl;
  as_many = refl;
}
text_is table.Contents = record {
  keys = key_places table.Contents;
  names = names_of table.Contents;
  known = λ s place tree it.
      let is = reads_compiled s place tree (table_of table.Contents) it (text_of table.Contents) _ (names_of table.Contents) (key_names table.Contents) (outputs_of table.Contents) (places_of table.Contents) (key_places table.Contents) _ refl refl refl refl refl (parts_is table.Contents s place tree it.named it.found) (typed_is table.Contents s tree it.only it.low) in
      let known = understood_is s (text_of table.Contents) _ is tt in
      (ap command_of known, subst IsPlain (sym known) (refl, refl), unlisted s (text_of table.Contents) _ is);
  tied = λ r. refl;
  as_many = refl;
}
text_is table.Holds = record {
  keys = key_places table.Holds;
  names = names_of table.Holds;
  known = λ s place tree it.
      let is = reads_compiled s place tree (table_of table.Holds) it (text_of table.Holds) _ (names_of table.Holds) (key_names table.Holds) (outputs_of table.Holds) (places_of table.Holds) (key_places table.Holds) _ refl refl refl refl refl (parts_is table.Holds s place tree it.named it.found) (typed_is table.Holds s tree it.only it.low) in
      let known = understood_is s (text_of table.Holds) _ is tt in
      (ap command_of known, subst IsPlain (sym known) (refl, refl), unlisted s (text_of table.Holds) _ is);
  tied = λ r. refl;
  as_many = refl;
}
text_is table.Targets = record {
  keys = key_places table.Targets;
  names = names_of table.Targets;
  known = λ s place tree it.
      let is = reads_compiled s place tree (table_of table.Targets) it (text_of table.Targets) _ (names_of table.Targets) (key_names table.Targets) (outputs_of table.Targets) (places_of table.Targets) (key_places table.Targets) _ refl refl refl refl refl (parts_is table.Targets s place tree it.named it.found) (typed_is table.Targets s tree it.only it.low) in
      let known = understood_is s (text_of table.Targets) _ is tt in
      (ap command_of known, subst IsPlain (sym known) (refl, refl), unlisted s (text_of table.Targets) _ is);
  tied = λ r. refl;
  as_many = refl;
}
text_is table.Runs = record {
  keys = key_places table.Runs;
  names = names_of table.Runs;
  known = λ s place tree it.
      let is = reads_compiled s place tree (table_of table.Runs) it (text_of table.Runs) _ (names_of table.Runs) (key_names table.Runs) (outputs_of table.Runs) (places_of table.Runs) (key_places table.Runs) _ refl refl refl refl refl (parts_is table.Runs s place tree it.named it.found) (typed_is table.Runs s tree it.only it.low) in
      let known = understood_is s (text_of table.Runs) _ is tt in
      (ap command_of known, subst IsPlain (sym known) (refl, refl), unlisted s (text_of table.Runs) _ is);
  tied = λ r. refl;
  as_many = refl;
}
text_is table.Entries = record {
  keys = key_places table.Entries;
  names = names_of table.Entries;
  known = λ s place tree it.
      let is = reads_compiled s place tree (table_of table.Entries) it (text_of table.Entries) _ (names_of table.Entries) (key_names table.Entries) (outputs_of table.Entries) (places_of table.Entries) (key_places table.Entries) _ refl refl refl refl refl (parts_is table.Entries s place tree it.named it.found) (typed_is table.Entries s tree it.only it.low) in
      let known = understood_is s (text_of table.Entries) _ is tt in
      (ap command_of known, subst IsPlain (sym known) (refl, refl), unlisted s (text_of table.Entries) _ is);
  tied = λ r. refl;
  as_many = refl;
}
text_is table.Certificates = record {
  keys = key_places table.Certificates;
  names = names_of table.Certificates;
  known = λ s place tree it.
      let is = reads_compiled s place tree (table_of table.Certificates) it (text_of table.Certificates) _ (names_of table.Certificates) (key_names table.Certificates) (outputs_of table.Certificates) (places_of table.Certificates) (key_places table.Certificates) _ refl refl refl refl refl (parts_is table.Certificates s place tree it.named it.found) (typed_is table.Certificates s tree it.only it.low) in
      let known = understood_is s (text_of table.Certificates) _ is tt in
      (ap command_of known, subst IsPlain (sym known) (refl, refl), unlisted s (text_of table.Certificates) _ is);
  tied = λ r. refl;
  as_many = refl;
}
text_is table.Schedules = record {
  keys = key_places table.Schedules;
  names = names_of table.Schedules;
  known = λ s place tree it.
      let is = reads_compiled s place tree (table_of table.Schedules) it (text_of table.Schedules) _ (names_of table.Schedules) (key_names table.Schedules) (outputs_of table.Schedules) (places_of table.Schedules) (key_places table.Schedules) _ refl refl refl refl refl (parts_is table.Schedules s place tree it.named it.found) (typed_is table.Schedules s tree it.only it.low) in
      let known = understood_is s (text_of table.Schedules) _ is tt in
      (ap command_of known, subst IsPlain (sym known) (refl, refl), unlisted s (text_of table.Schedules) _ is);
  tied = λ r. refl;
  as_many = refl;
}
text_is table.Events = record {
  keys = key_places table.Events;
  names = names_of table.Events;
  known = λ s place tree it.
      let is = reads_compiled s place tree (table_of table.Events) it (text_of table.Events) _ (names_of table.Events) (key_names table.Events) (outputs_of table.Events) (places_of table.Events) (key_places table.Events) _ refl refl refl refl refl (parts_is table.Events s place tree it.named it.found) (typed_is table.Events s tree it.only it.low) in
      let known = understood_is s (text_of table.Events) _ is tt in
      (ap command_of known, subst IsPlain (sym known) (refl, refl), unlisted s (text_of table.Events) _ is);
  tied = λ r. refl;
  as_many = refl;
}
