-- The rows of the tables, column by column, suit them; and what a call that puts one of them in does.
use Rattle.std.proofs.Common.{◌≡◌, inl, inr, ℕ, ℤ, Bool, List, [], Option, None, Some, Result, if◌then◌else◌, pos, refl, sym, subst}
use Rattle.sqlite_value.specs.declared.value.Value.TheVariants.{Int, Text}
use Rattle.sqlite_value.specs.Order.{Row}
use Rattle.sqlite_schema.specs.declared.schema.Kind.TheVariants as kind
use Rattle.sqlite.specs.State.{State}
use Rattle.sqlite.specs.Values.{or_null}
use Rattle.sqlite.specs.declared.error.Error.{Error}
use Rattle.office_sql.specs.Office.{GoesInside, PutsInto, Wrote}
use Rattle.office_sql.specs.Schema.{aggregations, certificates, classes, contents, entries, events, holds, may, office, runs, schedules2, targets}
use Rattle.office_sql.specs.Shown.{aggregation_row, certificate_row, class_row, content_row, entry_row, event_row, hold_row, office_row, run_row, schedule_row, target_row}
use Rattle.office_sql.specs.Suited.{IsRowFor, SuitsColumn}
use Rattle.office_sql.specs.Tables.{keys_of, table_of}
use Rattle.office_sql.specs.declared.tables.OfficeTable.{OfficeTable}

pub number_or_none : (n : Option ℤ) → SuitsColumn (may [] kind.Integer) (or_null Int n)
number_or_none None = inr (refl, refl)
number_or_none (Some n) = inl (n, refl)

pub text_or_none : (t : Option (List ℕ)) → SuitsColumn (may [] kind.Text) (or_null Text t)
text_or_none None = inr (refl, refl)
text_or_none (Some t) = inl (t, refl)

pub office_suits : (one version day : ℤ) → IsRowFor office (office_row one version day)
office_suits one version day = record { columns = (inl (one, refl), (inl (version, refl), (inl (day, refl), tt))); key = λ is. (one, refl) }

pub schedule_suits : (code start_at unit : List ℕ) (span : ℤ) (roll disposal : List ℕ) → IsRowFor schedules2 (schedule_row code start_at unit span roll disposal)
schedule_suits code start_at unit span roll disposal = record {
  columns = (inl (code, refl), (inl (start_at, refl), (inl (unit, refl), (inl (span, refl), (inl (roll, refl), (inl (disposal, refl), tt))))));
  key = λ is. absurd (let none = is in cc);
}

pub class_suits : (code title schedule : List ℕ) → IsRowFor classes (class_row code title schedule)
class_suits code title schedule = record { columns = (inl (code, refl), (inl (title, refl), (inl (schedule, refl), tt))); key = λ is. absurd (let none = is in cc) }

pub aggregation_suits : (num : ℤ) (ref title : List ℕ) (parent : Option ℤ) (class : Option (List ℕ)) (closed : Option ℤ) → IsRowFor aggregations (aggregation_row num ref title parent class closed)
aggregation_suits num ref title parent class closed = record {
  columns = (inl (num, refl), (inl (ref, refl), (inl (title, refl), (number_or_none parent, (text_or_none class, (number_or_none closed, tt))))));
  key = λ is. (num, refl);
}

pub event_suits : (record_no occurred day : ℤ) (told_by : List ℕ) → IsRowFor events (event_row record_no occurred day told_by)
event_suits record_no occurred day told_by = record { columns = (inl (record_no, refl), (inl (occurred, refl), (inl (day, refl), (inl (told_by, refl), tt)))); key = λ is. (record_no, refl) }

pub content_suits : (record_no : ℤ) (bytes : List ℕ) → IsRowFor contents (content_row record_no bytes)
content_suits record_no bytes = record { columns = (inl (record_no, refl), (inl (bytes, refl), tt)); key = λ is. (record_no, refl) }

pub hold_suits : (code reason : List ℕ) (placed : ℤ) (placed_by : List ℕ) (lifted : Option ℤ) → IsRowFor holds (hold_row code reason placed placed_by lifted)
hold_suits code reason placed placed_by lifted = record {
  columns = (inl (code, refl), (inl (reason, refl), (inl (placed, refl), (inl (placed_by, refl), (number_or_none lifted, tt)))));
  key = λ is. absurd (let none = is in cc);
}

pub target_suits : (hold kind target : List ℕ) → IsRowFor targets (target_row hold kind target)
target_suits hold kind target = record { columns = (inl (hold, refl), (inl (kind, refl), (inl (target, refl), tt))); key = λ is. absurd (let none = is in cc) }

pub run_suits : (num day : ℤ) (opened_by : List ℕ) (place : ℤ) (closed : Bool) → IsRowFor runs (run_row num day opened_by place closed)
run_suits num day opened_by place closed = record {
  columns = (inl (num, refl), (inl (day, refl), (inl (opened_by, refl), (inl (place, refl), (inl ((if closed then pos 1 else pos 0), refl), tt)))));
  key = λ is. (num, refl);
}

pub entry_suits : (run record_no : ℤ) (outcome class schedule : List ℕ) (due : ℤ) (confirmed_by : List ℕ) (hold : Option (List ℕ))
    → IsRowFor entries (entry_row run record_no outcome class schedule due confirmed_by hold)
entry_suits run record_no outcome class schedule due confirmed_by hold = record {
  columns = (inl (run, refl), (inl (record_no, refl), (inl (outcome, refl), (inl (class, refl), (inl (schedule, refl), (inl (due, refl), (inl (confirmed_by, refl), (text_or_none hold, tt))))))));
  key = λ is. absurd (let none = is in cc);
}

pub certificate_suits : (run : ℤ) (body : List ℕ) → IsRowFor certificates (certificate_row run body)
certificate_suits run body = record { columns = (inl (run, refl), (inl (body, refl), tt)); key = λ is. (run, refl) }

-- the values that a call is given are those of this row
pub puts_as : {X : Type 0} (t : OfficeTable) {given row : Row} → IsRowFor (table_of t) row → {old new : State} {r : Result X Error} → given ≡ row → (IsRowFor (table_of t) given → PutsInto (table_of t) (keys_of t) given old new r)
    → PutsInto (table_of t) (keys_of t) row old new r
puts_as t suits {old = old} {new = new} {r = r} same put tables mine =
    subst (λ row. GoesInside tables (Wrote tables (table_of t) (keys_of t) row) old new r) same (put (subst (IsRowFor (table_of t)) (sym same) suits) tables mine)
