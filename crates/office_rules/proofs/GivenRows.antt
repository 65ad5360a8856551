-- Rows of tables that are given one after another.
use Rattle.std.proofs.Common.{◌≡◌, ◌≢◌, ◌<◌, ℕ, zero, suc, List, [], ◌∷◌, ◌++◌, length, map, get_or, take, refl, sym, ap, ◌∙◌, subst, append_assoc, append-nil, arith}
use Rattle.std.proofs.lemmas.List.{map-append, map-id}
use Rattle.std.specs.Prelude.{String}
use Rattle.std.specs.Global.{Global}
use Rattle.std.specs.String.{string_bytes}
use Rattle.office_records.specs.declared.aggregation.Aggregation.{Aggregation}
use Rattle.office_records.specs.declared.class.Class.{Class}
use Rattle.office_records.specs.declared.event.Event.{Event}
use Rattle.office_records.specs.declared.schedule.Schedule.{Schedule}
use Rattle.office_records.specs.declared.hold_row.HoldRow.{HoldRow}
use Rattle.office_records.specs.declared.target.Target.{Target}
use Rattle.office_rules.specs.declared.entry.Entry.{Entry}
use Rattle.office_rules.specs.Giving.{RepresentNoneFrom, up_to_classes, up_to_contents, up_to_targets}
use Rattle.office_rules.specs.Tables.{Begins, IsPrefix, RepresentNone, TableLists, no_rows, with_row, with_rows}
use Rattle.office_rules.specs.declared.rows.RecordRow.{RecordRow}
use Rattle.office_rules.specs.declared.run.Run.{Run}
use Rattle.office_rules.specs.declared.table_row.Row.{Row}
use Rattle.office_rules.specs.declared.table_row.Row.TheVariants as row

-- ---- one row more

-- of the first things of a list one more
taken_next : {A : Type 0} (xs : List A) (i : ℕ) (x : A) → i < length xs → x ≡ get_or xs i x → take (suc i) xs ≡ take i xs ++ x ∷ []
taken_next [] i x low is = absurd (omega arith)
taken_next (y ∷ ys) zero x low is = ap (λ z. z ∷ []) (sym is)
taken_next (y ∷ ys) (suc i) x low is = ap (λ zs. y ∷ zs) (taken_next ys i x (omega arith) is)

with_rows-push : (t : TableLists) (rs : List Row) (r : Row) → with_rows t (rs ++ r ∷ []) ≡ with_row (with_rows t rs) r
with_rows-push t [] r = refl
with_rows-push t (s ∷ rs) r = with_rows-push (with_row t s) rs r

pub with_rows-next : {A : Type 0} (row_of : A → Row) (t : TableLists) (xs : List A) (i : ℕ) (x : A) → i < length xs → x ≡ get_or xs i x
    → with_rows t (map row_of (take (suc i) xs)) ≡ with_row (with_rows t (map row_of (take i xs))) (row_of x)
with_rows-next row_of t xs i x low is =
    ap (λ ys. with_rows t (map row_of ys)) (taken_next xs i x low is)
    ∙ ap (with_rows t) (map-append row_of (take i xs) (x ∷ []))
    ∙ with_rows-push t (map row_of (take i xs)) (row_of x)

-- ---- what the rows of one table make of those that have come

-- a part of the tables that a row of that kind is put at the end of
module _ {A B : Type 0} (row_of : A → Row) (reported : A → B) (part : TableLists → List B) (put : TableLists → List B → TableLists)
    (one : (t : TableLists) (x : A) → with_row t (row_of x) ≡ put t (part t ++ reported x ∷ [])) (here : (t : TableLists) (xs : List B) → part (put t xs) ≡ xs)
    (over : (t : TableLists) (xs ys : List B) → put (put t xs) ys ≡ put t ys) (same : (t : TableLists) → put t (part t) ≡ t) where
  with_all : (xs : List A) (t : TableLists) → with_rows t (map row_of xs) ≡ put t (part t ++ map reported xs)
  with_all [] t = sym (ap (put t) (append-nil (part t)) ∙ same t)
  with_all (x ∷ xs) t =
      ap (λ u. with_rows u (map row_of xs)) (one t x)
      ∙ with_all xs (put t (part t ++ reported x ∷ []))
      ∙ ap (λ ys. put (put t (part t ++ reported x ∷ [])) (ys ++ map reported xs)) (here t (part t ++ reported x ∷ []))
      ∙ over t (part t ++ reported x ∷ []) ((part t ++ reported x ∷ []) ++ map reported xs)
      ∙ ap (put t) (append_assoc (part t) (reported x ∷ []) (map reported xs))

module _ {A : Type 0} (row_of : A → Row) (part : TableLists → List A) (put : TableLists → List A → TableLists)
    (one : (t : TableLists) (x : A) → with_row t (row_of x) ≡ put t (part t ++ x ∷ [])) (here : (t : TableLists) (xs : List A) → part (put t xs) ≡ xs)
    (over : (t : TableLists) (xs ys : List A) → put (put t xs) ys ≡ put t ys) (same : (t : TableLists) → put t (part t) ≡ t) where
  with_these : (xs : List A) (t : TableLists) → with_rows t (map row_of xs) ≡ put t (part t ++ xs)
  with_these xs t = with_all row_of (λ x. x) part put one here over same xs t ∙ ap (λ ys. put t (part t ++ ys)) (map-id xs)

schedules_all : (xs : List (List ℕ × Schedule)) (t : TableLists) → with_rows t (map (λ e. row.Schedule e.0 e.1) xs) ≡ record t { schedules = t.schedules ++ xs }
schedules_all = with_these (λ e. row.Schedule e.0 e.1) (λ t. t.schedules) (λ t xs. record t { schedules = xs }) (λ t x. refl) (λ t xs. refl) (λ t xs ys. refl) (λ t. refl)

classes_all : (xs : List (List ℕ × Class)) (t : TableLists) → with_rows t (map (λ e. row.Class e.0 e.1) xs) ≡ record t { classes = t.classes ++ xs }
classes_all = with_these (λ e. row.Class e.0 e.1) (λ t. t.classes) (λ t xs. record t { classes = xs }) (λ t x. refl) (λ t xs. refl) (λ t xs ys. refl) (λ t. refl)

aggregations_all : (xs : List (ℕ × Aggregation)) (t : TableLists) → with_rows t (map (λ e. row.Aggregation e.0 e.1) xs) ≡ record t { aggregations = t.aggregations ++ xs }
aggregations_all = with_these (λ e. row.Aggregation e.0 e.1) (λ t. t.aggregations) (λ t xs. record t { aggregations = xs }) (λ t x. refl) (λ t xs. refl) (λ t xs ys. refl) (λ t. refl)

records_all : (xs : List (ℕ × RecordRow)) (t : TableLists) → with_rows t (map (λ e. row.Record e.0 e.1) xs) ≡ record t { records = t.records ++ xs }
records_all = with_these (λ e. row.Record e.0 e.1) (λ t. t.records) (λ t xs. record t { records = xs }) (λ t x. refl) (λ t xs. refl) (λ t xs ys. refl) (λ t. refl)

events_all : (xs : List (ℕ × Event)) (t : TableLists) → with_rows t (map (λ e. row.Event e.0 e.1) xs) ≡ record t { events = t.events ++ xs }
events_all = with_these (λ e. row.Event e.0 e.1) (λ t. t.events) (λ t xs. record t { events = xs }) (λ t x. refl) (λ t xs. refl) (λ t xs ys. refl) (λ t. refl)

contents_all : (xs : List (ℕ)) (t : TableLists) → with_rows t (map (λ number. row.Content number) xs) ≡ record t { contents = t.contents ++ xs }
contents_all = with_these (λ number. row.Content number) (λ t. t.contents) (λ t xs. record t { contents = xs }) (λ t x. refl) (λ t xs. refl) (λ t xs ys. refl) (λ t. refl)

holds_all : (xs : List (List ℕ × HoldRow)) (t : TableLists) → with_rows t (map (λ e. row.Hold e.0 e.1) xs) ≡ record t { holds = t.holds ++ xs }
holds_all = with_these (λ e. row.Hold e.0 e.1) (λ t. t.holds) (λ t xs. record t { holds = xs }) (λ t x. refl) (λ t xs. refl) (λ t xs ys. refl) (λ t. refl)

targets_all : (xs : List (List ℕ × Target)) (t : TableLists) → with_rows t (map (λ e. row.Target e.0 e.1) xs) ≡ record t { targets = t.targets ++ xs }
targets_all = with_these (λ e. row.Target e.0 e.1) (λ t. t.targets) (λ t xs. record t { targets = xs }) (λ t x. refl) (λ t xs. refl) (λ t xs ys. refl) (λ t. refl)

runs_all : (xs : List (ℕ × Run)) (t : TableLists) → with_rows t (map (λ e. row.Run e.0 e.1) xs) ≡ record t { runs = t.runs ++ xs }
runs_all = with_these (λ e. row.Run e.0 e.1) (λ t. t.runs) (λ t xs. record t { runs = xs }) (λ t x. refl) (λ t xs. refl) (λ t xs ys. refl) (λ t. refl)

entries_all : (xs : List (Entry)) (t : TableLists) → with_rows t (map (λ entry. row.Entry entry) xs) ≡ record t { entries = t.entries ++ xs }
entries_all = with_these (λ entry. row.Entry entry) (λ t. t.entries) (λ t xs. record t { entries = xs }) (λ t x. refl) (λ t xs. refl) (λ t xs ys. refl) (λ t. refl)

abbrev pub text_row : ℕ × String Global → ℕ × List ℕ
text_row e = (e.0, string_bytes e.1)

certificates_all : (xs : List (ℕ × String Global)) (t : TableLists) → with_rows t (map (λ e. row.Certificate e.0 e.1) xs) ≡ record t { certificates = t.certificates ++ map text_row xs }
certificates_all = with_all (λ e. row.Certificate e.0 e.1) text_row (λ t. t.certificates) (λ t xs. record t { certificates = xs }) (λ t x. refl) (λ t xs. refl) (λ t xs ys. refl) (λ t. refl)

-- ---- tables that begin with the rows that have come

whole : {A : Type 0} (xs : List A) → IsPrefix xs xs
whole xs = ([], sym (append-nil xs))

none : {A : Type 0} (xs : List A) → IsPrefix [] xs
none xs = (xs, refl)

-- each table begins with its rows, and where targets came all holds are there
begins_by : (prefix t : TableLists) → IsPrefix prefix.days t.days → IsPrefix prefix.schedules t.schedules → IsPrefix prefix.classes t.classes → IsPrefix prefix.aggregations t.aggregations → IsPrefix prefix.records t.records
    → IsPrefix prefix.events t.events → IsPrefix prefix.contents t.contents → IsPrefix prefix.holds t.holds → (prefix.targets ≢ [] → t.holds ≡ prefix.holds) → IsPrefix prefix.targets t.targets → IsPrefix prefix.runs t.runs → IsPrefix prefix.entries t.entries
    → IsPrefix prefix.certificates t.certificates → Begins prefix t
begins_by prefix t days schedules classes aggregations records events contents holds all_holds targets runs entries certificates = record {
  days = days;
  schedules = schedules;
  classes = classes;
  aggregations = aggregations;
  records = records;
  events = events;
  contents = contents;
  holds = holds;
  all_holds = all_holds;
  targets = targets;
  runs = runs;
  entries = entries;
  certificates = certificates;
}

-- where no tables begin with what had come and the first of these rows, those that do begin so represent none
broken : {A : Type 0} (row_of : A → Row) (t prefix come : TableLists) (xs : List A) → ((done rest : List A) → xs ≡ done ++ rest → Begins (with_rows prefix (map row_of done)) t) → come ≡ prefix
    → RepresentNoneFrom come row_of xs → RepresentNone t
broken row_of t prefix come xs begins same broke =
    broke.3 t (subst (λ u. Begins (with_rows u (map row_of broke.0)) t) (sym same) (begins broke.0 broke.1 broke.2))

module _ (t : TableLists) where
  -- the row of office
  pub day_begins : (come : TableLists) → come ≡ record no_rows { days = t.days } → Begins come t
  day_begins come same = subst (λ u. Begins u t) (sym same) (begins_by (record no_rows { days = t.days }) t (whole t.days) (none t.schedules) (none t.classes) (none t.aggregations) (none t.records) (none t.events) (none t.contents) (none t.holds) (λ some. absurd (some refl)) (none t.targets) (none t.runs) (none t.entries) (none t.certificates))

  -- ---- after all rows of a table; where some first ones were refused

  pub schedules_next : (xs : List (List ℕ × Schedule)) → xs ≡ t.schedules → (come next : TableLists) → come ≡ record no_rows { days = t.days } → next ≡ with_rows come (map (λ e. row.Schedule e.0 e.1) xs) → next ≡ record no_rows { days = t.days; schedules = t.schedules }
  schedules_next xs same come next at is = is ∙ (λ i. with_rows (at i) (map (λ e. row.Schedule e.0 e.1) (same i))) ∙ schedules_all t.schedules (record no_rows { days = t.days })

  pub schedules_broken : (xs : List (List ℕ × Schedule)) → xs ≡ t.schedules → (come : TableLists) → come ≡ record no_rows { days = t.days } → RepresentNoneFrom come (λ e. row.Schedule e.0 e.1) xs → RepresentNone t
  schedules_broken xs same come =
      broken (λ e. row.Schedule e.0 e.1) t (record no_rows { days = t.days }) come xs
      (λ done rest split. subst (λ u. Begins u t) (sym (schedules_all done (record no_rows { days = t.days }))) (begins_by (record (record no_rows { days = t.days }) { schedules = done }) t (whole t.days) (rest, sym same ∙ split) (none t.classes) (none t.aggregations) (none t.records) (none t.events) (none t.contents) (none t.holds) (λ some. absurd (some refl)) (none t.targets) (none t.runs) (none t.entries) (none t.certificates)))

  pub classes_next : (xs : List (List ℕ × Class)) → xs ≡ t.classes → (come next : TableLists) → come ≡ record no_rows { days = t.days; schedules = t.schedules } → next ≡ with_rows come (map (λ e. row.Class e.0 e.1) xs) → next ≡ up_to_classes t
  classes_next xs same come next at is = is ∙ (λ i. with_rows (at i) (map (λ e. row.Class e.0 e.1) (same i))) ∙ classes_all t.classes (record no_rows { days = t.days; schedules = t.schedules })

  pub classes_broken : (xs : List (List ℕ × Class)) → xs ≡ t.classes → (come : TableLists) → come ≡ record no_rows { days = t.days; schedules = t.schedules } → RepresentNoneFrom come (λ e. row.Class e.0 e.1) xs → RepresentNone t
  classes_broken xs same come =
      broken (λ e. row.Class e.0 e.1) t (record no_rows { days = t.days; schedules = t.schedules }) come xs
      (λ done rest split. subst (λ u. Begins u t) (sym (classes_all done (record no_rows { days = t.days; schedules = t.schedules }))) (begins_by (record (record no_rows { days = t.days; schedules = t.schedules }) { classes = done }) t (whole t.days) (whole t.schedules) (rest, sym same ∙ split) (none t.aggregations) (none t.records) (none t.events) (none t.contents) (none t.holds) (λ some. absurd (some refl)) (none t.targets) (none t.runs) (none t.entries) (none t.certificates)))

  pub aggregations_next : (xs : List (ℕ × Aggregation)) → xs ≡ t.aggregations → (come next : TableLists) → come ≡ up_to_classes t → next ≡ with_rows come (map (λ e. row.Aggregation e.0 e.1) xs) → next ≡ record (up_to_classes t) { aggregations = t.aggregations }
  aggregations_next xs same come next at is = is ∙ (λ i. with_rows (at i) (map (λ e. row.Aggregation e.0 e.1) (same i))) ∙ aggregations_all t.aggregations (up_to_classes t)

  pub aggregations_broken : (xs : List (ℕ × Aggregation)) → xs ≡ t.aggregations → (come : TableLists) → come ≡ up_to_classes t → RepresentNoneFrom come (λ e. row.Aggregation e.0 e.1) xs → RepresentNone t
  aggregations_broken xs same come =
      broken (λ e. row.Aggregation e.0 e.1) t (up_to_classes t) come xs
      (λ done rest split. subst (λ u. Begins u t) (sym (aggregations_all done (up_to_classes t))) (begins_by (record (up_to_classes t) { aggregations = done }) t (whole t.days) (whole t.schedules) (whole t.classes) (rest, sym same ∙ split) (none t.records) (none t.events) (none t.contents) (none t.holds) (λ some. absurd (some refl)) (none t.targets) (none t.runs) (none t.entries) (none t.certificates)))

  pub records_next : (xs : List (ℕ × RecordRow)) → xs ≡ t.records → (come next : TableLists) → come ≡ record (up_to_classes t) { aggregations = t.aggregations } → next ≡ with_rows come (map (λ e. row.Record e.0 e.1) xs) → next ≡ record (up_to_classes t) { aggregations = t.aggregations; records = t.records }
  records_next xs same come next at is = is ∙ (λ i. with_rows (at i) (map (λ e. row.Record e.0 e.1) (same i))) ∙ records_all t.records (record (up_to_classes t) { aggregations = t.aggregations })

  pub records_broken : (xs : List (ℕ × RecordRow)) → xs ≡ t.records → (come : TableLists) → come ≡ record (up_to_classes t) { aggregations = t.aggregations } → RepresentNoneFrom come (λ e. row.Record e.0 e.1) xs → RepresentNone t
  records_broken xs same come =
      broken (λ e. row.Record e.0 e.1) t (record (up_to_classes t) { aggregations = t.aggregations }) come xs
      (λ done rest split. subst (λ u. Begins u t) (sym (records_all done (record (up_to_classes t) { aggregations = t.aggregations }))) (begins_by (record (record (up_to_classes t) { aggregations = t.aggregations }) { records = done }) t (whole t.days) (whole t.schedules) (whole t.classes) (whole t.aggregations) (rest, sym same ∙ split) (none t.events) (none t.contents) (none t.holds) (λ some. absurd (some refl)) (none t.targets) (none t.runs) (none t.entries) (none t.certificates)))

  pub events_next : (xs : List (ℕ × Event)) → xs ≡ t.events → (come next : TableLists) → come ≡ record (up_to_classes t) { aggregations = t.aggregations; records = t.records } → next ≡ with_rows come (map (λ e. row.Event e.0 e.1) xs) → next ≡ record (up_to_classes t) { aggregations = t.aggregations; records = t.records; events = t.events }
  events_next xs same come next at is = is ∙ (λ i. with_rows (at i) (map (λ e. row.Event e.0 e.1) (same i))) ∙ events_all t.events (record (up_to_classes t) { aggregations = t.aggregations; records = t.records })

  pub events_broken : (xs : List (ℕ × Event)) → xs ≡ t.events → (come : TableLists) → come ≡ record (up_to_classes t) { aggregations = t.aggregations; records = t.records } → RepresentNoneFrom come (λ e. row.Event e.0 e.1) xs → RepresentNone t
  events_broken xs same come =
      broken (λ e. row.Event e.0 e.1) t (record (up_to_classes t) { aggregations = t.aggregations; records = t.records }) come xs
      (λ done rest split. subst (λ u. Begins u t) (sym (events_all done (record (up_to_classes t) { aggregations = t.aggregations; records = t.records }))) (begins_by (record (record (up_to_classes t) { aggregations = t.aggregations; records = t.records }) { events = done }) t (whole t.days) (whole t.schedules) (whole t.classes) (whole t.aggregations) (whole t.records) (rest, sym same ∙ split) (none t.contents) (none t.holds) (λ some. absurd (some refl)) (none t.targets) (none t.runs) (none t.entries) (none t.certificates)))

  pub contents_next : (xs : List (ℕ)) → xs ≡ t.contents → (come next : TableLists) → come ≡ record (up_to_classes t) { aggregations = t.aggregations; records = t.records; events = t.events } → next ≡ with_rows come (map (λ number. row.Content number) xs) → next ≡ up_to_contents t
  contents_next xs same come next at is = is ∙ (λ i. with_rows (at i) (map (λ number. row.Content number) (same i))) ∙ contents_all t.contents (record (up_to_classes t) { aggregations = t.aggregations; records = t.records; events = t.events })

  pub contents_broken : (xs : List (ℕ)) → xs ≡ t.contents → (come : TableLists) → come ≡ record (up_to_classes t) { aggregations = t.aggregations; records = t.records; events = t.events } → RepresentNoneFrom come (λ number. row.Content number) xs → RepresentNone t
  contents_broken xs same come =
      broken (λ number. row.Content number) t (record (up_to_classes t) { aggregations = t.aggregations; records = t.records; events = t.events }) come xs
      (λ done rest split. subst (λ u. Begins u t) (sym (contents_all done (record (up_to_classes t) { aggregations = t.aggregations; records = t.records; events = t.events }))) (begins_by (record (record (up_to_classes t) { aggregations = t.aggregations; records = t.records; events = t.events }) { contents = done }) t (whole t.days) (whole t.schedules) (whole t.classes) (whole t.aggregations) (whole t.records) (whole t.events) (rest, sym same ∙ split) (none t.holds) (λ some. absurd (some refl)) (none t.targets) (none t.runs) (none t.entries) (none t.certificates)))

  pub holds_next : (xs : List (List ℕ × HoldRow)) → xs ≡ t.holds → (come next : TableLists) → come ≡ up_to_contents t → next ≡ with_rows come (map (λ e. row.Hold e.0 e.1) xs) → next ≡ record (up_to_contents t) { holds = t.holds }
  holds_next xs same come next at is = is ∙ (λ i. with_rows (at i) (map (λ e. row.Hold e.0 e.1) (same i))) ∙ holds_all t.holds (up_to_contents t)

  pub holds_broken : (xs : List (List ℕ × HoldRow)) → xs ≡ t.holds → (come : TableLists) → come ≡ up_to_contents t → RepresentNoneFrom come (λ e. row.Hold e.0 e.1) xs → RepresentNone t
  holds_broken xs same come =
      broken (λ e. row.Hold e.0 e.1) t (up_to_contents t) come xs
      (λ done rest split. subst (λ u. Begins u t) (sym (holds_all done (up_to_contents t))) (begins_by (record (up_to_contents t) { holds = done }) t (whole t.days) (whole t.schedules) (whole t.classes) (whole t.aggregations) (whole t.records) (whole t.events) (whole t.contents) (rest, sym same ∙ split) (λ some. absurd (some refl)) (none t.targets) (none t.runs) (none t.entries) (none t.certificates)))

  pub targets_next : (xs : List (List ℕ × Target)) → xs ≡ t.targets → (come next : TableLists) → come ≡ record (up_to_contents t) { holds = t.holds } → next ≡ with_rows come (map (λ e. row.Target e.0 e.1) xs) → next ≡ up_to_targets t
  targets_next xs same come next at is = is ∙ (λ i. with_rows (at i) (map (λ e. row.Target e.0 e.1) (same i))) ∙ targets_all t.targets (record (up_to_contents t) { holds = t.holds })

  pub targets_broken : (xs : List (List ℕ × Target)) → xs ≡ t.targets → (come : TableLists) → come ≡ record (up_to_contents t) { holds = t.holds } → RepresentNoneFrom come (λ e. row.Target e.0 e.1) xs → RepresentNone t
  targets_broken xs same come =
      broken (λ e. row.Target e.0 e.1) t (record (up_to_contents t) { holds = t.holds }) come xs
      (λ done rest split. subst (λ u. Begins u t) (sym (targets_all done (record (up_to_contents t) { holds = t.holds }))) (begins_by (record (record (up_to_contents t) { holds = t.holds }) { targets = done }) t (whole t.days) (whole t.schedules) (whole t.classes) (whole t.aggregations) (whole t.records) (whole t.events) (whole t.contents) (whole t.holds) (λ some. refl) (rest, sym same ∙ split) (none t.runs) (none t.entries) (none t.certificates)))

  pub runs_next : (xs : List (ℕ × Run)) → xs ≡ t.runs → (come next : TableLists) → come ≡ up_to_targets t → next ≡ with_rows come (map (λ e. row.Run e.0 e.1) xs) → next ≡ record (up_to_targets t) { runs = t.runs }
  runs_next xs same come next at is = is ∙ (λ i. with_rows (at i) (map (λ e. row.Run e.0 e.1) (same i))) ∙ runs_all t.runs (up_to_targets t)

  pub runs_broken : (xs : List (ℕ × Run)) → xs ≡ t.runs → (come : TableLists) → come ≡ up_to_targets t → RepresentNoneFrom come (λ e. row.Run e.0 e.1) xs → RepresentNone t
  runs_broken xs same come =
      broken (λ e. row.Run e.0 e.1) t (up_to_targets t) come xs
      (λ done rest split. subst (λ u. Begins u t) (sym (runs_all done (up_to_targets t))) (begins_by (record (up_to_targets t) { runs = done }) t (whole t.days) (whole t.schedules) (whole t.classes) (whole t.aggregations) (whole t.records) (whole t.events) (whole t.contents) (whole t.holds) (λ some. refl) (whole t.targets) (rest, sym same ∙ split) (none t.entries) (none t.certificates)))

  pub entries_next : (xs : List (Entry)) → xs ≡ t.entries → (come next : TableLists) → come ≡ record (up_to_targets t) { runs = t.runs } → next ≡ with_rows come (map (λ entry. row.Entry entry) xs) → next ≡ record (up_to_targets t) { runs = t.runs; entries = t.entries }
  entries_next xs same come next at is = is ∙ (λ i. with_rows (at i) (map (λ entry. row.Entry entry) (same i))) ∙ entries_all t.entries (record (up_to_targets t) { runs = t.runs })

  pub entries_broken : (xs : List (Entry)) → xs ≡ t.entries → (come : TableLists) → come ≡ record (up_to_targets t) { runs = t.runs } → RepresentNoneFrom come (λ entry. row.Entry entry) xs → RepresentNone t
  entries_broken xs same come =
      broken (λ entry. row.Entry entry) t (record (up_to_targets t) { runs = t.runs }) come xs
      (λ done rest split. subst (λ u. Begins u t) (sym (entries_all done (record (up_to_targets t) { runs = t.runs }))) (begins_by (record (record (up_to_targets t) { runs = t.runs }) { entries = done }) t (whole t.days) (whole t.schedules) (whole t.classes) (whole t.aggregations) (whole t.records) (whole t.events) (whole t.contents) (whole t.holds) (λ some. refl) (whole t.targets) (whole t.runs) (rest, sym same ∙ split) (none t.certificates)))

  pub certificates_next : (xs : List (ℕ × String Global)) → map text_row xs ≡ t.certificates → (come next : TableLists) → come ≡ record (up_to_targets t) { runs = t.runs; entries = t.entries } → next ≡ with_rows come (map (λ e. row.Certificate e.0 e.1) xs) → next ≡ t
  certificates_next xs same come next at is = is ∙ (λ i. with_rows (at i) (map (λ e. row.Certificate e.0 e.1) xs)) ∙ certificates_all xs (record (up_to_targets t) { runs = t.runs; entries = t.entries }) ∙ ap (λ texts. record t { certificates = texts }) same

  pub certificates_broken : (xs : List (ℕ × String Global)) → map text_row xs ≡ t.certificates → (come : TableLists) → come ≡ record (up_to_targets t) { runs = t.runs; entries = t.entries } → RepresentNoneFrom come (λ e. row.Certificate e.0 e.1) xs → RepresentNone t
  certificates_broken xs same come =
      broken (λ e. row.Certificate e.0 e.1) t (record (up_to_targets t) { runs = t.runs; entries = t.entries }) come xs
      (λ done rest split. subst (λ u. Begins u t) (sym (certificates_all done (record (up_to_targets t) { runs = t.runs; entries = t.entries }))) (begins_by (record (record (up_to_targets t) { runs = t.runs; entries = t.entries }) { certificates = map text_row done }) t (whole t.days) (whole t.schedules) (whole t.classes) (whole t.aggregations) (whole t.records) (whole t.events) (whole t.contents) (whole t.holds) (λ some. refl) (whole t.targets) (whole t.runs) (whole t.entries) (map text_row rest, sym same ∙ ap (map text_row) split ∙ map-append text_row done rest)))
