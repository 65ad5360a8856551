-- Rows that come after others, in tables that represent a state.
use Rattle.std.proofs.Common.{◌≡◌, ℕ, suc, List, [], ◌∷◌, ◌++◌, length, sym, ap, subst, ◌∙◌, append_assoc}
use Rattle.std.specs.List.{All}
use Rattle.std.specs.List.Sorted.{IsStrictlySortedBy}
use Rattle.std.specs.Map.{keys_of}
use Rattle.std.specs.Ordering.{nat_cmp}
use Rattle.std.specs.declared.cmp.Ordering.TheVariants.{Less}
use Rattle.office_base.specs.Rows.{numbered_rows}
use Rattle.office_base.proofs.Counted.{next_number_of}
use Rattle.office_base.proofs.Maps.{keys_ascend}
use Rattle.office_base.proofs.Ascending.{keyed_next}
use Rattle.office_records.specs.Tree.{code_cmp}
use Rattle.office_records.specs.declared.aggregation.Aggregation.{Aggregation}
use Rattle.office_records.specs.declared.class.Class.{Class}
use Rattle.office_records.specs.declared.event.Event.{Event}
use Rattle.office_records.specs.declared.schedule.Schedule.{Schedule}
use Rattle.office_rules.specs.HoldLoading.{AreRowsOf, hold_rows}
use Rattle.office_records.specs.declared.hold_row.HoldRow.{HoldRow}
use Rattle.office_records.specs.declared.target.Target.{Target}
use Rattle.office_rules.specs.declared.entry.Entry.{Entry}
use Rattle.office_rules.specs.Loading.{entry_rows}
use Rattle.office_rules.specs.Rows.{record_rows, rows_of}
use Rattle.office_rules.specs.State.{State, entry_cmp}
use Rattle.office_rules.specs.Tables.{IsPrefix, Represents, TableLists}
use Rattle.office_rules.specs.declared.rows.RecordRow.{RecordRow}
use Rattle.office_rules.specs.declared.run.Run.{Run}
use Rattle.office_machine.proofs.MapRows.{next_entry, next_key}

module _ (t : TableLists) (s : State) (represent : Represents t s) where
  -- ---- the keys of those before are below a row's

  pub next_schedule : (done : List (List ℕ × Schedule)) (code : List ℕ) (it : Schedule) → IsPrefix (done ++ (code, it) ∷ []) t.schedules → All (λ q. code_cmp q code ≡ Less) (keys_of done)
  unfolding rows_of
  next_schedule done code it prefix = keyed_next code_cmp s.office.tree.schedules done code it prefix.0 (sym represent.schedules ∙ prefix.1)

  pub next_class : (done : List (List ℕ × Class)) (code : List ℕ) (it : Class) → IsPrefix (done ++ (code, it) ∷ []) t.classes → All (λ q. code_cmp q code ≡ Less) (keys_of done)
  unfolding rows_of
  next_class done code it prefix = keyed_next code_cmp s.office.tree.classes done code it prefix.0 (sym represent.classes ∙ prefix.1)

  pub next_event : (done : List (ℕ × Event)) (number : ℕ) (it : Event) → IsPrefix (done ++ (number, it) ∷ []) t.events → All (λ q. nat_cmp q number ≡ Less) (keys_of done)
  unfolding rows_of
  next_event done number it prefix = keyed_next nat_cmp s.office.tree.events done number it prefix.0 (sym represent.events ∙ prefix.1)

  pub next_content : (done : List ℕ) (number : ℕ) → IsPrefix (done ++ number ∷ []) t.contents → All (λ q. nat_cmp q number ≡ Less) done
  unfolding rows_of
  next_content done number prefix =
      next_key done number prefix.0
      (subst (λ ks. IsStrictlySortedBy nat_cmp ks) (sym represent.contents ∙ prefix.1 ∙ append_assoc done (number ∷ []) prefix.0) (keys_ascend nat_cmp s.contents))

  pub entry_next : (done : List Entry) (e : Entry) → IsPrefix (done ++ e ∷ []) t.entries → All (λ q. entry_cmp q (e.run, e.record_no) ≡ Less) (keys_of (entry_rows done))
  unfolding rows_of
  entry_next done e prefix =
      next_entry done e prefix.0
      (subst (λ es. IsStrictlySortedBy entry_cmp (keys_of es)) (sym represent.entries ∙ ap entry_rows (prefix.1 ∙ append_assoc done (e ∷ []) prefix.0)) (keys_ascend entry_cmp s.office.entries))

  pub next_certificate : (done : List (ℕ × List ℕ)) (run : ℕ) (text : List ℕ) → IsPrefix (done ++ (run, text) ∷ []) t.certificates → All (λ q. nat_cmp q run ≡ Less) (keys_of done)
  unfolding rows_of
  next_certificate done run text prefix = keyed_next nat_cmp s.office.certificates done run text prefix.0 (sym represent.certificates ∙ prefix.1)

  -- ---- a row's number is the next

  pub next_aggregation : (done : List Aggregation) (number : ℕ) (it : Aggregation) → IsPrefix (numbered_rows done ++ (number, it) ∷ []) t.aggregations → number ≡ suc (length done)
  unfolding rows_of
  next_aggregation done number it prefix = next_number_of s.office.tree.aggregations done number it prefix.0 (sym represent.aggregations ∙ prefix.1)

  pub next_run : (done : List Run) (number : ℕ) (it : Run) → IsPrefix (numbered_rows done ++ (number, it) ∷ []) t.runs → number ≡ suc (length done)
  unfolding rows_of
  next_run done number it prefix = next_number_of s.office.runs done number it prefix.0 (sym represent.runs ∙ prefix.1)

  -- ---- of what the rows are

  pub record_rows_are : (rows : List (ℕ × RecordRow)) → IsPrefix rows t.records → (rest : List (ℕ × RecordRow)) × (numbered_rows (record_rows s.office.tree.records s.office.tree.statuses) ≡ rows ++ rest)
  unfolding rows_of
  record_rows_are rows prefix = (prefix.0, sym represent.records ∙ prefix.1)

  pub hold_rows_are : (rows : List (List ℕ × HoldRow)) → IsPrefix rows t.holds → (rest : List (List ℕ × HoldRow)) × (hold_rows s.office.holds ≡ rows ++ rest)
  unfolding rows_of
  hold_rows_are rows prefix = (prefix.0, sym represent.holds ∙ prefix.1)

  pub target_rows_are : (rows : List (List ℕ × HoldRow)) (done : List (List ℕ × Target)) (code : List ℕ) (it : Target) → t.holds ≡ rows → IsPrefix (done ++ (code, it) ∷ []) t.targets
      → (rest : List (List ℕ × Target)) × AreRowsOf rows (done ++ (code, it) ∷ rest) s.office.holds
  unfolding rows_of
  target_rows_are rows done code it all prefix =
      (prefix.0, subst (λ ts. AreRowsOf rows ts s.office.holds) (prefix.1 ∙ append_assoc done ((code, it) ∷ []) prefix.0) (record { columns = sym represent.holds ∙ all; targets_exist = represent.targets }))
