-- How rows are done, one after another.
use Rattle.std.proofs.Common.{◌≡◌, ◌∙◌, refl, sym, ap, subst, arith, ℕ, ℤ, ◌+◌, ◌≤◌, List, [], ◌∷◌, ◌++◌, append-nil, append_assoc, length, length-append, Option, Some, None, Result, Ok, Err, inl, inr, Bool, true, false}
use Rattle.std.specs.Prelude.{◌⊎◌}
use Rattle.std.specs.Io.KnownBytes.{Appends, Keeps}
use Rattle.csv.specs.Reading.{ReadsNext, default_config}
use Rattle.csv.specs.Records.{AllText}
use Rattle.csv.specs.declared.parser.State.{State as Reading}
use Rattle.csv.specs.declared.parser.State.TheVariants.{StartRecord}
use Rattle.sqlite.specs.Held.{state}
use Rattle.sqlite_trees.specs.declared.store.Store.{Ghosts}
use Rattle.office_base.specs.Output.{AppendsSome}
use Rattle.office_base.specs.declared.refusal.Refusal.{Refusal}
use Rattle.office_rules.specs.Acts.{step}
use Rattle.office_rules.specs.Answers.{is_refusal}
use Rattle.office_rules.specs.State.{State}
use Rattle.office_rules.specs.declared.act.Act.{Act}
use Rattle.office_rules.specs.declared.answer.Answer.{Answer}
use Rattle.office_store.specs.declared.fault.Fault.{Fault}
use Rattle.office_store.specs.declared.fault.Fault.TheVariants as fault
use Rattle.office_desk.specs.Desk.{DeskState}
use Rattle.office_desk.specs.Leaving.{IsAt}
use Rattle.office_desk.specs.Outcomes.{ActsCameTo, IsActAnswered, act_outcome}
use Rattle.office_rules.specs.Parts.{fault_of}
use Rattle.office_rules.specs.declared.read_fault.ReadFault.TheVariants.{Refused, Memory}
use Rattle.office_json.proofs.Appending.{appends_both}
use Rattle.office_csv.specs.ImportRows.{Fields, parsed_row, fields_in}
use Rattle.office_csv.specs.ImportText.{AreAtPrefix, HeadsText, LacksHeader, TakesNoText}
use Rattle.office_csv.specs.declared.import_text.RowStop.{RowStop}
use Rattle.office_csv.specs.declared.import_text.RowStop.TheVariants as row_stop
use Rattle.office_csv.proofs.Prefix.{bad_next, bad_text, no_more, none_yet, one_more}
use Rattle.office_wire.specs.Calling.{CalledAt}
use Rattle.office_wire.specs.Importing.{AreAllRows, AreReported, AreRowsDone, AreSomeRows, EndsImport, EndsRow, EndsTaking, FitsText, ImportEnd, ImportLeads, ImportOutcome, IsRowDone, TakeStops, all_rows, bad_row, io_failed, line_of, lines_from, no_header, out_of_memory, one_if, refused_count, result_by, row_stopped, stop_at}
use Rattle.office_wire.specs.declared.record_import.ImportStop.{ImportStop}
use Rattle.office_wire.specs.declared.record_import.ImportStop.TheVariants as stop
use Rattle.office_wire.proofs.Calls.{called, called_on, not_called}

-- ---- one row

-- an act was read, and was done or stopped
pub row_ended : {S : Type 0} (g : Ghosts S) (day : ℤ) (s : State) (row : Fields) (act : Act) (x : Result Answer Fault) (old desk : DeskState S) → parsed_row day row ≡ Ok act → IsActAnswered s act x old desk
    → ActsCameTo s (act ∷ []) (act_outcome x) (state g desk.connection) → EndsRow g day s row x desk
row_ended g day s row act (Ok answer) old desk read it came =
    ((step s act).1, (rw read (it.formed, it.answered, refl)), record { is_open = it.leads.1; office = it.leads.0; sound = came.leaves.sound; rows = came.leaves.rows })
row_ended g day s row act (Err f) old desk read it came = inr (act, read, it.formed, (it.leads, came.leaves))

-- no act was read, since a field is not of its form or out of its range
pub row_refused : (x : Result Act Refusal) (why : Refusal) → (Refused why ≡ Memory) ⊎ (Refused why ≡ fault_of x) → x ≡ Err why
row_refused (Ok act) why (inl e) = cc
row_refused (Ok act) why (inr e) = cc
row_refused (Err other) why (inl e) = cc
row_refused (Err other) why (inr e) = cc

-- ---- rows

done_more : (day : ℤ) (s : State) (rows : List Fields) (answers : List Answer) (m : State) (row : Fields) (answer : Answer) (t : State) → AreRowsDone day s rows answers m → IsRowDone day m row answer t → AreRowsDone day s (rows ++ row ∷ []) (answers ++ answer ∷ []) t
done_more day s [] answers m row answer t h k = (answer, [], t, ap (λ (x : List Answer). x ++ answer ∷ []) h.0, (rw h.1 at k), (refl, refl))
done_more day s (r ∷ rows) answers m row answer t h k =
    (h.0, h.1 ++ answer ∷ [], h.2, ap (λ (x : List Answer). x ++ answer ∷ []) h.3, h.4, done_more day h.2 rows h.1 m row answer t h.5 k)

as_many : (day : ℤ) (s : State) (rows : List Fields) (answers : List Answer) (t : State) → AreRowsDone day s rows answers t → length answers ≡ length rows
as_many day s [] answers t h = ap length h.0
as_many day s (r ∷ rows) answers t h = omega (arith, ap length h.3, as_many day h.2 rows h.1 t h.5)

lines_more : (before : ℕ) (answers : List Answer) (answer : Answer) → lines_from before (answers ++ answer ∷ []) ≡ lines_from before answers ++ line_of (before + length answers + 1) answer
lines_more before [] answer = append-nil _ ∙ ap (λ (n : ℕ). line_of n answer) (omega arith)
lines_more before (a ∷ answers) answer =
    ap (λ (x : List ℕ). line_of (before + 1) a ++ x) (lines_more (before + 1) answers answer)
    ∙ (sym (append_assoc (line_of (before + 1) a) (lines_from (before + 1) answers) _)
    ∙ ap (λ (n : ℕ). lines_from before (a ∷ answers) ++ line_of n answer) (omega arith))

count_more : (answers : List Answer) (answer : Answer) → refused_count (answers ++ answer ∷ []) ≡ refused_count answers + one_if (is_refusal answer)
count_more [] answer = omega arith
count_more (a ∷ answers) answer = omega (arith, count_more answers answer)

reported_more : (old mid new : Option (List ℕ)) (answers : List Answer) (answer : Answer) (number : ℕ) → number ≡ length answers + 1 → Appends old mid (lines_from 0 answers) → Appends mid new (line_of number answer) → Appends old new (lines_from 0 (answers ++ answer ∷ []))
reported_more old mid new answers answer number e h k =
    rw (lines_more 0 answers answer) (appends_both old mid new _ _ h (subst (λ (n : ℕ). Appends mid new (line_of n answer)) (e ∙ omega arith) k))

nothing_reported : (old : Option (List ℕ)) → Appends old old (lines_from 0 [])
nothing_reported None = tt
nothing_reported (Some xs) = sym (append-nil xs)

-- ---- how far an import has come

-- from a state: these rows were done, and so many were refused
pub record IsPrefix {S : Type 0} (g : Ghosts S) (day : ℤ) (s : State) (s0 : Reading) (o0 : Option (List ℕ)) (s1 : Reading) (o1 : Option (List ℕ)) (d : DeskState S) (w0 w : Option (List ℕ)) (before refused : ℕ) : Type 0 where
  pub rows : List Fields
  pub answers : List Answer
  pub last : State
  pub prefix : AreAtPrefix s0 o0 rows s1 o1
  pub count : before ≡ length rows
  pub done : AreRowsDone day s rows answers last
  pub represents : IsAt g last d
  pub reported : Appends w0 w (lines_from 0 answers)
  pub refusals : refused ≡ refused_count answers

pub record Prefix {S : Type 0} (g : Ghosts S) (day : ℤ) (s0 : Reading) (o0 : Option (List ℕ)) (s1 : Reading) (o1 : Option (List ℕ)) (d0 d : DeskState S) (w0 w : Option (List ℕ)) (before refused : ℕ) : Type 0 where
  pub few : refused ≤ before
  pub call : CalledAt g d0 d (λ s. IsPrefix g day s s0 o0 s1 o1 d w0 w before refused)

pub prefix_start : {S : Type 0} (g : Ghosts S) (day : ℤ) (s0 : Reading) (o0 : Option (List ℕ)) (d0 : DeskState S) (w0 : Option (List ℕ)) → Prefix g day s0 o0 s0 o0 d0 d0 w0 w0 0 0
prefix_start g day s0 o0 d0 w0 =
    record {
      few = omega arith;
      call = not_called g d0 (λ s. IsPrefix g day s s0 o0 s0 o0 d0 w0 w0 0 0) (λ s at.
          record {
            rows = [];
            answers = [];
            last = s;
            prefix = none_yet o0 s0;
            count = refl;
            done = (refl, refl);
            represents = at;
            reported = nothing_reported w0;
            refusals = refl;
          });
    }

few_more : (before refused : ℕ) (is_refused : Bool) → refused ≤ before → refused + one_if is_refused ≤ before + 1
few_more before refused true h = omega (arith, h)
few_more before refused false h = omega (arith, h)

module _ {S : Type 0} (g : Ghosts S) (day : ℤ) (s0 s1 s2 : Reading) (o0 o1 o2 : Option (List ℕ)) (d0 d d2 : DeskState S) (w0 w w2 : Option (List ℕ)) (before refused : ℕ) (fields : List (List ℕ))
    (reads : ReadsNext default_config s1 o1 o2 true fields s2) (all : AllText fields) where
  -- a row was read after these
  row_read : (rows : List Fields) (row : Fields) → AreAtPrefix s0 o0 rows s1 o1 → fields ≡ fields_in row → AreAtPrefix s0 o0 (rows ++ row ∷ []) s2 o2
  row_read rows row prefix is = one_more o0 o1 o2 s0 s1 s2 rows row fields prefix reads all is

  row_more : (s : State) (is_refused : Bool) (it : IsPrefix g day s s0 o0 s1 o1 d w0 w before refused) → EndsTaking g day it.last (before + 1) fields (Ok is_refused) d2 w w2
      → IsPrefix g day s s0 o0 s2 o2 d2 w0 w2 (before + 1) (refused + one_if is_refused)
  row_more s is_refused it (row, is, (answer, t, one, represents, line, same)) =
      record {
        rows = it.rows ++ row ∷ [];
        answers = it.answers ++ answer ∷ [];
        last = t;
        prefix = row_read it.rows row it.prefix is;
        count = omega (arith, it.count, length-append it.rows (row ∷ []));
        done = done_more day s it.rows it.answers it.last row answer t it.done one;
        represents = represents;
        reported = reported_more w0 w w2 it.answers answer (before + 1) (ap (λ (n : ℕ). n + 1) (it.count ∙ sym (as_many day s it.rows it.answers it.last it.done))) it.reported line;
        refusals = ap (λ (n : ℕ). n + one_if is_refused) it.refusals ∙ ap (λ (b : Bool). refused_count it.answers + one_if b) same ∙ sym (count_more it.answers answer);
      }

  pub prefix_more : (is_refused : Bool) → Prefix g day s0 o0 s1 o1 d0 d w0 w before refused → CalledAt g d d2 (λ s. EndsTaking g day s (before + 1) fields (Ok is_refused) d2 w w2)
      → Prefix g day s0 o0 s2 o2 d0 d2 w0 w2 (before + 1) (refused + one_if is_refused)
  prefix_more is_refused f took =
      record {
        few = few_more before refused is_refused f.few;
        call = called_on g d0 d d2 (λ s. IsPrefix g day s s0 o0 s1 o1 d w0 w before refused) (λ s. EndsTaking g day s (before + 1) fields (Ok is_refused) d2 w w2)
            (λ s. IsPrefix g day s s0 o0 s2 o2 d2 w0 w2 (before + 1) (refused + one_if is_refused)) f.call took (λ s it. (it.last, it.represents, λ row. row_more s is_refused it row));
      }

  -- what was read was stopped
  module _ (text : Option (List ℕ)) (heads : HeadsText StartRecord text s0 o0) where
    row_stopped_by : (s : State) (why : ImportStop) (it : IsPrefix g day s s0 o0 s1 o1 d w0 w before refused) → TakeStops g day it.last (before + 1) fields why d2 w w2 → EndsImport g day s text (Err why) d2 w0 w2
    row_stopped_by s stop.Header it k = absurd k
    row_stopped_by s (stop.Row number) it (place, short, represents, silent) = (
      record { rows = it.rows; answers = it.answers; why = bad_row },
      it.last,
      ap (λ (n : ℕ). Err (stop.Row n)) (place ∙ ap (λ (n : ℕ). n + 1) it.count),
      record {
        fits = (s1, o1, (s0, o0, heads, it.prefix), bad_next o1 o2 s1 s2 fields reads short);
        done = it.done;
        reported = subst (λ (x : Option (List ℕ)). Appends w0 x (lines_from 0 it.answers)) (sym silent) it.reported;
      },
      represents,
    )
    row_stopped_by s (stop.Fault f) it (row, is, stopped, silent) = (
      record { rows = it.rows; answers = it.answers; why = row_stopped row f },
      it.last,
      refl,
      record {
        fits = (s2, o2, (s0, o0, heads, row_read it.rows row it.prefix is));
        done = it.done;
        reported = subst (λ (x : Option (List ℕ)). Appends w0 x (lines_from 0 it.answers)) (sym silent) it.reported;
      },
      stopped,
    )
    row_stopped_by s stop.Io it (row, answer, t, is, one, represents, some) = (
      record { rows = it.rows ++ row ∷ []; answers = it.answers ++ answer ∷ []; why = io_failed },
      t,
      refl,
      record {
        fits = inr (s2, o2, (s0, o0, heads, row_read it.rows row it.prefix is));
        done = done_more day s it.rows it.answers it.last row answer t it.done one;
        reported = inr (it.answers, answer, w, refl, it.reported, subst (λ (n : ℕ). AppendsSome w w2 (line_of (n + 1) answer)) (it.count ∙ sym (as_many day s it.rows it.answers it.last it.done)) some);
      },
      represents,
    )

    pub prefix_stopped : (why : ImportStop) → Prefix g day s0 o0 s1 o1 d0 d w0 w before refused → CalledAt g d d2 (λ s. EndsTaking g day s (before + 1) fields (Err why) d2 w w2)
        → CalledAt g d0 d2 (λ s. EndsImport g day s text (Err why) d2 w0 w2)
    prefix_stopped why f stops =
        called_on g d0 d d2 (λ s. IsPrefix g day s s0 o0 s1 o1 d w0 w before refused) (λ s. EndsTaking g day s (before + 1) fields (Err why) d2 w w2) (λ s. EndsImport g day s text (Err why) d2 w0 w2)
        f.call stops (λ s it. (it.last, it.represents, λ k. row_stopped_by s why it k))

module _ {S : Type 0} (g : Ghosts S) (day : ℤ) (s0 s1 : Reading) (o0 o1 : Option (List ℕ)) (d0 d : DeskState S) (w0 w : Option (List ℕ)) (before refused : ℕ) (f : Prefix g day s0 o0 s1 o1 d0 d w0 w before refused)
    (text : Option (List ℕ)) (heads : HeadsText StartRecord text s0 o0) where
  -- the import ends after these rows
  ended : (s : State) (why : ImportEnd) (it : IsPrefix g day s s0 o0 s1 o1 d w0 w before refused) → FitsText text it.rows why → AreReported it.answers why w0 w → ImportLeads g day it.last why d → EndsImport g day s text (result_by it.rows it.answers why) d w0 w
  ended s why it fits reported leads = (record { rows = it.rows; answers = it.answers; why = why }, it.last, refl, record { fits = fits; done = it.done; reported = reported }, leads)

  ended_at : (result : Result ℕ ImportStop) → ((s : State) → IsPrefix g day s s0 o0 s1 o1 d w0 w before refused → EndsImport g day s text result d w0 w) → CalledAt g d0 d (λ s. EndsImport g day s text result d w0 w)
  ended_at result to = called g d0 d (λ s. IsPrefix g day s s0 o0 s1 o1 d w0 w before refused) (λ s. EndsImport g day s text result d w0 w) f.call to

  -- no row is left
  pub prefix_end : (s2 : Reading) (o2 : Option (List ℕ)) (fields : List (List ℕ)) → ReadsNext default_config s1 o1 o2 false fields s2 → CalledAt g d0 d (λ s. EndsImport g day s text (Ok refused) d w0 w)
  prefix_end s2 o2 fields reads =
      ended_at (Ok refused) (λ s it. rw it.refusals (ended s all_rows it (s1, o1, (s0, o0, heads, it.prefix), no_more o1 o2 s1 s2 fields reads) it.reported it.represents))

  -- no row was read
  unread : (s : State) (why : RowStop) → (why ≡ row_stop.NotText → TakesNoText s1 o1) → IsPrefix g day s s0 o0 s1 o1 d w0 w before refused → EndsImport g day s text (Err (stop_at why (before + 1))) d w0 w
  unread s row_stop.NotText none it = rw it.count (ended s bad_row it (s1, o1, (s0, o0, heads, it.prefix), bad_text o1 s1 (none refl)) it.reported it.represents)
  unread s row_stop.Memory none it = ended s out_of_memory it (inr (s1, o1, (s0, o0, heads, it.prefix))) it.reported it.represents
  unread s row_stop.Io none it = ended s io_failed it (inr (s1, o1, (s0, o0, heads, it.prefix))) (inl it.reported) it.represents

  pub prefix_unread : (why : RowStop) → (why ≡ row_stop.NotText → TakesNoText s1 o1) → CalledAt g d0 d (λ s. EndsImport g day s text (Err (stop_at why (before + 1))) d w0 w)
  prefix_unread why none = ended_at (Err (stop_at why (before + 1))) (λ s it. unread s why none it)

  -- there are more rows than are counted
  pub prefix_io : CalledAt g d0 d (λ s. EndsImport g day s text (Err stop.Io) d w0 w)
  prefix_io = ended_at (Err stop.Io) (λ s it. ended s io_failed it (inr (s1, o1, (s0, o0, heads, it.prefix))) (inl it.reported) it.represents)

-- ---- before the first row

module _ {S : Type 0} (g : Ghosts S) (day : ℤ) (s : State) (text : Option (List ℕ)) (d : DeskState S) (w : Option (List ℕ)) (at : IsAt g s d) where
  none_done : (why : ImportEnd) → FitsText text [] why → AreReported [] why w w → ImportLeads g day s why d → EndsImport g day s text (result_by [] [] why) d w w
  none_done why fits reported leads = (record { rows = []; answers = []; why = why }, s, refl, record { fits = fits; done = (refl, refl); reported = reported }, leads)

  pub not_headed : LacksHeader StartRecord text → EndsImport g day s text (Err stop.Header) d w w
  not_headed lacks = none_done no_header (lacks, refl) refl at

  pub memory_ran_out : EndsImport g day s text (Err (stop.Fault fault.Memory)) d w w
  memory_ran_out = none_done out_of_memory (inl refl) (nothing_reported w) at

  pub none_read : EndsImport g day s text (Err stop.Io) d w w
  none_read = none_done io_failed (inl refl) (inl (nothing_reported w)) at

-- ---- the lines go out

kept : (old mid new : Option (List ℕ)) (xs : List ℕ) → Appends old mid xs → Keeps mid new → Appends old new xs
kept None mid new xs h k = tt
kept (Some ys) None new xs h k = absurd h
kept (Some ys) (Some zs) None xs h k = absurd k
kept (Some ys) (Some zs) (Some us) xs h k = k ∙ h

module _ {S : Type 0} (g : Ghosts S) (day : ℤ) (s : State) (text : Option (List ℕ)) (refused : ℕ) (d : DeskState S) (w0 w w2 : Option (List ℕ)) (keeps : Keeps w w2) where
  -- an import of which some rows were refused ended after all rows
  abbrev IsWhole : List Fields → List Answer → State → Type 0
  IsWhole rows answers u = (refused ≡ refused_count answers) × AreAllRows text rows × AreRowsDone day s rows answers u × Appends w0 w (lines_from 0 answers) × IsAt g u d

  whole : (rows : List Fields) (answers : List Answer) (why : ImportEnd) (u : State) → Ok refused ≡ result_by rows answers why → FitsText text rows why → AreRowsDone day s rows answers u → AreReported answers why w0 w → ImportLeads g day u why d → IsWhole rows answers u
  whole rows answers all_rows u is fits done reported leads = ((cc is), fits, done, reported, leads)
  whole rows answers no_header u is fits done reported leads = absurd (cc is)
  whole rows answers bad_row u is fits done reported leads = absurd (cc is)
  whole rows answers out_of_memory u is fits done reported leads = absurd (cc is)
  whole rows answers (row_stopped row f) u is fits done reported leads = absurd (cc is)
  whole rows answers io_failed u is fits done reported leads = absurd (cc is)

  pub sent : EndsImport g day s text (Ok refused) d w0 w → EndsImport g day s text (Ok refused) d w0 w2
  sent (o, u, is, came, leads) =
      let it = whole o.rows o.answers o.why u is came.fits came.done came.reported leads in
      (record { rows = o.rows; answers = o.answers; why = all_rows }, u, ap (λ (n : ℕ). Ok n) it.0, record { fits = it.1; done = it.2; reported = kept w0 w w2 _ it.3 keeps }, it.4)

  pub not_sent : EndsImport g day s text (Ok refused) d w0 w → EndsImport g day s text (Err stop.Io) d w0 w2
  not_sent (o, u, is, came, leads) =
      let it = whole o.rows o.answers o.why u is came.fits came.done came.reported leads in
      let some : AreSomeRows text o.rows = (it.1.0, it.1.1, it.1.2) in
      (record { rows = o.rows; answers = o.answers; why = io_failed }, u, refl, record { fits = inr some; done = it.2; reported = inl (kept w0 w w2 _ it.3 keeps) }, it.4)
