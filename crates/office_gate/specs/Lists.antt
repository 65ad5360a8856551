-- The rows of a list that a visitor may read, and how they are reported. Source: own.
use Rattle.std.specs.Prelude.{◌⊎◌, ℕ, ℤ, Bool, false, List, filter, Option, Some, None}
use Rattle.std.specs.Option.{is_none}
use Rattle.sqlite_trees.specs.declared.store.Store.{Ghosts}
use Rattle.office_access.specs.Permits.{reading_denial_of}
use Rattle.office_access.specs.declared.reading.Reading.TheVariants as reading
use Rattle.office_desk.specs.Desk.{DeskState}
use Rattle.office_desk.specs.Leaving.{IsAt}
use Rattle.office_gate.specs.Visitors.{Visitor}
use Rattle.office_http.specs.Replies.{Response, error_response}
use Rattle.office_http.specs.declared.request_error.RequestError.TheVariants as error
use Rattle.office_rules.specs.Registers.{AreDueRows, AreOverdueRows, DueRowView}
use Rattle.office_rules.specs.State.{State}
use Rattle.office_store.specs.declared.fault.Fault.TheVariants as fault
use Rattle.office_wire.specs.Answering.{ReportsNone}
use Rattle.office_wire.specs.Replies.{due_response, fault_response, overdue_response}

-- the visitor may read the lists of the class of the row
abbrev pub is_listed : Visitor → DueRowView → Bool
is_listed v row = is_none (reading_denial_of v.settings v.name reading.Lists (Some row.class) false)

-- the rows that the visitor may read, in their order
abbrev pub listed : Visitor → List DueRowView → List DueRowView
listed v rows = filter (is_listed v) rows

abbrev pub ReportsDueFor : {S : Type 0} → (Response → Type 0) → Ghosts S → Visitor → State → Option ℤ → DeskState S
    → Type 0
ReportsDueFor Reported g v t None desk = ReportsNone Reported g t (error_response error.Day) desk
ReportsDueFor Reported g v t (Some day) desk =
    (((rows : List DueRowView) × AreDueRows t.office day rows × Reported (due_response (listed v rows)))
    ⊎ Reported (fault_response fault.Memory)) × IsAt g t desk

abbrev pub ReportsOverdueFor : {S : Type 0} → (Response → Type 0) → Ghosts S → Visitor → State → Option ℤ → Option ℕ
    → DeskState S → Type 0
ReportsOverdueFor Reported g v t None count desk = ReportsNone Reported g t (error_response error.Day) desk
ReportsOverdueFor Reported g v t (Some day) None desk = ReportsNone Reported g t (error_response error.Count) desk
ReportsOverdueFor Reported g v t (Some day) (Some n) desk =
    (((rows : List DueRowView) × AreOverdueRows t.office day n rows × Reported (overdue_response n (listed v rows)))
    ⊎ Reported (fault_response fault.Memory)) × IsAt g t desk
