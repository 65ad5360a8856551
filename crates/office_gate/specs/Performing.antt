-- Acts that a visitor asks for, as far as they are permitted, and how they are answered. Source: own.
use Rattle.std.specs.Prelude.{◌+◌, ℕ, List, [], ◌∷◌, length, Option, Some, None}
use Rattle.std.specs.Option.{option_map}
use Rattle.sqlite.specs.Held.{state}
use Rattle.sqlite_trees.specs.declared.store.Store.{Ghosts}
use Rattle.office_access.specs.Permits.{denial_of, lasting_denial_of}
use Rattle.office_access.specs.declared.denial.Denial.{Denial}
use Rattle.office_desk.specs.Desk.{DeskState}
use Rattle.office_desk.specs.Outcomes.{ActsCameTo, ActsLead, ActsOutcome, all_done, stopped}
use Rattle.office_gate.specs.Replies.{denied_response}
use Rattle.office_gate.specs.Visitors.{Visitor}
use Rattle.office_guard.specs.Permitted.{permitted_to}
use Rattle.office_http.specs.Replies.{Response}
use Rattle.office_records.specs.Lists.{or_else}
use Rattle.office_rules.specs.Acts.{step}
use Rattle.office_rules.specs.State.{Office, State}
use Rattle.office_rules.specs.declared.act.Act.{Act}
use Rattle.office_rules.specs.declared.answer.Answer.{Answer}
use Rattle.office_wire.specs.Replies.{acts_response, stopped_response}

-- the first act that is denied in whatever office, by its place, where the first act of the list has the one that is given
abbrev pub lasting_denial_from : Visitor → ℕ → List Act → Option (ℕ × Denial)
lasting_denial_from v place [] = None
lasting_denial_from v place (a ∷ rest) =
    or_else (option_map (λ d. (place, d)) (lasting_denial_of v.settings v.today v.name a))
    (lasting_denial_from v (place + 1) rest)

-- the acts before the first that is not permitted in the office after those before it
abbrev pub permitted_acts_of : Visitor → State → List Act → List Act
permitted_acts_of v s acts = permitted_to v.settings v.today v.name s acts

-- why that one is denied
abbrev pub denial_in : Visitor → State → List Act → Option Denial
denial_in v s [] = None
denial_in v s (a ∷ rest) =
    or_else (denial_of v.settings s.office v.today v.name a) (denial_in v (step s a).1 rest)

-- why the act that comes next is denied, if there is one
abbrev pub next_denial : Visitor → Office → Option Act → Option Denial
next_denial v s None = None
next_denial v s (Some a) = denial_of v.settings s v.today v.name a

-- the answers to all acts; or to those before one that is denied, with the denial
abbrev pub permitted_reply : Option Denial → List Answer → Response
permitted_reply None answers = acts_response answers
permitted_reply (Some denial) answers = denied_response denial (length answers) answers

-- the answer to acts that came to this
abbrev pub performed_reply : Visitor → State → List Act → ActsOutcome → Response
performed_reply v s acts (all_done answers) = permitted_reply (denial_in v s acts) answers
performed_reply v s acts (stopped answers f) = stopped_response answers f

-- the acts before the first that is not permitted were performed: they came to this, and that is answered
pub record ArePerformedFor {S : Type 0} (Reported : Response → Type 0) (g : Ghosts S) (v : Visitor) (t : State)
    (acts : List Act) (desk : DeskState S) : Type 0 where
  pub outcome : ActsOutcome
  pub reported : Reported (performed_reply v t acts outcome)
  pub leads : ActsLead t (permitted_acts_of v t acts) outcome desk
  pub came : ActsCameTo t (permitted_acts_of v t acts) outcome (state g desk.connection)
