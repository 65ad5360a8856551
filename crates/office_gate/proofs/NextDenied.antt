-- The act that comes after those that are permitted is the one that is denied, if there is one.
use Rattle.std.proofs.Common.{◌≡◌, ◌∷◌, ◌++◌, ◌∙◌, [], List, Option, Some, None, ap, cond, drop, length, refl, suc, subst, sym}
use Rattle.std.specs.Option.{is_none}
use Rattle.std.specs.Prelude.{slice_get}
use Rattle.office_access.specs.Permits.{denial_of}
use Rattle.office_access.specs.declared.denial.Denial.{Denial}
use Rattle.office_gate.specs.Performing.{denial_in, next_denial, permitted_acts_of, permitted_reply}
use Rattle.office_gate.specs.Visitors.{Visitor}
use Rattle.office_records.specs.Lists.{or_else}
use Rattle.office_http.specs.Replies.{Response}
use Rattle.office_rules.specs.Acts.{after, answers, step}
use Rattle.office_rules.specs.State.{Office, State}
use Rattle.office_rules.specs.declared.act.Act.{Act}
use Rattle.office_rules.specs.declared.answer.Answer.{Answer}
use Rattle.office_store.specs.declared.fault.Fault.{Fault}
use Rattle.office_wire.specs.Replies.{stopped_response}

module _ (v : Visitor) where
  by_denial : (o : Option Denial) (s : State) (a : Act) (rest : List Act)
      → denial_of v.settings s.office v.today v.name a ≡ o
      → next_denial v (after (step s a).1 (permitted_acts_of v (step s a).1 rest)).office (slice_get rest (length (permitted_acts_of v (step s a).1 rest))) ≡ denial_in v (step s a).1 rest
      → next_denial v (after s (cond (is_none o) (a ∷ permitted_acts_of v (step s a).1 rest) [])).office (slice_get (a ∷ rest) (length (cond (is_none o) (a ∷ permitted_acts_of v (step s a).1 rest) [])))
      ≡ or_else o (denial_in v (step s a).1 rest)
  by_denial None s a rest is more = more
  by_denial (Some d) s a rest is more = is

  pub next_denied : (s : State) (acts : List Act)
      → next_denial v (after s (permitted_acts_of v s acts)).office (slice_get acts (length (permitted_acts_of v s acts))) ≡ denial_in v s acts
  next_denied s [] = refl
  next_denied s (a ∷ rest) =
      by_denial (denial_of v.settings s.office v.today v.name a) s a rest refl (next_denied (step s a).1 rest)

length-answers : (acts : List Act) (s : State) → length (answers s acts) ≡ length acts
length-answers [] s = refl
length-answers (a ∷ acts) s = ap suc (length-answers acts (step s a).1)

-- what was answered behind no answer is what was seen
seen_behind : (given found seen : List Answer) → given ≡ [] → seen ≡ found → seen ≡ drop (length given) found
seen_behind given found seen none same = same ∙ ap (λ (gs : List Answer). drop (length gs) found) (sym none)

-- the answers of a call that found no answer there, with the denial of the act that comes next
pub permitted_seen : (v : Visitor) (t : State) (acts : List Act) (given found seen : List Answer) (machine : Office) (next : Option Act) (denial : Option Denial)
    (Reported : Response → Type 0) → given ≡ [] → seen ≡ found → found ≡ given ++ answers t (permitted_acts_of v t acts)
    → machine ≡ (after t (permitted_acts_of v t acts)).office → next ≡ slice_get acts (length found) → denial ≡ next_denial v machine next
    → Reported (permitted_reply denial seen) → Reported (permitted_reply (denial_in v t acts) (drop (length given) found))
permitted_seen v t acts given found seen machine next denial Reported none same added led looked denied reported =
    let permitted : List Act = permitted_acts_of v t acts in
    let counted : length found ≡ length permitted =
    ap length (added ∙ ap (λ (gs : List Answer). gs ++ answers t permitted) none) ∙ length-answers permitted t in
    let is : denial ≡ denial_in v t acts =
    denied ∙ ap (λ (s : Office). next_denial v s next) led
    ∙ ap (λ (o : Option Act). next_denial v (after t permitted).office o) (looked ∙ ap (slice_get acts) counted)
    ∙ next_denied v t acts in
    subst (λ (r : Response). Reported r)
    (ap (λ (d : Option Denial). permitted_reply d seen) is ∙ ap (λ (xs : List Answer). permitted_reply (denial_in v t acts) xs) (seen_behind given found seen none same))
    reported

-- and of one that a fault stopped
pub stopped_seen : (given found seen : List Answer) (f : Fault) (Reported : Response → Type 0) → given ≡ [] → seen ≡ found
    → Reported (stopped_response seen f) → Reported (stopped_response (drop (length given) found) f)
stopped_seen given found seen f Reported none same reported =
    subst (λ (r : Response). Reported r) (ap (λ (xs : List Answer). stopped_response xs f) (seen_behind given found seen none same)) reported
