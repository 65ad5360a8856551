-- A run between its opening and its closing: which acts these are, and that between them no other run is open.
use Rattle.std.proofs.Common.{◌≡◌, inl, inr, ℕ, suc, ◌<◌, ◌≤◌, List, length, Some, sym, ap, subst, ◌∙◌, arith}
use Rattle.std.specs.Prelude.{slice_get}
use Rattle.std.proofs.lemmas.Bool.{cases_lt}
use Rattle.std.specs.FinMap.{get}
use Rattle.office_records.proofs.Places.{numbered_within}
use Rattle.office_rules.specs.Acts.{after}
use Rattle.office_rules.specs.Forms.{AreWellFormed}
use Rattle.office_rules.specs.Runs.{open_run}
use Rattle.office_rules.specs.Sound.{IsSound}
use Rattle.office_rules.specs.State.{State}
use Rattle.office_rules.specs.declared.act.Act.{Act}
use Rattle.office_rules.proofs.SoundMaps.{is_there}
use Rattle.office_rules.proofs.SoundRuns.{open_there}
use Rattle.office_evidence.specs.History.{IsClosedAt, IsOpenedAt, before}
use Rattle.office_evidence.proofs.Coming.{DidClose, DidOpen, certificate_comes, run_comes}
use Rattle.office_evidence.proofs.Lasting.{HasCertificate, HasRun, HasRuns, run_lasts, runs_last}
use Rattle.office_evidence.proofs.Places.{answered_at, before_end, came, lasts_from, next_at}

-- an open run is the last
pub open_last : (s : State) (run : ℕ) → open_run s.office ≡ Some run → run ≡ length s.office.runs
open_last s run is = (open_there s.office run is).3

module _ (s : State) (acts : List Act) (sound : IsSound s) (formed : AreWellFormed acts) where
  -- a place with so many runs is behind one with fewer
  pub behind : (i j run : ℕ) → length (before s acts i).office.runs < run → run ≤ length (before s acts j).office.runs → i < j
  behind i j run fewer many = elim (cases_lt i j) [
    | inl is ↦ is
    | inr low ↦
        let more = lasts_from (HasRuns run) (runs_last run) s acts j i low sound formed many in
        absurd (omega arith)
  ]

  -- what comes to a run that was opened and closed
  pub record IsRun (run : ℕ) (text : List ℕ) : Type 0 where
    pub closing : ℕ
    pub closed_by : Act
    pub closed_at : slice_get acts closing ≡ Some closed_by
    pub close : DidClose run text (before s acts closing) closed_by
    pub opening : ℕ
    pub opened_by : Act
    pub opened_at : slice_get acts opening ≡ Some opened_by
    pub opens : DidOpen run (before s acts opening) opened_by
    pub in_order : opening < closing

  pub run_of : (run : ℕ) (text : List ℕ) → length s.office.runs < run → get (after s acts).office.certificates run ≡ Some text → IsRun run text
  run_of run text later there =
      let at_end = subst (HasCertificate run text) (sym (before_end s acts)) there in
      elim (came (HasCertificate run text) (DidClose run text) (certificate_comes run text) s acts (length acts) sound formed at_end) [
        | inl was ↦
            let closed = (sound.runs.certified run).0 (is_there (get s.office.certificates run) text was) in
            let within = numbered_within s.office.runs run closed.0 closed.1 in
            absurd (omega (arith, within.1, later))
        | inr it ↦
            let last = open_last (before s acts it.place) run it.did.open_is in
            elim (came (HasRuns run) (DidOpen run) (run_comes run) s acts it.place sound formed (omega (arith, last))) [
              | inl was ↦ absurd (omega (arith, was, later))
              | inr first ↦ record {
                closing = it.place;
                closed_by = it.done;
                closed_at = it.at;
                close = it.did;
                opening = first.place;
                opened_by = first.done;
                opened_at = first.at;
                opens = first.did;
                in_order = first.early;
              }
            ]
      ]

  module _ (run : ℕ) (text : List ℕ) (it : IsRun run text) where
    pub is_opened : IsOpenedAt s acts it.opening run it.opens.day it.opens.by
    is_opened = record {
      asked = it.opened_at ∙ ap (λ (a : Act). Some a) it.opens.asked;
      answered = answered_at s acts it.opening it.opened_by it.opened_at ∙ ap (λ x. Some x) it.opens.answered;
    }

    pub is_closed : IsClosedAt s acts it.closing run
    is_closed = answered_at s acts it.closing it.closed_by it.closed_at ∙ ap (λ x. Some x) it.close.answered

    -- the run is there from its opening on, with its day and who opened it
    pub has_run : (j : ℕ) → it.opening < j → HasRun run it.opens.day it.opens.by (before s acts j)
    has_run j low =
        let next = next_at s acts it.opening it.opened_by it.opened_at in
        lasts_from (HasRun run it.opens.day it.opens.by) (run_lasts run it.opens.day it.opens.by) s acts (suc it.opening) j (omega arith) sound formed
        (subst (HasRun run it.opens.day it.opens.by) (sym next) it.opens.opened)

    -- and until it is closed it is the last
    pub is_last : (j : ℕ) → it.opening < j → j ≤ it.closing → length (before s acts j).office.runs ≡ run
    is_last j low high =
        let has = has_run j low in
        let within = numbered_within (before s acts j).office.runs run has.it has.there in
        let last = open_last (before s acts it.closing) run it.close.open_is in
        let many = length (before s acts j).office.runs in
        let more = lasts_from (HasRuns many) (runs_last many) s acts j it.closing high sound formed (omega arith) in
        omega (arith, within.1, last, more)

    -- so an open run is this one
    pub is_this : (j other : ℕ) → it.opening < j → j ≤ it.closing → open_run (before s acts j).office ≡ Some other → other ≡ run
    is_this j other low high is = open_last (before s acts j) other is ∙ is_last j low high

    -- and where it is open is behind its opening
    pub after_opening : (j : ℕ) → open_run (before s acts j).office ≡ Some run → it.opening < j
    after_opening j is =
        let last = open_last (before s acts j) run is in
        behind it.opening j run it.opens.fewer (omega (arith, last))
