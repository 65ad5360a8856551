-- What one connection did: its request was answered and all its acts were done, or some first ones.
use Rattle.std.proofs.Common.{◌≡◌, ◌≢◌, ◌⊎◌, ◌∙◌, ◌≤◌, inl, inr, ap, ap₂, arith, refl, subst, sym, ℕ, Bool, false, List, [], ◌++◌, length, take, Option, Some, None, Result, Ok, Err}
use Rattle.std.specs.Prelude.{IfOk, IsOkAnd, OnErr}
use Rattle.std.proofs.Math.Seq.{take-length}
use Rattle.std.proofs.lemmas.Bool.{cases_eq}
use Rattle.sqlite.specs.Held.{state}
use Rattle.sqlite.specs.State.{HasCleanDisk}
use Rattle.sqlite_trees.specs.Tree.{Trees}
use Rattle.sqlite_trees.specs.declared.store.Store.{Ghosts}
use Rattle.office_base.specs.Output.{AppendsSome}
use Rattle.office_base.specs.declared.output.Io.{Io}
use Rattle.office_rules.specs.Acts.{after}
use Rattle.office_rules.specs.Forms.{AreWellFormed}
use Rattle.office_rules.specs.Sound.{IsSound}
use Rattle.office_rules.specs.State.{State}
use Rattle.office_rules.specs.declared.act.Act.{Act}
use Rattle.office_desk.specs.Desk.{DeskState}
use Rattle.office_desk.specs.Leaving.{IsAt}
use Rattle.office_http.specs.Replies.{Response, error_response, response_text, status_number}
use Rattle.office_http.specs.Requests.{Request, IsRequest, nothing, headless, asks}
use Rattle.office_http.specs.declared.request_error.RequestError.TheVariants as error
use Rattle.office_http.specs.declared.status.Status.{Status}
use Rattle.office_wire.specs.Answering.{IsUnavailable}
use Rattle.office_wire.specs.Exchanges.{IsExchanged}
use Rattle.office_wire.specs.Serving.{Breaks, IsReply, Replies}
use Rattle.office_wire.specs.Sources.{Sent}
use Rattle.office_life.specs.Tables.{AreTablesAt}
use Rattle.office_life.proofs.DeskWork.{StaySound}
use Rattle.office_sessions.specs.Requests.{AreFirstBytes, GoesOut, IsAnswered, IsCut, IsDetermined, IsFaulted, IsUnanswered, IsUnread, IsWhole, IsWholeOf, is_head_of, whole}
use Rattle.office_sessions.proofs.Forms.{at_rows, sound_after}
use Rattle.office_sessions.proofs.Served.{AllDoneOf, RunsEnd, SomeDoneOf, no_memory, replied}

-- the whole response to a request that has one
whole_of : (s : State) (q : Request) (r : Response) (it : Sent) → IsDetermined s q r → it ≡ whole (is_head_of q) r → IsWholeOf s q it
whole_of s nothing r it is sent = absurd is
whole_of s headless r it is sent = (r, is, sent)
whole_of s (asks h rest) r it is sent = (r, is, sent)

-- a 503
is_503 : (r : Response) → IsUnavailable r → status_number r.status ≡ 503
is_503 r is = ap (λ (s : Status). status_number s) is

all_bytes : (out text : List ℕ) → out ≡ text → AreFirstBytes text out
all_bytes out text is = (length text, omega arith, is ∙ sym (take-length text))

no_bytes : (out text : List ℕ) → out ≡ [] → AreFirstBytes text out
no_bytes out text is = (0, omega arith, is)

never_503 : (n : ℕ) → n ≡ 0 → n ≡ 503 → ⊥
never_503 n none_so is = omega (arith, none_so, is)

abbrev went : List ℕ → ℕ → Sent
went out code = record { bytes = out; status = Ok code }

-- what went out, by its bytes and its status
sent_so : (out text : List ℕ) (code status : ℕ) → out ≡ text → code ≡ status → went out code ≡ went text status
sent_so out text code status by_text by_status = ap₂ went by_text by_status

same_some : (a b : List ℕ) → Some a ≡ Some b → a ≡ b
same_some a b is = cc

module _ (stay : StaySound) (ends : RunsEnd) {S : Type 0} (g : Ghosts S) (t : State) (sound : IsSound t) (bytes : List ℕ) (d : DeskState S) where
  -- its request was answered, and the desk is at the state after all its acts
  abbrev pub IsAllServed : Sent → Type 0
  IsAllServed it = IsWhole it × ((all : List Act) × IsAnswered t bytes it all × AreWellFormed all × IsAt g (after t all) d)

  -- or it was not
  abbrev pub IsSomeServed : Sent → Type 0
  IsSomeServed it =
      (IsWhole it → ⊥)
      × ((db : Trees) → (state g d.connection).may_leave db → (some : List Act) × IsUnanswered t bytes it some × AreWellFormed some × AreTablesAt db (after t some))

  -- ---- not answered

  -- all was done, but the response was not whole, or is taken for a 503
  all_cut : (it : Sent) (q : Request) (r : Response) → (IsWhole it → ⊥) → IsRequest q bytes → AreFirstBytes (response_text (is_head_of q) r) it.bytes → AllDoneOf stay ends g t sound d r q → IsSomeServed it
  all_cut it q r part is first (all, are, formed, determined, at) = (
    part,
    λ db may. (
      all,
      record { part = part; served = inl (record { request = q; is = is; response = r; determined = determined; out = first; acts = are }) },
      formed,
      at_rows (state g d.connection) (after t all) (sound_after stay all t sound formed) at.rows db may,
    ),
  )

  some_cut : (it : Sent) (q : Request) (r : Response) → (IsWhole it → ⊥) → IsRequest q bytes → GoesOut (is_head_of q) r it → SomeDoneOf stay ends g t sound d r q → IsSomeServed it
  some_cut it q r part is goes (unavailable, leaves) = (
    part,
    λ db may.
        let left = leaves db may in
        (left.0, record { part = part; served = inr (inl (record { request = q; is = is; response = r; out = goes; acts = left.1 })) }, left.2, left.3),
  )

  unread : (it : Sent) → (IsWhole it → ⊥) → GoesOut false (error_response error.Memory) it → IsAt g t d → IsSomeServed it
  unread it part goes at = (part, λ db may. ([], record { part = part; served = inr (inr (refl, goes)) }, tt, at_rows (state g d.connection) t sound at.rows db may))

  -- ---- the response was written

  module _ (code : ℕ) (out : List ℕ) where
    went_out : (q : Request) (is_head : Bool) (r : Response) → is_head ≡ is_head_of q → out ≡ response_text is_head r → code ≡ status_number r.status → went out code ≡ whole (is_head_of q) r
    went_out q is_head r head text status = sent_so out (response_text (is_head_of q) r) code (status_number r.status) (text ∙ ap (λ (b : Bool). response_text b r) head) status

    -- no 503
    module _ (other : code ≢ 503) where
      all_of : (q : Request) (is_head : Bool) (r : Response) → IsRequest q bytes → is_head ≡ is_head_of q → out ≡ response_text is_head r → code ≡ status_number r.status
          → AllDoneOf stay ends g t sound d r q → IsAllServed (record { bytes = out; status = Ok code })
      all_of q is_head r is head text status (all, are, formed, determined, at) =
          (other, (all, record { request = q; is = is; response = whole_of t q r _ determined (went_out q is_head r head text status); acts = are }, formed, at))

      well_served : (is_head : Bool) (r : Response) → IsReply g t bytes (Unit {0}) is_head r d → out ≡ response_text is_head r → code ≡ status_number r.status
          → IsAllServed (record { bytes = out; status = Ok code })
      well_served is_head r (inl (q, is, replied_so)) text status =
          let it = replied stay ends g t sound d r q is_head replied_so in
          elim it.1 [
            | inl all ↦ all_of q is_head r is it.0 text status all
            | inr some ↦ absurd (other (status ∙ is_503 r some.0))
          ]
      well_served is_head r (inr (was, head, is, at)) text status = absurd (other (status ∙ is_503 r (no_memory r is)))

      pub well_replied : Replies g t bytes (Unit {0}) code (Some []) (Some out) d → IsAllServed (record { bytes = out; status = Ok code })
      well_replied (inl (is, status, same, at)) =
          let sent : went out code ≡ went [] 0 = sent_so out [] code 0 (same_some out [] same) status in
          (other, ([], record { request = nothing; is = is; response = sent; acts = refl }, tt, at))
      well_replied (inr (is_head, r, reply, written)) = well_served is_head r reply written.0 written.1

    -- a 503
    module _ (code_is : code ≡ 503) where
      cut_served : (is_head : Bool) (r : Response) → IsReply g t bytes (Unit {0}) is_head r d → out ≡ response_text is_head r → code ≡ status_number r.status
          → IsSomeServed (record { bytes = out; status = Ok code })
      cut_served is_head r (inl (q, is, replied_so)) text status =
          let it = replied stay ends g t sound d r q is_head replied_so in
          let sent : Sent = record { bytes = out; status = Ok code } in
          elim it.1 [
            | inl all ↦ all_cut sent q r (λ not. not code_is) is (all_bytes out (response_text (is_head_of q) r) (text ∙ ap (λ (b : Bool). response_text b r) it.0)) all
            | inr some ↦ some_cut sent q r (λ not. not code_is) is (went_out q is_head r it.0 text status) some
          ]
      cut_served is_head r (inr (was, head, is, at)) text status =
          let by_text = text ∙ ap (λ (b : Bool). response_text b r) head in
          let same : went out code ≡ whole false r = sent_so out (response_text false r) code (status_number r.status) by_text status in
          unread (record { bytes = out; status = Ok code }) (λ not. not code_is) (same ∙ ap (λ (x : Response). whole false x) is) at

      pub cut_replied : Replies g t bytes (Unit {0}) code (Some []) (Some out) d → IsSomeServed (record { bytes = out; status = Ok code })
      cut_replied (inl (is, status, same, at)) = absurd (never_503 code status code_is)
      cut_replied (inr (is_head, r, reply, written)) = cut_served is_head r reply written.0 written.1

  -- ---- the connection failed

  module _ (e : Io) (out : List ℕ) where
    broken_reply : (is_head : Bool) (r : Response) → IsReply g t bytes (Unit {0}) is_head r d → AreFirstBytes (response_text is_head r) out → IsSomeServed (record { bytes = out; status = Err e })
    broken_reply is_head r (inl (q, is, replied_so)) first =
        let it = replied stay ends g t sound d r q is_head replied_so in
        let sent : Sent = record { bytes = out; status = Err e } in
        let by_head = subst (λ (b : Bool). AreFirstBytes (response_text b r) out) it.0 first in
        elim it.1 [ inl all ↦ all_cut sent q r (λ not. not) is by_head all | inr some ↦ some_cut sent q r (λ not. not) is by_head some ]
    broken_reply is_head r (inr (was, head, is, at)) first =
        let by_head = subst (λ (b : Bool). AreFirstBytes (response_text b r) out) head first in
        unread (record { bytes = out; status = Err e }) (λ not. not) (subst (λ (x : Response). AreFirstBytes (response_text false x) out) is by_head) at

    pub broken : Breaks g t bytes (Unit {0}) (Some []) (Some out) d → IsSomeServed (record { bytes = out; status = Err e })
    broken (is_head, r, reply, some) = broken_reply is_head r reply (some.count, some.within, some.out)

    pub untouched : IsAt g t d → out ≡ [] → IsSomeServed (record { bytes = out; status = Err e })
    untouched at none = unread (record { bytes = out; status = Err e }) (λ not. not) (no_bytes out (response_text false (error_response error.Memory)) none) at

module _ (stay : StaySound) (ends : RunsEnd) {S : Type 0} (g : Ghosts S) (t : State) (sound : IsSound t) (bytes : List ℕ) where
  abbrev pub IsOneDone : Sent → DeskState S → Type 0
  IsOneDone it d = IsAllServed stay ends g t sound bytes d it ⊎ IsSomeServed stay ends g t sound bytes d it

  exchanged_as : (out : List ℕ) (status : Result ℕ Io) (old new : DeskState S) → IsExchanged g bytes (record { bytes = out; status = status }) old new → HasCleanDisk (state g new.connection) → IsAt g t old → IsOneDone (record { bytes = out; status = status }) new
  exchanged_as out (Ok code) old new it clean at =
      let one = it.served.call.did t clean at in
      elim (cases_eq code 503) [
        | inl is ↦ inr (cut_replied stay ends g t sound bytes new code out is one.ok)
        | inr other ↦ inl (well_replied stay ends g t sound bytes new code out other one.ok)
      ]
  exchanged_as out (Err e) old new it clean at = elim it.broken [
    | inl same ↦ inr (untouched stay ends g t sound bytes new e out (subst (λ (x : DeskState S). IsAt g t x) (sym same.0) at) same.1)
    | inr breaks ↦ inr (broken stay ends g t sound bytes new e out (breaks.did t clean at))
  ]

  -- one connection was served
  pub one_done : (it : Sent) (old new : DeskState S) → IsExchanged g bytes it old new → HasCleanDisk (state g new.connection) → IsAt g t old → IsOneDone it new
  one_done it old new exchanged clean at = exchanged_as it.bytes it.status old new exchanged clean at
