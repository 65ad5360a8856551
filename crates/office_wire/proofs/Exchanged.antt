-- How a connection of a source is served, and one after another.
use Rattle.std.proofs.Common.{◌≡◌, ◌⊎◌, ◌∙◌, ap, arith, refl, subst, sym, inl, inr, ℕ, ◌+◌, Bool, true, false, ◌||◌, IsTrue, List, [], ◌∷◌, ◌++◌, length, append_assoc, Option, Some, None, Result, Ok, Err}
use Rattle.std.specs.Prelude.{IfErr, IfOk, IfSome, OnErr}
use Rattle.std.specs.Io.KnownBytes.{Appends}
use Rattle.std.proofs.lemmas.List.{append-nil, length-append}
use Rattle.std.proofs.lemmas.Result.{IfOk-weaker}
use Rattle.sqlite_trees.specs.declared.store.Store.{Ghosts}
use Rattle.office_base.specs.declared.output.Io.{Io}
use Rattle.office_rules.specs.State.{State}
use Rattle.office_desk.specs.Desk.{DeskState}
use Rattle.office_http.specs.Replies.{Response, response, response_text}
use Rattle.office_wire.specs.Calling.{CalledAt}
use Rattle.office_wire.specs.Connections.{IsVisited, has_failed}
use Rattle.office_wire.specs.Exchanges.{AreExchanged, AreServed, IsExchanged, IsNextServed, none, one_more}
use Rattle.office_wire.specs.Serving.{Breaks, GoneReplies, InHalves, IsGoneAnswered, IsGoneReply, IsOneServed, IsReply, LeavesServed, Replies, Sends}
use Rattle.office_wire.specs.Sources.{Closes, IsAccepted, Sent, Traffic}
use Rattle.office_wire.specs.declared.exchange.OutgoingReply.{OutgoingReply}
use Rattle.office_wire.proofs.Calls.{called}

-- ---- whatever was read

module _ {S : Type 0} (g : Ghosts S) (t : State) (bytes : List ℕ) (unread : Type 0) (d : DeskState S) where
  reply_told : (is_head : Bool) (r : Response) → IsReply g t bytes unread is_head r d → IsReply g t bytes (Unit {0}) is_head r d
  reply_told is_head r (inl it) = inl it
  reply_told is_head r (inr it) = inr (tt, it.1, it.2, it.3)

  replies_told : (code : ℕ) (written after : Option (List ℕ)) → Replies g t bytes unread code written after d → Replies g t bytes (Unit {0}) code written after d
  replies_told code written after (inl silent) = inl silent
  replies_told code written after (inr (is_head, r, reply, writes)) = inr (is_head, r, reply_told is_head r reply, writes)

  one_known : (status : Result ℕ Io) (written after : Option (List ℕ)) → IsOneServed g t (Some bytes) unread status written after d → IsOneServed g t (Some bytes) (Unit {0}) status written after d
  one_known status written after it = record { ok = IfOk-weaker status _ _ (λ code replies. replies_told code written after replies) it.ok; leaves = it.leaves }

  breaks_known : (written after : Option (List ℕ)) → Breaks g t bytes unread written after d → Breaks g t bytes (Unit {0}) written after d
  breaks_known written after (is_head, r, reply, some) = (is_head, r, reply_told is_head r reply, some)

gone_reply_told : (bytes : List ℕ) (unread : Type 0) (is_head : Bool) (r : Response) → IsGoneReply bytes unread is_head r → IsGoneReply bytes (Unit {0}) is_head r
gone_reply_told bytes unread is_head r (inl it) = inl it
gone_reply_told bytes unread is_head r (inr it) = inr (tt, it.1, it.2)

gone_replies_told : (bytes : List ℕ) (unread : Type 0) (code : ℕ) (written after : Option (List ℕ)) → GoneReplies bytes unread code written after → GoneReplies bytes (Unit {0}) code written after
gone_replies_told bytes unread code written after (inl silent) = inl silent
gone_replies_told bytes unread code written after (inr (is_head, r, reply, writes)) = inr (is_head, r, gone_reply_told bytes unread is_head r reply, writes)

gone_known : (bytes : List ℕ) (unread : Type 0) (status : Result ℕ Io) (written after : Option (List ℕ)) → IsGoneAnswered (Some bytes) unread status written after → IsGoneAnswered (Some bytes) (Unit {0}) status written after
gone_known bytes unread status written after it = IfOk-weaker status _ _ (λ code replies. gone_replies_told bytes unread code written after replies) it

-- ---- what went out

appended : (after : Option (List ℕ)) (text : List ℕ) → Appends (Some []) after text → (out : List ℕ) × (after ≡ Some out)
appended None text it = absurd it
appended (Some out) text it = (out, refl)

sent_out : (it : Option OutgoingReply) (status : Result ℕ Io) (after : Option (List ℕ)) → Sends it status (Some []) after → (out : List ℕ) × (after ≡ Some out)
sent_out None (Ok code) after it = ([], it.ok.1)
sent_out (Some sending) (Ok code) after it = appended after (response_text sending.is_head (response sending.reply)) it.ok.0
sent_out None (Err e) after it = absurd it.err
sent_out (Some sending) (Err e) after it = appended after _ it.err.out

-- one request was served by `serve_with`, in its clauses
pub record IsServedWith {R W S : Type 0} (g : Ghosts S) (all : R → Option (List ℕ)) (reader left : R) (contents : W → Option (List ℕ)) (writer after : W) (status : Result ℕ Io) (old new : DeskState S) : Type 0 where
  pub served : CalledAt g old new (λ t. IsOneServed g t (all reader) (left ≡ reader) status (contents writer) (contents after) new)
  pub gone : IsTrue old.is_poisoned → (new ≡ old) × IsGoneAnswered (all reader) (left ≡ reader) status (contents writer) (contents after)
  pub unavailable : old.is_poisoned ≡ false → IsTrue new.is_poisoned → IfOk status (λ code. code ≡ 503)
  pub halves : InHalves g all reader left contents writer after status old new

module _ {R W S : Type 0} (g : Ghosts S) (all : R → Option (List ℕ)) (reader left : R) (contents : W → Option (List ℕ)) (writer after : W) (status : Result ℕ Io) (old new : DeskState S) (it : IsServedWith g all reader left contents writer after status old new) where
  -- ---- of any source

  closed_unavailable : (served closed : Result ℕ Io) → IfOk served (λ code. code ≡ 503) → IfOk closed (λ code. served ≡ Ok code) → IfOk closed (λ code. code ≡ 503)
  closed_unavailable served (Err e) is same = tt
  closed_unavailable (Err e) (Ok code) is same = absurd cc
  closed_unavailable (Ok found) (Ok code) is same = cc

  pub visited : (closed : Result ℕ Io) → IfOk closed (λ code. status ≡ Ok code) → IsVisited g closed old new
  visited closed same =
      record {
        call = called g old new (λ t. IsOneServed g t (all reader) (left ≡ reader) status (contents writer) (contents after) new) (λ t. LeavesServed g t new) it.served (λ t one. one.leaves);
        kept = λ was. (it.gone was).0;
        gone = λ was. tt;
        reported = λ still is. closed_unavailable status closed (it.unavailable still is) same;
      }

  -- ---- of one that reports its bytes

  next_out : (next : Result (Option OutgoingReply) Io) → contents writer ≡ Some [] → IfErr next (λ e. (status ≡ Err e) × (new ≡ old) × (after ≡ writer)) → IfOk next (λ sending. Sends sending status (contents writer) (contents after))
      → (out : List ℕ) × (contents after ≡ Some out)
  next_out (Err e) empty unserved second = ([], ap contents unserved.2 ∙ empty)
  next_out (Ok sending) empty unserved second = sent_out sending status (contents after) (subst (λ (w : Option (List ℕ)). Sends sending status w (contents after)) empty second)

  went_out : contents writer ≡ Some [] → (out : List ℕ) × (contents after ≡ Some out)
  went_out empty = next_out it.halves.next empty it.halves.unserved it.halves.second

  -- all that is said of the bytes, by what they are
  record AreBytesServed (bytes written out : Option (List ℕ)) : Type 0 where
    served : CalledAt g old new (λ t. IsOneServed g t bytes (left ≡ reader) status written out new)
    gone : IsTrue old.is_poisoned → IsGoneAnswered bytes (left ≡ reader) status written out
    err : OnErr status (IfSome bytes (λ all_bytes. ((new ≡ old) × (out ≡ written)) ⊎ CalledAt g old new (λ t. Breaks g t all_bytes (left ≡ reader) written out new)))

  untouched : (bytes : Option (List ℕ)) → IfSome bytes (λ all_bytes. ((new ≡ old) × (after ≡ writer)) ⊎ CalledAt g old new (λ t. Breaks g t all_bytes (left ≡ reader) (contents writer) (contents after) new))
      → IfSome bytes (λ all_bytes. ((new ≡ old) × (contents after ≡ contents writer)) ⊎ CalledAt g old new (λ t. Breaks g t all_bytes (left ≡ reader) (contents writer) (contents after) new))
  untouched None err = tt
  untouched (Some bytes) (inl same) = inl (same.0, ap contents same.1)
  untouched (Some bytes) (inr breaks) = inr breaks

  untouched_at : (ends : Result ℕ Io) (P Q : Type 0) → (P → Q) → OnErr ends P → OnErr ends Q
  untouched_at (Ok code) P Q to err = tt
  untouched_at (Err e) P Q to err = to err

  bytes_served : AreBytesServed (all reader) (contents writer) (contents after)
  bytes_served = record { served = it.served; gone = λ was. (it.gone was).1; err = untouched_at status _ _ (untouched (all reader)) it.halves.err }

  exchanged_of : (bytes out : List ℕ) → AreBytesServed (Some bytes) (Some []) (Some out) → IsExchanged g bytes (record { bytes = out; status = status }) old new
  exchanged_of bytes out its =
      record {
        served =
            record {
              call = called g old new (λ t. IsOneServed g t (Some bytes) (left ≡ reader) status (Some []) (Some out) new) (λ t. IsOneServed g t (Some bytes) (Unit {0}) status (Some []) (Some out) new) its.served
                  (λ t one. one_known g t bytes (left ≡ reader) new status (Some []) (Some out) one);
              kept = λ was. (it.gone was).0;
              gone = λ was. gone_known bytes (left ≡ reader) status (Some []) (Some out) (its.gone was);
              reported = it.unavailable;
            };
        broken = untouched_at status _ _ (λ err. elim err [
          | inl same ↦ inl (same.0, (let none = same.1 in cc))
          | inr breaks ↦ inr (called g old new (λ t. Breaks g t bytes (left ≡ reader) (Some []) (Some out) new) (λ t. Breaks g t bytes (Unit {0}) (Some []) (Some out) new) breaks
              (λ t is. breaks_known g t bytes (left ≡ reader) new (Some []) (Some out) is))
        ]) its.err;
      }

  exchanged : (bytes out : List ℕ) → all reader ≡ Some bytes → contents writer ≡ Some [] → contents after ≡ Some out → IsExchanged g bytes (record { bytes = out; status = status }) old new
  exchanged bytes out is empty went =
      exchanged_of bytes out
      (subst (λ (a : Option (List ℕ)). AreBytesServed a (Some []) (Some out)) is
      (subst (λ (w : Option (List ℕ)). AreBytesServed (all reader) w (Some out)) empty
      (subst (λ (x : Option (List ℕ)). AreBytesServed (all reader) (contents writer) x) went bytes_served)))

  next_served : (before : Traffic) (mid reported : Option Traffic) (closed : Result ℕ Io) → IsAccepted before (all reader) (contents writer) mid → Closes (contents after) status closed mid reported → IsNextServed g closed before reported old new
  next_served before mid reported closed (first, rest, coming, is, empty, left_traffic) closes =
      let out = went_out empty in
      let by_traffic = subst (λ (x : Option Traffic). Closes (contents after) status closed x reported) left_traffic closes in
      let by_out = subst (λ (x : Option (List ℕ)). Closes x status closed (Some (record { coming = rest; sent = before.sent })) reported) out.1 by_traffic in
      inr (first, rest, record { bytes = out.0; status = status }, coming, by_out.1, sym by_out.0, exchanged first out.0 is empty out.1)

  pub some_next_served : (before mid reported : Option Traffic) (closed : Result ℕ Io) → IfSome before (λ traffic_before. IsAccepted traffic_before (all reader) (contents writer) mid) → Closes (contents after) status closed mid reported
      → IfSome before (λ traffic_before. IsNextServed g closed traffic_before reported old new)
  some_next_served None mid reported closed accepted closes = tt
  some_next_served (Some before) mid reported closed accepted closes = next_served before mid reported closed accepted closes

-- none came, and nothing was done
pub none_came : {S : Type 0} (g : Ghosts S) (before reported : Option Traffic) (e : Io) (desk : DeskState S) → IfSome before (λ traffic_before. (traffic_before.coming ≡ []) × (reported ≡ Some traffic_before))
    → IfSome before (λ traffic_before. IsNextServed g (Err e) traffic_before reported desk desk)
none_came g None reported e desk same = tt
none_came g (Some before) reported e desk same = inl (refl, refl, same.1, same.0)

-- ---- one after another

module _ {S : Type 0} (g : Ghosts S) (old : DeskState S) where
  none_served : (before : Traffic) → AreServed g 0 false before (Some before) old old
  none_served before =
      record {
        came = [];
        rest = before.coming;
        sent = [];
        coming = refl;
        traffic = ap (λ (x : List Sent). Some (record { coming = before.coming; sent = x })) (sym (append-nil before.sent));
        exchanged = none;
        each = λ all. refl;
        all = inl refl;
      }

  pub some_none_served : (before : Option Traffic) → IfSome before (λ traffic_before. AreServed g 0 false traffic_before before old old)
  some_none_served None = tt
  some_none_served (Some before) = none_served before

  never_failed : (a b : Bool) → b ≡ true → (a || b) ≡ false → ⊥
  never_failed true b is neither = cc
  never_failed false b is neither = cc

  not_failed : (a b : Bool) → (a || b) ≡ false → a ≡ false
  not_failed true b neither = neither
  not_failed false b neither = refl

  -- of as many as were awaited, one came more
  came_more : (n : ℕ) (bytes : List ℕ) (rest later : List (List ℕ)) (sent : List Sent) (it : Sent) → rest ≡ bytes ∷ later → (length sent ≡ n) ⊎ (rest ≡ []) → length (sent ++ it ∷ []) ≡ n + 1
  came_more n bytes rest later sent it next (inl so_far) = omega (arith, length-append sent (it ∷ []))
  came_more n bytes rest later sent it next (inr gone) = absurd cc

  more_after : (n : ℕ) (failed : Bool) (before : Traffic) (reported : Option Traffic) (status : Result ℕ Io) (mid new : DeskState S) (came rest : List (List ℕ)) (sent : List Sent) → before.coming ≡ came ++ rest → AreExchanged g old came sent mid → (failed ≡ false → length sent ≡ n) → (length sent ≡ n) ⊎ (rest ≡ [])
      → IsNextServed g status (record { coming = rest; sent = before.sent ++ sent }) reported mid new → AreServed g (n + 1) (failed || has_failed status) before reported old new
  more_after n failed before reported status mid new came rest sent coming done each so_far (inl (is, same, stays, gone)) =
      record {
        came = came;
        rest = rest;
        sent = sent;
        coming = coming;
        traffic = stays;
        exchanged = subst (λ (d : DeskState S). AreExchanged g old came sent d) (sym same) done;
        each = λ all. absurd (never_failed failed (has_failed status) is all);
        all = inr gone;
      }
  more_after n failed before reported status mid new came rest sent coming done each so_far (inr (bytes, later, it, next, goes, is, exchanged_so)) =
      record {
        came = came ++ bytes ∷ [];
        rest = later;
        sent = sent ++ it ∷ [];
        coming = coming ∙ ap (λ (x : List (List ℕ)). came ++ x) next ∙ sym (append_assoc came (bytes ∷ []) later);
        traffic = goes ∙ ap (λ (x : List Sent). Some (record { coming = later; sent = x })) (append_assoc before.sent sent (it ∷ []));
        exchanged = one_more came sent bytes it mid new done exchanged_so;
        each = λ all. came_more n bytes rest later sent it next (inl (each (not_failed failed (has_failed status) all)));
        all = inl (came_more n bytes rest later sent it next so_far);
      }

  more_served : (n : ℕ) (failed : Bool) (before : Traffic) (mid_traffic reported : Option Traffic) (status : Result ℕ Io) (mid new : DeskState S) → AreServed g n failed before mid_traffic old mid → IfSome mid_traffic (λ it. IsNextServed g status it reported mid new)
      → AreServed g (n + 1) (failed || has_failed status) before reported old new
  more_served n failed before mid_traffic reported status mid new it next =
      more_after n failed before reported status mid new it.came it.rest it.sent it.coming it.exchanged it.each it.all
      (subst (λ (x : Option Traffic). IfSome x (λ a. IsNextServed g status a reported mid new)) it.traffic next)

  pub some_more_served : (n : ℕ) (failed : Bool) (before mid_traffic reported : Option Traffic) (status : Result ℕ Io) (mid new : DeskState S) → IfSome before (λ traffic_before. AreServed g n failed traffic_before mid_traffic old mid) → IfSome mid_traffic (λ it. IsNextServed g status it reported mid new)
      → IfSome before (λ traffic_before. AreServed g (n + 1) (failed || has_failed status) traffic_before reported old new)
  some_more_served n failed None mid_traffic reported status mid new it next = tt
  some_more_served n failed (Some before) mid_traffic reported status mid new it next = more_served n failed before mid_traffic reported status mid new it next
