-- What a fault kept from being reported is there.
use Rattle.std.proofs.Common.{◌≡◌, ◌≢◌, ◌⊎◌, inl, inr, ℕ, Ok, Err, Option, Result, Some, None, refl}
use Rattle.std.specs.Prelude.{IfOk, IsSome}
use Rattle.sqlite_trees.specs.declared.store.Store.{Ghosts}
use Rattle.office_base.specs.declared.memory.Memory.{Memory}
use Rattle.office_records.specs.Lists.{numbered}
use Rattle.office_records.specs.Tree.{TreeState}
use Rattle.office_records.specs.declared.status.Status.{Status}
use Rattle.office_records.specs.declared.status.Status.TheVariants.{Here, Sent, Received, Ended}
use Rattle.office_rules.specs.State.{State}
use Rattle.office_store.specs.declared.fault.Fault.{Fault}
use Rattle.office_desk.specs.Contents.{IsContentRead}
use Rattle.office_desk.specs.Desk.{DeskState}
use Rattle.office_desk.specs.Leaving.{HasContent}
use Rattle.office_http.specs.Replies.{response}
use Rattle.office_http.specs.declared.reply.Reply.{Reply}
use Rattle.office_http.specs.Receiving.{requested}
use Rattle.office_http.specs.declared.path_request.PathRequest.TheVariants as path
use Rattle.office_wire.specs.Answering.{IsGivenAt}
use Rattle.office_wire.specs.Replies.{fault_response}

-- a thing is there if a fault kept it from being reported, since none would have been reported
pub some_there : {A X : Type 0} (thing : Option A) (read : Result (Option X) Fault) (f : Fault) → read ≡ Err f → (thing ≡ None → read ≡ Ok None) → IsSome thing
some_there None read f is absent = absurd (let none = absent refl in cc)
some_there (Some it) read f is absent = refl

-- and so is a content
status_there : (status : Option Status) → ((it : Status) × (status ≡ Some it) × (it ≢ Ended)) ⊎ (((it : Status) × (status ≡ Some it) × (it ≢ Ended)) → ⊥)
status_there None = inr (λ it. let wrong = it.1 in cc)
status_there (Some Here) = inl (Here, refl, λ same. cc)
status_there (Some Sent) = inl (Sent, refl, λ same. cc)
status_there (Some Received) = inl (Received, refl, λ same. cc)
status_there (Some Ended) = inr (λ it. it.2 (let same = it.1 in cc))

pub content_there : {X : Type 0} (tree : TreeState) (r : ℕ) (read : Result (Option X) Fault) (f : Fault) → read ≡ Err f → ((HasContent tree r → ⊥) → read ≡ Ok None) → HasContent tree r
content_there tree r read f is absent = elim (status_there (numbered tree.statuses r)) [
  | inl there ↦ there
  | inr none ↦ absurd (let reported = absent none in cc)
]

-- its answer is that fault, or memory ran out for that
pub unreported_at : {S : Type 0} (g : Ghosts S) (t : State) (r : ℕ) (f : Fault) (desk : DeskState S) → IsContentRead g t r (Err f) desk → HasContent t.office.tree r → (given : Result Reply Memory) → IfOk given (λ reply. response reply ≡ fault_response f)
    → IsGivenAt g t (requested (path.Content (Some r))) given desk
unreported_at g t r f desk read there (Ok reply) is = (Err f, is, read, there)
unreported_at g t r f desk read there (Err e) is = (f, read, there)
