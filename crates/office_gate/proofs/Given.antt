-- What a desk that knows no policy answers, as what is answered to a visitor to whom it is not denied.
use Rattle.std.proofs.Common.{inl, inr, ℕ, Option, Some, None, Result, Ok, Err}
use Rattle.sqlite_trees.specs.declared.store.Store.{Ghosts}
use Rattle.office_base.specs.declared.memory.Memory.{Memory}
use Rattle.office_desk.specs.Desk.{DeskState}
use Rattle.office_gate.specs.Answering.{IsAnsweredPermitted, IsGivenPermitted, IsReadFor}
use Rattle.office_gate.specs.Visitors.{Visitor}
use Rattle.office_http.specs.Receiving.{OfficeRequest, cut, refused, requested}
use Rattle.office_http.specs.declared.path_request.PathRequest.TheVariants as path
use Rattle.office_http.specs.declared.rejection.Rejection.{Rejection}
use Rattle.office_http.specs.declared.reply.Reply.{Reply}
use Rattle.office_rules.specs.State.{State}
use Rattle.office_wire.specs.Answering.{IsAnswered, IsGivenAt}
use Rattle.office_wire.proofs.Calls.{answered, not_answered}

module _ {S : Type 0} (g : Ghosts S) (v : Visitor) where
  resume_given : (t : State) (given : Result Reply Memory) (desk : DeskState S) → IsGivenAt g t (requested path.Resume) given desk
      → IsGivenPermitted g v t (requested path.Resume) given desk
  resume_given t (Ok reply) desk served = inl served
  resume_given t (Err e) desk served = inl served

  record_given : (t : State) (r : Option ℕ) (given : Result Reply Memory) (desk : DeskState S) → IsGivenAt g t (requested (path.Record r)) given desk
      → IsGivenPermitted g v t (requested (path.Record r)) given desk
  record_given t r (Ok reply) desk served = inl served
  record_given t r (Err e) desk out = inr out.1

  content_given : (t : State) (r : Option ℕ) (given : Result Reply Memory) (desk : DeskState S) → IsGivenAt g t (requested (path.Content r)) given desk
      → IsGivenPermitted g v t (requested (path.Content r)) given desk
  content_given t r (Ok reply) desk served = inl served
  content_given t None (Err e) desk out = absurd out
  content_given t (Some r) (Err e) desk out = inl (Err out.0, tt, out.1, out.2)

  certificate_given : (t : State) (run : Option ℕ) (given : Result Reply Memory) (desk : DeskState S) → IsGivenAt g t (requested (path.Certificate run)) given desk
      → IsGivenPermitted g v t (requested (path.Certificate run)) given desk
  certificate_given t run (Ok reply) desk served = inl served
  certificate_given t run (Err e) desk out = inr out.1

  refused_given : (t : State) (check : Rejection) (given : Result Reply Memory) (desk : DeskState S)
      → IsGivenAt g t (refused check) given desk → IsGivenPermitted g v t (refused check) given desk
  refused_given t check (Ok reply) desk served = inl served
  refused_given t check (Err e) desk out = absurd out

  cut_given : (t : State) (given : Result Reply Memory) (desk : DeskState S) → IsGivenAt g t cut given desk
      → IsGivenPermitted g v t cut given desk
  cut_given t (Ok reply) desk served = inl served
  cut_given t (Err e) desk out = absurd out

  pub resume_answered : (given : Result Reply Memory) (old new : DeskState S)
      → IsAnswered g (requested path.Resume) given old new → IsAnsweredPermitted g v (requested path.Resume) given old new
  resume_answered given old new it =
      answered g old new (λ t. IsGivenAt g t (requested path.Resume) given new) (λ t. IsGivenPermitted g v t (requested path.Resume) given new)
      _ (Unit {0}) _ _ it (λ t served. resume_given t given new served) (λ gone. tt) (λ reported. reported)

  pub record_answered : (r : Option ℕ) (given : Result Reply Memory) (old new : DeskState S)
      → IsAnswered g (requested (path.Record r)) given old new → IsAnsweredPermitted g v (requested (path.Record r)) given old new
  record_answered r given old new it =
      answered g old new (λ t. IsGivenAt g t (requested (path.Record r)) given new) (λ t. IsGivenPermitted g v t (requested (path.Record r)) given new)
      _ (Unit {0}) _ _ it (λ t served. record_given t r given new served) (λ gone. tt) (λ reported. reported)

  pub content_answered : (r : Option ℕ) (given : Result Reply Memory) (old new : DeskState S)
      → IsAnswered g (requested (path.Content r)) given old new → IsAnsweredPermitted g v (requested (path.Content r)) given old new
  content_answered r given old new it =
      answered g old new (λ t. IsGivenAt g t (requested (path.Content r)) given new) (λ t. IsGivenPermitted g v t (requested (path.Content r)) given new)
      _ (Unit {0}) _ _ it (λ t served. content_given t r given new served) (λ gone. tt) (λ reported. reported)

  pub certificate_answered : (run : Option ℕ) (given : Result Reply Memory) (old new : DeskState S)
      → IsAnswered g (requested (path.Certificate run)) given old new → IsAnsweredPermitted g v (requested (path.Certificate run)) given old new
  certificate_answered run given old new it =
      answered g old new (λ t. IsGivenAt g t (requested (path.Certificate run)) given new) (λ t. IsGivenPermitted g v t (requested (path.Certificate run)) given new)
      _ (Unit {0}) _ _ it (λ t served. certificate_given t run given new served) (λ gone. tt) (λ reported. reported)

  pub refused_answered : (check : Rejection) (given : Result Reply Memory) (old new : DeskState S)
      → IsAnswered g (refused check) given old new → IsAnsweredPermitted g v (refused check) given old new
  refused_answered check given old new it =
      answered g old new (λ t. IsGivenAt g t (refused check) given new) (λ t. IsGivenPermitted g v t (refused check) given new)
      _ (Unit {0}) _ _ it (λ t served. refused_given t check given new served) (λ gone. tt) (λ reported. reported)

  pub cut_answered : (given : Result Reply Memory) (old new : DeskState S)
      → IsAnswered g cut given old new → IsAnsweredPermitted g v cut given old new
  cut_answered given old new it =
      answered g old new (λ t. IsGivenAt g t cut given new) (λ t. IsGivenPermitted g v t cut given new)
      _ (Unit {0}) _ _ it (λ t served. cut_given t given new served) (λ gone. tt) (λ reported. reported)

  pub read_answered : (request : OfficeRequest) (given : Result Reply Memory) (desk : DeskState S) → IsReadFor g v request given desk
      → IsAnsweredPermitted g v request given desk desk
  read_answered request given desk read =
      not_answered g desk (λ t. IsGivenPermitted g v t request given desk) (Unit {0}) _ read tt
