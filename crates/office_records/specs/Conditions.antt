-- Why an act on the tree is refused: for each act one table of its conditions, in the order of the refusals' numbers,
-- of which the first that holds is answered. A condition about an entity that is not there is false. Source: own.
use Rattle.std.specs.Prelude.{◌≡◌, ℕ, Bool, true, false, IsTrue, ◌&&◌, ◌||◌, not, List, [], ◌∷◌, length, nat_le, Option, Some, None, IfSome, IfNone, ◌==◌, ◌<◌, ◌≤◌, ℤ, int_le, int_lt, if◌then◌else◌}
use Rattle.std.specs.Option.{is_some, is_none}
use Rattle.std.specs.List.{list_any, All, AllByRecursion, Contains}
use Rattle.std.specs.Str.{bytes_eq}
use Rattle.std.specs.FinMap.{contains_key, len}
use Rattle.office_base.specs.declared.refusal.Refusal.{Refusal}
use Rattle.office_base.specs.declared.refusal.Refusal.TheVariants.{Exists, NoSuch, Full, Closed, ChildOpen, TooDeep, NeedsClass, Ended, InTransfer, NotDue, WrongAction, NotSent, WrongDigest, NotYet}
use Rattle.office_base.specs.Refusals.{refusal_number}
use Rattle.office_records.specs.Lists.{numbered, is_some_and}
use Rattle.office_records.specs.Disposal.{same_action, is_ended, is_sent, is_in_transfer}
use Rattle.office_records.specs.Tree.{TreeState, has_aggregation, has_record, chain_of, action_of, due_of, status_of}
use Rattle.office_records.specs.declared.action.Action.{Action}
use Rattle.office_records.specs.declared.action.Action.TheVariants as action
use Rattle.office_records.specs.declared.aggregation.Aggregation.{Aggregation}
use Rattle.office_records.specs.declared.classified.Classified.{Classified}
use Rattle.office_records.specs.declared.classified.Classified.TheVariants as classified
use Rattle.office_records.specs.declared.status.Status.{Status}

-- the refusal of the first condition that holds, if one does
abbrev pub first_of : List (Refusal × Bool) → Option Refusal
first_of [] = None
first_of (c ∷ cs) = if c.1 then Some c.0 else first_of cs

-- an answer by a table: a refusal whose condition holds and whose number is not above that of any condition that holds;
-- none where no condition holds
pub record IsLeastOf (conditions : List (Refusal × Bool)) (answer : Option Refusal) : Type 0 where
  pub holds : IfSome answer (λ r. Contains conditions (r, true))
  pub least : IfSome answer (λ r. All (λ c. IsTrue c.1 → refusal_number r ≤ refusal_number c.0) conditions)
  pub none : IfNone answer (All (λ c. c.1 ≡ false) conditions)

-- a table is in the order of the refusals' numbers
abbrev pub IsRising : List (Refusal × Bool) → Type 0
IsRising [] = Unit {0}
IsRising (c ∷ cs) = AllByRecursion (λ d. refusal_number c.0 < refusal_number d.0) cs × IsRising cs

-- a code that is given names no class
abbrev pub lacks_class : TreeState → Option (List ℕ) → Bool
lacks_class tree class = is_some_and class (λ code. not (contains_key tree.classes code))

-- a code that is given names no schedule
abbrev pub lacks_schedule : TreeState → Option (List ℕ) → Bool
lacks_schedule tree schedule = is_some_and schedule (λ code. not (contains_key tree.schedules code))

-- a number that is given names no aggregation
abbrev pub lacks_parent : TreeState → Option ℕ → Bool
lacks_parent tree parent = is_some_and parent (λ a. not (has_aggregation tree a))

-- the aggregation is there and closed
abbrev pub is_closed : List Aggregation → ℕ → Bool
is_closed aggregations a = is_some_and (numbered aggregations a) (λ it. is_some it.closed)

-- the aggregation has that parent
abbrev pub is_child_of : ℕ → Aggregation → Bool
is_child_of a it = is_some_and it.parent (λ p. p == a)

-- the code is there; there are 1,000
abbrev pub conditions_of_add_schedule : TreeState → List ℕ → List (Refusal × Bool)
conditions_of_add_schedule tree code =
    (Exists, contains_key tree.schedules code)
    ∷ (Full, nat_le 1_000 (len tree.schedules))
    ∷ []

-- the code is there; no such schedule; there are 1,000
abbrev pub conditions_of_add_class : TreeState → List ℕ → List ℕ → List (Refusal × Bool)
conditions_of_add_class tree code schedule =
    (Exists, contains_key tree.classes code)
    ∷ (NoSuch, not (contains_key tree.schedules schedule))
    ∷ (Full, nat_le 1_000 (len tree.classes))
    ∷ []

-- the ref is there; no such parent or class; there are 50,000; the parent is closed; the parent has depth 8; neither
-- parent nor class
abbrev pub conditions_of_add_aggregation : TreeState → List ℕ → Option ℕ → Option (List ℕ) → List (Refusal × Bool)
conditions_of_add_aggregation tree ref_text parent class =
    (Exists, list_any (λ it. bytes_eq it.ref_text ref_text) tree.aggregations)
    ∷ (NoSuch, lacks_parent tree parent || lacks_class tree class)
    ∷ (Full, nat_le 50_000 (length tree.aggregations))
    ∷ (Closed, is_some_and parent (is_closed tree.aggregations))
    ∷ (TooDeep, is_some_and parent (λ a. nat_le 8 (length (chain_of tree.aggregations a))))
    ∷ (NeedsClass, is_none parent && is_none class)
    ∷ []

-- it is not there; it is closed already; a child is open
abbrev pub conditions_of_close_aggregation : TreeState → ℕ → List (Refusal × Bool)
conditions_of_close_aggregation tree a =
    (NoSuch, not (has_aggregation tree a))
    ∷ (Closed, is_closed tree.aggregations a)
    ∷ (ChildOpen, list_any (λ it. is_child_of a it && is_none it.closed) tree.aggregations)
    ∷ []

-- the ref is there; no such aggregation, class or schedule; there are 200,000; the aggregation is closed
abbrev pub conditions_of_add_record : TreeState → List ℕ → ℕ → Option (List ℕ) → Option (List ℕ) → List (Refusal × Bool)
conditions_of_add_record tree ref_text aggregation class schedule =
    (Exists, list_any (λ head. bytes_eq head.ref_text ref_text) tree.records)
    ∷ (NoSuch, not (has_aggregation tree aggregation) || lacks_class tree class || lacks_schedule tree schedule)
    ∷ (Full, nat_le 200_000 (length tree.records))
    ∷ (Closed, is_closed tree.aggregations aggregation)
    ∷ []

-- no such class or schedule
abbrev pub conditions_of_set_class_schedule : TreeState → List ℕ → List ℕ → List (Refusal × Bool)
conditions_of_set_class_schedule tree class schedule =
    (NoSuch, not (contains_key tree.classes class) || not (contains_key tree.schedules schedule))
    ∷ []

-- the record is there and ended
abbrev pub has_ended : TreeState → ℕ → Bool
has_ended tree r = is_some_and (status_of tree r) is_ended

-- the record is there and sent or received
abbrev pub is_under_way : TreeState → ℕ → Bool
is_under_way tree r = is_some_and (status_of tree r) is_in_transfer

-- no such record or schedule; the record is ended; it is sent or received
abbrev pub conditions_of_set_record_schedule : TreeState → ℕ → Option (List ℕ) → List (Refusal × Bool)
conditions_of_set_record_schedule tree r schedule =
    (NoSuch, not (has_record tree r) || lacks_schedule tree schedule)
    ∷ (Ended, has_ended tree r)
    ∷ (InTransfer, is_under_way tree r)
    ∷ []

-- there is no such aggregation, or no such record
abbrev pub lacks_classified : TreeState → Classified → Bool
lacks_classified tree (classified.Aggregation a) = not (has_aggregation tree a)
lacks_classified tree (classified.Record r) = not (has_record tree r)

-- it is an aggregation without parent
abbrev pub is_root : TreeState → Classified → Bool
is_root tree (classified.Aggregation a) = is_some_and (numbered tree.aggregations a) (λ it. is_none it.parent)
is_root tree (classified.Record r) = false

-- the status of a record; an aggregation has none
abbrev pub classified_status : TreeState → Classified → Option Status
classified_status tree (classified.Aggregation a) = None
classified_status tree (classified.Record r) = status_of tree r

-- no such target or class; a root and no class given; the record is ended; it is sent or received
abbrev pub conditions_of_reclassify : TreeState → Classified → Option (List ℕ) → List (Refusal × Bool)
conditions_of_reclassify tree what class =
    (NoSuch, lacks_classified tree what || lacks_class tree class)
    ∷ (NeedsClass, is_root tree what && is_none class)
    ∷ (Ended, is_some_and (classified_status tree what) is_ended)
    ∷ (InTransfer, is_some_and (classified_status tree what) is_in_transfer)
    ∷ []

-- the record has no due day, or one after the day
abbrev pub is_not_due : TreeState → ℕ → ℤ → Bool
is_not_due tree r day = has_record tree r && not (is_some_and (due_of tree r) (λ due. int_le due day))

-- the record's plan has another action
abbrev pub has_other_action : TreeState → ℕ → Action → Bool
has_other_action tree r named = has_record tree r && not (is_some_and (action_of tree r) (same_action named))

-- no such record; it is ended; it is sent or received; it is not due; the named action is not the plan's, or it is to
-- review
abbrev pub conditions_of_confirm : TreeState → ℤ → ℕ → Action → List (Refusal × Bool)
conditions_of_confirm tree day r named =
    (NoSuch, not (has_record tree r))
    ∷ (Ended, has_ended tree r)
    ∷ (InTransfer, is_under_way tree r)
    ∷ (NotDue, is_not_due tree r day)
    ∷ (WrongAction, has_other_action tree r named || same_action named action.Review)
    ∷ []

-- no such record or schedule; the record is ended; it is sent or received; it is not due; its plan's action is not to
-- review
abbrev pub conditions_of_review : TreeState → ℤ → ℕ → Option (List ℕ) → List (Refusal × Bool)
conditions_of_review tree day r schedule =
    (NoSuch, not (has_record tree r) || lacks_schedule tree schedule)
    ∷ (Ended, has_ended tree r)
    ∷ (InTransfer, is_under_way tree r)
    ∷ (NotDue, is_not_due tree r day)
    ∷ (WrongAction, has_other_action tree r action.Review)
    ∷ []

-- no such record; it is ended; it is not sent; the digest is not its own
abbrev pub conditions_of_receipt : TreeState → ℕ → List ℕ → List (Refusal × Bool)
conditions_of_receipt tree r digest =
    (NoSuch, not (has_record tree r))
    ∷ (Ended, has_ended tree r)
    ∷ (NotSent, is_some_and (status_of tree r) (λ status. not (is_sent status)))
    ∷ (WrongDigest, is_some_and (numbered tree.records r) (λ head. not (bytes_eq head.digest digest)))
    ∷ []

-- no such record; it is ended; it is sent or received; the event occurred after the day
abbrev pub conditions_of_event : TreeState → ℤ → ℕ → ℤ → List (Refusal × Bool)
conditions_of_event tree day r occurred =
    (NoSuch, not (has_record tree r))
    ∷ (Ended, has_ended tree r)
    ∷ (InTransfer, is_under_way tree r)
    ∷ (NotYet, int_lt day occurred)
    ∷ []
