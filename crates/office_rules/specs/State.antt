-- What the office keeps. Source: MoReq2010, its record, disposal scheduling and disposal holding services; runs,
-- entries and certificates are own. No derived value is in it: class, plan, due day and hold are read from it each
-- time.
use Rattle.std.specs.Prelude.{ℕ, List, [], ℤ, neg_ℤ, pos}
use Rattle.std.specs.Ordering.{nat_cmp, ordering_then}
use Rattle.std.specs.declared.cmp.Ordering.{Ordering}
use Rattle.std.specs.FinMap.{FinMap, empty}
use Rattle.office_records.specs.Tree.{TreeState, empty_tree}
use Rattle.office_rules.specs.Holds.{HoldMap}
use Rattle.office_rules.specs.declared.entry.Entry.{Entry}
use Rattle.office_rules.specs.declared.run.Run.{Run}

-- entries are by run, then record
abbrev pub entry_cmp : ℕ × ℕ → ℕ × ℕ → Ordering
entry_cmp x y = ordering_then (nat_cmp x.0 y.0) (nat_cmp x.1 y.1)

-- entries by run and record
abbrev pub EntryMap : Type 0
EntryMap = FinMap entry_cmp Entry

-- the bytes of contents by record, of certificates by run
abbrev pub ByteMap : Type 0
ByteMap = FinMap nat_cmp (List ℕ)

-- the office without contents; run n is at place n - 1
pub record Office : Type 0 where
  pub tree : TreeState
  pub holds : HoldMap
  pub runs : List Run
  pub entries : EntryMap
  pub certificates : ByteMap
  pub day : ℤ

-- the office with the contents of its records
pub record State : Type 0 where
  pub office : Office
  pub contents : ByteMap

-- 0001-01-01
abbrev pub first_day : ℤ
first_day = neg_ℤ (pos 719_162)

-- a new office: nothing is there, on the first day
abbrev pub empty_office : Office
empty_office =
    record { tree = empty_tree; holds = empty; runs = []; entries = empty; certificates = empty; day = first_day }

abbrev pub empty_state : State
empty_state = record { office = empty_office; contents = empty }

-- the office with contents
abbrev pub with_contents : Office → ByteMap → State
with_contents s contents = record { office = s; contents = contents }

-- the state with another office
abbrev pub with_office : State → Office → State
with_office s office = record s { office = office }
