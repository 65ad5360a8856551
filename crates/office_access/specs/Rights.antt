-- What the rights of a name allow. Source: own.
use Rattle.std.specs.Prelude.{ℕ, Bool, true, false, not, ◌&&◌, ◌||◌, List, Option, None, nat_eq}
use Rattle.std.specs.List.{list_any, list_all, starts_with}
use Rattle.std.specs.Str.{bytes_eq}
use Rattle.office_records.specs.Lists.{is_some_and}
use Rattle.office_access.specs.Kinds.{same_power}
use Rattle.office_access.specs.declared.kind.Kind.TheVariants as kind
use Rattle.office_access.specs.declared.power.Power.{Power}
use Rattle.office_access.specs.declared.power.Power.TheVariants as power
use Rattle.office_access.specs.declared.reading.Reading.{Reading}
use Rattle.office_access.specs.declared.class_pattern.ClassPattern.{ClassPattern}
use Rattle.office_access.specs.declared.class_pattern.ClassPattern.TheVariants as pattern
use Rattle.office_access.specs.declared.right.ClassList.{ClassList}
use Rattle.office_access.specs.declared.right.Right.{Right}
use Rattle.office_access.specs.declared.grants.Grants.{Grants}

-- the class is the named one, or its code begins so, or each class is meant
abbrev pub fits : List ℕ → ClassPattern → Bool
fits class (pattern.Exactly code) = bytes_eq class code
fits class (pattern.Beginning code) = starts_with nat_eq class code
fits class pattern.Every = true

-- the list names the class; no list names what lies in no class
abbrev pub is_in : Option (List ℕ) → ClassList → Bool
is_in class limit = is_some_and class (λ code. list_any (fits code) limit.patterns.items)

-- the right is not only for what was sent, unless the thing was sent; and each limit of the right names the class
abbrev pub covers : Option (List ℕ) → Bool → Right → Bool
covers class is_sent right = (is_sent || not right.is_for_sent) && list_all (is_in class) right.limits.items

-- the right allows that for a thing of that class
abbrev pub is_right : Power → Option (List ℕ) → Bool → Right → Bool
is_right power class is_sent right = same_power right.power power && covers class is_sent right

-- one of the rights allows that for a thing of that class. `None` is what lies in no class, or is not there: only a
-- right without limits covers it
abbrev pub may_in : Grants → Power → Option (List ℕ) → Bool
may_in grants power class = list_any (is_right power class false) grants.rights.items

-- one of the rights allows that, for whichever class
abbrev pub may_at_all : Grants → Power → Bool
may_at_all grants power = list_any (λ right. same_power right.power power) grants.rights.items

-- one of the rights allows to read that of a thing of that class, which was sent or was not
abbrev pub may_read : Grants → Reading → Option (List ℕ) → Bool → Bool
may_read grants reading class is_sent = list_any (is_right (power.Read reading) class is_sent) grants.rights.items

-- the rights allow to carry out a run, step by step or to its end
abbrev pub may_carry_out : Grants → Bool
may_carry_out grants = may_in grants (power.Act kind.RunStep) None || may_in grants power.Resume None
