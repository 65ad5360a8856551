-- What the laws say of an act and of its note. Source: own.
use Rattle.std.specs.Prelude.{◌≡◌, ◌<◌, ℕ, true, List, [], ◌∷◌, length, Option, Some, None}
use Rattle.std.specs.List.{All, AllByRecursion}
use Rattle.sha2.specs.Sha256.{sha256}
use Rattle.office_json.specs.Parts.{is_thing_number}
use Rattle.office_records.specs.Forms.{IsDigest}
use Rattle.office_records.specs.declared.classified.Classified.{Classified}
use Rattle.office_records.specs.declared.classified.Classified.TheVariants as classified
use Rattle.office_records.specs.declared.target.Target.{Target}
use Rattle.office_records.specs.declared.target.Target.TheVariants as target
use Rattle.office_rules.specs.Forms.{IsWellFormedAct}
use Rattle.office_rules.specs.declared.act.Act.{Act}
use Rattle.office_rules.specs.declared.act.Act.TheVariants as act

-- ---- an act that can be read

abbrev pub classified_numbers : Classified → List ℕ
classified_numbers (classified.Aggregation n) = n ∷ []
classified_numbers (classified.Record n) = n ∷ []

abbrev pub target_numbers : Target → List ℕ
target_numbers (target.Class code) = []
target_numbers (target.Aggregation n) = n ∷ []
target_numbers (target.Record n) = n ∷ []

abbrev pub parent_numbers : Option ℕ → List ℕ
parent_numbers None = []
parent_numbers (Some n) = n ∷ []

-- the numbers of aggregations and records that an act names
abbrev pub numbers_of : Act → List ℕ
numbers_of (act.AddAggregation day ref_text title parent class) = parent_numbers parent
numbers_of (act.CloseAggregation day aggregation) = aggregation ∷ []
numbers_of (act.AddRecord day ref_text title originated aggregation class schedule content) = aggregation ∷ []
numbers_of (act.SetRecordSchedule day record_no schedule) = record_no ∷ []
numbers_of (act.Reclassify day what class) = classified_numbers what
numbers_of (act.HoldOn day hold what) = target_numbers what
numbers_of (act.HoldOff day hold what) = target_numbers what
numbers_of (act.Confirm day record_no action by) = record_no ∷ []
numbers_of (act.Review day record_no schedule by) = record_no ∷ []
numbers_of (act.Receipt day record_no digest by) = record_no ∷ []
numbers_of (act.Event day record_no occurred by) = record_no ∷ []
numbers_of _ = []

-- each number that an act names is from 1 to 4,294,967,295
abbrev pub AreThingNumbers : List ℕ → Type 0
AreThingNumbers numbers = AllByRecursion (λ n. is_thing_number n ≡ true) numbers

-- the bytes of a content are bytes, and a digest has 32
abbrev pub HasBytes : Act → Type 0
HasBytes (act.AddRecord day ref_text title originated aggregation class schedule content) = All (λ b. b < 256) content
HasBytes (act.Receipt day record_no digest by) = IsDigest digest
HasBytes _ = Unit {0}

-- an act that can be read. The types of the code see to the first two, and whoever reads an act to the numbers
pub record IsReadable (a : Act) : Type 0 where
  pub formed : IsWellFormedAct a
  pub bytes : HasBytes a
  pub numbers : AreThingNumbers (numbers_of a)

-- ---- an act up to its content

-- the act with no bytes in its content
abbrev pub emptied : Act → Act
emptied (act.AddRecord day ref_text title originated aggregation class schedule content) =
    act.AddRecord day ref_text title originated aggregation class schedule []
emptied a = a

-- the content of an act that has one
abbrev pub content_in : Act → Option (List ℕ)
content_in (act.AddRecord day ref_text title originated aggregation class schedule content) = Some content
content_in _ = None

-- both contents have one length and one SHA-256, or there is none
abbrev pub AreAlike : Option (List ℕ) → Option (List ℕ) → Type 0
AreAlike None None = Unit {0}
AreAlike None (Some d) = ⊥
AreAlike (Some c) None = ⊥
AreAlike (Some c) (Some d) = (length c ≡ length d) × (sha256 c ≡ sha256 d)

-- two acts are the same, up to a content of the same length and SHA-256
abbrev pub IsSameButContent : Act → Act → Type 0
IsSameButContent a b = (emptied a ≡ emptied b) × AreAlike (content_in a) (content_in b)

-- the same of two lists, act by act
abbrev pub AreSameButContents : List Act → List Act → Type 0
AreSameButContents [] [] = Unit {0}
AreSameButContents [] (b ∷ others) = ⊥
AreSameButContents (a ∷ more) [] = ⊥
AreSameButContents (a ∷ more) (b ∷ others) = IsSameButContent a b × AreSameButContents more others
