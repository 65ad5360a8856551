-- Acts with the same note are the same, up to a content of the same length and SHA-256.
use Rattle.std.proofs.Common.{◌≡◌, ◌∙◌, ap, sym, refl, ℕ, ◌<◌, List, [], ◌∷◌, codes, cond, length, map, Option, Some, None, Ok, Result, option_map, arith}
use Rattle.std.specs.List.{All, AllByRecursion}
use Rattle.std.specs.Str.{bytes_eq}
use Rattle.hex.specs.Hex.{encode_lower}
use Rattle.serde_json.proofs.OnLiterals.{serde_json_on_literals}
use Rattle.serde_json.specs.Data.{Data, null, boolean, number, string, array, object, Items, no_items, item, Members, no_members, member, unsigned}
use Rattle.serde_json.specs.Find.{get}
use Rattle.serde_json.specs.Read.{read}
use Rattle.serde_json.specs.View.{items_of}
use Rattle.sha2.specs.Sha256.{sha256}
use Rattle.office_base.specs.declared.refusal.Refusal.{Refusal}
use Rattle.office_json.specs.Acts.{parsed_act}
use Rattle.office_notes.specs.Acts.{content_data, content_note, noted, notes, whole}
use Rattle.office_notes.specs.Laws.{AreAlike, AreSameButContents, IsReadable, IsSameButContent, content_in, emptied}
use Rattle.office_notes.proofs.Readings.{read_back}
use Rattle.office_rules.proofs.Digests.{IsDigest-sha256}
use Rattle.office_rules.proofs.ReadDigests.{named_some}
use Rattle.office_rules.specs.Digits.{digest_named}
use Rattle.office_rules.specs.declared.act.Act.{Act}
use Rattle.office_rules.specs.declared.act.Act.TheVariants as act

-- ---- the note without the content

abbrev clear : Members → Members
clear no_members = no_members
clear (member name value rest) = member name (cond (bytes_eq name (codes "content")) (content_data []) value) (clear rest)

-- an object whose content, if it has one, has no bytes
abbrev cleared : Data → Data
cleared null = null
cleared (boolean b) = boolean b
cleared (number n) = number n
cleared (string text) = string text
cleared (array items) = array items
cleared (object rest) = object (clear rest)

whole_emptied : (a : Act) → whole (emptied a) ≡ cleared (noted a)
unfolding serde_json_on_literals
whole_emptied (act.AddSchedule day code trigger period offset action) = refl
whole_emptied (act.AddClass day code title schedule) = refl
whole_emptied (act.SetClassSchedule day class schedule) = refl
whole_emptied (act.AddAggregation day ref_text title parent class) = refl
whole_emptied (act.CloseAggregation day aggregation) = refl
whole_emptied (act.AddRecord day ref_text title originated aggregation class schedule content) = refl
whole_emptied (act.SetRecordSchedule day record_no schedule) = refl
whole_emptied (act.Reclassify day what class) = refl
whole_emptied (act.PlaceHold day code reason by) = refl
whole_emptied (act.HoldOn day hold what) = refl
whole_emptied (act.HoldOff day hold what) = refl
whole_emptied (act.LiftHold day hold) = refl
whole_emptied (act.Confirm day record_no action by) = refl
whole_emptied (act.Review day record_no schedule by) = refl
whole_emptied (act.Receipt day record_no digest by) = refl
whole_emptied (act.Event day record_no occurred by) = refl
whole_emptied (act.OpenRun day by) = refl
whole_emptied act.RunStep = refl

-- an act without the bytes of its content can be read
emptied_readable : (a : Act) → IsReadable a → IsReadable (emptied a)
emptied_readable (act.AddSchedule day code trigger period offset action) h = h
emptied_readable (act.AddClass day code title schedule) h = h
emptied_readable (act.SetClassSchedule day class schedule) h = h
emptied_readable (act.AddAggregation day ref_text title parent class) h = h
emptied_readable (act.CloseAggregation day aggregation) h = h
emptied_readable (act.AddRecord day ref_text title originated aggregation class schedule content) h =
    let it = h.formed.1 in
    record {
      formed = (
        h.formed.0,
        record {
          ref_text = it.ref_text;
          title = it.title;
          originated = it.originated;
          class = it.class;
          schedule = it.schedule;
          content_few = omega arith;
        },
      );
      bytes = no_bytes;
      numbers = h.numbers;
    }
  where
    no_bytes : All (λ b. b < 256) []
    no_bytes k d within = absurd (omega arith)
emptied_readable (act.SetRecordSchedule day record_no schedule) h = h
emptied_readable (act.Reclassify day what class) h = h
emptied_readable (act.PlaceHold day code reason by) h = h
emptied_readable (act.HoldOn day hold what) h = h
emptied_readable (act.HoldOff day hold what) h = h
emptied_readable (act.LiftHold day hold) h = h
emptied_readable (act.Confirm day record_no action by) h = h
emptied_readable (act.Review day record_no schedule by) h = h
emptied_readable (act.Receipt day record_no digest by) h = h
emptied_readable (act.Event day record_no occurred by) h = h
emptied_readable (act.OpenRun day by) h = h
emptied_readable act.RunStep h = h

same_read : (a b : Act) (x y : Data) → parsed_act x ≡ Ok a → parsed_act y ≡ Ok b → x ≡ y → a ≡ b
same_read a b x y h k e =
    let accepted : Act → Result Act Refusal = λ it. Ok it in
    let both : accepted a ≡ accepted b = sym h ∙ ap parsed_act e ∙ k in
    cc

same_emptied : (a b : Act) → IsReadable a → IsReadable b → noted a ≡ noted b → emptied a ≡ emptied b
same_emptied a b h k e =
    let same : whole (emptied a) ≡ whole (emptied b) = whole_emptied a ∙ ap cleared e ∙ sym (whole_emptied b) in
    same_read (emptied a) (emptied b) (whole (emptied a)) (whole (emptied b)) (read_back (emptied a) (emptied_readable a h)) (read_back (emptied b) (emptied_readable b k)) same

-- ---- the note of the content

note_in : (a : Act) → get (codes "content") (noted a) ≡ option_map content_note (content_in a)
unfolding serde_json_on_literals
note_in (act.AddSchedule day code trigger period offset action) = refl
note_in (act.AddClass day code title schedule) = refl
note_in (act.SetClassSchedule day class schedule) = refl
note_in (act.AddAggregation day ref_text title parent class) = refl
note_in (act.CloseAggregation day aggregation) = refl
note_in (act.AddRecord day ref_text title originated aggregation class schedule content) = refl
note_in (act.SetRecordSchedule day record_no schedule) = refl
note_in (act.Reclassify day what class) = refl
note_in (act.PlaceHold day code reason by) = refl
note_in (act.HoldOn day hold what) = refl
note_in (act.HoldOff day hold what) = refl
note_in (act.LiftHold day hold) = refl
note_in (act.Confirm day record_no action by) = refl
note_in (act.Review day record_no schedule by) = refl
note_in (act.Receipt day record_no digest by) = refl
note_in (act.Event day record_no occurred by) = refl
note_in (act.OpenRun day by) = refl
note_in act.RunStep = refl

-- the digits of two digests tell them apart
same_digest : (c d : List ℕ) → encode_lower (sha256 c) ≡ encode_lower (sha256 d) → sha256 c ≡ sha256 d
same_digest c d e =
    let one = named_some (encode_lower (sha256 c)) (sha256 c) (IsDigest-sha256 c) refl in
    let other = named_some (encode_lower (sha256 d)) (sha256 d) (IsDigest-sha256 d) refl in
    let both : Some (sha256 c) ≡ Some (sha256 d) = one ∙ ap digest_named e ∙ sym other in cc

some_data : (n m : ℕ) → Some (number (unsigned n)) ≡ Some (number (unsigned m)) → n ≡ m
some_data n m e = cc

some_text : (s t : List ℕ) → Some (string s) ≡ Some (string t) → s ≡ t
some_text s t e = cc

same_content : (c d : List ℕ) → content_note c ≡ content_note d → (length c ≡ length d) × (sha256 c ≡ sha256 d)
unfolding serde_json_on_literals
same_content c d e = (
  some_data (length c) (length d) (ap (get (codes "bytes")) e),
  same_digest c d (some_text (encode_lower (sha256 c)) (encode_lower (sha256 d)) (ap (get (codes "sha256")) e)),
)

alike : (x y : Option (List ℕ)) → option_map content_note x ≡ option_map content_note y → AreAlike x y
alike None None e = tt
alike None (Some d) e = absurd cc
alike (Some c) None e = absurd cc
alike (Some c) (Some d) e = same_content c d (some_same (content_note c) (content_note d) e)
  where
    some_same : (x y : Data) → Some x ≡ Some y → x ≡ y
    some_same x y e = cc

pub same_but_content : (a b : Act) → IsReadable a → IsReadable b → noted a ≡ noted b → IsSameButContent a b
same_but_content a b h k e =
    (same_emptied a b h k e, alike (content_in a) (content_in b) (sym (note_in a) ∙ ap (get (codes "content")) e ∙ note_in b))

-- ---- lists

same_lists : (acts others : List Act) → AllByRecursion IsReadable acts → AllByRecursion IsReadable others → map noted acts ≡ map noted others
    → AreSameButContents acts others
same_lists [] [] h k e = tt
same_lists [] (b ∷ others) h k e = absurd cc
same_lists (a ∷ acts) [] h k e = absurd cc
same_lists (a ∷ acts) (b ∷ others) h k e =
    let parts = same_parts (noted a) (noted b) (map noted acts) (map noted others) e in
    (same_but_content a b h.0 k.0 parts.0, same_lists acts others h.1 k.1 parts.1)
  where
    same_parts : (x y : Data) (xs ys : List Data) → x ∷ xs ≡ y ∷ ys → (x ≡ y) × (xs ≡ ys)
    same_parts x y xs ys e = (cc, cc)

-- the values of an array
abbrev listed : Items → List Data
listed no_items = []
listed (item d rest) = d ∷ listed rest

listed_back : (ds : List Data) → listed (items_of ds) ≡ ds
listed_back [] = refl
listed_back (d ∷ ds) = ap (λ (rest : List Data). d ∷ rest) (listed_back ds)

same_items : (x y : Items) → Some (array x) ≡ Some (array y) → x ≡ y
same_items x y e = cc

pub same_text : (text : List ℕ) (acts others : List Act) → AllByRecursion IsReadable acts → AllByRecursion IsReadable others → read text ≡ Some (notes acts)
    → read text ≡ Some (notes others) → AreSameButContents acts others
same_text text acts others h k e f =
    let same = same_items (items_of (map noted acts)) (items_of (map noted others)) (sym e ∙ f) in
    same_lists acts others h k (sym (listed_back (map noted acts)) ∙ ap listed same ∙ listed_back (map noted others))
