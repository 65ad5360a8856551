-- What two files hold is what a crash and an opening that failed leave of them.
use Rattle.std.proofs.Common.{◌≡◌, ◌⊎◌, ◌%◌, ◌∙◌, ◌≤◌, ℕ, IsTrue, List, length, take, Option, Some, None, option_map, refl, sym, ap, subst, inl, inr, arith, eq-eqb, ne_eqb, take_all}
use Rattle.std.proofs.lemmas.Bool.{and_from, cases_Bool, cases_eq}
use Rattle.std.proofs.Math.Logic.{∥∥₁_elim, ∥∥₁_map}
use Rattle.std.proofs.Math.Path.{fun_ext}
use Rattle.sqlite_disk.specs.declared.Disk.{Ghosts}
use Rattle.sqlite_disk.specs.declared.Files.{Files}
use Rattle.sqlite_pool.specs.Stored.{StandsAs, is_among, is_summed, reserved, resealed, sealed, stored_size}
use Rattle.sqlite_pool.proofs.ProbeLemmas.{reserved_word, size_by_file, size_by_log}
use Rattle.sqlite_pool.proofs.ResealLemmas.{adopts_of}
use Rattle.sqlite_pool.proofs.StateLemmas.{clean_is, may_leave_is, size_is_allowed}
use Rattle.sqlite_store.specs.FileStore.{reading, recovers, schema_in, state, view}
use Rattle.sqlite_store.specs.Listing.{IsOurs}
use Rattle.sqlite_store.specs.Unopened.{state_of}
use Rattle.sqlite_store.specs.declared.store.FileStore.{FileStore}
use Rattle.sqlite_trees.specs.Tree.{Trees}
use Rattle.sqlite_trees.specs.View.{IsClean}
use Rattle.sqlite_trees.proofs.Doubt.{no_doubt}
use Rattle.sqlite_wal.specs.Files.{outcomes}
use Rattle.sqlite_wal.specs.Recovery.{Image, IsIgnored}
use Rattle.sqlite_wal.specs.Recovery as raw
use Rattle.sqlite.specs.Files.{HoldsDatabase, IsCleanLeft, IsEmpty, IsNothing, LeavesFiles, NamesSize, SaysSums, image_of}
use Rattle.sqlite.specs.Held.{AreDatabases}
use Rattle.sqlite.specs.declared.file.Leftover.{Leftover}
use Rattle.sqlite.specs.declared.file.Leftover.TheVariants as left
use Rattle.sqlite.proofs.FileLemmas.{is_something}
use Rattle.office_rules.specs.State.{State}
use Rattle.office_life.specs.Standing.{IsKnownAt, NeverLies, Stage, StandsAt, half_made, outcomes_left, remains_of, stage_after, stored, unmade}
use Rattle.office_life.specs.Tables.{ContainTables}
use Rattle.office_life.specs.declared.reports.Remains.TheVariants as remains

-- files that hold tables hold a database
pub database_of : (image : Image) (trees : Trees) → ContainTables image trees → HoldsDatabase image trees
database_of image trees h = (
  h.0,
  h.1,
  record { pages = h.2.pages; wanted = h.2.wanted; schema = h.2.schema; found = adopts_of h.0 image h.2.pages h.2.found; ours = h.2.ours; reads = h.2.reads; sound = h.2.sound },
)

module _ (size : ℕ) (old new : Image) (trees : Trees) (h : ContainTables old trees) where
  large : 504 ≤ h.0
  large = let few : reserved h.0 ≤ 8 = grind arith in omega (arith, h.1.0)

  same_size : NamesSize old (stored_size size) → stored_size h.0 ≡ stored_size size
  same_size named =
      let adopted = adopts_of h.0 old h.2.pages h.2.found in
      elim (cases_eq (stored_size h.0) (stored_size size)) [
        | inl same ↦ same
        | inr other ↦
            let read = λ (seen : ¬ IsIgnored old.log). other (sym (size_by_log h.0 old h.2.pages adopted seen) ∙ sym (named.0 seen)) in
            absurd (read (λ ignored. other (sym (size_by_file h.0 old h.2.pages adopted large h.2.ours.file.sound ignored) ∙ sym (named.1 ignored))))
      ]

  moved : raw.Recovers (stored_size h.0) new h.2.found.stored → ContainTables new trees
  moved now = (
    h.0,
    h.1,
    record {
      pages = h.2.pages;
      wanted = h.2.wanted;
      schema = h.2.schema;
      found = record { stored = h.2.found.stored; found = now; whole = h.2.found.whole; sealed = h.2.found.sealed; shows = h.2.found.shows; present = now.present };
      ours = h.2.ours;
      reads = h.2.reads;
      sound = h.2.sound;
    },
  )

  module _ (same : stored_size h.0 ≡ stored_size size) (sums : IsTrue (is_summed size) → SaysSums (stored_size size) old) where
    sealed_same : (n : ℕ) (bytes : List ℕ) → h.2.found.stored n ≡ Some bytes → sealed (take size bytes) ≡ bytes
    unfolding sealed
    sealed_same n bytes is =
        let len : length bytes ≡ stored_size size = h.2.found.whole.sized n bytes is ∙ same in
        elim (cases_eq (size % 16) 8) [
          | inl on ↦
              let eight : reserved size ≡ 8 = rw (eq-eqb _ 8 on) in
              let summed : IsTrue (is_summed size) = rw eight in
              let adopted = adopts_of h.0 old h.2.pages h.2.found in
              let page = reserved_word h.0 old h.2.pages adopted large h.2.ours.file.sound in
              let word = sym (sums summed adopted.stored page.0 (subst (λ n. raw.Recovers n old adopted.stored) same adopted.found) page.1 (page.2 ∙ same)) ∙ page.3 in
              elim (cases_eq (h.0 % 16) 8) [
                | inl too ↦
                    let eight_too : reserved h.0 ≡ 8 = rw (eq-eqb _ 8 too) in
                    let equal : h.0 ≡ size = omega (arith, same, eight, eight_too) in
                    sym (subst (λ (k : ℕ). bytes ≡ sealed (take k bytes)) equal (h.2.found.sealed n bytes is))
                | inr off ↦ let none : reserved h.0 ≡ 0 = rw (ne_eqb _ 8 off) in absurd (omega (arith, word, none))
              ]
          | inr off ↦
              let all : stored_size size ≡ size = rw (ne_eqb _ 8 off) (omega arith) in
              let len_all : length bytes ≡ size = len ∙ all in
              rw (take_all size bytes (omega (arith, len_all)), len_all, ne_eqb _ 8 off)
        ]

    page_same : (n : ℕ) (page : Option (List ℕ)) → h.2.found.stored n ≡ page → option_map (λ bytes. sealed (take size bytes)) page ≡ page
    page_same n None is = refl
    page_same n (Some bytes) is = ap Some (sealed_same n bytes is)

    resealed_same : (numbers : List ℕ) → resealed size numbers h.2.found.stored ≡ h.2.found.stored
    unfolding resealed
    resealed_same numbers = fun_ext λ n. elim (cases_Bool (is_among numbers n)) [
      | inl among ↦ rw among (page_same n (h.2.found.stored n) refl)
      | inr other ↦ rw other
    ]

  -- what stands as files that hold tables holds them too
  pub stands_same : NamesSize old (stored_size size) → (IsTrue (is_summed size) → SaysSums (stored_size size) old) → StandsAs size old new → ContainTables new trees
  stands_same named sums stands =
      let same = same_size named in
      let before = subst (λ n. raw.Recovers n old h.2.found.stored) same h.2.found.found in
      let back = λ (now : raw.Recovers (stored_size size) new h.2.found.stored). moved (subst (λ n. raw.Recovers n new h.2.found.stored) (sym same) now) in
      elim stands.0 [
        | inl alike ↦ back (alike h.2.found.stored before)
        | inr summed ↦ elim (summed.2 h.2.found.stored before) [
          | inl now ↦ back now
          | inr now ↦ back (subst (raw.Recovers (stored_size size) new) (resealed_same same sums summed.0) now)
        ]
      ]

module _ {D : Type 0} {g : Ghosts D} where
  -- each image that a crash may leave of a store holds tables that the store allows
  pub leaves_tables : (it : FileStore D g) → IsTrue (view it).is_numbered → AreDatabases (recovers it) → (image : Image) → (state it).may_leave image
      → ∥ ((db : Trees) × recovers it db × ContainTables image db) ∥₁
  leaves_tables it numbered sound image may = ∥∥₁_elim it.safe squash₁ (λ all.
      let found = all image may in
      let db = reading it found.0 in
      let allowed : recovers it db = (image, found.0, may, ∣ found.1 ∣₁, refl) in
      let schema = sound db allowed in
      ∥∥₁_elim (size_is_allowed it.pool) squash₁ (λ size. ∥∥₁_map found.2 (λ ours. let r : (x : Trees) × recovers it x × ContainTables image x = (
        db,
        allowed,
        (
          (state it).page_size,
          size,
          record {
            pages = found.0;
            wanted = schema_in it found.0;
            schema = schema.0;
            found = found.1;
            reads = refl;
            sound = schema.1;
            ours = subst (λ b. IsOurs (state it).page_size b (schema_in it found.0) found.0) numbered ours;
          },
        ),
      ) in r)))

module _ {D : Type 0} {g : Ghosts D} (never : NeverLies g) where
  -- a store over disks that never lie is clean
  pub never_dirty : (it : FileStore D g) → IsClean (view it)
  never_dirty it = no_doubt _ (clean_is it.pool ∙ and_from _ _ (never _) (never _))

  pub clean_left : (rest : Leftover D g) → IsCleanLeft rest
  clean_left (left.Files files) = and_from _ _ (never _) (never _)
  clean_left (left.Unopened now) = clean_is now.pool ∙ and_from _ _ (never _) (never _)
  clean_left (left.Store it) = clean_is it.pool ∙ and_from _ _ (never _) (never _)

module _ {D : Type 0} (g : Ghosts D) (never : NeverLies g) where
  -- what a crash leaves of files that were not opened: what it left before, or what stands for the same state
  abbrev pub IsSpared : Files D → Stage → Stage → Image → Type 0
  IsSpared files was is image = outcomes g files.log files.db image ⊎ ((s : State) → StandsAt was (image_of g files) s → ∥ StandsAt is image s ∥₁)

  -- a file was being made, where there was none
  under_way : (files : Files D) (stage : Stage) → IsKnownAt stage remains.Begun → IsNothing (image_of g files) → (image : Image)
      → IsNothing image ⊎ ∥ ((db : Trees) × HoldsDatabase image db × IsEmpty db) ∥₁ → (s : State) → StandsAt stage (image_of g files) s → ∥ StandsAt (stage_after stage remains.Begun) image s ∥₁
  under_way files stage known nothing image made s (inl held) = absurd (is_something (image_of g files) held.0 (database_of _ held.0 held.1) nothing)
  under_way files stored known nothing image made s (inr none) = absurd none.0
  under_way files unmade known nothing image (inl still) s (inr none) = ∣ inr (inl still, none.1) ∣₁
  under_way files unmade known nothing image (inr some) s (inr none) = ∥∥₁_map some (λ begun. inr (inr begun, none.1))
  under_way files half_made known nothing image made s (inr none) = absurd known

  -- files that held tables hold them still
  still_held : (files : Files D) (size : ℕ) (stage : Stage) → IsKnownAt stage remains.Begun → ¬ IsNothing (image_of g files) → NamesSize (image_of g files) (stored_size size)
      → (IsTrue (is_summed size) → SaysSums (stored_size size) (image_of g files)) → (image : Image) → StandsAs size (image_of g files) image
      → (s : State) → StandsAt stage (image_of g files) s → ∥ StandsAt (stage_after stage remains.Begun) image s ∥₁
  still_held files size stage known some named sums image stands s (inl held) = ∣ inl (held.0, stands_same size (image_of g files) image held.0 held.1 named sums stands, held.2) ∣₁
  still_held files size stored known some named sums image stands s (inr none) = absurd none.0
  still_held files size unmade known some named sums image stands s (inr none) = absurd (some none.0)
  still_held files size half_made known some named sums image stands s (inr none) = absurd known

  -- what an opening that failed left of the files
  pub spared : (files : Files D) (rest : Leftover D g) → LeavesFiles files rest → (stage : Stage) → IsKnownAt stage (remains_of rest)
      → (image : Image) → outcomes_left rest image → IsSpared files stage (stage_after stage (remains_of rest)) image
  spared files (left.Files now) leaves stage known image may = inl (leaves image may)
  spared files (left.Unopened now) (inl nothing) stage known image may =
      elim (nothing.1 image (may_leave_is now.pool image (and_from _ _ (never _) (never _)) may)) [
        | inl was ↦ inl was
        | inr made ↦ inr (under_way files stage known nothing.0 image made)
      ]
  spared files (left.Unopened now) (inr some) stage known image may =
      let kept = some.4 image (may_leave_is now.pool image (and_from _ _ (never _) (never _)) may) in
      elim kept.same [
        | inl was ↦ inl was
        | inr stands ↦ inr (still_held files (state_of now).page_size stage known some.0 some.1 some.3 image stands)
      ]
  spared files (left.Store now) leaves stage known image may = absurd known
