-- What an opening finds where there was no database: no rows at all.
use Rattle.std.proofs.Common.{◌≡◌, ◌*◌, ◌-◌, ◌∙◌, ◌≤◌, ℕ, List, [], length, take, slice_index, Option, Some, unwrap_or, refl, sym, ap, inl, inr, arith, ◌<◌, get_or-take, length-take}
use Rattle.std.proofs.Math.Logic.{∥∥₁_elim}
use Rattle.sqlite_pages.specs.PageMap.{PageMap}
use Rattle.sqlite_pool.specs.File.{IsSoundFile, header_in}
use Rattle.sqlite_pool.specs.Opening.{IsBlankFile}
use Rattle.sqlite_pool.specs.Stored.{Adopts, stored_size}
use Rattle.sqlite_pool.specs.StoredLaws.{trimmed_some}
use Rattle.sqlite_pool.proofs.ProbeLemmas.{first_byte}
use Rattle.sqlite_wal.specs.Format.{part}
use Rattle.sqlite_wal.specs.Recovery.{Image, pages_after}
use Rattle.sqlite_wal.proofs.AppendLemmas.{page_from_pages, some_value}
use Rattle.sqlite_wal.proofs.PartLemmas.{part_within, slice_index-part}
use Rattle.sqlite_wal.proofs.RecoveryLemmas.{replays_once}
use Rattle.sqlite_trees.specs.Tree.{Trees}
use Rattle.sqlite.specs.Files.{AreFoundIn, IsEmpty, IsNothing}

module _ (size : ℕ) (image : Image) (pages : PageMap) (found : Adopts size image pages) (sound : IsSoundFile size pages) where
  -- a page has room for the first bytes of a header
  roomy : 16 ≤ size
  roomy =
      let (page, is) = some_value (found.stored 1) found.whole.first in
      let used : pages 1 ≡ Some (take size page) = ap (λ (p : PageMap). p 1) (sym found.shows) ∙ trimmed_some size _ 1 page is in
      let head : header_in pages ≡ take 100 (take size page) = ap (λ (o : Option (List ℕ)). take 100 (unwrap_or o [])) used in
      let magic : length (take 16 (take 100 (take size page))) ≡ 16 = ap (λ (b : List ℕ). length (take 16 b)) (sym head) ∙ ap length sound.header.0.magic in
      omega (arith, magic, length-take 16 (take 100 (take size page)), length-take 100 (take size page), length-take size page)

  -- which a file with no frame to replay begins with
  begins : found.found.frames ≡ 0 → (16 ≤ length image.db) × (slice_index image.db 0 ≡ 83)
  begins none =
      let whole = stored_size size in
      let raw = found.found in
      let (page, is) = some_value (found.stored 1) found.whole.first in
      let alone : pages_after whole image.log image.db 0 1 ≡ Some page = ap (λ (p : PageMap). p 1) (ap (pages_after whole image.log image.db) (sym none) ∙ raw.gives) ∙ is in
      let start : (1 - 1) * whole ≡ 0 = omega arith in
      let front : part image.db 0 whole ≡ page = ap (λ (at : ℕ). part image.db at whole) (sym start) ∙ (page_from_pages whole image.log image.db 0 1 page alone).0 in
      let room = roomy in
      let long = part_within image.db 0 whole (omega arith) (ap length front ∙ found.whole.sized 1 page is) in
      let used : pages 1 ≡ Some (take size page) = ap (λ (p : PageMap). p 1) (sym found.shows) ∙ trimmed_some size _ 1 page is in
      let head : header_in pages ≡ take 100 (take size (part image.db 0 whole)) = ap (λ (o : Option (List ℕ)). take 100 (unwrap_or o [])) used ∙ ap (λ (b : List ℕ). take 100 (take size b)) (sym front) in
      let byte : slice_index (header_in pages) 0 ≡ slice_index image.db 0 =
      ap (λ (b : List ℕ). slice_index b 0) head ∙ get_or-take 100 (take size (part image.db 0 whole)) 0 0 (omega arith) ∙ get_or-take size (part image.db 0 whole) 0 0 (omega arith)
      ∙ slice_index-part image.db 0 whole 0 (omega arith) in
      let magic : slice_index (header_in pages) 0 ≡ 83 = sym (get_or-take 16 (header_in pages) 0 0 (omega arith)) ∙ ap (λ (b : List ℕ). slice_index b 0) sound.header.0.magic in
      (omega arith, sym byte ∙ magic)

  not_blank : (other : ℕ) → 0 < other → ¬ IsBlankFile other image
  not_blank other some (inl none) = omega (arith, found.found.present)
  not_blank other some (inr blank) =
      let raw = found.found in
      let none : raw.frames ≡ 0 = elim blank.0 [
        | inl ignored ↦ replays_once (stored_size size) image.log raw.frames 0 raw.replays (inl (ignored.0, refl))
        | inr taken ↦ elim raw.replays [
          | inl ignored ↦ ignored.1
          | inr ours ↦ replays_once (stored_size size) image.log raw.frames 0 raw.replays (rw (sym ours.0.head.size ∙ taken.0.head.size) blank.0)
        ]
      ] in
      let (long, byte) = begins none in
      elim blank.1.0 [
        | inl short ↦ omega arith
        | inr more ↦ elim more [ inl zero' ↦ omega (arith, zero'.1) | inr rest ↦ rest.1 (byte ∙ sym (first_byte other some)) ]
      ]

-- no rows are found in files with no database
pub finds_nothing : (image : Image) (db : Trees) → IsNothing image → AreFoundIn image db → IsEmpty db
finds_nothing image db nothing (inr none) = none.1
finds_nothing image db nothing (inl some) =
    absurd (∥∥₁_elim some.4 (λ a b. absurd a) (λ ours.
    let never = not_blank some.0 image some.1 some.3 ours.file.sound in
    elim nothing [ inl plain ↦ never _ (omega arith) plain | inr summed ↦ never _ (omega arith) summed ]))
