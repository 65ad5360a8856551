use Rattle.std.proofs.Common.{◌≡◌, ◌*◌, ◌/◌, ◌%◌, ◌<◌, ◌∙◌, length, get_or, ap, eqb, arith, w64, false}
use Rattle.std.proofs.lemmas.List.{get_or_read}
use Rattle.std.proofs.lemmas.Nat.Bits.{bit_at_clear_same, bit_at_clear_other}
use Rattle.std.specs.Int.{bit_at}
use Rattle.office_tree.proofs.BitsLemmas.{length-bits_of, bits_of-set}
use Rattle.office_tree.proofs.bits.Bits.clear.Goals as goal

pub index_mut-requires : goal.index_mut-requires
index_mut-requires c =
    omega (arith, length-bits_of c.self.inside.words.items, ap length c.self.view_is, c.self.inside.words.ok.0)

pub returns : goal.returns
returns c =
    let words = c.self.inside.words.items in
    let within : c.args.index < 64 * length words = omega (arith, length-bits_of words, ap length c.self.view_is) in
    let read : c.index_mut.result.now ≡ get_or words (c.args.index / 64) 0 =
    get_or_read words (c.args.index / 64) _ (omega arith) c.index_mut.ensures.value 0 in
    rw (← c.self.view_is)
    (bits_of-set words c.args.index _ false within
    (ap (λ x. eqb x 1) (bit_at_clear_same w64 c.index_mut.result.now (c.args.index % 64) (omega arith)))
    (λ i small other. bit_at_clear_other w64 c.index_mut.result.now (c.args.index % 64) (omega arith) i small other ∙ ap (λ x. bit_at x i) read))
