use Rattle.std.proofs.Common.{◌∙◌, ◌≡◌, ◌-◌, ◌++◌, ◌∷◌, [], length, set, ap, arith}
use Rattle.std.proofs.Math.Seq.{set-append_seam}
use Rattle.std.proofs.lemmas.List.{length_push}
use Rattle.office_tree.proofs.record_caches.RecordCaches.add.Goals as goal

pub returns : goal.returns
returns c =
    let old = c.args.self.now.rows.items in
    let fresh = c.push.ensures.0 in
    let pushed : c.push.new.self.rows.items ≡ old ++ fresh ∷ [] = c.push.ensures.1 ∙ ap (λ its. its ++ fresh ∷ []) c.in_ok-make_room.ensures.rows in
    let last : c.len-record_no.result - 1 ≡ length old = omega (arith, c.len-record_no.ensures, ap length pushed, length_push old fresh) in
    c.put.ensures
    ∙ ap (λ its. set its (c.len-record_no.result - 1) c.args.record_cache) pushed
    ∙ ap (λ i. set (old ++ fresh ∷ []) i c.args.record_cache) last
    ∙ set-append_seam old fresh [] c.args.record_cache
