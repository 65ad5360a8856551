use Rattle.std.proofs.Common.{◌≡◌, ◌+◌, ◌∙◌, ◌++◌, ◌∷◌, [], ℕ, length, length-append, ap, sym, subst, arith}
use Rattle.std.specs.FinMap.{from_entries}
use Rattle.office_tree.specs.ClassIndex.{HaveNumbers, IsOfClass, NumberMap}
use Rattle.office_records.specs.Tree.{code_cmp}
use Rattle.office_tree.proofs.Listed.{ListedTo, each_of, pushed_other}
use Rattle.office_tree.proofs.class_index.class_index_of.Goals.{After-add}
use Rattle.office_tree.proofs.class_index.class_index_of.Goals as goal

-- one more is on no list yet
more : (c : After-add) → c.add.new.self.class.items ≡ c.loop-i.class_index.class_lists.class.items ++ 0 ∷ []
more c = c.add.ensures.class ∙ ap (λ its. its ++ 0 ∷ []) c.make_record_room.ensures.class

many : (c : After-add) → length c.add.new.self.class.items ≡ c.loop-i.i + 1
many c = ap length (more c) ∙ length-append c.loop-i.class_index.class_lists.class.items (0 ∷ []) ∙ ap (λ n. n + 1) c.loop-i.invariant.count

pub reindex-requires-clause-on_list : goal.reindex-requires-clause-on_list
reindex-requires-clause-on_list c = omega (arith, many (goal.at.reindex-requires-clause-on_list c).After-add)

pub loop-i-preserved : goal.loop-i-preserved
loop-i-preserved c =
    let at = (goal.at.loop-i-preserved c).After-add in
    let numbers = from_entries {R = code_cmp} c.loop-i.class_index.numbers.entries in
    let same = c.reindex.ensures.keeps.same in
    let lists : length c.loop-i.class_index.class_lists.first.items ≡ length c.reindex.new.self.class_lists.first.items = sym (c.reindex.ensures.keeps.lists ∙ c.add.ensures.classes ∙ ap length c.make_record_room.ensures.first) in
    let old = c.loop-i.class_index.class_lists.class.items in
    let added = c.add.new.self.class.items in
    let IsRight : ℕ → ℕ → Type 0 = IsOfClass numbers c.args.rows.now.aggregations c.args.rows.now.records in
    subst (λ (them : NumberMap). ListedTo c.args.rows.now.classes c.args.rows.now.aggregations c.args.rows.now.records (c.loop-i.i + 1) them (length c.reindex.new.self.class_lists.first.items) c.reindex.new.self.class_lists.class.items) (λ i. from_entries {R = code_cmp} (sym same i).entries) (record {
      numbers_agree = subst (λ (n : ℕ). HaveNumbers c.args.rows.now.classes numbers n) lists c.loop-i.invariant.numbers_agree;
      count = c.reindex.ensures.listed.count ∙ many at;
      each = each_of IsRight added c.reindex.new.self.class_lists.class.items (c.loop-i.i + 1)
          (λ q k apart e. c.loop-i.invariant.each q k (pushed_other old added 0 (c.loop-i.i + 1) q k (more at) (ap (λ n. n + 1) (sym c.loop-i.invariant.count)) apart e))
          c.reindex.ensures.listed.here c.reindex.ensures.listed.others;
    })
