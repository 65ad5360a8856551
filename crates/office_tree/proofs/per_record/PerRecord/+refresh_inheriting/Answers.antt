use Rattle.std.proofs.Common.{◌∙◌, ℕ, sym, subst, arith}
use Rattle.std.specs.FinMap.{from_entries}
use Rattle.office_tree.specs.ClassIndex.{IsOfClass, NumberMap}
use Rattle.office_tree.specs.ChildLists.{IsLastBelow, parents_of}
use Rattle.office_tree.specs.Derived.{KeepsNumbers}
use Rattle.office_tree.specs.Inheriting.{inherits_from}
use Rattle.office_tree.specs.RecordCaches.{IsRecordCache}
use Rattle.office_tree.specs.Stored.{AreDone}
use Rattle.office_records.specs.Tree.{code_cmp}
use Rattle.office_tree.specs.declared.per_record.PerRecord.{PerRecord}
use Rattle.office_tree.specs.declared.record_cache.RecordCache.{RecordCache}
use Rattle.office_tree.proofs.InheritingChildren.{AreRenewedAbove, renewed_all, renewed_last, renewed_next, renewed_skip}
use Rattle.office_records.proofs.Reading.{aggregation_within}
use Rattle.office_tree.proofs.per_record.PerRecord.+refresh_inheriting.Goals.{then-not-has_own_class, else-not-has_own_class, After-before-child}
use Rattle.office_tree.proofs.per_record.PerRecord.+refresh_inheriting.Goals as goal

pub loop-child-init : goal.loop-child-init
loop-child-init t c =
    let rows = c.args.rows.now in
    let last = c.requires.ready.aggregations_in.lasts c.args.from c.last-child.result c.last-child.ensures in
    record {
      looks = renewed_last (IsRecordCache c.args.directory.now.schedule_numbers rows) rows.records rows.aggregations c.args.from c.last-child.result c.args.self.now.record_caches.rows.items c.refresh_records_in.new.self.rows.items c.refresh_records_in.ensures.count c.refresh_records_in.ensures.done last;
      keeps = c.reindex_records_in.ensures.keeps;
      classes =
          renewed_last (IsOfClass (from_entries {R = code_cmp} c.args.self.now.class_index.numbers.entries) rows.aggregations rows.records) rows.records rows.aggregations c.args.from c.last-child.result c.args.self.now.class_index.class_lists.class.items c.reindex_records_in.new.self.class_lists.class.items
          c.reindex_records_in.ensures.listed.count c.reindex_records_in.ensures.listed.done last;
    }

-- the child before
before : (t : ℕ) (c : After-before-child t) → IsLastBelow (parents_of c.args.rows.now.aggregations) c.args.from c.loop-child.child c.before-child.result
before t c =
    c.requires.ready.aggregations_in.befores c.loop-child.child c.args.from c.before-child.result (aggregation_within c.args.rows.now c.args.from c.requires.there).0
    (c.loop-child.invariant.looks.there (omega (arith, c.loop-child-test.true))) c.before-child.ensures

pub loop-child-smaller : goal.loop-child-smaller
loop-child-smaller t c = (before t (goal.at.loop-child-smaller t c).After-before-child).below

pub loop-child-preserved : goal.loop-child-preserved
loop-child-preserved t c =
    let rows = c.args.rows.now in
    let xs = rows.aggregations in
    let IsRight : ℕ → RecordCache → Type 0 = IsRecordCache c.args.directory.now.schedule_numbers rows in
    let IsClassed : ℕ → ℕ → Type 0 = IsOfClass (from_entries {R = code_cmp} c.args.self.now.class_index.numbers.entries) xs rows.records in
    let old = c.args.self.now.record_caches.rows.items in
    let of = c.args.self.now.class_index.class_lists.class.items in
    let before_is = before t (goal.at.loop-child-preserved t c).After-before-child in
    let so_far = c.loop-child.invariant in
    elim c.if-not-has_own_class.branch [
      | then-not-has_own_class w ↦
          let same = so_far.keeps.same in
          let now = w.refresh_inheriting.new.self in
          let renewed = w.refresh_inheriting.ensures in
          let done = subst (λ (numbers : NumberMap). AreDone (IsOfClass numbers xs rows.records) rows.records (inherits_from xs c.loop-child.child) c.loop-child.self.class_index.class_lists.class.items now.class_index.class_lists.class.items)
          (λ i. from_entries {R = code_cmp} (same i).entries) renewed.listed.done in
          record {
            looks =
                subst (λ (those : PerRecord). AreRenewedAbove IsRight rows.records xs c.args.from c.before-child.result old those.record_caches.rows.items) (sym w.self-is)
                (renewed_next IsRight rows.records xs c.args.from c.loop-child.child c.before-child.result old c.loop-child.self.record_caches.rows.items now.record_caches.rows.items so_far.looks renewed.caches.count renewed.caches.done before_is);
            keeps =
                subst (λ (those : PerRecord). KeepsNumbers c.args.self.now.class_index those.class_index) (sym w.self-is)
                (record { same = renewed.keeps.same ∙ same; lists = renewed.keeps.lists ∙ so_far.keeps.lists });
            classes =
                subst (λ (those : PerRecord). AreRenewedAbove IsClassed rows.records xs c.args.from c.before-child.result of those.class_index.class_lists.class.items) (sym w.self-is)
                (renewed_next IsClassed rows.records xs c.args.from c.loop-child.child c.before-child.result of c.loop-child.self.class_index.class_lists.class.items now.class_index.class_lists.class.items so_far.classes renewed.listed.count done before_is);
          }
      | else-not-has_own_class w ↦
          let own = sym c.has_own_class.ensures ∙ w.if-not-has_own_class.false in
          record {
            looks =
                subst (λ (those : PerRecord). AreRenewedAbove IsRight rows.records xs c.args.from c.before-child.result old those.record_caches.rows.items) (sym w.self-is)
                (renewed_skip IsRight rows.records xs c.args.from c.loop-child.child c.before-child.result old c.loop-child.self.record_caches.rows.items so_far.looks own before_is);
            keeps = subst (λ (those : PerRecord). KeepsNumbers c.args.self.now.class_index those.class_index) (sym w.self-is) so_far.keeps;
            classes =
                subst (λ (those : PerRecord). AreRenewedAbove IsClassed rows.records xs c.args.from c.before-child.result of those.class_index.class_lists.class.items) (sym w.self-is)
                (renewed_skip IsClassed rows.records xs c.args.from c.loop-child.child c.before-child.result of c.loop-child.self.class_index.class_lists.class.items so_far.classes own before_is);
          }
    ]

pub returns : goal.returns
returns t c =
    let rows = c.args.rows.now in
    let so_far = c.loop-child.invariant in
    record {
      caches = record {
        count = so_far.looks.count;
        done = renewed_all (IsRecordCache c.args.directory.now.schedule_numbers rows) rows.records rows.aggregations c.args.from c.loop-child.child c.args.self.now.record_caches.rows.items c.loop-child.self.record_caches.rows.items so_far.looks (omega (arith, c.loop-child-test.false));
      };
      keeps = so_far.keeps;
      listed = record {
        count = so_far.classes.count;
        done = renewed_all (IsOfClass (from_entries {R = code_cmp} c.args.self.now.class_index.numbers.entries) rows.aggregations rows.records) rows.records rows.aggregations c.args.from c.loop-child.child c.args.self.now.class_index.class_lists.class.items c.loop-child.self.class_index.class_lists.class.items so_far.classes (omega (arith, c.loop-child-test.false));
      };
    }
