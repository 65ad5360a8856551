use Rattle.std.proofs.Common.{◌≡◌, ◌∙◌, Some, length, ap, sym}
use Rattle.std.specs.FinMap.{from_entries, get}
use Rattle.std.specs.Option.{option_and_then}
use Rattle.office_records.specs.Lists.{numbered}
use Rattle.office_records.specs.Tree.{class_in, class_of, code_cmp}
use Rattle.office_tree.proofs.Puts.{put_here, put_kept}
use Rattle.office_records.proofs.Putting.{length-put}
use Rattle.office_records.proofs.Reading.{record_within}
use Rattle.office_tree.proofs.ScheduleLemmas.{class_there}
use Rattle.office_tree.proofs.class_index.ClassIndex.reindex.Goals.{After-class_in-class}
use Rattle.office_tree.proofs.class_index.ClassIndex.reindex.Goals as goal

-- the class that was found is the record's
classed : (c : After-class_in-class) → class_in c.args.rows.now.aggregations c.args.rows.now.records c.args.record_no ≡ Some c.class_in-class.result.now
classed c = ap (λ t. class_of t c.args.record_no) (sym c.rows.view_is) ∙ c.class_in-class.ensures

pub number_of-number-requires : goal.number_of-number-requires
number_of-number-requires c =
    let tree = c.args.rows.now in
    let code = c.class_in-class.result.now in
    c.requires.numbers.each code (class_there tree.schedules tree.classes tree.aggregations tree.records c.args.record_no code c.requires.sound.names (classed (goal.at.number_of-number-requires c).After-class_in-class))

pub returns-clause-listed : goal.returns-clause-listed
returns-clause-listed c =
    let within = record_within c.args.rows.now c.args.record_no c.requires.there in
    let old = c.args.self.now.class_lists.class.items in
    record {
      count = ap length c.put.ensures.class ∙ length-put old c.args.record_no c.number_of-number.result c.requires.on_list;
      here = λ k e.
          let is : Some c.number_of-number.result ≡ Some k = sym (put_here old c.args.record_no c.number_of-number.result within.0 c.requires.on_list) ∙ sym (ap (λ its. numbered its c.args.record_no) c.put.ensures.class) ∙ e in
          ap (option_and_then (get (from_entries {R = code_cmp} c.args.self.now.numbers.entries))) (classed (goal.at.returns-clause-listed c).After-class_in-class) ∙ c.number_of-number.ensures ∙ is;
      others = λ q other. ap (λ its. numbered its q) c.put.ensures.class ∙ put_kept old c.args.record_no c.number_of-number.result q c.requires.on_list other;
    }
