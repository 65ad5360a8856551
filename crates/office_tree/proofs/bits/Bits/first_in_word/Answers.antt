use Rattle.std.proofs.Common.{◌/◌, arith, rules}
use Rattle.std.proofs.lemmas.List.{get_or_read}
use Rattle.office_tree.proofs.BitsLemmas.{none_past, none_left, first_inside, first_found}
use Rattle.office_tree.proofs.bits.Bits.first_in_word.Goals as goal

pub returns-then-from-len-clause-none : goal.returns-then-from-len-clause-none
returns-then-from-len-clause-none c =
    rw (← c.self.view_is)
    (none_past c.self.inside.words.items c.args.from (omega (arith, c.len.ensures, c.self.inside.words.ok.0, c.if-from-len.true)))

pub returns-then-left-eq0-clause-none : goal.returns-then-left-eq0-clause-none
returns-then-left-eq0-clause-none c =
    rw (← c.self.view_is)
    (none_left c.self.inside.words.items c.args.from c.index.result.now
    (get_or_read c.self.inside.words.items (c.args.from / 64) c.index.result.now (omega (arith, c.len.ensures, c.self.inside.words.ok.0, c.if-from-len.false)) c.index.ensures 0)
    c.if-left-eq0.true)

pub overflow_add-result : goal.overflow_add-result
overflow_add-result c =
    let inside = first_inside c.self.inside.words.items c.args.from c.index.result.now
    (get_or_read c.self.inside.words.items (c.args.from / 64) c.index.result.now (omega (arith, c.len.ensures, c.self.inside.words.ok.0, c.if-from-len.false)) c.index.ensures 0)
    (omega arith) (search rules) in
    omega (arith, inside, c.len.ensures, c.self.inside.words.ok.0, c.self.inside.words.small, c.if-from-len.false)

pub returns-clause-inside : goal.returns-clause-inside
returns-clause-inside c =
    first_inside c.self.inside.words.items c.args.from c.index.result.now
    (get_or_read c.self.inside.words.items (c.args.from / 64) c.index.result.now (omega (arith, c.len.ensures, c.self.inside.words.ok.0, c.if-from-len.false)) c.index.ensures 0)
    (omega arith) (search rules)

pub returns-clause-found : goal.returns-clause-found
returns-clause-found c =
    rw (← c.self.view_is)
    (first_found c.self.inside.words.items c.args.from c.index.result.now
    (get_or_read c.self.inside.words.items (c.args.from / 64) c.index.result.now (omega (arith, c.len.ensures, c.self.inside.words.ok.0, c.if-from-len.false)) c.index.ensures 0)
    (omega arith) (search rules))
