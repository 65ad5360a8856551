use Rattle.std.proofs.Common.{◌≡◌, ◌∙◌, ◌+◌, ◌++◌, ap, rules, append_assoc, ℕ, List}
use Rattle.sha2.specs.Sha256.{sha256}
use Rattle.office_journal.specs.declared.head.Head.{Head}
use Rattle.office_journal.specs.Lines.{opening}
use Rattle.office_journal.proofs.journal.next_line.Goals as goal

abbrev head_with : ℕ → List ℕ → Head
head_with number digest = record { line = number; digest = digest }

pub returns-clause-head : goal.returns-clause-head
returns-clause-head c =
    let line : c.extend_from_slice-6.new.self.items ≡ opening c.args.head.now.digest (c.args.head.now.line + 1) ++ c.args.text.now = search (rules, append_assoc) in
    ap (head_with (c.args.head.now.line + 1)) (c.digest.ensures ∙ ap sha256 line)
