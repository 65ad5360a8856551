use Rattle.std.proofs.Common.{length}
use Rattle.office_tree.proofs.Documents.{HaveDocumentsTo}
use Rattle.office_tree.proofs.tree.Tree.have_all_documents.Given as goal

-- the records so far have their required documents
abbrev pub invariant-loop-head : goal.invariant-loop-head
invariant-loop-head l = HaveDocumentsTo l.self.records l.self.statuses (length l.yielded)
