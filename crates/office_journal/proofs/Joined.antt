-- Requests that are journaled, one after another.
use Rattle.std.proofs.Common.{List, [], ◌∷◌, ◌++◌, sym, subst, append_assoc, append-nil}
use Rattle.std.proofs.lemmas.List.Elements.{Contains-append_right}
use Rattle.office_journal.specs.Order.{Event, asked, done, answered, replied, MayFollow, JournaledAfter, IsJournaled}

-- what may follow what was seen may follow more
later : (before seen : List Event) (event : Event) → MayFollow seen event → MayFollow (before ++ seen) event
later before seen (asked line acts) h = tt
later before seen (done act) h = (h.0, h.1, Contains-append_right before seen (asked h.0 h.1) h.2, h.3)
later before seen (answered line) h = tt
later before seen (replied line) h = Contains-append_right before seen (answered line) h

all_later : (before seen rest : List Event) → JournaledAfter seen rest → JournaledAfter (before ++ seen) rest
all_later before seen [] h = tt
all_later before seen (event ∷ rest) h = (
  later before seen event h.0,
  subst (λ xs. JournaledAfter xs rest) (sym (append_assoc before seen (event ∷ []))) (all_later before (seen ++ event ∷ []) rest h.1),
)

both_after : (seen one other : List Event) → JournaledAfter seen one → JournaledAfter (seen ++ one) other → JournaledAfter seen (one ++ other)
both_after seen [] other h k = subst (λ xs. JournaledAfter xs other) (append-nil seen) k
both_after seen (event ∷ one) other h k = (
  h.0,
  both_after (seen ++ event ∷ []) one other h.1 (subst (λ xs. JournaledAfter xs other) (sym (append_assoc seen (event ∷ []) one)) k),
)

pub joined : (one other : List Event) → IsJournaled one → IsJournaled other → IsJournaled (one ++ other)
joined one other h k = both_after [] one other h (subst (λ xs. JournaledAfter xs other) (append-nil one) (all_later one [] other k))
