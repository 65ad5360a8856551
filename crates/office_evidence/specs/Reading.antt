-- What a reader of a word or a line gives. Source: own.
use Rattle.std.specs.Prelude.{◌≡◌, Result, MatchResult}
use Rattle.office_evidence.specs.declared.words.Unread.{Unread}
use Rattle.office_evidence.specs.declared.words.Unread.TheVariants.{Memory}

-- it gives this, unless memory runs out
abbrev pub Gives : {A : Type 0} → Result A Unread → A → Type 0
Gives result x = MatchResult result (λ y. y ≡ x) (λ e. e ≡ Memory)
