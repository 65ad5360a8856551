-- A session of one request: it is served, and nothing else.
use Rattle.std.proofs.Common.{◌≡◌, ◌≢◌, ◌⊎◌, ◌∙◌, ap, ap₂, arith, refl, subst, sym, inl, inr, ℕ, zero, suc, ◌<◌, Bool, false, List, [], ◌∷◌, ◌++◌, length, map, Option, Some, None}
use Rattle.std.specs.Prelude.{◌↔◌, IsSome, MatchOption, option_to_list}
use Rattle.std.proofs.lemmas.List.{length-append}
use Rattle.sqlite_trees.specs.declared.store.Store.{Ghosts}
use Rattle.office_desk.specs.Desk.{DeskState}
use Rattle.office_wire.specs.Connections.{Turns, TurnsBy}
use Rattle.office_wire.specs.Exchanges.{AreExchanged, AreServed, IsExchanged, none, one_more}
use Rattle.office_wire.specs.Sources.{Sent, Traffic}
use Rattle.office_wire.specs.declared.request_list.SentAnswer.{SentAnswer}
use Rattle.office_sessions.specs.Requests.{sent_as}

-- the last of a list of one
last_alone : {A : Type 0} (xs : List A) (x y : A) → xs ++ x ∷ [] ≡ y ∷ [] → (xs ≡ []) × (x ≡ y)
last_alone [] x y is = (refl, cc)
last_alone (z ∷ xs) x y is = absurd (omega (arith, ap length is, length-append xs (x ∷ [])))

not_none : {A : Type 0} (xs : List A) (x : A) → xs ++ x ∷ [] ≡ [] → ⊥
not_none xs x is = omega (arith, ap length is, length-append xs (x ∷ []))

one_longer : {A B : Type 0} (xs : List A) (ys : List B) (x : A) (y : B) → length xs ≡ length ys → length (xs ++ x ∷ []) ≡ length (ys ++ y ∷ [])
one_longer xs ys x y same = omega (arith, length-append xs (x ∷ []), length-append ys (y ∷ []), same)

none_is_not_one : {A : Type 0} (x : A) → [] ≡ x ∷ [] → ⊥
none_is_not_one x is = omega (arith, ap length is)

module _ {S : Type 0} (g : Ghosts S) (old : DeskState S) where
  same_length : (came : List (List ℕ)) (sent : List Sent) (new : DeskState S) → AreExchanged g old came sent new → length came ≡ length sent
  same_length _ _ _ none = refl
  same_length _ _ _ (one_more came sent bytes it mid new before exchanged) = one_longer came sent bytes it (same_length came sent mid before)

  none_exchanged : (came : List (List ℕ)) (sent : List Sent) (new : DeskState S) → AreExchanged g old came sent new → came ≡ [] → new ≡ old
  none_exchanged _ _ _ none is = refl
  none_exchanged _ _ _ (one_more came sent bytes it mid new before exchanged) is = absurd (not_none came bytes is)

  alone : (came : List (List ℕ)) (sent : List Sent) (new : DeskState S) → AreExchanged g old came sent new → (bytes : List ℕ) (it : Sent) → came ≡ bytes ∷ [] → sent ≡ it ∷ [] → IsExchanged g bytes it old new
  alone _ _ _ none bytes it is sent_is = absurd (none_is_not_one bytes is)
  alone _ _ _ (one_more came sent first one mid new before exchanged) bytes it is sent_is =
      let by_came = last_alone came first bytes is in
      let by_sent = last_alone sent one it sent_is in
      let same = none_exchanged came sent mid before by_came.0 in
      subst (λ (b : List ℕ). IsExchanged g b it old new) by_came.1
      (subst (λ (x : Sent). IsExchanged g first x old new) by_sent.1
      (subst (λ (d : DeskState S). IsExchanged g first one d new) same exchanged))

-- of one request that is to come, that one came
pieces : (bytes : List ℕ) (count : ℕ) (came rest : List (List ℕ)) (sent : List Sent) → bytes ∷ [] ≡ came ++ rest → length came ≡ length sent → (length sent ≡ count) ⊎ (rest ≡ []) → count ≢ 0
    → (it : Sent) × (came ≡ bytes ∷ []) × (rest ≡ []) × (sent ≡ it ∷ [])
pieces bytes count [] rest sent is same (inl n) some = absurd (some (sym n ∙ sym same))
pieces bytes count [] rest sent is same (inr gone) some = absurd (omega (arith, ap length is, ap length gone))
pieces bytes count (x ∷ []) [] [] is same all some = absurd (omega (arith, same))
pieces bytes count (x ∷ []) [] (it ∷ []) is same all some = (it, sym is, refl, refl)
pieces bytes count (x ∷ []) [] (it ∷ one ∷ more) is same all some = absurd (omega (arith, same))
pieces bytes count (x ∷ []) (r ∷ rest) sent is same all some = absurd (omega (arith, ap length is))
pieces bytes count (x ∷ y ∷ xs) rest sent is same all some = absurd (omega (arith, ap length is))

module _ {S : Type 0} (g : Ghosts S) (bytes : List ℕ) (old new : DeskState S) where
  one_by_lists : (count : ℕ) (after : Option Traffic) (came rest : List (List ℕ)) (sent : List Sent) → bytes ∷ [] ≡ came ++ rest → after ≡ Some (record { coming = rest; sent = sent }) → AreExchanged g old came sent new
      → (length sent ≡ count) ⊎ (rest ≡ []) → count ≢ 0 → (it : Sent) × (after ≡ Some (record { coming = []; sent = it ∷ [] })) × IsExchanged g bytes it old new
  one_by_lists count after came rest sent is traffic exchanged all some =
      let it = pieces bytes count came rest sent is (same_length g old came sent new exchanged) all some in
      (it.0, traffic ∙ ap₂ (λ (x : List (List ℕ)) (y : List Sent). let t : Traffic = record { coming = x; sent = y } in Some t) it.2 it.3, alone g old came sent new exchanged bytes it.0 it.1 it.3)

  pub one_served : (count : ℕ) (failed : Bool) (before : Traffic) (after : Option Traffic) → before ≡ record { coming = bytes ∷ []; sent = [] } → AreServed g count failed before after old new → count ≢ 0
      → (it : Sent) × (after ≡ Some (record { coming = []; sent = it ∷ [] })) × IsExchanged g bytes it old new
  one_served count failed before after is served some =
      let it = subst (λ (x : Traffic). AreServed g count failed x after old new) is served in
      one_by_lists count after it.came it.rest it.sent it.coming it.traffic it.exchanged it.all some

-- ---- the last of the responses

no_item : {A B : Type 0} (f : A → B) (y : B) → map f [] ≡ y ∷ [] → ⊥
no_item f y is = omega (arith, ap length is)

only_one : {A B : Type 0} (f : A → B) (x z : A) (items : List A) (y : B) → map f (x ∷ z ∷ items) ≡ y ∷ [] → ⊥
only_one f x z items y is = omega (arith, ap length is)

same_one : {A : Type 0} (x y : A) → x ∷ [] ≡ y ∷ [] → x ≡ y
same_one x y is = cc

something : {A : Type 0} (x : A) (items : List A) → 0 < length (x ∷ items)
something x items = omega arith

is_none : IsSome {T = SentAnswer} None → ⊥
is_none is = cc

pub popped : (P : Sent → Type 0) (Q : Type 0) (it : Sent) (items left : List SentAnswer) (last : Option SentAnswer) → items ≡ left ++ option_to_list last → map sent_as items ≡ it ∷ [] → P it
    → (0 < length items → IsSome last) → MatchOption last Q (λ x. P (sent_as x))
popped P Q it [] left last is one holds some = absurd (no_item sent_as it one)
popped P Q it (x ∷ items) left None is one holds some = absurd (is_none (some (something x items)))
popped P Q it (x ∷ []) left (Some y) is one holds some = subst P (sym (ap sent_as (last_alone left y x (sym is)).1 ∙ same_one (sent_as x) it one)) holds
popped P Q it (x ∷ z ∷ items) left (Some y) is one holds some = absurd (only_one sent_as x z items it one)

zero_is_not_one : (n : ℕ) → n ≡ 0 → n ≡ 1 → ⊥
zero_is_not_one n none_so is = omega (arith, none_so, is)

not_zero : (n : ℕ) → suc n ≡ 0 → ⊥
not_zero n is = omega (arith, is)

-- one connection was awaited
pub some_served : {S : Type 0} (g : Ghosts S) (n : ℕ) (failed ended : Bool) (old new : DeskState S) → Turns g n failed ended old new → (ended ≡ false → n ≡ 1) → n ≢ 0
unfolding TurnsBy
some_served g zero failed ended old new turns all none_so = zero_is_not_one zero refl (all turns.1)
some_served g (suc n) failed ended old new turns all none_so = not_zero n none_so

same_traffic : (a b : Traffic) → Some a ≡ Some b → a ≡ b
same_traffic a b is = cc

-- what is popped went out to the request
pub request_served : {S : Type 0} (g : Ghosts S) (bytes : List ℕ) (old new : DeskState S) (count : ℕ) (failed : Bool) (before after : Traffic) (items left : List SentAnswer) (last : Option SentAnswer)
    → before ≡ record { coming = bytes ∷ []; sent = [] } → AreServed g count failed before (Some after) old new → count ≢ 0 → map sent_as items ≡ after.sent → items ≡ left ++ option_to_list last
    → (0 < length items → IsSome last) → MatchOption last (new ≡ old) (λ it. IsExchanged g bytes (sent_as it) old new)
request_served g bytes old new count failed before after items left last is served some sent pieces_so there =
    let it = one_served g bytes old new count failed before (Some after) is served some in
    let same = same_traffic after (record { coming = []; sent = it.0 ∷ [] }) it.1 in
    popped (λ x. IsExchanged g bytes x old new) (new ≡ old) it.0 items left last pieces_so (sent ∙ ap (λ (t : Traffic). t.sent) same) it.2 there
