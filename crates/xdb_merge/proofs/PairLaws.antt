-- The first and the last pair of a sorted list whose key passes a test, by what is found in the list.
use Rattle.std.proofs.Common.{◌≡◌, ℕ, Bool, true, false, cond, List, [], ◌∷◌, Option, Some, None, inl, inr, refl, sym, ap, ◌∙◌}
use Rattle.std.proofs.lemmas.Bool.{cases_Bool, false≢true, and_parts}
use Rattle.std.proofs.lemmas.Option.{same_Some, none-some}
use Rattle.std.specs.FinMap as finite
use Rattle.std.specs.FinMap.Entries as entries_of
use Rattle.std.specs.FinMap.Entries.{find-where_key, is_sorted-where_key}
use Rattle.std.specs.List.{filter, last_or}
use Rattle.std.specs.Prelude.{T}
use Rattle.xdb_key.specs.Bounds.{Bounds, holds}
use Rattle.xdb_key.specs.Order.{key_cmp, is_below}
use Rattle.xdb_key.proofs.OrderLaws.{key_exact, below-itself}
use Rattle.xdb_laws.specs.Image.{image}
use Rattle.xdb_laws.proofs.ImageLaws.{image-is}
use Rattle.xdb_mem.specs.Parts.{Parts}
use Rattle.xdb_plain.specs.Answers.{first_of, last_of}
use Rattle.xdb_rangedel.specs.Content.{same_key}
use Rattle.xdb_rangedel.proofs.NewestLaws.{same_key-tells, same_key-itself}
use Rattle.xdb_merge.specs.Layers.{content_of_layers}
use Rattle.xdb_merge.specs.Merge.{pairs_of}
use Rattle.xdb_merge.specs.Search.{value_in}
use Rattle.xdb_merge.proofs.SortedLaws.{other_key}

abbrev Pairs : Type 0
Pairs = List (List ℕ × List ℕ)

abbrev found : List ℕ → Pairs → Option (List ℕ)
found k es = entries_of.find key_cmp k es

abbrev passing : (List ℕ → Bool) → Pairs → Pairs
passing t es = filter (λ pair. t pair.0) es

is-true : (b : Bool) → T b → b ≡ true
is-true true h = refl
is-true false h = absurd h

-- ---- what is found

found_here : (e : List ℕ × List ℕ) (es : Pairs) → found e.0 (e ∷ es) ≡ Some e.1
found_here e es = ap (λ b. cond b (Some e.1) (found e.0 es)) (same_key-itself e.0)

found_there : (k : List ℕ) (e : List ℕ × List ℕ) (es : Pairs) → same_key k e.0 ≡ false → found k (e ∷ es) ≡ found k es
found_there k e es h = ap (λ b. cond b (Some e.1) (found k es)) h

-- what stands below another key isn't that key
other : (a b : List ℕ) → is_below a b ≡ true → same_key a b ≡ false
other a b h = other_key a b (λ e. false≢true (sym (ap (λ x. is_below x b) e ∙ below-itself b) ∙ h))

-- a key below all of a list isn't found in it
not_found : (x : List ℕ) (es : Pairs) → entries_of.below_all key_cmp x es ≡ true → found x es ≡ None
not_found x [] h = refl
not_found x (e ∷ es) h =
    let parts = and_parts (is_below x e.0) (entries_of.below_all key_cmp x es) h in
    found_there x e es (other x e.0 parts.0) ∙ not_found x es parts.1

-- all that is found stands behind it
found_behind : (x k v : List ℕ) (es : Pairs) → entries_of.below_all key_cmp x es ≡ true → found k es ≡ Some v → is_below x k ≡ true
found_behind x k v [] h at = absurd (none-some v at)
found_behind x k v (e ∷ es) h at =
    let parts = and_parts (is_below x e.0) (entries_of.below_all key_cmp x es) h in
    elim (cases_Bool (same_key k e.0)) [
      | inl same ↦ ap (is_below x) (same_key-tells k e.0 same) ∙ parts.0
      | inr differ ↦ found_behind x k v es parts.1 (sym (found_there k e es differ) ∙ at)
    ]

-- what is found behind the first pair
found_rest : (k v : List ℕ) (e : List ℕ × List ℕ) (es : Pairs) → same_key k e.0 ≡ false → found k (e ∷ es) ≡ Some v → found k es ≡ Some v
found_rest k v e es differ at = sym (found_there k e es differ) ∙ at

abbrev sorted : Pairs → Type 0
sorted es = entries_of.is_sorted key_cmp es ≡ true

first_below : (e : List ℕ × List ℕ) (es : Pairs) → sorted (e ∷ es) → entries_of.below_all key_cmp e.0 es ≡ true
first_below e es h = (and_parts (entries_of.below_all key_cmp e.0 es) (entries_of.is_sorted key_cmp es) h).0

rest_sorted : (e : List ℕ × List ℕ) (es : Pairs) → sorted (e ∷ es) → sorted es
rest_sorted e es h = (and_parts (entries_of.below_all key_cmp e.0 es) (entries_of.is_sorted key_cmp es) h).1

-- where a key isn't found, it isn't found behind the first pair
none_rest : (k : List ℕ) (e : List ℕ × List ℕ) (es : Pairs) → sorted (e ∷ es) → found k (e ∷ es) ≡ None → found k es ≡ None
none_rest k e es h none = elim (cases_Bool (same_key k e.0)) [
  | inl same ↦ absurd (none-some e.1 (sym none ∙ ap (λ b. cond b (Some e.1) (found k es)) same))
  | inr differ ↦ sym (found_there k e es differ) ∙ none
]

-- the first pair's key doesn't pass, if nothing that passes is found
first_fails : (t : List ℕ → Bool) (e : List ℕ × List ℕ) (es : Pairs) → (t e.0 ≡ true → found e.0 (e ∷ es) ≡ None) → t e.0 ≡ false
first_fails t e es none = elim (cases_Bool (t e.0)) [
  | inl h ↦ absurd (none-some e.1 (sym (none h) ∙ found_here e es))
  | inr h ↦ h
]

none_passing : (t : List ℕ → Bool) (es : Pairs) → sorted es → ((k : List ℕ) → t k ≡ true → found k es ≡ None) → passing t es ≡ []
none_passing t [] s none = refl
none_passing t (e ∷ es) s none =
    ap (λ b. cond b (e ∷ passing t es) (passing t es)) (first_fails t e es (none e.0))
    ∙ none_passing t es (rest_sorted e es s) (λ k h. none_rest k e es s (none k h))

-- ---- the first

first_passing : (t : List ℕ → Bool) (es : Pairs) (k v : List ℕ) → sorted es → t k ≡ true → found k es ≡ Some v → ((j : List ℕ) → t j ≡ true → is_below j k ≡ true → found j es ≡ None) → first_of (passing t es) ≡ Some (k, v)
first_passing t [] k v s pass at before = absurd (none-some v at)
first_passing t (e ∷ es) k v s pass at before = elim (cases_Bool (same_key k e.0)) [
  | inl same ↦
      let key : k ≡ e.0 = same_key-tells k e.0 same in
      let value : Some e.1 ≡ Some v = sym (ap (λ b. cond b (Some e.1) (found k es)) same) ∙ at in
      ap (λ b. first_of (cond b (e ∷ passing t es) (passing t es))) (ap t (sym key) ∙ pass)
      ∙ ap (λ x. Some (x, e.1)) (sym key) ∙ ap (λ x. Some (k, x)) (same_Some e.1 v value)
  | inr differ ↦
      let rest : found k es ≡ Some v = found_rest k v e es differ at in
      let below : is_below e.0 k ≡ true = found_behind e.0 k v es (first_below e es s) rest in
      ap (λ b. first_of (cond b (e ∷ passing t es) (passing t es))) (first_fails t e es (λ h. before e.0 h below))
      ∙ first_passing t es k v (rest_sorted e es s) pass rest (λ j h less. none_rest j e es s (before j h less))
]

-- ---- the last

-- behind the last pair that passes, nothing that passes is found
none_behind : (e : List ℕ × List ℕ) (es : Pairs) → sorted (e ∷ es) → (k : List ℕ) → k ≡ e.0 → (t : List ℕ → Bool) → ((j : List ℕ) → t j ≡ true → is_below k j ≡ true → found j (e ∷ es) ≡ None) → (j : List ℕ) → t j ≡ true → (o : Option (List ℕ)) → found j es ≡ o → found j es ≡ None
none_behind e es s k key t behind j h None at = at
none_behind e es s k key t behind j h (Some v) at =
    let less : is_below k j ≡ true = ap (λ x. is_below x j) key ∙ found_behind e.0 j v es (first_below e es s) at in
    none_rest j e es s (behind j h less)

last_passing : (t : List ℕ → Bool) (o : Option (List ℕ × List ℕ)) (es : Pairs) (k v : List ℕ) → sorted es → t k ≡ true → found k es ≡ Some v → ((j : List ℕ) → t j ≡ true → is_below k j ≡ true → found j es ≡ None) → last_or o (passing t es) ≡ Some (k, v)
last_passing t o [] k v s pass at behind = absurd (none-some v at)
last_passing t o (e ∷ es) k v s pass at behind = elim (cases_Bool (same_key k e.0)) [
  | inl same ↦
      let key : k ≡ e.0 = same_key-tells k e.0 same in
      let value : Some e.1 ≡ Some v = sym (ap (λ b. cond b (Some e.1) (found k es)) same) ∙ at in
      ap (λ b. last_or o (cond b (e ∷ passing t es) (passing t es))) (ap t (sym key) ∙ pass)
      ∙ ap (last_or (Some e)) (none_passing t es (rest_sorted e es s) (λ j h. none_behind e es s k key t behind j h (found j es) refl))
      ∙ ap (λ x. Some (x, e.1)) (sym key) ∙ ap (λ x. Some (k, x)) (same_Some e.1 v value)
  | inr differ ↦
      let rest : found k es ≡ Some v = found_rest k v e es differ at in
      let later : (j : List ℕ) → t j ≡ true → is_below k j ≡ true → found j es ≡ None = λ j h less. none_rest j e es s (behind j h less) in
      elim (cases_Bool (t e.0)) [
        | inl h ↦ ap (λ b. last_or o (cond b (e ∷ passing t es) (passing t es))) h ∙ last_passing t (Some e) es k v (rest_sorted e es s) pass rest later
        | inr h ↦ ap (λ b. last_or o (cond b (e ∷ passing t es) (passing t es))) h ∙ last_passing t o es k v (rest_sorted e es s) pass rest later
      ]
]

-- ---- the pairs of layers

found_pairs : (ls : List Parts) (r : Bounds) (at : ℕ) (k : List ℕ) → found k (pairs_of ls r at) ≡ value_in ls r at k
found_pairs ls r at k =
    find-where_key key_cmp (holds r) k (λ x e. ap (holds r) (sym (key_exact k x e))) (finite.entries (image (content_of_layers ls) at))
    ∙ ap (λ o. cond (holds r k) o None) (sym (finite.get-entries (image (content_of_layers ls) at) k) ∙ image-is (content_of_layers ls) at k)

sorted_pairs : (ls : List Parts) (r : Bounds) (at : ℕ) → sorted (pairs_of ls r at)
sorted_pairs ls r at =
    is-true _ (is_sorted-where_key key_cmp (holds r) (finite.entries (image (content_of_layers ls) at)) (finite.entries_sorted (image (content_of_layers ls) at)))

pub first_is : (ls : List Parts) (r : Bounds) (at : ℕ) (t : List ℕ → Bool) (k v : List ℕ) → t k ≡ true → value_in ls r at k ≡ Some v → ((j : List ℕ) → t j ≡ true → is_below j k ≡ true → value_in ls r at j ≡ None) → Some (k, v) ≡ first_of (filter (λ pair. t pair.0) (pairs_of ls r at))
first_is ls r at t k v pass value before =
    sym (first_passing t (pairs_of ls r at) k v (sorted_pairs ls r at) pass (found_pairs ls r at k ∙ value) (λ j h less. found_pairs ls r at j ∙ before j h less))

pub last_is : (ls : List Parts) (r : Bounds) (at : ℕ) (t : List ℕ → Bool) (k v : List ℕ) → t k ≡ true → value_in ls r at k ≡ Some v → ((j : List ℕ) → t j ≡ true → is_below k j ≡ true → value_in ls r at j ≡ None) → Some (k, v) ≡ last_of (filter (λ pair. t pair.0) (pairs_of ls r at))
last_is ls r at t k v pass value behind =
    sym (last_passing t None (pairs_of ls r at) k v (sorted_pairs ls r at) pass (found_pairs ls r at k ∙ value) (λ j h less. found_pairs ls r at j ∙ behind j h less))

none_are : (ls : List Parts) (r : Bounds) (at : ℕ) (t : List ℕ → Bool) → ((j : List ℕ) → t j ≡ true → value_in ls r at j ≡ None) → passing t (pairs_of ls r at) ≡ []
none_are ls r at t none = none_passing t (pairs_of ls r at) (sorted_pairs ls r at) (λ j h. found_pairs ls r at j ∙ none j h)

pub no_first : (ls : List Parts) (r : Bounds) (at : ℕ) (t : List ℕ → Bool) → ((j : List ℕ) → t j ≡ true → value_in ls r at j ≡ None) → ◌≡◌ {A = Option (List ℕ × List ℕ)} None (first_of (filter (λ pair. t pair.0) (pairs_of ls r at)))
no_first ls r at t none = sym (ap first_of (none_are ls r at t none))

pub no_last : (ls : List Parts) (r : Bounds) (at : ℕ) (t : List ℕ → Bool) → ((j : List ℕ) → t j ≡ true → value_in ls r at j ≡ None) → ◌≡◌ {A = Option (List ℕ × List ℕ)} None (last_of (filter (λ pair. t pair.0) (pairs_of ls r at)))
no_last ls r at t none = sym (ap last_of (none_are ls r at t none))
