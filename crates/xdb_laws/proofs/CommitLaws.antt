-- Operations that join a content below whose numbers they don't stand act on its image.
use Rattle.std.proofs.Common.{◌≡◌, ℕ, ◌+◌, Bool, true, false, not, ◌&&◌, cond, ltb, List, [], ◌∷◌, ◌++◌, length, append-nil, Option, Some, None, inl, inr, refl, sym, ap, ◌∙◌, subst, arith}
use Rattle.std.proofs.lemmas.Bool.{cases_Bool, lt-ltb}
use Rattle.std.proofs.lemmas.List.{append_assoc}
use Rattle.std.specs.FinMap as map
use Rattle.std.specs.List.{enumerate_from}
use Rattle.xdb_key.specs.Bounds.{holds}
use Rattle.xdb_key.specs.declared.op.Op.{Op}
use Rattle.xdb_key.specs.declared.op.Op.TheVariants.{Set, Del, DelSpan}
use Rattle.xdb_key.proofs.OrderLaws.{key_total, key_exact}
use Rattle.xdb_plain.specs.PlainMap.{PlainMap, acted, acted_all}
use Rattle.xdb_rangedel.specs.Content.{Item, entry, span, Verdict, nothing, seq_of, same_key, here, said, said_by, mark, is_seen, newer, verdict, value_of, IsImage}
use Rattle.xdb_rangedel.specs.Layers.{IsNewerAt, IsAllBelow, over}
use Rattle.xdb_rangedel.proofs.MemberLaws.{Has-append_cases}
use Rattle.xdb_rangedel.proofs.NewestLaws.{same_key-tells, same_key-itself, newest_raised}
use Rattle.xdb_rangedel.proofs.LayerLaws.{newer-over, verdict_layered, newest_layers_swapped}
use Rattle.xdb_mem.specs.Numbered.{numbered}
use Rattle.xdb_mem.specs.Parts.{item_at, items}

-- the groups' numbering is std's
pub numbered-is : (n : ℕ) (ops : List Op) → numbered n ops ≡ enumerate_from n ops
numbered-is n [] = refl
numbered-is n (op ∷ ops) = ap (λ xs. (n, op) ∷ xs) (numbered-is (n + 1) ops)

same_key-turned : (a b : List ℕ) → same_key a b ≡ same_key b a
same_key-turned a b = elim (cases_Bool (same_key a b)) [
  | inl e ↦ e ∙ sym (subst (λ x. same_key b x ≡ true) (sym (same_key-tells a b e)) (same_key-itself b))
  | inr e ↦ elim (cases_Bool (same_key b a)) [
    | inl f ↦ subst (λ x. same_key a x ≡ same_key x a) (sym (same_key-tells b a f)) refl
    | inr f ↦ e ∙ sym f
  ]
]

-- what one item says
pub verdict-one : (i : Item) (limit : ℕ) (k : List ℕ) → verdict (i ∷ []) limit k ≡ cond (is_seen limit k i) (said i) nothing
verdict-one i limit k = elim (cases_Bool (is_seen limit k i)) [
  | inl e ↦ ap (λ b. said_by (newer (cond b (Some (mark i)) None) None)) e ∙ ap (λ b. cond b (said i) nothing) (sym e)
  | inr e ↦ ap (λ b. said_by (newer (cond b (Some (mark i)) None) None)) e ∙ ap (λ b. cond b (said i) nothing) (sym e)
]

and-true : (b t : Bool) → t ≡ true → (b && t) ≡ b
and-true true t e = e
and-true false t e = refl

pub seen-next : (n : ℕ) (k : List ℕ) (i : Item) → seq_of i ≡ n → is_seen (n + 1) k i ≡ here k i
seen-next n k i e = and-true (here k i) (ltb (seq_of i) (n + 1)) (lt-ltb (seq_of i) (n + 1) (omega arith))

-- an item that speaks of the key over what was said before
value-over : (b : Bool) (v : Option (List ℕ)) (says before : Verdict) (value : Option (List ℕ)) → value_of says ≡ v → ((x : Verdict) → over says x ≡ says) → value_of before ≡ value → value_of (over (cond b says nothing) before) ≡ cond b v value
value-over true v says before value e whole is = ap value_of (whole before) ∙ e
value-over false v says before value e whole is = is

over-said : (i : Item) (v : Verdict) → over (said i) v ≡ said i
over-said (entry key seq None) v = refl
over-said (entry key seq (Some value)) v = refl
over-said (span t) v = refl

cond-not : (t : Bool) (before : Option (List ℕ)) → cond (not t) before None ≡ cond t None before
cond-not true before = refl
cond-not false before = refl

-- what the map has after an operation
pub get-acted : (m : PlainMap) (n : ℕ) (op : Op) (k : List ℕ) → map.get (acted m op) k ≡ cond (here k (item_at n op)) (value_of (said (item_at n op))) (map.get m k)
get-acted m n (Set key value) k = map.get-insert key_total m key value k ∙ ap (λ t. cond t (Some value) (map.get m k)) (same_key-turned k key)
get-acted m n (Del key) k = map.get-remove key_total m key k ∙ ap (λ t. cond t None (map.get m k)) (same_key-turned k key)
get-acted m n (DelSpan range) k =
    map.get-retain_keys m (λ x. not (holds range x)) k (λ x e. ap (λ y. not (holds range y)) (sym (key_exact k x e))) ∙ cond-not (holds range k) (map.get m k)

pub seq-item : (n : ℕ) (op : Op) → seq_of (item_at n op) ≡ n
seq-item n (Set key value) = refl
seq-item n (Del key) = refl
seq-item n (DelSpan range) = refl

-- an item numbered from the limit on is newer than what stands below the limit
one-newer : (c : List Item) (n : ℕ) (i : Item) (k : List ℕ) → IsAllBelow n c → seq_of i ≡ n → IsNewerAt k (i ∷ []) c
one-newer c n i k low e = λ x y has_x has_y at_x at_y. elim has_x [
  | inl is ↦ omega (arith, ap seq_of is, e, low y has_y)
  | inr never ↦ absurd never
]

verdict-joined : (c : List Item) (n : ℕ) (i : Item) (k : List ℕ) → IsAllBelow n c → seq_of i ≡ n → verdict (c ++ i ∷ []) (n + 1) k ≡ over (cond (here k i) (said i) nothing) (verdict c n k)
verdict-joined c n i k low e =
    let above = newer-over k (i ∷ []) c (one-newer c n i k low e) in
    ap said_by (newest_layers_swapped k (i ∷ []) c (n + 1) above)
    ∙ verdict_layered k (i ∷ []) c (n + 1) above
    ∙ ap (λ v. over v (verdict c (n + 1) k)) (verdict-one i (n + 1) k ∙ ap (λ b. cond b (said i) nothing) (seen-next n k i e))
    ∙ ap (λ o. over (cond (here k i) (said i) nothing) (said_by o)) (newest_raised c n (n + 1) k low (omega arith))

image-one : (c : List Item) (n : ℕ) (m : PlainMap) (op : Op) → IsImage c n m → IsAllBelow n c → IsImage (c ++ item_at n op ∷ []) (n + 1) (acted m op)
image-one c n m op is low = λ k.
    get-acted m n op k
    ∙ sym (ap value_of (verdict-joined c n (item_at n op) k low (seq-item n op))
    ∙ value-over (here k (item_at n op)) (value_of (said (item_at n op))) (said (item_at n op)) (verdict c n k) (map.get m k) refl (over-said (item_at n op)) (sym (is k)))

below-one : (c : List Item) (n : ℕ) (op : Op) → IsAllBelow n c → IsAllBelow (n + 1) (c ++ item_at n op ∷ [])
below-one c n op low = λ i has. elim (Has-append_cases c (item_at n op ∷ []) i has) [
  | inl h ↦ omega (arith, low i h)
  | inr h ↦ elim h [
    | inl e ↦ omega (arith, ap seq_of e, seq-item n op)
    | inr never ↦ absurd never
  ]
]

-- a content with its numbers below the next one, and its image there
pub record IsUpTo (c : List Item) (next : ℕ) (m : PlainMap) : Type 0 where
  pub image : IsImage c next m
  pub below : IsAllBelow next c

pub committed : (c : List Item) (n : ℕ) (m : PlainMap) (ops : List Op) → IsImage c n m → IsAllBelow n c → IsUpTo (c ++ items (numbered n ops)) (n + length ops) (acted_all m ops)
committed c n m [] is low =
    subst (λ x. IsUpTo x (n + 0) m) (sym (append-nil c)) (subst (λ x. IsUpTo c x m) (omega arith) (record { image = is; below = low }))
committed c n m (op ∷ ops) is low =
    let more = committed (c ++ item_at n op ∷ []) (n + 1) (acted m op) ops (image-one c n m op is low) (below-one c n op low) in
    subst (λ x. IsUpTo x (n + length (op ∷ ops)) (acted_all m (op ∷ ops))) (append_assoc c (item_at n op ∷ []) (items (numbered (n + 1) ops)))
    (subst (λ x. IsUpTo ((c ++ item_at n op ∷ []) ++ items (numbered (n + 1) ops)) x (acted_all m (op ∷ ops))) (omega arith) more)
