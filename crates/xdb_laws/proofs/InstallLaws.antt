-- The install of a load: what it leaves and brings, at the next number and at marks.
use Rattle.std.proofs.Common.{◌≡◌, ℕ, ◌+◌, ◌<◌, ◌≤◌, Bool, true, false, not, cond, List, [], ◌∷◌, ◌++◌, Option, Some, None, inl, inr, refl, sym, ap, ◌∙◌, arith}
use Rattle.std.specs.FinMap as map
use Rattle.xdb_key.specs.Bounds.{Bounds, holds}
use Rattle.xdb_key.proofs.OrderLaws.{key_exact}
use Rattle.xdb_mem.specs.Parts.{item_at}
use Rattle.xdb_plain.specs.Changes.{one_for}
use Rattle.xdb_plain.specs.PlainMap.{PlainMap, without_keys, with_tables, loaded}
use Rattle.xdb_plain.specs.Tables.{TableOps}
use Rattle.xdb_rangedel.specs.Content.{Item, seq_of, said_by, newer, newest, verdict, value_of, IsImage, IsClear}
use Rattle.xdb_rangedel.specs.Layers.{IsAllBelow, over}
use Rattle.xdb_rangedel.specs.Members.{Has}
use Rattle.xdb_rangedel.proofs.LayerLaws.{newer-over, verdict_layered, drawn_clear}
use Rattle.xdb_rangedel.proofs.MemberLaws.{Has-append_cases, Has-from_map}
use Rattle.xdb_rangedel.proofs.NewestLaws.{newest-append, newest_raised, newest_unseen, newest_unordered}
use Rattle.xdb_laws.specs.Excises.{is_cut}
use Rattle.xdb_laws.specs.Loads.{items_at, AreLoadsOf, AreLoadable, Install, IsInstall, next_after}
use Rattle.xdb_laws.specs.Ordered.{IsNewer, IsNumberedUpTo, joined}
use Rattle.xdb_laws.specs.Rewrite.{IsRewrite}
use Rattle.xdb_laws.proofs.CommitLaws.{seq-item}
use Rattle.xdb_laws.proofs.OrderLaws.{clear-together, clear-within}
use Rattle.xdb_laws.proofs.LoadLaws.{value_over, value_of-over, get-tables, clear-loads}

-- ---- numbers

number-load : (n : ℕ) (t : TableOps) (c : List Item) (i : Item) → IsRewrite (items_at n t.ops) c → Has c i → seq_of i ≡ n
number-load n t c i load h =
    let (j, has, same) = load.numbers i h in
    let (op, there, e) = Has-from_map (item_at n) t.ops j has in
    sym same ∙ sym (ap seq_of e) ∙ seq-item n op

pub number-loads : (n : ℕ) (ts : List TableOps) (cs : List (List Item)) (i : Item) → AreLoadsOf n ts cs → Has (joined cs) i → seq_of i ≡ n
number-loads n [] [] i loads h = absurd h
number-loads n [] (c ∷ cs) i loads h = absurd loads
number-loads n (t ∷ ts) [] i loads h = absurd loads
number-loads n (t ∷ ts) (c ∷ cs) i loads h = elim (Has-append_cases c (joined cs) i h) [
  | inl g ↦ number-load n t c i loads.0 g
  | inr g ↦ number-loads n ts cs i loads.1 g
]

-- a load without tables brings nothing
none-brought : (n : ℕ) (ts : List TableOps) (cs : List (List Item)) (i : Item) → AreLoadsOf n ts cs → Has (joined cs) i → seq_of i < n + one_for ts
none-brought n [] [] i loads h = absurd h
none-brought n [] (c ∷ cs) i loads h = absurd loads
none-brought n (t ∷ ts) cs i loads h = let e = number-loads n (t ∷ ts) cs i loads h in omega arith

next-later : (n : ℕ) (ts : List TableOps) → n ≤ n + one_for ts
next-later n ts = omega arith

module _ (x : Install) (is : IsInstall x) where
  below-left : IsAllBelow x.next x.left
  below-left = λ i h. let (j, has, same) = is.excised.numbers i h in let low = is.below j has in omega arith

  newer-left : IsNewer (joined x.loads) x.left
  newer-left = λ k i j p q a b. let e = number-loads x.next x.tables x.loads i is.loaded p in let low = below-left j q in omega arith

  clear-both : IsClear (joined x.loads ++ x.left)
  clear-both = clear-together (joined x.loads) x.left (clear-loads x.next x.tables x.loads is.loadable is.loaded) (drawn_clear x.old x.left is.excised.drawn is.clear) newer-left

  pub install-clear : IsClear x.new
  install-clear = clear-within (joined x.loads ++ x.left) x.new (λ i. (is.members i).0) clear-both

  pub install-below : IsAllBelow (x.next + one_for x.tables) x.new
  install-below = λ i h. elim (Has-append_cases (joined x.loads) x.left i ((is.members i).0 h)) [
    | inl g ↦ none-brought x.next x.tables x.loads i is.loaded g
    | inr g ↦ let low = below-left i g in let more = next-later x.next x.tables in omega arith
  ]

  newest-both : (limit : ℕ) (k : List ℕ) → newest x.new limit k ≡ newest (joined x.loads ++ x.left) limit k
  newest-both limit k = newest_unordered x.new (joined x.loads ++ x.left) limit k is.members install-clear

  -- what is looked at up to the next number is what was there, but for the keys of the span
  pub install-marks : (limit : ℕ) (k : List ℕ) → limit ≤ x.next → is_cut x.out k ≡ false → newest x.new limit k ≡ newest x.old limit k
  install-marks limit k low none =
      newest-both limit k
      ∙ newest-append (joined x.loads) x.left limit k
      ∙ ap (λ o. newer o (newest x.left limit k)) (newest_unseen (joined x.loads) limit k (λ i h. let e = number-loads x.next x.tables x.loads i is.loaded h in omega arith))
      ∙ is.excised.says limit k
      ∙ ap (λ b. cond b None (newest x.old limit k)) none

  verdict-both : (k : List ℕ) (limit : ℕ) → x.next ≤ limit → verdict x.new limit k ≡ over (verdict (joined x.loads) limit k) (said_by (cond (is_cut x.out k) None (newest x.old x.next k)))
  verdict-both k limit high =
      ap said_by (newest-both limit k)
      ∙ verdict_layered k (joined x.loads) x.left limit (newer-over k (joined x.loads) x.left (newer-left k))
      ∙ ap (λ o. over (verdict (joined x.loads) limit k) (said_by o)) (newest_raised x.left x.next limit k below-left high ∙ is.excised.says x.next k)

pub install-numbers : (x : Install) (marks : List ℕ) → IsInstall x → IsNumberedUpTo x.next x.old marks → IsNumberedUpTo (next_after x) x.new marks
install-numbers x marks is numbered = record {
  numbers = install-below x is;
  upto = λ m h. let low = numbered.upto m h in let more = next-later x.next x.tables in omega arith;
}

-- ---- the map

value-cut : (b : Bool) (c : List Item) (next : ℕ) (k : List ℕ) → value_of (said_by (cond b None (newest c next k))) ≡ cond b None (value_of (verdict c next k))
value-cut true c next k = refl
value-cut false c next k = refl

cond-turned : (b : Bool) (v : Option (List ℕ)) → cond (not b) v None ≡ cond b None v
cond-turned true v = refl
cond-turned false v = refl

-- the map without the span's keys
abbrev map_left : PlainMap → Option Bounds → PlainMap
map_left m None = m
map_left m (Some out) = without_keys m out

get-left : (m : PlainMap) (out : Option Bounds) (k : List ℕ) → map.get (map_left m out) k ≡ cond (is_cut out k) None (map.get m k)
get-left m None k = refl
get-left m (Some out) k =
    map.get-retain_keys m (λ x. not (holds out x)) k (λ x e. ap (λ y. not (holds out y)) (sym (key_exact k x e))) ∙ cond-turned (holds out k) (map.get m k)

loaded-is : (m : PlainMap) (ts : List TableOps) (out : Option Bounds) → loaded m ts out ≡ with_tables (map_left m out) ts
loaded-is m ts None = refl
loaded-is m ts (Some out) = refl

-- at the number behind the load
get-loads : (n : ℕ) (ts : List TableOps) (cs : List (List Item)) (m : PlainMap) (k : List ℕ) → AreLoadable ts → AreLoadsOf n ts cs → map.get (with_tables m ts) k ≡ value_over (verdict (joined cs) (n + one_for ts) k) (map.get m k)
get-loads n [] [] m k able loads = refl
get-loads n [] (c ∷ cs) m k able loads = absurd loads
get-loads n (t ∷ ts) cs m k able loads = get-tables n (t ∷ ts) cs m k able loads

pub install-image : (x : Install) (m : PlainMap) → IsInstall x → IsImage x.old x.next m → IsImage x.new (next_after x) (loaded m x.tables x.out)
install-image x m is image = λ k.
    let limit = next_after x in
    ap (λ y. map.get y k) (loaded-is m x.tables x.out)
    ∙ get-loads x.next x.tables x.loads (map_left m x.out) k is.loadable is.loaded
    ∙ ap (value_over (verdict (joined x.loads) limit k)) (get-left m x.out k ∙ ap (cond (is_cut x.out k) None) (image k) ∙ sym (value-cut (is_cut x.out k) x.old x.next k))
    ∙ sym (value_of-over (verdict (joined x.loads) limit k) (said_by (cond (is_cut x.out k) None (newest x.old x.next k))))
    ∙ ap value_of (sym (verdict-both x is k limit (next-later x.next x.tables)))
