-- The entries of maps that are made of closed operations, computed.
use Rattle.std.proofs.Common.{◌≡◌, ℕ, Bool, true, false, not, List, [], ◌∷◌, None, length, cond, refl, sym, ap, ◌∙◌, arith}
use Rattle.std.specs.FinMap as map
use Rattle.std.specs.FinMap.{find, put}
use Rattle.std.specs.FinMap.Entries.{where_key, is_sorted-where_key, find-where_key, same_entries}
use Rattle.std.specs.Ordering.{eq_by_cmp}
use Rattle.std.specs.Cmp.{eq_by_cmp_equiv}
use Rattle.std.specs.declared.cmp.Ordering.TheVariants.{Equal}
use Rattle.xdb_key.proofs.OrderLaws.{key_total, key_exact}
use Rattle.xdb_key.specs.Order.{key_cmp}
use Rattle.xdb_plain.specs.PlainMap.{PlainMap}

pub entries-empty : map.entries (map.empty {X = List ℕ} {R = key_cmp}) ≡ []
entries-empty = none_of (map.entries map.empty) (sym (map.len-entries map.empty) ∙ map.len-empty key_cmp (List ℕ))
  where
    none_of : {A : Type 0} (es : List A) → length es ≡ 0 → es ≡ []
    none_of [] e = refl
    none_of (x ∷ es) e = absurd (omega arith)

pub entries-inserted : (m : PlainMap) (key value : List ℕ) → map.entries (map.insert m key value) ≡ put key_cmp key value (map.entries m)
entries-inserted m key value = map.entries-insert key_total m key value

alike : (p : List ℕ → Bool) (q x : List ℕ) → key_cmp q x ≡ Equal → p x ≡ p q
alike p q x e = ap p (sym (key_exact q x e))

pub entries-retained : (m : PlainMap) (p : List ℕ → Bool) → map.entries (map.retain_keys m p) ≡ where_key key_cmp p (map.entries m)
entries-retained m p =
    same_entries key_cmp key_total key_exact (map.entries (map.retain_keys m p)) (where_key key_cmp p (map.entries m))
    (map.entries_sorted (map.retain_keys m p)) (is_sorted-where_key key_cmp p (map.entries m) (map.entries_sorted m))
    (λ q. sym (map.get-entries (map.retain_keys m p) q) ∙ map.get-retain_keys m p q (alike p q)
    ∙ ap (λ v. cond (p q) v None) (map.get-entries m q) ∙ sym (find-where_key key_cmp p q (alike p q) (map.entries m)))

turned : {A : Type 0} (b : Bool) (x y : A) → cond b x y ≡ cond (not b) y x
turned true x y = refl
turned false x y = refl

pub entries-removed : (m : PlainMap) (key : List ℕ) → map.entries (map.remove m key) ≡ where_key key_cmp (λ x. not (eq_by_cmp key_cmp key x)) (map.entries m)
entries-removed m key =
    same_entries key_cmp key_total key_exact (map.entries (map.remove m key)) (where_key key_cmp (λ x. not (eq_by_cmp key_cmp key x)) (map.entries m))
    (map.entries_sorted (map.remove m key)) (is_sorted-where_key key_cmp (λ x. not (eq_by_cmp key_cmp key x)) (map.entries m) (map.entries_sorted m))
    (λ q. sym (map.get-entries (map.remove m key) q) ∙ map.get-remove key_total m key q
    ∙ ap (λ b. cond b None (map.get m q)) ((eq_by_cmp_equiv key_total).symm q key) ∙ turned (eq_by_cmp key_cmp key q) None (map.get m q)
    ∙ ap (λ v. cond (not (eq_by_cmp key_cmp key q)) v None) (map.get-entries m q)
    ∙ sym (find-where_key key_cmp (λ x. not (eq_by_cmp key_cmp key x)) q (alike (λ x. not (eq_by_cmp key_cmp key x)) q) (map.entries m)))

-- what is found at a key, in the entries
pub get-found : (m : PlainMap) (q : List ℕ) → map.get m q ≡ find key_cmp q (map.entries m)
get-found m q = map.get-entries m q

pub ruleset known_entries = (entries-empty, entries-inserted, entries-retained, entries-removed)
