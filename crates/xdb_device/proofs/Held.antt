-- A map in code, and the finite map that it is seen as.
use Rattle.std.proofs.Common.{◌≡◌, ℕ, List, [], ◌∷◌, Bool, cond, Option, None, Some, refl, sym, ap, ◌∙◌}
use Rattle.std.specs.Ordering.{nat_cmp, eq_by_cmp}
use Rattle.std.proofs.lemmas.Cmp.{nat_cmp_total, eq_by_cmp_equiv}
use Rattle.std.specs.FinMap as map
use Rattle.std.specs.BTreeMap.{is_at}
use Rattle.std.specs.Map.{lookup}
use Rattle.xdb_device.specs.Store.{Kept}

-- what code finds is what the map has
pub get-lookup : (es : List (ℕ × List ℕ)) (q : ℕ) → map.get (map.from_entries {R = nat_cmp} es) q ≡ lookup (is_at (nat_cmp q)) es
get-lookup es q = map.get-from_entries nat_cmp_total es q ∙ found es
  where
    found : (fs : List (ℕ × List ℕ)) → map.find nat_cmp q fs ≡ lookup (is_at (nat_cmp q)) fs
    found [] = refl
    found (f ∷ fs) = ap (cond (is_at (nat_cmp q) f.0) (Some f.1)) (found fs)

-- entries that differ at one key alone
same_updated : (old new : List (ℕ × List ℕ)) (k : ℕ) (w : Option (List ℕ)) (m : map.FinMap nat_cmp (List ℕ))
    → ((q : ℕ) → lookup (is_at (nat_cmp q)) new ≡ cond (is_at (nat_cmp k) q) w (lookup (is_at (nat_cmp q)) old))
    → ((q : ℕ) → map.get m q ≡ cond (eq_by_cmp nat_cmp q k) w (map.get (map.from_entries {R = nat_cmp} old) q))
    → map.from_entries {R = nat_cmp} new ≡ m
same_updated old new k w m updated wanted =
    map.same_map nat_cmp_total map.nat_cmp-IsAntisymmetric (map.from_entries new) m
    (λ (q : ℕ). get-lookup new q ∙ updated q
    ∙ ap (λ (b : Bool). cond b w (lookup (is_at (nat_cmp q)) old)) ((eq_by_cmp_equiv nat_cmp_total).symm k q)
    ∙ ap (λ (found : Option (List ℕ)). cond (eq_by_cmp nat_cmp q k) w found) (sym (get-lookup old q))
    ∙ sym (wanted q))

pub from_entries-insert : (old new : List (ℕ × List ℕ)) (k : ℕ) (v : List ℕ)
    → ((q : ℕ) → lookup (is_at (nat_cmp q)) new ≡ cond (is_at (nat_cmp k) q) (Some v) (lookup (is_at (nat_cmp q)) old))
    → map.from_entries {R = nat_cmp} new ≡ map.insert (map.from_entries old) k v
from_entries-insert old new k v updated = same_updated old new k (Some v) _ updated (map.get-insert nat_cmp_total (map.from_entries old) k v)

pub from_entries-remove : (old new : List (ℕ × List ℕ)) (k : ℕ)
    → ((q : ℕ) → lookup (is_at (nat_cmp q)) new ≡ cond (is_at (nat_cmp k) q) None (lookup (is_at (nat_cmp q)) old))
    → map.from_entries {R = nat_cmp} new ≡ map.remove (map.from_entries old) k
from_entries-remove old new k updated = same_updated old new k None _ updated (map.get-remove nat_cmp_total (map.from_entries old) k)

pub same_kept : (k n : Kept) → k.creations ≡ n.creations → k.removals ≡ n.removals → k.holds ≡ n.holds → k ≡ n
same_kept k n a b c = λ i. record { creations = a i; removals = b i; holds = c i }
