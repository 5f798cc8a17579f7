-- The image of a content has each key whose verdict is a value.
use Rattle.std.proofs.Common.{◌≡◌, ℕ, Bool, true, false, ◌||◌, cond, List, [], ◌∷◌, Option, Some, None, inl, inr, refl, sym, ap, ◌∙◌, subst}
use Rattle.std.proofs.lemmas.Bool.{cases_Bool, false≢true}
use Rattle.std.specs.FinMap as map
use Rattle.std.specs.List.{list_any}
use Rattle.xdb_key.specs.Bounds.{Bounds, holds}
use Rattle.xdb_key.proofs.OrderLaws.{key_total, key_exact}
use Rattle.xdb_plain.specs.PlainMap.{PlainMap}
use Rattle.xdb_rangedel.specs.Content.{Item, entry, span, Mark, said, said_by, newest, verdict, value_of, here, same_key, IsImage}
use Rattle.xdb_rangedel.specs.Members.{Has}
use Rattle.xdb_rangedel.proofs.NewestLaws.{Decided, decided, seen-here, same_key-tells, same_key-itself}
use Rattle.xdb_laws.specs.Image.{keys_in, with_value, image_over, image, inside, AreAlikeIn}

none-either : (any : Bool) → ◌≡◌ {A = Option (List ℕ)} (cond any None None) None
none-either true = refl
none-either false = refl

get-with_value : (key k : List ℕ) (v w : Option (List ℕ)) (m : PlainMap) (any : Bool) → (same_key k key ≡ true → v ≡ w) → map.get m k ≡ cond any w None → map.get (with_value key v m) k ≡ cond (same_key k key || any) w None
get-with_value key k None w m any same before = elim (cases_Bool (same_key k key)) [
  | inl e ↦ before ∙ ap (λ x. cond any x None) (sym (same e)) ∙ none-either any ∙ same e ∙ ap (λ t. cond (t || any) w None) (sym e)
  | inr e ↦ before ∙ ap (λ t. cond (t || any) w None) (sym e)
]
get-with_value key k (Some x) w m any same before = elim (cases_Bool (same_key k key)) [
  | inl e ↦ map.get-insert key_total m key x k ∙ ap (λ t. cond t (Some x) (map.get m k)) e ∙ same e ∙ ap (λ t. cond (t || any) w None) (sym e)
  | inr e ↦ map.get-insert key_total m key x k ∙ ap (λ t. cond t (Some x) (map.get m k)) e ∙ before ∙ ap (λ t. cond (t || any) w None) (sym e)
]

get-image_over : (keys : List (List ℕ)) (c : List Item) (limit : ℕ) (k : List ℕ) → map.get (image_over keys c limit) k ≡ cond (list_any (same_key k) keys) (value_of (verdict c limit k)) None
get-image_over [] c limit k = map.get-empty _ k
get-image_over (key ∷ keys) c limit k =
    get-with_value key k (value_of (verdict c limit key)) (value_of (verdict c limit k)) (image_over keys c limit) (list_any (same_key k) keys)
    (λ e. ap (λ x. value_of (verdict c limit x)) (sym (same_key-tells k key e)))
    (get-image_over keys c limit k)

either-right : (a b : Bool) → b ≡ true → (a || b) ≡ true
either-right true b e = refl
either-right false b e = e

-- the key of each entry is listed
listed : (c : List Item) (k : List ℕ) (seq : ℕ) (v : Option (List ℕ)) → Has c (entry k seq v) → list_any (same_key k) (keys_in c) ≡ true
listed [] k seq v h = absurd h
listed (entry key s w ∷ c) k seq v (inl e) =
    let keys : key ≡ k = cc in
    subst (λ x. (same_key k x || list_any (same_key k) (keys_in c)) ≡ true) (sym keys) (ap (λ t. t || list_any (same_key k) (keys_in c)) (same_key-itself k))
listed (entry key s w ∷ c) k seq v (inr h) = either-right (same_key k key) _ (listed c k seq v h)
listed (span t ∷ c) k seq v (inl e) = absurd (cc)
listed (span t ∷ c) k seq v (inr h) = listed c k seq v h

unlisted-value : (c : List Item) (k : List ℕ) (i : Item) → Has c i → here k i ≡ true → list_any (same_key k) (keys_in c) ≡ false → value_of (said i) ≡ None
unlisted-value c k (entry key seq v) h at_i none =
    let keys = same_key-tells key k at_i in
    let there = listed c k seq v (subst (λ x. Has c (entry x seq v)) keys h) in
    absurd (false≢true (sym none ∙ there))
unlisted-value c k (span t) h at_i none = refl

unlisted-by : (c : List Item) (limit : ℕ) (k : List ℕ) (o : Option Mark) → Decided c limit k o → list_any (same_key k) (keys_in c) ≡ false → value_of (said_by o) ≡ None
unlisted-by c limit k None d none = refl
unlisted-by c limit k (Some m) (i, g, e) none =
    ap (λ x. value_of x.says) (sym e) ∙ unlisted-value c k i g.member (seen-here limit k i g.seen) none

-- a key that no entry has gets no value
unlisted : (c : List Item) (limit : ℕ) (k : List ℕ) → list_any (same_key k) (keys_in c) ≡ false → value_of (verdict c limit k) ≡ None
unlisted c limit k none = unlisted-by c limit k (newest c limit k) (decided c limit k) none

pub image-is : (c : List Item) (limit : ℕ) → IsImage c limit (image c limit)
image-is c limit k = elim (cases_Bool (list_any (same_key k) (keys_in c))) [
  | inl e ↦ get-image_over (keys_in c) c limit k ∙ ap (λ t. cond t (value_of (verdict c limit k)) None) e
  | inr e ↦ get-image_over (keys_in c) c limit k ∙ ap (λ t. cond t (value_of (verdict c limit k)) None) e ∙ sym (unlisted c limit k e)
]

pub get-inside : (r : Bounds) (m : PlainMap) (k : List ℕ) → map.get (inside r m) k ≡ cond (holds r k) (map.get m k) None
get-inside r m k = map.get-retain_keys m (holds r) k (λ x e. ap (holds r) (sym (key_exact k x e)))

-- inside the range a map has what its part there has
pub alike-inside : (r : Bounds) (m : PlainMap) → AreAlikeIn r (inside r m) m
alike-inside r m = λ k h. get-inside r m k ∙ ap (λ t. cond t (map.get m k) None) h
