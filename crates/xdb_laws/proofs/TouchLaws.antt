-- Groups of which no operation touches a range say nothing there.
use Rattle.std.proofs.Common.{◌≡◌, ℕ, Bool, true, false, ◌&&◌, cond, ltb, List, [], ◌∷◌, Option, Some, None, inl, inr, refl, sym, ap, ◌∙◌, subst}
use Rattle.std.proofs.lemmas.Bool.{and_from, and_parts, false≢true}
use Rattle.xdb_key.specs.Bounds.{Bounds, holds, meets, key_hull}
use Rattle.xdb_key.specs.Groups.{Group, group_touches, group_touches_below, first_touching, later, last_touching}
use Rattle.xdb_key.specs.Ops.{op_hull, touches}
use Rattle.xdb_key.specs.declared.op.Op.{Op}
use Rattle.xdb_key.specs.declared.op.Op.TheVariants.{Set, Del, DelSpan}
use Rattle.xdb_rangedel.specs.Content.{Item, Mark, seq_of, here, is_seen, newest}
use Rattle.xdb_rangedel.specs.Layers.{IsSilentAt}
use Rattle.xdb_rangedel.specs.Members.{Has}
use Rattle.xdb_rangedel.proofs.CoverLaws.{meets-from_held}
use Rattle.xdb_rangedel.proofs.MemberLaws.{Has-append_cases, Has-from_map}
use Rattle.xdb_rangedel.proofs.NewestLaws.{Decided, decided, same_key-tells}
use Rattle.xdb_mem.specs.Parts.{item_at, items}
use Rattle.xdb_mem.specs.Queue.{all_ops}
use Rattle.xdb_mem.proofs.TouchLaws.{any-from}
use Rattle.xdb_laws.proofs.AnswerLaws.{holds-itself}
use Rattle.xdb_laws.proofs.CommitLaws.{seq-item}

-- an item of an operation speaks of keys of the operation's hull
pub here-hull : (n : ℕ) (op : Op) (k : List ℕ) → here k (item_at n op) ≡ true → holds (op_hull op) k ≡ true
here-hull n (Set key value) k e = subst (λ x. holds (key_hull key) x ≡ true) (same_key-tells key k e) (holds-itself key)
here-hull n (Del key) k e = subst (λ x. holds (key_hull key) x ≡ true) (same_key-tells key k e) (holds-itself key)
here-hull n (DelSpan range) k e = e

-- where one item of it speaks of a key of a range, an operation touches the ranges
touches-here : (ranges : List Bounds) (n : ℕ) (op : Op) (r : Bounds) (k : List ℕ) → Has ranges r → holds r k ≡ true → here k (item_at n op) ≡ true → touches op ranges ≡ true
touches-here ranges n op r k has held at_k = any-from (meets (op_hull op)) ranges r has (meets-from_held (op_hull op) r k (here-hull n op k at_k) held)

-- ---- no operation at all

first-none : (b : Bool) (n : ℕ) (rest : Option ℕ) → cond b (Some n) rest ≡ None → (b ≡ false) × (rest ≡ None)
first-none true n rest e = absurd (cc)
first-none false n rest e = (refl, e)

none-touches : (ranges : List Bounds) (gs : List Group) (o : ℕ × Op) → first_touching ranges gs ≡ None → Has (all_ops gs) o → touches o.1 ranges ≡ true → ⊥
none-touches ranges [] o none has e = has
none-touches ranges (g ∷ gs) o none has e =
    let parts = first-none (group_touches ranges g) g.num (first_touching ranges gs) none in
    elim (Has-append_cases g.ops (all_ops gs) o has) [
      | inl h ↦ false≢true (sym parts.0 ∙ any-from (λ x. touches x.1 ranges) g.ops o h e)
      | inr h ↦ none-touches ranges gs o parts.1 h e
    ]

pub silent-untouched : (ranges : List Bounds) (gs : List Group) (r : Bounds) (k : List ℕ) → first_touching ranges gs ≡ None → Has ranges r → holds r k ≡ true → IsSilentAt k (items (all_ops gs))
silent-untouched ranges gs r k none has held = λ i h at_i.
    let (o, there, e) = Has-from_map (λ x. item_at x.0 x.1) (all_ops gs) i h in
    none-touches ranges gs o none there (touches-here ranges o.0 o.1 r k has held (ap (here k) e ∙ at_i))

-- ---- none with a number below a mark

later-none : (a b : Option ℕ) → later a b ≡ None → (a ≡ None) × (b ≡ None)
later-none a None e = (e, refl)
later-none a (Some n) e = absurd (cc)

none-below : (ranges : List Bounds) (mark : ℕ) (gs : List Group) (o : ℕ × Op) → last_touching ranges mark gs ≡ None → Has (all_ops gs) o → (ltb o.0 mark && touches o.1 ranges) ≡ true → ⊥
none-below ranges mark [] o none has e = has
none-below ranges mark (g ∷ gs) o none has e =
    let parts = later-none (cond (group_touches_below ranges mark g) (Some g.num) None) (last_touching ranges mark gs) none in
    elim (Has-append_cases g.ops (all_ops gs) o has) [
      | inl h ↦ false≢true (sym (first-none (group_touches_below ranges mark g) g.num None parts.0).0 ∙ any-from (λ x. ltb x.0 mark && touches x.1 ranges) g.ops o h e)
      | inr h ↦ none-below ranges mark gs o parts.1 h e
    ]

none-by : (c : List Item) (limit : ℕ) (k : List ℕ) (o : Option Mark) → Decided c limit k o → ((i : Item) → Has c i → is_seen limit k i ≡ true → ⊥) → o ≡ None
none-by c limit k None d none = refl
none-by c limit k (Some m) (i, g, e) none = absurd (none i g.member g.seen)

-- where nothing is seen, nothing is said
pub newest-unseen : (c : List Item) (limit : ℕ) (k : List ℕ) → ((i : Item) → Has c i → is_seen limit k i ≡ true → ⊥) → newest c limit k ≡ None
newest-unseen c limit k none = none-by c limit k (newest c limit k) (decided c limit k) none

pub newest-untouched : (ranges : List Bounds) (mark : ℕ) (gs : List Group) (r : Bounds) (k : List ℕ) → last_touching ranges mark gs ≡ None → Has ranges r → holds r k ≡ true → newest (items (all_ops gs)) mark k ≡ None
newest-untouched ranges mark gs r k none has held = newest-unseen (items (all_ops gs)) mark k (λ i h seen.
    let (o, there, e) = Has-from_map (λ x. item_at x.0 x.1) (all_ops gs) i h in
    let (at_i, low) = and_parts (here k i) (ltb (seq_of i) mark) seen in
    none-below ranges mark gs o none there (and_from (ltb o.0 mark) (touches o.1 ranges)
    (ap (λ n. ltb n mark) (sym (seq-item o.0 o.1) ∙ ap seq_of e) ∙ low)
    (touches-here ranges o.0 o.1 r k has held (ap (here k) e ∙ at_i))))
