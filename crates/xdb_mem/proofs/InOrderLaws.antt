-- Internal order is total. What is found in a list in internal order, and what is put into it.
use Rattle.std.proofs.Common.{◌≡◌, ℕ, ◌+◌, ◌-◌, ◌*◌, ◌<◌, ◌≤◌, Bool, true, false, not, List, [], ◌∷◌, ◌++◌, length, get_or, take, drop, inl, inr, IsTrue, refl, sym, ap, ◌∙◌, subst, arith}
use Rattle.std.proofs.lemmas.Bool.{cases_Bool, cases_eq, cases_lt, cases_order, and_from, and_left, and_right, false≢true, true≢false}
use Rattle.std.proofs.lemmas.Cmp.{on_total, then_total, back_total, nat_cmp_total}
use Rattle.std.proofs.lemmas.List.{get_or_default, get_or-take, get_or-drop, length-take, length-drop, append-nil, take-append-drop}
use Rattle.std.proofs.lemmas.List.Elements.{All-take, filter-append}
use Rattle.std.proofs.lemmas.List.Sorted.{IsPermutation-insert, IsPermutation-to_front, IsPermutation-trans}
use Rattle.std.proofs.lemmas.List.Kept.{AllPairs-cons}
use Rattle.std.specs.Cmp.{IsTotalOrder}
use Rattle.std.specs.List.{All, filter, insert}
use Rattle.std.specs.List.Sorted.{IsPartitionedBy, IsPartitionPoint}
use Rattle.std.specs.FinMap.{nat_cmp-IsAntisymmetric}
use Rattle.std.specs.Ordering.{nat_cmp, is_lt, is_le, ordering_then, ordering_reverse}
use Rattle.std.specs.declared.cmp.Ordering.{Ordering}
use Rattle.std.specs.declared.cmp.Ordering.TheVariants.{Less, Equal, Greater}
use Rattle.xdb_key.specs.Bounds.{Bounds, holds}
use Rattle.xdb_key.specs.Entries.{Point}
use Rattle.xdb_key.specs.Kinds.{trailer, kind_code}
use Rattle.xdb_key.specs.Order.{key_cmp, is_below, is_upto}
use Rattle.xdb_key.specs.declared.op.Kind.{Kind}
use Rattle.xdb_key.specs.declared.op.Kind.TheVariants as kinds
use Rattle.xdb_key.proofs.OrderLaws.{key_total, upto-not_below, upto_below}
use Rattle.xdb_rangedel.specs.Members.{Has, SameMembers}
use Rattle.xdb_rangedel.proofs.MemberLaws.{Has-append_left, Has-append_right, Has-append_cases, Has-get_or}
use Rattle.xdb_rangedel.proofs.FragmentLaws.{All-at_Has}
use Rattle.xdb_rangedel.proofs.StripLaws.{same_after_sort}
use Rattle.xdb_mem.specs.InOrder.{internal_order, comes_before, AreInOrder, AreNumbered}
use Rattle.xdb_mem.proofs.ListLaws.{filter_all, filter_none, front_all, back_all, AllPairs-take, AllPairs-drop, AllPairs-append}

pub internal_total : IsTotalOrder internal_order
internal_total = then_total (on_total (λ (p : Point). p.key) key_total) (back_total (on_total (λ (p : Point). trailer p.seq p.kind) nat_cmp_total))

less_from : (r : Ordering) → is_lt r ≡ true → r ≡ Less
less_from Less h = refl
less_from Equal h = absurd (false≢true h)
less_from Greater h = absurd (false≢true h)

pub before_trans : (a b c : Point) → comes_before a b ≡ true → comes_before b c ≡ true → comes_before a c ≡ true
before_trans a b c p q = ap is_lt (internal_total.trans a b c (less_from (internal_order a b) p) (less_from (internal_order b c) q))

then_lt : (r s : Ordering) → is_lt (ordering_then r s) ≡ true → is_le r ≡ true
then_lt Less s h = refl
then_lt Equal s h = refl
then_lt Greater s h = absurd (false≢true h)

pub before_keys : (p q : Point) → comes_before p q ≡ true → is_upto p.key q.key ≡ true
before_keys p q h = then_lt (key_cmp p.key q.key) (nat_cmp (trailer q.seq q.kind) (trailer p.seq p.kind)) h

-- what passes a test also passes where it stands earlier
-- all entries stand before what the last one stands before
pub last-before : (ps : List Point) (n : ℕ) (x e : Point) → AreInOrder ps → n + 1 ≡ length ps → comes_before (get_or ps n x) e ≡ true → (k : ℕ) (d : Point) → k < length ps → comes_before (get_or ps k d) e ≡ true
last-before ps n x e order long h k d less =
    let last : comes_before (get_or ps n d) e ≡ true = ap (λ p. comes_before p e) (get_or_default ps n d x (omega arith)) ∙ h in
    elim (cases_eq k n) [
      | inl same ↦ ap (λ i. comes_before (get_or ps i d) e) same ∙ last
      | inr ne ↦ before_trans (get_or ps k d) (get_or ps n d) e (order k n d (omega arith) (omega arith)) last
    ]

partitioned_by : (t : Point → Bool) (ps : List Point) → AreInOrder ps → ((p q : Point) → comes_before p q ≡ true → t q ≡ true → t p ≡ true) → IsPartitionedBy t ps
partitioned_by t ps order step = λ i j d i_le_j inside h. elim (cases_order i j) [
  | inl e ↦ ap (λ n. t (get_or ps n d)) e ∙ h
  | inr (inl less) ↦ step (get_or ps i d) (get_or ps j d) (order i j d less inside) h
  | inr (inr more) ↦ absurd (omega arith)
]

pub before-partitioned : (e : Point) (ps : List Point) → AreInOrder ps → IsPartitionedBy (λ p. comes_before p e) ps
before-partitioned e ps order = partitioned_by (λ p. comes_before p e) ps order (λ p q before h. before_trans p q e before h)

pub key-partitioned : (at : List ℕ) (ps : List Point) → AreInOrder ps → IsPartitionedBy (λ p. is_below p.key at) ps
key-partitioned at ps order = partitioned_by (λ p. is_below p.key at) ps order (λ p q before h. upto_below p.key q.key at (before_keys p q before) h)

-- ---- what has its key in a range

passes-false : (lo k : List ℕ) → is_below k lo ≡ true → is_upto lo k ≡ false
passes-false lo k h = upto-not_below lo k ∙ ap not h

passes-true : (lo k : List ℕ) → is_below k lo ≡ false → is_upto lo k ≡ true
passes-true lo k h = upto-not_below lo k ∙ ap not h

pub in_range-is : (r : Bounds) (ps rest : List Point) (n m : ℕ) → rest ≡ drop n ps → IsPartitionPoint (λ p. is_below p.key r.lo ≡ true) (λ p. is_below p.key r.lo ≡ false) ps n → IsPartitionPoint (λ p. is_below p.key r.hi ≡ true) (λ p. is_below p.key r.hi ≡ false) rest m → take m rest ≡ filter (λ p. holds r p.key) ps
in_range-is r ps rest n m e lower upper =
    let t : Point → Bool = λ p. holds r p.key in
    let below : All (λ p. t p ≡ false) (take n ps) = λ k d h. and_left (is_upto r.lo (get_or (take n ps) k d).key) (is_below (get_or (take n ps) k d).key r.hi) (passes-false r.lo (get_or (take n ps) k d).key (front_all (λ p. is_below p.key r.lo ≡ true) (λ p. is_below p.key r.lo ≡ false) ps n lower k d h)) in
    let from : All (λ p. is_below p.key r.lo ≡ false) rest = subst (λ xs. All (λ p. is_below p.key r.lo ≡ false) xs) (sym e) (back_all (λ p. is_below p.key r.lo ≡ true) (λ p. is_below p.key r.lo ≡ false) ps n lower) in
    let inside : All (λ p. t p ≡ true) (take m rest) = λ k d h. and_from (is_upto r.lo (get_or (take m rest) k d).key) (is_below (get_or (take m rest) k d).key r.hi) (passes-true r.lo (get_or (take m rest) k d).key (All-take (λ p. is_below p.key r.lo ≡ false) m rest from k d h)) (front_all (λ p. is_below p.key r.hi ≡ true) (λ p. is_below p.key r.hi ≡ false) rest m upper k d h) in
    let behind : All (λ p. t p ≡ false) (drop m rest) = λ k d h. and_right (is_upto r.lo (get_or (drop m rest) k d).key) (is_below (get_or (drop m rest) k d).key r.hi) (back_all (λ p. is_below p.key r.hi ≡ true) (λ p. is_below p.key r.hi ≡ false) rest m upper k d h) in
    let middle : filter t rest ≡ take m rest =
    ap (filter t) (sym (take-append-drop m rest)) ∙ filter-append t (take m rest) (drop m rest) ∙ ap (λ xs. filter t (take m rest) ++ xs) (filter_none t (drop m rest) behind) ∙ append-nil (filter t (take m rest)) ∙ filter_all t (take m rest) inside in
    let whole : filter t ps ≡ filter t (drop n ps) =
    ap (filter t) (sym (take-append-drop n ps)) ∙ filter-append t (take n ps) (drop n ps) ∙ ap (λ xs. xs ++ filter t (drop n ps)) (filter_none t (take n ps) below) in
    sym middle ∙ ap (filter t) e ∙ sym whole

-- from a place on no key is below the bound
pub none_behind : (at : List ℕ) (ps : List Point) (n : ℕ) (x : Point) → AreInOrder ps → is_below (get_or ps n x).key at ≡ false → n < length ps → All (λ p. is_below p.key at ≡ false) (drop n ps)
none_behind at ps n x order first inside = λ k d h.
    let there : n + k < length ps = omega (arith, length-drop n ps) in
    let here : is_below (get_or ps n d).key at ≡ false = ap (λ p. is_below p.key at) (get_or_default ps n d x inside) ∙ first in
    ap (λ p. is_below p.key at) (get_or-drop n ps k d) ∙ elim (cases_Bool (is_below (get_or ps (n + k) d).key at)) [
      | inl is ↦ absurd (false≢true (sym here ∙ key-partitioned at ps order n (n + k) d (omega arith) there is))
      | inr isnt ↦ isnt
    ]

-- nothing stands there
pub nothing_behind : (P : Point → Type 0) (ps : List Point) (n : ℕ) → length ps ≤ n → All P (drop n ps)
nothing_behind P ps n past = λ k d h. absurd (omega (arith, length-drop n ps))

-- a place that was found in the front
pub split_front : (P Q : Point → Type 0) (ps : List Point) (reach n : ℕ) → reach ≤ length ps → n ≤ length (take reach ps) → IsPartitionPoint P Q (take reach ps) n → All Q (drop reach ps) → (n ≤ length ps) × IsPartitionPoint P Q ps n
split_front P Q ps reach n within small split behind =
    let long : length (take reach ps) ≡ reach = omega (arith, length-take reach ps) in (
      omega arith,
      (
        λ k d from upto. subst P (get_or-take reach ps k d (omega arith)) (split.0 k d from upto),
        λ k d from inside. elim (cases_lt k reach) [
          | inl less ↦ subst Q (get_or-take reach ps k d less) (split.1 k d from (omega arith))
          | inr more ↦ subst Q (get_or-drop reach ps (k - reach) d ∙ ap (λ i. get_or ps i d) (omega arith)) (behind (k - reach) d (omega (arith, length-drop reach ps)))
        ],
      ),
    )

-- ---- what is put at its place

-- what stands before an entry, and what it stands before
record Fits (ps : List Point) (n : ℕ) (e : Point) : Type 0 where
  split : IsPartitionPoint (λ p. comes_before p e ≡ true) (λ p. comes_before p e ≡ false) ps n
  next : n < length ps → comes_before e (get_or ps n e) ≡ true

behind_all : (ps : List Point) (n : ℕ) (e : Point) → AreInOrder ps → Fits ps n e → All (λ p. IsTrue (comes_before e p)) (drop n ps)
behind_all ps n e order fits = λ k d h.
    let there : n + k < length ps = omega (arith, length-drop n ps) in
    let start : n < length ps = omega arith in
    let first : comes_before e (get_or ps n d) ≡ true = ap (comes_before e) (get_or_default ps n d e start) ∙ fits.next start in
    elim (cases_order 0 k) [
      | inl zero_k ↦ ap (comes_before e) (get_or-drop n ps k d ∙ ap (λ i. get_or ps i d) (omega arith)) ∙ first
      | inr (inl more) ↦
          ap (comes_before e) (get_or-drop n ps k d) ∙ before_trans e (get_or ps n d) (get_or ps (n + k) d) first (order n (n + k) d (omega arith) there)
      | inr (inr less) ↦ absurd (omega arith)
    ]

pub put-ordered : (ps : List Point) (n : ℕ) (e : Point) → AreInOrder ps → IsPartitionPoint (λ p. comes_before p e ≡ true) (λ p. comes_before p e ≡ false) ps n → (n < length ps → comes_before e (get_or ps n e) ≡ true) → AreInOrder (insert ps n e)
put-ordered ps n e order split next =
    let R : Point → Point → Type 0 = λ p q. IsTrue (comes_before p q) in
    let after : All (R e) (drop n ps) = behind_all ps n e order (record { split = split; next = next }) in
    let before = front_all (λ p. comes_before p e ≡ true) (λ p. comes_before p e ≡ false) ps n split in
    AllPairs-append R (take n ps) (e ∷ drop n ps) (AllPairs-take R n ps order) (AllPairs-cons R e (drop n ps) after (AllPairs-drop R n ps order))
    (λ x y has_x has_y.
    let x_before : comes_before x e ≡ true = All-at_Has (λ p. comes_before p e ≡ true) (take n ps) x before has_x in
    elim has_y [
      | inl same ↦ sym (ap (comes_before x) same) ∙ x_before
      | inr later ↦ before_trans x e y x_before (All-at_Has (R e) (drop n ps) y after later)
    ])

pub put-members : (ps : List Point) (n : ℕ) (e : Point) → SameMembers (insert ps n e) (ps ++ e ∷ [])
put-members ps n e = same_after_sort (ps ++ e ∷ []) (insert ps n e) (IsPermutation-trans (ps ++ e ∷ []) (e ∷ ps) (insert ps n e) (IsPermutation-to_front ps e) (IsPermutation-insert ps n e))

neither : (r s : Ordering) → r ≡ ordering_reverse s → is_lt r ≡ false → is_lt s ≡ false → r ≡ Equal
neither Less s e h g = absurd (true≢false h)
neither Equal s e h g = refl
neither Greater Less e h g = absurd (true≢false g)
neither Greater Equal e h g = absurd (cc)
neither Greater Greater e h g = absurd (cc)

then_equal : (r s : Ordering) → ordering_then r s ≡ Equal → s ≡ Equal
then_equal Less s h = absurd (cc)
then_equal Equal s h = h
then_equal Greater s h = absurd (cc)

equal_from : (a b : ℕ) → nat_cmp a b ≡ Equal → a ≡ b
equal_from a b h = nat_cmp-IsAntisymmetric a b h

code_small : (k : Kind) → kind_code k < 256
code_small kinds.Del = omega arith
code_small kinds.Set = omega arith
code_small kinds.SpanDel = omega arith

seq_from_trailer : (m n a b : ℕ) → m * 256 + a ≡ n * 256 + b → a < 256 → b < 256 → m ≡ n
seq_from_trailer m n a b e h g = omega arith

-- entries of which neither stands before the other have one number
pub tied_numbers : (p q : Point) → comes_before p q ≡ false → comes_before q p ≡ false → p.seq ≡ q.seq
tied_numbers p q h g =
    let tie = neither (internal_order p q) (internal_order q p) (internal_total.antisymm p q) h g in
    let level = then_equal (key_cmp p.key q.key) (nat_cmp (trailer q.seq q.kind) (trailer p.seq p.kind)) tie in
    sym (seq_from_trailer q.seq p.seq (kind_code q.kind) (kind_code p.kind) (equal_from (trailer q.seq q.kind) (trailer p.seq p.kind) level) (code_small q.kind) (code_small p.kind))

pub stands-members : (ps : List Point) (n : ℕ) (e : Point) → IsPartitionPoint (λ p. comes_before p e ≡ true) (λ p. comes_before p e ≡ false) ps n → n < length ps → comes_before e (get_or ps n e) ≡ false → AreNumbered (ps ++ e ∷ []) → SameMembers ps (ps ++ e ∷ [])
stands-members ps n e split inside not_before numbered =
    let x : Point = get_or ps n e in
    let has_x : Has ps x = Has-get_or ps n e inside in
    let number : x.seq ≡ e.seq = tied_numbers x e (split.1 n e (omega arith) inside) not_before in
    let same : x ≡ e = numbered x e (Has-append_left ps (e ∷ []) x has_x) (Has-append_right ps (e ∷ []) e (inl refl)) number in
    λ z. (
      λ h. Has-append_left ps (e ∷ []) z h,
      λ h. elim (Has-append_cases ps (e ∷ []) z h) [
        | inl g ↦ g
        | inr (inl e_z) ↦ subst (Has ps) (same ∙ e_z) has_x
        | inr (inr nothing) ↦ absurd nothing
      ],
    )
