-- What a version set counts is what the plain state counts.
use Rattle.std.proofs.Common.{◌≡◌, ℕ, ◌+◌, ◌<◌, ◌≤◌, Bool, true, false, cond, not, eqb, ◌||◌, ◌&&◌, List, [], ◌∷◌, ◌++◌, map, length, filter, sum_by, Option, Some, None, is_some, inl, inr, ◌⊎◌, refl, sym, ap, ◌∙◌, subst, arith}
use Rattle.std.proofs.lemmas.Bool.{false≢true, cases_Bool, cases_eq, and_right, not-true, eq-eqb, ne_eqb, eqb-true, cond-true, cond-false}
use Rattle.std.proofs.lemmas.List.{map-append}
use Rattle.std.proofs.lemmas.List.Elements.{recursion_from_All}
use Rattle.std.proofs.lemmas.List.Sums.{sum_by-cons, sum_by-append, length-filter}
use Rattle.std.specs.List.{flat_map, AllByRecursion}
use Rattle.std.specs.Option.{option_map}
use Rattle.xdb_edit.specs.Versions.{LevelLists}
use Rattle.xdb_lists.proofs.KeyLaws.{rising_map}
use Rattle.xdb_lists.proofs.NumberLaws.{among_first, eqb_turned}
use Rattle.xdb_lists.proofs.OrderLaws.{AllPairs-head, AllPairs-tail}
use Rattle.xdb_lists.specs.Keyed.{IsRising, at_key}
use Rattle.xdb_lists.specs.Numbers.{is_among}
use Rattle.xdb_mem.proofs.PickLaws.{Has-filter, Has-from_filter}
use Rattle.xdb_meta.specs.Table.{Table}
use Rattle.xdb_model.proofs.ListLaws.{all-from_has, all-has, all-filtered, pairs-filtered, pairs-append, pairs-map, pairs-more}
use Rattle.xdb_model.specs.Apart.{Pairwise}
use Rattle.xdb_model.specs.Reserved.{RiseWithin}
use Rattle.xdb_plain.specs.Counts.{distinct, backings, used, count, counts, with_numbers, is_owned, is_dead, dead}
use Rattle.xdb_plain.specs.State.{Plain, Version, Hold}
use Rattle.xdb_rangedel.proofs.MemberLaws.{Has-append_left, Has-append_right, Has-append_cases, Has-map, Has-from_map, none-held}
use Rattle.xdb_rangedel.specs.Members.{Has, SameMembers}
use Rattle.xdb_steps.specs.Core.{Files}
use Rattle.xdb_steps.specs.Parts.Files.{FilesAgree}
use Rattle.xdb_steps.specs.SetFiles.{AreOfSet}
use Rattle.xdb_steps.proofs.Finding.{found-there, found-only}
use Rattle.xdb_steps.proofs.KnownNumbers.{or_nothing, among-with, rise-with, rise-filtered, rise-from, same-numbers}
use Rattle.xdb_vset.proofs.HoldLaws.{held_tells}
use Rattle.xdb_vset.specs.Backings.{count_in, file_in}
use Rattle.xdb_vset.specs.Counts.{named_in, named_by}
use Rattle.xdb_vset.specs.Counts.{count as set_count}
use Rattle.xdb_vset.proofs.SetLaws.{dead_is}
use Rattle.xdb_vset.specs.Holds.{slot_of}
use Rattle.xdb_vset.specs.declared.files.Backing.{Backing}
use Rattle.xdb_vset.specs.Seen.{Seen, IsSet, named, version_of}
use Rattle.xdb_vset.specs.Seen.{is_dead as is_dead_in}
use Rattle.xdb_vset.specs.Versions.{Numbered}

-- ---- how often a file is named

abbrev cnt : ℕ → List ℕ → ℕ
cnt b xs = length (filter (λ x. eqb x b) xs)

cnt-append : (b : ℕ) (xs ys : List ℕ) → cnt b (xs ++ ys) ≡ cnt b xs + cnt b ys
cnt-append b xs ys =
    length-filter (λ x. eqb x b) (xs ++ ys) ∙ sum_by-append (λ x. cond {A = ℕ} (eqb x b) 1 0) xs ys
    ∙ (λ i. sym (length-filter (λ x. eqb x b) xs) i + sym (length-filter (λ x. eqb x b) ys) i)

in-tables : (b : ℕ) (ts : List Table) → cnt b (map (λ (t : Table). t.backing) ts) ≡ named_in b ts
in-tables b [] = refl
in-tables b (t ∷ ts) =
    let head = length-filter (λ x. eqb x b) (map (λ (t : Table). t.backing) (t ∷ ts)) ∙ sum_by-cons (λ x. cond {A = ℕ} (eqb x b) 1 0) t.backing (map (λ (t : Table). t.backing) ts) in
    let rest = sym (length-filter (λ x. eqb x b) (map (λ (t : Table). t.backing) ts)) ∙ in-tables b ts in
    head ∙ (λ i. cond {A = ℕ} (eqb_turned t.backing b i) 1 0 + rest i) ∙ sym (sum_by-cons (λ (x : Table). cond {A = ℕ} (eqb b x.backing) 1 0) t ts)

in-levels : (b : ℕ) (levels : LevelLists) → cnt b (map (λ (t : Table). t.backing) (flat_map (λ ts. ts) levels)) ≡ named_by b levels
in-levels b [] = refl
in-levels b (ts ∷ rest) =
    ap (cnt b) (map-append (λ (t : Table). t.backing) ts (flat_map (λ us. us) rest))
    ∙ cnt-append b (map (λ (t : Table). t.backing) ts) (map (λ (t : Table). t.backing) (flat_map (λ us. us) rest))
    ∙ (λ i. in-tables b ts i + in-levels b rest i) ∙ sym (sum_by-cons (named_in b) ts rest)

in-versions : (b : ℕ) (vs : List Version) → cnt b (flat_map backings vs) ≡ sum_by (λ v. named_by b v.levels) vs
in-versions b [] = refl
in-versions b (v ∷ vs) =
    cnt-append b (backings v) (flat_map backings vs) ∙ (λ i. in-levels b v.levels i + in-versions b vs i) ∙ sym (sum_by-cons (λ (w : Version). named_by b w.levels) v vs)

-- ---- sums over lists with the same members

abbrev AreOneEach : List Version → Type 0
AreOneEach vs = Pairwise (λ v w. eqb v.num w.num ≡ false) vs

turned : (v w : Version) → eqb v.num w.num ≡ false → eqb w.num v.num ≡ false
turned v w e = eqb_turned w.num v.num ∙ e

-- those of other numbers
abbrev others : Version → List Version → List Version
others x ys = filter (λ y. not (eqb y.num x.num)) ys

all-others : (x : Version) (ys : List Version) → AllByRecursion (λ y. eqb x.num y.num ≡ false) ys → others x ys ≡ ys
all-others x [] all = refl
all-others x (y ∷ ys) all =
    ap (λ b. cond (not b) (y ∷ filter (λ z. not (eqb z.num x.num)) ys) (filter (λ z. not (eqb z.num x.num)) ys)) (turned x y all.0) ∙ ap (λ zs. y ∷ zs) (all-others x ys all.1)

module _ (g : Version → ℕ) where
  sum-without : (x : Version) (ys : List Version) → AreOneEach ys → Has ys x → sum_by g ys ≡ g x + sum_by g (others x ys)
  sum-without x [] each has = absurd has
  sum-without x (y ∷ ys) each (inl same) =
      let drops : others x (y ∷ ys) ≡ ys =
      ap (λ b. cond (not b) (y ∷ others x ys) (others x ys)) (eq-eqb y.num x.num (ap (λ (v : Version). v.num) same)) ∙ all-others x ys (subst (λ (v : Version). AllByRecursion (λ z. eqb v.num z.num ≡ false) ys) same each.0) in
      sum_by-cons g y ys ∙ (λ i. g (same i) + sum_by g (sym drops i))
  sum-without x (y ∷ ys) each (inr has) =
      let apart : eqb y.num x.num ≡ false = all-has (λ (z : Version). eqb y.num z.num ≡ false) ys x has each.0 in
      let keeps : others x (y ∷ ys) ≡ y ∷ others x ys = ap (λ b. cond (not b) (y ∷ others x ys) (others x ys)) apart in
      let more = sum-without x ys each.1 has in
      let one = sum_by-cons g y ys in
      let two = sum_by-cons g y (others x ys) in
      let three : sum_by g (others x (y ∷ ys)) ≡ sum_by g (y ∷ others x ys) = ap (sum_by g) keeps in
      omega arith

  sum-same : (xs ys : List Version) → AreOneEach xs → AreOneEach ys → SameMembers xs ys → sum_by g xs ≡ sum_by g ys
  sum-same [] ys dx dy same = ap (sum_by g) (sym (none-held ys (λ y has. (same y).1 has)))
  sum-same (x ∷ xs) ys dx dy same =
      let there : Has ys x = (same x).0 (inl refl) in
      let rest = sum-same xs (others x ys) dx.1 (pairs-filtered (λ (v w : Version). eqb v.num w.num ≡ false) (λ y. not (eqb y.num x.num)) ys dy) (λ z. (
        λ has. Has-filter (λ (y : Version). not (eqb y.num x.num)) ys z ((same z).0 (inr has)) (ap not (turned x z (all-has (λ (y : Version). eqb x.num y.num ≡ false) xs z has dx.0))),
        λ has.
            let from = Has-from_filter (λ (y : Version). not (eqb y.num x.num)) ys z has in
            behind z ((same z).1 from.0) from.1,
      )) in
      sum_by-cons g x xs ∙ ap (λ n. g x + n) rest ∙ sym (sum-without x ys dy there)
    where
      behind : (z : Version) → (x ≡ z) ⊎ Has xs z → not (eqb z.num x.num) ≡ true → Has xs z
      behind z (inl same) off = absurd (false≢true (sym (ap not (eq-eqb z.num x.num (ap (λ (v : Version). v.num) (sym same)))) ∙ off))
      behind z (inr has) off = has

-- ---- each version once

distinct-once : (vs : List Version) → AreOneEach (distinct vs)
distinct-once [] = tt
distinct-once (v ∷ vs) = (
  all-filtered (λ (w : Version). eqb v.num w.num ≡ false) (λ w. not (eqb w.num v.num)) (distinct vs) (λ w has off. turned w v (not-true (eqb w.num v.num) off)),
  pairs-filtered (λ (v w : Version). eqb v.num w.num ≡ false) (λ w. not (eqb w.num v.num)) (distinct vs) (distinct-once vs),
)

distinct-from : (vs : List Version) (x : Version) → Has (distinct vs) x → Has vs x
distinct-from [] x has = has
distinct-from (v ∷ vs) x (inl same) = inl same
distinct-from (v ∷ vs) x (inr has) = inr (distinct-from vs x (Has-from_filter (λ (w : Version). not (eqb w.num v.num)) (distinct vs) x has).0)

-- where its number tells a version
distinct-has : (vs : List Version) (x : Version) → Has vs x → ((y : Version) → Has vs y → y.num ≡ x.num → y ≡ x) → Has (distinct vs) x
distinct-has [] x has tells = has
distinct-has (v ∷ vs) x (inl same) tells = inl same
distinct-has (v ∷ vs) x (inr has) tells = elim (cases_eq x.num v.num) [
  | inl e ↦ inl (tells v (inl refl) (sym e))
  | inr ne ↦ inr (Has-filter (λ (w : Version). not (eqb w.num v.num)) (distinct vs) x (distinct-has vs x has (λ y there. tells y (inr there))) (ap not (ne_eqb x.num v.num ne)))
]

-- ---- the versions of a set

abbrev plain_version : Numbered → Version
plain_version w = record { num = w.num; levels = w.levels }

pairs-rising : (ws : List Numbered) → IsRising (λ w. w.num) ws → Pairwise (λ (v w : Numbered). v.num < w.num) ws
pairs-rising [] rising = tt
pairs-rising (w ∷ ws) rising = (recursion_from_All (λ (x : Numbered). w.num < x.num) ws (AllPairs-head (λ (v w : Numbered). v.num < w.num) w ws rising), pairs-rising ws (AllPairs-tail (λ (v w : Numbered). v.num < w.num) w ws rising))

some-is : {A : Type 0} (o : Option A) → is_some o ≡ true → (x : A) × (o ≡ Some x)
some-is None e = absurd (false≢true e)
some-is (Some x) e = (x, refl)

module _ {F : Type 0} (s : Seen F) (is : IsSet s) where
  abbrev standing : List Numbered
  standing = s.older ++ s.current ∷ []

  -- what is among the older ones is found by its number
  older-tells : (v w : Numbered) → Has s.older v → Has s.older w → v.num ≡ w.num → v ≡ w
  older-tells v w hv hw e = told s.older (pairs-rising s.older is.older_rise) hv hw
    where
      told : (ws : List Numbered) → Pairwise (λ (x y : Numbered). x.num < y.num) ws → Has ws v → Has ws w → v ≡ w
      told [] pairs a b = absurd a
      told (x ∷ ws) pairs (inl a) (inl b) = sym a ∙ b
      told (x ∷ ws) pairs (inl a) (inr b) = let less : x.num < w.num = all-has (λ (y : Numbered). x.num < y.num) ws w b pairs.0 in let same = ap (λ (y : Numbered). y.num) a in absurd (omega arith)
      told (x ∷ ws) pairs (inr a) (inl b) = let less : x.num < v.num = all-has (λ (y : Numbered). x.num < y.num) ws v a pairs.0 in let same = ap (λ (y : Numbered). y.num) b in absurd (omega arith)
      told (x ∷ ws) pairs (inr a) (inr b) = told ws pairs.1 a b

  older-found : (w : Numbered) → Has s.older w → at_key (λ (x : Numbered). x.num) w.num s.older ≡ Some w
  older-found w has = found-only (λ (x : Numbered). eqb x.num w.num) w s.older has (eq-eqb w.num w.num refl) (λ y there e. older-tells y w there has (eqb-true y.num w.num e))

  older-low : (w : Numbered) → Has s.older w → w.num < s.current.num
  older-low w has = is.older_before w.num (ap is_some (older-found w has))

  older-version : (w : Numbered) → Has s.older w → version_of s w.num ≡ Some w.levels
  older-version w has =
      let low = older-low w has in
      cond-false (eqb s.current.num w.num) (Some s.current.levels) (option_map (λ (x : Numbered). x.levels) (at_key (λ (x : Numbered). x.num) w.num s.older)) (ne_eqb s.current.num w.num (λ e. omega arith))
      ∙ ap (option_map (λ (x : Numbered). x.levels)) (older-found w has)

  current-version : version_of s s.current.num ≡ Some s.current.levels
  current-version = cond-true (eqb s.current.num s.current.num) (Some s.current.levels) (option_map (λ (x : Numbered). x.levels) (at_key (λ (x : Numbered). x.num) s.current.num s.older)) (eq-eqb s.current.num s.current.num refl)

  standing-once : AreOneEach (map plain_version standing)
  standing-once = pairs-map (λ (v w : Version). eqb v.num w.num ≡ false) plain_version standing
      (pairs-append (λ (v w : Numbered). eqb v.num w.num ≡ false) s.older (s.current ∷ [])
      (pairs-more (λ (v w : Numbered). v.num < w.num) (λ (v w : Numbered). eqb v.num w.num ≡ false) s.older (λ v w less. ne_eqb v.num w.num (λ e. omega arith)) (pairs-rising s.older is.older_rise))
      (tt, tt)
      (all-from_has (λ (v : Numbered). (eqb v.num s.current.num ≡ false) × Unit {0}) s.older (λ v has. let low = older-low v has in (ne_eqb v.num s.current.num (λ e. omega arith), tt))))

  sum-mapped : (g : Version → ℕ) (ws : List Numbered) → sum_by g (map plain_version ws) ≡ sum_by (λ w. g (plain_version w)) ws
  sum-mapped g [] = refl
  sum-mapped g (w ∷ ws) = sum_by-cons g (plain_version w) (map plain_version ws) ∙ ap (λ n. g (plain_version w) + n) (sum-mapped g ws) ∙ sym (sum_by-cons (λ (x : Numbered). g (plain_version x)) w ws)

  sum-levels : (b : ℕ) (ws : List Numbered) → set_count b (map (λ (w : Numbered). w.levels) ws) ≡ sum_by (λ (w : Numbered). named_by b w.levels) ws
  sum-levels b [] = refl
  sum-levels b (w ∷ ws) = sum_by-cons (named_by b) w.levels (map (λ (x : Numbered). x.levels) ws) ∙ ap (λ n. named_by b w.levels + n) (sum-levels b ws) ∙ sym (sum_by-cons (λ (x : Numbered). named_by b x.levels) w ws)

  -- ---- beside a plain state

  module _ (f : Files) (p : Plain) (file : ℕ) (of : AreOfSet s f) (agrees : FilesAgree f file p.current p.holds p.known p.taken) where
    abbrev plain_standing : List Version
    plain_standing = p.current ∷ map (λ (h : Hold). h.version) p.holds

    current-is : p.current ≡ plain_version s.current
    current-is = agrees.current ∙ (λ i. record { num = of.num i; levels = of.levels i })

    -- each version stands in the set under its number
    in-set : (v : Version) → Has plain_standing v → version_of s v.num ≡ Some v.levels
    in-set v (inl same) = subst (λ (x : Version). version_of s x.num ≡ Some x.levels) (sym current-is ∙ same) current-version
    in-set v (inr has) =
        let from = Has-from_map (λ (h : Hold). h.version) p.holds v has in
        subst (λ (x : Version). version_of s x.num ≡ Some x.levels) from.2 (of.held from.0 ((agrees.holds from.0).0 from.1)).levels

    same-levels : (v w : Version) → v.num ≡ w.num → version_of s v.num ≡ Some v.levels → version_of s w.num ≡ Some w.levels → v ≡ w
    same-levels v w e one other =
        let both : Some v.levels ≡ Some w.levels = sym one ∙ ap (version_of s) e ∙ other in
        let ls : v.levels ≡ w.levels = cc in
        λ i. record { num = e i; levels = ls i }

    to-set : (v : Version) → Has plain_standing v → Has (map plain_version standing) v
    to-set v (inl same) = subst (Has (map plain_version standing)) (sym current-is ∙ same) (Has-map plain_version standing s.current (Has-append_right s.older (s.current ∷ []) s.current (inl refl)))
    to-set v (inr has) =
        let from = Has-from_map (λ (h : Hold). h.version) p.holds v has in
        let one = of.held from.0 ((agrees.holds from.0).0 from.1) in
        elim (is.holds_stand from.0.id from.0.version.num one.slot) [
          | inl e ↦
              let same : from.0.version ≡ plain_version s.current = same-levels from.0.version (plain_version s.current) e one.levels current-version in
              subst (Has (map plain_version standing)) (sym same ∙ from.2) (Has-map plain_version standing s.current (Has-append_right s.older (s.current ∷ []) s.current (inl refl)))
          | inr some ↦
              let at = some-is (at_key (λ (x : Numbered). x.num) from.0.version.num s.older) some in
              let found = found-there (λ (x : Numbered). eqb x.num from.0.version.num) at.0 s.older at.1 in
              let same : from.0.version ≡ plain_version at.0 = same-levels from.0.version (plain_version at.0) (sym (eqb-true at.0.num from.0.version.num found.1)) one.levels (older-version at.0 found.0) in
              subst (Has (map plain_version standing)) (sym same ∙ from.2) (Has-map plain_version standing at.0 (Has-append_left s.older (s.current ∷ []) at.0 found.0))
        ]

    from-set : (v : Version) → Has (map plain_version standing) v → Has plain_standing v
    from-set v has =
        let from = Has-from_map plain_version standing v has in
        elim (Has-append_cases s.older (s.current ∷ []) from.0 from.1) [
          | inl older ↦
              let kept = held_tells s.slots from.0.num is.slots_rise (is.older_held from.0.num (ap is_some (older-found from.0 older))) in
              let hold = of.all kept.0 from.0.num kept.1 in
              let both : Some (Some hold.0.version.num) ≡ Some (Some from.0.num) = sym (of.held hold.0 hold.1).slot ∙ ap (λ n. slot_of n s.slots) hold.2 ∙ kept.1 in
              let num : hold.0.version.num ≡ from.0.num = cc in
              let same : hold.0.version ≡ plain_version from.0 = same-levels hold.0.version (plain_version from.0) num (of.held hold.0 hold.1).levels (older-version from.0 older) in
              subst (Has plain_standing) (same ∙ from.2) (inr (Has-map (λ (h : Hold). h.version) p.holds hold.0 ((agrees.holds hold.0).1 hold.1)))
          | inr last ↦ subst (Has plain_standing) from.2 (at-last from.0 last)
        ]
      where
        at-last : (w : Numbered) → (s.current ≡ w) ⊎ Has [] w → Has plain_standing (plain_version w)
        at-last w (inl same) = inl (current-is ∙ ap plain_version same)
        at-last w (inr nil) = absurd nil

    same-versions : SameMembers (distinct plain_standing) (map plain_version standing)
    same-versions v = (
      λ has. to-set v (distinct-from plain_standing v has),
      λ has.
          let there = from-set v has in
          distinct-has plain_standing v there (λ y other e. same-levels y v e (in-set y other) (in-set v there)),
    )

    pub counted : (b : ℕ) → count p b ≡ named s b
    counted b =
        in-versions b (distinct plain_standing)
        ∙ sum-same (λ v. named_by b v.levels) (distinct plain_standing) (map plain_version standing) (distinct-once plain_standing) standing-once same-versions
        ∙ sum-mapped (λ v. named_by b v.levels) standing ∙ sym (sum-levels b standing)

    -- ---- dead numbers

    among-filtered : (test : ℕ → Bool) (n : ℕ) (ns : List ℕ) → is_among n (filter test ns) ≡ (test n && is_among n ns)
    among-filtered test n [] = sym (and_right (test n) false refl)
    among-filtered test n (m ∷ ns) = one (test m) refl (among-filtered test n ns)
      where
        both : (a b : Bool) (e : Bool) → (a ≡ true → b ≡ true) → (a || (b && e)) ≡ (b && (a || e))
        both true b e is = sym (ap (λ x. x && true) (is refl))
        both false b e is = refl

        skips : (a b : Bool) (e : Bool) → (a ≡ true → b ≡ false) → (b && e) ≡ (b && (a || e))
        skips true b e is = ap (λ x. x && e) (is refl) ∙ sym (ap (λ x. x && true) (is refl))
        skips false b e is = refl

        one : (t : Bool) → test m ≡ t → is_among n (filter test ns) ≡ (test n && is_among n ns) → is_among n (cond (test m) (m ∷ filter test ns) (filter test ns)) ≡ (test n && (eqb m n || is_among n ns))
        one true e rest =
            ap (λ b. is_among n (cond b (m ∷ filter test ns) (filter test ns))) e ∙ ap (λ b. eqb m n || b) rest
            ∙ both (eqb m n) (test n) (is_among n ns) (λ same. ap test (sym (eqb-true m n same)) ∙ e)
        one false e rest =
            ap (λ b. is_among n (cond b (m ∷ filter test ns) (filter test ns))) e ∙ rest
            ∙ skips (eqb m n) (test n) (is_among n ns) (λ same. ap test (sym (eqb-true m n same)) ∙ e)

    module _ (unowned : (n : ℕ) → is_among n p.known ≡ true → is_owned p n ≡ false) where
      pub dead-is : (n : ℕ) → is_among n (dead p) ≡ is_dead_in s n
      dead-is n = among-filtered (is_dead p) n p.known ∙ elim (cases_Bool (is_among n p.known)) [
        | inl known ↦
            (λ i. ((eqb (counted n i) 0 && not (unowned n known i)) && not ((agrees.taken n ∙ of.taken n) i)) && known i)
            ∙ same-tests (eqb (named s n) 0) (not (is_among n s.taken))
            ∙ (λ i. sym (sym (agrees.known n ∙ of.known n) ∙ known) i && (eqb (named s n) 0 && not (is_among n s.taken)))
        | inr off ↦ ap (λ b. is_dead p n && b) off ∙ and_right (is_dead p n) false refl
            ∙ sym (ap (λ b. b && (eqb (named s n) 0 && not (is_among n s.taken))) (sym (agrees.known n ∙ of.known n) ∙ off))
      ]
        where
          same-tests : (x y : Bool) → (((x && not false) && y) && true) ≡ (true && (x && y))
          same-tests true true = refl
          same-tests true false = refl
          same-tests false y = refl

      pub dead-list : dead p ≡ s.dead
      dead-list = same-numbers 0 file (dead p) s.dead (rise-filtered (is_dead p) 0 file p.known agrees.rising) is.lists.dead_rise (λ n. dead-is n ∙ sym (dead_is s n is))

      pub none-dead : ((n : ℕ) → is_dead_in s n ≡ false) → dead p ≡ []
      none-dead off = empty (dead p) (λ n. dead-is n ∙ off n)
        where
          empty : (ns : List ℕ) → ((n : ℕ) → is_among n ns ≡ false) → ns ≡ []
          empty [] off = refl
          empty (n ∷ ns) off = absurd (false≢true (sym (off n) ∙ among_first n ns))

      pub least-dead : (d : ℕ) → is_dead_in s d ≡ true → ((n : ℕ) → is_dead_in s n ≡ true → d ≤ n) → (rest : List ℕ) × (dead p ≡ d ∷ rest)
      least-dead d is-d least = first (dead p) refl (rise-filtered (is_dead p) 0 file p.known agrees.rising)
        where
          first : (ns : List ℕ) → dead p ≡ ns → RiseWithin 0 file ns → (rest : List ℕ) × (dead p ≡ d ∷ rest)
          first [] e rising = absurd (false≢true (ap (is_among d) (sym e) ∙ dead-is d ∙ is-d))
          first (n ∷ ns) e rising =
              let there : is_among d (n ∷ ns) ≡ true = ap (is_among d) (sym e) ∙ dead-is d ∙ is-d in
              let low : n ≤ d = rise-from n file d (n ∷ ns) (omega arith, rising.1) there in
              let high : d ≤ n = least n (sym (dead-is n) ∙ ap (is_among n) e ∙ among_first n ns) in
              let same : n ≡ d = omega arith in
              (ns, e ∙ ap (λ m. m ∷ ns) same)

    -- ---- all counts

    abbrev top : List ℕ → ℕ
    top [] = 0
    top (n ∷ ns) = n + 1 + top ns

    below-top : (ns : List ℕ) (n : ℕ) → Has ns n → n < top ns
    below-top [] n has = absurd has
    below-top (m ∷ ns) n (inl same) = omega arith
    below-top (m ∷ ns) n (inr has) = let low = below-top ns n has in omega arith

    none-counted : (b : ℕ) (ns : List ℕ) → eqb (length (filter (λ x. eqb x b) ns)) 0 ≡ not (is_among b ns)
    none-counted b [] = refl
    none-counted b (n ∷ ns) = one (eqb n b) (none-counted b ns)
      where
        one : (t : Bool) → eqb (length (filter (λ x. eqb x b) ns)) 0 ≡ not (is_among b ns) → eqb (length (cond t (n ∷ filter (λ x. eqb x b) ns) (filter (λ x. eqb x b) ns))) 0 ≡ not (t || is_among b ns)
        one true rest = ne_eqb (length (n ∷ filter (λ x. eqb x b) ns)) 0 (λ e. omega arith)
        one false rest = rest

    among-backings : (b : ℕ) (bs : List (Backing F)) → is_among b (map (λ (x : Backing F). x.num) bs) ≡ is_some (file_in b bs)
    among-backings b [] = refl
    among-backings b (x ∷ bs) = one (eqb x.num b) (among-backings b bs)
      where
        one : (t : Bool) → is_among b (map (λ (y : Backing F). y.num) bs) ≡ is_some (file_in b bs) → (t || is_among b (map (λ (y : Backing F). y.num) bs)) ≡ is_some (option_map (λ (y : Backing F). y.file) (cond t (Some x) (at_key (λ (y : Backing F). y.num) b bs)))
        one true rest = refl
        one false rest = rest

    twice : (x y : Bool) → not x ≡ not y → x ≡ y
    twice true true e = refl
    twice true false e = absurd (false≢true e)
    twice false true e = absurd (false≢true (sym e))
    twice false false e = refl

    counted-numbers : with_numbers (used p) [] ≡ map (λ (x : Backing F). x.num) s.backings
    counted-numbers = same-numbers 0 (top (used p)) (with_numbers (used p) []) (map (λ (x : Backing F). x.num) s.backings)
        (rise-with (top (used p)) (used p) [] (all-from_has (λ n. n < top (used p)) (used p) (below-top (used p))) (omega arith))
        (rising_map (λ (x : Backing F). x.num) (λ n. n) (λ (x : Backing F). x.num) (λ x. refl) s.backings is.lists.named_rise)
        (λ n.
        among-with n (used p) [] ∙ or_nothing (is_among n (used p))
        ∙ twice (is_among n (used p)) (is_some (file_in n s.backings)) (sym (none-counted n (used p)) ∙ ap (λ k. eqb k 0) (counted n ∙ sym (is.counts n)) ∙ not_twice (eqb (count_in n s.backings) 0) ∙ ap not (sym (is.files n)))
        ∙ sym (among-backings n s.backings))
      where
        not_twice : (b : Bool) → b ≡ not (not b)
        not_twice true = refl
        not_twice false = refl

    pub all-counted : counts p ≡ map {B = ℕ × ℕ} (λ x. (x.num, named s x.num)) s.backings
    all-counted = ap (map {B = ℕ × ℕ} (λ b. (b, count p b))) counted-numbers ∙ each s.backings
      where
        each : (bs : List (Backing F)) → map {B = ℕ × ℕ} (λ b. (b, count p b)) (map (λ (x : Backing F). x.num) bs) ≡ map {B = ℕ × ℕ} (λ x. (x.num, named s x.num)) bs
        each [] = refl
        each (x ∷ bs) = λ i. (x.num, counted x.num i) ∷ each bs i
