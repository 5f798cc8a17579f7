-- A running compaction stays under way through the edit of a load that doesn't cancel it.
use Rattle.std.proofs.Common.{◌≡◌, ℕ, zero, suc, ◌+◌, ◌<◌, ◌≤◌, ◌⊎◌, true, false, not, List, [], ◌∷◌, filter, take, drop, inl, inr, refl, sym, ap, ◌∙◌, subst, arith}
use Rattle.std.proofs.lemmas.Bool.{cases_Bool, false≢true}
use Rattle.xdb_key.specs.Bounds.{Bounds}
use Rattle.xdb_edit.specs.Plans.{place}
use Rattle.xdb_edit.specs.Versions.{LevelLists, tables_of}
use Rattle.xdb_meta.specs.Table.{Table, bounds_of}
use Rattle.xdb_plain.specs.Edits.{halved}
use Rattle.xdb_rangedel.specs.Content.{Item, seq_of, here}
use Rattle.xdb_rangedel.specs.Layers.{IsAllBelow}
use Rattle.xdb_rangedel.specs.Members.{Has, SameMembers}
use Rattle.xdb_rangedel.proofs.MemberLaws.{Has-append_left, Has-append_right, Has-append_cases}
use Rattle.xdb_stripes.proofs.AnyLaws.{Has-filter, Has-from_filter}
use Rattle.xdb_stripes.specs.declared.floor.Floor.{Floor}
use Rattle.xdb_laws.specs.Excises.{KeepsTo}
use Rattle.xdb_laws.specs.LoadEdit.{LoadEdit, is_met, levels_after, AreInputsBeside, IsLoadEdit}
use Rattle.xdb_laws.specs.Ordered.{joined, HasSource}
use Rattle.xdb_laws.specs.Tables.{is_input, inputs_from, others_from, tables_in, content_of, stands_above, stands_below, IsUnderWay}
use Rattle.xdb_laws.proofs.CompactLaws.{stays-between}
use Rattle.xdb_laws.proofs.InstallLaws.{number-loads}
use Rattle.xdb_laws.proofs.LoadEditLaws.{zero-first, load-items, loads, edited-from, edited-kept}
use Rattle.xdb_laws.proofs.OrderLaws.{source-in}
use Rattle.xdb_laws.proofs.RoomLaws.{place-running, bounds-apart}
use Rattle.xdb_laws.proofs.TableLaws.{flat-has, flat-from, others-edited, below-edited}

-- ---- inputs, and others, by their level

in-others : (inputs : List (ℕ × ℕ)) (base count : ℕ) (levels : LevelLists) (i : ℕ) (t : Table) → Has (tables_of levels i) t → i < count → is_input inputs (base + i) t ≡ false → Has (others_from inputs base (take count levels)) t
in-others inputs base zero levels i t h low not_in = absurd (omega arith)
in-others inputs base (suc count) [] i t h low not_in = absurd h
in-others inputs base (suc count) (ts ∷ levels) zero t h low not_in =
    let same : base + 0 ≡ base = omega arith in
    let off : is_input inputs base t ≡ false = subst (λ n. is_input inputs n t ≡ false) same not_in in
    Has-append_left (filter (λ u. not (is_input inputs base u)) ts) (others_from inputs (suc base) (take count levels)) t (Has-filter (λ u. not (is_input inputs base u)) ts t h (ap not off))
in-others inputs base (suc count) (ts ∷ levels) (suc i) t h low not_in =
    let same : base + suc i ≡ suc base + i = omega arith in
    Has-append_right (filter (λ u. not (is_input inputs base u)) ts) (others_from inputs (suc base) (take count levels)) t (in-others inputs (suc base) count levels i t h (omega arith) (subst (λ n. is_input inputs n t ≡ false) same not_in))

in-below : (count : ℕ) (levels : LevelLists) (i : ℕ) (t : Table) → Has (tables_of levels i) t → count ≤ i → Has (tables_in (drop count levels)) t
in-below count [] i t h low = absurd h
in-below zero (ts ∷ levels) zero t h low = Has-append_left ts (tables_in levels) t h
in-below zero (ts ∷ levels) (suc i) t h low = Has-append_right ts (tables_in levels) t (in-below zero levels i t h (omega arith))
in-below (suc count) (ts ∷ levels) zero t h low = absurd (omega arith)
in-below (suc count) (ts ∷ levels) (suc i) t h low = in-below count levels i t h (omega arith)

in-inputs : (inputs : List (ℕ × ℕ)) (base : ℕ) (levels : LevelLists) (i : ℕ) (t : Table) → Has (tables_of levels i) t → is_input inputs (base + i) t ≡ true → Has (inputs_from inputs base levels) t
in-inputs inputs base [] i t h is_in = absurd h
in-inputs inputs base (ts ∷ levels) zero t h is_in =
    let same : base + 0 ≡ base = omega arith in
    Has-append_left (filter (is_input inputs base) ts) (inputs_from inputs (suc base) levels) t (Has-filter (is_input inputs base) ts t h (subst (λ n. is_input inputs n t ≡ true) same is_in))
in-inputs inputs base (ts ∷ levels) (suc i) t h is_in =
    let same : base + suc i ≡ suc base + i = omega arith in
    Has-append_right (filter (is_input inputs base) ts) (inputs_from inputs (suc base) levels) t (in-inputs inputs (suc base) levels i t h (subst (λ n. is_input inputs n t ≡ true) same is_in))

from-inputs : (inputs : List (ℕ × ℕ)) (base : ℕ) (levels : LevelLists) (t : Table) → Has (inputs_from inputs base levels) t → (i : ℕ) × Has (tables_of levels i) t × (is_input inputs (base + i) t ≡ true)
from-inputs inputs base [] t h = absurd h
from-inputs inputs base (ts ∷ levels) t h = elim (Has-append_cases (filter (is_input inputs base) ts) (inputs_from inputs (suc base) levels) t h) [
  | inl g ↦
      let (has, is_in) = Has-from_filter (is_input inputs base) ts t g in
      let same : base ≡ base + 0 = omega arith in
      (0, has, subst (λ n. is_input inputs n t ≡ true) same is_in)
  | inr g ↦
      let (i, has, is_in) = from-inputs inputs (suc base) levels t g in
      let same : suc base + i ≡ base + suc i = omega arith in
      (suc i, has, subst (λ n. is_input inputs n t ≡ true) same is_in)
]

module _ (content : Table → List Item) (groups : List (List Item)) (x : LoadEdit) (is : IsLoadEdit content groups x) (level : ℕ) (inputs : List (ℕ × ℕ)) (given : List Item) (floor : Floor) (hull : Bounds) where
  abbrev count : ℕ
  count = suc (suc level)

  not-input : AreInputsBeside x inputs → (l : ℕ) (t : Table) → Has (tables_of x.levels l) t → is_met x.out (bounds_of t) ≡ true → is_input inputs l t ≡ false
  not-input beside l t h met = elim (cases_Bool (is_input inputs l t)) [
    | inl e ↦ absurd (false≢true (sym (beside l t h e) ∙ met))
    | inr e ↦ e
  ]

  others-there : (t : Table) (i : Item) → Has (others_from inputs 0 (take count x.levels)) t → Has (content t) i → Has (stands_above content groups x.levels level inputs) i
  others-there t i h g = Has-append_right (joined groups) (content_of content (others_from inputs 0 (take count x.levels))) i (flat-has content (others_from inputs 0 (take count x.levels)) t i h g)

  -- an item of a half comes from its table
  half-source : (l : ℕ) (h s : Table) (k : List ℕ) (i : Item) → Has (tables_of x.levels l) s → is_met x.out (bounds_of s) ≡ true → Has (x.halves s) h → Has (content h) i → here k i ≡ true → HasSource (content s) k i
  half-source l h s k i there met has g at_i = (is.cut l s there met).drawn k i (flat-has content (x.halves s) h i has g) at_i

  above-new : AreInputsBeside x inputs → (k : List ℕ) (i : Item) → Has (stands_above content groups (levels_after x) level inputs) i → here k i ≡ true → HasSource (stands_above content groups x.levels level inputs) k i ⊎ (x.next ≤ seq_of i)
  above-new beside k i h at_i = elim (Has-append_cases (joined groups) (content_of content (others_from inputs 0 (take count (levels_after x)))) i h) [
    | inl g ↦ inl (i, Has-append_left (joined groups) (content_of content (others_from inputs 0 (take count x.levels))) i g, at_i, refl, refl)
    | inr g ↦
        let (t, has, at_t) = flat-from content (others_from inputs 0 (take count (levels_after x))) i g in
        elim (others-edited inputs x.edit 0 count x.levels t has) [
          | inl old ↦ inl (i, others-there t i old at_t, at_i, refl, refl)
          | inr new ↦
              let (a, added, same, low) = new in
              let at_a : Has (content a.1) i = subst (λ u. Has (content u) i) (sym same) at_t in
              elim ((is.edit.added a).0 added) [
                | inl half ↦
                    let (s, there, met, one) = half in
                    inl (source-in (content s) (stands_above content groups x.levels level inputs) k i
                    (λ j p. others-there s j (in-others inputs 0 count x.levels a.0 s there (omega arith) (ap (λ n. is_input inputs n s) (zero-first a.0) ∙ not-input beside a.0 s there met)) p)
                    (half-source a.0 a.1 s k i there met one at_a at_i))
                | inr loaded ↦ let e = number-loads x.next x.tables (loads content groups x is) i is.loads (load-items content groups x is a i loaded at_a) in inr (omega arith)
              ]
        ]
  ]

  below-new : Has x.running hull → KeepsTo hull given → (k : List ℕ) (g i : Item) → Has given g → Has (stands_below content (levels_after x) level) i → here k g ≡ true → here k i ≡ true → HasSource (stands_below content x.levels level) k i
  below-new running keeps k g i has_g h at_g at_i =
      let (t, has, at_t) = flat-from content (tables_in (drop count (levels_after x))) i h in
      elim (below-edited x.edit 0 count x.levels t has) [
        | inl old ↦ (i, flat-has content (tables_in (drop count x.levels)) t i old at_t, at_i, refl, refl)
        | inr new ↦
            let (a, added, same, low) = new in
            let at_a : Has (content a.1) i = subst (λ u. Has (content u) i) (sym same) at_t in
            elim ((is.edit.added a).0 added) [
              | inl half ↦
                  let (s, there, met, one) = half in
                  source-in (content s) (stands_below content x.levels level) k i
                  (λ j p. flat-has content (tables_in (drop count x.levels)) s j (in-below count x.levels a.0 s there (omega arith)) p)
                  (half-source a.0 a.1 s k i there met one at_a at_i)
              | inr loaded ↦
                  let at : a.0 ≡ place (halved x.levels x.edit) x.running (bounds_of a.1) = is.edit.placed a loaded in
                  let off = place-running (halved x.levels x.edit) x.running (bounds_of a.1) hull (subst (λ n. 0 < n) at (omega arith)) running in
                  absurd (bounds-apart (bounds_of a.1) hull (content a.1) given (is.loaded a loaded) keeps off k i g at_a has_g at_i at_g)
            ]
      ]

  pub load-under_way : IsAllBelow x.next given → Has x.running hull → KeepsTo hull given → AreInputsBeside x inputs → IsUnderWay content groups x.levels level inputs given floor → IsUnderWay content groups (levels_after x) level inputs given floor
  load-under_way low running keeps beside under =
      stays-between x.next given (stands_above content groups x.levels level inputs) (stands_below content x.levels level) (stands_above content groups (levels_after x) level inputs) (stands_below content (levels_after x) level) floor under low
      (record { above = above-new beside; below = below-new running keeps })

-- the inputs stay where they were
pub load-inputs : (content : Table → List Item) (groups : List (List Item)) (x : LoadEdit) (inputs : List (ℕ × ℕ)) → IsLoadEdit content groups x → AreInputsBeside x inputs → ((a : ℕ × Table) → Has x.edit.added a → is_input inputs a.0 a.1 ≡ false) → SameMembers (inputs_from inputs 0 (levels_after x)) (inputs_from inputs 0 x.levels)
load-inputs content groups x inputs is beside new = λ t. (
  λ h.
      let (i, has, is_in) = from-inputs inputs 0 (levels_after x) t h in
      elim (edited-from x.edit x.levels i t has) [
        | inl adds ↦
            let (a, added, table, at) = adds in
            let same : is_input inputs a.0 a.1 ≡ is_input inputs (0 + i) t = (λ j. is_input inputs (at j) (table j)) ∙ sym (ap (λ n. is_input inputs n t) (zero-first i)) in
            absurd (false≢true (sym (new a added) ∙ same ∙ is_in))
        | inr kept ↦ in-inputs inputs 0 x.levels i t kept.0 is_in
      ],
  λ h.
      let (i, has, is_in) = from-inputs inputs 0 x.levels t h in
      let stays = is.edit.removed i t has ∙ beside i t has (sym (ap (λ n. is_input inputs n t) (zero-first i)) ∙ is_in) in
      in-inputs inputs 0 (levels_after x) i t (edited-kept x.edit x.levels i t has stays) is_in,
)
