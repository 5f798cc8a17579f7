-- The entries of memtables and of views are sorted, and layers in other order of spans say the same.
use Rattle.std.proofs.Common.{◌≡◌, ℕ, ◌+◌, ◌<◌, ◌≤◌, true, cond, ◌==◌, List, [], ◌∷◌, ◌++◌, length, get_or, take, map, append-nil, Option, inl, inr, sym, ap, ◌∙◌, subst, arith}
use Rattle.std.proofs.lemmas.Bool.{cases_Bool, cases_lt, cases_eq, le-ltb, false≢true}
use Rattle.std.proofs.lemmas.Grind.{flat_map-append}
use Rattle.std.proofs.lemmas.List.{map-append, take_more}
use Rattle.std.specs.Cmp.{tied_itself}
use Rattle.std.specs.Ordering.{nat_cmp, is_lt, ordering_then}
use Rattle.std.specs.declared.cmp.Ordering.TheVariants.{Less, Equal, Greater}
use Rattle.xdb_key.specs.Bounds.{Bounds}
use Rattle.xdb_key.specs.Entries.{Point, Tombstone}
use Rattle.xdb_key.specs.Kinds.{trailer, kind_code}
use Rattle.xdb_key.specs.Order.{key_cmp}
use Rattle.xdb_key.specs.declared.op.Kind.{Kind}
use Rattle.xdb_key.specs.declared.op.Kind.TheVariants as kinds
use Rattle.xdb_key.proofs.OrderLaws.{key_total}
use Rattle.xdb_laws.specs.Image.{image}
use Rattle.xdb_laws.proofs.ImageLaws.{image-is}
use Rattle.xdb_mem.specs.InOrder.{comes_before, AreInOrder}
use Rattle.xdb_mem.specs.Parts.{Parts}
use Rattle.xdb_mem.proofs.InOrderLaws.{before_keys}
use Rattle.xdb_plain.specs.Answers.{pairs_in}
use Rattle.xdb_rangedel.specs.Content.{span, said_by, value_of, newer, newest, entry_of, content_of}
use Rattle.xdb_rangedel.specs.Members.{Has, SameMembers}
use Rattle.xdb_rangedel.proofs.CoverLaws.{cover_of_unordered}
use Rattle.xdb_rangedel.proofs.NewestLaws.{newest-append, image_is_one}
use Rattle.xdb_rangedel.proofs.SpanLaws.{newest_spans_along, Has-entries_in, entries_in-keeps}
use Rattle.xdb_table_r.specs.Cursors.{Walk, IsWalk}
use Rattle.xdb_table_r.specs.Views.{AreSeen}
use Rattle.xdb_merge.specs.Layers.{IsAhead, AreSorted, entries_of, content_of_layers}
use Rattle.xdb_merge.specs.Merge.{layer_of, layers, pairs_of}
use Rattle.xdb_merge.specs.Sources.{ShowsLayer, AreAlike}
use Rattle.xdb_merge.specs.Steps.{Decides}
use Rattle.xdb_merge.proofs.DecideLaws.{entries_are}

-- ---- what is sorted

code-small : (k : Kind) → kind_code k < 256
code-small kinds.Del = omega arith
code-small kinds.Set = omega arith
code-small kinds.SpanDel = omega arith

less-tells : (m n : ℕ) → is_lt (nat_cmp m n) ≡ true → m < n
less-tells m n h = elim (cases_lt m n) [
  | inl less ↦ less
  | inr more ↦ elim (cases_Bool (m == n)) [
    | inl e ↦ absurd (false≢true (sym (ap (λ b. is_lt (cond b Less (cond (m == n) Equal Greater))) (le-ltb m n more) ∙ ap (λ b. is_lt (cond b Equal Greater)) e) ∙ h))
    | inr e ↦ absurd (false≢true (sym (ap (λ b. is_lt (cond b Less (cond (m == n) Equal Greater))) (le-ltb m n more) ∙ ap (λ b. is_lt (cond b Equal Greater)) e) ∙ h))
  ]
]

-- of two entries of a key, the one that comes before in internal order has a number not below the other's
number_falls : (p q : Point) → comes_before p q ≡ true → p.key ≡ q.key → q.seq ≤ p.seq
number_falls p q before same =
    let tied : key_cmp p.key q.key ≡ Equal = ap (λ k. key_cmp p.key k) (sym same) ∙ tied_itself key_total p.key in
    let turned : is_lt (nat_cmp (trailer q.seq q.kind) (trailer p.seq p.kind)) ≡ true = sym (ap (λ r. is_lt (ordering_then r (nat_cmp (trailer q.seq q.kind) (trailer p.seq p.kind)))) tied) ∙ before in
    let less : trailer q.seq q.kind < trailer p.seq p.kind = less-tells (trailer q.seq q.kind) (trailer p.seq p.kind) turned in
    omega (arith, code-small p.kind, code-small q.kind)

ahead_from : (p q : Point) → comes_before p q ≡ true → IsAhead p q
ahead_from p q before = record { upto = before_keys p q before; falls = number_falls p q before }

pub sorted_mem : (ps : List Point) → AreInOrder ps → AreSorted ps
sorted_mem ps order = λ i j d i_lt_j inside. ahead_from (get_or ps i d) (get_or ps j d) (order i j d i_lt_j inside)

sorted_seen : (r : Bounds) (synthetic : ℕ) (ps : List Point) → AreSeen r synthetic ps → AreSorted ps
sorted_seen r synthetic ps seen = elim (cases_eq synthetic 0) [
  | inl zeros ↦ λ i j d i_lt_j inside. ahead_from (get_or ps i d) (get_or ps j d) (seen.strict zeros i j d i_lt_j inside)
  | inr some ↦
      let least : 1 ≤ synthetic = omega (arith, some) in
      λ i j d i_lt_j inside. record {
        upto = seen.rise i j d i_lt_j inside;
        falls = λ same. omega (arith, seen.numbered least i d (omega arith), seen.numbered least j d inside);
      }
]

pub sorted_walk : {F : Type 0} (bytes : F → Option (List ℕ)) (w : Walk F) → IsWalk bytes w → AreSorted w.points
sorted_walk bytes w walk = elim (cases_Bool w.read) [
  | inl read ↦ sorted_seen _ w.view.synthetic w.points (walk.points read).seen
  | inr unread ↦ subst AreSorted (sym (walk.unread unread)) (λ i j d i_lt_j inside. absurd (omega arith))
]

-- ---- what is alike

newest-layer : (ps : List Point) (ts us : List Tombstone) → SameMembers ts us → (limit : ℕ) (k : List ℕ) → newest (content_of ps ts) limit k ≡ newest (content_of ps us) limit k
newest-layer ps ts us same limit k =
    newest-append (map entry_of ps) (map span ts) limit k
    ∙ ap (newer (newest (map entry_of ps) limit k)) (newest_spans_along ts us limit k (cover_of_unordered ts us same k limit))
    ∙ sym (newest-append (map entry_of ps) (map span us) limit k)

entries_joined : (ls : List Parts) (l : Parts) → entries_of (ls ++ l ∷ []) ≡ entries_of ls ++ l.entries
entries_joined ls l = flat_map-append (λ (x : Parts). x.entries) ls (l ∷ []) ∙ ap (λ ps. entries_of ls ++ ps) (append-nil l.entries)

newest_joined : (ls : List Parts) (l : Parts) (limit : ℕ) (k : List ℕ) → newest (content_of_layers (ls ++ l ∷ [])) limit k ≡ newer (newest (content_of_layers ls) limit k) (newest (content_of l.entries l.spans) limit k)
newest_joined ls l limit k =
    ap (λ c. newest c limit k) (flat_map-append (λ (x : Parts). content_of x.entries x.spans) ls (l ∷ []) ∙ ap (λ c. content_of_layers ls ++ c) (append-nil (content_of l.entries l.spans)))
    ∙ newest-append (content_of_layers ls) (content_of l.entries l.spans) limit k

alike_joined : (ls ms : List Parts) (l m : Parts) → AreAlike ls ms → l.entries ≡ m.entries → SameMembers l.spans m.spans → AreAlike (ls ++ l ∷ []) (ms ++ m ∷ [])
alike_joined ls ms l m alike entries spans = record {
  entries = entries_joined ls l ∙ ap (λ ps. ps ++ l.entries) alike.entries ∙ ap (λ ps. entries_of ms ++ ps) entries ∙ sym (entries_joined ms m);
  says = λ limit k.
      newest_joined ls l limit k
      ∙ ap (λ o. newer o (newest (content_of l.entries l.spans) limit k)) (alike.says limit k)
      ∙ ap (λ ps. newer (newest (content_of_layers ms) limit k) (newest (content_of ps l.spans) limit k)) entries
      ∙ ap (newer (newest (content_of_layers ms) limit k)) (newest-layer m.entries l.spans m.spans spans limit k)
      ∙ sym (newest_joined ms m limit k);
}

pub alike_mem : (F : Type 0) (mem l : Parts) (ls : List Parts) → ls ≡ l ∷ [] → l ≡ mem → AreAlike ls (layers {F = F} mem [])
alike_mem F mem l ls made is = record {
  entries = ap entries_of made ∙ ap (λ x. entries_of (x ∷ [])) is;
  says = λ limit k. ap (λ xs. newest (content_of_layers xs) limit k) made ∙ ap (λ x. newest (content_of_layers (x ∷ [])) limit k) is;
}

layers_more : {F : Type 0} (mem : Parts) (ws : List (Walk F)) (i : ℕ) (w : Walk F) → i < length ws → w ≡ get_or ws i w → layers mem (take (i + 1) ws) ≡ layers mem (take i ws) ++ layer_of w ∷ []
layers_more mem ws i w inside is = ap (λ ls. mem ∷ ls)
    (ap (map layer_of) (take_more ws i w inside ∙ ap (λ x. take i ws ++ x ∷ []) (sym is)) ∙ map-append layer_of (take i ws) (w ∷ []))

pub alike_more : {F : Type 0} (mem : Parts) (ws : List (Walk F)) (i : ℕ) (w : Walk F) (ls : List Parts) (l : Parts) → i < length ws → w ≡ get_or ws i w → w.read ≡ true → AreAlike ls (layers mem (take i ws)) → ShowsLayer w l → AreAlike (ls ++ l ∷ []) (layers mem (take (i + 1) ws))
alike_more mem ws i w ls l inside is read alike shows =
    subst (AreAlike (ls ++ l ∷ [])) (sym (layers_more mem ws i w inside is))
    (alike_joined ls (layers mem (take i ws)) l (layer_of w) alike shows.entries (shows.spans read))

-- ---- the pairs, and what decides

pub alike_pairs : (ls ms : List Parts) (r : Bounds) (at : ℕ) → AreAlike ls ms → pairs_of ls r at ≡ pairs_of ms r at
alike_pairs ls ms r at alike = ap (pairs_in r) (image_is_one (content_of_layers ms) at (image (content_of_layers ls) at) (image (content_of_layers ms) at)
    (λ k. image-is (content_of_layers ls) at k ∙ ap (λ o. value_of (said_by o)) (alike.says at k))
    (image-is (content_of_layers ms) at))

pub alike_decides : (ls ms : List Parts) (at : ℕ) (p : Point) → AreAlike ls ms → Decides (content_of_layers ls) at p → Decides (content_of_layers ms) at p
alike_decides ls ms at p alike decides = record {
  member = Has-entries_in (content_of_layers ms) (entry_of p)
      (subst (λ c. Has c (entry_of p)) (entries_are ls ∙ ap (map entry_of) alike.entries ∙ sym (entries_are ms)) (entries_in-keeps (content_of_layers ls) p.key p.seq _ decides.member));
  newest = sym (alike.says at p.key) ∙ decides.newest;
}
