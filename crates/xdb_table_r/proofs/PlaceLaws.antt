-- How many points have keys below one.
use Rattle.std.proofs.Common.{◌≡◌, ℕ, ◌≤◌, true, false, List, [], length, get_or, IsTrue, sym, ap, ◌∙◌, arith, inl, inr}
use Rattle.std.specs.List.{AllPairs}
use Rattle.std.specs.List.Sorted.{IsPartitionedBy, IsPartitionPoint}
use Rattle.std.proofs.lemmas.Bool.{cases_order, false≢true}
use Rattle.std.proofs.lemmas.List.Sums.{prefix_len_passes, prefix_len_stops, prefix_len-le-length}
use Rattle.xdb_key.proofs.OrderLaws.{upto_below}
use Rattle.xdb_key.specs.Entries.{Point, point}
use Rattle.xdb_key.specs.Order.{is_below, is_upto}
use Rattle.xdb_key.specs.declared.op.Kind.TheVariants.{Del}
use Rattle.xdb_table_r.specs.Cursors.{below}

pub keys_partitioned : (key : List ℕ) (ps : List Point) → AllPairs (λ a b. IsTrue (is_upto a.key b.key)) ps → IsPartitionedBy (λ p. is_below p.key key) ps
keys_partitioned key ps rise = λ i j d i_le_j inside h. elim (cases_order i j) [
  | inl e ↦ ap (λ n. is_below (get_or ps n d).key key) e ∙ h
  | inr (inl less) ↦ upto_below (get_or ps i d).key (get_or ps j d).key key (rise i j d less inside) h
  | inr (inr more) ↦ absurd (omega arith)
]

pub place_is : (key : List ℕ) (ps : List Point) (n : ℕ) → n ≤ length ps → IsPartitionPoint (λ p. is_below p.key key ≡ true) (λ p. is_below p.key key ≡ false) ps n → n ≡ below key ps
place_is key ps n within split =
    let d : Point = point [] 0 Del [] in
    let f = λ (p : Point). is_below p.key key in
    let most = prefix_len-le-length f ps in
    elim (cases_order n (below key ps)) [
      | inl e ↦ e
      | inr (inl less) ↦ absurd (false≢true (sym (split.1 n d (omega arith) (omega arith)) ∙ prefix_len_passes f ps n d less))
      | inr (inr more) ↦ absurd (false≢true (sym (prefix_len_stops f ps d (omega arith)) ∙ split.0 (below key ps) d (omega arith) more))
    ]
