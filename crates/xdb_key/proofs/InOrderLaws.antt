-- Internal order is total, and entries of which neither stands before the other have one key and one number.
use Rattle.std.proofs.Common.{◌≡◌, ℕ, ◌+◌, ◌*◌, ◌<◌, true, false, refl, sym, ap, arith}
use Rattle.std.proofs.lemmas.Bool.{false≢true, true≢false}
use Rattle.std.proofs.lemmas.Cmp.{on_total, then_total, back_total, nat_cmp_total}
use Rattle.std.specs.Cmp.{IsTotalOrder}
use Rattle.std.specs.FinMap.{nat_cmp-IsAntisymmetric}
use Rattle.std.specs.Ordering.{nat_cmp, is_lt, is_le, ordering_then, ordering_reverse}
use Rattle.std.specs.declared.cmp.Ordering.{Ordering}
use Rattle.std.specs.declared.cmp.Ordering.TheVariants.{Less, Equal, Greater}
use Rattle.xdb_key.specs.Entries.{Point}
use Rattle.xdb_key.specs.InOrder.{internal_order, comes_before}
use Rattle.xdb_key.specs.Kinds.{trailer, kind_code}
use Rattle.xdb_key.specs.Order.{key_cmp, is_upto}
use Rattle.xdb_key.specs.declared.op.Kind.{Kind}
use Rattle.xdb_key.specs.declared.op.Kind.TheVariants as kinds
use Rattle.xdb_key.proofs.OrderLaws.{key_total, key_exact}

pub internal_total : IsTotalOrder internal_order
internal_total = then_total (on_total (λ (p : Point). p.key) key_total) (back_total (on_total (λ (p : Point). trailer p.seq p.kind) nat_cmp_total))

less_from : (r : Ordering) → is_lt r ≡ true → r ≡ Less
less_from Less h = refl
less_from Equal h = absurd (false≢true h)
less_from Greater h = absurd (false≢true h)

pub before_trans : (a b c : Point) → comes_before a b ≡ true → comes_before b c ≡ true → comes_before a c ≡ true
before_trans a b c p q = ap is_lt (internal_total.trans a b c (less_from (internal_order a b) p) (less_from (internal_order b c) q))

then_lt : (r s : Ordering) → is_lt (ordering_then r s) ≡ true → is_le r ≡ true
then_lt Less s h = refl
then_lt Equal s h = refl
then_lt Greater s h = absurd (false≢true h)

pub before_keys : (p q : Point) → comes_before p q ≡ true → is_upto p.key q.key ≡ true
before_keys p q h = then_lt (key_cmp p.key q.key) (nat_cmp (trailer q.seq q.kind) (trailer p.seq p.kind)) h

neither : (r s : Ordering) → r ≡ ordering_reverse s → is_lt r ≡ false → is_lt s ≡ false → r ≡ Equal
neither Less s e h g = absurd (true≢false h)
neither Equal s e h g = refl
neither Greater Less e h g = absurd (true≢false g)
neither Greater Equal e h g = absurd (cc)
neither Greater Greater e h g = absurd (cc)

then_equal : (r s : Ordering) → ordering_then r s ≡ Equal → (r ≡ Equal) × (s ≡ Equal)
then_equal Less s h = absurd (cc)
then_equal Equal s h = (refl, h)
then_equal Greater s h = absurd (cc)

code_small : (k : Kind) → kind_code k < 256
code_small kinds.Del = omega arith
code_small kinds.Set = omega arith
code_small kinds.SpanDel = omega arith

seq_from_trailer : (m n a b : ℕ) → m * 256 + a ≡ n * 256 + b → a < 256 → b < 256 → m ≡ n
seq_from_trailer m n a b e h g = omega arith

-- entries of which neither stands before the other
pub tied : (p q : Point) → comes_before p q ≡ false → comes_before q p ≡ false → (p.key ≡ q.key) × (p.seq ≡ q.seq)
tied p q h g =
    let tie = neither (internal_order p q) (internal_order q p) (internal_total.antisymm p q) h g in
    let level = then_equal (key_cmp p.key q.key) (nat_cmp (trailer q.seq q.kind) (trailer p.seq p.kind)) tie in
    let same = nat_cmp-IsAntisymmetric (trailer q.seq q.kind) (trailer p.seq p.kind) level.1 in
    (key_exact p.key q.key level.0, sym (seq_from_trailer q.seq p.seq (kind_code q.kind) (kind_code p.kind) same (code_small q.kind) (code_small p.kind)))
