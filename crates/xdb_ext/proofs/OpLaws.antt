-- Operations as points and range tombstones: how they go on, and that the points stand in the order of a table.
use Rattle.std.proofs.Common.{◌≡◌, ℕ, zero, suc, ◌+◌, ◌<◌, Bool, true, false, cond, List, [], ◌∷◌, ◌++◌, length, get_or, take, map, Option, Some, None, is_none, inl, inr, refl, sym, ap, ◌∙◌, subst, arith}
use Rattle.std.proofs.lemmas.Bool.{and_parts, false≢true}
use Rattle.std.proofs.lemmas.List.{take_more, map-append}
use Rattle.std.proofs.lemmas.List.Elements.{filter_map-append}
use Rattle.std.specs.List.{cons_option, filter_map}
use Rattle.std.specs.Option.{option_map, option_to_list}
use Rattle.std.specs.Ordering.{nat_cmp, is_lt, ordering_then}
use Rattle.std.proofs.lemmas.Option.{same_Some}
use Rattle.xdb_key.specs.Entries.{Point, point, Tombstone}
use Rattle.xdb_key.specs.Ops.{rises, last_key, keeps_order, disorder_after, disorder, is_table}
use Rattle.xdb_key.specs.Order.{key_cmp, is_below}
use Rattle.xdb_key.specs.declared.op.Kind.TheVariants as kinds
use Rattle.xdb_key.specs.declared.op.Op.{Op}
use Rattle.xdb_key.specs.declared.op.Op.TheVariants.{Set, Del, DelSpan}
use Rattle.xdb_block.proofs.SeekLaws.{lt-tells}
use Rattle.xdb_block.specs.Rows.{Row, trailer_part}
use Rattle.xdb_rangedel.specs.Members.{Has}
use Rattle.xdb_table_w.proofs.KeyRows.{point_user}
use Rattle.xdb_table_w.specs.Content.{Content, content, point_row, last_of, goes_behind}
use Rattle.xdb_table_w.specs.Extents.{user}
use Rattle.xdb_ext.specs.Operations.{point_of, span_of, points_of, spans_of}

-- ---- one operation more

one_or_none : {A : Type 0} (o : Option A) → cons_option o [] ≡ option_to_list o
one_or_none None = refl
one_or_none (Some x) = refl

picked_more : {A B : Type 0} (f : A → Option B) (xs : List A) (i : ℕ) (x : A) → i < length xs → x ≡ get_or xs i x → filter_map f (take (i + 1) xs) ≡ filter_map f (take i xs) ++ option_to_list (f x)
picked_more f xs i x inside e =
    ap (filter_map f) (take_more xs i x inside ∙ ap (λ y. take i xs ++ y ∷ []) (sym e))
    ∙ filter_map-append f (take i xs) (x ∷ [])
    ∙ ap (λ ys. filter_map f (take i xs) ++ ys) (one_or_none (f x))

pub spans_more : (ops : List Op) (i : ℕ) (op : Op) (old new : List Tombstone) → i < length ops → op ≡ get_or ops i op → old ≡ spans_of (take i ops) → new ≡ old ++ option_to_list (span_of op) → new ≡ spans_of (take (i + 1) ops)
spans_more ops i op old new inside e was made = made ∙ ap (λ ts. ts ++ option_to_list (span_of op)) was ∙ sym (picked_more span_of ops i op inside e)

pub points_more : (ops : List Op) (i : ℕ) (op : Op) → i < length ops → op ≡ get_or ops i op → points_of (take (i + 1) ops) ≡ points_of (take i ops) ++ option_to_list (point_of op)
points_more ops i op inside e = picked_more point_of ops i op inside e

-- ---- members

pub Has-filter_map : {A B : Type 0} (f : A → Option B) (xs : List A) (x : A) (y : B) → Has xs x → f x ≡ Some y → Has (filter_map f xs) y
Has-filter_map f [] x y has e = absurd has
Has-filter_map f (z ∷ zs) x y (inl is) e = subst (λ o. Has (cons_option o (filter_map f zs)) y) (sym (ap f is ∙ e)) (inl refl)
Has-filter_map f (z ∷ zs) x y (inr has) e = later (f z) (filter_map f zs) y (Has-filter_map f zs x y has e)
  where
    later : {B : Type 0} (o : Option B) (ys : List B) (y : B) → Has ys y → Has (cons_option o ys) y
    later None ys y has = has
    later (Some z) ys y has = inr has

-- ---- the points rise

pub none_from : {A : Type 0} (o : Option A) → is_none o ≡ true → o ≡ None
none_from None e = refl
none_from (Some x) e = absurd (false≢true e)

pub in_order : (ops : List Op) → is_table ops ≡ true → disorder ops ≡ None
in_order ops h = none_from (disorder ops) (and_parts _ (is_none (disorder ops)) h).1

-- a test that passed before the rest did
pub kept : (b : Bool) (rest : Option ℕ) (at : ℕ) → cond b rest (Some at) ≡ None → (b ≡ true) × (rest ≡ None)
kept true rest at e = (refl, e)
kept false rest at e = absurd (cc)

behind : (r : Row) (p : Point) → is_below (user r) p.key ≡ true → goes_behind (Some r) (point_row p) ≡ true
behind r p h =
    ap (λ k. is_lt (ordering_then (key_cmp (user r) k) (nat_cmp (trailer_part (point_row p).key) (trailer_part r.key)))) (point_user p)
    ∙ ap (λ o. is_lt (ordering_then o (nat_cmp (trailer_part (point_row p).key) (trailer_part r.key)))) (lt-tells (key_cmp (user r) p.key) h)

rising : (last : Option (List ℕ)) (row : Option Row) (p : Point) → option_map user row ≡ last → rises last p.key ≡ true → goes_behind row (point_row p) ≡ true
rising last None p e h = refl
rising last (Some r) p e h = behind r p (subst (λ l. rises l p.key ≡ true) (sym e) h)

first_behind : (last : Option (List ℕ)) (row : Option Row) (op : Op) (p : Point) → option_map user row ≡ last → keeps_order last op ≡ true → point_of op ≡ Some p → goes_behind row (point_row p) ≡ true
first_behind last row (Set key value) p e h is = subst (λ o. goes_behind row (point_row o) ≡ true) (same_Some _ _ is) (rising last row (point key 0 kinds.Set value) e h)
first_behind last row (Del key) p e h is = subst (λ o. goes_behind row (point_row o) ≡ true) (same_Some _ _ is) (rising last row (point key 0 kinds.Del []) e h)
first_behind last row (DelSpan range) p e h is = absurd (cc)

-- the row of the last point, behind a row
abbrev row_after : Option Row → Op → Option Row
row_after row op = last_of row (map point_row (option_to_list (point_of op)))

same_last : (last : Option (List ℕ)) (row : Option Row) (op : Op) → option_map user row ≡ last → option_map user (row_after row op) ≡ last_key last op
same_last last row (Set key value) e = ap Some (point_user (point key 0 kinds.Set value))
same_last last row (Del key) e = ap Some (point_user (point key 0 kinds.Del []))
same_last last row (DelSpan range) e = e

last_behind : (row : Option Row) (op : Op) (ops : List Op) → last_of row (map point_row (points_of (op ∷ ops))) ≡ last_of (row_after row op) (map point_row (points_of ops))
last_behind row (Set key value) ops = refl
last_behind row (Del key) ops = refl
last_behind row (DelSpan range) ops = refl

behind_all : (last : Option (List ℕ)) (row : Option Row) (at : ℕ) (ops : List Op) (i : ℕ) (op : Op) (p : Point) → option_map user row ≡ last → disorder_after last at ops ≡ None → i < length ops → op ≡ get_or ops i op → point_of op ≡ Some p
    → goes_behind (last_of row (map point_row (points_of (take i ops)))) (point_row p) ≡ true
behind_all last row at [] i op p e h inside is as_point = absurd (omega arith)
behind_all last row at (o ∷ ops) zero op p e h inside is as_point =
    first_behind last row op p e (subst (λ x. keeps_order last x ≡ true) (sym is) (kept (keeps_order last o) _ at h).0) as_point
behind_all last row at (o ∷ ops) (suc i) op p e h inside is as_point =
    ap (λ r. goes_behind r (point_row p)) (last_behind row o (take i ops))
    ∙ behind_all (last_key last o) (row_after row o) (at + 1) ops i op p (same_last last row o e) (kept (keeps_order last o) _ at h).1 (omega arith) is as_point

pub point_behind : (ops : List Op) (i : ℕ) (op : Op) (p : Point) → is_table ops ≡ true → i < length ops → op ≡ get_or ops i op → point_of op ≡ Some p → goes_behind (last_of None (map point_row (points_of (take i ops)))) (point_row p) ≡ true
point_behind ops i op p table inside is as_point = behind_all None None 0 ops i op p refl (in_order ops table) inside is as_point

-- a writer of the points so far, and one operation more
pub written_more : (ops : List Op) (i : ℕ) (op : Op) (old new : Content) → i < length ops → op ≡ get_or ops i op → old ≡ content (map point_row (points_of (take i ops))) [] → new ≡ content (old.points ++ map point_row (option_to_list (point_of op))) old.spans
    → new ≡ content (map point_row (points_of (take (i + 1) ops))) []
written_more ops i op old new inside e was made =
    made
    ∙ ap (λ c. content (c.points ++ map point_row (option_to_list (point_of op))) c.spans) was
    ∙ ap (λ rows. content rows []) (sym (ap (map point_row) (points_more ops i op inside e) ∙ map-append point_row (points_of (take i ops)) (option_to_list (point_of op))))
