-- Numbered operations: how they go on, and that their numbers rise.
use Rattle.std.proofs.Common.{◌≡◌, ℕ, suc, ◌+◌, ◌<◌, ◌≤◌, List, [], ◌∷◌, ◌++◌, length, get_or, take, Option, Some, None, inl, inr, refl, sym, ap, ◌∙◌, subst, arith}
use Rattle.std.proofs.lemmas.List.{take_more, length-take-le}
use Rattle.std.proofs.lemmas.List.Elements.{filter_map-append}
use Rattle.std.specs.List.{cons_option}
use Rattle.std.specs.Option.{option_to_list}
use Rattle.xdb_key.specs.Entries.{Point, Tombstone}
use Rattle.xdb_key.specs.declared.op.Op.{Op}
use Rattle.xdb_rangedel.specs.Members.{Has}
use Rattle.xdb_mem.specs.Numbered.{numbered, greatest_of, RisesWithin, point_at, span_at, points, spans}

pub numbered-append : (n : ℕ) (xs ys : List Op) → numbered n (xs ++ ys) ≡ numbered n xs ++ numbered (n + length xs) ys
numbered-append n [] ys = ap (λ m. numbered m ys) (omega arith)
numbered-append n (x ∷ xs) ys =
    ap (λ zs. (n, x) ∷ zs) (numbered-append (n + 1) xs ys ∙ ap (λ m. numbered (n + 1) xs ++ numbered m ys) (omega arith))

pub length-numbered : (n : ℕ) (ops : List Op) → length (numbered n ops) ≡ length ops
length-numbered n [] = refl
length-numbered n (op ∷ ops) = ap suc (length-numbered (n + 1) ops)

pub points-append : (xs ys : List (ℕ × Op)) → points (xs ++ ys) ≡ points xs ++ points ys
points-append xs ys = filter_map-append (λ (o : ℕ × Op). point_at o.0 o.1) xs ys

pub spans-append : (xs ys : List (ℕ × Op)) → spans (xs ++ ys) ≡ spans xs ++ spans ys
spans-append xs ys = filter_map-append (λ (o : ℕ × Op). span_at o.0 o.1) xs ys

pub one_or_none : {A : Type 0} (o : Option A) → cons_option o [] ≡ option_to_list o
one_or_none None = refl
one_or_none (Some x) = refl

more_numbered : (first : ℕ) (ops : List Op) (i : ℕ) (op : Op) → i < length ops → op ≡ get_or ops i op → numbered first (take (i + 1) ops) ≡ numbered first (take i ops) ++ (first + i, op) ∷ []
more_numbered first ops i op inside e =
    let len : length (take i ops) ≡ i = length-take-le i ops (omega arith) in
    ap (numbered first) (take_more ops i op inside ∙ ap (λ x. take i ops ++ x ∷ []) (sym e))
    ∙ numbered-append first (take i ops) (op ∷ [])
    ∙ ap (λ m. numbered first (take i ops) ++ (first + m, op) ∷ []) len

pub points_more : (first : ℕ) (ops : List Op) (i : ℕ) (op : Op) (old new : List Point) (seq : ℕ) → i < length ops → op ≡ get_or ops i op → old ≡ points (numbered first (take i ops)) → seq ≡ first + i → new ≡ old ++ option_to_list (point_at seq op) → new ≡ points (numbered first (take (i + 1) ops))
points_more first ops i op old new seq inside e was at made =
    made ∙ (λ j. was j ++ option_to_list (point_at (at j) op))
    ∙ ap (λ xs. points (numbered first (take i ops)) ++ xs) (sym (one_or_none (point_at (first + i) op)))
    ∙ sym (points-append (numbered first (take i ops)) ((first + i, op) ∷ []))
    ∙ ap points (sym (more_numbered first ops i op inside e))

pub spans_more : (first : ℕ) (ops : List Op) (i : ℕ) (op : Op) (old new : List Tombstone) (seq : ℕ) → i < length ops → op ≡ get_or ops i op → old ≡ spans (numbered first (take i ops)) → seq ≡ first + i → new ≡ old ++ option_to_list (span_at seq op) → new ≡ spans (numbered first (take (i + 1) ops))
spans_more first ops i op old new seq inside e was at made =
    made ∙ (λ j. was j ++ option_to_list (span_at (at j) op))
    ∙ ap (λ xs. spans (numbered first (take i ops)) ++ xs) (sym (one_or_none (span_at (first + i) op)))
    ∙ sym (spans-append (numbered first (take i ops)) ((first + i, op) ∷ []))
    ∙ ap spans (sym (more_numbered first ops i op inside e))

-- ---- numbers that rise

pub rises-room : (low high : ℕ) (os : List (ℕ × Op)) → RisesWithin low high os → low + length os ≤ high
rises-room low high [] h = omega arith
rises-room low high (o ∷ os) h = let more = rises-room (o.0 + 1) high os h.1 in omega (arith, more, h.0)

pub rises-from : (low high : ℕ) (os : List (ℕ × Op)) (o : ℕ × Op) → RisesWithin low high os → Has os o → low ≤ o.0
rises-from low high [] o h has = absurd has
rises-from low high (p ∷ os) o h (inl e) = omega (arith, h.0, ap (λ (x : ℕ × Op). x.0) e)
rises-from low high (p ∷ os) o h (inr has) = omega (arith, h.0, rises-from (p.0 + 1) high os o h.1 has)

pub rises-below : (low high : ℕ) (os : List (ℕ × Op)) (o : ℕ × Op) → RisesWithin low high os → Has os o → o.0 < high
rises-below low high [] o h has = absurd has
rises-below low high (p ∷ os) o h (inl e) = omega (arith, rises-room (p.0 + 1) high os h.1, ap (λ (x : ℕ × Op). x.0) e)
rises-below low high (p ∷ os) o h (inr has) = rises-below (p.0 + 1) high os o h.1 has

-- operations of one number are one
pub rises-one : (low high : ℕ) (os : List (ℕ × Op)) (o p : ℕ × Op) → RisesWithin low high os → Has os o → Has os p → o.0 ≡ p.0 → o ≡ p
rises-one low high [] o p h has_o has_p e = absurd has_o
rises-one low high (x ∷ os) o p h (inl a) (inl b) e = sym a ∙ b
rises-one low high (x ∷ os) o p h (inl a) (inr b) e = absurd (omega (arith, ap (λ (y : ℕ × Op). y.0) a, rises-from (x.0 + 1) high os p h.1 b, e))
rises-one low high (x ∷ os) o p h (inr a) (inl b) e = absurd (omega (arith, ap (λ (y : ℕ × Op). y.0) b, rises-from (x.0 + 1) high os o h.1 a, e))
rises-one low high (x ∷ os) o p h (inr a) (inr b) e = rises-one (x.0 + 1) high os o p h.1 a b e

pub rises-append : (low mid high : ℕ) (xs ys : List (ℕ × Op)) → RisesWithin low mid xs → RisesWithin mid high ys → RisesWithin low high (xs ++ ys)
rises-append low mid high [] [] h g = omega arith
rises-append low mid high [] (y ∷ ys) h g = (omega (arith, h, g.0), g.1)
rises-append low mid high (x ∷ xs) ys h g = (h.0, rises-append (x.0 + 1) mid high xs ys h.1 g)

pub rises-wider : (low high more : ℕ) (xs : List (ℕ × Op)) → high ≤ more → RisesWithin low high xs → RisesWithin low more xs
rises-wider low high more [] wide h = omega arith
rises-wider low high more (x ∷ xs) wide h = (h.0, rises-wider (x.0 + 1) high more xs wide h.1)

pub rises-numbered : (first : ℕ) (ops : List Op) → RisesWithin first (first + length ops) (numbered first ops)
rises-numbered first [] = omega arith
rises-numbered first (op ∷ ops) =
    (omega arith, subst (λ n. RisesWithin (first + 1) n (numbered (first + 1) ops)) (omega arith) (rises-numbered (first + 1) ops))

-- a bound above the greatest number may stand for the upper one
pub rises-above : (low high first : ℕ) (os : List (ℕ × Op)) → low ≤ first → greatest_of os < first → RisesWithin low high os → RisesWithin low first os
rises-above low high first [] less above h = less
rises-above low high first (o ∷ os) less above h =
    (h.0, rises-above (o.0 + 1) high first os (omega arith) (omega arith) h.1)

pub rises-front : (low high : ℕ) (xs ys : List (ℕ × Op)) → RisesWithin low high (xs ++ ys) → RisesWithin low high xs
rises-front low high [] ys h = omega (arith, rises-room low high ys h)
rises-front low high (x ∷ xs) ys h = (h.0, rises-front (x.0 + 1) high xs ys h.1)

pub rises-lower : (less low high : ℕ) (xs : List (ℕ × Op)) → less ≤ low → RisesWithin low high xs → RisesWithin less high xs
rises-lower less low high [] l h = omega arith
rises-lower less low high (x ∷ xs) l h = (omega (arith, h.0), h.1)

-- what stands behind operations has greater numbers
pub rises-back : (low high : ℕ) (xs ys : List (ℕ × Op)) → RisesWithin low high (xs ++ ys) → RisesWithin low high ys
rises-back low high [] ys h = h
rises-back low high (x ∷ xs) ys h = rises-lower low (x.0 + 1) high ys (omega (arith, h.0)) (rises-back (x.0 + 1) high xs ys h.1)
