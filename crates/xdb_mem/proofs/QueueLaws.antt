-- What is kept of a queue goes on being kept, and what it says of the queue.
use Rattle.std.proofs.Common.{◌≡◌, ℕ, suc, ◌+◌, ◌<◌, ◌≤◌, ◌^◌, List, [], ◌∷◌, ◌++◌, length, get_or, take, drop, refl, sym, ap, ◌∙◌, subst, arith}
use Rattle.std.proofs.lemmas.List.{append_assoc, append-nil, length-append, length_push, take_more}
use Rattle.std.proofs.lemmas.List.Elements.{All-push, All-cons, All-nil, All-head, All-tail}
use Rattle.std.specs.List.{All}
use Rattle.xdb_key.specs.Groups.{Group}
use Rattle.xdb_key.specs.declared.op.Op.{Op}
use Rattle.xdb_mem.specs.Numbered.{numbered, greatest_of, RisesWithin}
use Rattle.xdb_mem.specs.Queue.{group, groups, all_ops, last_number, sealed_once, AreCounted, IsQueue}
use Rattle.xdb_mem.specs.KeptQueue.{groups_from, queue_of, joined, IsKept}
use Rattle.xdb_mem.proofs.NumberLaws.{rises-room, rises-append, rises-wider, rises-numbered, rises-back}

pub groups_from-push : (num : ℕ) (ms : List (List (ℕ × Op))) (a : List (ℕ × Op)) → groups_from num (ms ++ a ∷ []) ≡ groups_from num ms ++ group (num + length ms) a ∷ []
groups_from-push num [] a = ap (λ n. group n a ∷ []) (omega arith)
groups_from-push num (m ∷ ms) a =
    ap (λ gs. group num m ∷ gs) (groups_from-push (num + 1) ms a ∙ ap (λ n. groups_from (num + 1) ms ++ group n a ∷ []) (omega arith))

pub length-groups_from : (num : ℕ) (ms : List (List (ℕ × Op))) → length (groups_from num ms) ≡ length ms
length-groups_from num [] = refl
length-groups_from num (m ∷ ms) = ap suc (length-groups_from (num + 1) ms)

pub joined-push : (ms : List (List (ℕ × Op))) (a : List (ℕ × Op)) → joined (ms ++ a ∷ []) ≡ joined ms ++ a
joined-push [] a = append-nil a
joined-push (m ∷ ms) a = ap (λ xs. m ++ xs) (joined-push ms a) ∙ sym (append_assoc m (joined ms) a)

pub joined_more : (ms : List (List (ℕ × Op))) (i : ℕ) (m : List (ℕ × Op)) → i < length ms → m ≡ get_or ms i m → joined (take (i + 1) ms) ≡ joined (take i ms) ++ m
joined_more ms i m inside e = ap joined (take_more ms i m inside ∙ ap (λ x. take i ms ++ x ∷ []) (sym e)) ∙ joined-push (take i ms) m

all_ops-groups_from : (num : ℕ) (ms : List (List (ℕ × Op))) → all_ops (groups_from num ms) ≡ joined ms
all_ops-groups_from num [] = refl
all_ops-groups_from num (m ∷ ms) = ap (λ xs. m ++ xs) (all_ops-groups_from (num + 1) ms)

pub all_ops-queue_of : (oldest : ℕ) (ms : List (List (ℕ × Op))) (a : List (ℕ × Op)) (greatest : ℕ) → all_ops (groups (queue_of oldest ms a greatest)) ≡ joined ms ++ a
all_ops-queue_of oldest ms a greatest =
    ap all_ops (sym (groups_from-push oldest ms a)) ∙ all_ops-groups_from oldest (ms ++ a ∷ []) ∙ joined-push ms a

counted-groups_from : (num : ℕ) (ms : List (List (ℕ × Op))) → AreCounted num (groups_from num ms)
counted-groups_from num [] = tt
counted-groups_from num (m ∷ ms) = (refl, counted-groups_from (num + 1) ms)

filled-groups_from : (num : ℕ) (ms : List (List (ℕ × Op))) → All (λ ops. 1 ≤ length ops) ms → All (λ (g : Group). 1 ≤ length g.ops) (groups_from num ms)
filled-groups_from num [] h = All-nil (λ (g : Group). 1 ≤ length g.ops)
filled-groups_from num (m ∷ ms) h =
    All-cons (λ (g : Group). 1 ≤ length g.ops) (group num m) (groups_from (num + 1) ms) (All-head (λ (ops : List (ℕ × Op)). 1 ≤ length ops) m ms h) (filled-groups_from (num + 1) ms (All-tail (λ (ops : List (ℕ × Op)). 1 ≤ length ops) m ms h))

pub kept-queue : (oldest : ℕ) (ms : List (List (ℕ × Op))) (a : List (ℕ × Op)) (greatest room : ℕ) → IsKept oldest ms a greatest room → IsQueue (queue_of oldest ms a greatest)
kept-queue oldest ms a greatest room k = record {
  rising = subst (RisesWithin 1 (greatest + 1)) (sym (all_ops-queue_of oldest ms a greatest)) k.rising;
  small = k.small;
  filled = filled-groups_from oldest ms k.filled;
  counted = (oldest, k.from, subst (AreCounted oldest) (groups_from-push oldest ms a) (counted-groups_from oldest (ms ++ a ∷ [])));
}

pub dropped-kept : (oldest : ℕ) (ms new : List (List (ℕ × Op))) (a : List (ℕ × Op)) (greatest room new_room : ℕ) → IsKept oldest ms a greatest room → 1 ≤ length ms → new ≡ drop 1 ms → new_room ≡ room → IsKept (oldest + 1) new a greatest new_room
dropped-kept oldest [] new a greatest room new_room k some e f = absurd (omega arith)
dropped-kept oldest (m ∷ ms) new a greatest room new_room k some e f =
    let len : length new ≡ length ms = ap length e in
    record {
      rising = subst (λ xs. RisesWithin 1 (greatest + 1) (joined xs ++ a)) (sym e) (rises-back 1 (greatest + 1) m (joined ms ++ a) (subst (RisesWithin 1 (greatest + 1)) (append_assoc m (joined ms) a) k.rising));
      small = k.small;
      filled = subst (All (λ (ops : List (ℕ × Op)). 1 ≤ length ops)) (sym e) (All-tail (λ (ops : List (ℕ × Op)). 1 ≤ length ops) m ms k.filled);
      from = omega (arith, k.from);
      counted = omega (arith, k.counted, len);
      used = λ h. omega (arith, k.used h, len);
      ready = λ h. omega (arith, k.ready h, len, f);
    }

pub sealed-kept : (oldest : ℕ) (ms new : List (List (ℕ × Op))) (a none : List (ℕ × Op)) (greatest room new_room : ℕ) → IsKept oldest ms a greatest room → 1 ≤ length a → new ≡ ms ++ a ∷ [] → none ≡ [] → IsKept oldest new none greatest new_room
sealed-kept oldest ms new a none greatest room new_room k some e f =
    let len : length new ≡ length ms + 1 = ap length e ∙ length_push ms a in
    let empty : length none ≡ 0 = ap length f in
    record {
      rising = subst (RisesWithin 1 (greatest + 1)) (sym (joined-push ms a) ∙ ap joined (sym e) ∙ sym (append-nil (joined new)) ∙ ap (λ xs. joined new ++ xs) (sym f)) k.rising;
      small = k.small;
      filled = subst (All (λ (ops : List (ℕ × Op)). 1 ≤ length ops)) (sym e) (All-push (λ (ops : List (ℕ × Op)). 1 ≤ length ops) ms a k.filled some);
      from = k.from;
      counted = omega (arith, k.used some, len);
      used = λ h. absurd (omega (arith, h, empty));
      ready = λ h. absurd (omega (arith, h, empty));
    }

pub sealed-queue : (oldest : ℕ) (ms new : List (List (ℕ × Op))) (a none : List (ℕ × Op)) (greatest : ℕ) → new ≡ ms ++ a ∷ [] → none ≡ [] → queue_of oldest new none greatest ≡ sealed_once (queue_of oldest ms a greatest)
sealed-queue oldest ms new a none greatest e f =
    let gs : groups_from oldest new ≡ groups_from oldest ms ++ group (oldest + length ms) a ∷ [] = ap (groups_from oldest) e ∙ groups_from-push oldest ms a in
    let num : oldest + length new ≡ oldest + length ms + 1 = omega (arith, ap length e ∙ length_push ms a) in
    λ i. record { sealed = gs i; active = group (num i) (f i); greatest = greatest }

greatest-below : (low high : ℕ) (os : List (ℕ × Op)) → 1 ≤ high → RisesWithin low high os → greatest_of os < high
greatest-below low high [] some h = omega arith
greatest-below low high (o ∷ os) some h =
    let rest = greatest-below (o.0 + 1) high os some h.1 in
    let room = rises-room (o.0 + 1) high os h.1 in
    omega arith

pub above-active : (oldest : ℕ) (ms : List (List (ℕ × Op))) (a : List (ℕ × Op)) (greatest room first : ℕ) → IsKept oldest ms a greatest room → greatest < first → greatest_of a < first
above-active oldest ms a greatest room first k above =
    let below = greatest-below 1 (greatest + 1) a (omega arith) (rises-back 1 (greatest + 1) (joined ms) a k.rising) in
    omega arith

-- what a commit asks, and what it leaves
pub record Commits (oldest : ℕ) (ms : List (List (ℕ × Op))) (a : List (ℕ × Op)) (greatest room first : ℕ) (batch : List Op) : Type 0 where
  pub kept : IsKept oldest ms a greatest room
  pub upto : first + length batch ≤ 2 ^ 56
  pub above : greatest < first

committed-rising : (xs : List (ℕ × Op)) (greatest first : ℕ) (batch : List Op) → RisesWithin 1 (greatest + 1) xs → greatest < first → RisesWithin 1 (last_number greatest first batch + 1) (xs ++ numbered first batch)
committed-rising xs greatest first [] rising above = subst (RisesWithin 1 (greatest + 1)) (sym (append-nil xs)) rising
committed-rising xs greatest first (op ∷ batch) rising above =
    rises-append 1 first (first + length batch + 1) xs (numbered first (op ∷ batch)) (rises-wider 1 (greatest + 1) first xs (omega arith) rising)
    (subst (λ n. RisesWithin first n (numbered first (op ∷ batch))) (omega arith) (rises-numbered first (op ∷ batch)))

last-small : (greatest first : ℕ) (batch : List Op) → greatest < 2 ^ 56 → first + length batch ≤ 2 ^ 56 → last_number greatest first batch < 2 ^ 56
last-small greatest first [] small upto = small
last-small greatest first (op ∷ batch) small upto = omega arith

last-grows : (greatest first : ℕ) (batch : List Op) → greatest < first → greatest ≤ last_number greatest first batch
last-grows greatest first [] above = omega arith
last-grows greatest first (op ∷ batch) above = omega arith

-- a group that has an operation after the commit had one before, or the batch had one
last-used : (greatest first n : ℕ) (batch : List Op) (a more : List (ℕ × Op)) → greatest < first → more ≡ a ++ numbered first batch → n ≤ greatest + 1 → (1 ≤ length a → n ≤ greatest) → 1 ≤ length more → n ≤ last_number greatest first batch
last-used greatest first n [] a more above e counted used some = used (omega (arith, ap length e ∙ length-append a []))
last-used greatest first n (op ∷ batch) a more above e counted used some = omega arith

pub committed-kept : (oldest : ℕ) (ms new_ms : List (List (ℕ × Op))) (a more : List (ℕ × Op)) (greatest room new_room first new_greatest : ℕ) (batch : List Op) → Commits oldest ms a greatest room first batch → new_ms ≡ ms → more ≡ a ++ numbered first batch → new_greatest ≡ last_number greatest first batch → length ms < new_room → IsKept oldest new_ms more new_greatest new_room
committed-kept oldest ms new_ms a more greatest room new_room first new_greatest batch c e f g ready =
    let k = c.kept in
    let upto = c.upto in
    let above = c.above in
    let len : length new_ms ≡ length ms = ap length e in
    let grows = last-grows greatest first batch above in
    record {
      rising = subst (λ n. RisesWithin 1 (n + 1) (joined new_ms ++ more)) (sym g) (subst (RisesWithin 1 (last_number greatest first batch + 1)) (append_assoc (joined ms) a (numbered first batch) ∙ ap (λ xs. joined xs ++ (a ++ numbered first batch)) (sym e) ∙ ap (λ xs. joined new_ms ++ xs) (sym f)) (committed-rising (joined ms ++ a) greatest first batch k.rising above));
      small = subst (λ n. n < 2 ^ 56) (sym g) (last-small greatest first batch k.small upto);
      filled = subst (All (λ (ops : List (ℕ × Op)). 1 ≤ length ops)) (sym e) k.filled;
      from = k.from;
      counted = omega (arith, k.counted, len, g, grows);
      used = λ h. let used = last-used greatest first (oldest + length ms) batch a more above f k.counted k.used h in omega (arith, used, len, g);
      ready = λ h. omega (arith, ready, len);
    }
