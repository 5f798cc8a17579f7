-- What thinning keeps of a content's meaning: the newest item at a key below a limit stays, unless it is a
-- delete of stripe 0 off the floor; and then all that is left there are deletes.
use Rattle.std.proofs.Common.{◌≡◌, ℕ, ◌+◌, ◌*◌, ◌<◌, ◌≤◌, Bool, true, false, not, ◌||◌, ◌==◌, ltb, List, [], ◌∷◌, map, Option, Some, None, inl, inr, ◌⊎◌, IsTrue, refl, sym, ap, ◌∙◌, subst, arith}
use Rattle.std.proofs.lemmas.Bool.{cases_Bool, cases_lt, and_parts, and_from, or_parts, not-true, lt-ltb, ltb-true, eqb-true, eq-eqb, false≢true, false_from_ne_true}
use Rattle.std.specs.List.{list_any, filter}
use Rattle.xdb_key.specs.Bounds.{Bounds, holds, meets, covers}
use Rattle.xdb_key.specs.Order.{is_upto}
use Rattle.xdb_key.specs.Entries.{Tombstone}
use Rattle.xdb_rangedel.specs.Members.{Has, SameMembers}
use Rattle.xdb_rangedel.specs.Pieces.{pieces}
use Rattle.xdb_rangedel.specs.Content.{Item, entry, span, deleted, nothing, Mark, seq_of, same_key, here, rank, said, mark, is_seen, newest, said_by, verdict, IsClear, entries_in, spans_in, in_pieces}
use Rattle.xdb_rangedel.specs.Layers.{IsGreatest, IsDrawn}
use Rattle.xdb_rangedel.proofs.MemberLaws.{Has-append_cases, Has-from_map}
use Rattle.xdb_rangedel.proofs.NewestLaws.{newest-None, newest-Some, newest-greatest, seen-here, same_key-tells, clear_says}
use Rattle.xdb_rangedel.proofs.LayerLaws.{drawn_clear, drawn_entry}
use Rattle.xdb_rangedel.proofs.SpanLaws.{newest-in_pieces, drawn-in_pieces, Has-spans_in}
use Rattle.xdb_rangedel.proofs.PieceLaws.{piece_inside}
use Rattle.xdb_rangedel.proofs.CoverLaws.{meets-from_held}
use Rattle.xdb_stripes.specs.declared.floor.Floor.{Floor}
use Rattle.xdb_stripes.specs.declared.floor.Floor.TheVariants as floors
use Rattle.xdb_stripes.specs.Stripes.{stripe, outranks}
use Rattle.xdb_stripes.specs.Floors.{floor_holds, floor_meets}
use Rattle.xdb_stripes.specs.Thinned.{same_bounds, shadows, buries, repeats, is_shadowed, is_buried, is_repeated, is_spent, stays, thinned}
use Rattle.xdb_stripes.specs.Keeps.{IsLimit, Agree, Keeps}
use Rattle.xdb_stripes.proofs.AnyLaws.{any-has, any-from, any-same, Has-filter, Has-from_filter, filter-same}
use Rattle.xdb_stripes.proofs.StripeLaws.{outranks-tells, outranks_below, stripe_rises}

rank-near : (i : Item) → (2 * seq_of i ≤ rank i) × (rank i ≤ 2 * seq_of i + 1)
rank-near (entry key seq value) = (omega arith, omega arith)
rank-near (span t) = (omega arith, omega arith)

seq-from_rank : (i j : Item) → rank j ≤ rank i → seq_of j ≤ seq_of i
seq-from_rank i j h = omega (arith, (rank-near i).0, (rank-near i).1, (rank-near j).0, (rank-near j).1)

-- where the pieces of a content are looked at
abbrev Seen : List Item → List ℕ → ℕ → List ℕ → Type 0
Seen all stripes limit k = Has stripes limit ⊎ ((j : Item) → Has all j → here k j ≡ true → seq_of j < limit)

seen_pieces : (c : List Item) (stripes : List ℕ) (limit : ℕ) (k : List ℕ) → IsLimit c stripes limit → Seen (in_pieces c) stripes limit k
seen_pieces c stripes limit k (inl h) = inl h
seen_pieces c stripes limit k (inr below) = inr (λ j h at_j.
    let from = drawn-in_pieces c k j h at_j in
    let low : seq_of from.0 < limit = below from.0 from.1 in
    let up : seq_of j ≤ seq_of from.0 = seq-from_rank from.0 j (let e = from.3 in omega arith) in
    omega arith)

-- nothing at the key outranks the greatest item there
unranked : (all : List Item) (stripes : List ℕ) (limit : ℕ) (k : List ℕ) (i j : Item) → Seen all stripes limit k → IsGreatest all limit k i → Has all j → here k j ≡ true → outranks stripes (seq_of j) (seq_of i) ≡ true → ⊥
unranked all stripes limit k i j seen g h at_j over =
    let low : seq_of i < limit = ltb-true (seq_of i) limit (and_parts (here k i) (ltb (seq_of i) limit) g.seen).1 in
    let tells = outranks-tells stripes (seq_of j) (seq_of i) over in
    let more : seq_of i < seq_of j = tells.0 in
    let below : seq_of j < limit = elim seen [
      | inl at ↦ outranks_below stripes limit (seq_of j) (seq_of i) at low over
      | inr all_below ↦ all_below j h at_j
    ] in
    let up : rank j ≤ rank i = g.highest j h (and_from (here k j) (ltb (seq_of j) limit) at_j (lt-ltb (seq_of j) limit below)) in
    let less : seq_of j ≤ seq_of i = seq-from_rank i j up in
    omega arith

-- what takes an item out by the first three rules speaks of the item's keys, and outranks it

shadows-tells : (stripes : List ℕ) (key : List ℕ) (seq : ℕ) (j : Item) → shadows stripes key seq j ≡ true → (here key j ≡ true) × (outranks stripes (seq_of j) seq ≡ true)
shadows-tells stripes key seq (entry k s v) h = and_parts (same_key k key) (outranks stripes s seq) h
shadows-tells stripes key seq (span t) h = absurd (false≢true h)

buries-tells : (stripes : List ℕ) (key : List ℕ) (seq : ℕ) (j : Item) → buries stripes key seq j ≡ true → (here key j ≡ true) × (outranks stripes (seq_of j) seq ≡ true)
buries-tells stripes key seq (entry k s v) h = absurd (false≢true h)
buries-tells stripes key seq (span t) h = and_parts (holds t.range key) (outranks stripes t.seq seq) h

pub same_bounds-tells : (r o : Bounds) → same_bounds r o ≡ true → r ≡ o
same_bounds-tells r o h =
    let (lo, hi) = and_parts (same_key r.lo o.lo) (same_key r.hi o.hi) h in
    let los = same_key-tells r.lo o.lo lo in
    let his = same_key-tells r.hi o.hi hi in
    λ i. record { lo = los i; hi = his i }

repeats-tells : (stripes : List ℕ) (range : Bounds) (seq : ℕ) (k : List ℕ) (j : Item) → holds range k ≡ true → repeats stripes range seq j ≡ true → (here k j ≡ true) × (outranks stripes (seq_of j) seq ≡ true)
repeats-tells stripes range seq k (entry a s v) at_k h = absurd (false≢true h)
repeats-tells stripes range seq k (span t) at_k h =
    let (same, over) = and_parts (same_bounds t.range range) (outranks stripes t.seq seq) h in
    (ap (λ r. holds r k) (same_bounds-tells t.range range same) ∙ at_k, over)

-- an item that takes i out at the key by one of the first three rules
abbrev Over : List ℕ → List Item → List ℕ → Item → Type 0
Over stripes all k i = (j : Item) × Has all j × (here k j ≡ true) × (outranks stripes (seq_of j) (seq_of i) ≡ true)

over_entry : (stripes : List ℕ) (all : List Item) (k key : List ℕ) (seq : ℕ) (v : Option (List ℕ)) (test : Item → Bool) → same_key key k ≡ true → ((j : Item) → test j ≡ true → (here key j ≡ true) × (outranks stripes (seq_of j) seq ≡ true)) → list_any test all ≡ true → Over stripes all k (entry key seq v)
over_entry stripes all k key seq v test at_k tells h =
    let from = any-has test all h in
    let told = tells from.0 from.2 in
    (from.0, from.1, subst (λ x. here x from.0 ≡ true) (same_key-tells key k at_k) told.0, told.1)

shadowed_over : (stripes : List ℕ) (all : List Item) (k : List ℕ) (i : Item) → here k i ≡ true → is_shadowed stripes all i ≡ true → Over stripes all k i
shadowed_over stripes all k (entry key seq v) at_k h = over_entry stripes all k key seq v (shadows stripes key seq) at_k (shadows-tells stripes key seq) h
shadowed_over stripes all k (span t) at_k h = absurd (false≢true h)

buried_over : (stripes : List ℕ) (all : List Item) (k : List ℕ) (i : Item) → here k i ≡ true → is_buried stripes all i ≡ true → Over stripes all k i
buried_over stripes all k (entry key seq v) at_k h = over_entry stripes all k key seq v (buries stripes key seq) at_k (buries-tells stripes key seq) h
buried_over stripes all k (span t) at_k h = absurd (false≢true h)

repeated_over : (stripes : List ℕ) (all : List Item) (k : List ℕ) (i : Item) → here k i ≡ true → is_repeated stripes all i ≡ true → Over stripes all k i
repeated_over stripes all k (entry key seq v) at_k h = absurd (false≢true h)
repeated_over stripes all k (span t) at_k h =
    let from = any-has (repeats stripes t.range t.seq) all h in
    let told = repeats-tells stripes t.range t.seq k from.0 at_k from.2 in
    (from.0, from.1, told.0, told.1)

-- the greatest item stays, or is a delete that hides nothing
greatest_stays : (all : List Item) (stripes : List ℕ) (floor : Floor) (limit : ℕ) (k : List ℕ) (i : Item) → Seen all stripes limit k → IsGreatest all limit k i → (stays stripes floor all i ≡ true) ⊎ (is_spent stripes floor i ≡ true)
greatest_stays all stripes floor limit k i seen g =
    let at_k = seen-here limit k i g.seen in
    let no_over = λ (o : Over stripes all k i). unranked all stripes limit k i o.0 seen g o.1 o.2 o.3 in
    let a : is_shadowed stripes all i ≡ false = false_from_ne_true (is_shadowed stripes all i) (λ h. no_over (shadowed_over stripes all k i at_k h)) in
    let b : is_buried stripes all i ≡ false = false_from_ne_true (is_buried stripes all i) (λ h. no_over (buried_over stripes all k i at_k h)) in
    let c : is_repeated stripes all i ≡ false = false_from_ne_true (is_repeated stripes all i) (λ h. no_over (repeated_over stripes all k i at_k h)) in
    elim (cases_Bool (is_spent stripes floor i)) [
      | inl spent ↦ inr spent
      | inr kept ↦ inl (λ x. not (((a x || b x) || c x) || kept x))
    ]

-- what the last rule takes out
record IsSpent (stripes : List ℕ) (floor : Floor) (k : List ℕ) (i : Item) : Type 0 where
  lowest : stripe stripes (seq_of i) ≡ 0
  deletes : said i ≡ deleted
  off_floor : floor_holds floor k ≡ false

-- a range that holds the key of a floor range meets it
held_met : (floor : Floor) (r : Bounds) (k : List ℕ) → holds r k ≡ true → floor_holds floor k ≡ true → floor_meets floor r ≡ true
held_met floors.All r k at_k h = refl
held_met (floors.Ranges rs) r k at_k h =
    let from = any-has (λ o. holds o k) rs h in
    any-from (λ o. meets o r) rs from.0 from.1 (meets-from_held from.0 r k from.2 at_k)

spent-tells : (stripes : List ℕ) (floor : Floor) (k : List ℕ) (i : Item) → here k i ≡ true → is_spent stripes floor i ≡ true → IsSpent stripes floor k i
spent-tells stripes floor k (entry key seq (Some v)) at_k h = absurd (false≢true h)
spent-tells stripes floor k (entry key seq None) at_k h =
    let (low, off) = and_parts (stripe stripes seq == 0) (not (floor_holds floor key)) h in
    record {
      lowest = eqb-true (stripe stripes seq) 0 low;
      deletes = refl;
      off_floor = subst (λ x. floor_holds floor x ≡ false) (same_key-tells key k at_k) (not-true (floor_holds floor key) off);
    }
spent-tells stripes floor k (span t) at_k h =
    let (low, off) = and_parts (stripe stripes t.seq == 0) (not (floor_meets floor t.range)) h in
    record {
      lowest = eqb-true (stripe stripes t.seq) 0 low;
      deletes = refl;
      off_floor = false_from_ne_true (floor_holds floor k) (λ g. false≢true (sym (not-true (floor_meets floor t.range) off) ∙ held_met floor t.range k at_k g));
    }

-- no rule takes out what stays
record Kept (stripes : List ℕ) (floor : Floor) (all : List Item) (i : Item) : Type 0 where
  not_shadowed : is_shadowed stripes all i ≡ false
  not_buried : is_buried stripes all i ≡ false
  not_repeated : is_repeated stripes all i ≡ false
  not_spent : is_spent stripes floor i ≡ false

kept : (stripes : List ℕ) (floor : Floor) (all : List Item) (i : Item) → stays stripes floor all i ≡ true → Kept stripes floor all i
kept stripes floor all i st =
    let a = is_shadowed stripes all i in
    let b = is_buried stripes all i in
    let c = is_repeated stripes all i in
    let d = is_spent stripes floor i in
    let abc = or_parts (a || b || c) d (not-true (a || b || c || d) st) in
    let ab = or_parts (a || b) c abc.0 in
    let one = or_parts a b ab.0 in
    record { not_shadowed = one.0; not_buried = one.1; not_repeated = ab.1; not_spent = abc.1 }

-- an entry that stays isn't outranked at its key
unshadowed : (stripes : List ℕ) (floor : Floor) (all : List Item) (k key : List ℕ) (seq : ℕ) (v : Option (List ℕ)) (i : Item) → stays stripes floor all (entry key seq v) ≡ true → same_key key k ≡ true → Has all i → here k i ≡ true → outranks stripes (seq_of i) seq ≡ true → ⊥
unshadowed stripes floor all k key seq v (entry a s w) st at_k h at_i over =
    let keys : same_key a key ≡ true = subst (λ x. same_key a x ≡ true) (sym (same_key-tells key k at_k)) at_i in
    false≢true (sym (kept stripes floor all (entry key seq v) st).not_shadowed ∙ any-from (shadows stripes key seq) all (entry a s w) h (and_from (same_key a key) (outranks stripes s seq) keys over))
unshadowed stripes floor all k key seq v (span t) st at_k h at_i over =
    let held : holds t.range key ≡ true = subst (λ x. holds t.range x ≡ true) (sym (same_key-tells key k at_k)) at_i in
    false≢true (sym (kept stripes floor all (entry key seq v) st).not_buried ∙ any-from (buries stripes key seq) all (span t) h (and_from (holds t.range key) (outranks stripes t.seq seq) held over))

-- Where the greatest item is spent, all that stays at the key below the limit deletes it: an entry above which it
-- stands is in its stripe too, and goes.
others_delete : (all : List Item) (stripes : List ℕ) (floor : Floor) (limit : ℕ) (k : List ℕ) (i j : Item) → IsClear all → IsGreatest all limit k i → IsSpent stripes floor k i → Has all j → is_seen limit k j ≡ true → stays stripes floor all j ≡ true → said j ≡ deleted
others_delete all stripes floor limit k i (span t) clear g spent h seen st = refl
others_delete all stripes floor limit k i (entry key seq v) clear g spent h seen st =
    let e = entry key seq v in
    let at_k = seen-here limit k e seen in
    let at_i = seen-here limit k i g.seen in
    let up : rank e ≤ rank i = g.highest e h seen in
    let order : seq ≤ seq_of i = seq-from_rank i e up in
    elim (cases_lt seq (seq_of i)) [
      | inl less ↦
          let lower = stripe_rises stripes seq (seq_of i) order in
          let same : stripe stripes (seq_of i) ≡ stripe stripes seq = let low = spent.lowest in omega arith in
          absurd (unshadowed stripes floor all k key seq v i st at_k g.member at_i (and_from (ltb seq (seq_of i)) (stripe stripes (seq_of i) == stripe stripes seq) (lt-ltb seq (seq_of i) less) (eq-eqb (stripe stripes (seq_of i)) (stripe stripes seq) same)))
      | inr not_less ↦
          let tie : rank e ≡ rank i = omega (arith, (rank-near i).1) in
          clear_says all k e i clear h g.member at_k at_i tie ∙ spent.deletes
    ]

-- what stays of some items
left : List ℕ → Floor → List Item → List Item
left stripes floor all = filter (stays stripes floor all) all

left-has : (stripes : List ℕ) (floor : Floor) (all : List Item) (i : Item) → Has (left stripes floor all) i → Has all i × (stays stripes floor all i ≡ true)
unfolding left
left-has stripes floor all i h = Has-from_filter (stays stripes floor all) all i h

has-left : (stripes : List ℕ) (floor : Floor) (all : List Item) (i : Item) → Has all i → stays stripes floor all i ≡ true → Has (left stripes floor all) i
unfolding left
has-left stripes floor all i h st = Has-filter (stays stripes floor all) all i h st

left-clear : (stripes : List ℕ) (floor : Floor) (all : List Item) → IsClear all → IsClear (left stripes floor all)
left-clear stripes floor all clear = λ key seq v w hv hw.
    clear key seq v w (left-has stripes floor all (entry key seq v) hv).0 (left-has stripes floor all (entry key seq w) hw).0

-- where nothing was, nothing is
agree_none : (all : List Item) (stripes : List ℕ) (floor : Floor) (limit : ℕ) (k : List ℕ) (o : Option Mark) → newest all limit k ≡ None → newest (left stripes floor all) limit k ≡ o → said_by o ≡ nothing
agree_none all stripes floor limit k None e f = refl
agree_none all stripes floor limit k (Some m) e f =
    let from = newest-Some (left stripes floor all) limit k m f in
    absurd (newest-None all limit k e from.0 (left-has stripes floor all from.0 from.1.member).0 from.1.seen)

-- where the greatest item stays, it decides
agree_kept : (all : List Item) (stripes : List ℕ) (floor : Floor) (limit : ℕ) (k : List ℕ) (i : Item) → IsClear all → IsGreatest all limit k i → stays stripes floor all i ≡ true → newest (left stripes floor all) limit k ≡ Some (mark i)
agree_kept all stripes floor limit k i clear g st =
    newest-greatest (left stripes floor all) limit k i (left-clear stripes floor all clear) (record {
      member = has-left stripes floor all i g.member st;
      seen = g.seen;
      highest = λ j h s. g.highest j (left-has stripes floor all j h).0 s;
    })

-- where it is spent, a delete or nothing is left
agree_spent : (all : List Item) (stripes : List ℕ) (floor : Floor) (limit : ℕ) (k : List ℕ) (i : Item) (o : Option Mark) → IsClear all → IsGreatest all limit k i → IsSpent stripes floor k i → newest (left stripes floor all) limit k ≡ o → Agree (said i) (said_by o) (floor_holds floor k)
agree_spent all stripes floor limit k i None clear g spent f = inr (spent.deletes, refl, spent.off_floor)
agree_spent all stripes floor limit k i (Some m) clear g spent f =
    let from = newest-Some (left stripes floor all) limit k m f in
    let had = left-has stripes floor all from.0 from.1.member in
    inl (spent.deletes ∙ sym (others_delete all stripes floor limit k i from.0 clear g spent had.0 from.1.seen had.1) ∙ ap (λ x. x.says) from.2)

agree_pieces : (all : List Item) (stripes : List ℕ) (floor : Floor) (limit : ℕ) (k : List ℕ) (o : Option Mark) → IsClear all → Seen all stripes limit k → newest all limit k ≡ o → Agree (said_by o) (verdict (left stripes floor all) limit k) (floor_holds floor k)
agree_pieces all stripes floor limit k None clear seen e = inl (sym (agree_none all stripes floor limit k (newest (left stripes floor all) limit k) e refl))
agree_pieces all stripes floor limit k (Some m) clear seen e =
    let from = newest-Some all limit k m e in
    let i = from.0 in
    let says : said i ≡ m.says = ap (λ x. x.says) from.2 in
    elim (greatest_stays all stripes floor limit k i seen from.1) [
      | inl st ↦ inl (sym says ∙ sym (ap said_by (agree_kept all stripes floor limit k i clear from.1 st)))
      | inr spent ↦
          let told = spent-tells stripes floor k i (seen-here limit k i from.1.seen) spent in
          subst (λ v. Agree v (verdict (left stripes floor all) limit k) (floor_holds floor k)) says
          (agree_spent all stripes floor limit k i (newest (left stripes floor all) limit k) clear from.1 told refl)
    ]

left-thinned : (c : List Item) (stripes : List ℕ) (floor : Floor) → left stripes floor (in_pieces c) ≡ thinned c stripes floor
unfolding left
left-thinned c stripes floor = refl

pieces_clear : (c : List Item) → IsClear c → IsClear (in_pieces c)
pieces_clear c clear = drawn_clear c (in_pieces c) (drawn-in_pieces c) clear

thinned-has : (c : List Item) (stripes : List ℕ) (floor : Floor) (i : Item) → Has (thinned c stripes floor) i → Has (in_pieces c) i
thinned-has c stripes floor i h = (Has-from_filter (stays stripes floor (in_pieces c)) (in_pieces c) i h).0

entry_no_span : (key : List ℕ) (seq : ℕ) (v : Option (List ℕ)) (t : Tombstone) → ◌≡◌ {A = Item} (entry key seq v) (span t) → ⊥
entry_no_span key seq v t e = cc

span_tells : (t u : Tombstone) → ◌≡◌ {A = Item} (span t) (span u) → t ≡ u
span_tells t u e = cc

entries_no_span : (c : List Item) (t : Tombstone) → Has (entries_in c) (span t) → ⊥
entries_no_span [] t h = h
entries_no_span (entry key seq v ∷ c) t (inl e) = entry_no_span key seq v t e
entries_no_span (entry key seq v ∷ c) t (inr h) = entries_no_span c t h
entries_no_span (span u ∷ c) t h = entries_no_span c t h

-- a span among the pieces is a piece of one of the content
pieces_span : (c : List Item) (t : Tombstone) → Has (in_pieces c) (span t) → (s : Tombstone) × Has c (span s) × IsTrue (covers s.range t.range) × (s.seq ≡ t.seq)
pieces_span c t h = elim (Has-append_cases (entries_in c) (map span (pieces (spans_in c))) (span t) h) [
  | inl e ↦ absurd (entries_no_span c t e)
  | inr s ↦
      let from = Has-from_map span (pieces (spans_in c)) (span t) s in
      let has = subst (λ x. Has (pieces (spans_in c)) x) (span_tells from.0 t from.2) from.1 in
      let in_ = piece_inside (spans_in c) t has in
      (in_.0, Has-spans_in c in_.0 in_.1, and_from (is_upto in_.0.range.lo t.range.lo) (is_upto t.range.hi in_.0.range.hi) in_.2 in_.3, in_.4)
]

-- what thinning keeps
pub keeps : (c : List Item) (stripes : List ℕ) (floor : Floor) → IsClear c → Keeps c (thinned c stripes floor) stripes floor
keeps c stripes floor clear = record {
  verdicts = λ k limit at.
      subst (λ v. Agree v (verdict (thinned c stripes floor) limit k) (floor_holds floor k)) (ap said_by (newest-in_pieces c limit k))
      (subst (λ d. Agree (verdict (in_pieces c) limit k) (verdict d limit k) (floor_holds floor k)) (left-thinned c stripes floor)
      (agree_pieces (in_pieces c) stripes floor limit k (newest (in_pieces c) limit k) (pieces_clear c clear) (seen_pieces c stripes limit k at) refl));
  entries = λ key seq v h. drawn_entry c (in_pieces c) key seq v (drawn-in_pieces c) (thinned-has c stripes floor (entry key seq v) h);
  spans = λ t h. pieces_span c t (thinned-has c stripes floor (span t) h);
}

pub thinned_drawn : (c : List Item) (stripes : List ℕ) (floor : Floor) → IsDrawn c (thinned c stripes floor)
thinned_drawn c stripes floor = λ k i h at_i. drawn-in_pieces c k i (thinned-has c stripes floor i h) at_i

-- members alone matter

stays-same : (stripes : List ℕ) (floor : Floor) (all more : List Item) (i : Item) → SameMembers all more → stays stripes floor all i ≡ stays stripes floor more i
stays-same stripes floor all more (entry key seq v) same =
    λ x. not (((any-same (shadows stripes key seq) all more same x || any-same (buries stripes key seq) all more same x) || false) || is_spent stripes floor (entry key seq v))
stays-same stripes floor all more (span t) same =
    λ x. not (any-same (repeats stripes t.range t.seq) all more same x || is_spent stripes floor (span t))

pub thinned_same : (c d : List Item) (stripes : List ℕ) (floor : Floor) → SameMembers (in_pieces c) (in_pieces d) → SameMembers (thinned c stripes floor) (thinned d stripes floor)
thinned_same c d stripes floor same =
    filter-same (stays stripes floor (in_pieces c)) (stays stripes floor (in_pieces d)) (in_pieces c) (in_pieces d) (λ i. stays-same stripes floor (in_pieces c) (in_pieces d) i same) same
