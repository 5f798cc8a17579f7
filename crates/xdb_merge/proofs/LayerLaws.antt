-- What is found in several layers is found in one after the other.
use Rattle.std.proofs.Common.{◌≡◌, ℕ, ◌+◌, ◌*◌, ◌<◌, ◌≤◌, Bool, true, false, cond, ltb, List, [], ◌∷◌, ◌++◌, length, get_or, take, map, Option, Some, None, IfSome, inl, inr, refl, sym, ap, ◌∙◌, subst, append-nil, arith}
use Rattle.std.proofs.lemmas.Bool.{cases_Bool, cases_lt, lt-ltb, le-ltb, false≢true}
use Rattle.std.proofs.lemmas.Grind.{flat_map-append}
use Rattle.std.proofs.lemmas.List.{map-append, take_more, take_all}
use Rattle.std.specs.List.{flat_map, find}
use Rattle.std.specs.Option.{option_map}
use Rattle.xdb_key.specs.Entries.{Point}
use Rattle.xdb_key.proofs.OrderLaws.{upto_trans, upto_from_below}
use Rattle.xdb_mem.specs.Parts.{Parts}
use Rattle.xdb_rangedel.specs.Content.{Mark, mark, rank, here, is_seen, newer, newest, entry_of}
use Rattle.xdb_rangedel.specs.Cover.{cover_of, greater}
use Rattle.xdb_rangedel.specs.Members.{Has}
use Rattle.xdb_rangedel.proofs.CoverLaws.{cover_of-append}
use Rattle.xdb_rangedel.proofs.FragmentLaws.{All-at_Has, AllPairs-head, AllPairs-tail}
use Rattle.xdb_rangedel.proofs.MemberLaws.{Has-append_left, Has-append_right, Has-append_cases, Has-from_map}
use Rattle.xdb_rangedel.proofs.NewestLaws.{newer-stays, newest-append, newest-Some, mark_at-seen, mark_at-unseen, seen-here, same_key-tells}
use Rattle.xdb_merge.specs.Layers.{IsAhead, AreSorted, entries_of, spans_of}
use Rattle.xdb_merge.specs.Search.{forwards, backwards, IsNearest, nearer, newer_entry, IsNewest, first_seen}
use Rattle.xdb_merge.proofs.SortedLaws.{below-or_upto}

-- ---- one layer more

pub flat_more : {A B : Type 0} (f : A → List B) (xs : List A) (i : ℕ) (x : A) → i < length xs → x ≡ get_or xs i x → flat_map f (take (i + 1) xs) ≡ flat_map f (take i xs) ++ f x
flat_more f xs i x inside is =
    ap (flat_map f) (take_more xs i x inside)
    ∙ ap (λ y. flat_map f (take i xs ++ y ∷ [])) (sym is)
    ∙ flat_map-append f (take i xs) (x ∷ [])
    ∙ ap (λ ys. flat_map f (take i xs) ++ ys) (append-nil (f x))

-- ---- the nearest key

-- any two keys can be told apart, and the direction is kept
pub record IsLine (comes : List ℕ → List ℕ → Bool) : Type 0 where
  pub trans : (a b c : List ℕ) → comes a b ≡ true → comes b c ≡ true → comes a c ≡ true
  pub total : (a b : List ℕ) → comes a b ≡ false → comes b a ≡ true

forwards-line : IsLine forwards
forwards-line = record {
  trans = upto_trans;
  total = λ a b h. upto_from_below b a (below-or_upto a b h);
}

backwards-line : IsLine backwards
backwards-line = record {
  trans = λ a b c h g. upto_trans c b a g h;
  total = λ a b h. upto_from_below a b (below-or_upto b a h);
}

nearest_joined : (comes : List ℕ → List ℕ → Bool) (t : List ℕ → Bool) (ps qs : List Point) (a b : Option (List ℕ)) → IsLine comes → IsNearest comes t ps a → IsNearest comes t qs b → IsNearest comes t (ps ++ qs) (nearer comes a b)
nearest_joined comes t ps qs None None line m n = λ p has. elim (Has-append_cases ps qs p has) [ inl h ↦ m p h | inr h ↦ n p h ]
nearest_joined comes t ps qs None (Some k) line m n = record {
  passing = n.passing;
  held = (n.held.0, Has-append_right ps qs n.held.0 n.held.1, n.held.2);
  first = λ p has from. elim (Has-append_cases ps qs p has) [ inl h ↦ absurd (false≢true (sym (m p h) ∙ from)) | inr h ↦ n.first p h from ];
}
nearest_joined comes t ps qs (Some k) None line m n = record {
  passing = m.passing;
  held = (m.held.0, Has-append_left ps qs m.held.0 m.held.1, m.held.2);
  first = λ p has from. elim (Has-append_cases ps qs p has) [ inl h ↦ m.first p h from | inr h ↦ absurd (false≢true (sym (n p h) ∙ from)) ];
}
nearest_joined comes t ps qs (Some j) (Some k) line m n = elim (cases_Bool (comes j k)) [
  | inl e ↦
      let is : IsNearest comes t (ps ++ qs) (Some j) = record {
        passing = m.passing;
        held = (m.held.0, Has-append_left ps qs m.held.0 m.held.1, m.held.2);
        first = λ p has from. elim (Has-append_cases ps qs p has) [ inl h ↦ m.first p h from | inr h ↦ line.trans j k p.key e (n.first p h from) ];
      } in
      subst (IsNearest comes t (ps ++ qs)) (sym (ap (λ b. cond b (Some j) (Some k)) e)) is
  | inr e ↦
      let is : IsNearest comes t (ps ++ qs) (Some k) = record {
        passing = n.passing;
        held = (n.held.0, Has-append_right ps qs n.held.0 n.held.1, n.held.2);
        first = λ p has from. elim (Has-append_cases ps qs p has) [ inl h ↦ line.trans k j p.key (line.total j k e) (m.first p h from) | inr h ↦ n.first p h from ];
      } in
      subst (IsNearest comes t (ps ++ qs)) (sym (ap (λ b. cond b (Some j) (Some k)) e)) is
]

nearest_more : (comes : List ℕ → List ℕ → Bool) (t : List ℕ → Bool) (ls : List Parts) (i : ℕ) (l : Parts) (a b c : Option (List ℕ)) → IsLine comes → i < length ls → l ≡ get_or ls i l → IsNearest comes t (entries_of (take i ls)) a → IsNearest comes t l.entries b → c ≡ nearer comes a b → IsNearest comes t (entries_of (take (i + 1) ls)) c
nearest_more comes t ls i l a b c line inside is before at found =
    subst (λ ps. IsNearest comes t ps c) (sym (flat_more (λ (x : Parts). x.entries) ls i l inside is))
    (subst (IsNearest comes t (entries_of (take i ls) ++ l.entries)) (sym found) (nearest_joined comes t (entries_of (take i ls)) l.entries a b line before at))

pub first_more : (t : List ℕ → Bool) (ls : List Parts) (i : ℕ) (l : Parts) (a b c : Option (List ℕ)) → i < length ls → l ≡ get_or ls i l → IsNearest forwards t (entries_of (take i ls)) a → IsNearest forwards t l.entries b → c ≡ nearer forwards a b → IsNearest forwards t (entries_of (take (i + 1) ls)) c
first_more t ls i l a b c inside is before at found = nearest_more forwards t ls i l a b c forwards-line inside is before at found

pub last_more : (t : List ℕ → Bool) (ls : List Parts) (i : ℕ) (l : Parts) (a b c : Option (List ℕ)) → i < length ls → l ≡ get_or ls i l → IsNearest backwards t (entries_of (take i ls)) a → IsNearest backwards t l.entries b → c ≡ nearer backwards a b → IsNearest backwards t (entries_of (take (i + 1) ls)) c
last_more t ls i l a b c inside is before at found = nearest_more backwards t ls i l a b c backwards-line inside is before at found

pub nearest_all : (comes : List ℕ → List ℕ → Bool) (t : List ℕ → Bool) (ls : List Parts) (i : ℕ) (a : Option (List ℕ)) → length ls ≤ i → IsNearest comes t (entries_of (take i ls)) a → IsNearest comes t (entries_of ls) a
nearest_all comes t ls i a past before = subst (λ xs. IsNearest comes t (entries_of xs) a) (take_all i ls past) before

-- ---- the newest entry

stays-above : (p q : Point) (m : Mark) → q.seq ≤ p.seq → mark (entry_of q) ≡ m → m.place ≤ rank (entry_of p)
stays-above p q m less e =
    let place : rank (entry_of q) ≡ m.place = ap (λ x. x.place) e in
    omega arith

newest-first_by : (p : Point) (ps : List Point) (limit : ℕ) (k : List ℕ) (o : Option Mark) → AreSorted (p ∷ ps) → is_seen limit k (entry_of p) ≡ true → newest (map entry_of ps) limit k ≡ o → newer (Some (mark (entry_of p))) o ≡ Some (mark (entry_of p))
newest-first_by p ps limit k None sorted seen e = refl
newest-first_by p ps limit k (Some m) sorted seen e =
    let found = newest-Some (map entry_of ps) limit k m e in
    let from = Has-from_map entry_of ps found.0 found.1.member in
    let q = from.0 in
    let at_q : here k (entry_of q) ≡ true = ap (here k) from.2 ∙ seen-here limit k found.0 found.1.seen in
    let ahead : IsAhead p q = All-at_Has (IsAhead p) ps q (AllPairs-head IsAhead p ps sorted) from.1 in
    let keys : p.key ≡ q.key = same_key-tells p.key k (seen-here limit k (entry_of p) seen) ∙ sym (same_key-tells q.key k at_q) in
    newer-stays (mark (entry_of p)) m (stays-above p q m (ahead.falls keys) (ap mark from.2 ∙ found.2))

-- in sorted entries, the first entry that is seen is the newest
newest-first : (ps : List Point) (limit : ℕ) (k : List ℕ) → AreSorted ps → newest (map entry_of ps) limit k ≡ option_map (λ p. mark (entry_of p)) (first_seen limit k ps)
newest-first [] limit k sorted = refl
newest-first (p ∷ ps) limit k sorted = elim (cases_Bool (is_seen limit k (entry_of p))) [
  | inl s ↦ ap (λ o. newer o (newest (map entry_of ps) limit k)) (mark_at-seen limit k (entry_of p) s)
      ∙ newest-first_by p ps limit k (newest (map entry_of ps) limit k) sorted s refl
      ∙ ap (λ b. option_map (λ x. mark (entry_of x)) (cond b (Some p) (first_seen limit k ps))) (sym s)
  | inr n ↦ ap (λ o. newer o (newest (map entry_of ps) limit k)) (mark_at-unseen limit k (entry_of p) n)
      ∙ newest-first ps limit k (AllPairs-tail IsAhead p ps sorted)
      ∙ ap (λ b. option_map (λ x. mark (entry_of x)) (cond b (Some p) (first_seen limit k ps))) (sym n)
]

-- what is found passes the test and is held
found-passes : (t : Point → Bool) (ps : List Point) (p : Point) → find t ps ≡ Some p → (t p ≡ true) × Has ps p
found-passes t [] p e = absurd (cc)
found-passes t (q ∷ ps) p e = elim (cases_Bool (t q)) [
  | inl h ↦
      let same : Some q ≡ Some p = sym (ap (λ b. cond b (Some q) (find t ps)) h) ∙ e in
      let is : q ≡ p = cc in
      (ap t (sym is) ∙ h, inl is)
  | inr h ↦ let rest = found-passes t ps p (sym (ap (λ b. cond b (Some q) (find t ps)) h) ∙ e) in (rest.0, inr rest.1)
]

seen-member : (limit : ℕ) (k : List ℕ) (ps : List Point) (o : Option Point) → first_seen limit k ps ≡ o → IfSome o (λ p. (p.key ≡ k) × Has ps p)
seen-member limit k ps None e = tt
seen-member limit k ps (Some p) e =
    let found = found-passes (λ q. is_seen limit k (entry_of q)) ps p e in
    (same_key-tells p.key k (seen-here limit k (entry_of p) found.0), found.1)

newest_one : (limit : ℕ) (k : List ℕ) (ps : List Point) → AreSorted ps → IsNewest limit k ps (first_seen limit k ps)
newest_one limit k ps sorted = record {
  newest = newest-first ps limit k sorted;
  member = seen-member limit k ps (first_seen limit k ps) refl;
}

newer-marks : (a b : Option Point) → newer (option_map (λ p. mark (entry_of p)) a) (option_map (λ p. mark (entry_of p)) b) ≡ option_map (λ p. mark (entry_of p)) (newer_entry a b)
newer-marks None b = refl
newer-marks (Some p) None = refl
newer-marks (Some p) (Some q) = elim (cases_lt p.seq q.seq) [
  | inl less ↦ ap (λ b. cond b (Some (mark (entry_of q))) (Some (mark (entry_of p)))) (lt-ltb (2 * p.seq + 1) (2 * q.seq + 1) (omega arith))
      ∙ ap (λ b. option_map (λ x. mark (entry_of x)) (cond b (Some q) (Some p))) (sym (lt-ltb p.seq q.seq less))
  | inr more ↦ ap (λ b. cond b (Some (mark (entry_of q))) (Some (mark (entry_of p)))) (le-ltb (2 * p.seq + 1) (2 * q.seq + 1) (omega arith))
      ∙ ap (λ b. option_map (λ x. mark (entry_of x)) (cond b (Some q) (Some p))) (sym (le-ltb p.seq q.seq more))
]

newer-member : (P : Point → Type 0) (a b : Option Point) → IfSome a P → IfSome b P → IfSome (newer_entry a b) P
newer-member P None b m n = n
newer-member P (Some p) None m n = m
newer-member P (Some p) (Some q) m n = elim (cases_Bool (ltb p.seq q.seq)) [
  | inl e ↦ subst (λ o. IfSome o P) (sym (ap (λ b. cond b (Some q) (Some p)) e)) n
  | inr e ↦ subst (λ o. IfSome o P) (sym (ap (λ b. cond b (Some q) (Some p)) e)) m
]

held-more : (k : List ℕ) (ps qs : List Point) (o : Option Point) → IfSome o (λ p. (p.key ≡ k) × Has ps p) → IfSome o (λ p. (p.key ≡ k) × Has (ps ++ qs) p)
held-more k ps qs None h = tt
held-more k ps qs (Some p) h = (h.0, Has-append_left ps qs p h.1)

held-behind : (k : List ℕ) (ps qs : List Point) (o : Option Point) → IfSome o (λ p. (p.key ≡ k) × Has qs p) → IfSome o (λ p. (p.key ≡ k) × Has (ps ++ qs) p)
held-behind k ps qs None h = tt
held-behind k ps qs (Some p) h = (h.0, Has-append_right ps qs p h.1)

newest_joined : (limit : ℕ) (k : List ℕ) (ps qs : List Point) (a b : Option Point) → IsNewest limit k ps a → IsNewest limit k qs b → IsNewest limit k (ps ++ qs) (newer_entry a b)
newest_joined limit k ps qs a b m n = record {
  newest = ap (λ c. newest c limit k) (map-append entry_of ps qs)
      ∙ newest-append (map entry_of ps) (map entry_of qs) limit k
      ∙ ap (λ o. newer o (newest (map entry_of qs) limit k)) m.newest
      ∙ ap (λ o. newer (option_map (λ p. mark (entry_of p)) a) o) n.newest
      ∙ newer-marks a b;
  member = newer-member (λ p. (p.key ≡ k) × Has (ps ++ qs) p) a b (held-more k ps qs a m.member) (held-behind k ps qs b n.member);
}

pub newest_more : (limit : ℕ) (k : List ℕ) (ls : List Parts) (i : ℕ) (l : Parts) (a b c : Option Point) → i < length ls → l ≡ get_or ls i l → AreSorted l.entries → IsNewest limit k (entries_of (take i ls)) a → b ≡ first_seen limit k l.entries → c ≡ newer_entry a b → IsNewest limit k (entries_of (take (i + 1) ls)) c
newest_more limit k ls i l a b c inside is sorted before at found =
    let one : IsNewest limit k l.entries b = subst (IsNewest limit k l.entries) (sym at) (newest_one limit k l.entries sorted) in
    subst (λ ps. IsNewest limit k ps c) (sym (flat_more (λ (x : Parts). x.entries) ls i l inside is))
    (subst (IsNewest limit k (entries_of (take i ls) ++ l.entries)) (sym found) (newest_joined limit k (entries_of (take i ls)) l.entries a b before one))

pub newest_none : (limit : ℕ) (k : List ℕ) → IsNewest limit k [] None
newest_none limit k = record { newest = refl; member = tt }

pub newest_all : (limit : ℕ) (k : List ℕ) (ls : List Parts) (i : ℕ) (a : Option Point) → length ls ≤ i → IsNewest limit k (entries_of (take i ls)) a → IsNewest limit k (entries_of ls) a
newest_all limit k ls i a past before = subst (λ xs. IsNewest limit k (entries_of xs) a) (take_all i ls past) before

-- ---- the cover

pub cover_more : (limit : ℕ) (k : List ℕ) (ls : List Parts) (i : ℕ) (l : Parts) (a b c : Option ℕ) → i < length ls → l ≡ get_or ls i l → a ≡ cover_of (spans_of (take i ls)) k limit → b ≡ cover_of l.spans k limit → c ≡ greater a b → c ≡ cover_of (spans_of (take (i + 1) ls)) k limit
cover_more limit k ls i l a b c inside is before at found =
    found ∙ ap (λ o. greater o b) before ∙ ap (greater (cover_of (spans_of (take i ls)) k limit)) at
    ∙ sym (cover_of-append (spans_of (take i ls)) l.spans k limit)
    ∙ ap (λ ts. cover_of ts k limit) (sym (flat_more (λ (x : Parts). x.spans) ls i l inside is))

pub cover_all : (limit : ℕ) (k : List ℕ) (ls : List Parts) (i : ℕ) (a : Option ℕ) → length ls ≤ i → a ≡ cover_of (spans_of (take i ls)) k limit → a ≡ cover_of (spans_of ls) k limit
cover_all limit k ls i a past before = before ∙ ap (λ xs. cover_of (spans_of xs) k limit) (take_all i ls past)
