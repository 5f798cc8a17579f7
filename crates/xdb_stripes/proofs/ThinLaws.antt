-- From the rules on entries and fragments apart to those on all items of their content.
use Rattle.std.proofs.Common.{◌≡◌, ℕ, Bool, true, false, not, ◌&&◌, ◌||◌, ◌==◌, List, ◌++◌, map, inl, inr, refl, sym, ap, ◌∙◌, subst}
use Rattle.std.specs.List.{list_any, filter}
use Rattle.xdb_key.specs.Entries.{Point, Tombstone}
use Rattle.xdb_key.specs.declared.op.Kind.{Kind}
use Rattle.xdb_key.specs.declared.op.Kind.TheVariants as kinds
use Rattle.xdb_rangedel.specs.Members.{Has, SameMembers}
use Rattle.xdb_rangedel.specs.Pieces.{AreFragments, is_ordered, pieces}
use Rattle.xdb_rangedel.specs.Content.{Item, entry, span, value_at, entry_of, content_of, in_pieces}
use Rattle.xdb_rangedel.proofs.MemberLaws.{Has-append_cases, Has-append_left, Has-append_right, Has-map, Has-from_map}
use Rattle.xdb_rangedel.proofs.FragmentLaws.{All-at_Has}
use Rattle.xdb_rangedel.proofs.OnlyLaws.{fragments_themselves}
use Rattle.xdb_rangedel.proofs.SpanLaws.{entries_in-content_of, spans_in-content_of}
use Rattle.std.proofs.lemmas.List.Elements.{filter-append}
use Rattle.std.proofs.lemmas.List.Folds.{list_any-append}
use Rattle.xdb_stripes.specs.Stripes.{stripe}
use Rattle.xdb_stripes.specs.declared.floor.Floor.{Floor}
use Rattle.xdb_stripes.specs.declared.floor.FloorIndex.{FloorIndex}
use Rattle.xdb_stripes.specs.Thinned.{shadows, buries, repeats, is_spent, stays, thinned, staying_entries, staying_spans}
use Rattle.xdb_stripes.specs.Steps.{IsIndex, index_holds, shadows_entry, buries_entry, repeats_span, is_delete, is_lost_delete, is_kept_entry, is_kept_span}
use Rattle.xdb_stripes.proofs.AnyLaws.{any_along, any-map, any-never, any-same, filter_along, filter-map, filter-same}

all-is : (ps : List Point) (ts : List Tombstone) → in_pieces (content_of ps ts) ≡ map entry_of ps ++ map span (pieces ts)
all-is ps ts = λ i. entries_in-content_of ps ts i ++ map span (pieces (spans_in-content_of ps ts i))

or_false : (a : Bool) → (a || false) ≡ a
or_false true = refl
or_false false = refl

-- a test that speaks of entries alone, and one that speaks of spans alone

any-entries : (p : Item → Bool) (q : Point → Bool) (ps : List Point) (ts : List Tombstone) → ((x : Point) → p (entry_of x) ≡ q x) → ((t : Tombstone) → p (span t) ≡ false) → list_any p (in_pieces (content_of ps ts)) ≡ list_any q ps
any-entries p q ps ts same never =
    ap (list_any p) (all-is ps ts) ∙ list_any-append p (map entry_of ps) (map span (pieces ts))
    ∙ (λ i. any-map p entry_of ps i || any-map p span (pieces ts) i)
    ∙ (λ i. any_along (λ x. p (entry_of x)) q ps (λ x h. same x) i || any-never (λ t. p (span t)) (pieces ts) never i)
    ∙ or_false (list_any q ps)

any-spans : (p : Item → Bool) (q : Tombstone → Bool) (ps : List Point) (ts : List Tombstone) → AreFragments ts → ((x : Point) → p (entry_of x) ≡ false) → ((t : Tombstone) → p (span t) ≡ q t) → list_any p (in_pieces (content_of ps ts)) ≡ list_any q ts
any-spans p q ps ts f never same =
    ap (list_any p) (all-is ps ts) ∙ list_any-append p (map entry_of ps) (map span (pieces ts))
    ∙ (λ i. any-map p entry_of ps i || any-map p span (pieces ts) i)
    ∙ (λ i. any-never (λ x. p (entry_of x)) ps never i || any_along (λ t. p (span t)) q (pieces ts) (λ t h. same t) i)
    ∙ any-same q (pieces ts) ts (fragments_themselves ts f)

-- what is known of what the rules are asked of
pub record Asked (ts : List Tombstone) (floor : Floor) (index : FloorIndex) : Type 0 where
  pub fragments : AreFragments ts
  pub answers : IsIndex floor index

spent_by_kind : (ss : List ℕ) (floor : Floor) (index : FloorIndex) (key : List ℕ) (seq : ℕ) (value : List ℕ) (k : Kind) → IsIndex floor index → is_spent ss floor (entry key seq (value_at k value)) ≡ (is_delete k && (stripe ss seq == 0 && not (index_holds index key)))
spent_by_kind ss floor index key seq value kinds.Del h = ap (λ b. stripe ss seq == 0 && not b) (sym (h.keys key))
spent_by_kind ss floor index key seq value kinds.Set h = refl
spent_by_kind ss floor index key seq value kinds.SpanDel h = ap (λ b. stripe ss seq == 0 && not b) (sym (h.keys key))

grouped : (a b d : Bool) → not (((a || b) || false) || d) ≡ not (a || (b || d))
grouped true b d = refl
grouped false true d = refl
grouped false false d = refl

pub stays-entry : (ss : List ℕ) (floor : Floor) (index : FloorIndex) (ps : List Point) (ts : List Tombstone) (p : Point) → Asked ts floor index → is_kept_entry ss index ps ts p ≡ stays ss floor (in_pieces (content_of ps ts)) (entry_of p)
stays-entry ss floor index ps ts p asked = sym (
    (λ i. not (((any-entries (shadows ss p.key p.seq) (shadows_entry ss p) ps ts (λ x. refl) (λ t. refl) i
    || any-spans (buries ss p.key p.seq) (buries_entry ss p) ps ts asked.fragments (λ x. refl) (λ t. refl) i) || false)
    || spent_by_kind ss floor index p.key p.seq p.value p.kind asked.answers i))
    ∙ grouped (list_any (shadows_entry ss p) ps) (list_any (buries_entry ss p) ts) (is_lost_delete ss index p))

pub stays-span : (ss : List ℕ) (floor : Floor) (index : FloorIndex) (ps : List Point) (ts : List Tombstone) (t : Tombstone) → Asked ts floor index → is_ordered t ≡ true → is_kept_span ss index ts t ≡ stays ss floor (in_pieces (content_of ps ts)) (span t)
stays-span ss floor index ps ts t asked sane = sym (λ i. not (any-spans (repeats ss t.range t.seq) (repeats_span ss t) ps ts asked.fragments (λ x. refl) (λ u. refl) i || (stripe ss t.seq == 0 && not (sym (asked.answers.ranges t.range sane) i))))

-- what is left of entries and of fragments

pub staying_entries-is : (ss : List ℕ) (floor : Floor) (index : FloorIndex) (ps : List Point) (ts : List Tombstone) → Asked ts floor index → filter (is_kept_entry ss index ps ts) ps ≡ staying_entries ps ts ss floor
staying_entries-is ss floor index ps ts asked =
    filter_along (is_kept_entry ss index ps ts) (λ p. stays ss floor (in_pieces (content_of ps ts)) (entry_of p)) ps (λ p h. stays-entry ss floor index ps ts p asked)

pub staying_spans-is : (ss : List ℕ) (floor : Floor) (index : FloorIndex) (ps : List Point) (ts : List Tombstone) → Asked ts floor index → filter (is_kept_span ss index ts) ts ≡ staying_spans ps ts ss floor
staying_spans-is ss floor index ps ts asked =
    filter_along (is_kept_span ss index ts) (λ t. stays ss floor (in_pieces (content_of ps ts)) (span t)) ts (λ t h. stays-span ss floor index ps ts t asked (All-at_Has (λ x. is_ordered x ≡ true) ts t asked.fragments.ordered h))

-- together they are what is left of the content

same_joined : {A : Type 0} (front xs ys : List A) → SameMembers xs ys → SameMembers (front ++ xs) (front ++ ys)
same_joined front xs ys same = λ x. (
  (λ h. elim (Has-append_cases front xs x h) [ inl a ↦ Has-append_left front ys x a | inr b ↦ Has-append_right front ys x ((same x).0 b) ]),
  (λ h. elim (Has-append_cases front ys x h) [ inl a ↦ Has-append_left front xs x a | inr b ↦ Has-append_right front xs x ((same x).1 b) ]),
)

same_mapped : {A B : Type 0} (f : A → B) (xs ys : List A) → SameMembers xs ys → SameMembers (map f xs) (map f ys)
same_mapped f xs ys same = λ z. (
  (λ h. let from = Has-from_map f xs z h in subst (λ x. Has (map f ys) x) from.2 (Has-map f ys from.0 ((same from.0).0 from.1))),
  (λ h. let from = Has-from_map f ys z h in subst (λ x. Has (map f xs) x) from.2 (Has-map f xs from.0 ((same from.0).1 from.1))),
)

thinned-parts : (ss : List ℕ) (floor : Floor) (ps : List Point) (ts : List Tombstone) → thinned (content_of ps ts) ss floor ≡ map entry_of (staying_entries ps ts ss floor) ++ map span (filter (λ t. stays ss floor (in_pieces (content_of ps ts)) (span t)) (pieces ts))
thinned-parts ss floor ps ts =
    let test = stays ss floor (in_pieces (content_of ps ts)) in
    ap (filter test) (all-is ps ts) ∙ filter-append test (map entry_of ps) (map span (pieces ts)) ∙ (λ i. filter-map test entry_of ps i ++ filter-map test span (pieces ts) i)

pub thinned-members : (ss : List ℕ) (floor : Floor) (ps : List Point) (ts : List Tombstone) → AreFragments ts → SameMembers (content_of (staying_entries ps ts ss floor) (staying_spans ps ts ss floor)) (thinned (content_of ps ts) ss floor)
thinned-members ss floor ps ts f =
    let test = λ (t : Tombstone). stays ss floor (in_pieces (content_of ps ts)) (span t) in
    let whole = fragments_themselves ts f in
    subst (λ xs. SameMembers (content_of (staying_entries ps ts ss floor) (staying_spans ps ts ss floor)) xs) (sym (thinned-parts ss floor ps ts))
    (same_joined (map entry_of (staying_entries ps ts ss floor)) (map span (staying_spans ps ts ss floor)) (map span (filter test (pieces ts)))
    (same_mapped span (filter test ts) (filter test (pieces ts)) (filter-same test test ts (pieces ts) (λ t. refl) (λ t. ((whole t).1, (whole t).0)))))
