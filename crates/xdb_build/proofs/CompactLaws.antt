-- A compaction: what is left of its tables, and that its outputs fit what was given.
use Rattle.std.proofs.Common.{◌≡◌, ℕ, zero, suc, ◌+◌, ◌-◌, Bool, List, [], ◌∷◌, ◌++◌, take, map, Option, IsTrue, inl, inr, refl, sym, ap, ◌∙◌, subst, arith}
use Rattle.std.proofs.lemmas.Bool.{and_parts}
use Rattle.std.specs.List.{AllByRecursion, flat_map, filter}
use Rattle.xdb_device.specs.Told.{Told}
use Rattle.xdb_key.proofs.OrderLaws.{upto_trans}
use Rattle.xdb_key.specs.Bounds.{Bounds, covers}
use Rattle.xdb_key.specs.Entries.{Point, Tombstone}
use Rattle.xdb_key.specs.InOrder.{AreInOrder}
use Rattle.xdb_key.specs.Order.{is_below, is_upto}
use Rattle.xdb_merge.specs.Tables.{NamesDamage}
use Rattle.xdb_meta.specs.Table.{Table, bounds_of}
use Rattle.xdb_rangedel.proofs.FragmentLaws.{AreFragments-parts_before, AreFragments-parts_from}
use Rattle.xdb_rangedel.proofs.MemberLaws.{Has-append_cases, Has-append_left, Has-append_right, Has-map, Has-from_map}
use Rattle.xdb_rangedel.proofs.OnlyLaws.{fragments_themselves}
use Rattle.xdb_rangedel.proofs.SpanLaws.{entries_in-content_of, spans_in-content_of, Has-spans_in, spans_in-keeps, Has-entries_in, entries_in-keeps}
use Rattle.xdb_rangedel.specs.Clip.{parts_before, parts_from}
use Rattle.xdb_rangedel.specs.Content.{Item, entry, span, entries_in, spans_in, in_pieces, entry_of, content_of}
use Rattle.xdb_rangedel.specs.Members.{Has, SameMembers}
use Rattle.xdb_rangedel.specs.Pieces.{pieces, is_ordered, cut_all, AreFragments}
use Rattle.xdb_stripes.proofs.AnyLaws.{Has-from_filter}
use Rattle.xdb_stripes.proofs.KeepLaws.{thinned_same}
use Rattle.xdb_stripes.specs.declared.floor.Floor.{Floor}
use Rattle.xdb_stripes.specs.Thinned.{stays, thinned, staying_entries, staying_spans}
use Rattle.xdb_table_r.specs.declared.error.TableNo.{TableNo}
use Rattle.xdb_table_r.specs.declared.error.TableNo.TheVariants as no
use Rattle.xdb_work.proofs.WorkLaws.{held_none}
use Rattle.xdb_work.specs.Work.{nums_of, AreHeld}
use Rattle.xdb_build.proofs.ReachLaws.{hull_end}
use Rattle.xdb_build.proofs.SeriesLaws.{IsKept, AllKeys, HasKeys, each_has_keys, numbers_rise, few_tables, own_files, own_reaches, tables_apart, hold_all, all_full, all_open, begin_all, told_is, cut_all-same}
use Rattle.xdb_build.proofs.TryLaws.{tries_none, tries_stand}
use Rattle.xdb_build.specs.Compacting.{IsLeft, IsCompacted}
use Rattle.xdb_build.specs.Cuts.{IsOpen}
use Rattle.xdb_build.specs.Fits.{FitsCompaction, Hold, NamesInput}
use Rattle.xdb_build.specs.Gathered.{LiesInOne, IsGathered}
use Rattle.xdb_build.specs.Given.{Given, reserved, table_content, left_of}
use Rattle.xdb_build.specs.Outputs.{LiesInHull, AreTold, HasFragments, contents, content_told, cuts, cut_at}
use Rattle.xdb_build.specs.Series.{AreOutputs, AreWritten, Stops, cause_of_table}
use Rattle.xdb_build.specs.declared.series.Progress.{Progress}

-- ---- what is left

same_then : {A : Type 0} (xs ys zs : List A) → SameMembers xs ys → SameMembers ys zs → SameMembers xs zs
same_then xs ys zs f g x = ((λ h. (g x).0 ((f x).0 h)), (λ h. (f x).1 ((g x).1 h)))

same_back : {A : Type 0} (xs ys : List A) → SameMembers xs ys → SameMembers ys xs
same_back xs ys same x = ((same x).1, (same x).0)

-- fragments are their own pieces
whole_pieces : (ps : List Point) (ts : List Tombstone) → AreFragments ts → SameMembers (in_pieces (content_of ps ts)) (content_of ps ts)
whole_pieces ps ts f =
    subst (λ c. SameMembers c (content_of ps ts)) (sym (λ i. entries_in-content_of ps ts i ++ map span (pieces (spans_in-content_of ps ts i))))
    (λ x. (
      (λ h. elim (Has-append_cases (map entry_of ps) (map span (pieces ts)) x h) [
        | inl e ↦ Has-append_left (map entry_of ps) (map span ts) x e
        | inr s ↦ let from = Has-from_map span (pieces ts) x s in Has-append_right (map entry_of ps) (map span ts) x (subst (Has (map span ts)) from.2 (Has-map span ts from.0 ((fragments_themselves ts f from.0).0 from.1)))
      ]),
      (λ h. elim (Has-append_cases (map entry_of ps) (map span ts) x h) [
        | inl e ↦ Has-append_left (map entry_of ps) (map span (pieces ts)) x e
        | inr s ↦ let from = Has-from_map span ts x s in Has-append_right (map entry_of ps) (map span (pieces ts)) x (subst (Has (map span (pieces ts))) from.2 (Has-map span (pieces ts) from.0 ((fragments_themselves ts f from.0).1 from.1)))
      ]),
    ))

-- what stays was there
stays_of : (ps left : List Point) (ts over : List Tombstone) (p : Item → Bool) (i : Item) → left ≡ filter (λ q. p (entry_of q)) ps → over ≡ filter (λ t. p (span t)) ts → Has (content_of left over) i → Has (content_of ps ts) i
stays_of ps left ts over p i left_is over_is h = elim (Has-append_cases (map entry_of left) (map span over) i h) [
  | inl e ↦
      let from = Has-from_map entry_of left i e in
      let old = (Has-from_filter (λ q. p (entry_of q)) ps from.0 (subst (λ qs. Has qs from.0) left_is from.1)).0 in
      subst (Has (content_of ps ts)) from.2 (Has-append_left (map entry_of ps) (map span ts) (entry_of from.0) (Has-map entry_of ps from.0 old))
  | inr s ↦
      let from = Has-from_map span over i s in
      let old = (Has-from_filter (λ t. p (span t)) ts from.0 (subst (λ us. Has us from.0) over_is from.1)).0 in
      subst (Has (content_of ps ts)) from.2 (Has-append_right (map entry_of ps) (map span ts) (span from.0) (Has-map span ts from.0 old))
]

module _ {F : Type 0} (bytes : F → Option (List ℕ)) (g : Given F) where
  pub left_is : (es left : List Point) (ss over : List Tombstone) → IsGathered bytes g.tables es ss → left ≡ staying_entries es ss g.stripes g.floor → over ≡ staying_spans es ss g.stripes g.floor
      → SameMembers (content_of left over) (thinned (content_of es ss) g.stripes g.floor) → AreInOrder left → AreFragments over → IsLeft bytes g left over
  left_is es left ss over all left_made over_made same order fragments = record {
    order = order;
    fragments = fragments;
    inside = λ i h. all.inside i (stays_of es left ss over (stays g.stripes g.floor (in_pieces (content_of es ss))) i left_made over_made h);
    members = λ told clear.
        let c = table_content bytes g in
        same_then (content_of left over) (thinned (content_of es ss) g.stripes g.floor) (left_of g c) same
        (thinned_same (content_of es ss) c g.stripes g.floor
        (same_then (in_pieces (content_of es ss)) (content_of es ss) (in_pieces c) (whole_pieces es ss all.fragments) (all.members told clear)));
  }

  pub left_from : (tables : List (Table × F)) (es seen left : List Point) (ss over : List Tombstone) (stripes : List ℕ) (floor : Floor) → tables ≡ g.tables → seen ≡ es → stripes ≡ g.stripes → floor ≡ g.floor → IsGathered bytes tables es ss
      → left ≡ staying_entries seen ss stripes floor → over ≡ staying_spans seen ss stripes floor → SameMembers (content_of left over) (thinned (content_of seen ss) stripes floor) → AreInOrder left → AreFragments over → IsLeft bytes g left over
  left_from tables es seen left ss over stripes floor tables_are seen_is stripes_are floor_is all left_made over_made same order fragments =
      left_is seen left ss over (subst (λ qs. IsGathered bytes g.tables qs ss) (sym seen_is) (subst (λ ts. IsGathered bytes ts es ss) tables_are all))
      (left_made ∙ (λ i. staying_entries seen ss (stripes_are i) (floor_is i)))
      (over_made ∙ (λ i. staying_spans seen ss (stripes_are i) (floor_is i)))
      (subst (SameMembers (content_of left over)) (λ i. thinned (content_of seen ss) (stripes_are i) (floor_is i)) same)
      order fragments

-- ---- what stops the work

pub damage_is : {F : Type 0} (bytes : F → Option (List ℕ)) (g : Given F) (n : TableNo) → NamesDamage bytes g.tables n → NamesInput bytes g.tables (cause_of_table n)
damage_is bytes g no.ReadFault h = tt
damage_is bytes g (no.Damaged backing at) h = h
damage_is bytes g no.Memory h = tt

-- ---- the bounds of the outputs

-- the keys lie within the least range with the bounds of the tables
abbrev WithinHull : List Table → Bounds → Type 0
WithinHull ts r = ((s : Table) × Has ts s × IsTrue (is_upto s.lo r.lo)) × ((s : Table) × Has ts s × IsTrue (is_upto r.hi s.hi))

kept_within : (ts : List Table) → IsKept (WithinHull ts)
kept_within ts r o lo hi h = (
  (h.0.0, h.0.1, upto_trans h.0.0.lo r.lo o.lo h.0.2 lo),
  (h.1.0, h.1.1, upto_trans o.hi r.hi h.1.0.hi hi h.1.2),
)

all_within : (ts : List Table) (ps : List Point) (ss : List Tombstone) → ((i : Item) → Has (content_of ps ss) i → LiesInOne ts i) → AllKeys (WithinHull ts) ps ss
all_within ts ps ss inside = (
  (λ p h.
      let one = inside (entry_of p) (Has-append_left (map entry_of ps) (map span ss) (entry_of p) (Has-map entry_of ps p h)) in
      let t = one.0 in
      let both = and_parts (is_upto t.lo p.key) (is_below p.key t.hi) one.2 in
      ((t, one.1, both.0), (t, one.1, hull_end t.hi p.key both.1))),
  (λ u h.
      let one = inside (span u) (Has-append_right (map entry_of ps) (map span ss) (span u) (Has-map span ss u h)) in
      let t = one.0 in
      let covered = (and_parts (is_ordered u) (covers (bounds_of t) u.range) one.2).1 in
      let both = and_parts (is_upto t.lo u.range.lo) (is_upto u.range.hi t.hi) covered in
      ((t, one.1, both.0), (t, one.1, both.1))),
)

in_hull : (ts us : List Table) → AllByRecursion (HasKeys (WithinHull ts)) us → AllByRecursion (LiesInHull ts) us
in_hull ts [] all = tt
in_hull ts (u ∷ us) all = (
  record {
    lo = let k = all.0.lo.1.0 in (k.0, k.1, subst (λ b. IsTrue (is_upto k.0.lo b)) all.0.lo.2 k.2);
    hi = let k = all.0.hi.1.1 in (k.0, k.1, subst (λ b. IsTrue (is_upto b k.0.hi)) all.0.hi.2 k.2);
  },
  in_hull ts us all.1,
)

-- ---- what the outputs hold

entry_no_span : (p : Point) (t : Tombstone) → ◌≡◌ {A = Item} (entry_of p) (span t) → ⊥
entry_no_span p t e = absurd (cc)

-- two contents that have the same have the same entries, and the same spans
same_entries : (ps : List Point) (ss : List Tombstone) (c : List Item) → SameMembers (content_of ps ss) c → SameMembers (map entry_of ps) (entries_in c)
same_entries ps ss c same x =
    subst (λ es. (Has es x → Has (entries_in c) x) × (Has (entries_in c) x → Has es x)) (entries_in-content_of ps ss)
    (along (content_of ps ss) c (λ i. (same i).0) x, along c (content_of ps ss) (λ i. (same i).1) x)
  where
    no_span : (c : List Item) (t : Tombstone) → Has (entries_in c) (span t) → ⊥
    no_span [] t h = absurd h
    no_span (entry k n v ∷ c) t (inl e) = absurd (cc)
    no_span (entry k n v ∷ c) t (inr h) = no_span c t h
    no_span (span u ∷ c) t h = no_span c t h

    along : (c d : List Item) → ((i : Item) → Has c i → Has d i) → (x : Item) → Has (entries_in c) x → Has (entries_in d) x
    along c d to (entry k n v) h = entries_in-keeps d k n v (to (entry k n v) (Has-entries_in c (entry k n v) h))
    along c d to (span t) h = absurd (no_span c t h)

same_spans : (ps : List Point) (ss : List Tombstone) (c : List Item) → SameMembers (content_of ps ss) c → SameMembers ss (spans_in c)
same_spans ps ss c same t =
    subst (λ us. (Has us t → Has (spans_in c) t) × (Has (spans_in c) t → Has us t)) (spans_in-content_of ps ss) (
      (λ h. spans_in-keeps c t ((same (span t)).0 (Has-spans_in (content_of ps ss) t h))),
      (λ h. spans_in-keeps (content_of ps ss) t ((same (span t)).1 (Has-spans_in c t h))),
    )

same_mapped : {A B : Type 0} (f : A → B) (xs ys : List A) → SameMembers xs ys → SameMembers (map f xs) (map f ys)
same_mapped f xs ys same z = (
  (λ h. let from = Has-from_map f xs z h in subst (λ x. Has (map f ys) x) from.2 (Has-map f ys from.0 ((same from.0).0 from.1))),
  (λ h. let from = Has-from_map f ys z h in subst (λ x. Has (map f xs) x) from.2 (Has-map f xs from.0 ((same from.0).1 from.1))),
)

same_joined : {A : Type 0} (ws bs cs ds : List A) → SameMembers ws cs → SameMembers bs ds → SameMembers (ws ++ bs) (cs ++ ds)
same_joined ws bs cs ds f g x = (
  (λ h. elim (Has-append_cases ws bs x h) [ inl a ↦ Has-append_left cs ds x ((f x).0 a) | inr b ↦ Has-append_right cs ds x ((g x).0 b) ]),
  (λ h. elim (Has-append_cases cs ds x h) [ inl a ↦ Has-append_left ws bs x ((f x).1 a) | inr b ↦ Has-append_right ws bs x ((g x).1 b) ]),
)

cut_same : (ats : List (List ℕ)) (ps : List Point) (ss : List Tombstone) (c : List Item) → SameMembers (content_of ps ss) c → SameMembers (map entry_of ps ++ map span (cut_all ats ss)) (cut_at ats c)
cut_same ats ps ss c same =
    same_joined (map entry_of ps) (map span (cut_all ats ss)) (entries_in c) (map span (cut_all ats (spans_in c))) (same_entries ps ss c same)
    (same_mapped span (cut_all ats ss) (cut_all ats (spans_in c)) (cut_all-same ats ss (spans_in c) (same_spans ps ss c same)))

module _ {F : Type 0} (size : F → ℕ) (bytes : F → Option (List ℕ)) where
  has_fragments : (known : Option (List ℕ)) (ps : List Point) (ss : List Tombstone) → content_told known ≡ content_of ps ss → AreFragments ss → HasFragments (content_told known)
  has_fragments known ps ss is f = subst HasFragments (sym is) (subst AreFragments (sym (spans_in-content_of ps ss)) f)

  all_fragments : (most num : ℕ) (ps : List Point) (ss : List Tombstone) (ts : List Table) (fs : List (ℕ × F)) → AreFragments ss → AreTold bytes fs → AreOutputs size bytes most num ps ss ts fs → AllByRecursion HasFragments (contents bytes fs)
  all_fragments most num ps ss [] fs f told o = absurd o
  all_fragments most num ps ss (t ∷ ts) [] f told o = tt
  all_fragments most num ps ss (t ∷ []) (x ∷ []) f told o = (has_fragments (bytes x.1) ps ss (told_is size bytes (bytes x.1) (content_of ps ss) told.0 o.2.told) f, tt)
  all_fragments most num ps ss (t ∷ []) (x ∷ y ∷ fs) f told o = absurd o
  all_fragments most num ps ss (t ∷ u ∷ ts) (x ∷ fs) f told (here, p, behind, c, one, rest) = (
    has_fragments (bytes x.1) here (parts_before p.key ss) (told_is size bytes (bytes x.1) (content_of here (parts_before p.key ss)) told.0 one.told) (AreFragments-parts_before p.key ss f),
    all_fragments (most - 1) (num + 1) (p ∷ behind) (parts_from p.key ss) (u ∷ ts) fs (AreFragments-parts_from p.key ss f) told.1 rest,
  )

  module _ (g : Given F) (ps : List Point) (ss : List Tombstone) (left : IsLeft bytes g ps ss) where
    written_fits : (ts : List Table) (fs : List (ℕ × F)) → AreOutputs size bytes g.count g.first ps ss ts fs → FitsCompaction size bytes g (record { tables = ts; files = fs })
    written_fits ts fs o = record {
      numbers = numbers_rise size bytes g.count g.first ps ss ts fs o;
      few = few_tables size bytes g.count g.first ps ss ts fs o;
      own = own_files size bytes g.count g.first ps ss ts fs o;
      apart = tables_apart size bytes g.count g.first ps ss ts fs left.order o;
      inside =
          let inputs = map (λ (t : Table × F). t.0) g.tables in
          in_hull inputs ts (each_has_keys size bytes (WithinHull inputs) g.count g.first ps ss ts fs (kept_within inputs) (all_within inputs ps ss left.inside) o);
      content = λ inputs_told told clear.
          let c = left_of g (table_content bytes g) in
          record {
            members = same_then (flat_map (λ x. x) (contents bytes fs)) (map entry_of ps ++ map span (cut_all (cuts ts) ss)) (cut_at (cuts ts) c)
                (hold_all size bytes g.count g.first ps ss ts fs left.order left.fragments told o) (cut_same (cuts ts) ps ss c (left.members inputs_told clear));
            fragments = all_fragments g.count g.first ps ss ts fs left.fragments told o;
            reaches = own_reaches size bytes g.count g.first ps ss ts fs told o;
            cut = record {
              full = all_full size bytes g.count g.first ps ss ts fs told o;
              open_ = all_open size bytes g.count g.first ps ss ts fs told o;
            };
            begin = begin_all size bytes g.count g.first ps ss ts fs left.order told o;
          };
    }

    pub compacted : (made : Progress F) (start now : Told) → AreWritten size bytes g ps ss made start now → IsCompacted size bytes g made start now
    compacted made start now w = record {
      fits = written_fits made.tables.items made.files.items w.outputs;
      nums = w.nums;
      tried = w.tried;
      held = w.held;
    }

    pub compacted_from : (seen : List Point) (made : Progress F) (start mid now : Told) → seen ≡ ps → mid ≡ start → AreWritten size bytes g seen ss made mid now → IsCompacted size bytes g made start now
    compacted_from seen made start mid now seen_is same w =
        compacted made start now (subst (λ t. AreWritten size bytes g ps ss made t now) same (subst (λ qs. AreWritten size bytes g qs ss made mid now) seen_is w))

  -- ---- nothing is left

  no_members : (c : List Item) → SameMembers [] c → c ≡ []
  no_members [] same = refl
  no_members (i ∷ c) same = absurd ((same i).1 (inl refl))

  take_none : (n : ℕ) → AllByRecursion IsOpen (take n [])
  take_none zero = tt
  take_none (suc n) = tt

  nothing_fits : (g : Given F) → IsLeft bytes g [] [] → FitsCompaction size bytes g (record { tables = []; files = [] })
  nothing_fits g left = record {
    numbers = refl;
    few = omega arith;
    own = tt;
    apart = λ i j d less within. absurd (omega (arith, within));
    inside = tt;
    content = λ inputs_told told clear.
        let none = no_members (left_of g (table_content bytes g)) (left.members inputs_told clear) in
        subst (λ c. Hold c g.count [] []) (sym none) (record {
          members = λ x. ((λ h. h), (λ h. h));
          fragments = tt;
          reaches = tt;
          cut = record { full = tt; open_ = take_none (g.count - 1) };
          begin = tt;
        });
  }

  -- no number was tried, and the device tells what it told
  pub stands : (g : Given F) (tried : List ℕ) (lacks : Type 0) (start now : Told) → tried ≡ [] → now ≡ start → Stops (reserved g) tried lacks start now
  stands g tried lacks start now none same = subst (Stops (reserved g) tried lacks start) (sym same) (tries_stand (reserved g) 0 tried lacks start start (tries_none (reserved g) tried start none))

  pub nothing_compacted : (g : Given F) (ps : List Point) (ss : List Tombstone) (made : Progress F) (start now : Told) → IsLeft bytes g ps ss → ps ≡ [] → ss ≡ [] → made.tables.items ≡ [] → made.files.items ≡ [] → made.tried.items ≡ [] → now ≡ start
      → IsCompacted size bytes g made start now
  nothing_compacted g ps ss made start now left no_entries no_spans no_tables no_files none_tried same =
      let nothing = subst (IsLeft bytes g []) no_spans (subst (λ qs. IsLeft bytes g qs ss) no_entries left) in
      record {
        fits = subst (λ ts. FitsCompaction size bytes g (record { tables = ts; files = made.files.items })) (sym no_tables)
            (subst (λ fs. FitsCompaction size bytes g (record { tables = []; files = fs })) (sym no_files) (nothing_fits g nothing));
        nums = ap nums_of no_files ∙ sym none_tried;
        tried = stands g made.tried.items ⊥ start now none_tried same;
        held = subst (AreHeld size bytes now.holds) (sym no_files) (held_none size bytes now.holds);
      }
