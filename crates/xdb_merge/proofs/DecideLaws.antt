-- The newest entry of a key decides, unless a span of a greater number covers it.
use Rattle.std.proofs.Common.{◌≡◌, ℕ, ◌+◌, ◌*◌, ◌≤◌, true, false, not, ◌&&◌, cond, ltb, List, [], ◌∷◌, ◌++◌, map, Option, Some, None, IfSome, inl, inr, refl, sym, ap, ◌∙◌, subst, arith}
use Rattle.std.proofs.lemmas.Bool.{cases_Bool, cases_lt, lt-ltb, le-ltb, ltb-false, false≢true, not-true, and_parts, and_left}
use Rattle.std.proofs.lemmas.List.{map-append}
use Rattle.std.specs.Option.{option_map}
use Rattle.xdb_key.specs.Entries.{Point}
use Rattle.xdb_key.specs.declared.op.Kind.{Kind}
use Rattle.xdb_key.specs.declared.op.Kind.TheVariants as kinds
use Rattle.xdb_mem.specs.Parts.{Parts}
use Rattle.xdb_rangedel.specs.Content.{Item, entry, span, said, said_by, mark, deleted_at, newer, newest, verdict, value_at, value_of, same_key, entry_of, content_of, entries_in, spans_in}
use Rattle.xdb_rangedel.specs.Cover.{cover_of}
use Rattle.xdb_rangedel.specs.Members.{Has}
use Rattle.xdb_rangedel.proofs.MemberLaws.{Has-append_left, Has-append_right, Has-append_cases, Has-map}
use Rattle.xdb_rangedel.proofs.NewestLaws.{newer-stays, mark_at-unseen}
use Rattle.xdb_rangedel.proofs.SpanLaws.{newest-spans, newest_apart, entries_in-content_of, spans_in-content_of}
use Rattle.xdb_merge.specs.Layers.{entries_of, spans_of, content_of_layers}
use Rattle.xdb_merge.specs.Steps.{Decides}
use Rattle.xdb_merge.specs.Search.{IsNewest, is_set, is_hidden, is_shown, shown, IsDecider}
use Rattle.xdb_merge.proofs.SortedLaws.{other_key}

-- ---- the content of layers

entries_in-append : (c d : List Item) → entries_in (c ++ d) ≡ entries_in c ++ entries_in d
entries_in-append [] d = refl
entries_in-append (entry key seq value ∷ c) d = ap (λ x. entry key seq value ∷ x) (entries_in-append c d)
entries_in-append (span t ∷ c) d = entries_in-append c d

spans_in-append : (c d : List Item) → spans_in (c ++ d) ≡ spans_in c ++ spans_in d
spans_in-append [] d = refl
spans_in-append (entry key seq value ∷ c) d = spans_in-append c d
spans_in-append (span t ∷ c) d = ap (λ x. t ∷ x) (spans_in-append c d)

pub entries_are : (ls : List Parts) → entries_in (content_of_layers ls) ≡ map entry_of (entries_of ls)
entries_are [] = refl
entries_are (l ∷ ls) =
    entries_in-append (content_of l.entries l.spans) (content_of_layers ls)
    ∙ ap (λ c. c ++ entries_in (content_of_layers ls)) (entries_in-content_of l.entries l.spans)
    ∙ ap (λ c. map entry_of l.entries ++ c) (entries_are ls)
    ∙ sym (map-append entry_of l.entries (entries_of ls))

spans_are : (ls : List Parts) → spans_in (content_of_layers ls) ≡ spans_of ls
spans_are [] = refl
spans_are (l ∷ ls) =
    spans_in-append (content_of l.entries l.spans) (content_of_layers ls)
    ∙ ap (λ c. c ++ spans_in (content_of_layers ls)) (spans_in-content_of l.entries l.spans)
    ∙ ap (λ c. l.spans ++ c) (spans_are ls)

-- the newest mark of layers is that of all entries, or of all spans
pub newest_of_layers : (ls : List Parts) (limit : ℕ) (k : List ℕ) → newest (content_of_layers ls) limit k ≡ newer (newest (map entry_of (entries_of ls)) limit k) (option_map deleted_at (cover_of (spans_of ls) k limit))
newest_of_layers ls limit k =
    newest_apart (content_of_layers ls) limit k
    ∙ ap (λ c. newer (newest c limit k) (newest (map span (spans_in (content_of_layers ls))) limit k)) (entries_are ls)
    ∙ ap (λ ts. newer (newest (map entry_of (entries_of ls)) limit k) (newest (map span ts) limit k)) (spans_are ls)
    ∙ ap (λ o. newer (newest (map entry_of (entries_of ls)) limit k) o) (newest-spans (spans_of ls) limit k)

pub Has-entry : (ls : List Parts) (p : Point) → Has (entries_of ls) p → Has (content_of_layers ls) (entry_of p)
Has-entry [] p h = h
Has-entry (l ∷ ls) p h = elim (Has-append_cases l.entries (entries_of ls) p h) [
  | inl g ↦ Has-append_left (content_of l.entries l.spans) (content_of_layers ls) (entry_of p) (Has-append_left (map entry_of l.entries) (map span l.spans) (entry_of p) (Has-map entry_of l.entries p g))
  | inr g ↦ Has-append_right (content_of l.entries l.spans) (content_of_layers ls) (entry_of p) (Has-entry ls p g)
]

-- ---- what decides

deleted-none : (cover : Option ℕ) → value_of (said_by (option_map deleted_at cover)) ≡ None
deleted-none None = refl
deleted-none (Some n) = refl

not_hidden : (p : Point) (cover : Option ℕ) → is_hidden p.seq cover ≡ false → newer (Some (mark (entry_of p))) (option_map deleted_at cover) ≡ Some (mark (entry_of p))
not_hidden p None h = refl
not_hidden p (Some n) h =
    let more : n ≤ p.seq = ltb-false p.seq n h in
    newer-stays (mark (entry_of p)) (deleted_at n) (omega arith)

hidden-none : (p : Point) (cover : Option ℕ) → is_hidden p.seq cover ≡ true → value_of (said_by (newer (Some (mark (entry_of p))) (option_map deleted_at cover))) ≡ None
hidden-none p None h = absurd (false≢true h)
hidden-none p (Some n) h = elim (cases_lt p.seq n) [
  | inl less ↦ ap (λ b. value_of (said_by (cond b (Some (deleted_at n)) (Some (mark (entry_of p)))))) (lt-ltb (2 * p.seq + 1) (2 * n) (omega arith))
  | inr more ↦ absurd (false≢true (sym (le-ltb p.seq n more) ∙ h))
]

set-value : (kind : Kind) (key : List ℕ) (seq : ℕ) (value : List ℕ) → is_set kind ≡ true → value_of (said (entry key seq (value_at kind value))) ≡ Some value
set-value kinds.Del key seq value h = absurd (false≢true h)
set-value kinds.Set key seq value h = refl
set-value kinds.SpanDel key seq value h = absurd (false≢true h)

unset-none : (kind : Kind) (key : List ℕ) (seq : ℕ) (value : List ℕ) → is_set kind ≡ false → value_of (said (entry key seq (value_at kind value))) ≡ None
unset-none kinds.Del key seq value h = refl
unset-none kinds.Set key seq value h = absurd (false≢true (sym h))
unset-none kinds.SpanDel key seq value h = refl

unshown-none : (p : Point) (cover : Option ℕ) → is_shown cover p ≡ false → value_of (said_by (newer (Some (mark (entry_of p))) (option_map deleted_at cover))) ≡ None
unshown-none p cover h = elim (cases_Bool (is_hidden p.seq cover)) [
  | inl hidden ↦ hidden-none p cover hidden
  | inr free ↦
      let unset : is_set p.kind ≡ false = elim (cases_Bool (is_set p.kind)) [
        | inl e ↦ absurd (false≢true (sym h ∙ ap (λ b. b && not (is_hidden p.seq cover)) e ∙ ap not free))
        | inr e ↦ e
      ] in
      ap (λ o. value_of (said_by o)) (not_hidden p cover free) ∙ unset-none p.kind p.key p.seq p.value unset
]

decides_by : (ls : List Parts) (at : ℕ) (k : List ℕ) (cover : Option ℕ) (o : Option Point) → IfSome o (λ p. (p.key ≡ k) × Has (entries_of ls) p) → newest (content_of_layers ls) at k ≡ newer (option_map (λ p. mark (entry_of p)) o) (option_map deleted_at cover) → IsDecider (content_of_layers ls) at k (shown cover o)
decides_by ls at k cover None member is = ap (λ m. value_of (said_by m)) is ∙ deleted-none cover
decides_by ls at k cover (Some p) member is = elim (cases_Bool (is_shown cover p)) [
  | inl e ↦
      let parts = and_parts (is_set p.kind) (not (is_hidden p.seq cover)) e in
      let first : newest (content_of_layers ls) at k ≡ Some (mark (entry_of p)) = is ∙ not_hidden p cover (not-true (is_hidden p.seq cover) parts.1) in
      let decided_by : Decides (content_of_layers ls) at p = record {
        member = Has-entry ls p member.1;
        newest = ap (newest (content_of_layers ls) at) member.0 ∙ first;
      } in
      subst (IsDecider (content_of_layers ls) at k) (sym (ap (λ b. cond b (Some p) None) e))
      (member.0, ap (λ m. value_of (said_by m)) first ∙ set-value p.kind p.key p.seq p.value parts.0, decided_by)
  | inr e ↦ subst (IsDecider (content_of_layers ls) at k) (sym (ap (λ b. cond b (Some p) None) e))
      (ap (λ m. value_of (said_by m)) is ∙ unshown-none p cover e)
]

pub decides : (ls : List Parts) (at : ℕ) (k : List ℕ) (o : Option Point) (cover : Option ℕ) (r : Option Point) → IsNewest at k (entries_of ls) o → cover ≡ cover_of (spans_of ls) k at → r ≡ shown cover o → IsDecider (content_of_layers ls) at k r
decides ls at k o cover r first covered is =
    subst (IsDecider (content_of_layers ls) at k) (sym is)
    (decides_by ls at k cover o first.member
    (newest_of_layers ls at k
    ∙ ap (λ m. newer m (option_map deleted_at (cover_of (spans_of ls) k at))) first.newest
    ∙ ap (λ c. newer (option_map (λ p. mark (entry_of p)) o) (option_map deleted_at c)) (sym covered)))

-- ---- where no entry has the key

unlisted : (k : List ℕ) (ps : List Point) → ((p : Point) → Has ps p → p.key ≡ k → ⊥) → (limit : ℕ) → newest (map entry_of ps) limit k ≡ None
unlisted k [] none limit = refl
unlisted k (p ∷ ps) none limit =
    ap (λ o. newer o (newest (map entry_of ps) limit k)) (mark_at-unseen limit k (entry_of p) (and_left (same_key p.key k) (ltb p.seq limit) (other_key p.key k (none p (inl refl)))))
    ∙ unlisted k ps (λ q h. none q (inr h)) limit

pub no_entry : (ls : List Parts) (at : ℕ) (k : List ℕ) → ((p : Point) → Has (entries_of ls) p → p.key ≡ k → ⊥) → value_of (verdict (content_of_layers ls) at k) ≡ None
no_entry ls at k none =
    ap (λ o. value_of (said_by o)) (newest_of_layers ls at k)
    ∙ ap (λ o. value_of (said_by (newer o (option_map deleted_at (cover_of (spans_of ls) k at))))) (unlisted k (entries_of ls) none at)
    ∙ deleted-none (cover_of (spans_of ls) k at)
