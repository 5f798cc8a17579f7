-- Content among other content gives way to what thinning leaves of it: the image stays.
use Rattle.std.proofs.Common.{◌≡◌, ℕ, ◌<◌, Bool, true, false, List, [], ◌∷◌, ◌++◌, map, inl, inr, refl, sym, ap, ◌∙◌, subst, arith}
use Rattle.std.proofs.lemmas.Bool.{cases_Bool, false≢true}
use Rattle.std.specs.List.{list_any}
use Rattle.xdb_rangedel.specs.Content.{Item, span, Verdict, found, deleted, nothing, seq_of, here, said_by, verdict, value_of, entries_in, spans_in, in_pieces}
use Rattle.xdb_rangedel.specs.Pieces.{pieces}
use Rattle.xdb_rangedel.specs.Layers.{IsNewerAt, IsAllBelow, IsDrawn, IsSilentAt, over}
use Rattle.xdb_rangedel.specs.Members.{Has}
use Rattle.xdb_rangedel.proofs.MemberLaws.{Has-append_cases, Has-from_map}
use Rattle.xdb_rangedel.proofs.PieceLaws.{piece_inside}
use Rattle.xdb_rangedel.proofs.SpanLaws.{Has-entries_in, Has-spans_in}
use Rattle.xdb_rangedel.proofs.NewestLaws.{newest_replaced, newest_silent, image_is_one}
use Rattle.xdb_rangedel.proofs.LayerLaws.{newer-over, verdict_layered, drawn_clear, drawn_trans}
use Rattle.xdb_stripes.specs.Floors.{floor_holds}
use Rattle.xdb_stripes.specs.Keeps.{IsLimit, Agree}
use Rattle.xdb_stripes.specs.Thinned.{thinned, stays}
use Rattle.xdb_stripes.specs.declared.floor.Floor.{Floor}
use Rattle.xdb_stripes.proofs.AnyLaws.{any-has, any-from, Has-from_filter}
use Rattle.xdb_stripes.proofs.KeepLaws.{keeps, thinned_drawn}
use Rattle.xdb_laws.specs.Compaction.{LiesBetween}
use Rattle.xdb_laws.specs.Image.{image}
use Rattle.xdb_laws.specs.Ordered.{IsNewer}
use Rattle.xdb_laws.specs.Rewrite.{IsMade, AreLimits}
use Rattle.xdb_laws.proofs.ImageLaws.{image-is}
use Rattle.xdb_laws.proofs.RewriteLaws.{rewrite-says}
use Rattle.xdb_laws.proofs.OrderLaws.{newer-drawn, drawn-itself}

-- what was made is drawn from what was given
pub made-drawn : (given : List Item) (stripes : List ℕ) (floor : Floor) (made : List Item) → IsMade given stripes floor made → IsDrawn given made
made-drawn given stripes floor made m =
    drawn_trans given (thinned given stripes floor) made (thinned_drawn given stripes floor) m.drawn

-- each piece has the number of an item of the content
pieces-numbers : (c : List Item) (i : Item) → Has (in_pieces c) i → (j : Item) × Has c j × (seq_of j ≡ seq_of i)
pieces-numbers c i h = elim (Has-append_cases (entries_in c) (map span (pieces (spans_in c))) i h) [
  | inl e ↦ (i, Has-entries_in c i e, refl)
  | inr s ↦
      let from = Has-from_map span (pieces (spans_in c)) i s in
      let in_ = piece_inside (spans_in c) from.0 from.1 in
      (span in_.0, Has-spans_in c in_.0 in_.1, in_.4 ∙ ap seq_of from.2)
]

thinned-numbers : (c : List Item) (stripes : List ℕ) (floor : Floor) (i : Item) → Has (thinned c stripes floor) i → (j : Item) × Has c j × (seq_of j ≡ seq_of i)
thinned-numbers c stripes floor i h = pieces-numbers c i (Has-from_filter (stays stripes floor (in_pieces c)) (in_pieces c) i h).0

pub made-numbers : (given : List Item) (stripes : List ℕ) (floor : Floor) (made : List Item) → IsMade given stripes floor made → (i : Item) → Has made i → (j : Item) × Has given j × (seq_of j ≡ seq_of i)
made-numbers given stripes floor made m i h =
    let from = m.numbers i h in
    let back = thinned-numbers given stripes floor from.0 from.1 in
    (back.0, back.1, back.2 ∙ from.2)

-- the content has something at the key
speaks : List Item → List ℕ → Bool
speaks c k = list_any (here k) c

unspoken : (c : List Item) (k : List ℕ) → speaks c k ≡ false → IsSilentAt k c
unfolding speaks
unspoken c k e = λ i h at_i. false≢true (sym e ∙ any-from (here k) c i h at_i)

spoken : (c : List Item) (k : List ℕ) → speaks c k ≡ true → (i : Item) × Has c i × (here k i ≡ true)
unfolding speaks
spoken c k e = any-has (here k) c e

-- where the upper content says nothing more, a delete that hides nothing is as good as nothing
hides_nothing : (u : Verdict) → value_of (over u (over deleted nothing)) ≡ value_of (over u (over nothing nothing))
hides_nothing (found v) = refl
hides_nothing deleted = refl
hides_nothing nothing = refl

agree-value : (u g t l : Verdict) (held : Bool) → Agree g t held → (held ≡ false → l ≡ nothing) → value_of (over u (over g l)) ≡ value_of (over u (over t l))
agree-value u g t l held (inl e) h = ap (λ x. value_of (over u (over x l))) e
agree-value u g t l held (inr (gone, left, off)) h =
    ap (λ x. value_of (over u (over x l))) gone
    ∙ ap (λ x. value_of (over u (over deleted x))) (h off)
    ∙ hides_nothing u
    ∙ sym (ap (λ x. value_of (over u (over nothing x))) (h off))
    ∙ sym (ap (λ x. value_of (over u (over x l))) left)

-- where the given content has something, all above it is newer than all below it
newer-through : (k : List ℕ) (given upper lower : List Item) (g : Item) → Has given g → here k g ≡ true → IsNewer upper given → IsNewer given lower → IsNewerAt k upper (given ++ lower)
newer-through k given upper lower g at at_k n o = λ i j p q at_i at_j. elim (Has-append_cases given lower j q) [
  | inl h ↦ n k i j p h at_i at_j
  | inr h ↦
      let high : seq_of g < seq_of i = n k i g p at at_i at_k in
      let low : seq_of j < seq_of g = o k g j at h at_k at_j in
      omega arith
]

newer-through_made : (k : List ℕ) (given made upper lower : List Item) (g : Item) → Has given g → here k g ≡ true → IsDrawn given made → IsNewer upper given → IsNewer given lower → IsNewerAt k upper (made ++ lower)
newer-through_made k given made upper lower g at at_k d n o = λ i j p q at_i at_j. elim (Has-append_cases made lower j q) [
  | inl h ↦ newer-drawn upper given upper made (drawn-itself upper) d n k i j p h at_i at_j
  | inr h ↦
      let high : seq_of g < seq_of i = n k i g p at at_i at_k in
      let low : seq_of j < seq_of g = o k g j at h at_k at_j in
      omega arith
]

-- nothing stands below off the floor
off_floor : (given upper lower : List Item) (floor : Floor) (k : List ℕ) (g : Item) → LiesBetween given upper lower floor → Has given g → here k g ≡ true → floor_holds floor k ≡ false → IsSilentAt k lower
off_floor given upper lower floor k g b at at_k off = λ j h at_j. false≢true (sym off ∙ b.floored k g j at h at_k at_j)

verdict-silent : (c : List Item) (limit : ℕ) (k : List ℕ) → IsSilentAt k c → verdict c limit k ≡ nothing
verdict-silent c limit k s = ap said_by (newest_silent c limit k s)

value-spoken : (given made upper lower : List Item) (stripes : List ℕ) (floor : Floor) (limit : ℕ) (k : List ℕ) (g : Item) → LiesBetween given upper lower floor → IsMade given stripes floor made → IsLimit given stripes limit → Has given g → here k g ≡ true → value_of (verdict (upper ++ (given ++ lower)) limit k) ≡ value_of (verdict (upper ++ (made ++ lower)) limit k)
value-spoken given made upper lower stripes floor limit k g b m at_limit at at_k =
    let drawn = made-drawn given stripes floor made m in
    let said_made : verdict made limit k ≡ verdict (thinned given stripes floor) limit k = ap said_by (rewrite-says (thinned given stripes floor) made limit k (drawn_clear given (thinned given stripes floor) (thinned_drawn given stripes floor) b.clear) m) in
    let agree = (keeps given stripes floor b.clear).verdicts k limit at_limit in
    ap value_of (
    verdict_layered k upper (given ++ lower) limit (newer-over k upper (given ++ lower) (newer-through k given upper lower g at at_k b.newer b.older))
    ∙ ap (λ v. over (verdict upper limit k) v) (verdict_layered k given lower limit (newer-over k given lower (b.older k)))
    )
    ∙ agree-value (verdict upper limit k) (verdict given limit k) (verdict (thinned given stripes floor) limit k) (verdict lower limit k) (floor_holds floor k) agree
    (λ off. verdict-silent lower limit k (off_floor given upper lower floor k g b at at_k off))
    ∙ sym (ap value_of (
    verdict_layered k upper (made ++ lower) limit (newer-over k upper (made ++ lower) (newer-through_made k given made upper lower g at at_k drawn b.newer b.older))
    ∙ ap (λ v. over (verdict upper limit k) v) (verdict_layered k made lower limit (newer-over k made lower (newer-drawn given lower made lower drawn (drawn-itself lower) b.older k)))
    ∙ ap (λ v. over (verdict upper limit k) (over v (verdict lower limit k))) said_made
    ))

silent-made : (given made : List Item) (k : List ℕ) → IsDrawn given made → IsSilentAt k given → IsSilentAt k made
silent-made given made k d s = λ i h at_i. let from = d k i h at_i in s from.0 from.1 from.2

value-unspoken : (given made upper lower : List Item) (limit : ℕ) (k : List ℕ) → IsDrawn given made → IsSilentAt k given → value_of (verdict (upper ++ (given ++ lower)) limit k) ≡ value_of (verdict (upper ++ (made ++ lower)) limit k)
value-unspoken given made upper lower limit k d s =
    ap (λ o. value_of (said_by o)) (newest_replaced upper given made lower limit k
    (newest_silent given limit k s ∙ sym (newest_silent made limit k (silent-made given made k d s))))

-- the given content gives way to what was made of it
pub value-replaced : (given made upper lower : List Item) (stripes : List ℕ) (floor : Floor) (limit : ℕ) (k : List ℕ) → LiesBetween given upper lower floor → IsMade given stripes floor made → IsLimit given stripes limit → value_of (verdict (upper ++ (given ++ lower)) limit k) ≡ value_of (verdict (upper ++ (made ++ lower)) limit k)
value-replaced given made upper lower stripes floor limit k b m at_limit = elim (cases_Bool (speaks given k)) [
  | inl e ↦
      let from = spoken given k e in
      value-spoken given made upper lower stripes floor limit k from.0 b m at_limit from.1 from.2
  | inr e ↦ value-unspoken given made upper lower limit k (made-drawn given stripes floor made m) (unspoken given k e)
]

pub image-replaced : (given made upper lower : List Item) (stripes : List ℕ) (floor : Floor) (limit : ℕ) → LiesBetween given upper lower floor → IsMade given stripes floor made → IsLimit given stripes limit → image (upper ++ (given ++ lower)) limit ≡ image (upper ++ (made ++ lower)) limit
image-replaced given made upper lower stripes floor limit b m at_limit =
    image_is_one (upper ++ (made ++ lower)) limit (image (upper ++ (given ++ lower)) limit) (image (upper ++ (made ++ lower)) limit)
    (λ k. image-is (upper ++ (given ++ lower)) limit k ∙ value-replaced given made upper lower stripes floor limit k b m at_limit)
    (image-is (upper ++ (made ++ lower)) limit)

-- marks

pub limits-taken : (given : List Item) (marks : List ℕ) → AreLimits given marks marks
limits-taken given marks = λ m h. inl h

pub limits-made : (next : ℕ) (given : List Item) (stripes marks : List ℕ) → IsAllBelow next given → AreLimits given stripes marks → AreLimits given stripes (marks ++ next ∷ [])
limits-made next given stripes marks below limits = λ m h. elim (Has-append_cases marks (next ∷ []) m h) [
  | inl old ↦ limits m old
  | inr new ↦ elim new [
    | inl e ↦ inr (subst (λ x. IsAllBelow x given) e below)
    | inr never ↦ absurd never
  ]
]
