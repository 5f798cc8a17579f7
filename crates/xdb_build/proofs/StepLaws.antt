-- One output after another: what the tables so far hold with whatever holds the rest.
use Rattle.std.proofs.Common.{◌≡◌, ℕ, zero, suc, ◌+◌, ◌-◌, ◌<◌, ◌≤◌, Bool, true, List, [], ◌∷◌, ◌++◌, length, get_or, take, drop, map, Option, Some, inl, inr, refl, sym, ap, ◌∙◌, subst, arith, append_assoc, take-append-drop}
use Rattle.std.proofs.lemmas.Bool.{cases_Bool}
use Rattle.std.proofs.lemmas.Option.{slice_get-get_or}
use Rattle.std.proofs.lemmas.List.{drop-drop, drop_more, length-drop}
use Rattle.xdb_key.specs.Entries.{Point, Tombstone}
use Rattle.xdb_meta.specs.Table.{Table}
use Rattle.xdb_rangedel.specs.Clip.{parts_before, parts_from}
use Rattle.xdb_rangedel.specs.Content.{entry_of, content_of}
use Rattle.xdb_build.specs.Cuts.{IsOpen}
use Rattle.xdb_build.specs.Series.{EndsFrom, IsCut, IsOutput, AreOutputs, AreWithRest}

module _ {F : Type 0} (size : F → ℕ) (bytes : F → Option (List ℕ)) where
  pub rest_none : (most num : ℕ) (ps : List Point) (ss : List Tombstone) → AreWithRest size bytes most num ps ss most num ps ss [] []
  rest_none most num ps ss = λ us gs o. o

  one_before : (most num : ℕ) (rest here : List Point) (p : Point) (behind : List Point) (over : List Tombstone) (t : Table) (f : ℕ × F) (us : List Table) (gs : List (ℕ × F)) → IsCut most rest here p behind → IsOutput size bytes num (content_of here (parts_before p.key over)) t f
      → AreOutputs size bytes (most - 1) (num + 1) (p ∷ behind) (parts_from p.key over) us gs → AreOutputs size bytes most num rest over (t ∷ us) (f ∷ gs)
  one_before most num rest here p behind over t f [] gs cut one o = absurd o
  one_before most num rest here p behind over t f (u ∷ us) gs cut one o = (here, p, behind, cut, one, o)

  -- one more output, that ends where another begins
  pub rest_more : (most num most' num' : ℕ) (ps : List Point) (ss : List Tombstone) (rest here : List Point) (p : Point) (behind : List Point) (over : List Tombstone) (ts : List Table) (fs : List (ℕ × F)) (t : Table) (f : ℕ × F)
      → AreWithRest size bytes most num ps ss most' num' rest over ts fs → IsCut most' rest here p behind → IsOutput size bytes num' (content_of here (parts_before p.key over)) t f
      → AreWithRest size bytes most num ps ss (most' - 1) (num' + 1) (p ∷ behind) (parts_from p.key over) (ts ++ t ∷ []) (fs ++ f ∷ [])
  rest_more most num most' num' ps ss rest here p behind over ts fs t f before cut one = λ us gs o.
      subst (λ xs. AreOutputs size bytes most num ps ss xs ((fs ++ f ∷ []) ++ gs)) (sym (append_assoc ts (t ∷ []) us))
      (subst (λ xs. AreOutputs size bytes most num ps ss (ts ++ t ∷ us) xs) (sym (append_assoc fs (f ∷ []) gs))
      (before (t ∷ us) (f ∷ gs) (one_before most' num' rest here p behind over t f us gs cut one o)))

  -- the last output has the rest
  pub rest_last : (most num most' num' : ℕ) (ps : List Point) (ss : List Tombstone) (rest : List Point) (over : List Tombstone) (ts : List Table) (fs : List (ℕ × F)) (t : Table) (f : ℕ × F)
      → AreWithRest size bytes most num ps ss most' num' rest over ts fs → 1 ≤ most' → (2 ≤ most' → IsOpen (map entry_of rest)) → IsOutput size bytes num' (content_of rest over) t f → AreOutputs size bytes most num ps ss (ts ++ t ∷ []) (fs ++ f ∷ [])
  rest_last most num most' num' ps ss rest over ts fs t f before some light one = before (t ∷ []) (f ∷ []) (some, light, one)

-- what is left is the next output and what stands behind it
pub next_whole : (ps : List Point) (from to : ℕ) (p : Point) → from ≤ to → to < length ps → p ≡ get_or ps to p → drop from ps ≡ take (to - from) (drop from ps) ++ p ∷ drop (to + 1) ps
next_whole ps from to p after less is =
    let there : from + (to - from) ≡ to = omega (arith, after) in
    sym (take-append-drop (to - from) (drop from ps))
    ∙ ap (λ xs. take (to - from) (drop from ps) ++ xs) (drop-drop (to - from) from ps ∙ ap (λ n. drop n ps) there ∙ drop_more ps to p less ∙ ap (λ q. q ∷ drop (to + 1) ps) (sym is))

read_behind : (xs : List Point) (from n k : ℕ) (d : Point) → k ≡ from + n → get_or (drop from xs) n d ≡ get_or xs k d
read_behind xs zero n k d e = let same : n ≡ k = omega (arith, e) in ap (λ i. get_or xs i d) same
read_behind [] (suc from) n zero d e = absurd (omega (arith, e))
read_behind [] (suc from) n (suc k) d e = nothing n
  where
    nothing : (m : ℕ) → get_or [] m d ≡ d
    nothing zero = refl
    nothing (suc m) = refl
read_behind (x ∷ xs) (suc from) n zero d e = absurd (omega (arith, e))
read_behind (x ∷ xs) (suc from) n (suc k) d e = read_behind xs from n k d (omega (arith, e))

-- an output that doesn't end with the entries is followed by another
pub more_follow : (ps : List Point) (from to : ℕ) (more : Bool) → EndsFrom ps from more to → to < length ps → more ≡ true
more_follow ps from to more e less = elim (cases_Bool more) [
  | inl h ↦ h
  | inr h ↦ let all = e.rest h in absurd (omega (arith, all, less))
]

pub next_cut : (most : ℕ) (ps : List Point) (from to : ℕ) (more : Bool) (p : Point) → EndsFrom ps from more to → to < length ps → p ≡ get_or ps to p → 2 ≤ most → IsCut most (drop from ps) (take (to - from) (drop from ps)) p (drop (to + 1) ps)
next_cut most ps from to more p e less is room =
    let ends = e.ends (more_follow ps from to more e less) in
    let inside : to - from < length (drop from ps) = omega (arith, length-drop from ps, e.after, less) in
    let there : from + (to - from) ≡ to = omega (arith, e.after) in
    record {
      whole = next_whole ps from to p e.after less is;
      room = room;
      full = ends.full inside;
      open_ = ends.open_;
      fresh = ends.fresh p (slice_get-get_or (drop from ps) (to - from) p inside ∙ ap Some (read_behind ps from (to - from) to p (sym there) ∙ sym is));
    }
