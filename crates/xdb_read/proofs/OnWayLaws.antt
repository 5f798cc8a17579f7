-- A cursor on its way over the pairs of the parts.
use Rattle.std.proofs.Common.{◌≡◌, ℕ, ◌+◌, ◌≤◌, Bool, true, false, List, [], ◌∷◌, ◌++◌, length, length-append, take, Option, refl, sym, ap, ◌∙◌, subst, arith}
use Rattle.std.proofs.lemmas.Bool.{false≢true}
use Rattle.xdb_key.specs.Bounds.{Bounds}
use Rattle.xdb_laws.specs.Image.{image}
use Rattle.xdb_merge.specs.Merge.{Merge}
use Rattle.xdb_merge.specs.Tables.{AreTold}
use Rattle.xdb_plain.specs.Answers.{moved}
use Rattle.xdb_read.specs.Fits.{content}
use Rattle.xdb_read.specs.Pairs.{IsCursor, Adds, pairs_of, start_along, step_along, step_from, along}
use Rattle.xdb_read.specs.declared.pairs.Way.{Way}
use Rattle.xdb_read.specs.declared.pairs.Way.TheVariants.{Up, Down}
use Rattle.xdb_read.specs.declared.parts.ReadParts.{ReadParts}
use Rattle.xdb_read.proofs.KeyLaws.{pairs-sorted}
use Rattle.xdb_read.proofs.WayLaws.{KeyValue, left, way-begins, way-ends, way-goes_on, way-is_long}

pub step-same : (way : Way) → step_along way ≡ step_from (step_along way)
step-same Up = refl
step-same Down = refl

module _ {F : Type 0} (bytes : F → Option (List ℕ)) (parts : ReadParts F) (r : Bounds) (way : Way) where
  -- So many pairs are found, and they and what is left behind the cursor's place are all.
  pub record IsOnWay (m : Merge F) (found : List KeyValue) (n : ℕ) : Type 0 where
    pub cursor : IsCursor bytes parts m
    pub keys : m.bounds ≡ r
    pub all : AreTold bytes parts.tables → along way (pairs_of bytes parts r) ≡ found ++ left way (pairs_of bytes parts r) m.place
    pub many : length found ≡ n

  pub begins-way : (m : Merge F) (found : List KeyValue) → IsCursor bytes parts m → m.bounds ≡ r → m.place ≡ start_along way → found ≡ [] → IsOnWay m found 0
  begins-way m found is same start none = record {
    cursor = is;
    keys = same;
    all = λ told. way-begins way (pairs_of bytes parts r) m.place start ∙ ap (λ ps. ps ++ left way (pairs_of bytes parts r) m.place) (sym none);
    many = ap length none;
  }

  ends-way : (old new : Merge F) (found more : List KeyValue) (n most : ℕ) → IsOnWay old found n → Adds bytes parts (step_along way) old new found more false → n ≤ most → AreTold bytes parts.tables → more ≡ take most (along way (pairs_of bytes parts r))
  ends-way old new found more n most on adds few told =
      adds.0 ∙ way-ends way (pairs_of bytes parts r) found old.place new.place most
      (adds.1 told ∙ ap (λ k. moved (pairs_of bytes parts k) old.place (step_along way)) on.keys) (on.all told) (omega (arith, on.many, few))

  goes-on : (old new : Merge F) (found more : List KeyValue) (n : ℕ) → IsOnWay old found n → IsCursor bytes parts new → new.bounds ≡ old.bounds → Adds bytes parts (step_along way) old new found more true → IsOnWay new more (n + 1)
  goes-on old new found more n on is same adds = record {
    cursor = is;
    keys = same ∙ on.keys;
    all = λ told.
        way-goes_on way (pairs_of bytes parts r) found old.place new.place adds.0 (pairs-sorted r (image (content bytes parts) parts.at))
        (adds.2 told ∙ ap (λ k. moved (pairs_of bytes parts k) old.place (step_along way)) on.keys) (on.all told)
        ∙ ap (λ ps. ps ++ left way (pairs_of bytes parts r) new.place) (sym adds.1);
    many = ap length adds.1 ∙ length-append found (adds.0 ∷ []) ∙ ap (λ x. x + 1) on.many;
  }

  pub is-long : (m : Merge F) (found : List KeyValue) (n most : ℕ) → IsOnWay m found n → n ≡ most → AreTold bytes parts.tables → found ≡ take most (along way (pairs_of bytes parts r))
  is-long m found n most on same told = way-is_long way (pairs_of bytes parts r) found m.place most (on.all told) (on.many ∙ same)

  pub ends-by : (old new : Merge F) (found more : List KeyValue) (n most : ℕ) (there : Bool) → IsOnWay old found n → Adds bytes parts (step_along way) old new found more there → there ≡ false → n ≤ most → AreTold bytes parts.tables → more ≡ take most (along way (pairs_of bytes parts r))
  ends-by old new found more n most true on adds ended few told = absurd (false≢true (sym ended))
  ends-by old new found more n most false on adds ended few told = ends-way old new found more n most on adds few told

  pub goes-by : (old new : Merge F) (found more : List KeyValue) (n : ℕ) (there : Bool) → IsOnWay old found n → IsCursor bytes parts new → new.bounds ≡ old.bounds → Adds bytes parts (step_along way) old new found more there → there ≡ true → IsOnWay new more (n + 1)
  goes-by old new found more n true on is same adds left_on = goes-on old new found more n on is same adds
  goes-by old new found more n false on is same adds left_on = absurd (false≢true left_on)
