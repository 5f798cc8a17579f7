-- What a cursor over parts has, and what its steps lead to.
use Rattle.std.proofs.Common.{◌≡◌, ◌⊎◌, ℕ, Bool, true, List, [], ◌∷◌, ◌++◌, map, Option, Result, Ok, Err, IfOk, IfErr, OnOk, inl, inr, refl, sym, ap, ◌∙◌, subst}
use Rattle.std.proofs.lemmas.Bool.{cases_Bool}
use Rattle.std.specs.List.{AllByRecursion, filter}
use Rattle.xdb_key.specs.Bounds.{Bounds, holds, meets}
use Rattle.xdb_key.specs.Entries.{Point}
use Rattle.xdb_laws.specs.Image.{image, AreAlikeIn}
use Rattle.xdb_laws.proofs.ImageLaws.{image-is}
use Rattle.xdb_mem.specs.Parts.{Parts}
use Rattle.xdb_merge.specs.Layers.{content_of_layers}
use Rattle.xdb_merge.specs.Merge.{Merge, merge, layers, pairs}
use Rattle.xdb_merge.specs.Sources.{unread}
use Rattle.xdb_merge.specs.Steps.{ArePaired, AreRead, IsLater, IsLoaded, IsStep, NamesDefect, answer_of, views}
use Rattle.xdb_merge.specs.Tables.{tables_in, content_of_tables, AreTold, AreViewsOf, NamesDamage}
use Rattle.xdb_merge.proofs.TableLaws.{content_is_of_tables, damage_is_of_tables, others_say_nothing}
use Rattle.xdb_meta.specs.Table.{Table, bounds_of}
use Rattle.xdb_plain.specs.Answers.{landing, moved, pairs_in}
use Rattle.xdb_plain.specs.declared.question.Place.{Place}
use Rattle.xdb_plain.specs.declared.question.Step.{Step}
use Rattle.xdb_plain.specs.declared.question.Step.TheVariants.{First, Last, Next, Prev}
use Rattle.xdb_rangedel.specs.Content.{content_of, newer, newest, said_by, value_of}
use Rattle.xdb_rangedel.proofs.NewestLaws.{newest-append}
use Rattle.xdb_table_r.specs.Cursors.{Walk}
use Rattle.xdb_table_r.specs.Views.{Shown}
use Rattle.xdb_table_r.specs.declared.error.TableNo.{TableNo}
use Rattle.xdb_read.specs.Fits.{mem_content, content}
use Rattle.xdb_read.specs.Pairs.{IsCursor, Leads, pairs_of, step_from}
use Rattle.xdb_read.specs.declared.parts.ReadParts.{ReadParts}
use Rattle.xdb_read.proofs.KeyLaws.{pairs-alike}

all-filter : {A : Type 0} (P : A → Type 0) (t : A → Bool) (xs : List A) → AllByRecursion P xs → AllByRecursion P (filter t xs)
all-filter P t [] h = tt
all-filter P t (x ∷ xs) h = elim (cases_Bool (t x)) [
  | inl e ↦ rw e (h.0, all-filter P t xs h.1)
  | inr e ↦ rw e (all-filter P t xs h.1)
]

pub next-is : (step : Step) → (step ≡ First) ⊎ (step ≡ Next) → Next ≡ step_from step
next-is step (inl e) = ap step_from (sym e)
next-is step (inr e) = ap step_from (sym e)

pub prev-is : (step : Step) → (step ≡ Last) ⊎ (step ≡ Prev) → Prev ≡ step_from step
prev-is step (inl e) = ap step_from (sym e)
prev-is step (inr e) = ap step_from (sym e)

module _ {F : Type 0} where
  views-unread : (vs : List (Shown F)) → views (map unread vs) ≡ vs
  views-unread [] = refl
  views-unread (v ∷ vs) = ap (λ ws. v ∷ ws) (views-unread vs)

  views-later : (bytes : F → Option (List ℕ)) (old new : List (Walk F)) → ArePaired (IsLater bytes) old new → views new ≡ views old
  views-later bytes [] [] p = refl
  views-later bytes [] (w ∷ ws) p = absurd p
  views-later bytes (v ∷ vs) [] p = absurd p
  views-later bytes (v ∷ vs) (w ∷ ws) p = λ i. p.0.view i ∷ views-later bytes vs ws p.1 i

  none-unread : (bytes : F → Option (List ℕ)) (ws : List (Walk F)) → AreViewsOf bytes [] (views ws) → AreRead ws
  none-unread bytes [] h = tt
  none-unread bytes (w ∷ ws) h = absurd h

module _ {F : Type 0} (bytes : F → Option (List ℕ)) (parts : ReadParts F) where
  begins : (vs : List (Shown F)) (keys : Bounds) (place : Place) → AreViewsOf bytes (tables_in keys parts.tables) vs → IsCursor bytes parts (merge parts.mem (map unread vs) keys parts.at place)
  begins vs keys place are = record {
    mem = refl;
    at = refl;
    views = subst (AreViewsOf bytes (tables_in keys parts.tables)) (sym (views-unread vs)) are;
  }

  pub begins-made : (made : Merge F) (new : Merge F) (vs : List (Shown F)) (tables : List (Table × F)) (keys : Bounds) (old place : Place) → tables ≡ parts.tables → AreViewsOf bytes (tables_in keys tables) vs → made ≡ merge parts.mem (map unread vs) keys parts.at old → new ≡ merge made.mem made.walks made.bounds made.at place → IsCursor bytes parts new
  begins-made made new vs tables keys old place same are is then_at =
      subst (IsCursor bytes parts) (sym (then_at ∙ ap (λ (m : Merge F). merge m.mem m.walks m.bounds m.at place) is))
      (begins vs keys place (subst (λ ts. AreViewsOf bytes (tables_in keys ts) vs) same are))

  -- where there are no tables, all is read
  pub read_none : (m : Merge F) → IsCursor bytes parts m → tables_in m.bounds parts.tables ≡ [] → AreRead m.walks
  read_none m is none = none-unread bytes m.walks (subst (λ ts. AreViewsOf bytes ts (views m.walks)) none is.views)

  -- the tables that are left out say nothing of the keys
  says_all : (keys : Bounds) (limit : ℕ) (k : List ℕ) → holds keys k ≡ true → newest (mem_content parts ++ content_of_tables bytes (tables_in keys parts.tables)) limit k ≡ newest (content bytes parts) limit k
  says_all keys limit k there =
      newest-append (mem_content parts) (content_of_tables bytes (tables_in keys parts.tables)) limit k
      ∙ ap (newer (newest (mem_content parts) limit k)) (others_say_nothing bytes parts.tables keys limit k there)
      ∙ sym (newest-append (mem_content parts) (content_of_tables bytes parts.tables) limit k)

  content-is : (m : Merge F) → IsCursor bytes parts m → AllByRecursion (IsLoaded bytes) m.walks → AreTold bytes parts.tables → content_of_layers (layers m.mem m.walks) ≡ mem_content parts ++ content_of_tables bytes (tables_in m.bounds parts.tables)
  content-is m is loaded told =
      content_is_of_tables bytes m.mem (tables_in m.bounds parts.tables) m.walks is.views loaded (all-filter _ (λ t. meets (bounds_of t.0) m.bounds) parts.tables told)
      ∙ ap (λ (x : Parts). content_of x.entries x.spans ++ content_of_tables bytes (tables_in m.bounds parts.tables)) is.mem

  cursor-pairs : (m : Merge F) → IsCursor bytes parts m → AllByRecursion (IsLoaded bytes) m.walks → AreTold bytes parts.tables → pairs m ≡ pairs_of bytes parts m.bounds
  cursor-pairs m is loaded told =
      let some = mem_content parts ++ content_of_tables bytes (tables_in m.bounds parts.tables) in
      (λ i. pairs_in m.bounds (image (content-is m is loaded told i) (is.at i)))
      ∙ pairs-alike m.bounds (image some parts.at) (image (content bytes parts) parts.at)
      (λ k there. image-is some parts.at k ∙ ap (λ o. value_of (said_by o)) (says_all m.bounds parts.at k there) ∙ sym (image-is (content bytes parts) parts.at k))

  stays : (old new : Merge F) (step : Step) (result : Result (Option Point) TableNo) → IsCursor bytes parts old → IsStep bytes step old new result → IsCursor bytes parts new
  stays old new step result is s = record {
    mem = s.mem ∙ is.mem;
    at = s.at ∙ is.at;
    views = subst (λ r. AreViewsOf bytes (tables_in r parts.tables) (views new.walks)) (sym s.bounds)
        (subst (AreViewsOf bytes (tables_in old.bounds parts.tables)) (sym (views-later bytes old.walks new.walks s.later)) is.views);
  }

  lands-by : (old new : Merge F) (step : Step) (result : Result (Option Point) TableNo) → IsCursor bytes parts new → new.bounds ≡ old.bounds → OnOk result (AllByRecursion (IsLoaded bytes) new.walks) → IfOk result (λ e. landing (answer_of e) new.place ≡ moved (pairs new) old.place step) → AreTold bytes parts.tables → IfOk result (λ e. landing (answer_of e) new.place ≡ moved (pairs_of bytes parts old.bounds) old.place step)
  lands-by old new step (Ok e) is same loaded moves told =
      moves ∙ ap (λ ps. moved ps old.place step) (cursor-pairs new is loaded told ∙ ap (pairs_of bytes parts) same)
  lands-by old new step (Err cause) is same loaded moves told = tt

  damage-by : (old : Merge F) (result : Result (Option Point) TableNo) → IsCursor bytes parts old → IfErr result (NamesDefect bytes (views old.walks)) → IfErr result (NamesDamage bytes (tables_in old.bounds parts.tables))
  damage-by old (Ok e) is h = tt
  damage-by old (Err cause) is h = damage_is_of_tables bytes (tables_in old.bounds parts.tables) (views old.walks) cause is.views h

  -- a step of the cursor is one among the pairs of the parts
  pub leads : (old new : Merge F) (step : Step) (result : Result (Option Point) TableNo) → IsCursor bytes parts old → IsStep bytes step old new result → Leads bytes parts step old new result
  leads old new step result is s =
      let stays_so = stays old new step result is s in
      record {
        cursor = stays_so;
        keys = s.bounds;
        lands = lands-by old new step result stays_so s.bounds s.loaded s.moves;
        damage = damage-by old result is s.defect;
      }

  pub leads_by : (old new : Merge F) (called step : Step) (result : Result (Option Point) TableNo) → called ≡ step → IsCursor bytes parts old → IsStep bytes called old new result → Leads bytes parts step old new result
  leads_by old new called step result same is s = subst (λ x. Leads bytes parts x old new result) same (leads old new called result is s)
