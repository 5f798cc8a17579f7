-- Each step at a tray's table keeps its rule, and tells what it says.
use Rattle.std.proofs.Common.{◌≡◌, ℕ, zero, suc, ◌+◌, ◌<◌, ◌==◌, true, false, List, [], ◌∷◌, ◌++◌, get_or, set, Option, Some, None, sym, refl, ap, ◌∙◌, subst, arith}
use mathlib.Core.Option.{Option as Home, some, none, some-injective, some-ne-none}
use lib.ListN.{get_elem?}
use prog.Atomic.{either}
use Rattle.atomic_table.specs.Table.{State, Act, keeps, takes, gives, rest, stepped, Valid, carried_after, Allows, Splits}
use Rattle.xdb_order.specs.Desk.{story_at, fresh_story}
use Rattle.xdb_order.specs.Slot.{known, desk_knows, Stands, made, held, awaited, delivered, collected, Keeps}
use Rattle.xdb_order.specs.Steps.{Place, took, put, looked}
use Rattle.xdb_order.specs.declared.story.Story.{Story}
use Rattle.xdb_order.specs.declared.known.Role.{Role}
use Rattle.xdb_order.specs.declared.known.Role.TheVariants.{Maker, Holder, Hand, Done, Desk}
use Rattle.xdb_order.specs.declared.known.Known.{Known}

-- a way to stand, with one of its seats and the seat's role
data Seated {I O : Type 0} (fits : I → O → Type 0) (key : I) : List ℕ → List (Home (Option O)) → List (Known I O) → ℕ → Role O → Type 0 where
  maker : Seated fits key (0 ∷ []) (some None ∷ []) (known key Maker ∷ []) zero Maker
  holder : Seated fits key (0 ∷ []) (none ∷ []) (known key Holder ∷ []) zero Holder
  waiting_hand : (looks : ℕ) → Seated fits key (0 ∷ []) (none ∷ []) (known key Hand ∷ desk_knows key (story_at looks false) ∷ []) zero Hand
  waiting_desk : (looks : ℕ) → Seated fits key (0 ∷ []) (none ∷ []) (known key Hand ∷ desk_knows key (story_at looks false) ∷ []) (suc zero) (Desk (story_at looks false))
  done_hand : (out : O) (at : ℕ) {ws : List ℕ} {hs : List (Home (Option O))} {it : Story} → Seated fits key ws hs (known key (Done out at) ∷ desk_knows key it ∷ []) zero (Done out at)
  finding_desk : (out : O) (looks : ℕ) → fits key out
      → Seated fits key (1 ∷ []) (some (Some out) ∷ []) (known key (Done out looks) ∷ desk_knows key (story_at looks false) ∷ []) (suc zero) (Desk (story_at looks false))
  done_desk : (out : O) (at looks : ℕ) → at < looks
      → Seated fits key (0 ∷ []) (none ∷ []) (known key (Done out at) ∷ desk_knows key (story_at looks true) ∷ []) (suc zero) (Desk (story_at looks true))

module _ {I O : Type 0} (fits : I → O → Type 0) (key : I) where
  abbrev Slots : Type 0
  Slots = List (Home (Option O))

  abbrev Views : Type 0
  Views = List (Known I O)

  sits : (ws : List ℕ) (hs : Slots) (vs : Views) (id : ℕ) (r : Role O) (v : Known I O) → some (known key r) ≡ some v → Seated fits key ws hs vs id r
      → Seated fits key ws hs vs id v.role × (v.given ≡ key)
  sits ws hs vs id r v e at = let w = some-injective (known key r) v e in
      (subst (λ (k : Known I O). Seated fits key ws hs vs id k.role) w at, sym (ap (λ (k : Known I O). k.given) w))

  beyond : {X : Type 0} (v : Known I O) → none ≡ some v → X
  beyond v e = absurd (some-ne-none v (sym e))

  -- who has a view sits so at the table, and knows the key
  seats : (ws : List ℕ) (hs : Slots) (vs : Views) (id : ℕ) (v : Known I O) → Stands fits key ws hs vs → get_elem? vs id ≡ some v → Seated fits key ws hs vs id v.role × (v.given ≡ key)
  seats ws hs vs zero v made e = sits ws hs vs 0 Maker v e maker
  seats ws hs vs (suc id) v made e = beyond v e
  seats ws hs vs zero v held e = sits ws hs vs 0 Holder v e holder
  seats ws hs vs (suc id) v held e = beyond v e
  seats ws hs vs zero v (awaited looks) e = sits ws hs vs 0 Hand v e (waiting_hand looks)
  seats ws hs vs (suc zero) v (awaited looks) e = sits ws hs vs 1 (Desk (story_at looks false)) v e (waiting_desk looks)
  seats ws hs vs (suc (suc id)) v (awaited looks) e = beyond v e
  seats ws hs vs zero v (delivered out looks ok) e = sits ws hs vs 0 (Done out looks) v e (done_hand out looks)
  seats ws hs vs (suc zero) v (delivered out looks ok) e = sits ws hs vs 1 (Desk (story_at looks false)) v e (finding_desk out looks ok)
  seats ws hs vs (suc (suc id)) v (delivered out looks ok) e = beyond v e
  seats ws hs vs zero v (collected out at looks lt) e = sits ws hs vs 0 (Done out at) v e (done_hand out at)
  seats ws hs vs (suc zero) v (collected out at looks lt) e = sits ws hs vs 1 (Desk (story_at looks true)) v e (done_desk out at looks lt)
  seats ws hs vs (suc (suc id)) v (collected out at looks lt) e = beyond v e

  -- what a step asks of a table that stands so
  abbrev Goes : List ℕ → Slots → Views → ℕ → (ℕ → ℕ) → Place I O → (ℕ → Place I O → Type 0) → Type 0
  Goes ws hs vs id f me then =
      let s : State (Option O) (Known I O) = record { words = ws; homes = hs; views = vs } in
      (w : Known I O) × (a : Act (Option O)) × Valid hs me.1 a × Keeps fits key (stepped s 0 (f (get_or ws 0 0)) id me.1 w a) × then (get_or ws 0 0) (w, carried_after me.1 a)

  module _ (c : List (ℕ × Option O)) where
    taking : (ws : List ℕ) (hs : Slots) (vs : Views) (id : ℕ) → Seated fits key ws hs vs id Maker → Goes ws hs vs id (λ n. n) (known key Maker, c) (took (known key Maker, c))
    taking _ _ _ _ maker = (known key Holder, takes 0 None, refl, held, refl)

    putting : (out : O) → fits key out → (ws : List ℕ) (hs : Slots) (vs : Views) (id : ℕ) → Seated fits key ws hs vs id Hand
        → let me : Place I O = (known key Hand, (0, Some out) ∷ c) in Goes ws hs vs id (λ _. 1) me (λ _. put me 1)
    putting out ok _ _ _ _ (waiting_hand looks) = (known key (Done out looks), gives, tt, delivered out looks ok, (out, looks, refl, refl))

    looking : (it : Story) (ws : List ℕ) (hs : Slots) (vs : Views) (id : ℕ) → Seated fits key ws hs vs id (Desk it)
        → Goes ws hs vs id (λ n. either (n == 1) 0 n) (desk_knows key it, c) (looked fits (desk_knows key it, c))
    looking _ _ _ _ _ (waiting_desk looks) = (desk_knows key (story_at (looks + 1) false), keeps, tt, awaited (looks + 1), (refl, (λ h. absurd (omega arith)), λ _. refl))
    looking _ _ _ _ _ (finding_desk out looks ok) =
        (desk_knows key (story_at (looks + 1) true), takes 0 (Some out), refl, collected out looks (looks + 1) (omega arith), (refl, (λ _. (out, refl, ok, (refl, refl))), λ h. absurd (h refl)))
    looking _ _ _ _ _ (done_desk out at looks lt) = (desk_knows key (story_at (looks + 1) true), keeps, tt, collected out at (looks + 1) (omega arith), (refl, (λ h. absurd (omega arith)), λ _. refl))

  -- who has a role sits in its seat
  seat_of : (r : Role O) (v : Known I O) (given : I) (s : State (Option O) (Known I O)) (id : ℕ) → v ≡ known given r → Keeps fits key s → get_elem? s.views id ≡ some v
      → (known key r ≡ v) × Seated fits key s.words s.homes s.views id r
  seat_of r v given s id is stands at =
      let sat = seats s.words s.homes s.views id v stands at in
      let same : key ≡ given = sym sat.1 ∙ ap (λ (k : Known I O). k.given) is in
      (ap (λ (g : I). known g r) same ∙ sym is, subst (λ (q : Role O). Seated fits key s.words s.homes s.views id q) (ap (λ (k : Known I O). k.role) is) sat.0)

  -- the maker takes the slot
  pub takes_slot : (me : Place I O) (given : I) (slots id : ℕ) → me.0 ≡ known given Maker → Allows (Keeps fits key) slots id me 0 (λ n. n) (took me)
  takes_slot me given slots id is s stands wide at small =
      let t = seat_of Maker me.0 given s id is stands at in
      subst (λ (v : Known I O). Goes s.words s.homes s.views id (λ n. n) (v, me.1) (took (v, me.1))) t.0 (taking me.1 s.words s.homes s.views id t.1)

  -- the maker's seat becomes the hand's and the desk's
  parting : (ws : List ℕ) (hs : Slots) (vs : Views) (id : ℕ) → Seated fits key ws hs vs id Holder → Stands fits key ws hs (set vs id (known key Hand) ++ desk_knows key fresh_story ∷ [])
  parting _ _ _ _ holder = awaited 0

  pub parts : (v : Known I O) (given : I) (id : ℕ) → v ≡ known given Holder → Splits (Keeps fits key) id v (known v.given Hand) (desk_knows v.given fresh_story)
  parts v given id is s stands at =
      let t = seat_of Holder v given s id is stands at in
      subst (λ (k : Known I O). Stands fits key s.words s.homes (set s.views id (known k.given Hand) ++ desk_knows k.given fresh_story ∷ [])) t.0 (parting s.words s.homes s.views id t.1)

  -- the hand gives the slot back, with a result that fits in place of nothing
  pub puts : (before me : Place I O) (given : I) (out : O) (slots id : ℕ) → before ≡ (known given Hand, (0, None) ∷ []) → me ≡ (before.0, (0, Some out) ∷ rest before.1) → fits given out
      → Allows (Keeps fits key) slots id me 0 (λ _. 1) (λ _. put me 1)
  puts before me given out slots id was is ok s stands wide at small =
      let here : me ≡ (known given Hand, (0, Some out) ∷ []) = is ∙ ap (λ (m : Place I O). (m.0, (0, Some out) ∷ rest m.1)) was in
      let t = seat_of Hand me.0 given s id (ap (λ (m : Place I O). m.0) here) stands at in
      let same : given ≡ key = ap (λ (k : Known I O). k.given) (sym (t.0 ∙ ap (λ (m : Place I O). m.0) here)) in
      let lies : (known key Hand, (0, Some out) ∷ []) ≡ me = ap (λ (g : I). (known g Hand, (0, Some out) ∷ [])) (sym same) ∙ sym here in
      subst (λ (m : Place I O). Goes s.words s.homes s.views id (λ _. 1) m (λ _. put m 1)) lies (putting [] out (subst (λ (g : I). fits g out) same ok) s.words s.homes s.views id t.1)

  -- the desk takes the slot if it is at home
  pub looks_once : (me : Place I O) (given : I) (it : Story) (slots id : ℕ) → me.0 ≡ desk_knows given it → Allows (Keeps fits key) slots id me 0 (λ n. either (n == 1) 0 n) (looked fits me)
  looks_once me given it slots id is s stands wide at small =
      let t = seat_of (Desk it) me.0 given s id is stands at in
      subst (λ (v : Known I O). Goes s.words s.homes s.views id (λ n. either (n == 1) 0 n) (v, me.1) (looked fits (v, me.1))) t.0 (looking me.1 it s.words s.homes s.views id t.1)
