-- What a call of a merged cursor does: it reads the views that aren't read yet, and moves.
use Rattle.std.specs.Prelude.{◌≡◌, ◌⊎◌, ℕ, true, false, List, [], ◌∷◌, map, Option, Some, None, Result, Ok, Err, IfOk, IfErr, OnOk, OnErr, IfSome}
use Rattle.std.specs.List.{AllByRecursion}
use Rattle.xdb_key.specs.Entries.{Point}
use Rattle.xdb_plain.specs.Answers.{landing, moved}
use Rattle.xdb_plain.specs.declared.answer.Answer.{Answer}
use Rattle.xdb_plain.specs.declared.answer.Answer.TheVariants.{Pair, End}
use Rattle.xdb_plain.specs.declared.question.Step.{Step}
use Rattle.xdb_rangedel.specs.Content.{Item, mark, entry_of, newest}
use Rattle.xdb_rangedel.specs.Members.{Has}
use Rattle.xdb_table_r.specs.Cursors.{Walk, ArePointsOf}
use Rattle.xdb_table_r.specs.Views.{Shown, view_at}
use Rattle.xdb_table_r.specs.declared.error.TableNo.{TableNo}
use Rattle.xdb_table_r.specs.declared.error.TableNo.TheVariants.{ReadFault, Damaged, Memory}
use Rattle.xdb_merge.specs.Merge.{Merge, content, pairs}

-- ---- reading

-- the relation holds of the elements at each place, and the lists are equally long
abbrev pub ArePaired : {A : Type 0} → (A → A → Type 0) → List A → List A → Type 0
ArePaired R [] [] = Unit {0}
ArePaired R [] (y ∷ ys) = ⊥
ArePaired R (x ∷ xs) [] = ⊥
ArePaired R (x ∷ xs) (y ∷ ys) = R x y × ArePaired R xs ys

module _ {F : Type 0} where
  abbrev pub AreRead : List (Walk F) → Type 0
  AreRead ws = AllByRecursion (λ w. w.read ≡ true) ws

  -- the view and the place stay, and what is read stays so; what is newly read are the points of the view
  pub record IsLater (bytes : F → Option (List ℕ)) (old new : Walk F) : Type 0 where
    pub view : new.view ≡ old.view
    pub place : new.place ≡ old.place
    pub read : old.read ≡ true → new.read ≡ true
    pub kept : old.read ≡ true → new.points ≡ old.points
    pub points : old.read ≡ false → new.read ≡ true → ArePointsOf bytes new.view new.points

  -- read, and its points are those of its view
  pub record IsLoaded (bytes : F → Option (List ℕ)) (w : Walk F) : Type 0 where
    pub read : w.read ≡ true
    pub points : ArePointsOf bytes w.view w.points

  -- The first view in order whose points have a defect has it at this place of this file: those before it read well.
  -- Of a file that doesn't tell its bytes nothing is said.
  abbrev pub IsFirstDefect : (F → Option (List ℕ)) → ℕ → ℕ → List (Shown F) → Type 0
  IsFirstDefect bytes backing at [] = ⊥
  IsFirstDefect bytes backing at (v ∷ vs) =
      IfSome (bytes v.table.file) (λ b. (backing ≡ v.table.backing) × (view_at v b ≡ Err at))
      ⊎ (IfSome (bytes v.table.file) (λ b. (ps : List Point) × (view_at v b ≡ Ok ps)) × IsFirstDefect bytes backing at vs)

  -- a fault and want of memory may come at any place
  abbrev pub NamesDefect : (F → Option (List ℕ)) → List (Shown F) → TableNo → Type 0
  NamesDefect bytes vs (Damaged backing at) = IsFirstDefect bytes backing at vs
  NamesDefect bytes vs ReadFault = Unit {0}
  NamesDefect bytes vs Memory = Unit {0}

  abbrev pub views : List (Walk F) → List (Shown F)
  views ws = map (λ w. w.view) ws

-- ---- moving

-- the pair of an entry, or the end
abbrev pub answer_of : Option Point → Answer
answer_of None = End
answer_of (Some p) = Pair p.key p.value

-- the content has the entry, and it decides what is said of its key
pub record Decides (c : List Item) (at : ℕ) (p : Point) : Type 0 where
  pub member : Has c (entry_of p)
  pub newest : newest c at p.key ≡ Some (mark (entry_of p))

-- Once all views are read, the answer and the place are those of the step among the pairs. An error leaves the place.
pub record IsStep {F : Type 0} (bytes : F → Option (List ℕ)) (step : Step) (old new : Merge F) (result : Result (Option Point) TableNo) : Type 0 where
  pub mem : new.mem ≡ old.mem
  pub bounds : new.bounds ≡ old.bounds
  pub at : new.at ≡ old.at
  pub later : ArePaired (IsLater bytes) old.walks new.walks
  pub loaded : OnOk result (AllByRecursion (IsLoaded bytes) new.walks)
  pub defect : IfErr result (NamesDefect bytes (views old.walks))
  pub moves : IfOk result (λ e. landing (answer_of e) new.place ≡ moved (pairs new) old.place step)
  pub decides : IfOk result (λ e. IfSome e (Decides (content new) new.at))
  pub stays : OnErr result (new.place ≡ old.place)
