-- Files that are taken for removal and that can't be removed, and what is shown.
use Rattle.std.proofs.Common.{◌≡◌, ℕ, Bool, true, false, cond, eqb, ◌||◌, List, [], ◌∷◌, ◌++◌, map, refl, sym, ap, ◌∙◌}
use Rattle.std.proofs.lemmas.Bool.{eq-eqb}
use Rattle.std.proofs.lemmas.List.Folds.{list_any-append}
use Rattle.std.specs.List.{list_any}
use Rattle.xdb_edit.specs.Versions.{LevelLists}
use Rattle.xdb_lists.proofs.NumberLaws.{eqb_turned}
use Rattle.xdb_lists.specs.Numbers.{is_among}
use Rattle.xdb_plain.specs.Counts.{counts, dead}
use Rattle.xdb_plain.specs.Replies.{same_reply, reap_replies}
use Rattle.xdb_plain.specs.Snapshots.{by_name}
use Rattle.xdb_plain.specs.State.{Plain}
use Rattle.xdb_plain.specs.declared.act.Act.TheVariants as act
use Rattle.xdb_plain.specs.declared.act.By.TheVariants.{Db}
use Rattle.xdb_plain.specs.declared.act.ShowWhat.{ShowWhat}
use Rattle.xdb_plain.specs.declared.act.ShowWhat.TheVariants as show
use Rattle.xdb_plain.specs.declared.reply.Reply.TheVariants.{Nothing, Took, Stuck, Memory, Levels, Counts, Snaps}
use Rattle.xdb_steps.specs.Between.{Held}
use Rattle.xdb_steps.specs.Core.{Core, holders, reaped_core}
use Rattle.xdb_steps.specs.Keeps.{Agrees}
use Rattle.xdb_steps.specs.Notes.{plain_note}
use Rattle.xdb_steps.specs.Step.{Step, HeldStep}
use Rattle.xdb_steps.proofs.Frame.{still, stays}
use Rattle.xdb_steps.proofs.KnownNumbers.{or_nothing}
use Rattle.xdb_steps.proofs.Holding.{step-free}

or_swapped : (a b : Bool) → (a || b) ≡ (b || a)
or_swapped true true = refl
or_swapped true false = refl
or_swapped false true = refl
or_swapped false false = refl

module _ (c : Core) (p : Plain) (a : Agrees c p) (held : Held c.files.holds (holders c)) where
  -- ---- removal

  pub nothing : {told : Type 0} → dead p ≡ [] → HeldStep told 0 c c p (plain_note Db act.Reap Nothing)
  nothing none = step-free (still c p (plain_note Db act.Reap Nothing) a
      (record { by = refl; reply = ap (λ ns. list_any (same_reply Nothing) (reap_replies ns)) none; act = tt; edit = refl; tried = refl; shown = tt }) tt refl refl) refl refl held

  took-listed : (n : ℕ) → list_any (same_reply (Took n)) (Took n ∷ []) ≡ true
  took-listed n = or_nothing (eqb n n) ∙ eq-eqb n n refl

  one-more : (n m : ℕ) (ns : List ℕ) → is_among m (ns ++ n ∷ []) ≡ (eqb m n || is_among m ns)
  one-more n m ns = list_any-append (λ k. eqb k m) ns (n ∷ []) ∙ ap (λ b. is_among m ns || b) (or_nothing (eqb n m) ∙ eqb_turned n m) ∙ or_swapped (is_among m ns) (eqb m n)

  pub took : {told : Type 0} (n : ℕ) (others taken : List ℕ) → dead p ≡ n ∷ others → ((m : ℕ) → is_among m taken ≡ (eqb m n || is_among m c.files.taken)) → HeldStep told 0 c (reaped_core c taken) p (plain_note Db act.Reap (Took n))
  took {told} n others taken least alike = step-free step refl refl held
    where
      step : Step told 0 c (reaped_core c taken) p (plain_note Db act.Reap (Took n))
      step = record {
        stands = record { by = refl; reply = ap (λ ns. list_any (same_reply (Took n)) (reap_replies ns)) least ∙ took-listed n; act = tt; edit = refl; tried = refl; shown = tt };
        agrees = record {
          mem = a.mem;
          numbers = a.numbers;
          asks = a.asks;
          files = record {
            current = a.files.current;
            holds = a.files.holds;
            known = a.files.known;
            taken = λ m. one-more n m p.taken ∙ ap (λ b. eqb m n || b) (a.files.taken m) ∙ sym (alike m);
            rising = a.files.rising;
          };
          jobs = a.jobs;
          snaps = a.snaps;
          cursors = a.cursors;
          loads = a.loads;
          owned = a.owned;
          under_way = a.under_way;
        };
        answers = λ t m. tt;
        means = λ t m. record { image = m.image; order = m.order; numbers = m.numbers; tables = m.tables; striped = m.striped; asks = m.asks };
        booked = refl;
        undamaged = λ t. refl;
      }

  pub stuck : {told : Type 0} (num : ℕ) → is_among num c.files.taken ≡ true → HeldStep told 1 c c p (plain_note Db (act.Remove num) Stuck)
  stuck num there = step-free (stays c p (plain_note Db (act.Remove num) Stuck) a
      (record { by = refl; reply = ap (λ b. list_any (same_reply Stuck) (cond b (Stuck ∷ Memory ∷ []) [])) (a.files.taken num ∙ there); act = tt; edit = refl; tried = refl; shown = tt }) tt 1 refl (λ t. refl) refl) refl refl held

  pub unremoved : {told : Type 0} (num : ℕ) → is_among num c.files.taken ≡ true → HeldStep told 0 c c p (plain_note Db (act.Remove num) Memory)
  unremoved num there = step-free (still c p (plain_note Db (act.Remove num) Memory) a
      (record { by = refl; reply = ap (λ b. list_any (same_reply Memory) (cond b (Stuck ∷ Memory ∷ []) [])) (a.files.taken num ∙ there); act = tt; edit = refl; tried = refl; shown = tt }) tt refl refl) refl refl held

  -- ---- what is shown

  pub unshown : {told : Type 0} (what : ShowWhat) → HeldStep told 0 c c p (plain_note Db (act.Show what) Memory)
  unshown what = step-free (still c p (plain_note Db (act.Show what) Memory) a
      (record { by = refl; reply = refl; act = tt; edit = refl; tried = refl; shown = tt }) tt refl refl) refl refl held

  pub levels : {told : Type 0} (ls : LevelLists) → ls ≡ c.files.current.levels → HeldStep told 0 c c p (plain_note Db (act.Show show.Levels) (Levels ls))
  levels ls is = step-free (still c p (plain_note Db (act.Show show.Levels) (Levels ls)) a
      (record { by = refl; reply = refl; act = tt; edit = refl; tried = refl; shown = is ∙ ap (λ v. v.levels) (sym a.files.current) }) tt refl refl) refl refl held

  pub shows-counts : {told : Type 0} (cs : List (ℕ × ℕ)) → cs ≡ counts p → HeldStep told 0 c c p (plain_note Db (act.Show show.Counts) (Counts cs))
  shows-counts cs is = step-free (still c p (plain_note Db (act.Show show.Counts) (Counts cs)) a
      (record { by = refl; reply = refl; act = tt; edit = refl; tried = refl; shown = is }) tt refl refl) refl refl held

  pub snaps : {told : Type 0} → HeldStep told 0 c c p (plain_note Db (act.Show show.Snaps) (Snaps []))
  snaps = step-free (still c p (plain_note Db (act.Show show.Snaps) (Snaps [])) a
      (record { by = refl; reply = refl; act = tt; edit = refl; tried = refl; shown = sym (ap (λ ss. map (λ s. (s.name, s.state)) (by_name ss)) a.snaps.none) }) tt refl refl) refl refl held
