-- A seal.
use Rattle.std.proofs.Common.{◌≡◌, ℕ, ◌+◌, Bool, true, false, cond, ◌||◌, List, [], ◌∷◌, ◌++◌, append-nil, refl, sym, ap, ◌∙◌, subst}
use Rattle.std.proofs.lemmas.Bool.{eq-eqb}
use Rattle.std.proofs.lemmas.List.{map-append}
use Rattle.std.specs.List.{list_any}
use Rattle.xdb_edit.specs.Versions.{tables_of}
use Rattle.xdb_key.specs.Groups.{Group}
use Rattle.xdb_laws.proofs.PlaceLaws.{seal-ordered}
use Rattle.xdb_laws.specs.Ordered.{IsNumberedUpTo, Ordered, places}
use Rattle.xdb_mem.specs.Numbered.{RisesWithin}
use Rattle.xdb_mem.specs.Parts.{items}
use Rattle.xdb_mem.specs.Queue.{Queue, group, groups, all_ops, sealed_once}
use Rattle.xdb_plain.specs.Edits.{is_empty}
use Rattle.xdb_plain.specs.Replies.{same_reply, seal_replies}
use Rattle.xdb_plain.specs.State.{Plain, JobKind, flush_of, compaction_of}
use Rattle.xdb_plain.specs.declared.act.Act.TheVariants as act
use Rattle.xdb_plain.specs.declared.act.By.TheVariants.{Db}
use Rattle.xdb_plain.specs.declared.reply.Reply.TheVariants.{Nothing, Group as Sealed}
use Rattle.xdb_model.proofs.ListLaws.{all-more}
use Rattle.xdb_rangedel.specs.Content.{Item, IsImage}
use Rattle.xdb_steps.specs.Between.{FitsGiven, UnderWay, group_items, InLevelOrder, pinned_marks}
use Rattle.xdb_steps.specs.Core.{Core, RunningJob, sealed_core, table_items}
use Rattle.xdb_steps.specs.Keeps.{Agrees}
use Rattle.xdb_steps.specs.Notes.{plain_note}
use Rattle.xdb_steps.specs.Step.{Step}
use Rattle.xdb_steps.specs.Tables.{StandInL0, l0_of}
use Rattle.xdb_steps.proofs.CommitSteps.{all_ops-last}
use Rattle.xdb_steps.proofs.Frame.{still}

sealed-ops : (q : Queue) → all_ops (groups (sealed_once q)) ≡ all_ops (groups q)
sealed-ops q = all_ops-last (q.sealed ++ q.active ∷ []) (group (q.active.num + 1) []) ∙ append-nil (all_ops (groups q))

-- ---- jobs under way

later-given : (sealed : List Group) (g : Group) (content : List Item) (kind : JobKind) → FitsGiven sealed content kind → FitsGiven (sealed ++ g ∷ []) content kind
later-given sealed g content (flush_of group) fits =
    record { first = fits.first; behind = fits.behind ++ g ∷ []; oldest = ap (λ gs. gs ++ g ∷ []) fits.oldest; num = fits.num; whole = fits.whole }
later-given sealed g content (compaction_of x) fits = fits

-- one more group is sealed behind the others
still-given : (sealed : List Group) (g : Group) (jobs : List RunningJob) → UnderWay sealed jobs → UnderWay (sealed ++ g ∷ []) jobs
still-given sealed g jobs h = all-more (λ r. FitsGiven sealed r.content r.job.kind) _ jobs (λ r fits. later-given sealed g r.content r.job.kind fits) h

-- an empty group stands above all others
seal-order : (c : Core) → InLevelOrder c.files.current.levels c.files.contents c.mem c.numbers.next → InLevelOrder c.files.current.levels c.files.contents (sealed_once c.mem) c.numbers.next
seal-order c order = record {
  places = subst (λ gs. Ordered (places gs c.files.contents)) (sym (map-append (λ (g : Group). items g.ops) (groups c.mem) (group (c.mem.active.num + 1) [] ∷ [])))
      (seal-ordered (group_items c.mem) c.files.contents order.places);
  l0 = subst (λ xs. StandInL0 (items xs) c.numbers.next (tables_of c.files.current.levels 0) (l0_of c.files.contents)) (sym (sealed-ops c.mem)) order.l0;
}

module _ (c : Core) (p : Plain) (a : Agrees c p) where
  replies : (empty : Bool) → is_empty c.mem.active.ops ≡ empty → seal_replies p ≡ cond empty (Nothing ∷ []) (Sealed c.mem.active.num ∷ [])
  replies empty e =
      ap (λ g. cond (is_empty g.ops) (Nothing ∷ []) (Sealed g.num ∷ [])) a.mem.active
      ∙ ap (λ t. cond t (Nothing ∷ []) (Sealed c.mem.active.num ∷ [])) e

  pub nothing : {told : Type 0} → is_empty c.mem.active.ops ≡ true → Step told 0 c c p (plain_note Db act.Seal Nothing)
  nothing e =
      still c p (plain_note Db act.Seal Nothing) a
      (record { by = refl; reply = ap (list_any (same_reply Nothing)) (replies true e); act = tt; edit = refl; tried = refl; shown = tt }) tt refl refl

  group-listed : (n : ℕ) → list_any (same_reply (Sealed n)) (Sealed n ∷ []) ≡ true
  group-listed n = ap (λ t. t || false) (eq-eqb n n refl)

  pub sealed : {told : Type 0} → is_empty c.mem.active.ops ≡ false → Step told 0 c (sealed_core c) p (plain_note Db act.Seal (Sealed c.mem.active.num))
  sealed e = record {
    stands = record {
      by = refl;
      reply = ap (list_any (same_reply (Sealed c.mem.active.num))) (replies false e) ∙ group-listed c.mem.active.num;
      act = tt;
      edit = refl;
      tried = refl;
      shown = tt;
    };
    agrees = record {
      mem = record {
        sealed = λ i. a.mem.sealed i ++ a.mem.active i ∷ [];
        active = λ i. record { num = (a.mem.active i).num + 1; ops = [] };
        rising = subst (λ xs. RisesWithin 1 c.numbers.next xs) (sym (sealed-ops c.mem)) a.mem.rising;
        above = a.mem.above;
      };
      numbers = a.numbers;
      asks = a.asks;
      files = a.files;
      jobs = a.jobs;
      snaps = a.snaps;
      cursors = a.cursors;
      loads = a.loads;
      owned = a.owned;
      under_way = still-given c.mem.sealed c.mem.active c.jobs a.under_way;
    };
    answers = λ t m. tt;
    means = λ t m. record {
      image = record { image = subst (λ xs. IsImage (table_items c.files.contents ++ items xs) c.numbers.next p.map) (sym (sealed-ops c.mem)) m.image.image };
      order = seal-order c m.order;
      numbers = subst (λ xs. IsNumberedUpTo c.numbers.next (table_items c.files.contents ++ items xs) (pinned_marks p.snaps)) (sym (sealed-ops c.mem)) m.numbers;
      tables = m.tables;
      striped = m.striped;
      asks = m.asks;
    };
    booked = refl;
    undamaged = λ t. refl;
  }
