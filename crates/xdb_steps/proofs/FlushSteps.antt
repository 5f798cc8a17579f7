-- A flush: it is taken, and its table comes in place of the group.
use Rattle.std.proofs.Common.{◌≡◌, ℕ, ◌+◌, ◌<◌, ◌≤◌, ◌^◌, Bool, true, false, cond, eqb, leb, ltb, ◌||◌, List, [], ◌∷◌, ◌++◌, map, drop, length, append-nil, Some, None, refl, sym, ap, ◌∙◌, subst, arith}
use Rattle.std.proofs.lemmas.Bool.{and_from, eq-eqb, eqb-true, le-leb, lt-ltb, le-ltb}
use Rattle.std.specs.List.{list_any, cons_option, filter_map, AllByRecursion}
use Rattle.std.specs.Option.{option_map}
use Rattle.xdb_edit.specs.Changes.{Changes}
use Rattle.xdb_edit.specs.Records.{IsEdit}
use Rattle.xdb_edit.specs.Versions.{edited, are_sorted}
use Rattle.xdb_key.specs.Groups.{Group}
use Rattle.xdb_laws.specs.Ordered.{IsNumberedUpTo}
use Rattle.xdb_laws.specs.Tables.{contents, flush_edit}
use Rattle.xdb_lists.specs.Numbers.{is_among}
use Rattle.xdb_mem.proofs.NumberLaws.{rises-back}
use Rattle.xdb_mem.specs.Numbered.{RisesWithin}
use Rattle.xdb_mem.specs.Queue.{all_ops}
use Rattle.xdb_meta.specs.Table.{Table}
use Rattle.xdb_model.proofs.ListLaws.{found-all, pairs-unmap}
use Rattle.xdb_model.specs.Apart.{Pairwise}
use Rattle.xdb_model.specs.Flushes.{FlushesFit, NotBoth}
use Rattle.xdb_model.specs.Numbered.{JobsFit, LevelsFit}
use Rattle.xdb_plain.specs.Changes.{new_flush}
use Rattle.xdb_plain.specs.Counts.{is_within, job_numbers, job_owns, found_hold}
use Rattle.xdb_plain.specs.Edits.{IsFlushOf, is_empty}
use Rattle.xdb_plain.specs.Holds.{version_after, turning, holds_due, Due, due}
use Rattle.xdb_plain.specs.Outcomes.{is_put_of_flush, groups_after, succeeds}
use Rattle.xdb_plain.specs.Replies.{is_flush, flush_take_replies, put_replies, same_reply}
use Rattle.xdb_plain.specs.Snapshots.{turned, turns}
use Rattle.xdb_plain.specs.State.{Plain, Snapshot, Hold, for_job, for_snap, Job, JobKind, flush_of, found_job}
use Rattle.xdb_plain.specs.Steps.{HasEdit, PutsJob}
use Rattle.xdb_plain.specs.declared.act.Act.TheVariants as act
use Rattle.xdb_plain.specs.declared.act.By.TheVariants.{Db}
use Rattle.xdb_plain.specs.declared.reply.Reply.{Reply}
use Rattle.xdb_plain.specs.declared.reply.Reply.TheVariants.{Nothing, NoSuch, NotYet, Spent, Memory, Installed, Job as Started}
use Rattle.xdb_rangedel.specs.Content.{Item}
use Rattle.xdb_steps.specs.Between.{Held, HasOldest, FitsGiven, all_items, pinned_marks}
use Rattle.xdb_steps.specs.Core.{Core, Contents, RunningJob, ask_holders, job_holders, holders, running_job, other_jobs, flush_idle, next_flush, flushing_core, flushed_core}
use Rattle.xdb_steps.specs.Flush.{IsFlushed}
use Rattle.xdb_steps.specs.Keeps.{Agrees}
use Rattle.xdb_steps.specs.Notes.{plain_note, put_note}
use Rattle.xdb_steps.specs.Step.{Step, HeldStep}
use Rattle.xdb_steps.proofs.FlushContent.{content-put}
use Rattle.xdb_steps.proofs.Frame.{still}
use Rattle.xdb_steps.proofs.Holding.{step-free, tells-none, held-alike}
use Rattle.xdb_steps.proofs.JobLaws.{flush-runs, job-found, flush-found, jobs-without, put-is_flush, owned-more, owned-less, given-more, given-none, striped-none, holders-flushing, flush-unheld, holders-ended}
use Rattle.xdb_steps.proofs.KnownNumbers.{or_nothing, among-with, rise-with, rise-higher, rise-under}

-- ---- a flush is taken

module _ (c : Core) (p : Plain) (a : Agrees c p) where
  replies : (idle lacks : Bool) → flush_idle c ≡ idle → ltb (2 ^ 56) (c.numbers.file + 1) ≡ lacks → flush_take_replies p ≡ cond idle (Nothing ∷ []) (cond lacks (Spent ∷ []) (Memory ∷ Started (p.started + 1) ∷ []))
  replies idle lacks e f =
      (λ i. cond (is_empty (a.mem.sealed i) || flush-runs c p a i) (Nothing ∷ []) (cond (ltb (2 ^ 56) (a.numbers.file i + 1)) (Spent ∷ []) (Memory ∷ Started (p.started + 1) ∷ [])))
      ∙ (λ i. cond (e i) (Nothing ∷ []) (cond (f i) (Spent ∷ []) (Memory ∷ Started (p.started + 1) ∷ [])))

  may : (r : Reply) (idle lacks : Bool) → flush_idle c ≡ idle → ltb (2 ^ 56) (c.numbers.file + 1) ≡ lacks → list_any (same_reply r) (cond idle (Nothing ∷ []) (cond lacks (Spent ∷ []) (Memory ∷ Started (p.started + 1) ∷ []))) ≡ true → list_any (same_reply r) (flush_take_replies p) ≡ true
  may r idle lacks e f listed = ap (list_any (same_reply r)) (replies idle lacks e f) ∙ listed

  module _ (held : Held c.files.holds (holders c)) where
    pub nothing : {told : Type 0} → flush_idle c ≡ true → HeldStep told 0 c c p (plain_note Db act.FlushTake Nothing)
    nothing e = step-free (still c p (plain_note Db act.FlushTake Nothing) a
        (record { by = refl; reply = may Nothing true (ltb (2 ^ 56) (c.numbers.file + 1)) e refl refl; act = tt; edit = refl; tried = refl; shown = tt }) tt refl refl) refl refl held

    pub spent : {told : Type 0} → flush_idle c ≡ false → 2 ^ 56 < c.numbers.file + 1 → HeldStep told 0 c c p (plain_note Db act.FlushTake Spent)
    spent e many = step-free (still c p (plain_note Db act.FlushTake Spent) a
        (record { by = refl; reply = may Spent false true e (lt-ltb (2 ^ 56) (c.numbers.file + 1) many) refl; act = tt; edit = refl; tried = refl; shown = tt }) tt refl refl) refl refl held

    pub lacking : {told : Type 0} → flush_idle c ≡ false → c.numbers.file + 1 ≤ 2 ^ 56 → HeldStep told 0 c c p (plain_note Db act.FlushTake Memory)
    lacking e room = step-free (still c p (plain_note Db act.FlushTake Memory) a
        (record { by = refl; reply = may Memory false false e (le-ltb (2 ^ 56) (c.numbers.file + 1) room) refl; act = tt; edit = refl; tried = refl; shown = tt }) tt refl refl) refl refl held

    module _ (group : ℕ) (content : List Item) (stripes : List ℕ) (oldest : HasOldest c.mem.sealed group content) where
      abbrev more : RunningJob
      more = next_flush c.numbers group content stripes

      plain-more : new_flush p p.sealed ≡ more.job ∷ []
      plain-more =
          ap (new_flush p) (a.mem.sealed ∙ oldest.oldest)
          ∙ (λ i. record { num = a.numbers.started i + 1; first = a.numbers.file i; kind = flush_of (oldest.num i) } ∷ [])

      started-listed : list_any (same_reply (Started (c.numbers.started + 1))) (Memory ∷ Started (p.started + 1) ∷ []) ≡ true
      started-listed = or_nothing (eqb (c.numbers.started + 1) (p.started + 1)) ∙ eq-eqb (c.numbers.started + 1) (p.started + 1) (ap (λ n. n + 1) (sym a.numbers.started))

      low : (n : ℕ) → is_among n c.files.known ≡ true → n < c.numbers.file
      low n there = rise-under 0 c.numbers.file n p.known a.files.rising (a.files.known n ∙ there)

      pub taken : {told : Type 0} → flush_idle c ≡ false → c.numbers.file + 1 ≤ 2 ^ 56 → HeldStep told 0 c (flushing_core c group content stripes) p (plain_note Db act.FlushTake (Started (c.numbers.started + 1)))
      taken {told} e room = step-free step refl refl (subst (Held c.files.holds) (ap (λ hs. ask_holders c.asks ++ hs) (sym (holders-flushing c.jobs more refl))) held)
        where
          step : Step told 0 c (flushing_core c group content stripes) p (plain_note Db act.FlushTake (Started (c.numbers.started + 1)))
          step = record {
            stands = record { by = refl; reply = may (Started (c.numbers.started + 1)) false false e (le-ltb (2 ^ 56) (c.numbers.file + 1) room) started-listed; act = tt; edit = refl; tried = refl; shown = tt };
            agrees = record {
              mem = a.mem;
              numbers = record { next = a.numbers.next; file = ap (λ n. n + 1) a.numbers.file; asked = a.numbers.asked; started = ap (λ n. n + 1) a.numbers.started; upto = a.numbers.upto; files_upto = room };
              asks = a.asks;
              files = record { current = a.files.current; holds = a.files.holds; known = a.files.known; taken = a.files.taken; rising = rise-higher 0 c.numbers.file (c.numbers.file + 1) p.known (omega arith) a.files.rising };
              jobs = record { same = (λ i. a.jobs.same i ++ plain-more i) ∙ sym (map-pushed c.jobs more) };
              snaps = a.snaps;
              cursors = a.cursors;
              loads = a.loads;
              owned = owned-more c.numbers.file c.files.known c.jobs more a.owned low refl;
              under_way = given-more c.mem.sealed c.jobs more a.under_way oldest;
            };
            answers = λ t m. tt;
            means = λ t m. record { image = m.image; order = m.order; numbers = m.numbers; tables = m.tables; striped = striped-none p.snaps (c.jobs ++ more ∷ []) a.snaps.none; asks = m.asks };
            booked = refl;
            undamaged = λ t. refl;
          }
            where
              map-pushed : (jobs : List RunningJob) (r : RunningJob) → map (λ (x : RunningJob). x.job) (jobs ++ r ∷ []) ≡ map (λ (x : RunningJob). x.job) jobs ++ r.job ∷ []
              map-pushed [] r = refl
              map-pushed (j ∷ jobs) r = ap (λ js. j.job ∷ js) (map-pushed jobs r)

-- ---- a flush is put

module _ (c : Core) (p : Plain) (num : ℕ) (a : Agrees c p) (held : Held c.files.holds (holders c)) where
  pub put-none : {told : Type 0} → running_job num c.jobs ≡ None → HeldStep told 0 c c p (plain_note Db (act.Put num) NoSuch)
  put-none none = step-free (still c p (plain_note Db (act.Put num) NoSuch) a
      (record { by = refl; reply = ap (λ o. list_any (same_reply NoSuch) (put_replies o)) (job-found c p a num None none); act = tt; edit = refl; tried = refl; shown = tt }) tt refl refl) refl refl held

  module _ (r : RunningJob) (group : ℕ) (found : running_job num c.jobs ≡ Some r) (kind : r.job.kind ≡ flush_of group) where
    abbrev flush : Job
    flush = record { num = r.job.num; first = r.job.first; kind = flush_of group }

    plain-found : found_job num p.jobs ≡ Some flush
    plain-found = flush-found c p a num r group found kind

    pub put-early : {told : Type 0} → HeldStep told 0 c c p (plain_note Db (act.Put num) NotYet)
    put-early = step-free (still c p (plain_note Db (act.Put num) NotYet) a
        (record { by = refl; reply = ap (λ o. list_any (same_reply NotYet) (put_replies o)) plain-found; act = tt; edit = refl; tried = refl; shown = tt }) tt refl refl) refl refl held

    is-put : is_put_of_flush p num ≡ true
    is-put = put-is_flush p num flush plain-found

    pub put-lacking : {told : Type 0} → HeldStep told 0 c c p (plain_note Db (act.Put num) Memory)
    put-lacking = step-free (still c p (plain_note Db (act.Put num) Memory) a
        (record { by = refl; reply = ap (λ o. list_any (same_reply Memory) (put_replies o)) plain-found; act = tt; edit = refl; tried = refl; shown = tt }) tt refl refl) refl refl held

    module _ (fit : JobsFit p) where
      unheld : found_hold (for_job num) p.holds ≡ None
      unheld = flush-unheld c p a fit num r found (ap is_flush kind) held

      module _ (fits : FlushesFit p) (lasting : LevelsFit p) (e : Changes) (table : Table) (content : Table → List Item) (known : List ℕ) (edit : IsEdit e) (flushes : IsFlushOf r.job e) (alike : (n : ℕ) → is_among n known ≡ (is_among n e.new_backings || is_among n c.files.known)) (adds : e.added ≡ (0, table) ∷ []) (had : c.files.contents ≡ contents content c.files.current.levels) where
        -- what the tables have then
        abbrev has_then : Contents
        has_then = contents content (edited c.files.current.levels e)

        -- the groups that are left
        dropped : (sealed : List Group) (active : Group) (high : ℕ) → RisesWithin 1 high (all_ops (sealed ++ active ∷ [])) → RisesWithin 1 high (all_ops (drop 1 sealed ++ active ∷ []))
        dropped [] active high h = h
        dropped (g ∷ gs) active high h = rises-back 1 high g.ops (all_ops (gs ++ active ∷ [])) h

        -- there are no snapshots that could turn
        empty-map : (b : Bool) (f : Snapshot → Snapshot) (snaps : List Snapshot) → snaps ≡ [] → cond b (map f snaps) snaps ≡ []
        empty-map true f snaps none = ap (map f) none
        empty-map false f snaps none = none

        no-dues : (b : Bool) (dues : List Due) → dues ≡ [] → cond b dues [] ≡ []
        no-dues true dues none = none
        no-dues false dues none = refl

        nobody : holds_due p (act.Put num) succeeds (Some e) ≡ []
        nobody = no-dues (is_put_of_flush p num) (turning p (Some e))
            (ap (filter_map (λ s. cond (turns (groups_after p) s) (Some (due (for_snap s.name) (version_after p.current (Some e)))) None)) a.snaps.none)

        has : HasEdit p (act.Put num) (Some e)
        has = (edit, subst (λ o. PutsJob o e) (sym plain-found) (subst (λ (k : JobKind). IsFlushOf (record { num = r.job.num; first = r.job.first; kind = k }) e) kind flushes))

        seven : length c.files.current.levels ≡ 7
        seven = ap (λ v. length v.levels) (sym a.files.current) ∙ lasting.seven

        sorted : are_sorted c.files.current.levels ≡ true
        sorted = ap (λ v. are_sorted v.levels) (sym a.files.current) ∙ lasting.sorted

        edits : e ≡ flush_edit table e.new_backings
        edits = λ i. record { removed = flushes.removed i; new_backings = e.new_backings; added = adds i }

        given : HasOldest c.mem.sealed group r.content
        given = subst (FitsGiven c.mem.sealed r.content) kind (found-all (λ (x : RunningJob). FitsGiven c.mem.sealed x.content x.job.kind) (λ (x : RunningJob). eqb x.job.num num) c.jobs r found a.under_way)

        -- the number of its file is the flush's own
        own : (n : ℕ) → is_among n e.new_backings ≡ true → job_owns n r.job ≡ true
        own n there =
            let one : is_among n (r.job.first ∷ []) ≡ true = ap (is_among n) (sym flushes.new_backings) ∙ there in
            let same : r.job.first ≡ n = eqb-true r.job.first n (sym (or_nothing (eqb r.job.first n)) ∙ one) in
            ap (λ k. is_within r.job.first (job_numbers k) n) kind ∙ subst (λ m. is_within r.job.first 1 m ≡ true) same (itself r.job.first)
          where
            itself : (m : ℕ) → is_within m 1 m ≡ true
            itself m = and_from (leb m m) (ltb m (m + 1)) (le-leb m m (omega arith)) (lt-ltb m (m + 1) (omega arith))

        step : {told : Type 0} → (told → IsFlushed r table (content table)) → Step told 0 c (flushed_core c num e has_then known) p (put_note num e [])
        step flushed = record {
          stands = record { by = refl; reply = ap (λ o. list_any (same_reply Installed) (put_replies o)) plain-found; act = tt; edit = has; tried = refl; shown = tt };
          agrees = record {
            mem = record {
              sealed = ap (λ b. cond b (drop 1 p.sealed) p.sealed) is-put ∙ ap (drop 1) a.mem.sealed;
              active = a.mem.active;
              rising = dropped c.mem.sealed c.mem.active c.numbers.next a.mem.rising;
              above = a.mem.above;
            };
            numbers = a.numbers;
            asks = a.asks;
            files = record {
              current = ap (λ v. version_after v (Some e)) a.files.current;
              holds = a.files.holds;
              known = λ n. among-with n (e.new_backings ++ []) p.known ∙ (λ i. is_among n (append-nil e.new_backings i) || a.files.known n i) ∙ sym (alike n);
              taken = a.files.taken;
              rising = rise-with c.numbers.file (e.new_backings ++ []) p.known under a.files.rising;
            };
            jobs = record { same = jobs-without c p a num };
            snaps = record { none = empty-map (is_put_of_flush p num) (turned (groups_after p)) p.snaps a.snaps.none };
            cursors = a.cursors;
            loads = a.loads;
            owned = owned-less c.numbers.file c.files.known known e.new_backings c.jobs num r a.owned found alike own;
            under_way = given-none (drop 1 c.mem.sealed) c.jobs num r found (ap is_flush kind) (pairs-unmap NotBoth (λ (x : RunningJob). x.job) c.jobs (subst (Pairwise NotBoth) a.jobs.same fits.one));
          };
          answers = λ t m. tt;
          means = λ t m.
              let now = content-put content c.files.current.levels c.files.contents c.mem c.numbers.next r group table e seven sorted edits had given a.mem.rising (flushed t) m.order in
              record {
                image = record { image = now.image p.map m.image.image };
                order = now.order;
                numbers = subst (λ ss. IsNumberedUpTo c.numbers.next (all_items has_then (flushed_core c num e has_then known).mem) (pinned_marks ss)) (a.snaps.none ∙ sym (empty-map (is_put_of_flush p num) (turned (groups_after p)) p.snaps a.snaps.none))
                    (now.numbers (pinned_marks p.snaps) m.numbers);
                tables = now.tables m.tables;
                striped = striped-none (cond (is_put_of_flush p num) (map (turned (groups_after p)) p.snaps) p.snaps) (other_jobs num c.jobs) (empty-map (is_put_of_flush p num) (turned (groups_after p)) p.snaps a.snaps.none);
                asks = m.asks;
              };
          booked = refl;
          undamaged = λ t. refl;
        }
          where
            under : AllByRecursion (λ n. n < c.numbers.file) (e.new_backings ++ [])
            under = subst (AllByRecursion (λ n. n < c.numbers.file)) (sym (append-nil e.new_backings ∙ flushes.new_backings)) (below-file, tt)
              where
                below-file : r.job.first < c.numbers.file
                below-file =
                    let le : r.job.first + job_numbers r.job.kind ≤ c.numbers.file = found-all (λ (x : RunningJob). x.job.first + job_numbers x.job.kind ≤ c.numbers.file) (λ (x : RunningJob). eqb x.job.num num) c.jobs r found a.owned.below in
                    let one : job_numbers r.job.kind ≡ 1 = ap job_numbers kind in
                    omega arith

        pub put-installed : {told : Type 0} → (told → IsFlushed r table (content table)) → HeldStep told 0 c (flushed_core c num e has_then known) p (put_note num e [])
        put-installed flushed = record {
          step = step flushed;
          holds = tells-none p Db (act.Put num) Installed (Some e) [] (ap (λ o. cons_option (option_map (λ (h : Hold). h.id) o) []) unheld) nobody;
          held = held-alike c.files.holds (holders c) (ask_holders c.asks ++ job_holders (other_jobs num c.jobs)) held (holders-ended c p a fit num r found (ap is_flush kind));
        }
