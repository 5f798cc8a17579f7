-- A commit.
use Rattle.std.proofs.Common.{inl, inr, ◌⊎◌, ◌≡◌, ℕ, ◌+◌, ◌<◌, ◌≤◌, ◌^◌, Bool, true, false, cond, ltb, List, [], ◌∷◌, ◌++◌, map, length, append-nil, refl, sym, ap, ◌∙◌, subst, IsTrue, None, arith}
use Rattle.std.proofs.lemmas.Bool.{lt-ltb, le-ltb}
use Rattle.std.proofs.lemmas.Grind.{flat_map-append}
use Rattle.std.proofs.lemmas.List.{append_assoc, map-append}
use Rattle.std.specs.List.{list_any, enumerate_from}
use Rattle.xdb_key.specs.Groups.{Group}
use Rattle.xdb_key.specs.declared.op.Op.{Op}
use Rattle.xdb_key.specs.declared.op.Op.TheVariants.{Set, Del, DelSpan}
use Rattle.xdb_edit.specs.Versions.{tables_of}
use Rattle.xdb_laws.proofs.CommitLaws.{committed, numbered-is}
use Rattle.xdb_laws.proofs.FlushLaws.{table-stays}
use Rattle.xdb_laws.proofs.PlaceLaws.{commit-ordered, numbered-item, numbers-committed}
use Rattle.xdb_laws.specs.Ordered.{IsNumberedUpTo, StandsByNumber, Ordered, places, whole}
use Rattle.xdb_mem.proofs.NumberLaws.{rises-append, rises-numbered, rises-below}
use Rattle.xdb_mem.specs.Numbered.{numbered, RisesWithin}
use Rattle.xdb_mem.specs.Parts.{items, item_at}
use Rattle.xdb_mem.specs.Queue.{Queue, group, groups, all_ops, last_number}
use Rattle.xdb_mem.specs.Queue.{committed as queue_committed}
use Rattle.xdb_plain.specs.Fences.{fence_touched}
use Rattle.xdb_plain.specs.Outcomes.{outcome}
use Rattle.xdb_plain.specs.PlainMap.{PlainMap, acted_all}
use Rattle.xdb_plain.specs.Replies.{may_reply, same_reply, kept_back, commit_replies}
use Rattle.xdb_plain.specs.State.{Plain}
use Rattle.xdb_plain.specs.Steps.{MayStand, FitsEdit, FitsTried, IsShown, is_client}
use Rattle.xdb_plain.specs.declared.act.Act.TheVariants as act
use Rattle.xdb_plain.specs.declared.act.By.{By}
use Rattle.xdb_plain.specs.declared.act.CommitForm.{CommitForm}
use Rattle.xdb_plain.specs.declared.reply.Reply.{Reply}
use Rattle.xdb_plain.specs.declared.reply.Reply.TheVariants.{Done, Spent, Memory}
use Rattle.xdb_rangedel.proofs.MemberLaws.{Has-append_cases, Has-from_map}
use Rattle.xdb_rangedel.specs.Content.{Item, seq_of, IsImage}
use Rattle.xdb_rangedel.specs.Layers.{IsAllBelow}
use Rattle.xdb_rangedel.specs.Members.{Has}
use Rattle.xdb_steps.specs.Between.{group_items, all_items, InLevelOrder, pinned_marks}
use Rattle.xdb_steps.specs.Core.{Core, committed_core, table_items}
use Rattle.xdb_steps.specs.Keeps.{Agrees}
use Rattle.xdb_steps.specs.Notes.{plain_note}
use Rattle.xdb_steps.specs.Step.{Step}
use Rattle.xdb_steps.specs.Tables.{l0_of}
use Rattle.xdb_steps.proofs.Frame.{still}
use Rattle.xdb_steps.proofs.TableLaws.{all-whole, side-more}

-- ---- operations of groups

pub all_ops-last : (sealed : List Group) (g : Group) → all_ops (sealed ++ g ∷ []) ≡ all_ops sealed ++ g.ops
all_ops-last sealed g = flat_map-append (λ (x : Group). x.ops) sealed (g ∷ []) ∙ ap (λ ops. all_ops sealed ++ ops) (append-nil g.ops)

committed-ops : (first : ℕ) (ops : List Op) (q : Queue) → all_ops (groups (queue_committed first ops q)) ≡ all_ops (groups q) ++ numbered first ops
committed-ops first ops q =
    all_ops-last q.sealed (group q.active.num (q.active.ops ++ numbered first ops))
    ∙ sym (append_assoc (all_ops q.sealed) q.active.ops (numbered first ops))
    ∙ ap (λ xs. xs ++ numbered first ops) (sym (all_ops-last q.sealed q.active))

pub seq-item : (n : ℕ) (op : Op) → seq_of (item_at n op) ≡ n
seq-item n (Set key value) = refl
seq-item n (Del key) = refl
seq-item n (DelSpan range) = refl

pub items-below : (low high : ℕ) (ops : List (ℕ × Op)) → RisesWithin low high ops → IsAllBelow high (items ops)
items-below low high ops rising = λ i has.
    let f : ℕ × Op → Item = λ o. item_at o.0 o.1 in
    let from = Has-from_map f ops i has in
    let number : from.0.0 ≡ seq_of i = sym (seq-item from.0.0 from.0.1) ∙ ap seq_of from.2 in
    omega (arith, number, rises-below low high ops from.0 rising from.1)

last-below : (before first : ℕ) (ops : List Op) → before < first → last_number before first ops < first + length ops
last-below before first [] h = omega arith
last-below before first (op ∷ ops) h = omega arith

-- operations that join stand behind all that there is
whole-committed : (content : List Item) (first : ℕ) (ops : List Op) (q : Queue) → (content ++ items (all_ops (groups q))) ++ items (numbered first ops) ≡ content ++ items (all_ops (groups (queue_committed first ops q)))
whole-committed content first ops q =
    append_assoc content (items (all_ops (groups q))) (items (numbered first ops))
    ∙ sym (ap (λ xs. content ++ xs)
    (ap items (committed-ops first ops q) ∙ map-append (λ (o : ℕ × Op). item_at o.0 o.1) (all_ops (groups q)) (numbered first ops)))

-- ---- the step in content

module _ (c : Core) (ops : List Op) where
  abbrev old : List Item
  old = all_items c.files.contents c.mem

  abbrev later : ℕ
  later = c.numbers.next + length ops

  abbrev mem : Queue
  mem = queue_committed c.numbers.next ops c.mem

  abbrev sealed_items : List (List Item)
  sealed_items = map (λ g. items g.ops) c.mem.sealed

  items-committed : items (all_ops (groups mem)) ≡ items (all_ops (groups c.mem)) ++ items (numbered c.numbers.next ops)
  items-committed = ap items (committed-ops c.numbers.next ops c.mem) ∙ map-append (λ (o : ℕ × Op). item_at o.0 o.1) (all_ops (groups c.mem)) (numbered c.numbers.next ops)

  commit-image : (m : PlainMap) → IsAllBelow c.numbers.next old → IsImage old c.numbers.next m → IsImage (all_items c.files.contents mem) later (acted_all m ops)
  commit-image m below is = subst (λ x. IsImage x later (acted_all m ops)) (whole-committed (table_items c.files.contents) c.numbers.next ops c.mem) (committed old c.numbers.next m ops is below).image

  commit-numbers : (marks : List ℕ) → IsNumberedUpTo c.numbers.next old marks → IsNumberedUpTo later (all_items c.files.contents mem) marks
  commit-numbers marks n = subst (λ x. IsNumberedUpTo later x marks) (whole-committed (table_items c.files.contents) c.numbers.next ops c.mem) (numbers-committed c.numbers.next old marks ops n)

  commit-order : IsAllBelow c.numbers.next old → InLevelOrder c.files.current.levels c.files.contents c.mem c.numbers.next → InLevelOrder c.files.current.levels c.files.contents mem later
  commit-order below order = record {
    places = subst (λ gs. Ordered (places gs c.files.contents)) (sym after)
        (commit-ordered sealed_items (items c.mem.active.ops) c.files.contents c.numbers.next ops (subst (λ gs. Ordered (places gs c.files.contents)) before order.places)
        (subst (λ gs. IsAllBelow c.numbers.next (whole gs c.files.contents)) before (λ i h. below i ((all-whole c.files.contents c.mem i).1 h))));
    l0 = side-more (λ t x. StandsByNumber (items (all_ops (groups c.mem))) c.numbers.next t.seq_hi x) (λ t x. StandsByNumber (items (all_ops (groups mem))) later t.seq_hi x) (tables_of c.files.current.levels 0) (l0_of c.files.contents)
        (λ t x s. table-stays (items (all_ops (groups c.mem))) (items (all_ops (groups mem))) x c.numbers.next later t.seq_hi s (omega arith) new-or-old) order.l0;
  }
    where
      before : group_items c.mem ≡ sealed_items ++ items c.mem.active.ops ∷ []
      before = map-append (λ (g : Group). items g.ops) c.mem.sealed (c.mem.active ∷ [])

      after : group_items mem ≡ sealed_items ++ (items c.mem.active.ops ++ items (numbered c.numbers.next ops)) ∷ []
      after =
          map-append (λ (g : Group). items g.ops) c.mem.sealed (mem.active ∷ [])
          ∙ ap (λ x. sealed_items ++ x ∷ []) (map-append (λ (o : ℕ × Op). item_at o.0 o.1) c.mem.active.ops (numbered c.numbers.next ops))

      new-or-old : (i : Item) → Has (items (all_ops (groups mem))) i → Has (items (all_ops (groups c.mem))) i ⊎ (c.numbers.next ≤ seq_of i)
      new-or-old i h = elim (Has-append_cases (items (all_ops (groups c.mem))) (items (numbered c.numbers.next ops)) i (subst (λ x. Has x i) items-committed h)) [
        | inl g ↦ inl g
        | inr g ↦ inr (numbered-item c.numbers.next ops i g).0
      ]

-- ---- the step

module _ (c : Core) (p : Plain) (by : By) (form : CommitForm) (ops : List Op) (a : Agrees c p) (client : IsTrue (is_client by)) where
  replies : (spent : Bool) → ltb (2 ^ 56) (c.numbers.next + length ops) ≡ spent → may_reply p by (act.Commit form ops) ≡ cond spent (Spent ∷ []) (Memory ∷ Done ∷ [])
  replies spent e =
      let sum : p.next + kept_back p.loads + length ops ≡ c.numbers.next + length ops = ap (λ ls. p.next + kept_back ls + length ops) a.loads.none ∙ ap (λ n. n + 0 + length ops) a.numbers.next ∙ omega arith in
      ap (λ ls. commit_replies p (length ops) (fence_touched ops ls)) a.loads.none
      ∙ ap (λ n. cond (ltb (2 ^ 56) n) (Spent ∷ []) (Memory ∷ Done ∷ [])) sum ∙ ap (λ t. cond t (Spent ∷ []) (Memory ∷ Done ∷ [])) e

  stands : (reply : Reply) (spent : Bool) → ltb (2 ^ 56) (c.numbers.next + length ops) ≡ spent → list_any (same_reply reply) (cond spent (Spent ∷ []) (Memory ∷ Done ∷ [])) ≡ true → IsShown p reply → FitsEdit p (act.Commit form ops) reply None → FitsTried p (act.Commit form ops) (outcome reply) [] → MayStand p (plain_note by (act.Commit form ops) reply)
  stands reply spent e may shown edit tried =
      record { by = client; reply = ap (list_any (same_reply reply)) (replies spent e) ∙ may; act = tt; edit = edit; tried = tried; shown = shown }

  pub lacking : {told : Type 0} → c.numbers.next + length ops ≤ 2 ^ 56 → Step told 0 c c p (plain_note by (act.Commit form ops) Memory)
  lacking room = still c p (plain_note by (act.Commit form ops) Memory) a (stands Memory false (le-ltb (2 ^ 56) (c.numbers.next + length ops) room) refl tt refl refl) tt refl refl

  pub spent : {told : Type 0} → 2 ^ 56 < c.numbers.next + length ops → Step told 0 c c p (plain_note by (act.Commit form ops) Spent)
  spent many = still c p (plain_note by (act.Commit form ops) Spent) a (stands Spent true (lt-ltb (2 ^ 56) (c.numbers.next + length ops) many) refl tt refl refl) tt refl refl

  pub done : {told : Type 0} → c.numbers.next + length ops ≤ 2 ^ 56 → Step told 0 c (committed_core c ops) p (plain_note by (act.Commit form ops) Done)
  done room = record {
    stands = stands Done false (le-ltb (2 ^ 56) (c.numbers.next + length ops) room) refl tt refl refl;
    agrees = record {
      mem = record {
        sealed = a.mem.sealed;
        active = (λ i. record { num = (a.mem.active i).num; ops = (a.mem.active i).ops ++ enumerate_from (a.numbers.next i) ops })
            ∙ ap (λ xs. record { num = c.mem.active.num; ops = c.mem.active.ops ++ xs }) (sym (numbered-is c.numbers.next ops));
        rising = subst (λ xs. RisesWithin 1 (c.numbers.next + length ops) xs) (sym (committed-ops c.numbers.next ops c.mem))
            (rises-append 1 c.numbers.next (c.numbers.next + length ops) (all_ops (groups c.mem)) (numbered c.numbers.next ops) a.mem.rising (rises-numbered c.numbers.next ops));
        above = last-below c.mem.greatest c.numbers.next ops a.mem.above;
      };
      numbers = record { next = ap (λ n. n + length ops) a.numbers.next; file = a.numbers.file; asked = a.numbers.asked; started = a.numbers.started; upto = room; files_upto = a.numbers.files_upto };
      asks = a.asks;
      files = a.files;
      jobs = a.jobs;
      snaps = a.snaps;
      cursors = a.cursors;
      loads = a.loads;
      owned = a.owned;
      under_way = a.under_way;
    };
    answers = λ t m. tt;
    means = λ t m. record {
      image = record { image = commit-image c ops p.map m.numbers.numbers m.image.image };
      order = commit-order c ops m.numbers.numbers m.order;
      numbers = commit-numbers c ops (pinned_marks p.snaps) m.numbers;
      tables = m.tables;
      striped = m.striped;
      asks = m.asks;
    };
    booked = refl;
    undamaged = λ t. refl;
  }
