-- What the calls do is a step of the parts.
use Rattle.std.proofs.Common.{◌≡◌, ℕ, ◌+◌, ◌<◌, ◌≤◌, ◌^◌, Bool, true, false, cond, eqb, List, [], ◌∷◌, ◌++◌, append-nil, drop, length, map, Option, Some, None, refl, sym, ap, ◌∙◌, subst, IsTrue, arith}
use Rattle.std.specs.Option.{is_some, IfSome}
use Rattle.std.proofs.Math.Seq.{drop-append_seam}
use Rattle.std.proofs.lemmas.Bool.{false≢true}
use Rattle.std.proofs.lemmas.List.{length-map, map-append}
use Rattle.std.specs.FinMap.{get}
use Rattle.xdb_key.specs.declared.op.Op.{Op}
use Rattle.xdb_laws.proofs.AnswerLaws.{answered-alike, inside-bounds, answered-now}
use Rattle.xdb_laws.proofs.ImageLaws.{alike-inside}
use Rattle.xdb_laws.proofs.PartLaws.{parts-clear, parts-alike}
use Rattle.xdb_laws.specs.Answered.{answered, is_of_now}
use Rattle.xdb_laws.specs.Image.{image, inside, AreAlikeIn}
use Rattle.xdb_laws.specs.Tables.{contents}
use Rattle.xdb_lists.proofs.PlaceLaws.{under-number, under-all}
use Rattle.xdb_mem.proofs.ContentLaws.{items-clear}
use Rattle.xdb_mem.specs.Numbered.{RisesWithin}
use Rattle.xdb_mem.specs.Parts.{items}
use Rattle.xdb_mem.specs.Queue.{Queue, groups, all_ops, committed, sealed_once}
use Rattle.xdb_order.specs.Desk.{fresh_story}
use Rattle.xdb_plain.specs.Answers.{answer_now}
use Rattle.xdb_plain.specs.Edits.{is_empty}
use Rattle.xdb_plain.specs.Holds.{releasing, holds_due}
use Rattle.xdb_plain.specs.Outcomes.{outcome}
use Rattle.xdb_plain.specs.State.{Plain, Hold as PlainHold, for_ask, found_question}
use Rattle.xdb_plain.specs.declared.act.Act.{Act}
use Rattle.xdb_plain.specs.declared.act.Act.TheVariants as act
use Rattle.xdb_plain.specs.declared.act.By.{By}
use Rattle.xdb_plain.specs.declared.act.By.TheVariants.{Db}
use Rattle.xdb_plain.specs.declared.act.CommitForm.{CommitForm}
use Rattle.xdb_plain.specs.declared.note.HoldNote.{HoldNote}
use Rattle.xdb_plain.specs.declared.note.HoldNote.TheVariants.{Hold as Taken}
use Rattle.xdb_plain.specs.declared.note.Note.{Note}
use Rattle.xdb_plain.specs.declared.question.Place.TheVariants.{Before}
use Rattle.xdb_plain.specs.declared.question.Question.{Question}
use Rattle.xdb_plain.specs.declared.reply.Reply.{Reply}
use Rattle.xdb_plain.specs.declared.reply.Reply.TheVariants.{Done, Spent, Nothing, Group, Asked, Answered, NoSuch, NotYet, TooMany, Memory}
use Rattle.xdb_rangedel.proofs.MemberLaws.{Has-map}
use Rattle.xdb_rangedel.specs.Content.{IsClear, IsImage}
use Rattle.xdb_rangedel.specs.Members.{Has, SameMembers}
use Rattle.xdb_merge.specs.Tables.{AreTold, content_of_tables}
use Rattle.xdb_read.specs.Fits.{mem_content, meant, ReadFits}
use Rattle.xdb_read.specs.declared.parts.ReadDone.{ReadDone}
use Rattle.xdb_read.specs.declared.parts.ReadParts.{ReadParts}
use Rattle.xdb_steps.proofs.AskSteps.{no_such, too_many}
use Rattle.xdb_steps.proofs.CommitSteps as commits
use Rattle.xdb_steps.proofs.FailureSteps as failures
use Rattle.xdb_steps.proofs.Finding.{found-there}
use Rattle.xdb_steps.proofs.Found.{without-mapped}
use Rattle.xdb_steps.proofs.HoldSteps.{opened-held, lacking-held, ended-held}
use Rattle.xdb_steps.proofs.Holding.{step-free}
use Rattle.xdb_steps.proofs.SealSteps as seals
use Rattle.xdb_steps.proofs.SettleSteps as settles
use Rattle.xdb_steps.specs.Core.{Core, core, numbers, holders, open_question, ended_core, asked_core, next_hold, holding_core, table_items, without_hold}
use Rattle.xdb_steps.specs.Keeps.{Agrees, Means}
use Rattle.xdb_steps.specs.Notes.{is_work, plain_note, held_note}
use Rattle.xdb_steps.specs.SetFiles.{AreOfSet}
use Rattle.xdb_steps.specs.Step.{Step, HeldStep}
use Rattle.xdb_vset.specs.Hold.{Hold}
use Rattle.xdb_vset.specs.Seen.{Seen}
use Rattle.xdb_engine.specs.Asks.{ArePartsOf, IsOpened}
use Rattle.xdb_engine.specs.Ends.{answer_act, answer_of, failure, failure_by, failure_act, failure_hold, failure_leaves, settle_act, settle_hold, settle_reply, settle_leaves}
use Rattle.xdb_engine.specs.Files.{HasNoFiles, content_by}
use Rattle.xdb_engine.specs.Holds.{ask_hold, ask_holds, IsHoldIn, LetsGo, LetsGoOf, holds_since, release_note, release_notes, taking_note}
use Rattle.xdb_engine.specs.Opening.{read_of, IsOpenBehind}
use Rattle.xdb_engine.specs.Questions.{Asking, AreAsks, asking, mem_meant, plain_question, question_of, without, FitsGiven, IsBare}
use Rattle.xdb_engine.specs.State.{core_of, files_of, HoldsStand, SetStands, Steps, ClientSteps}
use Rattle.xdb_engine.specs.declared.asking.NewQuestion.{NewQuestion}
use Rattle.xdb_engine.specs.declared.questions.AskedRead.{AskedRead}
use Rattle.xdb_engine.specs.declared.state.State.{State}
use Rattle.xdb_engine.proofs.AskLaws.{plain-found}
use Rattle.xdb_engine.proofs.SetLaws.{none-new, unheld, taken-keeps, more-holds, none-left, left-files, left-keeps, fewer-holds}

-- ---- parts without tables

module _ {F : Type 0} (bytes : F → Option (List ℕ)) where
  told-bare : (parts : ReadParts F) → parts.tables ≡ [] → AreTold bytes parts.tables
  told-bare parts none = subst (AreTold bytes) (sym none) tt

  -- they mean what their memtables do
  means-bare : (parts : ReadParts F) → parts.tables ≡ [] → meant bytes parts ≡ mem_meant parts
  means-bare parts none = ap (λ c. answered (inside parts.bounds (image c parts.at)) parts.bounds parts.place parts.question)
      (ap (λ ts. mem_content parts ++ content_of_tables bytes ts) none ∙ append-nil (mem_content parts))

same-as : {A : Type 0} (xs ys : List A) → xs ≡ ys → SameMembers xs ys
same-as xs ys e = subst (SameMembers xs) e (λ x. (λ h. h, λ h. h))

module _ {F : Type 0} (old : State F) where
  pub parts-are-clear : (question : Question) (parts : ReadParts F) → RisesWithin 1 old.numbers.next (all_ops (groups old.mem)) → ArePartsOf (groups old.mem) old.numbers.next question parts → IsClear (mem_content parts)
  parts-are-clear question parts rising h =
      parts-clear parts.bounds old.numbers.next (all_ops (groups old.mem)) (mem_content parts) h.same_content (items-clear 1 old.numbers.next (all_ops (groups old.mem)) rising)

  -- A question that stands behind the others is opened.
  module _ (new : State F) (question : Question) (a : AskedRead F) (hand : ReadParts F) (told : List HoldNote) where
    pub question-opened : IsOpenBehind a old.asks new.asks old.files new.files told → a.number ≡ old.numbers.asked + 1 → a.work.given ≡ hand → a.work.story ≡ fresh_story → a.work.kept ≡ None → ArePartsOf (groups old.mem) old.numbers.next question hand → is_of_now question ≡ true → length old.asks < 64 → new.numbers ≡ record old.numbers { asked = a.number } → new.mem ≡ old.mem → IsOpened old new a.by question a.parted (record { ask = a.number; hand = hand; holds = told })
    question-opened o number given story kept parts now room numbers_are mem =
        let q : Asking F = read_of a o.hold in
        record {
          opens = record {
            number = number;
            hold = o.hold;
            opened = o.opened ∙ (λ i. old.asks ++ asking a.number a.by a.parted (given i) o.hold (story i) (kept i) ∷ []);
            version = o.holds.version;
            parts = parts;
            of_now = now;
            room = room;
          };
          numbers = numbers_are;
          mem = mem;
          files = o.holds;
          holds = o.note ∙ sym (ap (λ (qs : List (Asking F)). map (λ (x : Asking F). taking_note x.hold) (drop (length old.asks) qs)) o.opened
              ∙ ap (map (λ (x : Asking F). taking_note x.hold)) (drop-append_seam old.asks (q ∷ [])));
        }

  module _ (bytes : F → Option (List ℕ)) where
    abbrev before : Core
    before = core_of bytes old

    -- what leaves the parts as they are, and tells no holds
    still-steps : (note : Note) → ((p : Plain) → Agrees before p → HoldsStand bytes old → HeldStep (Unit {0}) 0 before before p note) → Steps bytes 0 old old note
    still-steps note step = λ p a held set. record { step = step p a held; set = set }

    -- ---- commits and seals

    pub committed-steps : (mem : Queue) (count : ℕ) (by : By) (form : CommitForm) (ops : List Op) (note : Note) → note ≡ plain_note by (act.Commit form ops) Done → mem ≡ committed old.numbers.next ops old.mem → count ≡ length ops → old.numbers.next + length ops ≤ 2 ^ 56 → ClientSteps bytes by old (record old { mem = mem; numbers = record old.numbers { next = old.numbers.next + count } }) note
    committed-steps mem count by form ops note is added counted room =
        subst (λ (x : (Queue × ℕ) × Note). ClientSteps bytes by old (record old { mem = x.0.0; numbers = record old.numbers { next = old.numbers.next + x.0.1 } }) x.1) (λ i. ((sym added i, sym counted i), sym is i))
        (λ client p a held set. record {
          step = step-free (commits.done before p by form ops a client room) refl refl held;
          set = record { of_set = set.of_set; none = set.none };
        })

    pub spent-steps : (by : By) (form : CommitForm) (ops : List Op) (note : Note) → note ≡ plain_note by (act.Commit form ops) Spent → 2 ^ 56 < old.numbers.next + length ops → ClientSteps bytes by old old note
    spent-steps by form ops note is many = subst (ClientSteps bytes by old old) (sym is)
        (λ client. still-steps (plain_note by (act.Commit form ops) Spent) (λ p a held. step-free (commits.spent before p by form ops a client many) refl refl held))

    pub uncommitted-steps : (mem : Queue) (by : By) (form : CommitForm) (ops : List Op) (note : Note) → note ≡ plain_note by (act.Commit form ops) Memory → mem ≡ old.mem → old.numbers.next + length ops ≤ 2 ^ 56 → ClientSteps bytes by old (record old { mem = mem }) note
    uncommitted-steps mem by form ops note is same room = subst (λ (x : Queue × Note). ClientSteps bytes by old (record old { mem = x.0 }) x.1) (λ i. (sym same i, sym is i))
        (λ client. still-steps (plain_note by (act.Commit form ops) Memory) (λ p a held. step-free (commits.lacking before p by form ops a client room) refl refl held))

    pub sealed-steps : (mem : Queue) (num : ℕ) (note : Note) → note ≡ plain_note Db act.Seal (Group num) → num ≡ old.mem.active.num → mem ≡ sealed_once old.mem → is_empty old.mem.active.ops ≡ false → Steps bytes 0 old (record old { mem = mem }) note
    sealed-steps mem num note is active once some =
        subst (λ (x : Queue × Note). Steps bytes 0 old (record old { mem = x.0 }) x.1) (λ i. (sym once i, (ap (λ n. plain_note Db act.Seal (Group n)) (sym active) ∙ sym is) i))
        (λ p a held set. record {
          step = step-free (seals.sealed before p a some) refl refl held;
          set = record { of_set = set.of_set; none = set.none };
        })

    pub unsealed-steps : (mem : Queue) (note : Note) → note ≡ plain_note Db act.Seal Nothing → mem ≡ old.mem → is_empty old.mem.active.ops ≡ true → Steps bytes 0 old (record old { mem = mem }) note
    unsealed-steps mem note is same none = subst (λ (x : Queue × Note). Steps bytes 0 old (record old { mem = x.0 }) x.1) (λ i. (sym same i, sym is i))
        (still-steps (plain_note Db act.Seal Nothing) (λ p a held. step-free (seals.nothing before p a none) refl refl held))

    -- ---- a question that is asked

    -- without tables the image is that of the memtables
    mem-image : (p : Plain) → HasNoFiles old.files → Means before p → IsImage (items (all_ops (groups old.mem))) old.numbers.next p.map
    mem-image p none m = subst (λ cs. IsImage (table_items cs ++ items (all_ops (groups old.mem))) old.numbers.next p.map) (ap (contents (content_by bytes old.files)) none.levels) m.image.image

    -- the parts of a question about what stands now mean its answer
    parts-mean : (p : Plain) (question : Question) (parts : ReadParts F) → HasNoFiles old.files → Agrees before p → Means before p → is_of_now question ≡ true → ArePartsOf (groups old.mem) old.numbers.next question parts → mem_meant parts ≡ answer_now p question
    parts-mean p question parts none a m now h =
        let ops = all_ops (groups old.mem) in
        let clear = items-clear 1 old.numbers.next ops a.mem.rising in
        let alike : AreAlikeIn parts.bounds (image (mem_content parts) old.numbers.next) p.map = parts-alike parts.bounds old.numbers.next ops (mem_content parts) p.map h.same_content clear (mem-image p none m) in
        let alike_at : AreAlikeIn parts.bounds (inside parts.bounds (image (mem_content parts) parts.at)) p.map =
        λ k at_k. alike-inside parts.bounds (image (mem_content parts) parts.at) k at_k ∙ ap (λ n. get (image (mem_content parts) n) k) h.at ∙ alike k at_k in
        (λ i. answered (inside parts.bounds (image (mem_content parts) parts.at)) parts.bounds (h.place i) (h.same_question i))
        ∙ answered-alike parts.bounds (inside parts.bounds (image (mem_content parts) parts.at)) p.map Before question alike_at (inside-bounds parts.bounds question h.bounds)
        ∙ sym (answered-now p parts.bounds question now)

    module _ (by : By) (question : Question) (parted : Bool) where
      module _ (new : State F) (made : NewQuestion F) (o : IsOpened old new by question parted made) where
        abbrev asked : Asking F
        asked = asking made.ask by parted made.hand o.opens.hold fresh_story None

        abbrev holds : List PlainHold
        holds = ask_holds new.files new.asks

        more : holds ≡ ask_holds old.files old.asks ++ next_hold before o.opens.hold.id ∷ []
        more =
            ap (ask_holds new.files) o.opens.opened ∙ more-holds old.files new.files o.opens.hold o.files old.asks asked refl
            ∙ ap (λ n. ask_holds old.files old.asks ++ record { id = o.opens.hold.id; holder = for_ask n; version = record { num = old.files.current.num; levels = old.files.current.levels } } ∷ []) o.opens.number

        same-files : files_of bytes new.files holds ≡ record before.files { holds = holds }
        same-files = ap (λ s. files_of bytes s holds) o.files.rest

        questions : map plain_question new.asks ≡ map plain_question old.asks ++ open_question (old.numbers.asked + 1) by question parted (mem_meant made.hand) ∷ []
        questions =
            ap (map plain_question) o.opens.opened ∙ map-append plain_question old.asks (asked ∷ [])
            ∙ (λ i. map plain_question old.asks ++ open_question (o.opens.number i) by (o.opens.parts.same_question i) parted (mem_meant made.hand) ∷ [])

        new-core : core_of bytes new ≡ holding_core (asked_core before by question parted (mem_meant made.hand)) holds
        new-core =
            (λ i. core (o.mem i) (numbers (o.numbers i).next (o.numbers i).file (o.numbers i).asked 0) (questions i) (same-files i) [])
            ∙ ap (λ n. record (holding_core (asked_core before by question parted (mem_meant made.hand)) holds) { numbers = numbers old.numbers.next old.numbers.file n 0 }) o.opens.number

        taking : holds_since old.asks new.asks ≡ Taken o.opens.hold.id old.files.current.num ∷ []
        taking =
            ap (λ (qs : List (Asking F)). map (λ (q : Asking F). taking_note q.hold) (drop (length old.asks) qs)) o.opens.opened
            ∙ ap (map (λ (q : Asking F). taking_note q.hold)) (drop-append_seam old.asks (asked ∷ []))
            ∙ ap (λ v. Taken o.opens.hold.id v ∷ []) o.opens.version

        told : (note : Note) → note ≡ held_note by (act.Ask made.ask question parted) (Asked made.ask) (holds_since old.asks new.asks) → note ≡ held_note by (act.Ask (old.numbers.asked + 1) question parted) (Asked (old.numbers.asked + 1)) (Taken o.opens.hold.id old.files.current.num ∷ [])
        told note is = is ∙ (λ i. held_note by (act.Ask (o.opens.number i) question parted) (Asked (o.opens.number i)) (taking i))

        few : length before.asks < 64
        few = let n = length-map old.asks plain_question in let room = o.opens.room in omega arith

        pub opened-steps : (note : Note) → note ≡ held_note by (act.Ask made.ask question parted) (Asked made.ask) (holds_since old.asks new.asks) → ClientSteps bytes by old new note
        opened-steps note is = λ client p a held set.
            let same : SameMembers holds (before.files.holds ++ next_hold before o.opens.hold.id ∷ []) = same-as holds (ask_holds old.files old.asks ++ next_hold before o.opens.hold.id ∷ []) more in
            record {
              step = subst (λ (x : Core × Note). HeldStep (Unit {0}) 0 before x.0 p x.1) (λ i. (sym new-core i, sym (told note is) i))
                  (opened-held before p by question parted (mem_meant made.hand) o.opens.hold.id holds a held client o.opens.of_now few (λ t m. parts-mean p question made.hand set.none a m o.opens.of_now o.opens.parts)
                  (unheld old.files new.files o.opens.hold o.files before.files set.of_set) same);
              set = record {
                of_set = subst (AreOfSet new.files) (sym same-files) (taken-keeps old.files new.files o.opens.hold o.files before.files set.of_set (for_ask (old.numbers.asked + 1)) holds same);
                none = none-new old.files new.files o.opens.hold o.files set.none;
              };
            }

      -- nothing is opened
      pub no_such-steps : (note : Note) → note ≡ plain_note by (act.Ask 0 question parted) NoSuch → is_of_now question ≡ false → ClientSteps bytes by old old note
      no_such-steps note is then = subst (ClientSteps bytes by old old) (sym is)
          (λ client. still-steps (plain_note by (act.Ask 0 question parted) NoSuch) (λ p a held. step-free (no_such before p by question parted a client then) refl refl held))

      pub too_many-steps : (note : Note) → note ≡ plain_note by (act.Ask 0 question parted) TooMany → is_of_now question ≡ true → 64 ≤ length old.asks → ClientSteps bytes by old old note
      too_many-steps note is now many = subst (ClientSteps bytes by old old) (sym is)
          (λ client. still-steps (plain_note by (act.Ask 0 question parted) TooMany) (λ p a held.
          step-free (too_many before p by question parted a client now (let n = length-map old.asks plain_question in omega arith)) refl refl held))

      pub lacking-steps : (new : State F) (note : Note) → note ≡ plain_note by (act.Ask 0 question parted) Memory → new ≡ old → is_of_now question ≡ true → length old.asks < 64 → ClientSteps bytes by old new note
      lacking-steps new note is same now few = subst (λ (x : State F × Note). ClientSteps bytes by old x.0 x.1) (λ i. (sym same i, sym is i))
          (λ client. still-steps (plain_note by (act.Ask 0 question parted) Memory) (λ p a held.
          lacking-held before p by question parted a held client now (let n = length-map old.asks plain_question in omega arith)))

    -- ---- a question that ends

    module _ (asks : List (Asking F)) (files : Seen F) where
      abbrev later : State F
      later = record old { asks = asks; files = files }

      module _ (q : Asking F) (there : question_of q.ask old.asks ≡ Some q) (leaves : asks ≡ without q.ask old.asks) (goes : LetsGoOf q.hold old.files files) where
        abbrev holds_left : List PlainHold
        holds_left = ask_holds files asks

        plain-there : found_question q.ask (map plain_question old.asks) ≡ Some (plain_question q)
        plain-there = plain-found q.ask old.asks (Some q) there

        has : Has old.asks q
        has = (found-there (λ (x : Asking F). eqb x.ask q.ask) q old.asks there).0

        ended : HasNoFiles old.files → holding_core (ended_core before q.ask) holds_left ≡ core_of bytes later
        ended none = λ i. core old.mem (numbers old.numbers.next old.numbers.file old.numbers.asked 0) ((without-mapped plain_question q.ask old.asks ∙ ap (map plain_question) (sym leaves)) i)
            (sym (left-files bytes old.files files q goes none holds_left) i) []

        fewer : (p : Plain) → HoldsStand bytes old → SetStands bytes old → SameMembers holds_left (without_hold q.hold.id before.files.holds)
        fewer p held set = subst (λ qs. SameMembers (ask_holds files qs) (without_hold q.hold.id before.files.holds)) (sym leaves)
            (fewer-holds bytes old.files files q goes old.asks before.files refl set.of_set (holders before) held has)

        -- whatever the note tells
        ends : (by : By) (does : Act) (r : Reply) → releasing does (outcome r) ≡ for_ask q.ask ∷ [] → ((p : Plain) → holds_due p does (outcome r) None ≡ [])
            → ((p : Plain) → Agrees before p → Step (Unit {0}) 0 before (ended_core before q.ask) p (plain_note by does r))
            → Steps bytes 0 old later (held_note by does r (release_note q.hold ∷ []))
        ends by does r lets nobody step = λ p a held set. record {
          step = subst (λ d. HeldStep (Unit {0}) 0 before d p (held_note by does r (release_note q.hold ∷ []))) (ended set.none)
              (ended-held before p by does r q.ask (ask_hold old.files q) holds_left a held (Has-map (ask_hold old.files) old.asks q has) refl (fewer p held set) (step p a) lets (nobody p));
          set = record {
            of_set = subst (AreOfSet files) (sym (left-files bytes old.files files q goes set.none holds_left)) (left-keeps bytes old.files files q goes before.files set.of_set holds_left (fewer p held set));
            none = none-left bytes old.files files q goes set.none;
          };
        }

        answer-steps : (by : By) (done : ReadDone) → AreAsks bytes old.asks → q.kept ≡ Some done → ClientSteps bytes by old later (held_note by (answer_act q) (Answered done.answer) (release_note q.hold ∷ []))
        answer-steps by done s kept = λ client.
            let fits : ReadFits bytes q.given done = subst (λ k. IfSome k (ReadFits bytes q.given)) kept (under-all (λ (x : Asking F). x.ask) (FitsGiven bytes) q.ask q old.asks s.fits there) in
            let bare : IsBare q = under-all (λ (x : Asking F). x.ask) IsBare q.ask q old.asks s.bare there in
            let right : (mem_meant q.given).answer ≡ done.answer = sym (ap (λ l. l.answer) (fits.right (told-bare bytes q.given bare) ∙ means-bare bytes q.given bare)) in
            elim q.parted as (λ b. q.parted ≡ b → Steps bytes 0 old later (held_note by (cond b (act.Settle q.ask) (act.Ask q.ask q.given.question false)) (Answered done.answer) (release_note q.hold ∷ []))) [
              | true ↦ λ e. ends by (act.Settle q.ask) (Answered done.answer) refl (λ p. refl) (λ p a. settles.in_parts before p by q.ask a client (plain_question q) plain-there done.answer (λ t m. right) e)
              | false ↦ λ e. ends by (act.Ask q.ask q.given.question false) (Answered done.answer) refl (λ p. refl) (λ p a. settles.whole before p by q.ask a client (plain_question q) plain-there done.answer (λ t m. right) e)
            ] refl

        fail-steps : Steps bytes 0 old later (held_note (failure_by q) (failure_act q) Memory (release_note q.hold ∷ []))
        fail-steps =
            elim q.parted as (λ b. q.parted ≡ b → Steps bytes 0 old later (held_note (cond b Db q.by) (cond b (act.Work q.ask) (act.Ask q.ask q.given.question false)) Memory (release_note q.hold ∷ []))) [
              | true ↦ λ e. ends Db (act.Work q.ask) Memory refl (λ p. refl) (λ p a. failures.in_parts before p q.ask (plain_question q) Memory 0 a plain-there refl refl (λ t. refl) e)
              | false ↦ λ e. ends q.by (act.Ask q.ask q.given.question false) Memory refl (λ p. refl) (λ p a. failures.whole before p q.ask (plain_question q) Memory 0 a plain-there refl refl (λ t. refl) e)
            ] refl

      module _ (ask : ℕ) where
        number : (q : Asking F) → question_of ask old.asks ≡ Some q → q.ask ≡ ask
        number q there = under-number (λ (x : Asking F). x.ask) ask q old.asks there

        itself : (q : Asking F) → question_of ask old.asks ≡ Some q → question_of q.ask old.asks ≡ Some q
        itself q there = ap (λ n. question_of n old.asks) (number q there) ∙ there

        -- nothing ends
        settle-still : (by : By) (note : Note) → asks ≡ old.asks → files ≡ old.files → ClientSteps bytes by old old note → ClientSteps bytes by old later note
        settle-still by note leaves same steps = subst (λ (x : List (Asking F) × Seen F). ClientSteps bytes by old (record old { asks = x.0; files = x.1 }) note) (λ i. (sym leaves i, sym same i)) steps

        settle-kept : (by : By) (q : Asking F) (kept : Option ReadDone) → AreAsks bytes old.asks → question_of ask old.asks ≡ Some q → q.kept ≡ kept → asks ≡ cond (is_some kept) (without ask old.asks) old.asks → LetsGo (cond (is_some kept) (Some q.hold) None) old.files files → ClientSteps bytes by old later (held_note by (cond (is_some kept) (answer_act q) (act.Settle ask)) (answer_of kept) (release_notes (cond (is_some kept) (Some q.hold) None)))
        settle-kept by q None s there e leaves goes = settle-still by (plain_note by (act.Settle ask) NotYet) leaves goes
            (λ client. still-steps (plain_note by (act.Settle ask) NotYet) (λ p a held. step-free (settles.early before p by ask a client (plain_question q) (plain-found ask old.asks (Some q) there)) refl refl held))
        settle-kept by q (Some done) s there e leaves goes = answer-steps q (itself q there) (leaves ∙ ap (λ n. without n old.asks) (sym (number q there))) goes by done s e

        settle-found : (by : By) (o : Option (Asking F)) → AreAsks bytes old.asks → question_of ask old.asks ≡ o → asks ≡ settle_leaves ask o old.asks → LetsGo (settle_hold o) old.files files → ClientSteps bytes by old later (held_note by (settle_act ask o) (settle_reply o) (release_notes (settle_hold o)))
        settle-found by None s there leaves goes = settle-still by (plain_note by (act.Settle ask) NoSuch) leaves goes
            (λ client. still-steps (plain_note by (act.Settle ask) NoSuch) (λ p a held. step-free (settles.none before p by ask a client (plain-found ask old.asks None there)) refl refl held))
        settle-found by (Some q) s there leaves goes = settle-kept by q q.kept s there refl leaves goes

        pub settle-steps : (by : By) (note : Note) → AreAsks bytes old.asks → asks ≡ settle_leaves ask (question_of ask old.asks) old.asks → LetsGo (settle_hold (question_of ask old.asks)) old.files files → note ≡ held_note by (settle_act ask (question_of ask old.asks)) (settle_reply (question_of ask old.asks)) (release_notes (settle_hold (question_of ask old.asks))) → ClientSteps bytes by old later note
        settle-steps by note s leaves goes is = subst (ClientSteps bytes by old later) (sym is) (settle-found by (question_of ask old.asks) s refl leaves goes)

        lack-found : (o : Option (Asking F)) → is_some o ≡ true → question_of ask old.asks ≡ o → asks ≡ failure_leaves o old.asks → LetsGo (failure_hold o) old.files files → Steps bytes 0 old later (held_note (failure o).0 (failure o).1 Memory (release_notes (failure_hold o)))
        lack-found None some there leaves goes = absurd (false≢true some)
        lack-found (Some q) some there leaves goes = fail-steps q (itself q there) leaves goes

        pub lack-steps : (note : Note) → is_some (question_of ask old.asks) ≡ true → asks ≡ failure_leaves (question_of ask old.asks) old.asks → LetsGo (failure_hold (question_of ask old.asks)) old.files files → note ≡ held_note (failure (question_of ask old.asks)).0 (failure (question_of ask old.asks)).1 Memory (release_notes (failure_hold (question_of ask old.asks))) → Steps bytes 0 old later note
        lack-steps note some leaves goes is = subst (Steps bytes 0 old later) (sym is) (lack-found (question_of ask old.asks) some refl leaves goes)

    -- nothing is there to work on
    pub no_work-steps : (does : Act) → IsTrue (is_work does) → Steps bytes 0 old old (plain_note Db does NoSuch)
    no_work-steps (act.Build job) work = still-steps (plain_note Db (act.Build job) NoSuch) (λ p a held. step-free (failures.no_such before p (act.Build job) a work) refl refl held)
    no_work-steps (act.Work ask) work = still-steps (plain_note Db (act.Work ask) NoSuch) (λ p a held. step-free (failures.no_such before p (act.Work ask) a work) refl refl held)
    no_work-steps _ work = absurd (false≢true work)

    -- ---- the holds of questions are in the set

    module _ (set : SetStands bytes old) where
      hold-in : (q : Asking F) → Has old.asks q → IsHoldIn old.files q.hold
      hold-in q has = (set.of_set.held (ask_hold old.files q) (Has-map (ask_hold old.files) old.asks q has)).slot

      module _ (ask : ℕ) where
        in-set : (q : Asking F) → question_of ask old.asks ≡ Some q → IsHoldIn old.files q.hold
        in-set q there = hold-in q (found-there (λ (x : Asking F). eqb x.ask ask) q old.asks there).0

        settled-in : (o : Option (Asking F)) → question_of ask old.asks ≡ o → IfSome (settle_hold o) (IsHoldIn old.files)
        settled-in None there = tt
        settled-in (Some q) there = elim (is_some q.kept) as (λ b. IfSome (cond b (Some q.hold) None) (IsHoldIn old.files)) [
          | true ↦ in-set q there
          | false ↦ tt
        ]

        pub settled-hold : (hold : Option Hold) → hold ≡ settle_hold (question_of ask old.asks) → IfSome hold (IsHoldIn old.files)
        settled-hold hold is = subst (λ h. IfSome h (IsHoldIn old.files)) (sym is) (settled-in (question_of ask old.asks) refl)

        failed-in : (o : Option (Asking F)) → question_of ask old.asks ≡ o → IfSome (failure_hold o) (IsHoldIn old.files)
        failed-in None there = tt
        failed-in (Some q) there = in-set q there

        pub failed-hold : (hold : Option Hold) → hold ≡ failure_hold (question_of ask old.asks) → IfSome hold (IsHoldIn old.files)
        failed-hold hold is = subst (λ h. IfSome h (IsHoldIn old.files)) (sym is) (failed-in (question_of ask old.asks) refl)
