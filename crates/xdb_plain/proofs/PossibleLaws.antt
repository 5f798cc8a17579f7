-- A reply that may stand is one that its act can have.
use Rattle.std.proofs.Common.{◌≡◌, ℕ, ◌+◌, Bool, true, false, cond, leb, ◌||◌, ◌&&◌, List, [], ◌∷◌, ◌++◌, length, Option, Some, None, is_some, is_none, refl, ap, ◌∙◌, inl, inr, not}
use Rattle.std.proofs.lemmas.Bool.{false≢true, or_cases}
use Rattle.std.specs.List.{list_any, AllByRecursion}
use Rattle.xdb_key.specs.Bounds.{Bounds, holds, covers}
use Rattle.xdb_key.specs.Groups.{first_touching, last_touching}
use Rattle.xdb_key.specs.declared.state.SnapState.{SnapState}
use Rattle.xdb_key.specs.declared.state.SnapState.TheVariants as state
use Rattle.xdb_plain.specs.Counts.{dead, is_among}
use Rattle.xdb_plain.specs.Edits.{is_empty, running_hulls, crossed}
use Rattle.xdb_plain.specs.Fences.{fence, fence_of, fence_met, fence_touched, first_overlap}
use Rattle.xdb_plain.specs.Possible.{bare, bare_replies, is_reply_of}
use Rattle.xdb_plain.specs.Replies.{may_reply, same_reply, or_reply, put_replies, build_replies, work_replies, load_open_replies, load_kept_replies, install_replies, install_work_replies, drop_replies, status_replies, state_reply, excised_or, through_replies, at_replies, on_cursor_replies, busy_on, busy_reply, overlap_reply, room_replies, new_ask_replies, ask_replies, settle_replies, reap_replies, shown, is_flush, plan_now, lacks_numbers, lacks_files, is_being_opened, same_by, most_halves}
use Rattle.xdb_plain.specs.Snapshots.{state_by, are_rising}
use Rattle.xdb_plain.specs.State.{Plain, Snapshot, Cursor, Load, Phase, being_opened, waiting, is_in, OpenQuestion, Job, JobKind, flush_of, compaction_of, open_loads, groups, found_snap, found_cursor, found_load, found_question, found_job}
use Rattle.xdb_plain.specs.Steps.{MayStand}
use Rattle.xdb_plain.specs.Tables.{TableOps}
use Rattle.xdb_plain.specs.declared.act.Act.{Act}
use Rattle.xdb_plain.specs.declared.act.Act.TheVariants as act
use Rattle.xdb_plain.specs.declared.act.By.{By}
use Rattle.xdb_plain.specs.declared.act.ShowWhat.{ShowWhat}
use Rattle.xdb_plain.specs.declared.act.ShowWhat.TheVariants as show
use Rattle.xdb_plain.specs.declared.act.StatusForm.{StatusForm}
use Rattle.xdb_plain.specs.declared.answer.Answer.TheVariants.{Absent}
use Rattle.xdb_plain.specs.declared.note.Note.{Note}
use Rattle.xdb_plain.specs.declared.question.Question.{Question}
use Rattle.xdb_plain.specs.declared.question.Question.TheVariants.{Get, Scan, RScan, Move}
use Rattle.xdb_plain.specs.declared.reply.Reply.{Reply}
use Rattle.xdb_plain.specs.declared.reply.Reply.TheVariants.{Done, Installed, Opened, Opening, Dropped, Shut, CursorOn, Answered, Asked, Group, Job as Started, Took, FileOnly, Pinned, Excised, Fenced, Waits, Cancelled, Busy, Overlap, Nothing, NoSuch, Outside, NameInUse, TooMany, BadRanges, Spent, NotYet, Fault, Stuck, Memory, Damaged, Levels, Counts, Snaps}

-- ---- replies of one kind are bare the same

same-bare : (x y : Reply) → same_reply x y ≡ true → bare x ≡ bare y
same-bare Done Done e = refl
same-bare Installed Installed e = refl
same-bare Opened Opened e = refl
same-bare Opening Opening e = refl
same-bare Dropped Dropped e = refl
same-bare Shut Shut e = refl
same-bare CursorOn CursorOn e = refl
same-bare (Answered a) (Answered b) e = refl
same-bare (Asked a) (Asked b) e = refl
same-bare (Group a) (Group b) e = refl
same-bare (Started a) (Started b) e = refl
same-bare (Took a) (Took b) e = refl
same-bare FileOnly FileOnly e = refl
same-bare (Pinned a) (Pinned b) e = refl
same-bare (Excised a) (Excised b) e = refl
same-bare (Fenced a) (Fenced b) e = refl
same-bare (Waits a) (Waits b) e = refl
same-bare (Cancelled a) (Cancelled b) e = refl
same-bare (Busy a) (Busy b) e = refl
same-bare (Overlap a b) (Overlap c d) e = refl
same-bare Nothing Nothing e = refl
same-bare NoSuch NoSuch e = refl
same-bare Outside Outside e = refl
same-bare NameInUse NameInUse e = refl
same-bare TooMany TooMany e = refl
same-bare BadRanges BadRanges e = refl
same-bare Spent Spent e = refl
same-bare NotYet NotYet e = refl
same-bare Fault Fault e = refl
same-bare Stuck Stuck e = refl
same-bare Memory Memory e = refl
same-bare (Damaged a b) (Damaged c d) e = refl
same-bare (Levels a) (Levels b) e = refl
same-bare (Counts a) (Counts b) e = refl
same-bare (Snaps a) (Snaps b) e = refl
same-bare _ _ e = absurd (false≢true e)

-- ---- lists of replies

abbrev Of : Act → List Reply → Type 0
Of a xs = AllByRecursion (λ r. is_reply_of a r ≡ true) xs

module _ (a : Act) where
  either : (t : Bool) (xs ys : List Reply) → Of a xs → Of a ys → Of a (cond t xs ys)
  either true xs ys h k = h
  either false xs ys h k = k

  with-or : {X : Type 0} (f : X → Reply) (o : Option X) (others : List Reply) → ((x : X) → is_reply_of a (f x) ≡ true) → Of a others → Of a (or_reply f o others)
  with-or f None others h k = k
  with-or f (Some x) others h k = (h x, tt)

  through : (is_inside : Bounds → Bool) (o : Option Snapshot) (others : List Reply) → is_reply_of a NoSuch ≡ true → is_reply_of a Outside ≡ true → ((load : List ℕ) → is_reply_of a (Excised load) ≡ true) → Of a others → Of a (through_replies is_inside o others)
  through is_inside None others none out gone h = (none, tt)
  through is_inside (Some s) others none out gone h = either (list_any is_inside s.ranges) (excised_or s.state others) (Outside ∷ []) (by-state s.state) (out, tt)
    where
      by-state : (s : SnapState) → Of a (excised_or s others)
      by-state (state.Pinned group) = h
      by-state state.FileOnly = h
      by-state (state.Excised load) = (gone load, tt)

  at-snap : (p : Plain) (is_inside : Bounds → Bool) (at : Option (List ℕ)) (others : List Reply) → is_reply_of a NoSuch ≡ true → is_reply_of a Outside ≡ true → ((load : List ℕ) → is_reply_of a (Excised load) ≡ true) → Of a others → Of a (at_replies p is_inside at others)
  at-snap p is_inside None others none out gone h = h
  at-snap p is_inside (Some name) others none out gone h = through is_inside (found_snap name p.snaps) others none out gone h

  on-cursor : (p : Plain) (o : Option Cursor) (others : List Reply) → is_reply_of a NoSuch ≡ true → ((ask : ℕ) → is_reply_of a (Busy ask) ≡ true) → Of a others → Of a (on_cursor_replies p o others)
  on-cursor p None others none busy h = (none, tt)
  on-cursor p (Some c) others none busy h = with-or busy_reply (busy_on c.name p.questions) others (λ q. busy q.ask) h

  more-of : (xs ys : List Reply) → Of a xs → Of a ys → Of a (xs ++ ys)
  more-of [] ys h k = k
  more-of (x ∷ xs) ys h k = (h.0, more-of xs ys h.1 k)

-- ---- act by act

put-kind : (job num first : ℕ) (kind : JobKind) → Of (act.Put job) (put_replies (Some (record { num = num; first = first; kind = kind })))
put-kind job num first (flush_of group) = (refl, (refl, (refl, tt)))
put-kind job num first (compaction_of c) = (refl, with-or (act.Put job) Cancelled c.cancelled (Memory ∷ Installed ∷ []) (λ l. refl) (refl, (refl, tt)))

put-of : (job : ℕ) (o : Option Job) → Of (act.Put job) (put_replies o)
put-of job None = (refl, tt)
put-of job (Some j) = put-kind job j.num j.first j.kind

build-of : (job : ℕ) (o : Option Job) → Of (act.Build job) (build_replies o)
build-of job None = (refl, tt)
build-of job (Some j) = (refl, (refl, (refl, (refl, tt))))

work-of : (ask : ℕ) (o : Option OpenQuestion) → Of (act.Work ask) (work_replies o)
work-of ask None = (refl, tt)
work-of ask (Some q) = (refl, either (act.Work ask) q.parted (Fault ∷ Damaged 0 0 ∷ Memory ∷ []) [] (refl, (refl, (refl, tt))) tt)

open-of : (p : Plain) (load : List ℕ) (tables : List TableOps) (span : Option Bounds) (o : Option Load) → Of (act.LoadOpen load tables span) (load_open_replies p tables span o)
open-of p load tables span None =
    let a = act.LoadOpen load tables span in
    let ends = either a (is_empty tables) (Opened ∷ []) _ (refl, tt) (either a (lacks_numbers p 1 || lacks_files p (length tables)) (Spent ∷ []) (Opening ∷ []) (refl, tt) (refl, tt)) in
    let fenced = with-or a Fenced (fence_met (fence tables span) p.loads) _ (λ l. refl) ends in
    let meets = with-or a overlap_reply (first_overlap tables) _ (λ pair. refl) fenced in
    either a (is_empty tables && is_none span) (Nothing ∷ []) _ (refl, tt) (either a (leb 16 (length (open_loads p.loads))) (TooMany ∷ []) _ (refl, tt) (refl, meets))
open-of p load tables span (Some l) =
    (refl, either (act.LoadOpen load tables span) (is_being_opened l) (Opened ∷ Fault ∷ Memory ∷ []) [] (refl, (refl, (refl, tt))) tt)

kept-of : (by : By) (load : List ℕ) (o : Option Load) → Of (act.LoadKept load) (load_kept_replies by o)
kept-of by load None = (refl, tt)
kept-of by load (Some l) = either (act.LoadKept load) (is_being_opened l && same_by l.by by) (NotYet ∷ []) (NoSuch ∷ []) (refl, tt) (refl, tt)

install-work : (p : Plain) (load : List ℕ) (l : Load) → Of (act.Install load) (install_work_replies p l)
install-work p load l =
    more-of (act.Install load) _ _ (either (act.Install load) (lacks_files p (most_halves (crossed p.current.levels l.span) l.span)) (Spent ∷ []) [] (refl, tt) tt) (refl, (refl, (refl, (refl, tt))))

install-phase : (p : Plain) (load name : List ℕ) (by : By) (tables : List TableOps) (span : Option Bounds) (first : ℕ) (phase : Phase) → Of (act.Install load) (install_replies p (Some (record { name = name; by = by; tables = tables; span = span; first = first; phase = phase })))
install-phase p load name by tables span first being_opened = (refl, tt)
install-phase p load name by tables span first is_in = (refl, tt)
install-phase p load name by tables span first waiting =
    let l : Load = record { name = name; by = by; tables = tables; span = span; first = first; phase = waiting } in
    with-or (act.Install load) Waits (first_touching (fence_of l) (groups p)) (install_work_replies p l) (λ g. refl) (install-work p load l)

install-of : (p : Plain) (load : List ℕ) (o : Option Load) → Of (act.Install load) (install_replies p o)
install-of p load None = (refl, tt)
install-of p load (Some l) = install-phase p load l.name l.by l.tables l.span l.first l.phase

snap-state : (name : List ℕ) (ranges : List Bounds) (o : Option ℕ) → Of (act.Snap name ranges) (Memory ∷ state_reply (state_by o) ∷ [])
snap-state name ranges None = (refl, (refl, tt))
snap-state name ranges (Some g) = (refl, (refl, tt))

snap-of : (p : Plain) (by : By) (name : List ℕ) (ranges : List Bounds) → Of (act.Snap name ranges) (may_reply p by (act.Snap name ranges))
snap-of p by name ranges =
    let a = act.Snap name ranges in
    let room = either a (leb 64 (length p.snaps)) (TooMany ∷ []) _ (refl, tt) (snap-state name ranges (last_touching ranges p.next (groups p))) in
    either a (is_some (found_snap name p.snaps)) (NameInUse ∷ []) _ (refl, tt) (either a (not (are_rising ranges)) (BadRanges ∷ []) _ (refl, tt) room)

drop-of : (name : List ℕ) (o : Option Snapshot) → Of (act.Drop name) (drop_replies o)
drop-of name None = (refl, tt)
drop-of name (Some s) = (refl, tt)

status-state : (name : List ℕ) (form : StatusForm) (s : SnapState) → Of (act.Status name form) (state_reply s ∷ [])
status-state name form (state.Pinned group) = (refl, tt)
status-state name form state.FileOnly = (refl, tt)
status-state name form (state.Excised load) = (refl, tt)

status-of : (name : List ℕ) (form : StatusForm) (o : Option Snapshot) → Of (act.Status name form) (status_replies o)
status-of name form None = (refl, tt)
status-of name form (Some s) = status-state name form s.state

module _ (p : Plain) (ask : ℕ) (question : Question) (parted : Bool) where
  abbrev asks : Act
  asks = act.Ask ask question parted

  room-of : Of asks (room_replies p)
  room-of = either asks (leb 64 (length p.questions)) (TooMany ∷ []) (Memory ∷ Asked (p.asked + 1) ∷ []) (refl, tt) (refl, (refl, tt))

  at-of : (is_inside : Bounds → Bool) (at : Option (List ℕ)) → Of asks (at_replies p is_inside at (room_replies p))
  at-of is_inside at = at-snap asks p is_inside at (room_replies p) refl refl (λ l. refl) room-of

  new-ask : (q : Question) → Of asks (new_ask_replies p q)
  new-ask (Get key at) = at-of (λ r. holds r key) at
  new-ask (Scan range most at) = at-of (λ r. covers r range) at
  new-ask (RScan range most at) = at-of (λ r. covers r range) at
  new-ask (Move cursor step) = on-cursor asks p (found_cursor cursor p.cursors) (room_replies p) refl (λ n. refl) room-of

  ask-of : (o : Option OpenQuestion) → Of asks (ask_replies p question o)
  ask-of None = new-ask question
  ask-of (Some q) = either asks q.parted [] (Answered Absent ∷ Fault ∷ Damaged 0 0 ∷ Memory ∷ []) tt (refl, (refl, (refl, (refl, tt))))

settle-of : (ask : ℕ) (o : Option OpenQuestion) → Of (act.Settle ask) (settle_replies o)
settle-of ask None = (refl, tt)
settle-of ask (Some q) = (refl, either (act.Settle ask) q.parted (Answered Absent ∷ []) [] (refl, tt) tt)

reap-of : (ns : List ℕ) → Of act.Reap (reap_replies ns)
reap-of [] = (refl, tt)
reap-of (n ∷ ns) = (refl, tt)

show-of : (p : Plain) (what : ShowWhat) → Of (act.Show what) (Memory ∷ shown p what ∷ [])
show-of p show.Levels = (refl, (refl, tt))
show-of p show.Counts = (refl, (refl, tt))
show-of p show.Snaps = (refl, (refl, tt))

all-of : (p : Plain) (by : By) (a : Act) → Of a (may_reply p by a)
all-of p by (act.Commit form ops) =
    with-or (act.Commit form ops) Fenced (fence_touched ops p.loads) _ (λ l. refl)
    (either (act.Commit form ops) (lacks_numbers p (length ops)) (Spent ∷ []) (Memory ∷ Done ∷ []) (refl, tt) (refl, (refl, tt)))
all-of p by act.Seal = either act.Seal (is_empty p.active.ops) (Nothing ∷ []) (Group p.active.num ∷ []) (refl, tt) (refl, tt)
all-of p by act.FlushTake =
    either act.FlushTake (is_empty p.sealed || list_any (λ j. is_flush j.kind) p.jobs) (Nothing ∷ []) _ (refl, tt)
    (either act.FlushTake (lacks_files p 1) (Spent ∷ []) (Memory ∷ Started (p.started + 1) ∷ []) (refl, tt) (refl, (refl, tt)))
all-of p by (act.CompactTake which) =
    let a = act.CompactTake which in (
      refl,
      either a (leb 4 (length (running_hulls p.jobs)) || is_none (plan_now p which)) (Nothing ∷ []) _ (refl, tt)
          (either a (lacks_files p 64) (Spent ∷ []) (Started (p.started + 1) ∷ []) (refl, tt) (refl, tt)),
    )
all-of p by (act.Put job) = put-of job (found_job job p.jobs)
all-of p by (act.Build job) = build-of job (found_job job p.jobs)
all-of p by (act.Work ask) = work-of ask (found_question ask p.questions)
all-of p by (act.LoadOpen load tables span) = open-of p load tables span (found_load load p.loads)
all-of p by (act.LoadKept load) = kept-of by load (found_load load p.loads)
all-of p by (act.Install load) = install-of p load (found_load load p.loads)
all-of p by (act.Snap name ranges) = snap-of p by name ranges
all-of p by (act.Drop name) = drop-of name (found_snap name p.snaps)
all-of p by (act.Status name form) = status-of name form (found_snap name p.snaps)
all-of p by (act.Cursor name range at) =
    let a = act.Cursor name range at in
    let room = either a (leb 64 (length p.cursors)) (TooMany ∷ []) (Memory ∷ CursorOn ∷ []) (refl, tt) (refl, (refl, tt)) in
    either a (is_some (found_cursor name p.cursors)) (NameInUse ∷ []) _ (refl, tt) (at-snap a p (λ r. covers r range) at _ refl refl (λ l. refl) room)
all-of p by (act.Shut name) = on-cursor (act.Shut name) p (found_cursor name p.cursors) (Shut ∷ []) refl (λ n. refl) (refl, tt)
all-of p by (act.Ask ask question parted) = ask-of p ask question parted (found_question ask p.questions)
all-of p by (act.Settle ask) = settle-of ask (found_question ask p.questions)
all-of p by act.Reap = reap-of (dead p)
all-of p by (act.Remove num) = either (act.Remove num) (is_among num p.taken) (Stuck ∷ Memory ∷ []) [] (refl, (refl, tt)) tt
all-of p by (act.Show what) = show-of p what

-- ---- what may stand

one-of : (a : Act) (r : Reply) (xs : List Reply) → list_any (same_reply r) xs ≡ true → Of a xs → is_reply_of a r ≡ true
one-of a r [] e all = absurd (false≢true e)
one-of a r (x ∷ xs) e all = elim (or_cases (same_reply r x) (list_any (same_reply r) xs) e) [
  | inl same ↦ ap (λ b. list_any (same_reply b) (bare_replies a)) (same-bare r x same) ∙ all.0
  | inr later ↦ one-of a r xs later all.1
]

pub reply-of : (p : Plain) (note : Note) → MayStand p note → is_reply_of note.act note.reply ≡ true
reply-of p note may = one-of note.act note.reply (may_reply p note.by note.act) may.reply (all-of p note.by note.act)
