-- A snapshot that is excised was pinned when a load was installed whose span meets one of its ranges.
use Rattle.std.proofs.Common.{◌≡◌, ℕ, Bool, true, false, cond, not, ◌&&◌, List, [], ◌∷◌, ◌++◌, map, Option, Some, None, append_assoc, append-nil, refl, sym, ap, subst, ◌∙◌, inl, inr}
use Rattle.std.proofs.lemmas.Bool.{false≢true, and_parts}
use Rattle.std.specs.List.{list_any, AllByRecursion}
use Rattle.xdb_key.specs.Bounds.{Bounds}
use Rattle.xdb_key.specs.Groups.{Group, first_touching, last_touching}
use Rattle.xdb_key.specs.declared.state.SnapState.{SnapState}
use Rattle.xdb_key.specs.declared.state.SnapState.TheVariants as state
use Rattle.xdb_rangedel.specs.Members.{Has}
use Rattle.xdb_plain.specs.Changes.{snaps_after, span_of_load, new_snap}
use Rattle.xdb_plain.specs.Fences.{any_meet, span_list, fence_of}
use Rattle.xdb_plain.specs.Legal.{Legal, after_all}
use Rattle.xdb_plain.specs.Outcomes.{Outcome, succeeds, fails, stays, outcome, groups_after, is_put_of_flush}
use Rattle.xdb_plain.specs.Replies.{same_reply, install_replies, install_work_replies, or_reply, lacks_files, most_halves}
use Rattle.xdb_plain.specs.Edits.{crossed}
use Rattle.xdb_plain.specs.Snapshots.{is_pinned, state_by, turns, turned, excised}
use Rattle.xdb_plain.specs.State.{Plain, Snapshot, Load, Phase, being_opened, waiting, is_in, opening, groups, same_name, found_load, without_snap}
use Rattle.xdb_plain.specs.Steps.{MayStand}
use Rattle.xdb_plain.specs.Tables.{TableOps}
use Rattle.xdb_plain.specs.declared.act.Act.{Act}
use Rattle.xdb_plain.specs.declared.act.Act.TheVariants as act
use Rattle.xdb_plain.specs.declared.act.By.{By}
use Rattle.xdb_plain.specs.declared.note.Note.{Note}
use Rattle.xdb_plain.specs.declared.reply.Reply.{Reply}
use Rattle.xdb_plain.specs.declared.reply.Reply.TheVariants as reply
use Rattle.xdb_plain.proofs.HistoryLaws.{after_all-push}
use Rattle.xdb_model.proofs.CauseLaws.{replies, load_of}
use Rattle.xdb_model.specs.Refusals.{drops, Keeps, IsExplained, Explained}

-- ---- an install that succeeds was installed

unlike : {A : Type 0} (o : Outcome) → fails ≡ succeeds → A
unlike o e = absurd (cc)

not-there : {A : Type 0} → false ≡ true → A
not-there e = absurd (false≢true e)

stays-not : {A : Type 0} → stays ≡ succeeds → A
stays-not e = absurd (cc)

installed-work : (t : Bool) (r : Reply) → list_any (same_reply r) (cond t (reply.Spent ∷ []) [] ++ reply.Memory ∷ reply.Fault ∷ reply.Damaged 0 0 ∷ reply.Installed ∷ []) ≡ true → outcome r ≡ succeeds → r ≡ reply.Installed
installed-work t reply.Installed e o = refl
installed-work t reply.Memory e o = unlike stays o
installed-work t reply.Fault e o = unlike stays o
installed-work t (reply.Damaged a b) e o = unlike stays o
installed-work true reply.Spent e o = stays-not o
installed-work true _ e o = not-there e
installed-work false _ e o = not-there e

installed-alone : (r : Reply) → list_any (same_reply r) (reply.NoSuch ∷ []) ≡ true → outcome r ≡ succeeds → r ≡ reply.Installed
installed-alone reply.NoSuch e o = stays-not o
installed-alone _ e o = not-there e

installed-early : (r : Reply) → list_any (same_reply r) (reply.NotYet ∷ []) ≡ true → outcome r ≡ succeeds → r ≡ reply.Installed
installed-early reply.NotYet e o = stays-not o
installed-early _ e o = not-there e

installed-wait : (g : ℕ) (r : Reply) → list_any (same_reply r) (reply.Waits g ∷ []) ≡ true → outcome r ≡ succeeds → r ≡ reply.Installed
installed-wait g (reply.Waits n) e o = stays-not o
installed-wait g _ e o = not-there e

installed-late : (p : Plain) (l : Load) (w : Option ℕ) (r : Reply) → list_any (same_reply r) (or_reply reply.Waits w (install_work_replies p l)) ≡ true → outcome r ≡ succeeds → r ≡ reply.Installed
installed-late p l None r e o = installed-work (lacks_files p (most_halves (crossed p.current.levels l.span) l.span)) r e o
installed-late p l (Some g) r e o = installed-wait g r e o

installed-in : (p : Plain) (name : List ℕ) (by : By) (tables : List TableOps) (span : Option Bounds) (first : ℕ) (phase : Phase) (r : Reply) → list_any (same_reply r) (install_replies p (Some (load_of name by tables span first phase))) ≡ true → outcome r ≡ succeeds → r ≡ reply.Installed
installed-in p name by tables span first being_opened r e o = installed-early r e o
installed-in p name by tables span first is_in r e o = installed-alone r e o
installed-in p name by tables span first waiting r e o =
    let l = load_of name by tables span first waiting in
    installed-late p l (first_touching (fence_of l) (groups p)) r e o

installed-at : (p : Plain) (l : Option Load) (r : Reply) → list_any (same_reply r) (install_replies p l) ≡ true → outcome r ≡ succeeds → r ≡ reply.Installed
installed-at p None r e o = installed-alone r e o
installed-at p (Some l) r e o = installed-in p l.name l.by l.tables l.span l.first l.phase r e o

was-installed : (p : Plain) (note : Note) (load : List ℕ) → MayStand p note → note.act ≡ act.Install load → outcome note.reply ≡ succeeds → note.reply ≡ reply.Installed
was-installed p note load may is o = installed-at p (found_load load p.loads) note.reply (replies p note (act.Install load) note.reply may is refl) o

-- ---- an explanation goes on

all-push : {X : Type 0} (P : X → Type 0) (xs : List X) (x : X) → AllByRecursion P xs → P x → AllByRecursion P (xs ++ x ∷ [])
all-push P [] x h is = (is, tt)
all-push P (y ∷ ys) x h is = (h.0, all-push P ys x h.1 is)

longer : (p : Plain) (notes : List Note) (note : Note) (name : List ℕ) (ranges : List Bounds) (mark : ℕ) (s : SnapState) → Keeps name note → IsExplained p notes name ranges mark s → IsExplained p (notes ++ note ∷ []) name ranges mark s
longer p notes note name ranges mark (state.Pinned group) keeps is = tt
longer p notes note name ranges mark state.FileOnly keeps is = tt
longer p notes note name ranges mark (state.Excised load) keeps is = record {
  before = is.before;
  install = is.install;
  behind = is.behind ++ note ∷ [];
  split = ap (λ ns. ns ++ note ∷ []) is.split ∙ append_assoc is.before (is.install ∷ is.behind) (note ∷ []);
  was_pinned = is.was_pinned;
  same_act = is.same_act;
  installed = is.installed;
  meets = is.meets;
  kept = all-push (Keeps name) is.behind note is.kept keeps;
}

all-longer : (p : Plain) (notes : List Note) (note : Note) (snaps : List Snapshot) → ((s : Snapshot) → Keeps s.name note) → AllByRecursion (Explained p notes) snaps → AllByRecursion (Explained p (notes ++ note ∷ [])) snaps
all-longer p notes note [] keeps h = tt
all-longer p notes note (s ∷ snaps) keeps h =
    (longer p notes note s.name s.ranges s.mark s.state (keeps s) h.0, all-longer p notes note snaps keeps h.1)

-- a snapshot at its making is never excised
new-explained : (p : Plain) (notes : List Note) (name : List ℕ) (ranges : List Bounds) (mark : ℕ) (o : Option ℕ) → IsExplained p notes name ranges mark (state_by o)
new-explained p notes name ranges mark None = tt
new-explained p notes name ranges mark (Some group) = tt

-- ---- dropping

drop-kept : (p : Plain) (notes : List Note) (note : Note) (name : List ℕ) (s : Snapshot) (rest : List Snapshot) (t : Bool) → same_name s.name name ≡ t → (same_name s.name name ≡ false → Keeps s.name note) → Explained p notes s → AllByRecursion (Explained p (notes ++ note ∷ [])) rest → AllByRecursion (Explained p (notes ++ note ∷ [])) (cond (not t) (s ∷ rest) rest)
drop-kept p notes note name s rest true is keeps h others = others
drop-kept p notes note name s rest false is keeps h others = (longer p notes note s.name s.ranges s.mark s.state (keeps is) h, others)

drop-all : (p : Plain) (notes : List Note) (note : Note) (name : List ℕ) (snaps : List Snapshot) → ((s : Snapshot) → same_name s.name name ≡ false → Keeps s.name note) → AllByRecursion (Explained p notes) snaps → AllByRecursion (Explained p (notes ++ note ∷ [])) (without_snap name snaps)
drop-all p notes note name [] keeps h = tt
drop-all p notes note name (s ∷ snaps) keeps h =
    drop-kept p notes note name s (without_snap name snaps) (same_name s.name name) refl (keeps s) h.0 (drop-all p notes note name snaps keeps h.1)

-- ---- turning

turn-at : (p : Plain) (notes : List Note) (s : Snapshot) (t : Bool) → Explained p notes s → IsExplained p notes s.name s.ranges s.mark (cond t state.FileOnly s.state)
turn-at p notes s true h = tt
turn-at p notes s false h = h

turn-all : (p : Plain) (notes : List Note) (gs : List Group) (snaps : List Snapshot) → AllByRecursion (Explained p notes) snaps → AllByRecursion (Explained p notes) (map (turned gs) snaps)
turn-all p notes gs [] h = tt
turn-all p notes gs (s ∷ snaps) h = (turn-at p notes s (turns gs s) h.0, turn-all p notes gs snaps h.1)

put-all : (p : Plain) (notes : List Note) (gs : List Group) (snaps : List Snapshot) (t : Bool) → AllByRecursion (Explained p notes) snaps → AllByRecursion (Explained p notes) (cond t (map (turned gs) snaps) snaps)
put-all p notes gs snaps true h = turn-all p notes gs snaps h
put-all p notes gs snaps false h = h

-- ---- excising

excise-at : (p : Plain) (notes : List Note) (note : Note) (load : List ℕ) (s : Snapshot) (t : Bool) → Has (after_all p notes).snaps s → note.act ≡ act.Install load → note.reply ≡ reply.Installed → Keeps s.name note
    → (is_pinned s.state && any_meet (span_list (span_of_load (after_all p notes) load)) s.ranges) ≡ t → Explained p notes s
    → IsExplained p (notes ++ note ∷ []) s.name s.ranges s.mark (cond t (state.Excised load) s.state)
excise-at p notes note load s true has is said keeps e h =
    let both = and_parts (is_pinned s.state) (any_meet (span_list (span_of_load (after_all p notes) load)) s.ranges) e in
    record {
      before = notes;
      install = note;
      behind = [];
      split = refl;
      was_pinned = record { snap = s; open_then = has; same_name = refl; same_ranges = refl; same_mark = refl; pinned = both.0 };
      same_act = is;
      installed = said;
      meets = both.1;
      kept = tt;
    }
excise-at p notes note load s false has is said keeps e h = longer p notes note s.name s.ranges s.mark s.state keeps h

excise-all : (p : Plain) (notes : List Note) (note : Note) (load : List ℕ) (snaps : List Snapshot) → ((s : Snapshot) → Has snaps s → Has (after_all p notes).snaps s) → note.act ≡ act.Install load → note.reply ≡ reply.Installed → ((s : Snapshot) → Keeps s.name note)
    → AllByRecursion (Explained p notes) snaps → AllByRecursion (Explained p (notes ++ note ∷ [])) (map (excised load (span_of_load (after_all p notes) load)) snaps)
excise-all p notes note load [] within is said keeps h = tt
excise-all p notes note load (s ∷ snaps) within is said keeps h =
    (excise-at p notes note load s (is_pinned s.state && any_meet (span_list (span_of_load (after_all p notes) load)) s.ranges) (within s (inl refl)) is said (keeps s) refl h.0, excise-all p notes note load snaps (λ x has. within x (inr has)) is said keeps h.1)

-- ---- the step

keeps-by : (note : Note) (name : List ℕ) (a : Act) (o : Outcome) → note.act ≡ a → outcome note.reply ≡ o → drops name a o ≡ false → Keeps name note
keeps-by note name a o is said e = subst (λ (x : Act × Outcome). drops name x.0 x.1 ≡ false) (λ i. (sym is i, sym said i)) e

step-by : (p : Plain) (notes : List Note) (note : Note) (a : Act) (o : Outcome) → note.act ≡ a → outcome note.reply ≡ o → MayStand (after_all p notes) note → AllByRecursion (Explained p notes) (after_all p notes).snaps → AllByRecursion (Explained p (notes ++ note ∷ [])) (snaps_after (after_all p notes) a o)
step-by p notes note (act.Snap name ranges) succeeds is said may h =
    let q = after_all p notes in
    all-push (Explained p (notes ++ note ∷ [])) q.snaps (new_snap q name ranges) (all-longer p notes note q.snaps (λ s. keeps-by note s.name (act.Snap name ranges) succeeds is said refl) h) (new-explained p (notes ++ note ∷ []) name ranges q.next (last_touching ranges q.next (groups q)))
step-by p notes note (act.Drop name) succeeds is said may h =
    drop-all p notes note name (after_all p notes).snaps (λ s e. keeps-by note s.name (act.Drop name) succeeds is said e) h
step-by p notes note (act.Put job) succeeds is said may h =
    let q = after_all p notes in
    put-all p (notes ++ note ∷ []) (groups_after q) q.snaps (is_put_of_flush q job) (all-longer p notes note q.snaps (λ s. keeps-by note s.name (act.Put job) succeeds is said refl) h)
step-by p notes note (act.Install load) succeeds is said may h =
    let q = after_all p notes in
    excise-all p notes note load q.snaps (λ s has. has) is (was-installed q note load may is said) (λ s. keeps-by note s.name (act.Install load) succeeds is said refl) h
step-by p notes note (act.Drop name) _ is said may h = all-longer p notes note (after_all p notes).snaps (λ s. keeps-by note s.name _ _ is said refl) h
step-by p notes note _ _ is said may h = all-longer p notes note (after_all p notes).snaps (λ s. keeps-by note s.name _ _ is said refl) h

explained-all : (p : Plain) (before notes : List Note) → Legal (after_all p before) notes → AllByRecursion (Explained p before) (after_all p before).snaps → AllByRecursion (Explained p (before ++ notes)) (after_all p (before ++ notes)).snaps
explained-all p before [] legal h = subst (λ ns. AllByRecursion (Explained p ns) (after_all p ns).snaps) (sym (append-nil before)) h
explained-all p before (note ∷ notes) legal h =
    let next = step-by p before note note.act (outcome note.reply) refl refl legal.0 h in
    let here : AllByRecursion (Explained p (before ++ note ∷ [])) (after_all p (before ++ note ∷ [])).snaps = subst (λ q. AllByRecursion (Explained p (before ++ note ∷ [])) q.snaps) (sym (after_all-push p before note)) next in
    let rest = explained-all p (before ++ note ∷ []) notes (subst (λ q. Legal q notes) (sym (after_all-push p before note)) legal.1) here in
    subst (λ ns. AllByRecursion (Explained p ns) (after_all p ns).snaps) (append_assoc before (note ∷ []) notes) rest

pub explained : (first_seq first_file : ℕ) (notes : List Note) → Legal (opening first_seq first_file) notes → AllByRecursion (Explained (opening first_seq first_file) notes) (after_all (opening first_seq first_file) notes).snaps
explained first_seq first_file notes legal = explained-all (opening first_seq first_file) [] notes legal tt
