-- From a reply that may stand to the state.
use Rattle.std.proofs.Common.{◌≡◌, ℕ, Bool, true, false, cond, eqb, leb, not, ◌&&◌, ◌||◌, is_some, is_none, List, [], ◌∷◌, ◌++◌, length, Option, Some, None, refl, sym, ap, subst, inl, inr}
use Rattle.std.proofs.lemmas.Bool.{false≢true, eqb-true, or_cases}
use Rattle.xdb_rangedel.proofs.NewestLaws.{same_key-tells}
use Rattle.std.specs.List.{list_any}
use Rattle.xdb_key.specs.Bounds.{Bounds}
use Rattle.xdb_key.specs.Groups.{first_touching, last_touching}
use Rattle.xdb_key.specs.declared.op.Op.{Op}
use Rattle.xdb_plain.specs.Counts.{dead}
use Rattle.xdb_plain.specs.Fences.{fence, fence_of, fence_touched, fence_met, first_overlap}
use Rattle.xdb_plain.specs.Replies.{may_reply, same_reply, install_replies, install_work_replies, or_reply, put_replies, reap_replies, commit_replies, state_reply, load_open_replies, overlap_reply, is_being_opened, lacks_numbers, lacks_files, most_halves}
use Rattle.xdb_plain.specs.Edits.{crossed, is_empty}
use Rattle.xdb_plain.specs.Snapshots.{state_by, are_rising}
use Rattle.xdb_plain.specs.Tables.{TableOps}
use Rattle.xdb_plain.specs.State.{Plain, Load, Phase, being_opened, waiting, is_in, Job, JobKind, flush_of, compaction_of, Compaction, groups, found_load, found_job, found_snap, open_loads, same_name}
use Rattle.xdb_plain.specs.Steps.{MayStand, FitsEdit, HasEdit}
use Rattle.xdb_plain.specs.declared.act.Act.{Act}
use Rattle.xdb_plain.specs.declared.act.Act.TheVariants as act
use Rattle.xdb_plain.specs.declared.act.CommitForm.{CommitForm}
use Rattle.xdb_plain.specs.declared.act.By.{By}
use Rattle.xdb_plain.specs.declared.note.Note.{Note}
use Rattle.xdb_plain.specs.declared.reply.Reply.{Reply}
use Rattle.xdb_plain.specs.declared.reply.Reply.TheVariants as reply
use Rattle.xdb_model.specs.Causes.{WaitsFor, CancelledBy}

-- the guard on the reply, for an act and a reply
pub replies : (p : Plain) (note : Note) (a : Act) (r : Reply) → MayStand p note → note.act ≡ a → note.reply ≡ r → list_any (same_reply r) (may_reply p note.by a) ≡ true
replies p note a r may is said = subst (λ (x : Act × Reply). list_any (same_reply x.1) (may_reply p note.by x.0) ≡ true) (λ i. (is i, said i)) may.reply

pub edits : (p : Plain) (note : Note) (r : Reply) → MayStand p note → note.reply ≡ r → FitsEdit p note.act r note.edit
edits p note r may said = subst (λ x. FitsEdit p note.act x note.edit) said may.edit

pub no_edit : (p : Plain) (note : Note) (load : List ℕ) → MayStand p note → note.reply ≡ reply.Cancelled load → note.edit ≡ None
no_edit p note load may said = edits p note (reply.Cancelled load) may said

pub has_edit : (p : Plain) (note : Note) → MayStand p note → note.reply ≡ reply.Installed → HasEdit p note.act note.edit
has_edit p note may said = edits p note reply.Installed may said

-- ---- the least dead number

pub same-number : (a b : ℕ) → (eqb a b || false) ≡ true → a ≡ b
same-number a b e = elim (or_cases (eqb a b) false e) [ inl h ↦ eqb-true a b h | inr h ↦ absurd (false≢true h) ]

pub same-name : (a b : List ℕ) → (same_name a b || false) ≡ true → a ≡ b
same-name a b e = elim (or_cases (same_name a b) false e) [ inl h ↦ same_key-tells a b h | inr h ↦ absurd (false≢true h) ]

took_least : (ns : List ℕ) (num : ℕ) → list_any (same_reply (reply.Took num)) (reap_replies ns) ≡ true → (others : List ℕ) × (ns ≡ num ∷ others)
took_least [] num e = absurd (false≢true e)
took_least (n ∷ ns) num e = (ns, ap (λ m. m ∷ ns) (sym (same-number num n e)))

pub took : (p : Plain) (note : Note) (num : ℕ) → MayStand p note → note.act ≡ act.Reap → note.reply ≡ reply.Took num → (others : List ℕ) × (dead p ≡ num ∷ others)
took p note num may is said = took_least (dead p) num (replies p note act.Reap (reply.Took num) may is said)

-- ---- fences

not-fenced : (t : Bool) (load : List ℕ) → list_any (same_reply (reply.Fenced load)) (cond t (reply.Spent ∷ []) (reply.Memory ∷ reply.Done ∷ [])) ≡ true → ⊥
not-fenced true load e = false≢true e
not-fenced false load e = false≢true e

fence_of_reply : (p : Plain) (len : ℕ) (o : Option (List ℕ)) (load : List ℕ) → list_any (same_reply (reply.Fenced load)) (commit_replies p len o) ≡ true → o ≡ Some load
fence_of_reply p len None load e = absurd (not-fenced (lacks_numbers p len) load e)
fence_of_reply p len (Some name) load e = ap Some (sym (same-name load name e))

pub fenced : (p : Plain) (note : Note) (form : CommitForm) (ops : List Op) (load : List ℕ) → MayStand p note → note.act ≡ act.Commit form ops → note.reply ≡ reply.Fenced load → fence_touched ops p.loads ≡ Some load
fenced p note form ops load may is said = fence_of_reply p (length ops) (fence_touched ops p.loads) load (replies p note (act.Commit form ops) (reply.Fenced load) may is said)

-- ---- cancelled compactions

abbrev pub job_of : ℕ → ℕ → JobKind → Job
job_of num first kind = record { num = num; first = first; kind = kind }

abbrev pub compaction : ℕ → List (ℕ × ℕ) → Bounds → Option (List ℕ) → Compaction
compaction level inputs hull cancelled = record { level = level; inputs = inputs; hull = hull; cancelled = cancelled }

canceller_of : (num first level : ℕ) (inputs : List (ℕ × ℕ)) (hull : Bounds) (cancelled : Option (List ℕ)) (load : List ℕ) → list_any (same_reply (reply.Cancelled load)) (put_replies (Some (job_of num first (compaction_of (compaction level inputs hull cancelled))))) ≡ true → CancelledBy (Some (job_of num first (compaction_of (compaction level inputs hull cancelled)))) load
canceller_of num first level inputs hull None load e = absurd (false≢true e)
canceller_of num first level inputs hull (Some name) load e =
    record { j = job_of num first (compaction_of (compaction level inputs hull (Some name))); c = compaction level inputs hull (Some name); found = refl; kind = refl; cancelled = ap Some (sym (same-name load name e)) }

canceller_in : (num first : ℕ) (kind : JobKind) (load : List ℕ) → list_any (same_reply (reply.Cancelled load)) (put_replies (Some (job_of num first kind))) ≡ true → CancelledBy (Some (job_of num first kind)) load
canceller_in num first (flush_of group) load e = absurd (false≢true e)
canceller_in num first (compaction_of c) load e = canceller_of num first c.level c.inputs c.hull c.cancelled load e

canceller_at : (o : Option Job) (load : List ℕ) → list_any (same_reply (reply.Cancelled load)) (put_replies o) ≡ true → CancelledBy o load
canceller_at None load e = absurd (false≢true e)
canceller_at (Some j) load e = canceller_in j.num j.first j.kind load e

pub canceller : (p : Plain) (note : Note) (job : ℕ) (load : List ℕ) → MayStand p note → note.act ≡ act.Put job → note.reply ≡ reply.Cancelled load → CancelledBy (found_job job p.jobs) load
canceller p note job load may is said = canceller_at (found_job job p.jobs) load (replies p note (act.Put job) (reply.Cancelled load) may is said)

-- ---- waiting installs

no-wait : (t : Bool) (g : ℕ) → list_any (same_reply (reply.Waits g)) (cond t (reply.Spent ∷ []) [] ++ reply.Memory ∷ reply.Fault ∷ reply.Damaged 0 0 ∷ reply.Installed ∷ []) ≡ true → ⊥
no-wait true g e = false≢true e
no-wait false g e = false≢true e

wait_of : (p : Plain) (l : Load) (o : Option ℕ) (g : ℕ) → list_any (same_reply (reply.Waits g)) (or_reply reply.Waits o (install_work_replies p l)) ≡ true → o ≡ Some g
wait_of p l None g e = absurd (no-wait (lacks_files p (most_halves (crossed p.current.levels l.span) l.span)) g e)
wait_of p l (Some n) g e = ap Some (sym (same-number g n e))

abbrev pub load_of : List ℕ → By → List TableOps → Option Bounds → ℕ → Phase → Load
load_of name by tables span first phase = record { name = name; by = by; tables = tables; span = span; first = first; phase = phase }

wait_in : (p : Plain) (name : List ℕ) (by : By) (tables : List TableOps) (span : Option Bounds) (first : ℕ) (phase : Phase) (g : ℕ) → list_any (same_reply (reply.Waits g)) (install_replies p (Some (load_of name by tables span first phase))) ≡ true → WaitsFor (Some (load_of name by tables span first phase)) (groups p) g
wait_in p name by tables span first being_opened g e = absurd (false≢true e)
wait_in p name by tables span first is_in g e = absurd (false≢true e)
wait_in p name by tables span first waiting g e =
    let l = load_of name by tables span first waiting in
    record { l = l; found = refl; phase = refl; first = wait_of p l (first_touching (fence_of l) (groups p)) g e }

wait_at : (p : Plain) (o : Option Load) (g : ℕ) → list_any (same_reply (reply.Waits g)) (install_replies p o) ≡ true → WaitsFor o (groups p) g
wait_at p None g e = absurd (false≢true e)
wait_at p (Some l) g e = wait_in p l.name l.by l.tables l.span l.first l.phase g e

pub waits : (p : Plain) (note : Note) (load : List ℕ) (g : ℕ) → MayStand p note → note.act ≡ act.Install load → note.reply ≡ reply.Waits g → WaitsFor (found_load load p.loads) (groups p) g
waits p note load g may is said = wait_at p (found_load load p.loads) g (replies p note (act.Install load) (reply.Waits g) may is said)

-- ---- snapshots

pinned-by : (o : Option ℕ) (g : ℕ) → list_any (same_reply (reply.Pinned g)) (reply.Memory ∷ state_reply (state_by o) ∷ []) ≡ true → o ≡ Some g
pinned-by None g e = absurd (false≢true e)
pinned-by (Some n) g e = ap Some (sym (same-number g n e))

file_only-by : (o : Option ℕ) → list_any (same_reply reply.FileOnly) (reply.Memory ∷ state_reply (state_by o) ∷ []) ≡ true → o ≡ None
file_only-by None e = refl
file_only-by (Some n) e = absurd (false≢true e)

pinned-in : (used falling many : Bool) (o : Option ℕ) (g : ℕ) → list_any (same_reply (reply.Pinned g)) (cond used (reply.NameInUse ∷ []) (cond falling (reply.BadRanges ∷ []) (cond many (reply.TooMany ∷ []) (reply.Memory ∷ state_reply (state_by o) ∷ [])))) ≡ true → o ≡ Some g
pinned-in true falling many o g e = absurd (false≢true e)
pinned-in false true many o g e = absurd (false≢true e)
pinned-in false false true o g e = absurd (false≢true e)
pinned-in false false false o g e = pinned-by o g e

file_only-in : (used falling many : Bool) (o : Option ℕ) → list_any (same_reply reply.FileOnly) (cond used (reply.NameInUse ∷ []) (cond falling (reply.BadRanges ∷ []) (cond many (reply.TooMany ∷ []) (reply.Memory ∷ state_reply (state_by o) ∷ [])))) ≡ true → o ≡ None
file_only-in true falling many o e = absurd (false≢true e)
file_only-in false true many o e = absurd (false≢true e)
file_only-in false false true o e = absurd (false≢true e)
file_only-in false false false o e = file_only-by o e

pub pinned : (p : Plain) (note : Note) (name : List ℕ) (ranges : List Bounds) (g : ℕ) → MayStand p note → note.act ≡ act.Snap name ranges → note.reply ≡ reply.Pinned g → last_touching ranges p.next (groups p) ≡ Some g
pinned p note name ranges g may is said =
    pinned-in (is_some (found_snap name p.snaps)) (not (are_rising ranges)) (leb 64 (length p.snaps)) (last_touching ranges p.next (groups p)) g (replies p note (act.Snap name ranges) (reply.Pinned g) may is said)

pub file_only : (p : Plain) (note : Note) (name : List ℕ) (ranges : List Bounds) → MayStand p note → note.act ≡ act.Snap name ranges → note.reply ≡ reply.FileOnly → last_touching ranges p.next (groups p) ≡ None
file_only p note name ranges may is said =
    file_only-in (is_some (found_snap name p.snaps)) (not (are_rising ranges)) (leb 64 (length p.snaps)) (last_touching ranges p.next (groups p)) (replies p note (act.Snap name ranges) reply.FileOnly may is said)

-- ---- fences of loads

opening-end : (none lacking : Bool) (other : List ℕ) → list_any (same_reply (reply.Fenced other)) (cond none (reply.Opened ∷ []) (cond lacking (reply.Spent ∷ []) (reply.Opening ∷ []))) ≡ true → ⊥
opening-end true lacking other e = false≢true e
opening-end false true other e = false≢true e
opening-end false false other e = false≢true e

opening-fence : (none lacking : Bool) (met : Option (List ℕ)) (other : List ℕ) → list_any (same_reply (reply.Fenced other)) (or_reply reply.Fenced met (cond none (reply.Opened ∷ []) (cond lacking (reply.Spent ∷ []) (reply.Opening ∷ [])))) ≡ true → met ≡ Some other
opening-fence none lacking None other e = absurd (opening-end none lacking other e)
opening-fence none lacking (Some name) other e = ap Some (sym (same-name other name e))

opening-overlap : (none lacking : Bool) (pair : Option (List ℕ × List ℕ)) (met : Option (List ℕ)) (other : List ℕ) → list_any (same_reply (reply.Fenced other)) (or_reply overlap_reply pair (or_reply reply.Fenced met (cond none (reply.Opened ∷ []) (cond lacking (reply.Spent ∷ []) (reply.Opening ∷ []))))) ≡ true → met ≡ Some other
opening-overlap none lacking None met other e = opening-fence none lacking met other e
opening-overlap none lacking (Some pair) met other e = absurd (false≢true e)

opening-new : (nothing many none lacking : Bool) (pair : Option (List ℕ × List ℕ)) (met : Option (List ℕ)) (other : List ℕ) → list_any (same_reply (reply.Fenced other)) (cond nothing (reply.Nothing ∷ []) (cond many (reply.TooMany ∷ []) (reply.Memory ∷ or_reply overlap_reply pair (or_reply reply.Fenced met (cond none (reply.Opened ∷ []) (cond lacking (reply.Spent ∷ []) (reply.Opening ∷ []))))))) ≡ true → met ≡ Some other
opening-new true many none lacking pair met other e = absurd (false≢true e)
opening-new false true none lacking pair met other e = absurd (false≢true e)
opening-new false false none lacking pair met other e = opening-overlap none lacking pair met other e

opening-old : (t : Bool) (other : List ℕ) → list_any (same_reply (reply.Fenced other)) (reply.NameInUse ∷ cond t (reply.Opened ∷ reply.Fault ∷ reply.Memory ∷ []) []) ≡ true → ⊥
opening-old true other e = false≢true e
opening-old false other e = false≢true e

opening-at : (p : Plain) (tables : List TableOps) (span : Option Bounds) (o : Option Load) (other : List ℕ) → list_any (same_reply (reply.Fenced other)) (load_open_replies p tables span o) ≡ true → fence_met (fence tables span) p.loads ≡ Some other
opening-at p tables span None other e =
    opening-new (is_empty tables && is_none span) (leb 16 (length (open_loads p.loads))) (is_empty tables) (lacks_numbers p 1 || lacks_files p (length tables)) (first_overlap tables) (fence_met (fence tables span) p.loads) other e
opening-at p tables span (Some l) other e = absurd (opening-old (is_being_opened l) other e)

pub opening_fenced : (p : Plain) (note : Note) (load : List ℕ) (tables : List TableOps) (span : Option Bounds) (other : List ℕ) → MayStand p note → note.act ≡ act.LoadOpen load tables span → note.reply ≡ reply.Fenced other → fence_met (fence tables span) p.loads ≡ Some other
opening_fenced p note load tables span other may is said = opening-at p tables span (found_load load p.loads) other (replies p note (act.LoadOpen load tables span) (reply.Fenced other) may is said)
