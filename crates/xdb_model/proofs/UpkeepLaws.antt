-- Flushes and compactions begin where they are due.
use Rattle.std.proofs.Common.{◌≡◌, ℕ, ◌+◌, Bool, true, false, cond, not, leb, ltb, ◌&&◌, ◌||◌, List, [], ◌∷◌, length, Option, Some, None, is_some, is_none, refl, sym, ap, subst, ◌∙◌, inl, inr, IsTrue}
use Rattle.std.proofs.lemmas.Bool.{false≢true, cases_Bool, leb-true, leb-false, lt-ltb, le-ltb}
use Rattle.std.specs.List.{list_any}
use Rattle.xdb_key.specs.Groups.{Group}
use Rattle.xdb_edit.specs.Plans.{Planned, pick}
use Rattle.xdb_edit.specs.Versions.{LevelLists}
use Rattle.xdb_plain.specs.Edits.{is_empty, running_hulls}
use Rattle.xdb_plain.specs.Replies.{same_reply, is_flush, lacks_files, plan_now}
use Rattle.xdb_plain.specs.State.{Plain, Job}
use Rattle.xdb_plain.specs.Steps.{MayStand}
use Rattle.xdb_plain.specs.Upkeep.{flush_due, compact_due}
use Rattle.xdb_plain.specs.Workers.{IsQuiet}
use Rattle.xdb_plain.specs.declared.act.Act.TheVariants as act
use Rattle.xdb_plain.specs.declared.act.Which.TheVariants.{Auto}
use Rattle.xdb_plain.specs.declared.note.Note.{Note}
use Rattle.xdb_plain.specs.declared.reply.Reply.{Reply}
use Rattle.xdb_plain.specs.declared.reply.Reply.TheVariants as reply
use Rattle.xdb_model.proofs.CauseLaws.{replies, same-number}
use Rattle.xdb_model.specs.Upkeep.{IsFlushReply, IsCompactReply}

-- ---- flushes

flush-by : (none running lacking : Bool) (next : ℕ) (r : Reply) → list_any (same_reply r) (cond (none || running) (reply.Nothing ∷ []) (cond lacking (reply.Spent ∷ []) (reply.Memory ∷ reply.Job next ∷ []))) ≡ true → IsFlushReply (not none && not running) lacking next r
flush-by true running lacking next reply.Nothing e = refl
flush-by true running lacking next _ e = absurd (false≢true e)
flush-by false true lacking next reply.Nothing e = refl
flush-by false true lacking next _ e = absurd (false≢true e)
flush-by false false true next reply.Spent e = (refl, refl)
flush-by false false true next _ e = absurd (false≢true e)
flush-by false false false next reply.Memory e = (refl, refl)
flush-by false false false next (reply.Job job) e = (refl, refl, same-number job next e)
flush-by false false false next _ e = absurd (false≢true e)

pub flush-replies : (p : Plain) (note : Note) → MayStand p note → note.act ≡ act.FlushTake → IsFlushReply (flush_due p) (lacks_files p 1) (p.started + 1) note.reply
flush-replies p note may is =
    flush-by (is_empty p.sealed) (list_any (λ j. is_flush j.kind) p.jobs) (lacks_files p 1) (p.started + 1) note.reply (replies p note act.FlushTake note.reply may is refl)

pub flush-begins : (p : Plain) (note : Note) (job : ℕ) → MayStand p note → note.act ≡ act.FlushTake → note.reply ≡ reply.Job job → flush_due p ≡ true
flush-begins p note job may is said = (subst (IsFlushReply (flush_due p) (lacks_files p 1) (p.started + 1)) said (flush-replies p note may is)).0

pub flush-nothing : (p : Plain) (note : Note) → MayStand p note → note.act ≡ act.FlushTake → note.reply ≡ reply.Nothing → flush_due p ≡ false
flush-nothing p note may is said = subst (IsFlushReply (flush_due p) (lacks_files p 1) (p.started + 1)) said (flush-replies p note may is)

-- ---- compactions

few-many : (n : ℕ) → ltb n 4 ≡ not (leb 4 n)
few-many n = elim (cases_Bool (leb 4 n)) [
  | inl many ↦ le-ltb n 4 (leb-true 4 n many) ∙ sym (ap not many)
  | inr few ↦ lt-ltb n 4 (leb-false 4 n few) ∙ sym (ap not few)
]

compact-by : (many : Bool) (plan : Option Planned) (lacking : Bool) (next : ℕ) (r : Reply) → list_any (same_reply r) (reply.Memory ∷ cond (many || is_none plan) (reply.Nothing ∷ []) (cond lacking (reply.Spent ∷ []) (reply.Job next ∷ []))) ≡ true → IsCompactReply (not many && is_some plan) lacking next r
compact-by true plan lacking next reply.Memory e = tt
compact-by true plan lacking next reply.Nothing e = refl
compact-by true plan lacking next _ e = absurd (false≢true e)
compact-by false None lacking next reply.Memory e = tt
compact-by false None lacking next reply.Nothing e = refl
compact-by false None lacking next _ e = absurd (false≢true e)
compact-by false (Some plan) true next reply.Memory e = tt
compact-by false (Some plan) true next reply.Spent e = (refl, refl)
compact-by false (Some plan) true next _ e = absurd (false≢true e)
compact-by false (Some plan) false next reply.Memory e = tt
compact-by false (Some plan) false next (reply.Job job) e = (refl, refl, same-number job next e)
compact-by false (Some plan) false next _ e = absurd (false≢true e)

pub compact-replies : (p : Plain) (note : Note) → MayStand p note → note.act ≡ act.CompactTake Auto → IsCompactReply (compact_due p) (lacks_files p 64) (p.started + 1) note.reply
compact-replies p note may is =
    subst (λ (few : Bool). IsCompactReply (few && is_some (plan_now p Auto)) (lacks_files p 64) (p.started + 1) note.reply) (sym (few-many (length (running_hulls p.jobs))))
    (compact-by (leb 4 (length (running_hulls p.jobs))) (plan_now p Auto) (lacks_files p 64) (p.started + 1) note.reply (replies p note (act.CompactTake Auto) note.reply may is refl))

pub compact-begins : (p : Plain) (note : Note) (job : ℕ) → MayStand p note → note.act ≡ act.CompactTake Auto → note.reply ≡ reply.Job job → compact_due p ≡ true
compact-begins p note job may is said = (subst (IsCompactReply (compact_due p) (lacks_files p 64) (p.started + 1)) said (compact-replies p note may is)).0

pub compact-nothing : (p : Plain) (note : Note) → MayStand p note → note.act ≡ act.CompactTake Auto → note.reply ≡ reply.Nothing → compact_due p ≡ false
compact-nothing p note may is said = subst (IsCompactReply (compact_due p) (lacks_files p 64) (p.started + 1)) said (compact-replies p note may is)

-- ---- nothing is due

none-sealed : (sealed : List Group) (jobs : List Job) → jobs ≡ [] → (not (is_empty sealed) && not (list_any (λ j. is_flush j.kind) jobs)) ≡ false → sealed ≡ []
none-sealed [] jobs none e = refl
none-sealed (g ∷ gs) jobs none e = absurd (false≢true (sym e ∙ ap (λ (js : List Job). not (list_any (λ j. is_flush j.kind) js)) none))

no-plan : (plan : Option Planned) → is_some plan ≡ false → plan ≡ None
no-plan None e = refl
no-plan (Some plan) e = absurd (false≢true (sym e))

abbrev due-beside : LevelLists → List Job → Bool
due-beside levels jobs = ltb (length (running_hulls jobs)) 4 && is_some (pick levels (running_hulls jobs))

pub quiet-where : (p : Plain) → p.jobs ≡ [] → IsTrue (ltb (length p.active.ops) 256) → flush_due p ≡ false → compact_due p ≡ false → IsQuiet p
quiet-where p none few flush compact = record {
  jobs = none;
  sealed = none-sealed p.sealed p.jobs none flush;
  active = few;
  plan = no-plan (pick p.current.levels []) (sym (ap (due-beside p.current.levels) none) ∙ compact);
}

pub quiet-tells : (p : Plain) → IsQuiet p → (flush_due p ≡ false) × (compact_due p ≡ false)
quiet-tells p quiet = (
  ap (λ (gs : List Group). not (is_empty gs) && not (list_any (λ j. is_flush j.kind) p.jobs)) quiet.sealed,
  ap (due-beside p.current.levels) quiet.jobs ∙ ap is_some quiet.plan,
)
