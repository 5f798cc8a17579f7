-- Which replies a read through a snapshot gets, and where a refusal comes from.
use Rattle.std.proofs.Common.{◌≡◌, ℕ, ◌+◌, Bool, true, false, cond, leb, List, [], ◌∷◌, length, Option, Some, None, is_some, refl, sym, ap, ◌∙◌}
use Rattle.std.proofs.lemmas.Bool.{false≢true, leb-true}
use Rattle.std.specs.List.{list_any}
use Rattle.xdb_key.specs.Bounds.{Bounds, holds, covers}
use Rattle.xdb_key.specs.declared.state.SnapState.{SnapState}
use Rattle.xdb_key.specs.declared.state.SnapState.TheVariants as state
use Rattle.xdb_plain.specs.Replies.{same_reply, ask_replies, room_replies, excised_or, through_replies}
use Rattle.xdb_plain.specs.State.{Plain, Snapshot, found_snap, found_question, found_cursor}
use Rattle.xdb_plain.specs.Steps.{MayStand}
use Rattle.xdb_plain.specs.declared.act.Act.TheVariants as act
use Rattle.xdb_plain.specs.declared.note.Note.{Note}
use Rattle.xdb_plain.specs.declared.question.Question.{Question}
use Rattle.xdb_plain.specs.declared.question.Question.TheVariants.{Get, Scan, RScan, Move}
use Rattle.xdb_plain.specs.declared.reply.Reply.{Reply}
use Rattle.xdb_plain.specs.declared.reply.Reply.TheVariants as reply
use Rattle.xdb_model.proofs.CauseLaws.{replies, same-name}
use Rattle.xdb_model.specs.Refusals.{snap_of, lies_in, IsReadReply, IsCursorReply}

-- ---- reads

excised-alone : (p : Plain) (load : List ℕ) (r : Reply) → list_any (same_reply r) (reply.Excised load ∷ []) ≡ true → IsReadReply p (state.Excised load) r
excised-alone p load (reply.Excised l) e = ap state.Excised (sym (same-name l load e))
excised-alone p load _ e = absurd (false≢true e)

room-at : (p : Plain) (s : SnapState) (r : Reply) (t : Bool) → leb 64 (length p.questions) ≡ t → list_any (same_reply r) (cond t (reply.TooMany ∷ []) (reply.Memory ∷ reply.Asked (p.asked + 1) ∷ [])) ≡ true → IsReadReply p s r
room-at p s reply.TooMany true full e = leb-true 64 (length p.questions) full
room-at p s reply.Memory false full e = tt
room-at p s (reply.Asked ask) false full e = tt
room-at p s _ true full e = absurd (false≢true e)
room-at p s _ false full e = absurd (false≢true e)

read-by_state : (p : Plain) (s : SnapState) (r : Reply) → list_any (same_reply r) (excised_or s (room_replies p)) ≡ true → IsReadReply p s r
read-by_state p (state.Pinned group) r e = room-at p (state.Pinned group) r (leb 64 (length p.questions)) refl e
read-by_state p state.FileOnly r e = room-at p state.FileOnly r (leb 64 (length p.questions)) refl e
read-by_state p (state.Excised load) r e = excised-alone p load r e

read-through : (p : Plain) (is_inside : Bounds → Bool) (o : Option Snapshot) (s : Snapshot) (r : Reply) → o ≡ Some s → list_any is_inside s.ranges ≡ true → list_any (same_reply r) (through_replies is_inside o (room_replies p)) ≡ true → IsReadReply p s.state r
read-through p is_inside o s r found inside e =
    let at : list_any (same_reply r) (cond (list_any is_inside s.ranges) (excised_or s.state (room_replies p)) (reply.Outside ∷ [])) ≡ true = ap (λ x. list_any (same_reply r) (through_replies is_inside x (room_replies p))) (sym found) ∙ e in
    read-by_state p s.state r (ap (λ t. list_any (same_reply r) (cond t (excised_or s.state (room_replies p)) (reply.Outside ∷ []))) (sym inside) ∙ at)

some-is : {A : Type 0} {x y : A} → Some x ≡ Some y → x ≡ y
some-is e = cc

read-of : (p : Plain) (question : Question) (name : List ℕ) (s : Snapshot) (r : Reply) → snap_of question ≡ Some name → found_snap name p.snaps ≡ Some s → list_any (lies_in question) s.ranges ≡ true → list_any (same_reply r) (ask_replies p question None) ≡ true → IsReadReply p s.state r
read-of p (Get key (Some at)) name s r is found inside e = read-through p (λ b. holds b key) (found_snap at p.snaps) s r (ap (λ n. found_snap n p.snaps) (some-is is) ∙ found) inside e
read-of p (Scan range most (Some at)) name s r is found inside e = read-through p (λ b. covers b range) (found_snap at p.snaps) s r (ap (λ n. found_snap n p.snaps) (some-is is) ∙ found) inside e
read-of p (RScan range most (Some at)) name s r is found inside e = read-through p (λ b. covers b range) (found_snap at p.snaps) s r (ap (λ n. found_snap n p.snaps) (some-is is) ∙ found) inside e
read-of p (Get key None) name s r is found inside e = absurd (cc)
read-of p (Scan range most None) name s r is found inside e = absurd (cc)
read-of p (RScan range most None) name s r is found inside e = absurd (cc)
read-of p (Move cursor step) name s r is found inside e = absurd (cc)

pub read-reply : (p : Plain) (note : Note) (ask : ℕ) (question : Question) (parted : Bool) (name : List ℕ) (s : Snapshot) → MayStand p note → note.act ≡ act.Ask ask question parted → found_question ask p.questions ≡ None → snap_of question ≡ Some name → found_snap name p.snaps ≡ Some s → list_any (lies_in question) s.ranges ≡ true → IsReadReply p s.state note.reply
read-reply p note ask question parted name s may is new at found inside =
    let e = replies p note (act.Ask ask question parted) note.reply may is refl in
    read-of p question name s note.reply at found inside (ap (λ o. list_any (same_reply note.reply) (ask_replies p question o)) (sym new) ∙ e)

-- ---- cursors

cursor-excised : (p : Plain) (name : List ℕ) (load : List ℕ) (r : Reply) → list_any (same_reply r) (reply.Excised load ∷ []) ≡ true → IsCursorReply p name (state.Excised load) r
cursor-excised p name load (reply.Excised l) e = ap state.Excised (sym (same-name l load e))
cursor-excised p name load _ e = absurd (false≢true e)

cursor-room : (p : Plain) (name : List ℕ) (s : SnapState) (r : Reply) (t : Bool) → leb 64 (length p.cursors) ≡ t → list_any (same_reply r) (cond t (reply.TooMany ∷ []) (reply.Memory ∷ reply.CursorOn ∷ [])) ≡ true → IsCursorReply p name s r
cursor-room p name s reply.TooMany true full e = leb-true 64 (length p.cursors) full
cursor-room p name s reply.Memory false full e = tt
cursor-room p name s reply.CursorOn false full e = tt
cursor-room p name s _ true full e = absurd (false≢true e)
cursor-room p name s _ false full e = absurd (false≢true e)

abbrev pub cursor_room : Plain → List Reply
cursor_room p = cond (leb 64 (length p.cursors)) (reply.TooMany ∷ []) (reply.Memory ∷ reply.CursorOn ∷ [])

cursor-by_state : (p : Plain) (name : List ℕ) (s : SnapState) (r : Reply) → list_any (same_reply r) (excised_or s (cursor_room p)) ≡ true → IsCursorReply p name s r
cursor-by_state p name (state.Pinned group) r e = cursor-room p name (state.Pinned group) r (leb 64 (length p.cursors)) refl e
cursor-by_state p name state.FileOnly r e = cursor-room p name state.FileOnly r (leb 64 (length p.cursors)) refl e
cursor-by_state p name (state.Excised load) r e = cursor-excised p name load r e

cursor-through : (p : Plain) (name : List ℕ) (range : Bounds) (o : Option Snapshot) (s : Snapshot) (r : Reply) → o ≡ Some s → list_any (λ b. covers b range) s.ranges ≡ true → list_any (same_reply r) (through_replies (λ b. covers b range) o (cursor_room p)) ≡ true → IsCursorReply p name s.state r
cursor-through p name range o s r found inside e =
    let at : list_any (same_reply r) (cond (list_any (λ b. covers b range) s.ranges) (excised_or s.state (cursor_room p)) (reply.Outside ∷ [])) ≡ true = ap (λ x. list_any (same_reply r) (through_replies (λ b. covers b range) x (cursor_room p))) (sym found) ∙ e in
    cursor-by_state p name s.state r (ap (λ t. list_any (same_reply r) (cond t (excised_or s.state (cursor_room p)) (reply.Outside ∷ []))) (sym inside) ∙ at)

cursor-named : (p : Plain) (name : List ℕ) (s : SnapState) (r : Reply) → is_some (found_cursor name p.cursors) ≡ true → list_any (same_reply r) (reply.NameInUse ∷ []) ≡ true → IsCursorReply p name s r
cursor-named p name s reply.NameInUse used e = used
cursor-named p name s _ used e = absurd (false≢true e)

cursor-at : (p : Plain) (name : List ℕ) (range : Bounds) (at : List ℕ) (s : Snapshot) (r : Reply) (t : Bool) → is_some (found_cursor name p.cursors) ≡ t → found_snap at p.snaps ≡ Some s → list_any (λ b. covers b range) s.ranges ≡ true → list_any (same_reply r) (cond t (reply.NameInUse ∷ []) (through_replies (λ b. covers b range) (found_snap at p.snaps) (cursor_room p))) ≡ true → IsCursorReply p name s.state r
cursor-at p name range at s r true used found inside e = cursor-named p name s.state r used e
cursor-at p name range at s r false used found inside e = cursor-through p name range (found_snap at p.snaps) s r found inside e

pub cursor-reply : (p : Plain) (note : Note) (cursor : List ℕ) (range : Bounds) (name : List ℕ) (s : Snapshot) → MayStand p note → note.act ≡ act.Cursor cursor range (Some name) → found_snap name p.snaps ≡ Some s → list_any (λ r. covers r range) s.ranges ≡ true → IsCursorReply p cursor s.state note.reply
cursor-reply p note cursor range name s may is found inside =
    cursor-at p cursor range name s note.reply (is_some (found_cursor cursor p.cursors)) refl found inside (replies p note (act.Cursor cursor range (Some name)) note.reply may is refl)
