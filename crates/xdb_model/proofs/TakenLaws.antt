-- No number is taken twice.
use Rattle.std.proofs.Common.{◌≡◌, ℕ, Bool, true, false, cond, not, eqb, ◌&&◌, List, [], ◌∷◌, ◌++◌, filter, refl, sym, subst}
use Rattle.std.proofs.lemmas.Bool.{false≢true, and_parts, or_parts, or_from, not-true, eqb-false, ne_eqb}
use Rattle.xdb_plain.specs.Changes.{after, taken_after}
use Rattle.xdb_plain.specs.Counts.{is_dead, is_among, is_owned, count}
use Rattle.xdb_plain.specs.Legal.{Legal, after_all}
use Rattle.xdb_plain.specs.Possible.{is_reply_of}
use Rattle.xdb_plain.proofs.PossibleLaws.{reply-of}
use Rattle.xdb_plain.specs.State.{Plain, opening}
use Rattle.xdb_plain.specs.Steps.{MayStand}
use Rattle.xdb_plain.specs.declared.act.Act.{Act}
use Rattle.xdb_plain.specs.declared.act.Act.TheVariants as act
use Rattle.xdb_plain.specs.declared.act.ShowWhat.TheVariants as show
use Rattle.xdb_plain.specs.declared.note.Note.{Note}
use Rattle.xdb_plain.specs.declared.reply.Reply.{Reply}
use Rattle.xdb_plain.specs.declared.reply.Reply.TheVariants as reply
use Rattle.xdb_model.proofs.LegalLaws.{over-legal}
use Rattle.xdb_model.proofs.CauseLaws.{took}
use Rattle.xdb_model.specs.Numbered.{AreDistinct}

-- ---- only `reap` takes a number

reaps : (a : Act) (n : ℕ) → is_reply_of a (reply.Took n) ≡ true → a ≡ act.Reap
reaps act.Reap n e = refl
reaps (act.Show show.Levels) n e = absurd (false≢true e)
reaps (act.Show show.Counts) n e = absurd (false≢true e)
reaps (act.Show show.Snaps) n e = absurd (false≢true e)
reaps _ n e = absurd (false≢true e)

pub only-reap : (p : Plain) (note : Note) (n : ℕ) → MayStand p note → note.reply ≡ reply.Took n → note.act ≡ act.Reap
only-reap p note n may is = reaps note.act n (subst (λ r. is_reply_of note.act r ≡ true) is (reply-of p note may))

-- ---- distinct numbers

first-is : {a b : ℕ} {xs ys : List ℕ} → a ∷ xs ≡ b ∷ ys → a ≡ b
first-is e = cc

first-kept : (test : ℕ → Bool) (x : ℕ) (xs : List ℕ) (n : ℕ) (others : List ℕ) (t : Bool) → test x ≡ t → cond t (x ∷ filter test xs) (filter test xs) ≡ n ∷ others → (filter test xs ≡ n ∷ others → test n ≡ true) → test n ≡ true
first-kept test x xs n others true is e more = subst (λ y. test y ≡ true) (first-is e) is
first-kept test x xs n others false is e more = more e

pub first-passes : (test : ℕ → Bool) (xs : List ℕ) (n : ℕ) (others : List ℕ) → filter test xs ≡ n ∷ others → test n ≡ true
first-passes test [] n others e = absurd (cc)
first-passes test (x ∷ xs) n others e = first-kept test x xs n others (test x) refl e (first-passes test xs n others)

among-push : (m n : ℕ) (ns : List ℕ) → is_among m ns ≡ false → eqb n m ≡ false → is_among m (ns ++ n ∷ []) ≡ false
among-push m n [] h other = or_from (eqb n m) false other refl
among-push m n (x ∷ ns) h other =
    let parts = or_parts (eqb x m) (is_among m ns) h in
    or_from (eqb x m) (is_among m (ns ++ n ∷ [])) parts.0 (among-push m n ns parts.1 other)

distinct-push : (ns : List ℕ) (n : ℕ) → AreDistinct ns → is_among n ns ≡ false → AreDistinct (ns ++ n ∷ [])
distinct-push [] n h new = (refl, tt)
distinct-push (m ∷ ns) n h new =
    let parts = or_parts (eqb m n) (is_among n ns) new in
    (among-push m n ns h.0 (ne_eqb n m (λ e. eqb-false m n parts.0 (sym e))), distinct-push ns n h.1 parts.1)

pub not-taken : (p : Plain) (n : ℕ) → is_dead p n ≡ true → is_among n p.taken ≡ false
not-taken p n e = not-true (is_among n p.taken) (and_parts (eqb (count p n) 0 && not (is_owned p n)) (not (is_among n p.taken)) e).1

taken-by : (p : Plain) (note : Note) (r : Reply) → note.reply ≡ r → MayStand p note → AreDistinct p.taken → AreDistinct (taken_after p.taken r)
taken-by p note (reply.Took n) is may h =
    let reaps = only-reap p note n may is in
    let first = took p note n may reaps is in
    distinct-push p.taken n h (not-taken p n (first-passes (is_dead p) p.known n first.0 first.1))
taken-by p note _ is may h = h

taken-step : (p : Plain) (note : Note) → MayStand p note → AreDistinct p.taken → AreDistinct (after p note).taken
taken-step p note may h = taken-by p note note.reply refl may h

pub taken-once : (first_seq first_file : ℕ) (notes : List Note) → Legal (opening first_seq first_file) notes → AreDistinct (after_all (opening first_seq first_file) notes).taken
taken-once first_seq first_file notes legal = over-legal (λ p. AreDistinct p.taken) taken-step (opening first_seq first_file) notes legal tt
