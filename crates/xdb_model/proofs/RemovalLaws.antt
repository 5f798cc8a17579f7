-- The files that were removed are those that were taken and aren't told to be left.
use Rattle.std.proofs.Common.{◌≡◌, ℕ, Bool, true, false, cond, not, eqb, ◌||◌, List, [], ◌∷◌, ◌++◌, filter, Option, Some, None, refl, sym, ap, subst, ◌∙◌, inl, inr}
use Rattle.std.proofs.lemmas.Bool.{false≢true, cases_Bool, or_cases, or_parts, or_from, or_left, or_right, not-true, eqb-true, eqb-false, eq-eqb, ne_eqb}
use Rattle.std.proofs.lemmas.List.{append-nil, append_assoc}
use Rattle.std.proofs.lemmas.List.Elements.{filter-append, filter_map-append}
use Rattle.std.proofs.lemmas.List.Folds.{list_any-append}
use Rattle.std.specs.List.{list_any, cons_option, AllByRecursion}
use Rattle.xdb_rangedel.specs.Members.{Has}
use Rattle.xdb_plain.specs.Changes.{after, taken_after}
use Rattle.xdb_plain.specs.Counts.{is_among, is_dead}
use Rattle.xdb_plain.specs.Legal.{Legal, after_all}
use Rattle.xdb_plain.specs.Removals.{took, taken_in, left_by, left_in, removed_in}
use Rattle.xdb_plain.specs.Replies.{same_reply}
use Rattle.xdb_plain.specs.State.{Plain, opening}
use Rattle.xdb_plain.specs.Steps.{MayStand}
use Rattle.xdb_plain.specs.declared.act.Act.{Act}
use Rattle.xdb_plain.specs.declared.act.Act.TheVariants as act
use Rattle.xdb_plain.specs.declared.note.Note.{Note}
use Rattle.xdb_plain.specs.declared.reply.Reply.{Reply}
use Rattle.xdb_plain.specs.declared.reply.Reply.TheVariants as reply
use Rattle.xdb_model.proofs.CauseLaws.{replies, took as least_dead}
use Rattle.xdb_model.proofs.ListLaws.{all-append, all-filtered, all-from_has, all-has}
use Rattle.xdb_model.proofs.TakenLaws.{only-reap, first-passes, not-taken, taken-once}
use Rattle.xdb_model.specs.Numbered.{AreDistinct}

-- ---- numbers among others

among-has : (n : ℕ) (ns : List ℕ) → is_among n ns ≡ true → Has ns n
among-has n [] some = absurd (false≢true some)
among-has n (m ∷ ms) some = elim (or_cases (eqb m n) (is_among n ms) some) [ inl here ↦ inl (eqb-true m n here) | inr later ↦ inr (among-has n ms later) ]

has-among : (n : ℕ) (ns : List ℕ) → Has ns n → is_among n ns ≡ true
has-among n [] has = absurd has
has-among n (m ∷ ms) (inl same) = or_left (eqb m n) (is_among n ms) (eq-eqb m n same)
has-among n (m ∷ ms) (inr behind) = or_right (eqb m n) (is_among n ms) (has-among n ms behind)

eqb-turned : (m n : ℕ) → eqb m n ≡ eqb n m
eqb-turned m n = elim (cases_Bool (eqb n m)) [
  | inl same ↦ eq-eqb m n (sym (eqb-true n m same)) ∙ sym same
  | inr other ↦ ne_eqb m n (λ e. eqb-false n m other (sym e)) ∙ sym other
]

or-none : (t : Bool) → (t || false) ≡ t
or-none true = refl
or-none false = refl

-- among these and one more
among-more : (n one : ℕ) (ns : List ℕ) → is_among n (ns ++ one ∷ []) ≡ (is_among n ns || eqb n one)
among-more n one ns =
    list_any-append (λ m. eqb m n) ns (one ∷ []) ∙ ap (λ (t : Bool). is_among n ns || t) (or-none (eqb one n) ∙ eqb-turned one n)

among-last : (n : ℕ) (ns : List ℕ) → is_among n (ns ++ n ∷ []) ≡ true
among-last n ns = among-more n n ns ∙ or_right (is_among n ns) (eqb n n) (eq-eqb n n refl)

among-kept : (n x : ℕ) (rest : List ℕ) (t : Bool) → eqb x n ≡ false → is_among n rest ≡ false → is_among n (cond t (x ∷ rest) rest) ≡ false
among-kept n x rest true other none = or_from (eqb x n) (is_among n rest) other none
among-kept n x rest false other none = none

among-filtered : (n : ℕ) (test : ℕ → Bool) (ns : List ℕ) → is_among n ns ≡ false → is_among n (filter test ns) ≡ false
among-filtered n test [] none = refl
among-filtered n test (x ∷ ns) none =
    let parts = or_parts (eqb x n) (is_among n ns) none in
    among-kept n x (filter test ns) (test x) parts.0 (among-filtered n test ns parts.1)

distinct-kept : (x : ℕ) (rest : List ℕ) (t : Bool) → is_among x rest ≡ false → AreDistinct rest → AreDistinct (cond t (x ∷ rest) rest)
distinct-kept x rest true new distinct = (new, distinct)
distinct-kept x rest false new distinct = distinct

distinct-filtered : (test : ℕ → Bool) (ns : List ℕ) → AreDistinct ns → AreDistinct (filter test ns)
distinct-filtered test [] distinct = tt
distinct-filtered test (x ∷ ns) distinct = distinct-kept x (filter test ns) (test x) (among-filtered x test ns distinct.0) (distinct-filtered test ns distinct.1)

-- ---- without those that are left

abbrev not_left : List ℕ → List ℕ → List ℕ
not_left left taken = filter (λ num. not (is_among num left)) taken

abbrev without : ℕ → List ℕ → List ℕ
without num ns = filter (λ n. not (eqb n num)) ns

left-first : (num x : ℕ) (less rest : List ℕ) (t : Bool) → less ≡ without num rest → cond (not (t || eqb x num)) (x ∷ less) less ≡ without num (cond (not t) (x ∷ rest) rest)
left-first num x less rest true same = same
left-first num x less rest false same = ap (λ (ns : List ℕ). cond (not (eqb x num)) (x ∷ ns) ns) same

left-more : (num : ℕ) (left taken : List ℕ) → not_left (left ++ num ∷ []) taken ≡ without num (not_left left taken)
left-more num left [] = refl
left-more num left (x ∷ taken) =
    ap (λ (t : Bool). cond (not t) (x ∷ not_left (left ++ num ∷ []) taken) (not_left (left ++ num ∷ []) taken)) (among-more x num left)
    ∙ left-first num x (not_left (left ++ num ∷ []) taken) (not_left left taken) (is_among x left) (left-more num left taken)

without-none : (num : ℕ) (ns : List ℕ) → is_among num ns ≡ false → without num ns ≡ ns
without-none num [] none = refl
without-none num (x ∷ ns) none =
    let parts = or_parts (eqb x num) (is_among num ns) none in
    ap (λ (t : Bool). cond (not t) (x ∷ without num ns) (without num ns)) parts.0 ∙ ap (λ (l : List ℕ). x ∷ l) (without-none num ns parts.1)

-- ---- one note more

taken-by : (note : Note) (told : Option ℕ) → took note.reply ≡ told → taken_in (note ∷ []) ≡ cons_option told []
taken-by note told is = ap (λ (o : Option ℕ). cons_option o []) is

left-by : (note : Note) (told : Option ℕ) → left_by note.act ≡ told → left_in (note ∷ []) ≡ cons_option told []
left-by note told is = ap (λ (o : Option ℕ). cons_option o []) is

taken-push : (notes : List Note) (note : Note) (told : Option ℕ) → took note.reply ≡ told → taken_in (notes ++ note ∷ []) ≡ taken_in notes ++ cons_option told []
taken-push notes note told is = filter_map-append (λ note. took note.reply) notes (note ∷ []) ∙ ap (λ (ns : List ℕ). taken_in notes ++ ns) (taken-by note told is)

left-push : (notes : List Note) (note : Note) (told : Option ℕ) → left_by note.act ≡ told → left_in (notes ++ note ∷ []) ≡ left_in notes ++ cons_option told []
left-push notes note told is = filter_map-append (λ note. left_by note.act) notes (note ∷ []) ∙ ap (λ (ns : List ℕ). left_in notes ++ ns) (left-by note told is)

removed-push : (notes : List Note) (note : Note) (left taken : List ℕ) → left_in (notes ++ note ∷ []) ≡ left → taken_in (notes ++ note ∷ []) ≡ taken → removed_in (notes ++ note ∷ []) ≡ not_left left taken
removed-push notes note left taken l t = ap (λ (ns : List ℕ). not_left ns (taken_in (notes ++ note ∷ []))) l ∙ ap (not_left left) t

pub removed-stays : (notes : List Note) (note : Note) → took note.reply ≡ None → left_by note.act ≡ None → removed_in (notes ++ note ∷ []) ≡ removed_in notes
removed-stays notes note taken left =
    removed-push notes note (left_in notes) (taken_in notes) (left-push notes note None left ∙ append-nil (left_in notes)) (taken-push notes note None taken ∙ append-nil (taken_in notes))

pub removed-takes : (notes : List Note) (note : Note) (num : ℕ) → took note.reply ≡ Some num → left_by note.act ≡ None → is_among num (left_in notes) ≡ false → removed_in (notes ++ note ∷ []) ≡ removed_in notes ++ num ∷ []
removed-takes notes note num taken left new =
    removed-push notes note (left_in notes) (taken_in notes ++ num ∷ []) (left-push notes note None left ∙ append-nil (left_in notes)) (taken-push notes note (Some num) taken)
    ∙ filter-append (λ n. not (is_among n (left_in notes))) (taken_in notes) (num ∷ [])
    ∙ ap (λ (t : Bool). removed_in notes ++ cond (not t) (num ∷ []) []) new

pub removed-leaves_later : (notes : List Note) (note : Note) (num : ℕ) → took note.reply ≡ None → left_by note.act ≡ Some num → removed_in (notes ++ note ∷ []) ≡ without num (removed_in notes)
removed-leaves_later notes note num taken left =
    removed-push notes note (left_in notes ++ num ∷ []) (taken_in notes) (left-push notes note (Some num) left) (taken-push notes note None taken ∙ append-nil (taken_in notes))
    ∙ left-more num (left_in notes) (taken_in notes)

pub removed-leaves : (notes : List Note) (taking removing : Note) (num : ℕ) → took taking.reply ≡ Some num → left_by taking.act ≡ None → took removing.reply ≡ None → left_by removing.act ≡ Some num → is_among num (taken_in notes) ≡ false
    → removed_in ((notes ++ taking ∷ []) ++ removing ∷ []) ≡ removed_in notes
removed-leaves notes taking removing num taken unleft none left new =
    removed-push (notes ++ taking ∷ []) removing (left_in notes ++ num ∷ []) (taken_in notes ++ num ∷ [])
    (left-push (notes ++ taking ∷ []) removing (Some num) left ∙ ap (λ (ns : List ℕ). ns ++ num ∷ []) (left-push notes taking None unleft ∙ append-nil (left_in notes)))
    (taken-push (notes ++ taking ∷ []) removing None none ∙ append-nil (taken_in (notes ++ taking ∷ [])) ∙ taken-push notes taking (Some num) taken)
    ∙ filter-append (λ n. not (is_among n (left_in notes ++ num ∷ []))) (taken_in notes) (num ∷ [])
    ∙ ap (λ (t : Bool). not_left (left_in notes ++ num ∷ []) (taken_in notes) ++ cond (not t) (num ∷ []) []) (among-last num (left_in notes))
    ∙ append-nil (not_left (left_in notes ++ num ∷ []) (taken_in notes))
    ∙ left-more num (left_in notes) (taken_in notes)
    ∙ without-none num (removed_in notes) (among-filtered num (λ n. not (is_among n (left_in notes))) (taken_in notes) new)

-- ---- what was taken, in the state and in the notes

taken-one : (taken more : List ℕ) (r : Reply) → taken_after taken r ++ more ≡ taken ++ cons_option (took r) more
taken-one taken more (reply.Took num) = append_assoc taken (num ∷ []) more
taken-one taken more _ = refl

pub taken-state : (p : Plain) (notes : List Note) → (after_all p notes).taken ≡ p.taken ++ taken_in notes
taken-state p [] = sym (append-nil p.taken)
taken-state p (note ∷ notes) = taken-state (after p note) notes ∙ taken-one p.taken (taken_in notes) note.reply

-- ---- removals are of what was taken

removal-by : (t : Bool) (r : Reply) → list_any (same_reply r) (cond t (reply.Stuck ∷ reply.Memory ∷ []) []) ≡ true → (took r ≡ None) × (t ≡ true)
removal-by true reply.Stuck e = (refl, refl)
removal-by true reply.Memory e = (refl, refl)
removal-by true _ e = absurd (false≢true e)
removal-by false r e = absurd (false≢true e)

pub removing : (p : Plain) (note : Note) (num : ℕ) → MayStand p note → note.act ≡ act.Remove num → (took note.reply ≡ None) × (is_among num p.taken ≡ true)
removing p note num may is = removal-by (is_among num p.taken) note.reply (replies p note (act.Remove num) note.reply may is refl)

left-one : (P : ℕ → Type 0) (p : Plain) (note : Note) (a : Act) (more : List ℕ) → note.act ≡ a → MayStand p note → AllByRecursion P p.taken → AllByRecursion P more → AllByRecursion P (cons_option (left_by a) more)
left-one P p note (act.Remove num) more is may taken all = (all-has P p.taken num (among-has num p.taken (removing p note num may is).1) taken, all)
left-one P p note _ more is may taken all = all

taken-one_more : (P : ℕ → Type 0) (taken more : List ℕ) (r : Reply) → AllByRecursion P taken → AllByRecursion P (cons_option (took r) more) → AllByRecursion P (taken_after taken r) × AllByRecursion P more
taken-one_more P taken more (reply.Took num) all new = (all-append P taken (num ∷ []) all (new.0, tt), new.1)
taken-one_more P taken more _ all new = (all, new)

left-all : (P : ℕ → Type 0) (p : Plain) (notes : List Note) → Legal p notes → AllByRecursion P p.taken → AllByRecursion P (taken_in notes) → AllByRecursion P (left_in notes)
left-all P p [] legal taken all = tt
left-all P p (note ∷ notes) legal taken all =
    let next = taken-one_more P p.taken (taken_in notes) note.reply taken all in
    left-one P p note note.act (left_in notes) refl legal.0 taken (left-all P (after p note) notes legal.1 next.0 next.1)

pub left-taken : (first_seq first_file : ℕ) (notes : List Note) → Legal (opening first_seq first_file) notes → AllByRecursion (Has (taken_in notes)) (left_in notes)
left-taken first_seq first_file notes legal =
    left-all (Has (taken_in notes)) (opening first_seq first_file) notes legal tt (all-from_has (Has (taken_in notes)) (taken_in notes) (λ n has. has))

-- ---- a number is taken once

not-left : (num : ℕ) (taken left : List ℕ) → is_among num taken ≡ false → AllByRecursion (Has taken) left → is_among num left ≡ false
not-left num taken left new all = elim (cases_Bool (is_among num left)) [
  | inl some ↦ absurd (false≢true (sym new ∙ has-among num taken (all-has (Has taken) left num (among-has num left some) all)))
  | inr none ↦ none
]

pub taking : (first_seq first_file : ℕ) (notes : List Note) (note : Note) (num : ℕ) → Legal (opening first_seq first_file) notes → MayStand (after_all (opening first_seq first_file) notes) note → note.reply ≡ reply.Took num
    → (left_by note.act ≡ None) × (is_among num (taken_in notes) ≡ false) × (is_among num (left_in notes) ≡ false)
taking first_seq first_file notes note num legal may is =
    let p = after_all (opening first_seq first_file) notes in
    let reaps = only-reap p note num may is in
    let first = least_dead p note num may reaps is in
    let new = not-taken p num (first-passes (is_dead p) p.known num first.0 first.1) in
    let untaken : is_among num (taken_in notes) ≡ false = subst (λ (ns : List ℕ). is_among num ns ≡ false) (taken-state (opening first_seq first_file) notes) new in
    (ap left_by reaps, untaken, not-left num (taken_in notes) (left_in notes) untaken (left-taken first_seq first_file notes legal))

-- ---- what was removed

pub removed-taken : (notes : List Note) → AllByRecursion (Has (taken_in notes)) (removed_in notes)
removed-taken notes = all-filtered (Has (taken_in notes)) (λ num. not (is_among num (left_in notes))) (taken_in notes) (λ num has passes. has)

pub removed-not_left : (notes : List Note) → AllByRecursion (λ num. is_among num (left_in notes) ≡ false) (removed_in notes)
removed-not_left notes =
    all-filtered (λ num. is_among num (left_in notes) ≡ false) (λ num. not (is_among num (left_in notes))) (taken_in notes) (λ num has passes. not-true (is_among num (left_in notes)) passes)

pub removed-once : (first_seq first_file : ℕ) (notes : List Note) → Legal (opening first_seq first_file) notes → AreDistinct (removed_in notes)
removed-once first_seq first_file notes legal =
    distinct-filtered (λ num. not (is_among num (left_in notes))) (taken_in notes)
    (subst AreDistinct (taken-state (opening first_seq first_file) notes) (taken-once first_seq first_file notes legal))
