-- No open load comes to have a number that lies below the next one and that none had.
use Rattle.std.proofs.Common.{◌≡◌, ℕ, Bool, true, false, cond, not, ◌&&◌, List, [], ◌∷◌, ◌++◌, length, Option, Some, None, is_some, refl, sym, ap, ◌∙◌}
use Rattle.std.proofs.lemmas.Bool.{false≢true, and_left, and_right, or_left, or_parts}
use Rattle.std.specs.List.{list_any, AllByRecursion}
use Rattle.xdb_key.specs.Bounds.{Bounds}
use Rattle.xdb_plain.specs.Changes.{loads_after, new_load, in_phase}
use Rattle.xdb_plain.specs.Counts.{is_within, load_owns}
use Rattle.xdb_plain.specs.Outcomes.{Outcome, succeeds, begins, fails, outcome}
use Rattle.xdb_plain.specs.Replies.{may_reply, same_reply, load_open_replies, is_being_opened}
use Rattle.xdb_plain.specs.State.{Plain, Load, Phase, being_opened, waiting, is_in, is_open, open_loads, found_load, without_load, same_name}
use Rattle.xdb_plain.specs.Tables.{TableOps}
use Rattle.xdb_plain.specs.declared.act.Act.{Act}
use Rattle.xdb_plain.specs.declared.act.Act.TheVariants as act
use Rattle.xdb_plain.specs.declared.act.By.{By}
use Rattle.xdb_plain.specs.declared.reply.Reply.{Reply}
use Rattle.xdb_plain.specs.declared.reply.Reply.TheVariants as reply
use Rattle.xdb_model.proofs.CauseLaws.{same-name, load_of}

-- ---- the replies to the opening of a load that is there

opened-old : (t : Bool) (r : Reply) → outcome r ≡ succeeds → list_any (same_reply r) (reply.NameInUse ∷ cond t (reply.Opened ∷ reply.Fault ∷ reply.Memory ∷ []) []) ≡ true → t ≡ true
opened-old true r o e = refl
opened-old false reply.NameInUse o e = absurd (cc)
opened-old false _ o e = absurd (false≢true e)

begun-old : (t : Bool) (r : Reply) → outcome r ≡ begins → list_any (same_reply r) (reply.NameInUse ∷ cond t (reply.Opened ∷ reply.Fault ∷ reply.Memory ∷ []) []) ≡ true → ⊥
begun-old true reply.NameInUse o e = cc
begun-old true reply.Opened o e = cc
begun-old true reply.Fault o e = cc
begun-old true reply.Memory o e = cc
begun-old true _ o e = false≢true e
begun-old false reply.NameInUse o e = cc
begun-old false _ o e = false≢true e

pub begun-new : (p : Plain) (tables : List TableOps) (span : Option Bounds) (o : Option Load) (r : Reply) → outcome r ≡ begins → list_any (same_reply r) (load_open_replies p tables span o) ≡ true → o ≡ None
begun-new p tables span None r is e = refl
begun-new p tables span (Some l) r is e = absurd (begun-old (is_being_opened l) r is e)

being-open : (name : List ℕ) (by : By) (tables : List TableOps) (span : Option Bounds) (first : ℕ) (phase : Phase) → is_being_opened (load_of name by tables span first phase) ≡ true → is_open (load_of name by tables span first phase) ≡ true
being-open name by tables span first being_opened e = refl
being-open name by tables span first waiting e = absurd (false≢true e)
being-open name by tables span first is_in e = absurd (false≢true e)

-- ---- each name stands once

abbrev pub AreNamedOnce : List Load → Type 0
AreNamedOnce [] = Unit {0}
AreNamedOnce (l ∷ ls) = AllByRecursion (λ (m : Load). same_name l.name m.name ≡ false) ls × AreNamedOnce ls

off-push : (name : List ℕ) (ls : List Load) (m : Load) → AllByRecursion (λ (x : Load). same_name name x.name ≡ false) ls → same_name name m.name ≡ false → AllByRecursion (λ (x : Load). same_name name x.name ≡ false) (ls ++ m ∷ [])
off-push name [] m h is = (is, tt)
off-push name (x ∷ ls) m h is = (h.0, off-push name ls m h.1 is)

none-found : (x : Load) (rest : Option Load) (t : Bool) → cond t (Some x) rest ≡ None → (t ≡ false) × (rest ≡ None)
none-found x rest true e = absurd (cc)
none-found x rest false e = (refl, e)

once-push : (ls : List Load) (m : Load) → AreNamedOnce ls → found_load m.name ls ≡ None → AreNamedOnce (ls ++ m ∷ [])
once-push [] m h none = (tt, tt)
once-push (x ∷ ls) m h none =
    let parts = none-found x (found_load m.name ls) (same_name x.name m.name) none in
    (off-push x.name ls m h.0 parts.0, once-push ls m h.1 parts.1)

off-kept : (name : List ℕ) (x : Load) (rest : List Load) (t : Bool) → same_name name x.name ≡ false → AllByRecursion (λ (m : Load). same_name name m.name ≡ false) rest → AllByRecursion (λ (m : Load). same_name name m.name ≡ false) (cond t (x ∷ rest) rest)
off-kept name x rest true is h = (is, h)
off-kept name x rest false is h = h

off-without : (name other : List ℕ) (ls : List Load) → AllByRecursion (λ (m : Load). same_name name m.name ≡ false) ls → AllByRecursion (λ (m : Load). same_name name m.name ≡ false) (without_load other ls)
off-without name other [] h = tt
off-without name other (x ∷ ls) h = off-kept name x (without_load other ls) (not (same_name x.name other)) h.0 (off-without name other ls h.1)

once-kept : (x : Load) (rest : List Load) (t : Bool) → AllByRecursion (λ (m : Load). same_name x.name m.name ≡ false) rest → AreNamedOnce rest → AreNamedOnce (cond t (x ∷ rest) rest)
once-kept x rest true is h = (is, h)
once-kept x rest false is h = h

once-without : (other : List ℕ) (ls : List Load) → AreNamedOnce ls → AreNamedOnce (without_load other ls)
once-without other [] h = tt
once-without other (x ∷ ls) h = once-kept x (without_load other ls) (not (same_name x.name other)) (off-without x.name other ls h.0) (once-without other ls h.1)

off-phase : (name other : List ℕ) (phase : Phase) (ls : List Load) → AllByRecursion (λ (m : Load). same_name name m.name ≡ false) ls → AllByRecursion (λ (m : Load). same_name name m.name ≡ false) (in_phase other phase ls)
off-phase name other phase [] h = tt
off-phase name other phase (x ∷ ls) h = (h.0, off-phase name other phase ls h.1)

once-phase : (other : List ℕ) (phase : Phase) (ls : List Load) → AreNamedOnce ls → AreNamedOnce (in_phase other phase ls)
once-phase other phase [] h = tt
once-phase other phase (x ∷ ls) h = (off-phase x.name other phase ls h.0, once-phase other phase ls h.1)

-- ---- loads of one name are that which is found

abbrev OpenNamed : List ℕ → List Load → Type 0
OpenNamed name ls = AllByRecursion (λ (l : Load). same_name l.name name ≡ true → is_open l ≡ true) ls

off-named : (name : List ℕ) (x : Load) (ls : List Load) → same_name x.name name ≡ true → AllByRecursion (λ (m : Load). same_name x.name m.name ≡ false) ls → OpenNamed name ls
off-named name x [] is h = tt
off-named name x (m ∷ ls) is h =
    (λ same. absurd (false≢true (sym h.0 ∙ ap (same_name x.name) (same-name m.name name (or_left (same_name m.name name) false same)) ∙ is)), off-named name x ls is h.1)

named-first : (name : List ℕ) (x l : Load) (ls : List Load) (t : Bool) → same_name x.name name ≡ t → cond t (Some x) (found_load name ls) ≡ Some l → is_open l ≡ true → AllByRecursion (λ (m : Load). same_name x.name m.name ≡ false) ls → (found_load name ls ≡ Some l → OpenNamed name ls) → OpenNamed name (x ∷ ls)
named-first name x l ls true is e op off more = let same : x ≡ l = cc in (λ h. ap is_open same ∙ op, off-named name x ls is off)
named-first name x l ls false is e op off more = (λ h. absurd (false≢true (sym is ∙ h)), more e)

named-open : (name : List ℕ) (ls : List Load) (l : Load) → AreNamedOnce ls → found_load name ls ≡ Some l → is_open l ≡ true → OpenNamed name ls
named-open name [] l h e op = absurd (cc)
named-open name (x ∷ ls) l h e op = named-first name x l ls (same_name x.name name) refl e op h.0 (λ f. named-open name ls l h.1 f op)

-- ---- the open loads don't have the number

abbrev pub LoadFree : ℕ → Load → Type 0
LoadFree n l = (is_open l && load_owns n l) ≡ false

abbrev pub LoadsFree : ℕ → List Load → Type 0
LoadsFree n ls = AllByRecursion (LoadFree n) ls

free-push : (n : ℕ) (ls : List Load) (m : Load) → LoadsFree n ls → LoadFree n m → LoadsFree n (ls ++ m ∷ [])
free-push n [] m h is = (is, tt)
free-push n (x ∷ ls) m h is = (h.0, free-push n ls m h.1 is)

free-kept : (n : ℕ) (x : Load) (rest : List Load) (t : Bool) → LoadFree n x → LoadsFree n rest → LoadsFree n (cond t (x ∷ rest) rest)
free-kept n x rest true is h = (is, h)
free-kept n x rest false is h = h

free-without : (n : ℕ) (name : List ℕ) (ls : List Load) → LoadsFree n ls → LoadsFree n (without_load name ls)
free-without n name [] h = tt
free-without n name (x ∷ ls) h = free-kept n x (without_load name ls) (not (same_name x.name name)) h.0 (free-without n name ls h.1)

free-in : (n : ℕ) (l : Load) (t : Bool) → LoadFree n l → LoadFree n (record l { phase = cond t is_in l.phase })
free-in n l true h = refl
free-in n l false h = h

pub free-installed : (n : ℕ) (name : List ℕ) (ls : List Load) → LoadsFree n ls → LoadsFree n (in_phase name is_in ls)
free-installed n name [] h = tt
free-installed n name (x ∷ ls) h = (free-in n x (same_name x.name name) h.0, free-installed n name ls h.1)

free-wait : (n : ℕ) (l : Load) (t : Bool) → LoadFree n l → (t ≡ true → is_open l ≡ true) → LoadFree n (record l { phase = cond t waiting l.phase })
free-wait n l true h op = sym (ap (λ b. b && load_owns n l) (op refl)) ∙ h
free-wait n l false h op = h

free-waiting : (n : ℕ) (name : List ℕ) (ls : List Load) → LoadsFree n ls → OpenNamed name ls → LoadsFree n (in_phase name waiting ls)
free-waiting n name [] h op = tt
free-waiting n name (x ∷ ls) h op = (free-wait n x (same_name x.name name) h.0 op.0, free-waiting n name ls h.1 op.1)

free-new : (n : ℕ) (p : Plain) (by : By) (load : List ℕ) (tables : List TableOps) (span : Option Bounds) (phase : Phase) → is_within p.file (length tables) n ≡ false → LoadFree n (new_load p by load tables span phase)
free-new n p by load tables span phase off = and_right (is_open (new_load p by load tables span phase)) (is_within p.file (length tables) n) off

opened-once : (p : Plain) (by : By) (load : List ℕ) (tables : List TableOps) (span : Option Bounds) (o : Option Load) → found_load load p.loads ≡ o → AreNamedOnce p.loads → AreNamedOnce (cond (is_some o) (in_phase load waiting p.loads) (p.loads ++ new_load p by load tables span waiting ∷ []))
opened-once p by load tables span None found h = once-push p.loads (new_load p by load tables span waiting) h found
opened-once p by load tables span (Some l) found h = once-phase load waiting p.loads h

pub once-by : (p : Plain) (by : By) (a : Act) (o : Outcome) (r : Reply) → outcome r ≡ o → list_any (same_reply r) (may_reply p by a) ≡ true → AreNamedOnce p.loads → AreNamedOnce (loads_after p by a o)
once-by p by (act.LoadOpen load tables span) begins r is may h = once-push p.loads (new_load p by load tables span being_opened) h (begun-new p tables span (found_load load p.loads) r is may)
once-by p by (act.LoadOpen load tables span) succeeds r is may h = opened-once p by load tables span (found_load load p.loads) refl h
once-by p by (act.LoadOpen load tables span) fails r is may h = once-without load p.loads h
once-by p by (act.Install load) succeeds r is may h = once-phase load is_in p.loads h
once-by p by _ _ r is may h = h

opened-free : (n : ℕ) (p : Plain) (by : By) (load : List ℕ) (tables : List TableOps) (span : Option Bounds) (o : Option Load) (r : Reply) → found_load load p.loads ≡ o → outcome r ≡ succeeds → list_any (same_reply r) (load_open_replies p tables span o) ≡ true
    → is_within p.file (length tables) n ≡ false → AreNamedOnce p.loads → LoadsFree n p.loads → LoadsFree n (cond (is_some o) (in_phase load waiting p.loads) (p.loads ++ new_load p by load tables span waiting ∷ []))
opened-free n p by load tables span None r found is e off once h = free-push n p.loads (new_load p by load tables span waiting) h (free-new n p by load tables span waiting off)
opened-free n p by load tables span (Some l) r found is e off once h =
    free-waiting n load p.loads h (named-open load p.loads l once found (being-open l.name l.by l.tables l.span l.first l.phase (opened-old (is_being_opened l) r is e)))

pub free-by : (n : ℕ) (p : Plain) (by : By) (a : Act) (o : Outcome) (r : Reply) → outcome r ≡ o → list_any (same_reply r) (may_reply p by a) ≡ true → ((len : ℕ) → is_within p.file len n ≡ false) → AreNamedOnce p.loads → LoadsFree n p.loads → LoadsFree n (loads_after p by a o)
free-by n p by (act.LoadOpen load tables span) begins r is may off once h = free-push n p.loads (new_load p by load tables span being_opened) h (free-new n p by load tables span being_opened (off (length tables)))
free-by n p by (act.LoadOpen load tables span) succeeds r is may off once h = opened-free n p by load tables span (found_load load p.loads) r refl is may (off (length tables)) once h
free-by n p by (act.LoadOpen load tables span) fails r is may off once h = free-without n load p.loads h
free-by n p by (act.Install load) succeeds r is may off once h = free-installed n load p.loads h
free-by n p by _ _ r is may off once h = h

-- open loads that don't own the number
none-first : (n : ℕ) (l : Load) (ls : List Load) (t : Bool) → is_open l ≡ t → list_any (load_owns n) (cond t (l ∷ open_loads ls) (open_loads ls)) ≡ false → (list_any (load_owns n) (open_loads ls) ≡ false → LoadsFree n ls) → LoadsFree n (l ∷ ls)
none-first n l ls true is h more =
    let parts = or_parts (load_owns n l) (list_any (load_owns n) (open_loads ls)) h in
    (and_right (is_open l) (load_owns n l) parts.0, more parts.1)
none-first n l ls false is h more = (and_left (is_open l) (load_owns n l) is, more h)

pub none-open : (n : ℕ) (ls : List Load) → list_any (load_owns n) (open_loads ls) ≡ false → LoadsFree n ls
none-open n [] h = tt
none-open n (l ∷ ls) h = none-first n l ls (is_open l) refl h (λ k. none-open n ls k)
