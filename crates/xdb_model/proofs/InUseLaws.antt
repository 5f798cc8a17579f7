-- Versions of one number are one, and none in use names a file that was taken.
use Rattle.std.proofs.Common.{◌≡◌, ℕ, ◌≤◌, Bool, true, false, cond, not, eqb, List, [], ◌∷◌, ◌++◌, length, filter, Option, Some, None, refl, sym, ap, subst, ◌∙◌, inl, inr, ◌⊎◌, arith}
use Rattle.std.specs.List.{AllByRecursion, flat_map}
use Rattle.xdb_rangedel.specs.Members.{Has}
use Rattle.xdb_meta.specs.Table.{Table}
use Rattle.xdb_edit.specs.Changes.{Changes}
use Rattle.xdb_edit.specs.Versions.{LevelLists}
use Rattle.xdb_plain.specs.Changes.{after, taken_after}
use Rattle.xdb_plain.specs.Counts.{distinct, referenced, backings, used, count, is_dead}
use Rattle.xdb_plain.specs.Holds.{version_after}
use Rattle.xdb_plain.specs.Legal.{Legal, after_all}
use Rattle.xdb_plain.specs.State.{Plain, Version, Hold, opening}
use Rattle.xdb_plain.specs.Steps.{MayStand}
use Rattle.xdb_plain.specs.declared.note.Note.{Note}
use Rattle.xdb_plain.specs.declared.reply.Reply.{Reply}
use Rattle.xdb_plain.specs.declared.reply.Reply.TheVariants as reply
use Rattle.xdb_model.proofs.CauseLaws.{took}
use Rattle.xdb_model.proofs.CountLaws.{held-referenced, has-map}
use Rattle.xdb_model.proofs.HeldLaws.{holds-step}
use Rattle.xdb_model.proofs.KnownLaws.{Fit, fit-after, fit-first}
use Rattle.xdb_model.proofs.ListLaws.{all-append, all-from_has, all-has, all-map, all-more}
use Rattle.xdb_model.proofs.NamedLaws.{Off, Gone, took-gone, gone-adds, gone-after, unnamed-after, none-pass, off-levels, dead-count, unnamed-tells}
use Rattle.xdb_model.proofs.TakenLaws.{only-reap, first-passes}
use Rattle.xdb_model.specs.Counted.{standing}
use Rattle.xdb_model.specs.Named.{IsUnnamed}

-- ---- versions of one number

pub record Told (p : Plain) : Type 0 where
  pub one : (v w : Version) → Has (standing p) v → Has (standing p) w → v.num ≡ w.num → v ≡ w
  pub most : (v : Version) → Has (standing p) v → v.num ≤ p.current.num

abbrev IsOld : Plain → Version → Version → Type 0
IsOld p next v = Has (standing p) v ⊎ (v ≡ next)

-- what stands behind a step stood before it, or is the version that it leads to
stood : (p : Plain) (note : Note) → AllByRecursion (IsOld p (version_after p.current note.edit)) (standing (after p note))
stood p note = (
  inr refl,
  all-map (IsOld p (version_after p.current note.edit)) (λ (h : Hold). h.version) (after p note).holds
      (holds-step (IsOld p (version_after p.current note.edit)) p (inl (inl refl)) (all-from_has _ p.holds (λ h has. inl (inr (has-map (λ (x : Hold). x.version) p.holds h has)))) note (inr refl)),
)

one-either : (p : Plain) (o : Option Changes) (v w : Version) → Told p → IsOld p (version_after p.current o) v → IsOld p (version_after p.current o) w → v.num ≡ w.num → v ≡ w
one-either p o v w told (inl a) (inl b) same = told.one v w a b same
one-either p o v w told (inr a) (inr b) same = a ∙ sym b
one-either p None v w told (inl a) (inr b) same = told.one v w a (inl (sym b)) same
one-either p None v w told (inr a) (inl b) same = told.one v w (inl (sym a)) b same
one-either p (Some e) v w told (inl a) (inr b) same = let low = told.most v a in let high = ap (λ (x : Version). x.num) b in absurd (omega arith)
one-either p (Some e) v w told (inr a) (inl b) same = let low = told.most w b in let high = ap (λ (x : Version). x.num) a in absurd (omega arith)

most-either : (p : Plain) (o : Option Changes) (v : Version) → Told p → IsOld p (version_after p.current o) v → v.num ≤ (version_after p.current o).num
most-either p None v told (inl a) = told.most v a
most-either p (Some e) v told (inl a) = let low = told.most v a in omega arith
most-either p o v told (inr a) = let same = ap (λ (x : Version). x.num) a in omega arith

told-after : (p : Plain) (note : Note) → Told p → Told (after p note)
told-after p note told = record {
  one = λ v w hv hw same. one-either p note.edit v w told (all-has (IsOld p (version_after p.current note.edit)) (standing (after p note)) v hv (stood p note)) (all-has (IsOld p (version_after p.current note.edit)) (standing (after p note)) w hw (stood p note)) same;
  most = λ v hv. most-either p note.edit v told (all-has (IsOld p (version_after p.current note.edit)) (standing (after p note)) v hv (stood p note));
}

told-all : (p : Plain) (notes : List Note) → Told p → Told (after_all p notes)
told-all p [] told = told
told-all p (note ∷ notes) told = told-all (after p note) notes (told-after p note told)

alone : (x v w : Version) → (x ≡ v) ⊎ ⊥ → (x ≡ w) ⊎ ⊥ → v ≡ w
alone x v w (inl a) (inl b) = sym a ∙ b
alone x v w (inr never) b = absurd never
alone x v w a (inr never) = absurd never

told-first : (first_seq first_file : ℕ) → Told (opening first_seq first_file)
told-first first_seq first_file = record {
  one = λ v w hv hw same. alone (opening first_seq first_file).current v w hv hw;
  most = λ v hv. let same = ap (λ (x : Version). x.num) (alone (opening first_seq first_file).current v (opening first_seq first_file).current hv (inl refl)) in omega arith;
}

pub versions-told : (first_seq first_file : ℕ) (notes : List Note) (v w : Version) → Has (standing (after_all (opening first_seq first_file) notes)) v → Has (standing (after_all (opening first_seq first_file) notes)) w → v.num ≡ w.num → v ≡ w
versions-told first_seq first_file notes = (told-all (opening first_seq first_file) notes (told-first first_seq first_file)).one

-- ---- counts of files that were taken

abbrev Clear : ℕ → Version → Type 0
Clear n v = AllByRecursion (AllByRecursion (Off n)) v.levels

has-kept : (test : Version → Bool) (xs : List Version) (v : Version) → Has (filter test xs) v → Has xs v
has-kept test [] v has = absurd has
has-kept test (x ∷ xs) v has = by-test (test x) (has-kept test xs v) has
  where
    by-test : (t : Bool) → (Has (filter test xs) v → Has xs v) → Has (cond t (x ∷ filter test xs) (filter test xs)) v → (x ≡ v) ⊎ Has xs v
    by-test true more (inl same) = inl same
    by-test true more (inr behind) = inr (more behind)
    by-test false more has = inr (more has)

has-distinct : (vs : List Version) (v : Version) → Has (distinct vs) v → Has vs v
has-distinct [] v has = absurd has
has-distinct (x ∷ vs) v (inl same) = inl same
has-distinct (x ∷ vs) v (inr behind) = inr (has-distinct vs v (has-kept (λ w. not (eqb w.num x.num)) (distinct vs) v behind))

flat-part : (P : ℕ → Type 0) (vs : List Version) (v : Version) → Has vs v → AllByRecursion P (flat_map backings vs) → AllByRecursion P (backings v)
flat-part P [] v has all = absurd has
flat-part P (x ∷ vs) v (inl same) all = subst (λ w. AllByRecursion P (backings w)) same (front (backings x) (flat_map backings vs) all)
  where
    front : (xs ys : List ℕ) → AllByRecursion P (xs ++ ys) → AllByRecursion P xs
    front [] ys all = tt
    front (y ∷ xs) ys all = (all.0, front xs ys all.1)
flat-part P (x ∷ vs) v (inr behind) all = flat-part P vs v behind (back (backings x) (flat_map backings vs) all)
  where
    back : (xs ys : List ℕ) → AllByRecursion P (xs ++ ys) → AllByRecursion P ys
    back [] ys all = all
    back (y ∷ xs) ys all = back xs ys all.1

-- where the count is 0, no version that is held stands on the file
held-clear : (n : ℕ) (p : Plain) → Told p → count p n ≡ 0 → AllByRecursion (λ h. Clear n h.version) p.holds
held-clear n p told none = all-from_has (λ (h : Hold). Clear n h.version) p.holds (λ h has.
    let found = held-referenced p h has in
    let stands = has-distinct (standing p) found.version found.among in
    let same : found.version ≡ h.version = told.one found.version h.version stands (inr (has-map (λ (x : Hold). x.version) p.holds h has)) found.same_num in
    subst (Clear n) same (off-levels n found.version.levels (flat-part (λ b. eqb b n ≡ false) (referenced p) found.version found.among (none-pass (λ b. eqb b n) (used p) none))))

backings-off : (n : ℕ) (v : Version) → Clear n v → AllByRecursion (λ b. eqb b n ≡ false) (backings v)
backings-off n v clear = all-map (λ b. eqb b n ≡ false) (λ (t : Table). t.backing) (flat_map (λ ts. ts) v.levels) (by-level v.levels clear)
  where
    by-level : (levels : LevelLists) → AllByRecursion (AllByRecursion (Off n)) levels → AllByRecursion (Off n) (flat_map (λ ts. ts) levels)
    by-level [] all = tt
    by-level (ts ∷ levels) all = all-append (Off n) ts (flat_map (λ ts. ts) levels) all.0 (by-level levels all.1)

used-off : (n : ℕ) (vs : List Version) → AllByRecursion (Clear n) vs → AllByRecursion (λ b. eqb b n ≡ false) (flat_map backings vs)
used-off n [] all = tt
used-off n (v ∷ vs) all = all-append (λ b. eqb b n ≡ false) (backings v) (flat_map backings vs) (backings-off n v all.0) (used-off n vs all.1)

no-pass : (n : ℕ) (ns : List ℕ) → AllByRecursion (λ b. eqb b n ≡ false) ns → length (filter (λ b. eqb b n) ns) ≡ 0
no-pass n [] all = refl
no-pass n (b ∷ ns) all = ap (λ t. length (cond t (b ∷ filter (λ x. eqb x n) ns) (filter (λ x. eqb x n) ns))) all.0 ∙ no-pass n ns all.1

clear-count : (n : ℕ) (p : Plain) → Clear n p.current → AllByRecursion (λ h. Clear n h.version) p.holds → count p n ≡ 0
clear-count n p current holds =
    no-pass n (used p) (used-off n (referenced p) (all-from_has (Clear n) (referenced p) (λ v has.
    all-has (Clear n) (standing p) v (has-distinct (standing p) v has) (current, all-map (Clear n) (λ (h : Hold). h.version) p.holds holds))))

-- ---- over a whole history

record Unused (n : ℕ) (p : Plain) : Type 0 where
  gone : Gone n p
  held : AllByRecursion (λ h. Clear n h.version) p.holds

unused-after : (n : ℕ) (p : Plain) (note : Note) → MayStand p note → Fit p → Unused n p → Unused n (after p note)
unused-after n p note may fit unused = record {
  gone = gone-after n p note may fit.once unused.gone;
  held = holds-step (Clear n) p unused.gone.unnamed unused.held note (unnamed-after n p.current note.edit (gone-adds n p note may unused.gone) unused.gone.unnamed);
}

took-unused : (n : ℕ) (p : Plain) (note : Note) → MayStand p note → note.reply ≡ reply.Took n → Fit p → Told p → Unused n p
took-unused n p note may said fit told =
    let reaps = only-reap p note n may said in
    let first = took p note n may reaps said in
    record {
      gone = took-gone n p note may said fit;
      held = held-clear n p told (dead-count p n (first-passes (is_dead p) p.known n first.0 first.1));
    }

still-unused : (p : Plain) (note : Note) (ns : List ℕ) → MayStand p note → Fit p → AllByRecursion (λ n. Unused n p) ns → AllByRecursion (λ n. Unused n (after p note)) ns
still-unused p note [] may fit all = tt
still-unused p note (n ∷ ns) may fit all = (unused-after n p note may fit all.0, still-unused p note ns may fit all.1)

all-taken : (p : Plain) (note : Note) (r : Reply) → note.reply ≡ r → MayStand p note → Fit p → Told p → AllByRecursion (λ n. Unused n p) p.taken → AllByRecursion (λ n. Unused n p) (taken_after p.taken r)
all-taken p note (reply.Took n) is may fit told all = all-append (λ m. Unused m p) p.taken (n ∷ []) all (took-unused n p note may is fit told, tt)
all-taken p note _ is may fit told all = all

unused-all : (p : Plain) (notes : List Note) → Legal p notes → Fit p → Told p → AllByRecursion (λ n. Unused n p) p.taken → AllByRecursion (λ n. Unused n (after_all p notes)) (after_all p notes).taken
unused-all p [] legal fit told all = all
unused-all p (note ∷ notes) legal fit told all =
    unused-all (after p note) notes legal.1 (fit-after p note legal.0 fit) (told-after p note told) (still-unused p note (taken_after p.taken note.reply) legal.0 fit (all-taken p note note.reply refl legal.0 fit told all))

all-unused : (first_seq first_file : ℕ) (notes : List Note) → Legal (opening first_seq first_file) notes → AllByRecursion (λ n. Unused n (after_all (opening first_seq first_file) notes)) (after_all (opening first_seq first_file) notes).taken
all-unused first_seq first_file notes legal = unused-all (opening first_seq first_file) notes legal (fit-first first_seq first_file) (told-first first_seq first_file) tt

pub taken-unused : (first_seq first_file : ℕ) (notes : List Note) → Legal (opening first_seq first_file) notes → AllByRecursion (λ n. count (after_all (opening first_seq first_file) notes) n ≡ 0) (after_all (opening first_seq first_file) notes).taken
taken-unused first_seq first_file notes legal =
    let p = after_all (opening first_seq first_file) notes in
    all-more (λ n. Unused n p) (λ n. count p n ≡ 0) p.taken (λ n unused. clear-count n p unused.gone.unnamed unused.held) (all-unused first_seq first_file notes legal)

pub taken-unnamed : (first_seq first_file : ℕ) (notes : List Note) → Legal (opening first_seq first_file) notes → AllByRecursion (λ n. IsUnnamed n (after_all (opening first_seq first_file) notes).current) (after_all (opening first_seq first_file) notes).taken
taken-unnamed first_seq first_file notes legal =
    let p = after_all (opening first_seq first_file) notes in
    all-more (λ n. Unused n p) (λ n. IsUnnamed n p.current) p.taken (λ n unused. unnamed-tells n p.current unused.gone.unnamed) (all-unused first_seq first_file notes legal)
