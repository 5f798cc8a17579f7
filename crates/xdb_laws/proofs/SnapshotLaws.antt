-- What shows a snapshot's copy, from its making to its end.
use Rattle.std.proofs.Common.{◌≡◌, ℕ, ◌≤◌, Bool, true, false, ◌&&◌, cond, List, [], ◌∷◌, ◌++◌, Option, Some, None, is_none, inl, inr, refl, sym, ap, ◌∙◌, arith}
use Rattle.std.proofs.lemmas.Bool.{cases_Bool, or_parts, false≢true}
use Rattle.std.proofs.lemmas.List.{map-append}
use Rattle.std.specs.FinMap as map
use Rattle.std.specs.List.{list_any}
use Rattle.xdb_key.specs.Bounds.{Bounds, holds, meets}
use Rattle.xdb_key.specs.Groups.{Group, last_touching}
use Rattle.xdb_key.specs.declared.op.Op.{Op}
use Rattle.xdb_key.specs.declared.state.SnapState.{SnapState}
use Rattle.xdb_key.specs.declared.state.SnapState.TheVariants.{Pinned, FileOnly, Excised}
use Rattle.xdb_mem.specs.Numbered.{numbered}
use Rattle.xdb_mem.specs.Parts.{item_at, items}
use Rattle.xdb_mem.specs.Queue.{all_ops}
use Rattle.xdb_mem.proofs.TouchLaws.{any-from}
use Rattle.xdb_plain.specs.Changes.{new_snap}
use Rattle.xdb_plain.specs.Fences.{any_meet, span_list}
use Rattle.xdb_plain.specs.PlainMap.{PlainMap}
use Rattle.xdb_plain.specs.Snapshots.{state_by, is_pinned, is_file_only, turns, turned, excised}
use Rattle.xdb_plain.specs.State.{Plain, Snapshot, groups}
use Rattle.xdb_rangedel.specs.Content.{Item, said_by, newer, newest, value_of, IsImage}
use Rattle.xdb_rangedel.specs.Members.{Has}
use Rattle.xdb_rangedel.proofs.CoverLaws.{meets-from_held}
use Rattle.xdb_rangedel.proofs.NewestLaws.{newer-none, newest-append, newest_unseen}
use Rattle.xdb_laws.specs.Excises.{is_cut}
use Rattle.xdb_laws.specs.Image.{image}
use Rattle.xdb_laws.specs.Loads.{Install, IsInstall}
use Rattle.xdb_laws.specs.Snapshots.{ShowsCopy, CopyIsShown, KeepsCopy}
use Rattle.xdb_laws.proofs.ImageLaws.{image-is}
use Rattle.xdb_laws.proofs.InstallLaws.{install-marks}
use Rattle.xdb_laws.proofs.PlaceLaws.{numbered-item}
use Rattle.xdb_laws.proofs.TouchLaws.{newest-untouched}

-- ---- two contents that say the same in some ranges

-- at a number the two say the same of each key of the ranges
abbrev pub AgreeIn : List Bounds → ℕ → List Item → List Item → Type 0
AgreeIn ranges limit c d = (r : Bounds) (k : List ℕ) → Has ranges r → holds r k ≡ true → newest d limit k ≡ newest c limit k

pub get-image : (c d : List Item) (limit : ℕ) (k : List ℕ) → newest d limit k ≡ newest c limit k → map.get (image d limit) k ≡ map.get (image c limit) k
get-image c d limit k e = image-is d limit k ∙ ap (λ o. value_of (said_by o)) e ∙ sym (image-is c limit k)

shown-along : (ranges : List Bounds) (mark : ℕ) (copy : PlainMap) (c d : List Item) → AgreeIn ranges mark c d → ShowsCopy ranges mark copy c → ShowsCopy ranges mark copy d
shown-along ranges mark copy c d same shown = λ r has k held. get-image c d mark k (same r k has held) ∙ shown r has k held

pub kept-along : (state : SnapState) (ranges : List Bounds) (mark : ℕ) (copy : PlainMap) (c d held : List Item) → AgreeIn ranges mark c d → CopyIsShown state ranges mark copy c held → CopyIsShown state ranges mark copy d held
kept-along (Pinned group) ranges mark copy c d held same shown = shown-along ranges mark copy c d same shown
kept-along FileOnly ranges mark copy c d held same shown = shown
kept-along (Excised load) ranges mark copy c d held same shown = tt

pub kept-image : (state : SnapState) (ranges : List Bounds) (mark : ℕ) (copy : PlainMap) (c d held : List Item) → image c mark ≡ image d mark → CopyIsShown state ranges mark copy c held → CopyIsShown state ranges mark copy d held
kept-image (Pinned group) ranges mark copy c d held same shown = λ r has k at_k. ap (λ m. map.get m k) (sym same) ∙ shown r has k at_k
kept-image FileOnly ranges mark copy c d held same shown = shown
kept-image (Excised load) ranges mark copy c d held same shown = tt

-- a file-only snapshot depends on its held version alone
pub kept-held : (state : SnapState) (ranges : List Bounds) (mark : ℕ) (copy : PlainMap) (c d held : List Item) → is_file_only state ≡ true → CopyIsShown state ranges mark copy c held → CopyIsShown state ranges mark copy d held
kept-held (Pinned group) ranges mark copy c d held e shown = absurd (false≢true e)
kept-held FileOnly ranges mark copy c d held e shown = shown
kept-held (Excised load) ranges mark copy c d held e shown = tt

-- ---- a commit

pub committed-unseen : (ops : List (ℕ × Op)) (tables : List Item) (next limit : ℕ) (more : List Op) (k : List ℕ) → limit ≤ next → newest (items (ops ++ numbered next more) ++ tables) limit k ≡ newest (items ops ++ tables) limit k
committed-unseen ops tables next limit more k low =
    newest-append (items (ops ++ numbered next more)) tables limit k
    ∙ ap (λ c. newer (newest c limit k) (newest tables limit k)) (map-append (λ x. item_at x.0 x.1) ops (numbered next more))
    ∙ ap (λ o. newer o (newest tables limit k)) (newest-append (items ops) (items (numbered next more)) limit k
    ∙ ap (newer (newest (items ops) limit k)) (newest_unseen (items (numbered next more)) limit k (λ i h. let high = (numbered-item next more i h).0 in omega arith))
    ∙ newer-none (newest (items ops) limit k))
    ∙ sym (newest-append (items ops) tables limit k)

pub kept-committed : (s : Snapshot) (ops : List (ℕ × Op)) (tables held : List Item) (next : ℕ) (more : List Op) → s.mark ≤ next → KeepsCopy s (items ops ++ tables) held → KeepsCopy s (items (ops ++ numbered next more) ++ tables) held
kept-committed s ops tables held next more low =
    kept-along s.state s.ranges s.mark s.copy (items ops ++ tables) (items (ops ++ numbered next more) ++ tables) held (λ r k has at_k. committed-unseen ops tables next s.mark more k low)

-- ---- the making, and the turn

-- where no group touches the ranges below the mark, all is said by the tables
tables-say : (ranges : List Bounds) (mark : ℕ) (gs : List Group) (tables : List Item) → last_touching ranges mark gs ≡ None → AgreeIn ranges mark (items (all_ops gs) ++ tables) tables
tables-say ranges mark gs tables none = λ r k has held.
    sym (newest-append (items (all_ops gs)) tables mark k ∙ ap (λ o. newer o (newest tables mark k)) (newest-untouched ranges mark gs r k none has held))

made-by : (last : Option ℕ) (ranges : List Bounds) (mark : ℕ) (copy : PlainMap) (gs : List Group) (tables : List Item) → last_touching ranges mark gs ≡ last → ShowsCopy ranges mark copy (items (all_ops gs) ++ tables) → CopyIsShown (state_by last) ranges mark copy (items (all_ops gs) ++ tables) tables
made-by None ranges mark copy gs tables none shown = shown-along ranges mark copy (items (all_ops gs) ++ tables) tables (tables-say ranges mark gs tables none) shown
made-by (Some group) ranges mark copy gs tables some shown = shown

pub made-shows : (p : Plain) (name : List ℕ) (ranges : List Bounds) (tables : List Item) → IsImage (items (all_ops (groups p)) ++ tables) p.next p.map → KeepsCopy (new_snap p name ranges) (items (all_ops (groups p)) ++ tables) tables
made-shows p name ranges tables is =
    let all = items (all_ops (groups p)) ++ tables in
    made-by (last_touching ranges p.next (groups p)) ranges p.next p.map (groups p) tables refl (λ r has k held. image-is all p.next k ∙ sym (is k))

is_none-tells : (o : Option ℕ) → is_none o ≡ true → o ≡ None
is_none-tells None e = refl
is_none-tells (Some x) e = absurd (false≢true e)

turned-by : (t : Bool) (state : SnapState) (ranges : List Bounds) (mark : ℕ) (copy : PlainMap) (gs : List Group) (tables held : List Item) → (is_pinned state && is_none (last_touching ranges mark gs)) ≡ t
    → CopyIsShown state ranges mark copy (items (all_ops gs) ++ tables) held → CopyIsShown (cond t FileOnly state) ranges mark copy (items (all_ops gs) ++ tables) (cond t tables held)
turned-by true (Pinned group) ranges mark copy gs tables held e shown =
    shown-along ranges mark copy (items (all_ops gs) ++ tables) tables (tables-say ranges mark gs tables (is_none-tells (last_touching ranges mark gs) e)) shown
turned-by true FileOnly ranges mark copy gs tables held e shown = absurd (false≢true e)
turned-by true (Excised load) ranges mark copy gs tables held e shown = absurd (false≢true e)
turned-by false state ranges mark copy gs tables held e shown = shown

pub turned-shows : (gs : List Group) (s : Snapshot) (tables held : List Item) → KeepsCopy s (items (all_ops gs) ++ tables) held → KeepsCopy (turned gs s) (items (all_ops gs) ++ tables) (cond (turns gs s) tables held)
turned-shows gs s tables held shown = turned-by (turns gs s) s.state s.ranges s.mark s.copy gs tables held refl shown

-- ---- an install

any-meets : (out : Bounds) (ranges : List Bounds) (r : Bounds) (k : List ℕ) → any_meet (out ∷ []) ranges ≡ false → Has ranges r → holds r k ≡ true → holds out k ≡ false
any-meets out ranges r k none has held = elim (cases_Bool (holds out k)) [
  | inl e ↦ absurd (false≢true (sym (or_parts (list_any (meets out) ranges) false none).0 ∙ any-from (meets out) ranges r has (meets-from_held out r k e held)))
  | inr e ↦ e
]

uncut : (out : Option Bounds) (ranges : List Bounds) (r : Bounds) (k : List ℕ) → any_meet (span_list out) ranges ≡ false → Has ranges r → holds r k ≡ true → is_cut out k ≡ false
uncut None ranges r k none has held = refl
uncut (Some out) ranges r k none has held = any-meets out ranges r k none has held

installed-by : (load : List ℕ) (met : Bool) (state : SnapState) (ranges : List Bounds) (mark : ℕ) (copy : PlainMap) (c d held : List Item) → (met ≡ false → AgreeIn ranges mark c d)
    → CopyIsShown state ranges mark copy c held → CopyIsShown (cond (is_pinned state && met) (Excised load) state) ranges mark copy d held
installed-by load true (Pinned group) ranges mark copy c d held same shown = tt
installed-by load false (Pinned group) ranges mark copy c d held same shown = shown-along ranges mark copy c d (same refl) shown
installed-by load met FileOnly ranges mark copy c d held same shown = shown
installed-by load met (Excised other) ranges mark copy c d held same shown = tt

pub installed-shows : (x : Install) (held : List Item) (load : List ℕ) (s : Snapshot) → IsInstall x → s.mark ≤ x.next → KeepsCopy s x.old held → KeepsCopy (excised load x.out s) x.new held
installed-shows x held load s is low shown =
    installed-by load (any_meet (span_list x.out) s.ranges) s.state s.ranges s.mark s.copy x.old x.new held
    (λ none r k has at_k. install-marks x is s.mark k low (uncut x.out s.ranges r k none has at_k)) shown
