-- A flush: its one table, and what its device tells.
use Rattle.std.proofs.Common.{◌≡◌, ℕ, ◌+◌, ◌<◌, ◌≤◌, List, [], ◌∷◌, ◌++◌, length, take, Option, Some, None, IfSome, Ok, Err, refl, sym, ap, ◌∙◌, subst, arith}
use Rattle.std.proofs.lemmas.List.FromFn.{length-range_with_len, get_or-range_with_len}
use Rattle.xdb_device.specs.Told.{Told, Created}
use Rattle.xdb_device.specs.Work.{cause_of}
use Rattle.xdb_device.specs.declared.fault.DevNo.{DevNo}
use Rattle.xdb_device.specs.declared.fault.WorkCause.TheVariants as causes
use Rattle.xdb_halves.specs.Beside.{IsExtent}
use Rattle.xdb_key.specs.Entries.{Point, Tombstone, Reach}
use Rattle.xdb_mem.specs.Parts.{Parts}
use Rattle.xdb_meta.specs.Table.{Table, physical}
use Rattle.xdb_rangedel.specs.Content.{Item, content_of}
use Rattle.xdb_rangedel.specs.Members.{SameMembers}
use Rattle.xdb_stripes.specs.declared.floor.Floor.{Floor}
use Rattle.xdb_stripes.specs.declared.floor.Floor.TheVariants as floors
use Rattle.xdb_stripes.specs.Thinned.{thinned}
use Rattle.xdb_work.proofs.WorkLaws.{tried_none, tried_more, tried_failed, tried_next, tried_where, first_numbers, held_none, held_more}
use Rattle.xdb_work.specs.Work.{IsNext, AreFirst, Tried, AreHeld}
use Rattle.xdb_build.proofs.ReachLaws.{extent_same}
use Rattle.xdb_build.proofs.StayLaws.{something_stays}
use Rattle.xdb_build.specs.Fits.{IsFlushed}
use Rattle.xdb_build.specs.Given.{Given, IsGiven, reserved, mem_content, left_of}
use Rattle.xdb_build.specs.Outputs.{HasFragments, IsInFile, IsPair, reach_of, file_content}

-- what a table that was created is of: its bytes hold a content, within an extent
pub record Made (num : ℕ) (e : Reach) (made : List ℕ) (c : List Item) (t : Table) : Type 0 where
  pub table : t ≡ physical num e 0 (length made)
  pub content : file_content made ≡ c
  pub extent : IsExtent c (Some e)
  pub fragments : HasFragments c

-- what thinning left of the memtables' content
pub left_is : {F : Type 0} (g : Given F) (mem : Parts) (es seen kept : List Point) (ss over : List Tombstone) (stripes : List ℕ) (floor : Floor) → mem ≡ g.mem → es ≡ mem.entries → ss ≡ mem.spans → stripes ≡ g.stripes → floor ≡ g.floor → seen ≡ kept
    → SameMembers (content_of kept over) (thinned (content_of es ss) stripes floor) → SameMembers (content_of seen over) (left_of g (mem_content g))
left_is g mem es seen kept ss over stripes floor mem_is es_are ss_are stripes_are floor_is seen_is same =
    let entries = es_are ∙ ap (λ (m : Parts). m.entries) mem_is in
    let spans = ss_are ∙ ap (λ (m : Parts). m.spans) mem_is in
    let all : thinned (content_of es ss) stripes floor ≡ left_of g (mem_content g) = λ i. thinned (content_of (entries i) (spans i)) (stripes_are i) (floor_is i) in
    subst (λ ps. SameMembers (content_of ps over) (left_of g (mem_content g))) (sym seen_is) (subst (SameMembers (content_of kept over)) all same)

pub some_left : {F : Type 0} (g : Given F) (seen : List Point) (over : List Tombstone) → g.floor ≡ floors.All → 1 ≤ length g.mem.entries + length g.mem.spans → SameMembers (content_of seen over) (left_of g (mem_content g)) → 1 ≤ length seen + length over
some_left g seen over whole some same =
    something_stays g.mem.entries seen g.mem.spans over g.stripes some (subst (λ f. SameMembers (content_of seen over) (thinned (mem_content g) g.stripes f)) whole same)

module _ {F : Type 0} (size : F → ℕ) (bytes : F → Option (List ℕ)) where
  pub in_file : (num : ℕ) (extent : Reach) (made : List ℕ) (t : Table) (file : F) → t ≡ physical num extent 0 (length made) → size file ≡ length made → IsInFile size t (num, file)
  in_file num extent made t file is len =
      subst (λ x. IsInFile size x (num, file)) (sym is) (record { num = refl; own = ap (physical num extent 0) (sym len) })

  told_content : (known : Option (List ℕ)) (made : List ℕ) (c d : List Item) → file_content made ≡ c → SameMembers c d → IfSome known (λ told. told ≡ made) → IfSome known (λ b. SameMembers (file_content b) d)
  told_content None made c d is same told = tt
  told_content (Some b) made c d is same told = subst (λ x. SameMembers x d) (sym (ap file_content told ∙ is)) same

  told_fragments : (known : Option (List ℕ)) (made : List ℕ) (c : List Item) → file_content made ≡ c → HasFragments c → IfSome known (λ told. told ≡ made) → IfSome known (λ b. HasFragments (file_content b))
  told_fragments None made c is h told = tt
  told_fragments (Some b) made c is h told = subst HasFragments (sym (ap file_content told ∙ is)) h

  pub flushed : (g : Given F) (num : ℕ) (extent : Reach) (made : List ℕ) (c : List Item) (t : Table) (file : F) → num ≡ g.first → Made num extent made c t → SameMembers c (left_of g (mem_content g)) → size file ≡ length made → IfSome (bytes file) (λ told. told ≡ made)
      → IsFlushed size bytes g t (num, file)
  flushed g num extent made c t file first m same len told = record {
    num = ap (λ (x : Table). x.num) m.table ∙ first;
    own = in_file num extent made t file m.table len;
    reach = extent_same c (left_of g (mem_content g)) (Some (reach_of t)) same (subst (λ (x : Table). IsExtent c (Some (reach_of x))) (sym m.table) m.extent);
    content = told_content (bytes file) made c (left_of g (mem_content g)) m.content same told;
    fragments = told_fragments (bytes file) made c m.content m.fragments told;
  }

  pub one : (g : Given F) (tables : List Table) (files : List (ℕ × F)) (t : Table) (file : ℕ × F) → tables ≡ t ∷ [] → files ≡ file ∷ [] → IsFlushed size bytes g t file → IsPair (IsFlushed size bytes g) tables files
  one g tables files t file tables_are files_are h =
      subst (λ ts. IsPair (IsFlushed size bytes g) ts files) (sym tables_are) (subst (λ fs. IsPair (IsFlushed size bytes g) (t ∷ []) fs) (sym files_are) h)

  pub held_one : {X : Type 0} (x : X) (num : ℕ) (made : List ℕ) (file : F) (files : List (ℕ × F)) (old new : Told) → files ≡ (num, file) ∷ [] → size file ≡ length made → IfSome (bytes file) (λ told. told ≡ made) → Created num made (Ok x) old new
      → AreHeld size bytes new.holds files
  held_one x num made file files old new are len told c =
      subst (AreHeld size bytes new.holds) (sym are)
      (held_more size bytes old.holds new.holds num made file [] (λ never. never) c.held (sym len) told (held_none size bytes old.holds))

-- ---- the reserved numbers

-- the number at a place among the reserved ones
pub next : {F : Type 0} (g : Given F) (i num : ℕ) → i < g.count → num ≡ g.first + i → IsNext (reserved g) i num
next g i num inside is = record {
  inside = omega (arith, length-range_with_len g.first g.count, inside);
  is = is ∙ sym (get_or-range_with_len g.first g.count i num inside);
}

-- what is kept where one number was tried, and where none was
pub record TriedOne {F : Type 0} (g : Given F) (tried : List ℕ) (lacks : Type 0) (old new : Told) : Type 0 where
  pub first : AreFirst (reserved g) tried
  pub told : Tried (reserved g) tried lacks old new

first_is : {F : Type 0} (g : Given F) (num : ℕ) → IsGiven g → num ≡ g.first → IsNext (reserved g) 0 num
first_is g num given is = next g 0 num (omega (arith, given.count)) (omega (arith, is))

one_tried : {F : Type 0} (g : Given F) (num : ℕ) (old_tried tried : List ℕ) → IsGiven g → num ≡ g.first → old_tried ≡ [] → tried ≡ old_tried ++ num ∷ [] → tried ≡ take 1 (reserved g)
one_tried g num old_tried tried given is none made = tried_next (reserved g) 0 num old_tried tried (first_is g num given is) none made

pub nothing_tried : {F : Type 0} (g : Given F) (tried : List ℕ) (lacks : Type 0) (t : Told) → tried ≡ [] → TriedOne g tried lacks t t
nothing_tried g tried lacks t none =
    subst (λ ns. TriedOne g ns lacks t t) (sym none) (record { first = refl; told = tried_where (reserved g) [] t t (λ never. absurd never) (tried_none (reserved g) t) })

count_some : {F : Type 0} (g : Given F) → IsGiven g → 1 ≤ length (reserved g)
count_some g given = omega (arith, length-range_with_len g.first g.count, given.count)

pub one_created : {F X : Type 0} (g : Given F) (num : ℕ) (old_tried tried made : List ℕ) (x : X) (lacks : Type 0) (old new : Told) → IsGiven g → num ≡ g.first → old_tried ≡ [] → tried ≡ old_tried ++ num ∷ [] → Created num made (Ok x) old new → TriedOne g tried lacks old new
one_created g num old_tried tried made x lacks old new given is none made_is c =
    let tried_is = one_tried g num old_tried tried given is none made_is in
    record {
      first = first_numbers (reserved g) tried 1 (count_some g given) tried_is;
      told = subst (λ ns. Tried (reserved g) ns lacks old new) (sym tried_is)
          (tried_where (reserved g) (take 1 (reserved g)) old new (λ never. absurd never) (tried_more (reserved g) 0 num made x old old new (first_is g num given is) (tried_none (reserved g) old) c));
    }

pub one_failed : {F X : Type 0} (g : Given F) (num : ℕ) (old_tried tried made : List ℕ) (why : DevNo) (lacks : Type 0) (old new : Told) → IsGiven g → num ≡ g.first → old_tried ≡ [] → tried ≡ old_tried ++ num ∷ [] → Created {F = X} num made (Err why) old new
    → (cause_of why ≡ causes.Memory → lacks) → TriedOne g tried lacks old new
one_failed g num old_tried tried made why lacks old new given is none made_is c means =
    let tried_is = one_tried g num old_tried tried given is none made_is in
    record {
      first = first_numbers (reserved g) tried 1 (count_some g given) tried_is;
      told = subst (λ ns. Tried (reserved g) ns lacks old new) (sym tried_is)
          (tried_where (reserved g) (take 1 (reserved g)) old new means (tried_failed (reserved g) 0 num made why old old new (first_is g num given is) (tried_none (reserved g) old) c));
    }
