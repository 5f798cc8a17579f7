-- Files for one table after another.
use Rattle.std.proofs.Common.{◌≡◌, ℕ, ◌+◌, ◌^◌, ◌<◌, ◌≤◌, List, [], ◌∷◌, ◌++◌, length, get_or, take, Option, Some, None, IfSome, Ok, Err, nat_eq, refl, sym, ap, ◌∙◌, subst, arith}
use Rattle.std.proofs.lemmas.List.{take_more, take_all, take-map, get_or-map, length-map, map-append}
use Rattle.std.specs.List.{IsDistinct}
use Rattle.xdb_device.specs.Told.{Told, Created}
use Rattle.xdb_device.specs.Work.{cause_of}
use Rattle.xdb_device.specs.declared.fault.DevNo.{DevNo}
use Rattle.xdb_device.specs.declared.fault.WorkCause.TheVariants as causes
use Rattle.xdb_rangedel.specs.Members.{Has}
use Rattle.xdb_key.specs.Entries.{Reach}
use Rattle.xdb_key.specs.declared.op.Op.{Op}
use Rattle.xdb_work.proofs.WorkLaws.{apart, tried_none, tried_more, tried_failed, tried_next, tried_where, first_numbers, held_none, held_more}
use Rattle.xdb_ext.specs.Loads.{FitsTable, FitsLoad, Written, numbered_files}
use Rattle.xdb_ext.specs.Operations.{IsFileOf}
use Rattle.xdb_ext.specs.TableBounds.{IsExtentOf}
use Rattle.xdb_work.specs.Work.{IsNext, nums_of, AreFirst, Tried, AreHeld}

-- the place of a table's number
pub table_at : (tables : List (ℕ × List Op)) (i : ℕ) (t : ℕ × List Op) → i < length tables → t ≡ get_or tables i t → IsNext (nums_of tables) i t.0
table_at tables i t inside is = record {
  inside = omega (arith, length-map tables (λ (x : ℕ × List Op). x.0));
  is = ap (λ (x : ℕ × List Op). x.0) is ∙ sym (get_or-map (λ (x : ℕ × List Op). x.0) tables i t t.0 inside);
}

module _ {F : Type 0} (size : F → ℕ) (bytes : F → Option (List ℕ)) where
  fits_push : (ts : List (ℕ × List Op)) (fs : List (ℕ × Reach × F)) (t : ℕ × List Op) (f : ℕ × Reach × F) → FitsLoad size bytes ts fs → FitsTable size bytes t f → FitsLoad size bytes (ts ++ t ∷ []) (fs ++ f ∷ [])
  fits_push [] [] t f all fits = (fits, tt)
  fits_push [] (g ∷ fs) t f all fits = absurd all
  fits_push (u ∷ ts) [] t f all fits = absurd all
  fits_push (u ∷ ts) (g ∷ fs) t f all fits = (all.0, fits_push ts fs t f all.1 fits)

  pub fits_more : (tables : List (ℕ × List Op)) (i : ℕ) (t : ℕ × List Op) (fs : List (ℕ × Reach × F)) (f : ℕ × Reach × F) → i < length tables → t ≡ get_or tables i t → FitsLoad size bytes (take i tables) fs → FitsTable size bytes t f → FitsLoad size bytes (take (i + 1) tables) (fs ++ f ∷ [])
  fits_more tables i t fs f inside is all fits =
      subst (λ ts. FitsLoad size bytes ts (fs ++ f ∷ [])) (sym (take_more tables i t inside ∙ ap (λ x. take i tables ++ x ∷ []) (sym is))) (fits_push (take i tables) fs t f all fits)

  pub fits_numbers : (ts : List (ℕ × List Op)) (fs : List (ℕ × Reach × F)) → FitsLoad size bytes ts fs → nums_of (numbered_files fs) ≡ nums_of ts
  fits_numbers [] [] all = refl
  fits_numbers [] (f ∷ fs) all = absurd all
  fits_numbers (t ∷ ts) [] all = absurd all
  fits_numbers (t ∷ ts) (f ∷ fs) all = λ i. all.0.num i ∷ fits_numbers ts fs all.1 i

  pub numbers_so_far : (tables : List (ℕ × List Op)) (i : ℕ) (fs : List (ℕ × Reach × F)) → FitsLoad size bytes (take i tables) fs → nums_of (numbered_files fs) ≡ take i (nums_of tables)
  numbers_so_far tables i fs all = fits_numbers (take i tables) fs all ∙ sym (take-map (λ (x : ℕ × List Op). x.0) i tables)

  pub numbered_push : (fs : List (ℕ × Reach × F)) (f : ℕ × Reach × F) → numbered_files (fs ++ f ∷ []) ≡ numbered_files fs ++ (f.0, f.2) ∷ []
  numbered_push fs f = map-append (λ (x : ℕ × Reach × F). (x.0, x.2)) fs (f ∷ [])

  -- ---- a file is written for each table

  written_none : (tables : List (ℕ × List Op)) (t : Told) → Written size bytes tables 0 [] [] t t
  written_none tables t = record {
    fits = tt;
    numbers = refl;
    told = tried_none (nums_of tables) t;
    held = λ _. held_none size bytes t.holds;
  }

  pub written_first : (tables : List (ℕ × List Op)) (tried : List ℕ) (files : List (ℕ × Reach × F)) (t : Told) → tried ≡ [] → files ≡ [] → Written size bytes tables 0 tried files t t
  written_first tables tried files t no_number no_file =
      subst (λ ns. Written size bytes tables 0 ns files t t) (sym no_number) (subst (λ fs. Written size bytes tables 0 [] fs t t) (sym no_file) (written_none tables t))

  -- a file of the table, as it was made and as it was created
  pub record Made (t : ℕ × List Op) (made seen : List ℕ) (extent : Reach) (file : F) : Type 0 where
    pub content : IsFileOf t.1 made
    pub bounds : IsExtentOf t.1 extent
    pub long : (1 ≤ length made) × (length made < 2 ^ 56)
    pub is_seen : seen ≡ made
    pub len : size file ≡ length seen
    pub told : IfSome (bytes file) (λ told. told ≡ seen)

  -- what is told is a file of the table
  told_content : (t : ℕ × List Op) (made seen : List ℕ) (known : Option (List ℕ)) → IsFileOf t.1 made → seen ≡ made → IfSome known (λ told. told ≡ seen) → IfSome known (IsFileOf t.1)
  told_content t made seen None content is told = tt
  told_content t made seen (Some bs) content is told = subst (IsFileOf t.1) (sym (told ∙ is)) content

  made_fits : (t : ℕ × List Op) (made seen : List ℕ) (extent : Reach) (file : F) → Made t made seen extent file → FitsTable size bytes t (t.0, extent, file)
  made_fits t made seen extent file m =
      let len : size file ≡ length made = m.len ∙ ap length m.is_seen in
      record {
        num = refl;
        extent = m.bounds;
        long = (omega (arith, m.long.0, len), omega (arith, m.long.1, len));
        content = told_content t made seen (bytes file) m.content m.is_seen m.told;
      }

  pub written_more : (tables : List (ℕ × List Op)) (i : ℕ) (t : ℕ × List Op) (tried tried' : List ℕ) (files files' : List (ℕ × Reach × F)) (made seen : List ℕ) (extent : Reach) (file : F) (old mid new : Told) → i < length tables → t ≡ get_or tables i t
      → Written size bytes tables i tried files old mid → tried' ≡ tried ++ t.0 ∷ [] → files' ≡ files ++ (t.0, extent, file) ∷ [] → Made t made seen extent file → Created t.0 seen (Ok file) mid new → Written size bytes tables (i + 1) tried' files' old new
  written_more tables i t tried tried' files files' made seen extent file old mid new inside is w tried_is files_is m c =
      let at = table_at tables i t inside is in
      let none_before : IsDistinct nat_eq (nums_of tables) → Has (nums_of (numbered_files files)) t.0 → ⊥ =
      λ distinct has. apart (nums_of tables) i t.0 distinct at (subst (λ ns. Has ns t.0) (numbers_so_far tables i files w.fits) has) in
      record {
        fits = subst (FitsLoad size bytes (take (i + 1) tables)) (sym files_is) (fits_more tables i t files (t.0, extent, file) inside is w.fits (made_fits t made seen extent file m));
        numbers = tried_next (nums_of tables) i t.0 tried tried' at w.numbers tried_is;
        told = tried_more (nums_of tables) i t.0 seen file old mid new at w.told c;
        held = λ distinct.
            subst (AreHeld size bytes new.holds) (sym (ap numbered_files files_is ∙ numbered_push files (t.0, extent, file)))
            (held_more size bytes mid.holds new.holds t.0 seen file (numbered_files files) (none_before distinct) c.held (sym m.len) m.told (w.held distinct));
      }

  -- all tables are written
  pub record Whole (tables : List (ℕ × List Op)) (tried : List ℕ) (files : List (ℕ × Reach × F)) (old new : Told) : Type 0 where
    pub fits : FitsLoad size bytes tables files
    pub all : tried ≡ nums_of tables
    pub first : tried ≡ take (length tried) (nums_of tables)
    pub told : Tried (nums_of tables) tried ⊥ old new
    pub held : IsDistinct nat_eq (nums_of tables) → AreHeld size bytes new.holds (numbered_files files)

  pub whole : (tables : List (ℕ × List Op)) (i : ℕ) (tried : List ℕ) (files : List (ℕ × Reach × F)) (old new : Told) → length tables ≤ i → Written size bytes tables i tried files old new → Whole tables tried files old new
  whole tables i tried files old new end w =
      let count = length-map tables (λ (x : ℕ × List Op). x.0) in
      let every : take i (nums_of tables) ≡ nums_of tables = take_all i (nums_of tables) (omega (arith, count)) in
      let all : tried ≡ nums_of tables = w.numbers ∙ every in
      record {
        fits = subst (λ ts. FitsLoad size bytes ts files) (take_all i tables end) w.fits;
        all = all;
        first = all ∙ sym (take_all (length tried) (nums_of tables) (omega (arith, ap length all)));
        told = subst (λ ns. Tried (nums_of tables) ns ⊥ old new) (every ∙ sym all) w.told;
        held = w.held;
      }

  -- the work stopped, for a cause that lets the last number lack or not
  pub record Stopped (tables : List (ℕ × List Op)) (tried : List ℕ) (lacks : Type 0) (old new : Told) : Type 0 where
    pub first : tried ≡ take (length tried) (nums_of tables)
    pub told : Tried (nums_of tables) tried lacks old new

  -- no further file was tried
  pub stopped : (tables : List (ℕ × List Op)) (i : ℕ) (tried : List ℕ) (files : List (ℕ × Reach × F)) (lacks : Type 0) (old new : Told) → i ≤ length tables → Written size bytes tables i tried files old new → Stopped tables tried lacks old new
  stopped tables i tried files lacks old new inside w =
      let count = length-map tables (λ (x : ℕ × List Op). x.0) in
      record {
        first = first_numbers (nums_of tables) tried i (omega (arith, count)) w.numbers;
        told = tried_where (nums_of tables) tried old new (λ never. absurd never) (subst (λ ns. Tried (nums_of tables) ns ⊥ old new) (sym w.numbers) w.told);
      }

  -- the next file wasn't created
  pub stopped_at : (tables : List (ℕ × List Op)) (i : ℕ) (t : ℕ × List Op) (tried tried' : List ℕ) (files : List (ℕ × Reach × F)) (seen : List ℕ) (why : DevNo) (lacks : Type 0) (old mid new : Told) → i < length tables → t ≡ get_or tables i t
      → Written size bytes tables i tried files old mid → tried' ≡ tried ++ t.0 ∷ [] → Created {F = F} t.0 seen (Err why) mid new → (cause_of why ≡ causes.Memory → lacks) → Stopped tables tried' lacks old new
  stopped_at tables i t tried tried' files seen why lacks old mid new inside is w tried_is c means =
      let count = length-map tables (λ (x : ℕ × List Op). x.0) in
      let at = table_at tables i t inside is in
      let numbers = tried_next (nums_of tables) i t.0 tried tried' at w.numbers tried_is in
      record {
        first = first_numbers (nums_of tables) tried' (i + 1) (omega (arith, count, inside)) numbers;
        told = tried_where (nums_of tables) tried' old new means (subst (λ ns. Tried (nums_of tables) ns (cause_of why ≡ causes.Memory) old new) (sym numbers) (tried_failed (nums_of tables) i t.0 seen why old mid new at w.told c));
      }

  -- the numbers of all files, as those that were tried
  pub given_first : (given tables : List (ℕ × List Op)) (files : List (ℕ × Reach × F)) → tables ≡ given → FitsLoad size bytes tables files → AreFirst (nums_of given) (nums_of (numbered_files files))
  given_first given tables files is fits =
      let all : nums_of (numbered_files files) ≡ nums_of given = fits_numbers tables files fits ∙ ap nums_of is in
      all ∙ sym (take_all (length (nums_of (numbered_files files))) (nums_of given) (omega (arith, ap length all)))

  pub given_told : {P : Type 0} (given tables : List (ℕ × List Op)) (tried : List ℕ) (files : List (ℕ × Reach × F)) (old new : Told) → (P → ⊥) → tables ≡ given → FitsLoad size bytes tables files → tried ≡ nums_of tables → Tried (nums_of tables) tried P old new
      → Tried (nums_of given) (nums_of (numbered_files files)) ⊥ old new
  given_told {P} given tables tried files old new never is fits all told =
      subst (λ ns. Tried (nums_of given) ns ⊥ old new) (all ∙ sym (fits_numbers tables files fits))
      (subst (λ ts. Tried (nums_of ts) tried ⊥ old new) is (tried_where (nums_of tables) tried old new never told))
