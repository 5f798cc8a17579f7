-- Writing an edit list after list.
use Rattle.std.proofs.Common.{◌≡◌, ℕ, true, List, [], ◌++◌, map, sym, ap, ◌∙◌}
use Rattle.std.specs.List.{flat_map, list_all}
use Rattle.std.proofs.lemmas.Bool.{and_parts}
use Rattle.std.proofs.lemmas.List.Concat.{flat_map-append}
use Rattle.std.proofs.lemmas.List.Folds.{flat_map-map, list_all-append, list_all-map}
use Rattle.xdb_meta.specs.Table.{Table, is_number}
use Rattle.xdb_edit.specs.declared.record.Record.{Record}
use Rattle.xdb_edit.specs.declared.record.Record.TheVariants.{Removed, NewBacking, Added}
use Rattle.xdb_edit.specs.Changes.{Changes}
use Rattle.xdb_edit.specs.Records.{records_of, fits}
use Rattle.xdb_edit.specs.Spelling.{record_bytes, edit_bytes}

abbrev as_removed : ℕ × ℕ → Record
as_removed p = Removed p.0 p.1

abbrev as_added : ℕ × Table → Record
as_added p = Added p.0 p.1

front_fits : (e : Changes) → list_all fits (records_of e) ≡ true → list_all fits (map as_removed e.removed ++ map NewBacking e.new_backings) ≡ true
front_fits e h =
    let a = map as_removed e.removed ++ map NewBacking e.new_backings in
    let c = map as_added e.added in
    (and_parts (list_all fits a) (list_all fits c) (sym (list_all-append fits a c) ∙ h)).0

parts_fit : (e : Changes) → list_all fits (records_of e) ≡ true → (list_all fits (map as_removed e.removed) ≡ true) × (list_all fits (map NewBacking e.new_backings) ≡ true)
parts_fit e h =
    let a = map as_removed e.removed in
    let b = map NewBacking e.new_backings in
    and_parts (list_all fits a) (list_all fits b) (sym (list_all-append fits a b) ∙ front_fits e h)

pub removed_fit : (e : Changes) (xs : List (ℕ × ℕ)) → xs ≡ e.removed → list_all fits (records_of e) ≡ true → list_all (λ p. fits (Removed p.0 p.1)) xs ≡ true
removed_fit e xs is h = ap (list_all (λ p. fits (Removed p.0 p.1))) is ∙ sym (list_all-map fits as_removed e.removed) ∙ (parts_fit e h).0

pub new_backings_fit : (e : Changes) (xs : List ℕ) → xs ≡ e.new_backings → list_all fits (records_of e) ≡ true → list_all is_number xs ≡ true
new_backings_fit e xs is h = ap (list_all is_number) is ∙ sym (list_all-map fits NewBacking e.new_backings) ∙ (parts_fit e h).1

-- three lists, each written behind the one before
pub written : (e : Changes) (xs : List (ℕ × ℕ)) (ys : List ℕ) (zs : List (ℕ × Table)) (a b c d : List ℕ) → xs ≡ e.removed → ys ≡ e.new_backings → zs ≡ e.added
    → a ≡ [] → b ≡ a ++ flat_map (λ p. record_bytes (Removed p.0 p.1)) xs → c ≡ b ++ flat_map (λ num. record_bytes (NewBacking num)) ys → d ≡ c ++ flat_map (λ p. record_bytes (Added p.0 p.1)) zs → d ≡ edit_bytes e
written e xs ys zs a b c d x y z none first second third =
    let p = map as_removed e.removed in
    let q = map NewBacking e.new_backings in
    let r = map as_added e.added in
    let removed : flat_map (λ p. record_bytes (Removed p.0 p.1)) xs ≡ flat_map record_bytes p = ap (flat_map (λ p. record_bytes (Removed p.0 p.1))) x ∙ sym (flat_map-map record_bytes as_removed e.removed) in
    let new_backings : flat_map (λ num. record_bytes (NewBacking num)) ys ≡ flat_map record_bytes q = ap (flat_map (λ num. record_bytes (NewBacking num))) y ∙ sym (flat_map-map record_bytes NewBacking e.new_backings) in
    let added : flat_map (λ p. record_bytes (Added p.0 p.1)) zs ≡ flat_map record_bytes r = ap (flat_map (λ p. record_bytes (Added p.0 p.1))) z ∙ sym (flat_map-map record_bytes as_added e.added) in
    let one : b ≡ flat_map record_bytes p = first ∙ (λ i. none i ++ removed i) in
    let two : c ≡ flat_map record_bytes (p ++ q) = second ∙ (λ i. one i ++ new_backings i) ∙ sym (flat_map-append record_bytes p q) in
    third ∙ (λ i. two i ++ added i) ∙ sym (flat_map-append record_bytes (p ++ q) r)
