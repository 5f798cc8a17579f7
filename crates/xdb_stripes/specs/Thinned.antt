-- What thinning leaves of a content: of what speaks of one key in one stripe the newest alone, and no delete that
-- hides nothing. Each rule is asked of an item and of all items, where spans are cut into pieces at their bounds.
use Rattle.std.specs.Prelude.{ℕ, Bool, false, not, ◌&&◌, ◌||◌, ◌==◌, List, Some, None}
use Rattle.std.specs.List.{list_any, filter}
use Rattle.xdb_key.specs.Bounds.{Bounds, holds}
use Rattle.xdb_key.specs.Entries.{Point, Tombstone}
use Rattle.xdb_rangedel.specs.Content.{Item, entry, span, same_key, in_pieces, entry_of, content_of}
use Rattle.xdb_stripes.specs.declared.floor.Floor.{Floor}
use Rattle.xdb_stripes.specs.Stripes.{stripe, outranks}
use Rattle.xdb_stripes.specs.Floors.{floor_holds, floor_meets}

abbrev pub same_bounds : Bounds → Bounds → Bool
same_bounds r o = same_key r.lo o.lo && same_key r.hi o.hi

-- the item is an entry of the key, above the number and in its stripe
abbrev pub shadows : List ℕ → List ℕ → ℕ → Item → Bool
shadows stripes key seq (entry k s value) = same_key k key && outranks stripes s seq
shadows stripes key seq (span t) = false

-- the item is a span that holds the key, above the number and in its stripe
abbrev pub buries : List ℕ → List ℕ → ℕ → Item → Bool
buries stripes key seq (entry k s value) = false
buries stripes key seq (span t) = holds t.range key && outranks stripes t.seq seq

-- the item is a span over the same piece, above the number and in its stripe
abbrev pub repeats : List ℕ → Bounds → ℕ → Item → Bool
repeats stripes range seq (entry k s value) = false
repeats stripes range seq (span t) = same_bounds t.range range && outranks stripes t.seq seq

-- of the entries of one key in one stripe only the greatest number stays
abbrev pub is_shadowed : List ℕ → List Item → Item → Bool
is_shadowed stripes all (entry key seq value) = list_any (shadows stripes key seq) all
is_shadowed stripes all (span t) = false

-- an entry goes where a span of its stripe with a greater number holds its key
abbrev pub is_buried : List ℕ → List Item → Item → Bool
is_buried stripes all (entry key seq value) = list_any (buries stripes key seq) all
is_buried stripes all (span t) = false

-- of the spans over one piece in one stripe only the greatest number stays
abbrev pub is_repeated : List ℕ → List Item → Item → Bool
is_repeated stripes all (entry key seq value) = false
is_repeated stripes all (span t) = list_any (repeats stripes t.range t.seq) all

-- a delete of stripe 0 goes where no floor range holds its key, and a piece of a span where it meets no floor range
abbrev pub is_spent : List ℕ → Floor → Item → Bool
is_spent stripes floor (entry key seq None) = stripe stripes seq == 0 && not (floor_holds floor key)
is_spent stripes floor (entry key seq (Some value)) = false
is_spent stripes floor (span t) = stripe stripes t.seq == 0 && not (floor_meets floor t.range)

-- no rule takes the item out
abbrev pub stays : List ℕ → Floor → List Item → Item → Bool
stays stripes floor all i =
    not (is_shadowed stripes all i || is_buried stripes all i || is_repeated stripes all i || is_spent stripes floor i)

-- what is left of the pieces of a content, each rule asked of all of them
abbrev pub thinned : List Item → List ℕ → Floor → List Item
thinned c stripes floor = filter (stays stripes floor (in_pieces c)) (in_pieces c)

-- what is left of entries and of fragments, in their order

abbrev pub staying_entries : List Point → List Tombstone → List ℕ → Floor → List Point
staying_entries entries spans stripes floor =
    filter (λ p. stays stripes floor (in_pieces (content_of entries spans)) (entry_of p)) entries

abbrev pub staying_spans : List Point → List Tombstone → List ℕ → Floor → List Tombstone
staying_spans entries spans stripes floor =
    filter (λ t. stays stripes floor (in_pieces (content_of entries spans)) (span t)) spans
