-- Holds of versions, how many tables stand on each file, and which files nothing needs any more.
use Rattle.std.specs.Prelude.{ℕ, ◌+◌, Bool, false, not, ◌&&◌, ◌||◌, List, [], ◌∷◌, length, map, filter, Option, ◌==◌, nat_lt, nat_le, if◌then◌else◌}
use Rattle.std.specs.List.{find, list_any, flat_map}
use Rattle.xdb_plain.specs.State.{Plain, Version, Hold, Holder, for_snap, for_cursor, for_ask, for_job, Load, Job, JobKind, flush_of, compaction_of, open_loads, same_name}

-- the numbers with one more, which rise; a number that is there stands once
abbrev pub with_number : ℕ → List ℕ → List ℕ
with_number n [] = n ∷ []
with_number n (m ∷ ms) = if nat_lt n m then n ∷ m ∷ ms else (if n == m then m ∷ ms else m ∷ with_number n ms)

abbrev pub with_numbers : List ℕ → List ℕ → List ℕ
with_numbers [] ms = ms
with_numbers (n ∷ ns) ms = with_numbers ns (with_number n ms)

abbrev pub is_among : ℕ → List ℕ → Bool
is_among n ns = list_any (λ m. m == n) ns

-- each version once
abbrev pub distinct : List Version → List Version
distinct [] = []
distinct (v ∷ vs) = v ∷ filter (λ w. not (w.num == v.num)) (distinct vs)

-- the versions that are in use: the current one, and those that are held
abbrev pub referenced : Plain → List Version
referenced p = distinct (p.current ∷ map (λ h. h.version) p.holds)

-- the files that a version's tables stand on, once for each table
abbrev pub backings : Version → List ℕ
backings v = map (λ t. t.backing) (flat_map (λ ts. ts) v.levels)

-- the files that the tables of versions in use stand on, once for each version and table
abbrev pub used : Plain → List ℕ
used p = flat_map backings (referenced p)

-- how many pairs there are of a version in use and a table in it that stands on the file
abbrev pub count : Plain → ℕ → ℕ
count p backing = length (filter (λ b. b == backing) (used p))

-- the counts above 0, by rising numbers
abbrev pub counts : Plain → List (ℕ × ℕ)
counts p = map (λ b. (b, count p b)) (with_numbers (used p) [])

-- how many file numbers a job has
abbrev pub job_numbers : JobKind → ℕ
job_numbers (flush_of group) = 1
job_numbers (compaction_of c) = 64

-- a number of so many from the first on
abbrev pub is_within : ℕ → ℕ → ℕ → Bool
is_within first len n = nat_le first n && nat_lt n (first + len)

abbrev pub load_owns : ℕ → Load → Bool
load_owns n l = is_within l.first (length l.tables) n

abbrev pub job_owns : ℕ → Job → Bool
job_owns n j = is_within j.first (job_numbers j.kind) n

-- an open load or a running job has the number
abbrev pub is_owned : Plain → ℕ → Bool
is_owned p n = list_any (load_owns n) (open_loads p.loads) || list_any (job_owns n) p.jobs

-- a known number that no version in use stands on, that none owns, and that wasn't taken
abbrev pub is_dead : Plain → ℕ → Bool
is_dead p n = count p n == 0 && not (is_owned p n) && not (is_among n p.taken)

-- the dead numbers, by rising numbers
abbrev pub dead : Plain → List ℕ
dead p = filter (is_dead p) p.known

-- two holders are one
abbrev pub same_holder : Holder → Holder → Bool
same_holder (for_snap a) (for_snap b) = same_name a b
same_holder (for_cursor a) (for_cursor b) = same_name a b
same_holder (for_ask a) (for_ask b) = a == b
same_holder (for_job a) (for_job b) = a == b
same_holder _ _ = false

-- the hold that a holder has
abbrev pub found_hold : Holder → List Hold → Option Hold
found_hold holder holds = find (λ h. same_holder h.holder holder) holds
