-- Lists read one part after the other: the whole is what was read so far, and then what is left.
use Rattle.std.proofs.Common.{◌≡◌, ℕ, ◌+◌, ◌<◌, ◌≤◌, Bool, true, false, cond, List, [], ◌∷◌, ◌++◌, length, get_or, drop, map, append_assoc, append-nil, Result, Ok, Err, refl, sym, ap, ◌∙◌}
use Rattle.std.proofs.lemmas.List.{drop_more, drop_all, get_or_default}
use Rattle.std.specs.Borrow.{Bor}
use Rattle.std.specs.List.{slice_split, onto_first}
use Rattle.xdb_key.specs.Reading.{◌>>=◌}
use Rattle.xdb_script.specs.Answers.{IsDefect, texts}
use Rattle.xdb_script.specs.Fields.{all_read}
use Rattle.xdb_script.specs.declared.error.LineNo.{LineNo}
use Rattle.xdb_script.specs.declared.error.LineNo.TheVariants.{Bad, Memory}
use Rattle.xdb_script.specs.declared.error.Why.{Why}

-- the whole is what was read so far, and then what is left
pub record GoesOn {B : Type 0} (done : List B) (left whole : Result (List B) Why) : Type 0 where
  pub is : whole ≡ (left >>= λ more. Ok (done ++ more))

then-nothing : {B : Type 0} (r : Result (List B) Why) → r ≡ (r >>= λ more. Ok more)
then-nothing (Ok bs) = refl
then-nothing (Err d) = refl

pub begins : {B : Type 0} (whole : Result (List B) Why) → GoesOn [] whole whole
begins whole = record { is = then-nothing whole }

one-then : {B : Type 0} (done : List B) (b : B) (r : Result (List B) Why) → ((r >>= λ bs. Ok (b ∷ bs)) >>= λ more. Ok (done ++ more)) ≡ (r >>= λ more. Ok ((done ++ b ∷ []) ++ more))
one-then done b (Ok bs) = ap (λ xs. Ok xs) (sym (append_assoc done (b ∷ []) bs))
one-then done b (Err d) = refl

-- one part more was read
pub one_more : {B : Type 0} (done : List B) (b : B) (one : Result B Why) (left whole : Result (List B) Why) → one ≡ Ok b → GoesOn done (one >>= λ x. left >>= λ xs. Ok (x ∷ xs)) whole → GoesOn (done ++ b ∷ []) left whole
one_more done b one left whole read h = record { is = h.is ∙ ap (λ r. (r >>= λ x. left >>= λ xs. Ok (x ∷ xs)) >>= λ more. Ok (done ++ more)) read ∙ one-then done b left }

-- a part isn't read
pub refused : {B : Type 0} (done : List B) (defect : Why) (one : Result B Why) (left whole : Result (List B) Why) → one ≡ Err defect → GoesOn done (one >>= λ x. left >>= λ xs. Ok (x ∷ xs)) whole → whole ≡ Err defect
refused done defect one left whole read h = h.is ∙ ap (λ r. (r >>= λ x. left >>= λ xs. Ok (x ∷ xs)) >>= λ more. Ok (done ++ more)) read

-- nothing is left
pub ends : {B : Type 0} (done : List B) (left whole : Result (List B) Why) → left ≡ Ok [] → GoesOn done left whole → whole ≡ Ok done
ends done left whole none h = h.is ∙ ap (λ r. r >>= λ more. Ok (done ++ more)) none ∙ ap (λ xs. Ok xs) (append-nil done)

-- ---- a list by places

pub all_read-map : {X Y B : Type 0} (read : Y → Result B Why) (view : X → Y) (xs : List X) → all_read read (map view xs) ≡ all_read (λ x. read (view x)) xs
all_read-map read view [] = refl
all_read-map read view (x ∷ xs) = ap (λ r. read (view x) >>= λ a. r >>= λ others. Ok (a ∷ others)) (all_read-map read view xs)

pub each_more : {X B : Type 0} (read : X → Result B Why) (xs : List X) (i : ℕ) (x : X) (done : List B) (b : B) (whole : Result (List B) Why) → i < length xs → x ≡ get_or xs i x → read x ≡ Ok b → GoesOn done (all_read read (drop i xs)) whole → GoesOn (done ++ b ∷ []) (all_read read (drop (i + 1) xs)) whole
each_more read xs i x done b whole within is one h =
    one_more done b (read (get_or xs i x)) (all_read read (drop (i + 1) xs)) whole (ap read (sym is) ∙ one) (record { is = h.is ∙ ap (λ ys. all_read read ys >>= λ more. Ok (done ++ more)) (drop_more xs i x within) })

pub each_failed : {X B : Type 0} (read : X → Result B Why) (xs : List X) (i : ℕ) (x : X) (done : List B) (refusal : LineNo) (whole : Result (List B) Why) → i < length xs → x ≡ get_or xs i x → IsDefect refusal (read x) → GoesOn done (all_read read (drop i xs)) whole → IsDefect refusal whole
each_failed read xs i x done Memory whole within is one h = tt
each_failed read xs i x done (Bad defect) whole within is one h =
    refused done defect (read (get_or xs i x)) (all_read read (drop (i + 1) xs)) whole (ap read (sym is) ∙ one) (record { is = h.is ∙ ap (λ ys. all_read read ys >>= λ more. Ok (done ++ more)) (drop_more xs i x within) })

-- the same, where the part is read from the list
pub each_failed_at : {X B : Type 0} (read : X → Result B Why) (xs : List X) (i : ℕ) (d : X) (done : List B) (refusal : LineNo) (whole : Result (List B) Why) → i < length xs → IsDefect refusal (read (get_or xs i d)) → GoesOn done (all_read read (drop i xs)) whole → IsDefect refusal whole
each_failed_at read xs i d done refusal whole within one h = each_failed read xs i (get_or xs i d) done refusal whole within (get_or_default xs i d (get_or xs i d) within) one h

pub each_ends : {X B : Type 0} (read : X → Result B Why) (xs : List X) (i : ℕ) (done : List B) (whole : Result (List B) Why) → length xs ≤ i → GoesOn done (all_read read (drop i xs)) whole → whole ≡ Ok done
each_ends read xs i done whole past h = ends done (all_read read (drop i xs)) whole (ap (all_read read) (drop_all i xs past)) h

-- ---- words behind references

-- parts of words are the parts of what the words are
pub split-texts : (p : List ℕ → Bool) (words : List (Bor (List ℕ))) → map texts (slice_split (λ w. p w.now) words) ≡ slice_split p (texts words)
split-texts p [] = refl
split-texts p (w ∷ words) = by (p w.now) (slice_split (λ v. p v.now) words) (slice_split p (texts words)) (split-texts p words)
  where
    onto : (parts : List (List (Bor (List ℕ)))) → map texts (onto_first w parts) ≡ onto_first w.now (map texts parts)
    onto [] = refl
    onto (part ∷ parts) = refl

    by : (t : Bool) (parts : List (List (Bor (List ℕ)))) (others : List (List (List ℕ))) → map texts parts ≡ others → map texts (cond t ([] ∷ parts) (onto_first w parts)) ≡ cond t ([] ∷ others) (onto_first w.now others)
    by true parts others e = ap (λ ps. [] ∷ ps) e
    by false parts others e = onto parts ∙ ap (onto_first w.now) e
