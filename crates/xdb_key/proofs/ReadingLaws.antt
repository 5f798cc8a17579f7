-- How readers go on.
use Rattle.std.proofs.Common.{◌≡◌, ℕ, suc, ◌<◌, Bool, true, false, cond, List, ◌∷◌, drop, subst, sym, ◌+◌, Result, Ok, Err, refl, ap, inl, inr, ◌⊎◌}
use Rattle.std.proofs.lemmas.List.{get_or-drop}
use Rattle.xdb_key.specs.Reading.{◌>>=◌, AreBytes}

-- a reader after another found no defect, so neither did the first
pub bind_ok : {A B E : Type 0} {y : B} (r : Result A E) (f : A → Result B E) → (r >>= f) ≡ Ok y → (x : A) × (r ≡ Ok x) × (f x ≡ Ok y)
bind_ok (Ok x) f e = (x, refl, e)
bind_ok (Err d) f e = cc

-- which way a test went
pub chosen : {A : Type 0} {z : A} (b : Bool) (x y : A) → cond b x y ≡ z → ((b ≡ true) × (x ≡ z)) ⊎ ((b ≡ false) × (y ≡ z))
chosen true x y e = inl (refl, e)
chosen false x y e = inr (refl, e)

-- a defect wasn't found, so the test for it failed
pub guard_ok : {A E : Type 0} {x : A} (b : Bool) (d : E) (r : Result A E) → cond b (Err d) r ≡ Ok x → (b ≡ false) × (r ≡ Ok x)
guard_ok true d r e = cc
guard_ok false d r e = (refl, e)

-- one answer's value and rest are the other's
pub ok_parts : {A B E : Type 0} {a a' : A} {b b' : B} → ◌≡◌ {A = Result (A × B) E} (Ok (a, b)) (Ok (a', b')) → (a ≡ a') × (b ≡ b')
ok_parts {A} {B} {E} {a} {a'} {b} {b'} e =
    let pairs : ◌≡◌ {A = A × B} (a, b) (a', b') = cc in
    (ap (λ p. p.0) pairs, ap (λ p. p.1) pairs)

pub AreBytes-tail : (b : ℕ) (bs : List ℕ) → AreBytes (b ∷ bs) → AreBytes bs
AreBytes-tail b bs fits = λ i. fits (suc i)

pub AreBytes-drop : (n : ℕ) (bytes : List ℕ) → AreBytes bytes → AreBytes (drop n bytes)
AreBytes-drop n bytes fits = λ i. let P : ℕ → Type 0 = λ x. x < 256 in subst P (sym (get_or-drop n bytes i 0)) (fits (n + i))
