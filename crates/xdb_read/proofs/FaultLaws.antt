-- What comes of two calls on a device, one after the other.
use Rattle.std.proofs.Common.{◌≡◌, ℕ, List, Option, Result, Ok, Err, IsErr, IsErrOf, IsErrAnd, IfErr, refl, sym, ap, ◌∙◌, subst}
use Rattle.std.proofs.lemmas.Bool.{false≢true}
use Rattle.xdb_device.specs.Counted.{Counted}
use Rattle.xdb_device.proofs.Counts.{Counted-then, Counted-where}
use Rattle.xdb_meta.specs.Table.{Table}
use Rattle.xdb_merge.specs.Tables.{NamesDamage}
use Rattle.xdb_table_r.specs.declared.error.TableNo.{TableNo}
use Rattle.xdb_table_r.specs.declared.error.TableNo.TheVariants.{ReadFault, Damaged, Memory}

-- the error of the second, passed on
passed_fault : {X Y : Type 0} (r : Result X TableNo) (s : Result Y TableNo) (e : TableNo) → s ≡ Err e → IsErr r × IsErrAnd r (λ y. y ≡ e) → IsErrOf r ReadFault → IsErrOf s ReadFault
passed_fault (Ok x) s e was same fault = absurd (false≢true same.0)
passed_fault (Err y) s e was same fault = let is : y ≡ ReadFault = cc in was ∙ ap Err (sym same.1 ∙ is)

not_fault : {X : Type 0} (r : Result X TableNo) → IsErr r × IsErrAnd r (λ y. y ≡ Memory) → IsErrOf r ReadFault → ⊥
not_fault (Ok x) same fault = false≢true same.0
not_fault (Err y) same fault = let is : y ≡ ReadFault = cc in let memory : y ≡ Memory = same.1 in absurd (cc)

no_fault : {X : Type 0} (x : X) → IsErrOf {T = X} (Ok x) ReadFault → ⊥
no_fault x h = absurd (cc)

module _ {D : Type 0} {faults misses : D → ℕ} {frame : D → List ℕ} {P : Type 0} where
  pub counted_passed : {X Y : Type 0} (a b c : D) (r : Result X TableNo) (s : Result Y TableNo) (e : TableNo) → s ≡ Err e → IsErr r × IsErrAnd r (λ y. y ≡ e) → Counted faults misses frame a b P → Counted faults misses frame b c (IsErrOf s ReadFault) → Counted faults misses frame a c (IsErrOf r ReadFault)
  counted_passed a b c r s e was same first second = Counted-where a c (passed_fault r s e was same) (Counted-then a b c first second)

  pub counted_memory : {Q X : Type 0} (a b c : D) (r : Result X TableNo) → IsErr r × IsErrAnd r (λ y. y ≡ Memory) → Counted faults misses frame a b P → Counted faults misses frame b c Q → Counted faults misses frame a c (IsErrOf r ReadFault)
  counted_memory a b c r same first second = Counted-where a c (λ fault. absurd (not_fault r same fault)) (Counted-then a b c first second)

  pub counted_ok : {Q X : Type 0} (a b c : D) (x : X) → Counted faults misses frame a b P → Counted faults misses frame b c Q → Counted faults misses frame a c (IsErrOf {T = X} (Ok x) ReadFault)
  counted_ok a b c x first second = Counted-where a c (λ fault. absurd (no_fault x fault)) (Counted-then a b c first second)

  -- after one call alone
  pub counted_one : {X : Type 0} (a b : D) (x : X) → Counted faults misses frame a b P → Counted faults misses frame a b (IsErrOf {T = X} (Ok x) ReadFault)
  counted_one a b x first = Counted-where a b (λ fault. absurd (no_fault x fault)) first

  pub counted_no_memory : {X : Type 0} (a b : D) (r : Result X TableNo) → IsErr r × IsErrAnd r (λ y. y ≡ Memory) → Counted faults misses frame a b P → Counted faults misses frame a b (IsErrOf r ReadFault)
  counted_no_memory a b r same first = Counted-where a b (λ fault. absurd (not_fault r same fault)) first

pub calm_passed : {X Y : Type 0} (r : Result X TableNo) (s : Result Y TableNo) (e : TableNo) → s ≡ Err e → IsErr r × IsErrAnd r (λ y. y ≡ e) → IfErr s (λ y. y ≡ Memory) → IfErr r (λ y. y ≡ Memory)
calm_passed (Ok x) s e was same calm = tt
calm_passed (Err y) s e was same calm = same.1 ∙ subst (λ x. IfErr x (λ z. z ≡ Memory)) was calm

pub calm_memory : {X : Type 0} (r : Result X TableNo) → IsErr r × IsErrAnd r (λ y. y ≡ Memory) → IfErr r (λ y. y ≡ Memory)
calm_memory (Ok x) same = tt
calm_memory (Err y) same = same.1

module _ {F : Type 0} (bytes : F → Option (List ℕ)) where
  pub damage_passed : {X Y : Type 0} (ts : List (Table × F)) (r : Result X TableNo) (s : Result Y TableNo) (e : TableNo) → s ≡ Err e → IsErr r × IsErrAnd r (λ y. y ≡ e) → IfErr s (NamesDamage bytes ts) → IfErr r (NamesDamage bytes ts)
  damage_passed ts (Ok x) s e was same h = tt
  damage_passed ts (Err y) s e was same h = subst (NamesDamage bytes ts) (sym same.1) (subst (λ x. IfErr x (NamesDamage bytes ts)) was h)

  pub damage_memory : {X : Type 0} (ts : List (Table × F)) (r : Result X TableNo) → IsErr r × IsErrAnd r (λ y. y ≡ Memory) → IfErr r (NamesDamage bytes ts)
  damage_memory ts (Ok x) same = tt
  damage_memory ts (Err y) same = subst (NamesDamage bytes ts) (sym same.1) tt
