-- Elements that go one by one from one list into another.
use Rattle.std.proofs.Common.{◌≡◌, ◌++◌, List, [], ◌∷◌, inl, inr, sym, subst}
use Rattle.xdb_key.specs.Entries.{Point}
use Rattle.xdb_rangedel.specs.Members.{Has, SameMembers}
use Rattle.xdb_rangedel.proofs.MemberLaws.{Has-append_left, Has-append_right, Has-append_cases}
use Rattle.xdb_mem.specs.InOrder.{AreNumbered}

-- the last of what is left goes in
pub moved-members : (all out now left rest : List Point) (e : Point) → left ≡ rest ++ e ∷ [] → SameMembers now (out ++ e ∷ []) → SameMembers (out ++ left) all → SameMembers (now ++ rest) all
moved-members all out now left rest e split put same = λ z. (
  λ h. (same z).0 (elim (Has-append_cases now rest z h) [
    | inl g ↦ elim (Has-append_cases out (e ∷ []) z ((put z).0 g)) [
      | inl a ↦ Has-append_left out left z a
      | inr b ↦ Has-append_right out left z (subst (λ xs. Has xs z) (sym split) (Has-append_right rest (e ∷ []) z b))
    ]
    | inr g ↦ Has-append_right out left z (subst (λ xs. Has xs z) (sym split) (Has-append_left rest (e ∷ []) z g))
  ]),
  λ h. elim (Has-append_cases out left z ((same z).1 h)) [
    | inl g ↦ Has-append_left now rest z ((put z).1 (Has-append_left out (e ∷ []) z g))
    | inr g ↦ elim (Has-append_cases rest (e ∷ []) z (subst (λ xs. Has xs z) split g)) [
      | inl a ↦ Has-append_right now rest z a
      | inr b ↦ Has-append_left now rest z ((put z).1 (Has-append_right out (e ∷ []) z b))
    ]
  ],
)

moved-has : (out left rest : List Point) (e z : Point) → left ≡ rest ++ e ∷ [] → Has (out ++ e ∷ []) z → Has (out ++ left) z
moved-has out left rest e z split h = elim (Has-append_cases out (e ∷ []) z h) [
  | inl a ↦ Has-append_left out left z a
  | inr b ↦ Has-append_right out left z (subst (λ xs. Has xs z) (sym split) (Has-append_right rest (e ∷ []) z b))
]

pub moved-numbered : (all out left rest : List Point) (e : Point) → left ≡ rest ++ e ∷ [] → SameMembers (out ++ left) all → AreNumbered all → AreNumbered (out ++ e ∷ [])
moved-numbered all out left rest e split same numbered = λ p q has_p has_q eq.
    numbered p q ((same p).0 (moved-has out left rest e p split has_p)) ((same q).0 (moved-has out left rest e q split has_q)) eq

pub same_behind : {A : Type 0} (front xs ys : List A) → SameMembers xs ys → SameMembers (front ++ xs) (front ++ ys)
same_behind front xs ys same = λ z. (
  λ h. elim (Has-append_cases front xs z h) [ inl g ↦ Has-append_left front ys z g | inr g ↦ Has-append_right front ys z ((same z).0 g) ],
  λ h. elim (Has-append_cases front ys z h) [ inl g ↦ Has-append_left front xs z g | inr g ↦ Has-append_right front xs z ((same z).1 g) ],
)
