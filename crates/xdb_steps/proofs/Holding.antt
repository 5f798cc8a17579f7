-- Holds that a step takes, lets go or leaves.
use Rattle.std.proofs.Common.{◌≡◌, ℕ, Bool, true, false, not, eqb, ◌||◌, List, [], ◌∷◌, ◌++◌, length, map, filter, append-nil, Option, Some, None, inl, inr, ◌⊎◌, refl, sym, ap, ◌∙◌, subst}
use Rattle.std.proofs.lemmas.Bool.{false≢true, cases_eq, and_from, eq-eqb, ne_eqb, eqb-true, or_from}
use Rattle.std.specs.List.{list_any}
use Rattle.xdb_edit.specs.Changes.{Changes}
use Rattle.xdb_mem.proofs.HeldLaws.{same_then}
use Rattle.xdb_mem.proofs.PickLaws.{Has-filter, Has-from_filter}
use Rattle.xdb_plain.specs.Counts.{is_among, found_hold, same_holder}
use Rattle.xdb_plain.specs.Holds.{HoldsFit, due, holds_due, holds_after, numbered, releases, hold_told}
use Rattle.xdb_plain.specs.Outcomes.{outcome}
use Rattle.xdb_plain.specs.State.{Plain, Version, Hold, Holder, for_snap, for_cursor, for_ask, for_job}
use Rattle.xdb_plain.specs.declared.act.Act.{Act}
use Rattle.xdb_plain.specs.declared.act.By.{By}
use Rattle.xdb_plain.specs.declared.note.HoldNote.{HoldNote}
use Rattle.xdb_plain.specs.declared.note.HoldNote.TheVariants.{Hold as Taken, Release}
use Rattle.xdb_plain.specs.declared.reply.Reply.{Reply}
use Rattle.xdb_rangedel.proofs.MemberLaws.{Has-append_left, Has-append_right, Has-append_cases, Has-map, Has-from_map}
use Rattle.xdb_rangedel.specs.Members.{Has, SameMembers}
use Rattle.xdb_steps.specs.Between.{Held, AreOneHold}
use Rattle.xdb_steps.specs.Core.{Core, holders, holding_core, without_hold}
use Rattle.xdb_steps.specs.Notes.{full_note}
use Rattle.xdb_steps.specs.Step.{Step, HeldStep}
use Rattle.xdb_steps.proofs.KnownNumbers.{or_nothing}
use Rattle.xdb_steps.proofs.Finding.{found-none, found-only}

-- ---- lists with the same members

pub same-turned : {A : Type 0} (xs ys : List A) → SameMembers xs ys → SameMembers ys xs
same-turned xs ys same = λ x. ((same x).1, (same x).0)

-- those that both tests let through
pub same-filtered : {A : Type 0} (s t : A → Bool) (xs ys : List A) → ((x : A) → s x ≡ t x) → SameMembers xs ys → SameMembers (filter s xs) (filter t ys)
same-filtered s t xs ys alike same = λ x. (
  λ h. let from = Has-from_filter s xs x h in Has-filter t ys x ((same x).0 from.0) (sym (alike x) ∙ from.1),
  λ h. let from = Has-from_filter t ys x h in Has-filter s xs x ((same x).1 from.0) (alike x ∙ from.1),
)

pub all-pass : {A : Type 0} (xs : List A) → filter (λ x. true) xs ≡ xs
all-pass [] = refl
all-pass (x ∷ xs) = ap (λ ys. x ∷ ys) (all-pass xs)

-- ---- whose a hold is

pub tells-ask : (h : Holder) (ask : ℕ) → same_holder h (for_ask ask) ≡ true → h ≡ for_ask ask
tells-ask (for_ask n) ask e = ap for_ask (eqb-true n ask e)
tells-ask (for_snap name) ask e = absurd (false≢true e)
tells-ask (for_cursor name) ask e = absurd (false≢true e)
tells-ask (for_job n) ask e = absurd (false≢true e)

pub tells-job : (h : Holder) (job : ℕ) → same_holder h (for_job job) ≡ true → h ≡ for_job job
tells-job (for_job n) job e = ap for_job (eqb-true n job e)
tells-job (for_snap name) job e = absurd (false≢true e)
tells-job (for_cursor name) job e = absurd (false≢true e)
tells-job (for_ask n) job e = absurd (false≢true e)

-- one that no holder is, has no hold
pub none-held : (holder : Holder) (holds plain : List Hold) (those : List Holder) → SameMembers plain holds → Held holds those → ((h : Holder) → Has those h → same_holder h holder ≡ false) → found_hold holder plain ≡ None
none-held holder holds plain those same held off = found-none (λ h. same_holder h.holder holder) plain (λ h has.
    off h.holder ((held.whose h.holder).0 (Has-map (λ (k : Hold). k.holder) holds h ((same h).0 has))))

-- the one hold of a holder is found
pub one-found : (h : Hold) (holds plain : List Hold) (those : List Holder) → SameMembers plain holds → Held holds those → Has holds h → same_holder h.holder h.holder ≡ true → found_hold h.holder plain ≡ Some h
one-found h holds plain those same held has itself =
    found-only (λ k. same_holder k.holder h.holder) h plain ((same h).1 has) itself (λ k there is. held.one_each k h ((same k).0 there) has is)

-- ---- what a note tells of holds

module _ (p : Plain) (by : By) (a : Act) (r : Reply) (edit : Option Changes) (tried : List ℕ) where
  -- a step that takes and lets go of none
  pub tells-none : releases p a (outcome r) ≡ [] → holds_due p a (outcome r) edit ≡ [] → HoldsFit p (full_note by a r edit [] tried)
  tells-none none nobody = record {
    told = sym (ap (λ ids. map Release ids ++ []) none);
    all = sym (ap length nobody);
    new = refl;
  }

  -- one that takes a hold, under a new number
  pub tells-taken : (id : ℕ) (holder : Holder) (v : Version) → releases p a (outcome r) ≡ [] → holds_due p a (outcome r) edit ≡ due holder v ∷ [] → ((h : Hold) → Has p.holds h → h.id ≡ id → ⊥) → HoldsFit p (full_note by a r edit (Taken id v.num ∷ []) tried)
  tells-taken id holder v none one new = record {
    told = sym ((λ i. map Release (none i) ++ map hold_told (numbered (id ∷ []) (one i))));
    all = sym (ap length one);
    new = and_from (not (list_any (λ h. eqb h.id id) p.holds)) true (ap not (none-any p.holds new)) refl;
  }
    where
      none-any : (hs : List Hold) → ((h : Hold) → Has hs h → h.id ≡ id → ⊥) → list_any (λ h. eqb h.id id) hs ≡ false
      none-any [] off = refl
      none-any (h ∷ hs) off = or_from (eqb h.id id) (list_any (λ k. eqb k.id id) hs) (ne_eqb h.id id (off h (inl refl))) (none-any hs (λ k has. off k (inr has)))

  -- one that lets go of a hold
  pub tells-released : (id : ℕ) → releases p a (outcome r) ≡ id ∷ [] → holds_due p a (outcome r) edit ≡ [] → HoldsFit p (full_note by a r edit (Release id ∷ []) tried)
  tells-released id one nobody = record {
    told = sym (ap (λ ids. map Release ids ++ []) one);
    all = sym (ap length nobody);
    new = refl;
  }

  -- ---- the holds behind it

  pub taken-behind : (id : ℕ) (holder : Holder) (v : Version) → holds_due p a (outcome r) edit ≡ due holder v ∷ [] → holds_after p (full_note by a r edit (Taken id v.num ∷ []) tried) ≡ p.holds ++ record { id = id; holder = holder; version = v } ∷ []
  taken-behind id holder v one = (λ i. filter (λ h. true) p.holds ++ numbered (id ∷ []) (one i)) ∙ ap (λ hs. hs ++ record { id = id; holder = holder; version = v } ∷ []) (all-pass p.holds)

  turned : (m n : ℕ) → (eqb m n || false) ≡ eqb n m
  turned m n = or_nothing (eqb m n) ∙ elim (cases_eq m n) [
    | inl e ↦ eq-eqb m n e ∙ sym (eq-eqb n m (sym e))
    | inr ne ↦ ne_eqb m n ne ∙ sym (ne_eqb n m (λ e. ne (sym e)))
  ]

  pub released-behind : (id : ℕ) (holds : List Hold) → SameMembers p.holds holds → SameMembers (holds_after p (full_note by a r edit (Release id ∷ []) tried)) (without_hold id holds)
  released-behind id holds same =
      subst (λ hs. SameMembers hs (without_hold id holds)) (sym (append-nil (filter (λ h. not (is_among h.id (id ∷ []))) p.holds)))
      (same-filtered (λ h. not (is_among h.id (id ∷ []))) (λ h. not (eqb h.id id)) p.holds holds (λ h. ap not (turned id h.id)) same)

-- ---- a step with what it tells of holds

module _ {told : Type 0} {rise : ℕ} {c d : Core} {p : Plain} {by : By} {a : Act} {r : Reply} {edit : Option Changes} {tried : List ℕ} (s : Step told rise c d p (full_note by a r edit [] tried)) where
  -- the rest of the step is that of the same note without its holds
  pub step-holding : (told_holds : List HoldNote) (holds : List Hold) → SameMembers (holds_after p (full_note by a r edit told_holds tried)) holds → Step told rise c (holding_core d holds) p (full_note by a r edit told_holds tried)
  step-holding told_holds holds same = record {
    stands = record {
      by = s.stands.by;
      reply = s.stands.reply;
      act = s.stands.act;
      edit = s.stands.edit;
      tried = s.stands.tried;
      shown = s.stands.shown;
    };
    agrees = record {
      mem = s.agrees.mem;
      numbers = s.agrees.numbers;
      asks = s.agrees.asks;
      files = record {
        current = s.agrees.files.current;
        holds = same;
        known = s.agrees.files.known;
        taken = s.agrees.files.taken;
        rising = s.agrees.files.rising;
      };
      jobs = s.agrees.jobs;
      snaps = s.agrees.snaps;
      cursors = s.agrees.cursors;
      loads = s.agrees.loads;
      owned = s.agrees.owned;
      under_way = s.agrees.under_way;
    };
    answers = s.answers;
    means = λ t m. let after = s.means t m in record { image = after.image; order = after.order; numbers = after.numbers; tables = after.tables; striped = after.striped; asks = after.asks };
    booked = s.booked;
    undamaged = s.undamaged;
  }

  -- a step that takes and lets go of none, and leaves all holders
  pub step-free : releases p a (outcome r) ≡ [] → holds_due p a (outcome r) edit ≡ [] → Held d.files.holds (holders d) → HeldStep told rise c d p (full_note by a r edit [] tried)
  step-free none nobody held = record { step = s; holds = tells-none p by a r edit tried none nobody; held = held }

-- ---- holders

-- one more holder, with a hold of its own
pub held-more : (holds more : List Hold) (those others : List Holder) (h : Hold) → Held holds those → SameMembers more (holds ++ h ∷ []) → SameMembers others (those ++ h.holder ∷ []) → ((k : Holder) → Has those k → (same_holder k h.holder ≡ false) × (same_holder h.holder k ≡ false)) → ((k : Hold) → Has holds k → k.id ≡ h.id → ⊥) → Held more others
held-more holds more those others h held same alike apart new = record {
  whose = λ x. (
    λ has.
        let from = Has-from_map (λ (k : Hold). k.holder) more x has in
        (alike x).1 (subst (Has (those ++ h.holder ∷ [])) from.2 (elim (Has-append_cases holds (h ∷ []) from.0 ((same from.0).0 from.1)) [
          | inl old ↦ Has-append_left those (h.holder ∷ []) from.0.holder ((held.whose from.0.holder).0 (Has-map (λ (k : Hold). k.holder) holds from.0 old))
          | inr one ↦ Has-append_right those (h.holder ∷ []) from.0.holder (of-one from.0 one)
        ])),
    λ has. elim (Has-append_cases those (h.holder ∷ []) x ((alike x).0 has)) [
      | inl old ↦
          let from = Has-from_map (λ (k : Hold). k.holder) holds x ((held.whose x).1 old) in
          subst (Has (map (λ (k : Hold). k.holder) more)) from.2 (Has-map (λ (k : Hold). k.holder) more from.0 ((same from.0).1 (Has-append_left holds (h ∷ []) from.0 from.1)))
      | inr one ↦ at-last x one
    ],
  );
  one_each = λ k l hk hl. each k l (Has-append_cases holds (h ∷ []) k ((same k).0 hk)) (Has-append_cases holds (h ∷ []) l ((same l).0 hl));
  one_number = λ k l hk hl. number k l (Has-append_cases holds (h ∷ []) k ((same k).0 hk)) (Has-append_cases holds (h ∷ []) l ((same l).0 hl));
}
  where
    of-one : (k : Hold) → (h ≡ k) ⊎ Has [] k → Has (h.holder ∷ []) k.holder
    of-one k (inl e) = inl (ap (λ x. x.holder) e)
    of-one k (inr nil) = absurd nil

    at-last : (x : Holder) → (h.holder ≡ x) ⊎ Has [] x → Has (map (λ (k : Hold). k.holder) more) x
    at-last x (inl e) = subst (Has (map (λ (k : Hold). k.holder) more)) e (Has-map (λ (k : Hold). k.holder) more h ((same h).1 (Has-append_right holds (h ∷ []) h (inl refl))))
    at-last x (inr nil) = absurd nil

    there : (k : Hold) → Has holds k → Has those k.holder
    there k has = (held.whose k.holder).0 (Has-map (λ (x : Hold). x.holder) holds k has)

    each : (k l : Hold) → Has holds k ⊎ Has (h ∷ []) k → Has holds l ⊎ Has (h ∷ []) l → AreOneHold k l
    each k l (inl hk) (inl hl) is = held.one_each k l hk hl is
    each k l (inl hk) (inr (inl e)) is = absurd (false≢true (sym (ap (same_holder k.holder) (ap (λ x. x.holder) (sym e)) ∙ (apart k.holder (there k hk)).0) ∙ is))
    each k l (inr (inl e)) (inl hl) is = absurd (false≢true (sym (ap (λ x. same_holder x l.holder) (ap (λ x. x.holder) (sym e)) ∙ (apart l.holder (there l hl)).1) ∙ is))
    each k l (inr (inl e)) (inr (inl f)) is = sym e ∙ f
    each k l (inr (inr nil)) y is = absurd nil
    each k l x (inr (inr nil)) is = absurd nil

    number : (k l : Hold) → Has holds k ⊎ Has (h ∷ []) k → Has holds l ⊎ Has (h ∷ []) l → k.id ≡ l.id → k ≡ l
    number k l (inl hk) (inl hl) is = held.one_number k l hk hl is
    number k l (inl hk) (inr (inl e)) is = absurd (new k hk (is ∙ ap (λ x. x.id) (sym e)))
    number k l (inr (inl e)) (inl hl) is = absurd (new l hl (sym is ∙ ap (λ x. x.id) (sym e)))
    number k l (inr (inl e)) (inr (inl f)) is = sym e ∙ f
    number k l (inr (inr nil)) y is = absurd nil
    number k l x (inr (inr nil)) is = absurd nil

-- one holder less, with its hold
pub held-less : (holds less : List Hold) (those others : List Holder) (h : Hold) → Held holds those → Has holds h → SameMembers less (without_hold h.id holds) → ((k : Holder) → Has others k → Has those k × (k ≡ h.holder → ⊥)) → ((k : Holder) → Has those k → (k ≡ h.holder) ⊎ Has others k) → same_holder h.holder h.holder ≡ true → Held less others
held-less holds less those others h held has same fewer split itself = record {
  whose = λ x. (
    λ there.
        let from = Has-from_map (λ (k : Hold). k.holder) less x there in
        let kept = kept-of from.0 from.1 in
        elim (split from.0.holder ((held.whose from.0.holder).0 (Has-map (λ (k : Hold). k.holder) holds from.0 kept.0))) [
          | inl e ↦ absurd (kept.1 (ap (λ x. x.id) (held.one_each from.0 h kept.0 has (ap (λ x. same_holder x h.holder) e ∙ itself))))
          | inr behind ↦ subst (Has others) from.2 behind
        ],
    λ there.
        let old = fewer x there in
        let from = Has-from_map (λ (k : Hold). k.holder) holds x ((held.whose x).1 old.0) in
        subst (Has (map (λ (k : Hold). k.holder) less)) from.2
        (Has-map (λ (k : Hold). k.holder) less from.0 ((same from.0).1 (Has-filter (λ (k : Hold). not (eqb k.id h.id)) holds from.0 from.1
        (ap not (ne_eqb from.0.id h.id (λ e. old.1 (sym from.2 ∙ ap (λ k. k.holder) (held.one_number from.0 h from.1 has e)))))))),
  );
  one_each = λ k l hk hl. held.one_each k l (kept-of k hk).0 (kept-of l hl).0;
  one_number = λ k l hk hl. held.one_number k l (kept-of k hk).0 (kept-of l hl).0;
}
  where
    kept-of : (k : Hold) → Has less k → Has holds k × (k.id ≡ h.id → ⊥)
    kept-of k there =
        let from = Has-from_filter (λ (x : Hold). not (eqb x.id h.id)) holds k ((same k).0 there) in
        (from.0, λ e. false≢true (sym (ap not (eq-eqb k.id h.id e)) ∙ from.1))

-- the same holders, in another order
pub held-alike : (holds : List Hold) (those others : List Holder) → Held holds those → SameMembers others those → Held holds others
held-alike holds those others held same = record {
  whose = same_then (map (λ (h : Hold). h.holder) holds) those others held.whose (same-turned others those same);
  one_each = held.one_each;
  one_number = held.one_number;
}
