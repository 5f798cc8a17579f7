-- What the calls of a version set leave of the files of an engine's parts.
use Rattle.std.proofs.Common.{◌≡◌, ℕ, ◌+◌, ◌≤◌, false, cond, not, eqb, ◌||◌, List, [], ◌∷◌, ◌++◌, Some, None, inl, inr, ◌⊎◌, refl, sym, ap, ◌∙◌, subst, arith}
use Rattle.std.proofs.lemmas.Bool.{false≢true, cases_eq, or_right, eq-eqb, ne_eqb, cond-true, cond-false}
use Rattle.std.proofs.lemmas.Option.{none-some}
use Rattle.std.specs.Option.{option_map, IsSome}
use Rattle.xdb_edit.specs.Changes.{Changes}
use Rattle.xdb_edit.specs.Versions.{LevelLists, edited}
use Rattle.xdb_lists.specs.Keyed.{at_key}
use Rattle.xdb_lists.specs.Numbers.{is_among}
use Rattle.xdb_mem.proofs.PickLaws.{Has-filter, Has-from_filter}
use Rattle.xdb_plain.specs.State.{Hold, Holder}
use Rattle.xdb_rangedel.proofs.MemberLaws.{Has-append_left, Has-append_right, Has-append_cases}
use Rattle.xdb_rangedel.specs.Members.{Has, SameMembers}
use Rattle.xdb_steps.specs.Core.{Files, Contents, edited_files, without_hold}
use Rattle.xdb_steps.specs.SetFiles.{AreOfSet, IsHoldOf}
use Rattle.xdb_vset.proofs.HoldLaws.{held_from}
use Rattle.xdb_vset.specs.Holds.{slot_of, is_held}
use Rattle.xdb_vset.specs.declared.holds.Slot.{Slot}
use Rattle.xdb_vset.specs.Seen.{Seen, IsSet, version_of}
use Rattle.xdb_vset.specs.Versions.{Numbered}

module _ {F : Type 0} (s : Seen F) (f : Files) (of : AreOfSet s f) where
  -- a ticket that holds nothing is no hold
  pub unused : (t : ℕ) → slot_of t s.slots ≡ Some None → (h : Hold) → Has f.holds h → h.id ≡ t → ⊥
  unused t empty h has e =
      let both : Some (Some h.version.num) ≡ Some None = sym (of.held h has).slot ∙ ap (λ n. slot_of n s.slots) e ∙ empty in
      absurd (cc)

  current-there : version_of s f.current.num ≡ Some f.current.levels
  current-there =
      cond-true (eqb s.current.num f.current.num) (Some s.current.levels) (option_map (λ (w : Numbered). w.levels) (at_key (λ (w : Numbered). w.num) f.current.num s.older)) (eq-eqb s.current.num f.current.num (sym of.num))
      ∙ ap (λ (ls : LevelLists). Some ls) (sym of.levels)

  -- room for a hold
  pub ticket-keeps : (slots : List Slot) (next t : ℕ) → slot_of t s.slots ≡ None → ((n : ℕ) → slot_of n slots ≡ cond (eqb n t) (Some None) (slot_of n s.slots)) → AreOfSet (record s { slots = slots; next = next }) f
  ticket-keeps slots next t fresh told = record {
    num = of.num;
    levels = of.levels;
    held = λ h has. record {
      slot = told h.id
          ∙ cond-false (eqb h.id t) (Some None) (slot_of h.id s.slots) (ne_eqb h.id t (λ e. none-some (Some h.version.num) (sym (ap (λ n. slot_of n s.slots) e ∙ fresh) ∙ (of.held h has).slot)))
          ∙ (of.held h has).slot;
      levels = (of.held h has).levels;
    };
    all = λ id v there. elim (cases_eq id t) [
      | inl e ↦
          let both : Some None ≡ Some (Some v) = sym (told id ∙ cond-true (eqb id t) (Some None) (slot_of id s.slots) (eq-eqb id t e)) ∙ there in
          absurd (cc)
      | inr ne ↦ of.all id v (sym (told id ∙ cond-false (eqb id t) (Some None) (slot_of id s.slots) (ne_eqb id t ne)) ∙ there)
    ];
    known = of.known;
    taken = of.taken;
  }

  -- the current version is held
  module _ (slots : List Slot) (t : ℕ) (holder : Holder) (holds : List Hold) (empty : slot_of t s.slots ≡ Some None) (told : (n : ℕ) → slot_of n slots ≡ cond (eqb n t) (Some (Some s.current.num)) (slot_of n s.slots)) where
    abbrev one : Hold
    one = record { id = t; holder = holder; version = f.current }

    one-there : IsHoldOf (record s { slots = slots }) one
    one-there = record {
      slot = told t ∙ cond-true (eqb t t) (Some (Some s.current.num)) (slot_of t s.slots) (eq-eqb t t refl) ∙ ap (λ (n : ℕ). Some (Some n)) (sym of.num);
      levels = current-there;
    }

    pub hold-keeps : SameMembers holds (f.holds ++ one ∷ []) → AreOfSet (record s { slots = slots }) (record f { holds = holds })
    hold-keeps same = record {
      num = of.num;
      levels = of.levels;
      held = λ h has. elim (Has-append_cases f.holds (one ∷ []) h ((same h).0 has)) [
        | inl old ↦ record {
          slot = told h.id ∙ cond-false (eqb h.id t) (Some (Some s.current.num)) (slot_of h.id s.slots) (ne_eqb h.id t (unused t empty h old)) ∙ (of.held h old).slot;
          levels = (of.held h old).levels;
        }
        | inr last ↦ at-last h last
      ];
      all = λ id v there. elim (cases_eq id t) [
        | inl e ↦ (one, (same one).1 (Has-append_right f.holds (one ∷ []) one (inl refl)), sym e)
        | inr ne ↦
            let old = of.all id v (sym (told id ∙ cond-false (eqb id t) (Some (Some s.current.num)) (slot_of id s.slots) (ne_eqb id t ne)) ∙ there) in
            (old.0, (same old.0).1 (Has-append_left f.holds (one ∷ []) old.0 old.1), old.2)
      ];
      known = of.known;
      taken = of.taken;
    }
      where
        at-last : (h : Hold) → (one ≡ h) ⊎ Has [] h → IsHoldOf (record s { slots = slots }) h
        at-last h (inl e) = subst (IsHoldOf (record s { slots = slots })) e one-there
        at-last h (inr nil) = absurd nil

  -- ---- by what a call leaves of the set

  module _ (new : Seen F) where
    -- a hold is given back
    pub release-keeps : (id : ℕ) (holds : List Hold) → new.current ≡ s.current → new.known ≡ s.known → new.taken ≡ s.taken → ((n : ℕ) → slot_of n new.slots ≡ cond (eqb n id) None (slot_of n s.slots)) → ((v : ℕ) → version_of new v ≡ cond (eqb s.current.num v || is_held v new.slots) (version_of s v) None) → SameMembers holds (without_hold id f.holds) → AreOfSet new (record f { holds = holds })
    release-keeps id holds current known taken slot version same = record {
      num = of.num ∙ ap (λ (w : Numbered). w.num) (sym current);
      levels = of.levels ∙ ap (λ (w : Numbered). w.levels) (sym current);
      held = λ h has.
          let from = Has-from_filter (λ (k : Hold). not (eqb k.id id)) f.holds h ((same h).0 has) in
          let there = slot h.id ∙ cond-false (eqb h.id id) None (slot_of h.id s.slots) (ne_eqb h.id id (λ e. false≢true (sym (ap not (eq-eqb h.id id e)) ∙ from.1))) ∙ (of.held h from.0).slot in
          record {
            slot = there;
            levels = version h.version.num
                ∙ cond-true (eqb s.current.num h.version.num || is_held h.version.num new.slots) (version_of s h.version.num) None (or_right (eqb s.current.num h.version.num) (is_held h.version.num new.slots) (held_from new.slots h.id h.version.num there))
                ∙ (of.held h from.0).levels;
          };
      all = λ n v there. elim (cases_eq n id) [
        | inl e ↦ absurd (none-some (Some v) (sym (slot n ∙ cond-true (eqb n id) None (slot_of n s.slots) (eq-eqb n id e)) ∙ there))
        | inr ne ↦
            let old = of.all n v (sym (slot n ∙ cond-false (eqb n id) None (slot_of n s.slots) (ne_eqb n id ne)) ∙ there) in
            (old.0, (same old.0).1 (Has-filter (λ (k : Hold). not (eqb k.id id)) f.holds old.0 old.1 (ap not (ne_eqb old.0.id id (λ e. ne (sym old.2 ∙ e))))), old.2)
      ];
      known = λ n. of.known n ∙ ap (is_among n) (sym known);
      taken = λ n. of.taken n ∙ ap (is_among n) (sym taken);
    }

    -- an edit leads to the next version
    pub install-keeps : (e : Changes) (contents : Contents) (known : List ℕ) → IsSet s → new.current ≡ record { num = s.current.num + 1; levels = edited s.current.levels e } → new.slots ≡ s.slots → new.taken ≡ s.taken → ((v : ℕ) → version_of new v ≡ cond (eqb new.current.num v) (Some new.current.levels) (cond (is_held v s.slots) (version_of s v) None)) → ((n : ℕ) → is_among n known ≡ is_among n new.known) → AreOfSet new (edited_files f e contents known)
    install-keeps e contents known is current slots taken version alike = record {
      num = ap (λ n. n + 1) of.num ∙ ap (λ (w : Numbered). w.num) (sym current);
      levels = ap (λ ls. edited ls e) of.levels ∙ ap (λ (w : Numbered). w.levels) (sym current);
      held = λ h has. record {
        slot = ap (slot_of h.id) slots ∙ (of.held h has).slot;
        levels = version h.version.num
            ∙ cond-false (eqb new.current.num h.version.num) (Some new.current.levels) (cond (is_held h.version.num s.slots) (version_of s h.version.num) None) (later h has)
            ∙ cond-true (is_held h.version.num s.slots) (version_of s h.version.num) None (held_from s.slots h.id h.version.num (of.held h has).slot)
            ∙ (of.held h has).levels;
      };
      all = λ id v there. of.all id v (ap (slot_of id) (sym slots) ∙ there);
      known = alike;
      taken = λ n. of.taken n ∙ ap (is_among n) (sym taken);
    }
      where
        upto : (v : ℕ) → (v ≡ s.current.num) ⊎ IsSome (at_key (λ (w : Numbered). w.num) v s.older) → v ≤ s.current.num
        upto v (inl e) = omega arith
        upto v (inr some) = let less = is.older_before v some in omega arith

        later : (h : Hold) → Has f.holds h → eqb new.current.num h.version.num ≡ false
        later h has =
            let low = upto h.version.num (is.holds_stand h.id h.version.num (of.held h has).slot) in
            let next : new.current.num ≡ s.current.num + 1 = ap (λ (w : Numbered). w.num) current in
            ne_eqb new.current.num h.version.num (λ e. omega arith)

    -- numbers become known, or one is taken
    pub numbers-keep : (known taken : List ℕ) → new.current ≡ s.current → new.older ≡ s.older → new.slots ≡ s.slots → ((n : ℕ) → is_among n known ≡ is_among n new.known) → ((n : ℕ) → is_among n taken ≡ is_among n new.taken) → AreOfSet new (record f { known = known; taken = taken })
    numbers-keep known taken current older slots knows takes = record {
      num = of.num ∙ ap (λ (w : Numbered). w.num) (sym current);
      levels = of.levels ∙ ap (λ (w : Numbered). w.levels) (sym current);
      held = λ h has. record {
        slot = ap (slot_of h.id) slots ∙ (of.held h has).slot;
        levels = (λ i. cond (eqb (current i).num h.version.num) (Some (current i).levels) (option_map (λ (w : Numbered). w.levels) (at_key (λ (w : Numbered). w.num) h.version.num (older i)))) ∙ (of.held h has).levels;
      };
      all = λ id v there. of.all id v (ap (slot_of id) (sym slots) ∙ there);
      known = knows;
      taken = takes;
    }
