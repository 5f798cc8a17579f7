-- What the set of an engine's files has after a question took its hold, and after one let go of it.
use Rattle.std.proofs.Common.{◌≡◌, ℕ, not, eqb, ◌||◌, List, [], ◌∷◌, ◌++◌, Option, Some, None, inl, inr, ◌⊎◌, refl, sym, ap, ◌∙◌, subst}
use Rattle.std.specs.Option.{option_map, unwrap_or}
use Rattle.std.proofs.lemmas.Bool.{false≢true, cases_eq, or_right, eq-eqb, ne_eqb, cond-true, cond-false}
use Rattle.std.proofs.lemmas.List.{map-append}
use Rattle.std.proofs.lemmas.Option.{none-some}
use Rattle.xdb_edit.specs.Versions.{LevelLists, no_tables}
use Rattle.xdb_laws.specs.Tables.{contents}
use Rattle.xdb_lists.specs.Keyed.{at_key}
use Rattle.xdb_mem.proofs.PickLaws.{Has-filter, Has-from_filter}
use Rattle.xdb_plain.specs.State.{Hold as PlainHold, Holder, for_ask}
use Rattle.xdb_rangedel.proofs.MemberLaws.{Has-append_left, Has-append_right, Has-append_cases, Has-map, Has-from_map}
use Rattle.xdb_rangedel.specs.Members.{Has, SameMembers}
use Rattle.xdb_steps.proofs.SetSteps.{release-keeps}
use Rattle.xdb_steps.specs.Between.{Held}
use Rattle.xdb_steps.specs.Core.{Files, without_hold}
use Rattle.xdb_steps.specs.SetFiles.{AreOfSet, IsHoldOf}
use Rattle.xdb_vset.proofs.HoldLaws.{held_from}
use Rattle.xdb_vset.specs.Hold.{Hold}
use Rattle.xdb_vset.specs.Holds.{slot_of, is_held}
use Rattle.xdb_vset.specs.Seen.{Seen, version_of}
use Rattle.xdb_vset.specs.Versions.{Numbered}
use Rattle.xdb_engine.specs.Files.{HasNoFiles, content_by}
use Rattle.xdb_engine.specs.Holds.{HoldsCurrent, LetsGoOf, ask_hold, ask_holds, version_at}
use Rattle.xdb_engine.specs.Questions.{Asking, without}
use Rattle.xdb_engine.specs.State.{files_of}

-- ---- a hold of the current version

module _ {F : Type 0} (s new : Seen F) (h : Hold) (holds_now : HoldsCurrent s new h) where
  -- the set with the other slots
  abbrev later : Seen F
  later = record s { slots = new.slots; next = new.next }

  pub none-new : HasNoFiles s → HasNoFiles new
  none-new e = subst HasNoFiles (sym holds_now.rest) (record { levels = e.levels; known = e.known })

  module _ (f : Files) (of : AreOfSet s f) where
    -- no hold of the files has its number
    pub unheld : (k : PlainHold) → Has f.holds k → k.id ≡ h.id → ⊥
    unheld k has e = none-some (Some k.version.num) (sym (ap (λ n. slot_of n s.slots) e ∙ holds_now.fresh) ∙ (of.held k has).slot)

    current-there : version_of later f.current.num ≡ Some f.current.levels
    current-there =
        cond-true (eqb s.current.num f.current.num) (Some s.current.levels) (option_map (λ (w : Numbered). w.levels) (at_key (λ (w : Numbered). w.num) f.current.num s.older)) (eq-eqb s.current.num f.current.num (sym of.num))
        ∙ ap (λ (ls : LevelLists). Some ls) (sym of.levels)

    module _ (holder : Holder) (holds : List PlainHold) where
      abbrev one : PlainHold
      one = record { id = h.id; holder = holder; version = f.current }

      one-there : IsHoldOf later one
      one-there = record {
        slot = holds_now.slot h.id ∙ cond-true (eqb h.id h.id) (Some (Some s.current.num)) (slot_of h.id s.slots) (eq-eqb h.id h.id refl) ∙ ap (λ (n : ℕ). Some (Some n)) (sym of.num);
        levels = current-there;
      }

      at-last : (k : PlainHold) → (one ≡ k) ⊎ Has [] k → IsHoldOf later k
      at-last k (inl e) = subst (IsHoldOf later) e one-there
      at-last k (inr nil) = absurd nil

      taken-later : SameMembers holds (f.holds ++ one ∷ []) → AreOfSet later (record f { holds = holds })
      taken-later same = record {
        num = of.num;
        levels = of.levels;
        held = λ k has. elim (Has-append_cases f.holds (one ∷ []) k ((same k).0 has)) [
          | inl old ↦ record {
            slot = holds_now.slot k.id ∙ cond-false (eqb k.id h.id) (Some (Some s.current.num)) (slot_of k.id s.slots) (ne_eqb k.id h.id (unheld k old)) ∙ (of.held k old).slot;
            levels = (of.held k old).levels;
          }
          | inr last ↦ at-last k last
        ];
        all = λ id v there. elim (cases_eq id h.id) [
          | inl e ↦ (one, (same one).1 (Has-append_right f.holds (one ∷ []) one (inl refl)), sym e)
          | inr ne ↦
              let old = of.all id v (sym (holds_now.slot id ∙ cond-false (eqb id h.id) (Some (Some s.current.num)) (slot_of id s.slots) (ne_eqb id h.id ne)) ∙ there) in
              (old.0, (same old.0).1 (Has-append_left f.holds (one ∷ []) old.0 old.1), old.2)
        ];
        known = of.known;
        taken = of.taken;
      }

      pub taken-keeps : SameMembers holds (f.holds ++ one ∷ []) → AreOfSet new (record f { holds = holds })
      taken-keeps same = subst (λ t. AreOfSet t (record f { holds = holds })) (sym holds_now.rest) (taken-later same)

  -- the questions' holds, where one is asked behind the others
  module _ (qs : List (Asking F)) (q : Asking F) (whose : q.hold ≡ h) where
    abbrev last : PlainHold
    last = record { id = h.id; holder = for_ask q.ask; version = record { num = s.current.num; levels = s.current.levels } }

    last-is : ask_hold later q ≡ last
    last-is =
        (λ i. record { id = (whose i).id; holder = for_ask q.ask; version = version_at later (whose i).version })
        ∙ (λ i. record { id = h.id; holder = for_ask q.ask; version = version_at later (holds_now.version i) })
        ∙ ap (λ (o : Option LevelLists). record { id = h.id; holder = for_ask q.ask; version = record { num = s.current.num; levels = unwrap_or o no_tables } })
        (cond-true (eqb s.current.num s.current.num) (Some s.current.levels) (option_map (λ (w : Numbered). w.levels) (at_key (λ (w : Numbered). w.num) s.current.num s.older)) (eq-eqb s.current.num s.current.num refl))

    pub more-holds : ask_holds new (qs ++ q ∷ []) ≡ ask_holds s qs ++ last ∷ []
    more-holds =
        ap (λ t. ask_holds t (qs ++ q ∷ [])) holds_now.rest ∙ map-append (ask_hold later) qs (q ∷ []) ∙ ap (λ x. ask_holds s qs ++ x ∷ []) last-is

-- ---- a hold that goes

module _ {F : Type 0} (bytes : F → Option (List ℕ)) (s new : Seen F) (q : Asking F) (goes : LetsGoOf q.hold s new) where
  pub none-left : HasNoFiles s → HasNoFiles new
  none-left e = subst HasNoFiles (sym goes.rest) (record { levels = e.levels; known = e.known })

  current-same : new.current ≡ s.current
  current-same = ap (λ (t : Seen F). t.current) goes.rest

  -- what tables have, of which there are none
  contents-same : HasNoFiles s → contents (content_by bytes new) new.current.levels ≡ contents (content_by bytes s) s.current.levels
  contents-same e =
      ap (λ (v : Numbered). contents (content_by bytes new) v.levels) current-same ∙ ap (contents (content_by bytes new)) e.levels
      ∙ sym (ap (contents (content_by bytes s)) e.levels)

  pub left-files : HasNoFiles s → (holds : List PlainHold) → files_of bytes new holds ≡ files_of bytes s holds
  left-files e holds = λ i. record {
    current = record { num = (goes.rest i).current.num; levels = (goes.rest i).current.levels };
    contents = contents-same e i;
    holds = holds;
    known = (goes.rest i).known;
    taken = (goes.rest i).taken;
  }

  module _ (f : Files) (of : AreOfSet s f) (holds : List PlainHold) (same : SameMembers holds (without_hold q.hold.id f.holds)) where
    pub left-keeps : AreOfSet new (record f { holds = holds })
    left-keeps = release-keeps s f of new q.hold.id holds current-same (ap (λ (t : Seen F). t.known) goes.rest) (ap (λ (t : Seen F). t.taken) goes.rest) goes.slot goes.version same

  module _ (asks : List (Asking F)) (f : Files) (whole : f.holds ≡ ask_holds s asks) (of : AreOfSet s f) (those : List Holder) (held : Held f.holds those) (there : Has asks q) where
    has-hold : (r : Asking F) → Has asks r → Has f.holds (ask_hold s r)
    has-hold r has = subst (λ hs. Has hs (ask_hold s r)) (sym whole) (Has-map (ask_hold s) asks r has)

    same-ask : (n m : ℕ) → for_ask n ≡ for_ask m → n ≡ m
    same-ask n m e = cc

    -- another number is another hold
    id-apart : (r : Asking F) → Has asks r → (r.ask ≡ q.ask → ⊥) → r.hold.id ≡ q.hold.id → ⊥
    id-apart r has ne e = ne (same-ask r.ask q.ask (ap (λ (h : PlainHold). h.holder) (held.one_number (ask_hold s r) (ask_hold s q) (has-hold r has) (has-hold q there) e)))

    -- the same number is the same hold
    id-same : (r : Asking F) → Has asks r → r.ask ≡ q.ask → r.hold.id ≡ q.hold.id
    id-same r has e = ap (λ (h : PlainHold). h.id) (held.one_each (ask_hold s r) (ask_hold s q) (has-hold r has) (has-hold q there) (eq-eqb r.ask q.ask e))

    -- another question's hold stays
    hold-stays : (r : Asking F) → Has asks r → (r.hold.id ≡ q.hold.id → ⊥) → ask_hold new r ≡ ask_hold s r
    hold-stays r has ne =
        let slot = goes.slot r.hold.id ∙ cond-false (eqb r.hold.id q.hold.id) None (slot_of r.hold.id s.slots) (ne_eqb r.hold.id q.hold.id ne) ∙ (of.held (ask_hold s r) (has-hold r has)).slot in
        ap (λ (o : Option LevelLists). record { id = r.hold.id; holder = for_ask r.ask; version = record { num = r.hold.version; levels = unwrap_or o no_tables } })
        (goes.version r.hold.version ∙ cond-true (eqb s.current.num r.hold.version || is_held r.hold.version new.slots) (version_of s r.hold.version) None
        (or_right (eqb s.current.num r.hold.version) (is_held r.hold.version new.slots) (held_from new.slots r.hold.id r.hold.version slot)))

    ask-stays : (r : Asking F) → Has (without q.ask asks) r → Has asks r × (r.ask ≡ q.ask → ⊥)
    ask-stays r has =
        let from = Has-from_filter (λ (x : Asking F). not (eqb x.ask q.ask)) asks r has in
        (from.0, λ e. false≢true (sym (ap not (eq-eqb r.ask q.ask e)) ∙ from.1))

    pub fewer-holds : SameMembers (ask_holds new (without q.ask asks)) (without_hold q.hold.id f.holds)
    fewer-holds = λ x. (
      λ has.
          let from = Has-from_map (ask_hold new) (without q.ask asks) x has in
          let stays = ask-stays from.0 from.1 in
          let apart = id-apart from.0 stays.0 stays.1 in
          let is : ask_hold s from.0 ≡ x = sym (hold-stays from.0 stays.0 apart) ∙ from.2 in
          subst (Has (without_hold q.hold.id f.holds)) is
          (Has-filter (λ (h : PlainHold). not (eqb h.id q.hold.id)) f.holds (ask_hold s from.0) (has-hold from.0 stays.0) (ap not (ne_eqb from.0.hold.id q.hold.id apart))),
      λ has.
          let kept = Has-from_filter (λ (h : PlainHold). not (eqb h.id q.hold.id)) f.holds x has in
          let from = Has-from_map (ask_hold s) asks x (subst (λ hs. Has hs x) whole kept.0) in
          let apart : from.0.hold.id ≡ q.hold.id → ⊥ = λ e. false≢true (sym (ap not (eq-eqb x.id q.hold.id (ap (λ (h : PlainHold). h.id) (sym from.2) ∙ e))) ∙ kept.1) in
          let stays = Has-filter (λ (r : Asking F). not (eqb r.ask q.ask)) asks from.0 from.1 (ap not (ne_eqb from.0.ask q.ask (λ e. apart (id-same from.0 from.1 e)))) in
          subst (Has (ask_holds new (without q.ask asks))) (hold-stays from.0 from.1 apart ∙ from.2) (Has-map (ask_hold new) (without q.ask asks) from.0 stays),
    )
