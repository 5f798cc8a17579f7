-- What is handed out for a question means its answer.
use Rattle.std.proofs.Common.{◌≡◌, true, List, [], ◌∷◌, ◌++◌, Some, inl, inr, refl, sym, ap, ◌∙◌, subst}
use Rattle.std.proofs.lemmas.Grind.{flat_map-append}
use Rattle.xdb_edit.specs.Versions.{LevelLists}
use Rattle.xdb_key.specs.Bounds.{Bounds}
use Rattle.xdb_laws.proofs.AnswerLaws.{answered-alike, inside-bounds, answered-now}
use Rattle.xdb_laws.proofs.HandLaws.{handed-clear, handed-now}
use Rattle.xdb_laws.proofs.OrderLaws.{clear-within}
use Rattle.xdb_laws.proofs.PlaceLaws.{places-clear}
use Rattle.xdb_laws.specs.Answered.{answered, question_bounds, is_of_now}
use Rattle.xdb_laws.specs.Image.{image}
use Rattle.xdb_laws.specs.Ordered.{joined, whole}
use Rattle.xdb_laws.specs.Parts.{content_of_all, Handout, all_of, IsHandout}
use Rattle.xdb_mem.specs.Parts.{items}
use Rattle.xdb_mem.specs.Queue.{groups, all_ops}
use Rattle.xdb_meta.specs.Table.{Table}
use Rattle.xdb_plain.specs.Answers.{answer_now}
use Rattle.xdb_plain.specs.State.{Plain}
use Rattle.xdb_plain.specs.declared.question.Place.TheVariants.{Before}
use Rattle.xdb_plain.specs.declared.question.Question.{Question}
use Rattle.xdb_rangedel.proofs.MemberLaws.{Has-append_left, Has-append_right, Has-append_cases}
use Rattle.xdb_rangedel.proofs.NewestLaws.{newest_unordered}
use Rattle.xdb_rangedel.specs.Content.{Item, said_by, value_of, IsImage, IsClear}
use Rattle.xdb_rangedel.specs.Members.{Has, SameMembers}
use Rattle.xdb_steps.specs.Between.{group_items, all_items}
use Rattle.xdb_steps.specs.Core.{Core, table_items}
use Rattle.xdb_steps.specs.Handouts.{IsHandoutOf}
use Rattle.xdb_steps.specs.Keeps.{Means}
use Rattle.xdb_steps.specs.Tables.{Contents, SideBySide, IsTableOf, AreTables, with_bounds, all_with_bounds}
use Rattle.xdb_steps.proofs.TableLaws.{all-whole, tables-keep}

-- tables with their bounds have what the contents are
bounded-items : (levels : LevelLists) (contents : Contents) → AreTables levels contents → content_of_all (all_with_bounds levels contents) ≡ table_items contents
bounded-items [] [] h = refl
bounded-items [] (cs ∷ contents) h = absurd h
bounded-items (ts ∷ levels) [] h = absurd h
bounded-items (ts ∷ levels) (cs ∷ contents) h =
    flat_map-append (λ t. t.1) (with_bounds ts cs) (all_with_bounds levels contents)
    ∙ (λ i. level ts cs h.0 i ++ bounded-items levels contents h.1 i)
  where
    level : (ts : List Table) (cs : List (List Item)) → SideBySide IsTableOf ts cs → content_of_all (with_bounds ts cs) ≡ joined cs
    level [] [] h = refl
    level [] (c ∷ cs) h = absurd h
    level (t ∷ ts) [] h = absurd h
    level (t ∷ ts) (c ∷ cs) h = ap (λ x. c ++ x) (level ts cs h.1)

module _ (c : Core) (p : Plain) (m : Means c p) (r : Bounds) (part : List Item) (handed : List (Bounds × List Item)) (out : IsHandoutOf c r part handed) where
  abbrev hand : Handout
  hand = record {
    range = r;
    limit = c.numbers.next;
    ops = all_ops (groups c.mem);
    tables = all_with_bounds c.files.current.levels c.files.contents;
    part = part;
    handed = handed;
  }

  abbrev all : List Item
  all = all_items c.files.contents c.mem

  clear : IsClear all
  clear = clear-within (whole (group_items c.mem) c.files.contents) all (λ i. (all-whole c.files.contents c.mem i).0) (places-clear (group_items c.mem) c.files.contents m.order.places)

  same : SameMembers all (all_of hand)
  same = λ i. (
    λ h. elim (Has-append_cases (table_items c.files.contents) (items hand.ops) i h) [
      | inl t ↦ Has-append_right (items hand.ops) (content_of_all hand.tables) i (subst (λ x. Has x i) (sym (bounded-items c.files.current.levels c.files.contents m.tables)) t)
      | inr g ↦ Has-append_left (items hand.ops) (content_of_all hand.tables) i g
    ],
    λ h. elim (Has-append_cases (items hand.ops) (content_of_all hand.tables) i h) [
      | inl g ↦ Has-append_right (table_items c.files.contents) (items hand.ops) i g
      | inr t ↦ Has-append_left (table_items c.files.contents) (items hand.ops) i (subst (λ x. Has x i) (bounded-items c.files.current.levels c.files.contents m.tables) t)
    ],
  )

  is : IsHandout hand
  is = record {
    clear = clear-within all (all_of hand) (λ i. (same i).1) clear;
    inside = tables-keep c.files.current.levels c.files.contents m.tables;
    mem = out.mem;
    tables_are = out.tables;
  }

  pub hand-clear : IsClear (part ++ content_of_all handed)
  hand-clear = handed-clear hand is

  now : IsImage (all_of hand) c.numbers.next p.map
  now k = m.image.image k ∙ ap (λ x. value_of (said_by x)) (newest_unordered all (all_of hand) c.numbers.next k same clear)

  pub hand-answers : (question : Question) → is_of_now question ≡ true → question_bounds question ≡ Some r → answered (image (part ++ content_of_all handed) c.numbers.next) r Before question ≡ answer_now p question
  hand-answers question of_now bounds =
      answered-alike r (image (part ++ content_of_all handed) c.numbers.next) p.map Before question (handed-now hand is p.map now) (inside-bounds r question bounds)
      ∙ sym (answered-now p r question of_now)
