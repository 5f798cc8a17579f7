-- The open questions: at a place, when one ends, and when one has another story and result.
use Rattle.std.proofs.Common.{◌≡◌, ℕ, ◌<◌, Bool, true, false, not, cond, eqb, List, [], ◌∷◌, ◌++◌, All, length, map, get_or, set, Option, Some, None, refl, sym, ap, ◌∙◌, subst, arith}
use Rattle.std.specs.Option.{option_map, is_some, IfSome}
use Rattle.std.specs.List.{remove}
use Rattle.std.proofs.lemmas.Bool.{false≢true}
use Rattle.std.proofs.lemmas.List.{get_or-map, length-append, length-map, set-get_or}
use Rattle.std.proofs.lemmas.List.Elements.{All-filter, All-push}
use Rattle.std.proofs.lemmas.List.Filters.{length-filter_both}
use Rattle.std.proofs.lemmas.List.Kept.{AllPairs-filter}
use Rattle.std.proofs.lemmas.List.Quantifiers.{all_pairs_push}
use Rattle.xdb_lists.proofs.KeyLaws.{key_found}
use Rattle.xdb_lists.proofs.PlaceLaws.{remove_is, set_is, map-with_one, all-with_one, under-all, rising-same}
use Rattle.xdb_plain.specs.State.{found_question}
use Rattle.xdb_plain.specs.declared.act.Act.TheVariants as act
use Rattle.xdb_rangedel.specs.Content.{IsClear}
use Rattle.xdb_read.specs.Fits.{mem_content, ReadFits}
use Rattle.xdb_read.specs.declared.parts.ReadDone.{ReadDone}
use Rattle.xdb_steps.proofs.Found.{found-mapped}
use Rattle.xdb_steps.specs.Parts.Asks.{IsNumbered}
use Rattle.xdb_vset.specs.Hold.{Hold}
use Rattle.xdb_vset.specs.Seen.{Seen}
use Rattle.xdb_engine.specs.Ends.{IsSettled, answer_act, answer_of}
use Rattle.xdb_engine.specs.Holds.{ask_hold, ask_holds}
use Rattle.xdb_engine.specs.Opening.{read_of}
use Rattle.xdb_engine.specs.Questions.{Asking, AreAsks, FitsGiven, IsBare, IsPlaceOf, LooksAt, LooksFor, LooksUnlessKept, plain_question, put, question_by, question_of, with_story, without}
use Rattle.xdb_engine.specs.declared.ids.Id.{Id}
use Rattle.xdb_engine.specs.declared.ids.Id.TheVariants as ids
use Rattle.xdb_engine.specs.declared.questions.AskedRead.{AskedRead}
use Rattle.xdb_engine.specs.declared.questions.Settled.{Settled}

module _ {F : Type 0} where
  -- the plain question of a number
  pub plain-found : (ask : ℕ) (qs : List (Asking F)) (o : Option (Asking F)) → question_of ask qs ≡ o → found_question ask (map plain_question qs) ≡ option_map plain_question o
  plain-found ask qs o is = found-mapped plain_question ask qs ∙ ap (option_map plain_question) is

  -- what holds of the plain questions' numbers
  pub numbered-asks : (asked : ℕ) (qs : List (Asking F)) → All (IsNumbered asked) (map plain_question qs) → All (λ q. IsNumbered asked (plain_question q)) qs
  numbered-asks asked qs all = λ k d l.
      subst (IsNumbered asked) (get_or-map plain_question qs k d (plain_question d) l) (all k (plain_question d) (subst (λ n. k < n) (sym (length-map qs plain_question)) l))

  -- what is handed out has no tables
  pub bare-by : (id : Id) (qs : List (Asking F)) (q : Asking F) → Some q ≡ question_by id qs → All IsBare qs → IsBare q
  bare-by (ids.Ask ask) qs q there all = under-all (λ (x : Asking F). x.ask) IsBare ask q qs all (sym there)
  bare-by (ids.Job job) qs q there all = absurd (cc)
  bare-by (ids.Load load) qs q there all = absurd (cc)

-- `bytes` is what files tell
module _ {F : Type 0} (bytes : F → Option (List ℕ)) where
  pub asks-pushed : (q : Asking F) (qs : List (Asking F)) → AreAsks bytes qs → length qs < 64 → All (λ x. x.ask < q.ask) qs → IsBare q → IsClear (mem_content q.given) → FitsGiven bytes q → AreAsks bytes (qs ++ q ∷ [])
  asks-pushed q qs a few last bare clear fits = record {
    few = let n = length-append qs (q ∷ []) in omega arith;
    rising = all_pairs_push (λ (x y : Asking F). x.ask < y.ask) qs q a.rising last;
    bare = All-push IsBare qs q a.bare bare;
    clear = All-push (λ (x : Asking F). IsClear (mem_content x.given)) qs q a.clear clear;
    fits = All-push (FitsGiven bytes) qs q a.fits fits;
  }

  -- a question that is asked, without a result
  pub asks-opened : (a : AskedRead F) (hold : Hold) (q : Asking F) (qs : List (Asking F)) → q ≡ read_of a hold → AreAsks bytes qs → length qs < 64 → All (λ x. x.ask < a.number) qs → a.work.given.tables ≡ [] → IsClear (mem_content a.work.given) → a.work.kept ≡ None → AreAsks bytes (qs ++ q ∷ [])
  asks-opened a hold q qs is asks few last bare clear waits =
      subst (λ r. AreAsks bytes (qs ++ r ∷ [])) (sym is)
      (asks-pushed (read_of a hold) qs asks few last bare clear (subst (λ k. IfSome k (ReadFits bytes a.work.given)) (sym waits) tt))

  asks-without : (ask : ℕ) (qs : List (Asking F)) → AreAsks bytes qs → AreAsks bytes (without ask qs)
  asks-without ask qs a =
      let stays : Asking F → Bool = λ x. not (eqb x.ask ask) in
      record {
        few = let n = length-filter_both stays (λ x. not (stays x)) (λ x. refl) qs in let few = a.few in omega arith;
        rising = AllPairs-filter (λ (x y : Asking F). x.ask < y.ask) stays qs a.rising;
        bare = All-filter stays IsBare qs a.bare;
        clear = All-filter stays (λ (x : Asking F). IsClear (mem_content x.given)) qs a.clear;
        fits = All-filter stays (FitsGiven bytes) qs a.fits;
      }

  -- ---- the question at a place

  module _ (ask at : ℕ) (qs : List (Asking F)) (q : Asking F) (a : AreAsks bytes qs) (place : IsPlaceOf ask qs (Some at)) (is : get_or qs at q ≡ q) where
    pub place-is : question_of ask qs ≡ Some q
    place-is = key_found (λ (x : Asking F). x.ask) ask qs at q a.rising place.0 place.1 ∙ ap Some is

    -- it is what else is read there
    pub same-place : (r : Asking F) → get_or qs at r ≡ r → r ≡ q
    same-place r there = some-is r q (ap Some (sym there) ∙ sym (key_found (λ (x : Asking F). x.ask) ask qs at r a.rising place.0 place.1) ∙ place-is)
      where
        some-is : (x y : Asking F) → Some x ≡ Some y → x ≡ y
        some-is x y e = cc

    place-number : q.ask ≡ ask
    place-number = ap (λ (x : Asking F). x.ask) (sym is) ∙ place.1 q

    place-removed : remove qs at ≡ without ask qs
    place-removed = remove_is (λ (x : Asking F). x.ask) ask qs at a.rising place.0 place.1

    pub removed-asks : AreAsks bytes (remove qs at)
    removed-asks = subst (AreAsks bytes) (sym place-removed) (asks-without ask qs a)

    pub removed-is : remove qs at ≡ without q.ask qs
    removed-is = place-removed ∙ ap (λ n. without n qs) (sym place-number)

    -- a settle before the result is kept, and one that answers
    pub settled-early : (s : Settled) → is_some q.kept ≡ false → s.act ≡ act.Settle ask → s.noted ≡ answer_of None → s.told ≡ answer_of None → s.hold ≡ None → IsSettled ask (question_of ask qs) qs qs s
    settled-early s off acts noted told nothing = subst (λ o. IsSettled ask o qs qs s) (sym place-is) (record {
      same_act = acts ∙ ap (λ b. cond b (answer_act q) (act.Settle ask)) (sym off);
      noted = noted ∙ ap answer_of (sym (none q.kept off));
      told = told ∙ ap answer_of (sym (none q.kept off));
      hold = nothing ∙ ap (λ b. cond b (Some q.hold) None) (sym off);
      leaves = ap (λ b. cond b (without ask qs) qs) (sym off);
    })
      where
        none : (kept : Option ReadDone) → is_some kept ≡ false → kept ≡ None
        none None e = refl
        none (Some done) e = absurd (false≢true (sym e))

    pub settled-answered : (s : Settled) → is_some q.kept ≡ true → s.act ≡ answer_act q → s.noted ≡ answer_of q.kept → s.told ≡ answer_of q.kept → s.hold ≡ Some q.hold → IsSettled ask (question_of ask qs) qs (remove qs at) s
    settled-answered s on acts noted told goes = subst (λ o. IsSettled ask o qs (remove qs at) s) (sym place-is) (record {
      same_act = acts ∙ ap (λ b. cond b (answer_act q) (act.Settle ask)) (sym on);
      noted = noted;
      told = told;
      hold = goes ∙ ap (λ b. cond b (Some q.hold) None) (sym on);
      leaves = place-removed ∙ ap (λ b. cond b (without ask qs) qs) (sym on);
    })

    -- ---- another story and result

    module _ (r : Asking F) (same : r ≡ with_story q r.story r.kept) (fits : FitsGiven bytes r) where
      itself : question_of r.ask qs ≡ Some q
      itself = ap (λ (x : Asking F). question_of x.ask qs) same ∙ ap (λ n. question_of n qs) place-number ∙ place-is

      pub put-is : set qs at r ≡ put r qs
      put-is =
          let number : r.ask ≡ ask = ap (λ (x : Asking F). x.ask) same ∙ place-number in
          set_is (λ (x : Asking F). x.ask) r ask qs at a.rising place.0 place.1 ∙ ap (λ n. map (λ (x : Asking F). cond (eqb x.ask n) r x) qs) (sym number)

      kept-by : {Y : Type 0} (f : Asking F → Y) → f r ≡ f q → map f (put r qs) ≡ map f qs
      kept-by f e = map-with_one (λ (x : Asking F). x.ask) f q r r.ask qs a.rising itself e

      put-asks : AreAsks bytes (put r qs)
      put-asks = record {
        few = let n = length-map qs (λ (x : Asking F). cond (eqb x.ask r.ask) r x) in let few = a.few in omega arith;
        rising = rising-same (λ (x : Asking F). x.ask) qs (put r qs) (kept-by (λ x. x.ask) (ap (λ (x : Asking F). x.ask) same)) a.rising;
        bare = all-with_one (λ (x : Asking F). x.ask) IsBare r r.ask qs
            (subst IsBare (sym same) (under-all (λ (x : Asking F). x.ask) IsBare ask q qs a.bare place-is)) a.bare;
        clear = all-with_one (λ (x : Asking F). x.ask) (λ (x : Asking F). IsClear (mem_content x.given)) r r.ask qs
            (subst (λ (x : Asking F). IsClear (mem_content x.given)) (sym same) (under-all (λ (x : Asking F). x.ask) (λ (x : Asking F). IsClear (mem_content x.given)) ask q qs a.clear place-is)) a.clear;
        fits = all-with_one (λ (x : Asking F). x.ask) (FitsGiven bytes) r r.ask qs fits a.fits;
      }

      pub set-asks : AreAsks bytes (set qs at r)
      set-asks = subst (AreAsks bytes) (sym put-is) put-asks

      pub set-holds : (s : Seen F) → ask_holds s (set qs at r) ≡ ask_holds s qs
      set-holds s = ap (ask_holds s) put-is ∙ kept-by (ask_hold s) (ap (ask_hold s) same)

      pub set-plain : map plain_question (set qs at r) ≡ map plain_question qs
      set-plain = ap (map plain_question) put-is ∙ kept-by plain_question (ap plain_question same)

      looks-by : (b : Bool) (kept : Option ReadDone) → q.kept ≡ kept → LooksUnlessKept kept q r → b ≡ is_some r.kept → LooksAt bytes kept q qs (set qs at r) b
      looks-by b (Some done) e look tells = (
        ap (set qs at) (look ∙ sym is) ∙ set-get_or qs at q,
        tells ∙ ap (λ (x : Asking F). is_some x.kept) look ∙ ap is_some e,
      )
      looks-by b None e look tells =
          record { story = r.story; kept = r.kept; leaves = put-is ∙ ap (λ x. put x qs) same; look = look; tells = tells; fits = subst (λ (x : Asking F). IfSome r.kept (ReadFits bytes x.given)) same fits }

      pub looks : (b : Bool) → LooksUnlessKept q.kept q r → b ≡ is_some r.kept → LooksFor bytes (question_of ask qs) qs (set qs at r) b
      looks b look tells = subst (λ o. LooksFor bytes o qs (set qs at r) b) (sym place-is) (looks-by b q.kept refl look tells)

      -- a result is brought
      pub brought : (done : ReadDone) → r ≡ with_story q q.story (Some done) → IfSome (question_of ask qs) (λ x. set qs at r ≡ put (with_story x x.story (Some done)) qs)
      brought done e = subst (λ o. IfSome o (λ x. set qs at r ≡ put (with_story x x.story (Some done)) qs)) (sym place-is) (put-is ∙ ap (λ x. put x qs) e)
