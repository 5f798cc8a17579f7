-- What an engine keeps from note to note.
use Rattle.std.proofs.Common.{◌≡◌, ℕ, ◌+◌, ◌≤◌, ◌^◌, Bool, true, false, cond, eqb, not, ◌||◌, append-nil, Some, None, List, [], ◌∷◌, ◌++◌, map, filter, Option, refl, sym, ap, ◌∙◌, subst, arith}
use Rattle.std.proofs.lemmas.Bool.{false≢true, or_left, or_right}
use Rattle.std.proofs.lemmas.List.Folds.{list_any-append}
use Rattle.std.specs.List.{list_any}
use Rattle.std.proofs.lemmas.List.Elements.{All-nil}
use Rattle.xdb_history.specs.Recorded.{Recorded, state_of}
use Rattle.xdb_lists.proofs.NumberLaws.{among_first}
use Rattle.xdb_lists.specs.Numbers.{is_among}
use Rattle.xdb_mem.specs.Queue.{opening as queue_opening}
use Rattle.xdb_plain.specs.Changes.{after, taken_after}
use Rattle.xdb_plain.specs.Failures.{is_damage, faults, has_damage}
use Rattle.xdb_plain.specs.Holds.{HoldsFit}
use Rattle.xdb_plain.specs.Legal.{after_all, Right, TellHolds}
use Rattle.xdb_plain.specs.Counts.{dead, is_dead}
use Rattle.xdb_plain.specs.State.{Plain, Version, Hold, opening}
use Rattle.xdb_plain.proofs.FailureLaws.{faults-append, has_damage-append}
use Rattle.xdb_plain.proofs.HistoryLaws.{after_all-push, right_push}
use Rattle.xdb_plain.specs.declared.note.Note.{Note}
use Rattle.xdb_plain.specs.declared.reply.Reply.{Reply}
use Rattle.xdb_plain.specs.declared.reply.Reply.TheVariants.{Took}
use Rattle.xdb_steps.specs.Between.{Held}
use Rattle.xdb_steps.specs.Core.{Core, Files, core, holders, numbers, no_files}
use Rattle.xdb_steps.specs.Keeps.{Agrees, Means}
use Rattle.xdb_steps.specs.Parts.Asks.{IsNumbered}
use Rattle.xdb_steps.specs.Parts.Files.{FilesAgree}
use Rattle.xdb_steps.specs.SetFiles.{AreOfSet}
use Rattle.xdb_steps.specs.Step.{HeldStep}
use Rattle.xdb_steps.proofs.OpeningLaws.{opening-means}
use Rattle.xdb_vset.specs.Seen.{Seen}
use Rattle.xdb_engine.specs.Files.{HasNoFiles, first_set}
use Rattle.xdb_engine.specs.Holds.{ask_holds}
use Rattle.xdb_engine.specs.Questions.{Asking, plain_question}
use Rattle.xdb_engine.specs.Removals.{Removing, reap_reply, taken_by, without_number}
use Rattle.xdb_engine.specs.State.{Stands, StateStands, SetStands, IsStep, Steps, core_of, files_of}
use Rattle.xdb_engine.specs.declared.state.State.{State}

-- a note that tells of no damage
damage-push : (notes : List Note) (note : Note) → is_damage note.reply ≡ false → has_damage notes ≡ false → has_damage (notes ++ note ∷ []) ≡ false
damage-push notes note last none = has_damage-append notes (note ∷ []) ∙ (λ i. none i || (last i || false))

-- each note tells its holds
tells-push : (p : Plain) (notes : List Note) (note : Note) → TellHolds p notes → HoldsFit (after_all p notes) note → TellHolds p (notes ++ note ∷ [])
tells-push p [] note tells fits = (fits, tt)
tells-push p (n ∷ notes) note tells fits = (tells.0, tells-push (after p n) notes note tells.1 fits)

booked-push : (notes : List Note) (note : Note) (rise : ℕ) → rise ≡ faults (note ∷ []) → faults (notes ++ note ∷ []) ≡ faults notes + rise
booked-push notes note rise booked = let sum = faults-append notes (note ∷ []) in omega arith

-- a history longer by the note of a step
stands-pushed : {told : Type 0} (c d : Core) (h k : Recorded) (book now rise : ℕ) (note : Note) → Stands told c h book → HeldStep (Unit {0}) rise c d (state_of h) note → k.first_seq ≡ h.first_seq → k.first_file ≡ h.first_file → k.notes ≡ h.notes ++ note ∷ [] → now ≡ book + rise → Stands told d k now
stands-pushed c d h k book now rise note s held_step seq file notes count =
    let step = held_step.step in
    let p = opening h.first_seq h.first_file in
    let state : state_of k ≡ after (state_of h) note = (λ i. after_all (opening (seq i) (file i)) (notes i)) ∙ after_all-push p h.notes note in
    let same : ((h.first_seq, h.first_file), h.notes ++ note ∷ []) ≡ ((k.first_seq, k.first_file), k.notes) = λ i. ((sym seq i, sym file i), sym notes i) in
    record {
      right = subst (λ (x : (ℕ × ℕ) × List Note). Right (opening x.0.0 x.0.1) x.1) same (right_push p h.notes note s.right step.stands (step.answers tt s.means));
      tells = subst (λ (x : (ℕ × ℕ) × List Note). TellHolds (opening x.0.0 x.0.1) x.1) same (tells-push p h.notes note s.tells held_step.holds);
      agrees = subst (Agrees d) (sym state) step.agrees;
      means = subst (Means d) (sym state) (step.means tt s.means);
      held = held_step.held;
      booked = count ∙ ap (λ n. n + rise) s.booked ∙ sym (ap faults notes ∙ booked-push h.notes note rise step.booked);
      undamaged = λ t. ap has_damage notes ∙ damage-push h.notes note (step.undamaged tt) (s.undamaged t);
    }

-- what was taken stays so
pub taken-stays : (ns : List ℕ) (reply : Reply) (n : ℕ) → is_among n ns ≡ true → is_among n (taken_after ns reply) ≡ true
taken-stays ns (Took num) n there = list_any-append (λ m. eqb m n) ns (num ∷ []) ∙ or_left (is_among n ns) (list_any (λ m. eqb m n) (num ∷ [])) there
taken-stays ns _ n there = there

-- the same of the state, after a step that booked so many faults and took one number at most
module _ {F : Type 0} (bytes : F → Option (List ℕ)) {told : Type 0} (s t : State F) (h k : Recorded) (r : Removing) (book : ℕ) (note : Note) (stands : StateStands bytes told s h r book) where
  abbrev step-of : {rise : ℕ} → Steps bytes rise s t note → IsStep bytes rise s t (state_of h) note
  step-of steps = steps (state_of h) stands.stands.agrees stands.stands.held stands.set

  pub state-booked : (now rise : ℕ) (left : Removing) → Steps bytes rise s t note → k.first_seq ≡ h.first_seq → k.first_file ≡ h.first_file → k.notes ≡ h.notes ++ note ∷ [] → k.spare + 1 ≡ h.spare → now ≡ book + rise → r.room ≤ left.room + 1 → ((n : ℕ) → is_among n left.numbers ≡ true → is_among n (after (state_of h) note).taken ≡ true) → StateStands bytes told t k left now
  state-booked now rise left steps seq file notes spare count room waits = record {
    stands = stands-pushed (core_of bytes s) (core_of bytes t) h k book now rise note stands.stands (step-of steps).step seq file notes count;
    set = (step-of steps).set;
    room = let before = stands.room in omega arith;
    taken = λ n there. ap (λ (p : Plain). is_among n p.taken) state ∙ waits n there;
  }
    where
      state : state_of k ≡ after (state_of h) note
      state = (λ i. after_all (opening (seq i) (file i)) (notes i)) ∙ after_all-push (opening h.first_seq h.first_file) h.notes note

  -- the numbers that wait are those before
  pub still-wait : (n : ℕ) → is_among n r.numbers ≡ true → is_among n (after (state_of h) note).taken ≡ true
  still-wait n there = taken-stays (state_of h).taken note.reply n (stands.taken n there)

  -- where no fault was booked, and nothing was taken
  pub state-pushed : Steps bytes 0 s t note → k.first_seq ≡ h.first_seq → k.first_file ≡ h.first_file → k.notes ≡ h.notes ++ note ∷ [] → k.spare + 1 ≡ h.spare → StateStands bytes told t k r book
  state-pushed steps seq file notes spare = state-booked book 0 r steps seq file notes spare (omega arith) (omega arith) still-wait

or_either : (a b c : Bool) → (b ≡ true → c ≡ true) → (a || b) ≡ true → (a || c) ≡ true
or_either true b c from there = refl
or_either false b c from there = from there

-- where a number is taken, if one is
pub taken-waits : (ns ms : List ℕ) (o : Option ℕ) → ((n : ℕ) → is_among n ms ≡ true → is_among n ns ≡ true) → (n : ℕ) → is_among n (ms ++ taken_by o) ≡ true → is_among n (taken_after ns (reap_reply o)) ≡ true
taken-waits ns ms None from n there = from n (sym (ap (is_among n) (append-nil ms)) ∙ there)
taken-waits ns ms (Some num) from n there =
    list_any-append (λ m. eqb m n) ns (num ∷ []) ∙ or_more (is_among n ms) (is_among n ns) (list_any (λ m. eqb m n) (num ∷ [])) (from n) (sym (list_any-append (λ m. eqb m n) ms (num ∷ [])) ∙ there)
  where
    or_more : (a b c : Bool) → (a ≡ true → b ≡ true) → (a || c) ≡ true → (b || c) ≡ true
    or_more true b c from there = or_left b c (from refl)
    or_more false b c from there = or_right b c there

-- The same where fewer numbers wait.
pub state-left : {F : Type 0} (bytes : F → Option (List ℕ)) {told : Type 0} (s : State F) (h : Recorded) (r left : Removing) (book num : ℕ) → StateStands bytes told s h r book → r.room ≤ left.room → left.numbers ≡ without_number num r.numbers → StateStands bytes told s h left book
state-left bytes s h r left book num stands room is = record {
  stands = stands.stands;
  set = stands.set;
  room = let before = stands.room in omega arith;
  taken = λ n there. stands.taken n (list_any-filter n num r.numbers (sym (ap (is_among n) is) ∙ there));
}
  where
    by : (n m num : ℕ) (ms : List ℕ) (t : Bool) → (is_among n (without_number num ms) ≡ true → is_among n ms ≡ true) → is_among n (cond (not t) (m ∷ without_number num ms) (without_number num ms)) ≡ true → (eqb m n || is_among n ms) ≡ true
    by n m num ms true rest there = or_right (eqb m n) (is_among n ms) (rest there)
    by n m num ms false rest there = or_either (eqb m n) (is_among n (without_number num ms)) (is_among n ms) rest there

    list_any-filter : (n num : ℕ) (ms : List ℕ) → is_among n (without_number num ms) ≡ true → is_among n ms ≡ true
    list_any-filter n num [] there = there
    list_any-filter n num (m ∷ ms) there = by n m num ms (eqb m num) (list_any-filter n num ms) there

-- The same of a set that is as before.
pub state-spent : {F : Type 0} (bytes : F → Option (List ℕ)) {told : Type 0} (s : State F) (files : Seen F) (h : Recorded) (r : Removing) (book : ℕ) → files ≡ s.files → StateStands bytes told s h r book → StateStands bytes told (record s { files = files }) h r book
state-spent bytes {told} s files h r book same stands = subst (λ f. StateStands bytes told (record s { files = f }) h r book) (sym same) (record {
  stands = stands.stands;
  set = record { of_set = stands.set.of_set; none = stands.set.none };
  room = stands.room;
  taken = stands.taken;
})

-- The same where the questions have other stories and results.
module _ {F : Type 0} (bytes : F → Option (List ℕ)) (s : State F) (asks : List (Asking F)) (same : map plain_question asks ≡ map plain_question s.asks) (holds : (set : Seen F) → ask_holds set asks ≡ ask_holds set s.asks) where
  core-same : core_of bytes s ≡ core_of bytes (record s { asks = asks })
  core-same = λ i. core s.mem (numbers s.numbers.next s.numbers.file s.numbers.asked 0) (sym same i) (files_of bytes s.files (sym (holds s.files) i)) []

  pub state-looked : {told : Type 0} (h : Recorded) (r : Removing) (book : ℕ) → StateStands bytes told s h r book → StateStands bytes told (record s { asks = asks }) h r book
  state-looked {told} h r book stands = record {
    stands = subst (λ c. Stands told c h book) core-same stands.stands;
    set = record { of_set = subst (λ (c : Core). AreOfSet s.files c.files) core-same stands.set.of_set; none = stands.set.none };
    room = stands.room;
    taken = stands.taken;
  }

-- before the first note
nobody-held : Held [] []
nobody-held = record { whose = λ x. (λ h. h, λ h. h); one_each = λ h k has. absurd has; one_number = λ h k has. absurd has }

abbrev first_parts : ℕ → ℕ → Core
first_parts seq file = core queue_opening (numbers seq file 0 0) [] no_files []

first-stands : {told : Type 0} (seq file : ℕ) (c : Core) (h : Recorded) (book : ℕ) → c ≡ first_parts seq file → h.first_seq ≡ seq → h.first_file ≡ file → h.notes ≡ [] → book ≡ 0 → 1 ≤ seq → seq ≤ 2 ^ 56 → file ≤ 2 ^ 56 → Stands told c h book
first-stands seq file c h book is s f none zero low high files =
    let state : opening seq file ≡ state_of h = λ i. after_all (opening (sym s i) (sym f i)) (sym none i) in
    record {
      right = subst (λ ns. Right (opening h.first_seq h.first_file) ns) (sym none) tt;
      tells = subst (λ ns. TellHolds (opening h.first_seq h.first_file) ns) (sym none) tt;
      agrees = subst (λ x. Agrees x (state_of h)) (sym is) (subst (Agrees (first_parts seq file)) state (record {
        mem = record { sealed = refl; active = refl; rising = low; above = omega arith };
        numbers = record { next = refl; file = refl; asked = refl; started = refl; upto = high; files_upto = files };
        asks = record { same = refl; numbered = All-nil (IsNumbered 0) };
        files = record { current = refl; holds = λ x. (λ h. h, λ h. h); known = λ n. refl; taken = λ n. refl; rising = omega arith };
        jobs = record { same = refl };
        snaps = record { none = refl };
        cursors = record { none = refl };
        loads = record { none = refl };
        owned = record { below = tt; unknown = tt; apart = tt };
        under_way = tt;
      }));
      means = subst (λ x. Means x (state_of h)) (sym is) (subst (Means (first_parts seq file)) state (opening-means seq file));
      held = subst (λ x. Held x.files.holds (holders x)) (sym is) nobody-held;
      booked = zero ∙ sym (ap faults none);
      undamaged = λ t. ap has_damage none;
    }

module _ {F : Type 0} (bytes : F → Option (List ℕ)) (s : State F) (none : s.asks ≡ []) (fresh : s.files ≡ first_set) where
  first-files : files_of bytes s.files (ask_holds s.files s.asks) ≡ no_files
  first-files = λ i. files_of bytes (fresh i) (ask_holds (fresh i) (none i))

  abbrev fresh_set : Seen F
  fresh_set = first_set

  set-agrees : AreOfSet fresh_set no_files
  set-agrees = record { num = refl; levels = refl; held = λ h has. absurd has; all = λ id v there. absurd (cc); known = λ n. refl; taken = λ n. refl }

  set-first : SetStands bytes s
  set-first = record {
    of_set = subst (λ (x : Seen F × Files). AreOfSet x.0 x.1) (λ i. (sym fresh i, sym first-files i)) set-agrees;
    none = subst HasNoFiles (sym fresh) (record { levels = refl; known = refl });
  }

  pub new-stands : {told : Type 0} (seq file : ℕ) (h : Recorded) (r : Removing) (book : ℕ) → h.spare ≡ 0 → r.numbers ≡ [] → s.mem ≡ queue_opening → s.numbers.next ≡ seq → s.numbers.file ≡ file → s.numbers.asked ≡ 0 → h.first_seq ≡ seq → h.first_file ≡ file → h.notes ≡ [] → book ≡ 0 → 1 ≤ seq → seq ≤ 2 ^ 56 → file ≤ 2 ^ 56 → StateStands bytes told s h r book
  new-stands seq file h r book spare nobody mem next file_is asked first_seq first_file notes zero low high files = record {
    stands = first-stands seq file (core_of bytes s) h book (λ i. core (mem i) (numbers (next i) (file_is i) (asked i) 0) (map plain_question (none i)) (first-files i) []) first_seq first_file notes zero low high files;
    set = set-first;
    room = omega arith;
    taken = λ n there. absurd (false≢true (sym (ap (is_among n) nobody) ∙ there));
  }

-- ---- without files

none-known : (f : Files) (file : ℕ) (v : Version) (holds : List Hold) (known taken : List ℕ) → f.known ≡ [] → FilesAgree f file v holds known taken → known ≡ []
none-known f file v holds [] taken none a = refl
none-known f file v holds (n ∷ ns) taken none a = absurd (false≢true (sym (a.known n ∙ ap (is_among n) none) ∙ among_first n ns))

-- nothing is dead
pub none-dead : (f : Files) (p : Plain) (file : ℕ) → f.known ≡ [] → FilesAgree f file p.current p.holds p.known p.taken → dead p ≡ []
none-dead f p file none a = ap (filter (is_dead p)) (none-known f file p.current p.holds p.known p.taken none a)
