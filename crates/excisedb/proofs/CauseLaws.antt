-- What each status excludes.
use Rattle.std.proofs.Common.{◌≡◌, ◌⊎◌, ℕ, ◌+◌, ◌≤◌, List, ◌++◌, length, Option, Some, None, refl, sym, ap, ◌∙◌, inl, inr, arith, append-nil}
use Rattle.std.specs.Io.KnownBytes.{IsAtEnd}
use Rattle.std.specs.Option.{option_map}
use Rattle.std.proofs.lemmas.List.{take_all, take-append-le}
use Rattle.xdb_script.specs.Defects.{script_read}
use Rattle.xdb_script.specs.Grammar.{most_bytes}
use Rattle.xdb_script.specs.declared.error.Why.{Why}
use Rattle.xdb_script.specs.declared.error.Why.TheVariants as why
use Rattle.xdb_script.specs.declared.form.ScriptForm.TheVariants.{Run}
use Rattle.xdb_script.proofs.Scripts.{script-again}
use Rattle.excisedb.specs.Causes.{OrFails, OrReadFails, bytes_read}
use Rattle.excisedb.specs.Devices.{DeviceSeen, first}
use Rattle.excisedb.specs.Ends.{run_words, refused, AreRead, IsReply, Ends}
use Rattle.excisedb.specs.declared.status.Status.{Status}
use Rattle.excisedb.specs.declared.status.Status.TheVariants.{Done, Words, Script, ReadFault, WriteFault, Memory}

pub words-refused : (status : Status) (words : List (List ℕ)) (left left' old new : Option (List ℕ)) (told : Type 0) (devs devs' : List DeviceSeen) → Ends status words left left' old new told devs devs' → (words ≡ run_words → ⊥) → OrFails Words status
words-refused Done words left left' old new told devs devs' ends others = absurd (others ends.is.command)
words-refused Words words left left' old new told devs devs' ends others = inl refl
words-refused Script words left left' old new told devs devs' ends others = absurd (others ends.is.command)
words-refused ReadFault words left left' old new told devs devs' ends others = absurd (others ends.0)
words-refused WriteFault words left left' old new told devs devs' ends others = inr (inl refl)
words-refused Memory words left left' old new told devs devs' ends others = inr (inr refl)

pub command-known : (status : Status) (words : List (List ℕ)) (left left' old new : Option (List ℕ)) (told : Type 0) (devs devs' : List DeviceSeen) → Ends status words left left' old new told devs devs' → words ≡ run_words → status ≡ Words → ⊥
command-known Words words left left' old new told devs devs' ends run is = ends.is.others run
command-known Done words left left' old new told devs devs' ends run is = absurd (cc)
command-known Script words left left' old new told devs devs' ends run is = absurd (cc)
command-known ReadFault words left left' old new told devs devs' ends run is = absurd (cc)
command-known WriteFault words left left' old new told devs devs' ends run is = absurd (cc)
command-known Memory words left left' old new told devs devs' ends run is = absurd (cc)

part-read : (xs ys bytes : List ℕ) → xs ≡ bytes ++ ys → length bytes ≤ most_bytes + 1 → IsAtEnd (Some ys) ⊎ (length bytes ≡ most_bytes + 1) → bytes ≡ bytes_read xs
part-read xs ys bytes all within (inl end) =
    let same : xs ≡ bytes = all ∙ ap (λ zs. bytes ++ zs) end ∙ append-nil bytes in
    sym (take_all (most_bytes + 1) bytes within) ∙ ap bytes_read (sym same)
part-read xs ys bytes all within (inr full) =
    sym (take_all (most_bytes + 1) bytes within) ∙ sym (take-append-le (most_bytes + 1) bytes ys (omega (arith, full))) ∙ ap bytes_read (sym all)

-- the bytes read are those that a told source had left, up to the most
bytes-are-read : (xs bytes : List ℕ) (left' : Option (List ℕ)) → AreRead (Some xs) left' bytes → bytes ≡ bytes_read xs
bytes-are-read xs bytes None read = absurd read.consumed
bytes-are-read xs bytes (Some ys) read = part-read xs ys bytes read.consumed read.within read.whole

-- bytes that get a reply have no defect
reply-undefective : (told : Type 0) (dev dev' : DeviceSeen) (bytes text : List ℕ) → IsReply told dev dev' bytes text → refused (script_read Run bytes) ≡ None
reply-undefective told dev dev' bytes text reply =
    ap refused (script-again Run bytes reply.lines reply.spelled) ∙ ap (λ o. option_map (λ (n : ℕ). (n, why.Verb)) o) reply.built

-- what was read of a told source has a defect or not
read-defect : (xs bytes : List ℕ) (left' : Option (List ℕ)) (found : Option (ℕ × Why)) → AreRead (Some xs) left' bytes → refused (script_read Run bytes) ≡ found → refused (script_read Run (bytes_read xs)) ≡ found
read-defect xs bytes left' found read h = ap (λ b. refused (script_read Run b)) (sym (bytes-are-read xs bytes left' read)) ∙ h

pub bad-refused : (status : Status) (words : List (List ℕ)) (xs : List ℕ) (left' old new : Option (List ℕ)) (told : Type 0) (devs devs' : List DeviceSeen) (defect : ℕ × Why) → Ends status words (Some xs) left' old new told devs devs' → words ≡ run_words → refused (script_read Run (bytes_read xs)) ≡ Some defect → OrReadFails Script status
bad-refused Done words xs left' old new told devs devs' defect ends run bad =
    let reply = ends.is in
    let good : refused (script_read Run (bytes_read xs)) ≡ None = read-defect xs reply.bytes left' None reply.read (reply-undefective told (first devs) (first devs') reply.bytes ends.text reply.text_is) in
    absurd (cc)
bad-refused Words words xs left' old new told devs devs' defect ends run bad = absurd (ends.is.others run)
bad-refused Script words xs left' old new told devs devs' defect ends run bad = inr (inl refl)
bad-refused ReadFault words xs left' old new told devs devs' defect ends run bad = inl refl
bad-refused WriteFault words xs left' old new told devs devs' defect ends run bad = inr (inr (inl refl))
bad-refused Memory words xs left' old new told devs devs' defect ends run bad = inr (inr (inr refl))

pub good-run : (status : Status) (words : List (List ℕ)) (xs : List ℕ) (left' old new : Option (List ℕ)) (told : Type 0) (devs devs' : List DeviceSeen) → Ends status words (Some xs) left' old new told devs devs' → words ≡ run_words → refused (script_read Run (bytes_read xs)) ≡ None → OrReadFails Done status
good-run Done words xs left' old new told devs devs' ends run good = inr (inl refl)
good-run Words words xs left' old new told devs devs' ends run good = absurd (ends.is.others run)
good-run Script words xs left' old new told devs devs' ends run good =
    let refusal = ends.is in
    let bad = read-defect xs refusal.bytes left' (Some refusal.text_is.defect) refusal.read refusal.text_is.found in
    absurd (cc)
good-run ReadFault words xs left' old new told devs devs' ends run good = inl refl
good-run WriteFault words xs left' old new told devs devs' ends run good = inr (inr (inl refl))
good-run Memory words xs left' old new told devs devs' ends run good = inr (inr (inr refl))
