-- From the parts of a call to what it has read and written.
use Rattle.std.proofs.Common.{◌≡◌, ℕ, ◌+◌, ◌<◌, ◌≤◌, List, [], ◌∷◌, length, take, get_or, set, Option, Some, None, Result, Ok, Err, refl, sym, ap, subst, ◌∙◌, inl, inr, arith}
use Rattle.std.specs.Option.{option_map}
use Rattle.std.specs.Io.KnownBytes.{Appends, Consumes, IsAtEnd, prepend_known, append_known}
use Rattle.std.proofs.lemmas.Bool.{cases_lt}
use Rattle.xdb_device.specs.Streams.{Grew}
use Rattle.xdb_device.specs.Told.{Told}
use Rattle.xdb_plain.specs.declared.script.Line.{Line}
use Rattle.xdb_script.specs.Defects.{script_read}
use Rattle.xdb_script.specs.Grammar.{Spells, most_bytes}
use Rattle.xdb_script.specs.Whole.{IsAnswer}
use Rattle.xdb_script.specs.declared.error.ScriptNo.{ScriptNo}
use Rattle.xdb_script.specs.declared.error.ScriptNo.TheVariants.{BadLine}
use Rattle.xdb_script.specs.declared.error.Why.{Why}
use Rattle.xdb_script.specs.declared.error.Why.TheVariants as why
use Rattle.xdb_script.specs.declared.form.ScriptForm.TheVariants.{Run}
use Rattle.excisedb.specs.Devices.{DeviceSeen, first, device_seen, devices_seen}
use Rattle.excisedb.specs.Ends.{run_words, usage_text, refusal_text, refused, AreRead, IsReply, IsRefusal, IsUsage, IsAnswered, MayWrite, Ends}
use Rattle.excisedb.specs.Outcome.{Replies, RepliesTo, IsSent}
use Rattle.excisedb.specs.declared.status.Status.{Status}
use Rattle.excisedb.specs.declared.status.Status.TheVariants.{Done, Words, Script, ReadFault, WriteFault, Memory}

-- a script's reply is that of the bytes that spell it
pub replies-to : (told : Type 0) (dev dev' : DeviceSeen) (bytes : List ℕ) (lines : List Line) (status : Status) (text : List ℕ) → script_read Run bytes ≡ Ok lines → Spells Run bytes lines → RepliesTo told dev dev' lines status text → Replies told dev dev' bytes status text
replies-to told dev dev' bytes lines Done text read spelled h = record { lines = lines; spelled = spelled; built = h.0; text_is = h.1 }
replies-to told dev dev' bytes lines Script text read spelled h = record { defect = (h.0, why.Verb); found = ap refused read ∙ ap (λ o. option_map (λ (n : ℕ). (n, why.Verb)) o) h.1; told = h.2 }
replies-to told dev dev' bytes lines _ text read spelled h = absurd h

-- what a refusal tells of what was read
pub read-refused : (result : Result (List Line) ScriptNo) (read : Result (List Line) (ℕ × Why)) (line : ℕ) (reason : Why) → IsAnswer result read → result ≡ Err (BadLine line reason) → read ≡ Err (line, reason)
read-refused result read line reason answer is = subst (λ r. IsAnswer r read) is answer

-- bytes that spell no script
pub replies-refused : (seen : Type 0) (dev dev' : DeviceSeen) (bytes : List ℕ) (line : ℕ) (reason : Why) (text : List ℕ) → script_read Run bytes ≡ Err (line, reason) → text ≡ refusal_text (line, reason) → Replies seen dev dev' bytes Script text
replies-refused seen dev dev' bytes line reason text read told = record { defect = (line, reason); found = ap refused read; told = told }

appends : (old new : Option (List ℕ)) (text : List ℕ) → new ≡ append_known old text → Appends old new text
appends None new text e = tt
appends (Some xs) None text e = absurd (cc)
appends (Some xs) (Some ys) text e = cc

consumes : (left left' : Option (List ℕ)) (bytes : List ℕ) → prepend_known bytes left' ≡ prepend_known [] left → Consumes left left' bytes
consumes None left' bytes e = tt
consumes (Some xs) None bytes e = absurd (cc)
consumes (Some xs) (Some ys) bytes e = cc

-- all that were left were read, or as many as may be
pub are-read : (left left' : Option (List ℕ)) (before bytes : List ℕ) (n : ℕ) → before ≡ [] → prepend_known bytes left' ≡ prepend_known before left → Grew n before bytes → n ≤ most_bytes + 1 → (n < most_bytes + 1 → IsAtEnd left') → AreRead left left' bytes
are-read left left' before bytes n none taken grew most ended =
    let by : length bytes ≡ length before + n = grew.by in
    let empty : length before ≡ 0 = ap length none in
    record {
      consumed = consumes left left' bytes (taken ∙ ap (λ xs. prepend_known xs left) none);
      within = omega (arith, by, empty, most);
      whole = elim (cases_lt n (most_bytes + 1)) [ inl less ↦ inl (ended less) | inr full ↦ inr (omega arith) ];
    }

module _ (told : Type 0) (devs devs' : List DeviceSeen) where
  sent-ends : (status result : Status) (words : List (List ℕ)) (left left' old new : Option (List ℕ)) (text : List ℕ) → MayWrite words left left' told devs devs' text → (Appends old new text → Ends status words left left' old new told devs devs') → IsSent status text old new result → Ends result words left left' old new told devs devs'
  sent-ends status result words left left' old new text may whole (inl sent) = subst (λ s. Ends s words left left' old new told devs devs') (sym sent.0) (whole (appends old new text sent.1))
  sent-ends status result words left left' old new text may whole (inr (inl fault, part)) =
      subst (λ s. Ends s words left left' old new told devs devs') (sym fault) (record { text = text; is = may; count = part.count; within = part.within; written = appends old new (take part.count text) part.written })
  sent-ends status result words left left' old new text may whole (inr (inr lack, part)) =
      subst (λ s. Ends s words left left' old new told devs devs') (sym lack) (inr (record { text = text; is = may; count = part.count; within = part.within; written = appends old new (take part.count text) part.written }))

  -- other words
  pub usage-ends : (result : Status) (words : List (List ℕ)) (left old new : Option (List ℕ)) → (words ≡ run_words → ⊥) → IsSent Words usage_text old new result → Ends result words left left old new told devs devs'
  usage-ends result words left old new others sent =
      let usage : IsUsage words left left usage_text = record { others = others; alone = refl; told = refl } in
      sent-ends Words result words left left old new usage_text (inl usage) (λ written. record { text = usage_text; is = usage; written = written }) sent

  -- the command, on the first device
  pub reply-ends : (status result : Status) (words : List (List ℕ)) (left left' old new : Option (List ℕ)) (bytes text : List ℕ) → words ≡ run_words → AreRead left left' bytes → Replies told (first devs) (first devs') bytes status text → IsSent status text old new result → Ends result words left left' old new told devs devs'
  reply-ends Done result words left left' old new bytes text run read replies sent =
      let reply : IsAnswered (IsReply told (first devs) (first devs')) words left left' text = record { command = run; bytes = bytes; read = read; text_is = replies } in
      sent-ends Done result words left left' old new text (inr (inr reply)) (λ written. record { text = text; is = reply; written = written }) sent
  reply-ends Script result words left left' old new bytes text run read replies sent =
      let refusal : IsAnswered IsRefusal words left left' text = record { command = run; bytes = bytes; read = read; text_is = replies } in
      sent-ends Script result words left left' old new text (inr (inl refusal)) (λ written. record { text = text; is = refusal; written = written }) sent
  reply-ends Words result words left left' old new bytes text run read replies sent = absurd replies
  reply-ends ReadFault result words left left' old new bytes text run read replies sent = absurd replies
  reply-ends WriteFault result words left left' old new bytes text run read replies sent = absurd replies
  reply-ends Memory result words left left' old new bytes text run read replies sent = absurd replies

-- what one device bears out is borne out by those of which it is the first
pub on-first : {D : Type 0} (faults : D → ℕ) (tells : D → Told) (told : Type 0) (devs : List D) (dev dev' : D) (bytes : List ℕ) (status : Status) (text : List ℕ) → 0 < length devs → dev ≡ get_or devs 0 dev → Replies told (device_seen faults tells dev) (device_seen faults tells dev') bytes status text → Replies told (first (devices_seen faults tells devs)) (first (devices_seen faults tells (set devs 0 dev'))) bytes status text
on-first faults tells told [] dev dev' bytes status text some is replies = absurd (omega arith)
on-first faults tells told (d ∷ devs) dev dev' bytes status text some is replies =
    subst (λ x. Replies told (device_seen faults tells x) (device_seen faults tells dev') bytes status text) is replies
