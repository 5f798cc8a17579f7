-- Exit codes and the statuses that they are of.
use Rattle.std.proofs.Common.{◌≡◌, ℕ, refl, sym, ap, ◌∙◌}
use Rattle.excisedb.specs.Codes.{code_of}
use Rattle.excisedb.specs.declared.status.Status.{Status}
use Rattle.excisedb.specs.declared.status.Status.TheVariants.{Done, Words, Script, ReadFault, WriteFault, Memory}

-- the code of a status that is known
pub code-told : (code : ℕ) (status known : Status) → code ≡ code_of status → status ≡ known → code ≡ code_of known
code-told code status known is same = is ∙ ap code_of same

is-read-fault : (status : Status) → code_of status ≡ 3 → status ≡ ReadFault
is-read-fault ReadFault is = refl
is-read-fault Done is = absurd (cc)
is-read-fault Words is = absurd (cc)
is-read-fault Script is = absurd (cc)
is-read-fault WriteFault is = absurd (cc)
is-read-fault Memory is = absurd (cc)

is-write-fault : (status : Status) → code_of status ≡ 4 → status ≡ WriteFault
is-write-fault WriteFault is = refl
is-write-fault Done is = absurd (cc)
is-write-fault Words is = absurd (cc)
is-write-fault Script is = absurd (cc)
is-write-fault ReadFault is = absurd (cc)
is-write-fault Memory is = absurd (cc)

pub code-3 : (code : ℕ) (status : Status) → code ≡ code_of status → code ≡ 3 → status ≡ ReadFault
code-3 code status is three = is-read-fault status (sym is ∙ three)

pub code-4 : (code : ℕ) (status : Status) → code ≡ code_of status → code ≡ 4 → status ≡ WriteFault
code-4 code status is four = is-write-fault status (sym is ∙ four)
