-- A history longer by one note.
use Rattle.std.proofs.Common.{◌≡◌, List, [], ◌∷◌, ◌++◌, refl}
use Rattle.xdb_plain.specs.State.{Plain}
use Rattle.xdb_plain.specs.Steps.{MayStand}
use Rattle.xdb_plain.specs.Changes.{after}
use Rattle.xdb_plain.specs.Legal.{after_all, Legal, Right, AnswersRight}
use Rattle.xdb_plain.specs.declared.note.Note.{Note}

pub after_all-push : (p : Plain) (notes : List Note) (note : Note) → after_all p (notes ++ note ∷ []) ≡ after (after_all p notes) note
after_all-push p [] note = refl
after_all-push p (n ∷ notes) note = after_all-push (after p n) notes note

pub right_push : (p : Plain) (notes : List Note) (note : Note) → Right p notes → MayStand (after_all p notes) note → AnswersRight (after_all p notes) note.act note.reply → Right p (notes ++ note ∷ [])
right_push p [] note right stands answers = (stands, answers, tt)
right_push p (n ∷ notes) note right stands answers =
    (right.0, right.1, right_push (after p n) notes note right.2 stands answers)

-- what is right is legal
pub legal_from_right : (p : Plain) (notes : List Note) → Right p notes → Legal p notes
legal_from_right p [] right = tt
legal_from_right p (n ∷ notes) right = (right.0, legal_from_right (after p n) notes right.2)

pub legal_push : (p : Plain) (notes : List Note) (note : Note) → Legal p notes → MayStand (after_all p notes) note → Legal p (notes ++ note ∷ [])
legal_push p [] note legal stands = (stands, tt)
legal_push p (n ∷ notes) note legal stands = (legal.0, legal_push (after p n) notes note legal.1 stands)
