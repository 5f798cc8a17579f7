-- What a step keeps holds behind every legal history.
use Rattle.std.proofs.Common.{List, [], ◌∷◌}
use Rattle.xdb_plain.specs.Changes.{after}
use Rattle.xdb_plain.specs.Legal.{Legal, after_all}
use Rattle.xdb_plain.specs.State.{Plain}
use Rattle.xdb_plain.specs.Steps.{MayStand}
use Rattle.xdb_plain.specs.declared.note.Note.{Note}

pub over-legal : (P : Plain → Type 0) → ((p : Plain) (note : Note) → MayStand p note → P p → P (after p note)) → (p : Plain) (notes : List Note) → Legal p notes → P p → P (after_all p notes)
over-legal P step p [] legal holds = holds
over-legal P step p (note ∷ notes) legal holds = over-legal P step (after p note) notes legal.1 (step p note legal.0 holds)
