-- The first notes are printed.
use Rattle.std.proofs.Common.{◌≡◌, take}
use Rattle.xdb_plain.specs.Printed.{text_of}
use Rattle.xdb_text.proofs.text.Given as goal

abbrev pub invariant-loop-note : goal.invariant-loop-note
invariant-loop-note l = l.out.items ≡ text_of (take l.note-index l.notes)
