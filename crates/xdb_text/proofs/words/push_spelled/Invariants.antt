-- The first bytes are spelled.
use Rattle.std.proofs.Common.{◌≡◌, ◌++◌, take}
use Rattle.std.specs.List.{flat_map}
use Rattle.xdb_plain.specs.Words.{byte_word}
use Rattle.xdb_text.proofs.words.push_spelled.Given as goal

abbrev pub invariant-loop-byte : goal.invariant-loop-byte
invariant-loop-byte l = l.out.items ≡ l.fn.out.items ++ flat_map byte_word (take l.byte-index l.bytes)
