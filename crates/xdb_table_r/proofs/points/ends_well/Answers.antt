use Rattle.std.proofs.Common.{◌≡◌, ◌∙◌, ◌&&◌, ◌||◌, not, sym, ap, take, length, arith, leb}
use Rattle.std.proofs.lemmas.Bool.{le-ltb}
use Rattle.xdb_block.specs.Kept.{Draft}
use Rattle.xdb_block.specs.Spelling.{entries}
use Rattle.xdb_table_w.specs.Files.{front}
use Rattle.xdb_table_r.proofs.RowLaws.{front_takes}
use Rattle.xdb_table_r.proofs.points.ends_well.Goals as goal

pub returns-then-entries_len-ge-BLOCK_LEN : goal.returns-then-entries_len-ge-BLOCK_LEN
returns-then-entries_len-ge-BLOCK_LEN c =
    let rows = c.args.block.now in
    let size : c.entries_len.result ≡ length (entries 16 (take c.loop-i.i rows)) = c.entries_len.ensures ∙ ap (λ (d : Draft). length (entries d.interval d.rows)) c.loop-i.invariant in
    let more = front_takes rows c.loop-i.i (omega arith) in
    sym (ap (λ b. b && (not c.args.more || leb 4096 (length (entries 16 rows)))) (le-ltb (length (entries 16 (front rows))) 4096 (omega arith)))
