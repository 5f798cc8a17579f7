-- What is read is a block that is spelled so, and is kept as one.
use Rattle.std.proofs.Common.{◌≡◌, ℕ, ◌≤◌, List, length, take, get_or, None, All, IfOk, Result, Ok, Err, subst, arith}
use Rattle.std.proofs.lemmas.List.{length-take-le}
use Rattle.xdb_key.specs.Reading.{AreBytes}
use Rattle.xdb_block.specs.declared.kind.BlockKind.{BlockKind}
use Rattle.xdb_block.specs.declared.kind.BlockNo.{BlockNo}
use Rattle.xdb_block.specs.declared.place.Place.{Place}
use Rattle.xdb_block.specs.declared.rows.Rows.{Rows}
use Rattle.xdb_block.specs.Kept.{rows_of, keys_size, Lies, IsKept}
use Rattle.xdb_block.specs.Reading.{Answers, block_at}
use Rattle.xdb_block.specs.Rows.{Rise}
use Rattle.xdb_block.specs.Spelling.{IsBlock, block_bytes}
use Rattle.xdb_block.proofs.BlockLaws.{block_takes}
use Rattle.xdb_block.proofs.SeekLaws.{keys_of_rows, follow_rise}

pub block_found : (interval : ℕ) (kind : BlockKind) (bytes : List ℕ) (result : Result Rows BlockNo) → AreBytes bytes → Answers (λ x. rows_of x.keys.items bytes x.places.items) result (block_at interval kind bytes)
    → IfOk result (λ x. IsBlock interval kind (rows_of x.keys.items bytes x.places.items) × (bytes ≡ block_bytes interval (rows_of x.keys.items bytes x.places.items)))
block_found interval kind bytes (Ok x) fits e =
    let read = block_takes interval kind bytes (rows_of x.keys.items bytes x.places.items) fits e in
    (read.within, read.is)
block_found interval kind bytes (Err bad) fits e = tt

wider : (keys m n : ℕ) (p : Place) → m ≤ n → Lies keys m p → Lies keys n p
wider keys m n p more lies =
    let within = lies.in_bytes in
    record { key_order = lies.key_order; in_keys = lies.in_keys; value_order = lies.value_order; in_bytes = omega arith }

pub block_kept : (interval : ℕ) (kind : BlockKind) (bytes : List ℕ) (end : ℕ) (result : Result Rows BlockNo) → AreBytes bytes → end ≤ length bytes → IfOk result (λ x. All (Lies (length x.keys.items) (length (take end bytes))) x.places.items) → IfOk result (λ x. length x.keys.items ≡ keys_size x.places.items)
    → Answers (λ x. rows_of x.keys.items bytes x.places.items) result (block_at interval kind bytes) → IfOk result (λ x. IsKept x.keys.items bytes x.places.items)
block_kept interval kind bytes end (Ok x) fits within lie whole e =
    let read = block_takes interval kind bytes (rows_of x.keys.items bytes x.places.items) fits e in
    let len = length-take-le end bytes within in
    record {
      lie = λ k d less. wider (length x.keys.items) (length (take end bytes)) (length bytes) (get_or x.places.items k d) (omega arith) (lie k d less);
      rise = subst (Rise None) (keys_of_rows x.keys.items bytes x.places.items) (follow_rise kind (rows_of x.keys.items bytes x.places.items) read.within.each);
      whole = whole;
    }
block_kept interval kind bytes end (Err bad) fits within lie whole e = tt
