-- What is seen of a file of a folder: its number and its length.
use Rattle.std.specs.Prelude.{◌≡◌, ℕ, Option, None, Some, List, length}
use Rattle.xdb_device.specs.declared.dir_device.DirFile.{DirFile}

abbrev pub dir_num : DirFile → ℕ
dir_num file = file.num

abbrev pub dir_size : DirFile → ℕ
dir_size file = file.len

-- a file that tells nothing tells no other length
pub no_told_size : (size : ℕ) (told : List ℕ) → ◌≡◌ {A = Option (List ℕ)} None (Some told) → length told ≡ size
no_told_size size told same = absurd (cc)
