-- What the loop of `write_files` keeps.
use Rattle.std.proofs.Common.{◌≡◌, ◌≤◌, length, vec_capacity}
use Rattle.xdb_device.specs.Counted.{Counted}
use Rattle.xdb_ext.specs.Loads.{Written}
use Rattle.xdb_ext.proofs.write.write_files.Given as goal

abbrev pub invariant-loop-num : goal.invariant-loop-num
invariant-loop-num g l = record {
  written : Written g.D.File.FileRef.size g.D.File.FileRef.bytes l.tables l.num-index l.tried.items l.files.items (g.D.Reader.told l.initial.dev) (g.D.Reader.told l.dev);
  counted : Counted g.D.Reader.faults g.D.Reader.misses g.D.Reader.frame l.initial.dev l.dev ⊥;
  tried : length l.tried.items ≡ l.num-index;
  files : length l.files.items ≡ l.num-index;
  room : length l.tables ≤ vec_capacity l.tried;
  files_room : length l.tables ≤ vec_capacity l.files;
}
