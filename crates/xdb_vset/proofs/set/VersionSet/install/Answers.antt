-- The version after the edit takes the place of the current one.
use Rattle.std.proofs.Common.{ℕ, ◌+◌, ◌^◌, ◌||◌, cond, eqb, List, [], ◌∷◌, ◌++◌, map, Option, Some, None, refl, sym, ap, ap₂, subst, ◌∙◌, arith}
use Rattle.std.proofs.lemmas.Bool.{ltb-true}
use Rattle.std.proofs.lemmas.List.{map-append}
use Rattle.xdb_edit.specs.Versions.{LevelLists}
use Rattle.xdb_lists.specs.Numbers.{is_among}
use Rattle.xdb_vset.specs.declared.older.InUse.{InUse}
use Rattle.xdb_vset.specs.Counts.{named_by, table_count}
use Rattle.xdb_vset.specs.Backings.{count_in, file_in, file_from}
use Rattle.xdb_vset.specs.FileLists.{FileLists}
use Rattle.xdb_vset.specs.Holds.{is_held}
use Rattle.xdb_vset.specs.Versions.{version_in, holds_of}
use Rattle.xdb_vset.specs.Seen.{Seen, IsSet, seen, version_of}
use Rattle.xdb_vset.proofs.HoldLaws.{is_held_some, is_held_none}
use Rattle.xdb_vset.proofs.InUseLaws.{held_current, follows_kept, follows_gone, seen_some}
use Rattle.xdb_vset.proofs.SetLaws.{set_same}
use Rattle.xdb_vset.proofs.InstallLaws.{Added, added_from, files_there, later_num, added_files, kept_pushed, kept_gone, set_pushed, set_replaced, gone_few, version_installed}
use Rattle.xdb_vset.proofs.set.VersionSet.install.Goals as goal

pub invariant_of-self-in_err-grow : goal.invariant_of-self-in_err-grow
invariant_of-self-in_err-grow g c =
    let older = c.try_reserve.ensures.items in
    let stays = set_same _ (version_in c.self.inside.current) (map version_in c.try_reserve.new.self.items) refl (ap (map version_in) older) c.self.invariant.0 in (
      subst (λ (f : FileLists g.row.F.Denot). IsSet (seen (version_in c.self.inside.current) (map version_in c.try_reserve.new.self.items) c.self.inside.slots.items f c.self.inside.next)) (sym c.in_err-grow.ensures.err) stays,
      λ v. ap (λ (ws : List InUse). holds_of v c.self.inside.current ws) older ∙ c.self.invariant.1 v,
    )

pub add_version-requires-clause-named : goal.add_version-requires-clause-named
add_version-requires-clause-named g c =
    let is = c.self.invariant.0 in
    let same = c.self.view_is in
    let next = c.in_ok-next.next in
    let version = c.in_ok-next.ensures.version in
    let edit = c.args.edit in
    let files = c.args.files.items in
    let grown = c.grow.new.self in
    let moved = ap (λ (f : FileLists g.row.F.Denot). f.named) c.grow.ensures.rest in
    files_there _ _ edit files next grown is same version c.requires.backed c.requires.files moved

pub add_version-requires-clause-small : goal.add_version-requires-clause-small
add_version-requires-clause-small g c =
    let next = c.in_ok-next.next in
    let raised = ap (λ (f : FileLists g.row.F.Denot). f.raised) c.grow.ensures.rest in
    let small = ltb-true (c.self.inside.files.raised + table_count next.levels) (2 ^ 64) (sym c.can_raise.ensures ∙ c.if-not-can_raise.false) in
    omega arith

pub add_version-requires-clause-room : goal.add_version-requires-clause-room
add_version-requires-clause-room g c =
    let len = c.len.ensures in
    let ok = c.args.files.ok in
    let spare = c.in_ok-grow.ensures.spare in
    omega arith

pub invariant_of-self-in_default : goal.invariant_of-self-in_default
invariant_of-self-in_default g c =
    let is = c.self.invariant.0 in
    let same = c.self.view_is in
    let next = c.in_ok-next.next in
    let version = c.in_ok-next.ensures.version in
    let edit = c.args.edit in
    let files = c.args.files.items in
    let grown = c.grow.new.self in
    let moved = ap (λ (f : FileLists g.row.F.Denot). f.named) c.grow.ensures.rest in
    let f = c.add_version.new.self in
    let step = c.follow.ensures.current in
    let current = c.follow.new.current in
    let stands = c.self.inside.current in
    let olds = c.self.inside.older.items in
    let put = c.follow.new.older.items in
    let kept = c.try_reserve.ensures.items in
    let later = later_num _ _ edit next current same version step in
    let is_added : Added _ edit files current.levels f = added_from _ _ edit files next current grown f c.new_backings.result.now same version step c.requires.backed c.requires.files c.new_backings.ensures moved c.add_version.ensures.count c.add_version.ensures.file c.add_version.ensures.files in
    let before = c.in_default.ensures.before in
    let holds = sym (held_current stands olds) ∙ c.self.invariant.1 stands.num in
    let some = before.0 in
    let held = is_held_some c.self.inside.slots.items stands.num (omega arith) in
    let grows = before.1 ∙ ap (λ (ws : List InUse). ws ++ stands ∷ []) kept in
    let seen_grown = ap (map version_in) grows ∙ map-append version_in olds (stands ∷ []) in (
      set_pushed _ is edit files (version_in current) f is_added later (map version_in put) held seen_grown,
      λ v. follows_kept stands current olds put later (ap (λ (w : InUse). w.holds) step ∙ c.in_ok-next.ensures.unheld) (λ v some. is.older_before v (seen_some v olds ∙ some)) grows v ∙ c.self.invariant.1 v,
    )

pub returns-in_default-clause-version : goal.returns-in_default-clause-version
returns-in_default-clause-version g c = λ v.
    let is = c.self.invariant.0 in
    let same = c.self.view_is in
    let next = c.in_ok-next.next in
    let version = c.in_ok-next.ensures.version in
    let edit = c.args.edit in
    let files = c.args.files.items in
    let grown = c.grow.new.self in
    let moved = ap (λ (f : FileLists g.row.F.Denot). f.named) c.grow.ensures.rest in
    let f = c.add_version.new.self in
    let step = c.follow.ensures.current in
    let current = c.follow.new.current in
    let stands = c.self.inside.current in
    let olds = c.self.inside.older.items in
    let put = c.follow.new.older.items in
    let kept = c.try_reserve.ensures.items in
    let later = later_num _ _ edit next current same version step in
    let is_added : Added _ edit files current.levels f = added_from _ _ edit files next current grown f c.new_backings.result.now same version step c.requires.backed c.requires.files c.new_backings.ensures moved c.add_version.ensures.count c.add_version.ensures.file c.add_version.ensures.files in
    let before = c.in_default.ensures.before in
    let holds = sym (held_current stands olds) ∙ c.self.invariant.1 stands.num in
    let some = before.0 in
    let held = is_held_some c.self.inside.slots.items stands.num (omega arith) in
    let grows = before.1 ∙ ap (λ (ws : List InUse). ws ++ stands ∷ []) kept in
    let seen_grown = ap (map version_in) grows ∙ map-append version_in olds (stands ∷ []) in
    version_installed _ is (version_in current) later (map version_in put) (kept_pushed _ is edit files (version_in current) f is_added later (map version_in put) held seen_grown) v
    ∙ ap (λ (s : Seen g.row.F.Denot). cond {A = Option LevelLists} (eqb current.num v) (Some current.levels) (cond {A = Option LevelLists} (is_held v s.slots) (version_of s v) None)) same

pub returns-in_default-clause-known : goal.returns-in_default-clause-known
returns-in_default-clause-known g c = λ n.
    c.add_version.ensures.known n
    ∙ ap₂ (λ (ns ks : List ℕ). is_among n ns || is_among n ks) c.requires.files (ap (λ (f : FileLists g.row.F.Denot). f.known) c.grow.ensures.rest)
    ∙ ap (λ (s : Seen g.row.F.Denot). is_among n c.args.edit.new_backings || is_among n s.known) c.self.view_is

pub returns-in_default-clause-file : goal.returns-in_default-clause-file
returns-in_default-clause-file g c = λ b.
    let is = c.self.invariant.0 in
    let same = c.self.view_is in
    let next = c.in_ok-next.next in
    let version = c.in_ok-next.ensures.version in
    let edit = c.args.edit in
    let files = c.args.files.items in
    let grown = c.grow.new.self in
    let moved = ap (λ (f : FileLists g.row.F.Denot). f.named) c.grow.ensures.rest in
    let f = c.add_version.new.self in
    let step = c.follow.ensures.current in
    let current = c.follow.new.current in
    let stands = c.self.inside.current in
    let olds = c.self.inside.older.items in
    let put = c.follow.new.older.items in
    let kept = c.try_reserve.ensures.items in
    let later = later_num _ _ edit next current same version step in
    let is_added : Added _ edit files current.levels f = added_from _ _ edit files next current grown f c.new_backings.result.now same version step c.requires.backed c.requires.files c.new_backings.ensures moved c.add_version.ensures.count c.add_version.ensures.file c.add_version.ensures.files in
    added_files _ is edit files (version_in current) f is_added later (map version_in put) b
    ∙ ap₂ (λ (n : ℕ) (s : Seen g.row.F.Denot). cond {A = Option g.row.F.Denot} (eqb n 0) None (file_from files b (file_in b s.backings))) ((invariant_of-self-in_default g c).0.counts b) same

pub lower_version-requires : goal.lower_version-requires
lower_version-requires g c = λ b.
    let is = c.self.invariant.0 in
    let same = c.self.view_is in
    let next = c.in_ok-next.next in
    let version = c.in_ok-next.ensures.version in
    let edit = c.args.edit in
    let files = c.args.files.items in
    let grown = c.grow.new.self in
    let moved = ap (λ (f : FileLists g.row.F.Denot). f.named) c.grow.ensures.rest in
    let f = c.add_version.new.self in
    let step = c.follow.ensures.current in
    let current = c.follow.new.current in
    let stands = c.self.inside.current in
    let olds = c.self.inside.older.items in
    let put = c.follow.new.older.items in
    let kept = c.try_reserve.ensures.items in
    let later = later_num _ _ edit next current same version step in
    let is_added : Added _ edit files current.levels f = added_from _ _ edit files next current grown f c.new_backings.result.now same version step c.requires.backed c.requires.files c.new_backings.ensures moved c.add_version.ensures.count c.add_version.ensures.file c.add_version.ensures.files in
    let before = c.in-Some.ensures.before in
    let holds = sym (held_current stands olds) ∙ c.self.invariant.1 stands.num in
    let unheld = is_held_none c.self.inside.slots.items stands.num (sym holds ∙ before.1) in
    let left = before.2 ∙ kept in
    let seen_left = ap (map version_in) left in
    let gone = ap (λ (w : InUse). w.levels) before.0 in
    let few = gone_few _ is edit files (version_in current) f is_added later (map version_in put) b in
    let same' = ap (named_by b) gone in
    omega arith

pub invariant_of-self-2 : goal.invariant_of-self-2
invariant_of-self-2 g c =
    let is = c.self.invariant.0 in
    let same = c.self.view_is in
    let next = c.in_ok-next.next in
    let version = c.in_ok-next.ensures.version in
    let edit = c.args.edit in
    let files = c.args.files.items in
    let grown = c.grow.new.self in
    let moved = ap (λ (f : FileLists g.row.F.Denot). f.named) c.grow.ensures.rest in
    let f = c.add_version.new.self in
    let step = c.follow.ensures.current in
    let current = c.follow.new.current in
    let stands = c.self.inside.current in
    let olds = c.self.inside.older.items in
    let put = c.follow.new.older.items in
    let kept = c.try_reserve.ensures.items in
    let later = later_num _ _ edit next current same version step in
    let is_added : Added _ edit files current.levels f = added_from _ _ edit files next current grown f c.new_backings.result.now same version step c.requires.backed c.requires.files c.new_backings.ensures moved c.add_version.ensures.count c.add_version.ensures.file c.add_version.ensures.files in
    let before = c.in-Some.ensures.before in
    let holds = sym (held_current stands olds) ∙ c.self.invariant.1 stands.num in
    let unheld = is_held_none c.self.inside.slots.items stands.num (sym holds ∙ before.1) in
    let left = before.2 ∙ kept in
    let seen_left = ap (map version_in) left in
    let gone = ap (λ (w : InUse). w.levels) before.0 in
    let lowered = c.lower_version.new.self in (
      set_replaced _ is edit files (version_in current) f is_added later (map version_in put) lowered unheld seen_left c.lower_version.ensures.files
          (λ b. ap (λ (l : LevelLists). count_in b lowered.named + named_by b l) (sym gone) ∙ c.lower_version.ensures.count b)
          (c.lower_version.ensures.kept _ (added_files _ is edit files (version_in current) f is_added later (map version_in put))),
      λ v. follows_gone stands current olds put later (ap (λ (w : InUse). w.holds) step ∙ c.in_ok-next.ensures.unheld) (λ v some. is.older_before v (seen_some v olds ∙ some)) left before.1 v ∙ c.self.invariant.1 v,
    )

pub returns-clause-version : goal.returns-clause-version
returns-clause-version g c = λ v.
    let is = c.self.invariant.0 in
    let same = c.self.view_is in
    let next = c.in_ok-next.next in
    let version = c.in_ok-next.ensures.version in
    let edit = c.args.edit in
    let files = c.args.files.items in
    let grown = c.grow.new.self in
    let moved = ap (λ (f : FileLists g.row.F.Denot). f.named) c.grow.ensures.rest in
    let f = c.add_version.new.self in
    let step = c.follow.ensures.current in
    let current = c.follow.new.current in
    let stands = c.self.inside.current in
    let olds = c.self.inside.older.items in
    let put = c.follow.new.older.items in
    let kept = c.try_reserve.ensures.items in
    let later = later_num _ _ edit next current same version step in
    let is_added : Added _ edit files current.levels f = added_from _ _ edit files next current grown f c.new_backings.result.now same version step c.requires.backed c.requires.files c.new_backings.ensures moved c.add_version.ensures.count c.add_version.ensures.file c.add_version.ensures.files in
    let before = c.in-Some.ensures.before in
    let holds = sym (held_current stands olds) ∙ c.self.invariant.1 stands.num in
    let unheld = is_held_none c.self.inside.slots.items stands.num (sym holds ∙ before.1) in
    let left = before.2 ∙ kept in
    let seen_left = ap (map version_in) left in
    let gone = ap (λ (w : InUse). w.levels) before.0 in
    version_installed _ is (version_in current) later (map version_in put) (kept_gone _ is edit files (version_in current) f is_added later (map version_in put) unheld seen_left) v
    ∙ ap (λ (s : Seen g.row.F.Denot). cond {A = Option LevelLists} (eqb current.num v) (Some current.levels) (cond {A = Option LevelLists} (is_held v s.slots) (version_of s v) None)) same

pub returns-clause-known : goal.returns-clause-known
returns-clause-known g c = λ n.
    ap (λ (f : FileLists g.row.F.Denot). is_among n f.known) c.lower_version.ensures.rest
    ∙ c.add_version.ensures.known n
    ∙ ap₂ (λ (ns ks : List ℕ). is_among n ns || is_among n ks) c.requires.files (ap (λ (f : FileLists g.row.F.Denot). f.known) c.grow.ensures.rest)
    ∙ ap (λ (s : Seen g.row.F.Denot). is_among n c.args.edit.new_backings || is_among n s.known) c.self.view_is

pub returns-clause-file : goal.returns-clause-file
returns-clause-file g c = λ b.
    let is = c.self.invariant.0 in
    let same = c.self.view_is in
    let next = c.in_ok-next.next in
    let version = c.in_ok-next.ensures.version in
    let edit = c.args.edit in
    let files = c.args.files.items in
    let grown = c.grow.new.self in
    let moved = ap (λ (f : FileLists g.row.F.Denot). f.named) c.grow.ensures.rest in
    let f = c.add_version.new.self in
    let step = c.follow.ensures.current in
    let current = c.follow.new.current in
    let stands = c.self.inside.current in
    let olds = c.self.inside.older.items in
    let put = c.follow.new.older.items in
    let kept = c.try_reserve.ensures.items in
    let later = later_num _ _ edit next current same version step in
    let is_added : Added _ edit files current.levels f = added_from _ _ edit files next current grown f c.new_backings.result.now same version step c.requires.backed c.requires.files c.new_backings.ensures moved c.add_version.ensures.count c.add_version.ensures.file c.add_version.ensures.files in
    c.lower_version.ensures.kept _ (added_files _ is edit files (version_in current) f is_added later (map version_in put)) b
    ∙ ap₂ (λ (n : ℕ) (s : Seen g.row.F.Denot). cond {A = Option g.row.F.Denot} (eqb n 0) None (file_from files b (file_in b s.backings))) ((invariant_of-self-2 g c).0.counts b) same
