-- What holds of a result that is no error, step by step down each call.
use Rattle.std.proofs.Common.{◌≡◌, ℕ, ◌+◌, ◌==◌, ◌||◌, is_some, ap, length, take, Bool, true, false, not, cond, refl, subst, List, [], Option, Some, None, Result, Ok, Err, ℤ}
use Rattle.std.specs.Prelude.{nat_lt}
use Rattle.std.specs.Ordering.{nat_cmp}
use Rattle.std.specs.List.{filter, list_any}
use Rattle.std.specs.FinMap.{put}
use Rattle.kfs_path.specs.Pieces.{is_empty, is_too_long, pieces_of, ends_in_slash}
use Rattle.kfs_path.specs.declared.call.Reply.{Reply}
use Rattle.kfs_path.specs.declared.call.Reply.TheVariants as replies
use Rattle.kfs_path.specs.declared.call.Errno.{Errno}
use Rattle.kfs_path.specs.declared.call.Errno.TheVariants.{ENOENT, ENAMETOOLONG}
use Rattle.kfs_path.specs.declared.call.Flags.{Flags}
use Rattle.kfs_path.specs.declared.call.Whence.{Whence}
use Rattle.kfs_path.specs.declared.call.Data.{Data}
use Rattle.kfs_model.specs.declared.Node.{Node}
use Rattle.kfs_model.specs.declared.Node.TheVariants.{Dir, File}
use Rattle.kfs_model.specs.Ladder.{◌>>=◌, ◌>>◌}
use Rattle.kfs_model.specs.Tree.{Limits, Tree, Place, entry_at, walk, below, is_dot, is_dot_dot, with_new, with_node, without_place, renamed, resized, written, fits, charge, has_room, greatest_length}
use Rattle.kfs_model.specs.declared.Description.{Description}
use Rattle.kfs_model.specs.Desk.{Desk, opened, lowest_free, with_description}
use Rattle.kfs_model.specs.Step

-- what holds of a result that is no error
abbrev pub Each : {A : Type 0} → (A → Type 0) → Result A Errno → Type 0
Each P (Ok x) = P x
Each P (Err e) = Unit {0}

module _ {A : Type 0} (P : A → Type 0) where
  pub of_each : (r : Result A Errno) (x : A) → Each P r → r ≡ Ok x → P x
  of_each (Ok y) x h e = let same : y ≡ x = cc in subst P same h
  of_each (Err d) x h e = absurd (cc)

  pub each_then : (c : Option Errno) (r : Result A Errno) → Each P r → Each P (c >> r)
  each_then None r h = h
  each_then (Some e) r h = tt

  pub each_bind : {B : Type 0} (r : Result B Errno) (f : B → Result A Errno) → ((x : B) → r ≡ Ok x → Each P (f x)) → Each P (r >>= f)
  each_bind (Ok x) f h = h x refl
  each_bind (Err e) f h = tt

  pub each_unless : (e : Errno) (b : Bool) (r : Result A Errno) → (b ≡ false → Each P r) → Each P (cond b (Some e) None >> r)
  each_unless e true r h = tt
  each_unless e false r h = h refl

  pub each_where : (e : Errno) (b : Bool) (r : Result A Errno) → (b ≡ true → Each P r) → Each P (cond (not b) (Some e) None >> r)
  each_where e true r h = h refl
  each_where e false r h = tt

  pub each_inside : {B : Type 0} (r : Result B Errno) (f : B → Result A Errno) → Each (λ x. Each P (f x)) r → Each P (r >>= f)
  each_inside (Ok x) f h = h
  each_inside (Err e) f h = tt

  pub each_syntax : (path : List ℕ) (f : Step.Route → Result A Errno) → (is_too_long path ≡ false → Each P (f (record { pieces = pieces_of path; trailing = ends_in_slash path }))) → Each P (Step.syntax path >>= f)
  each_syntax path f h = by (is_empty path) (is_too_long path) h
    where
      by : (a b : Bool) → (b ≡ false → Each P (f (record { pieces = pieces_of path; trailing = ends_in_slash path }))) → Each P ((cond a (Some ENOENT) None >> (cond b (Some ENAMETOOLONG) None >> Ok (record { pieces = pieces_of path; trailing = ends_in_slash path }))) >>= f)
      by true b h = tt
      by false true h = tt
      by false false h = h refl

  pub each_or_else : {B : Type 0} (o : Option B) (e : Errno) (f : B → Result A Errno) → ((x : B) → o ≡ Some x → Each P (f x)) → Each P (Step.or_else o e >>= f)
  each_or_else None e f h = tt
  each_or_else (Some x) e f h = h x refl

  pub each_if : (b : Bool) (r s : Result A Errno) → Each P r → (b ≡ false → Each P s) → Each P (cond b r s)
  each_if true r s h g = h
  each_if false r s h g = g refl

-- what holds of the world before, and of one that a call leaves, holds after the call
pub settled_is : (P : Step.World → Type 0) (w : Step.World) (r : Result Step.After Errno) → P w → Each (λ after. P after.world) r → P (Step.settled w r).world
settled_is P w (Ok after) before h = h
settled_is P w (Err e) before h = before

module _ (P : Step.After → Type 0) (w : Step.World) where
  -- what each call leaves
  abbrev pub At : Tree → Desk → Reply → Type 0
  At t desk reply = P (record { world = record { tree = t; desk = desk }; reply = reply })

  -- the same, without the nodes that nothing names any more
  abbrev pub AtSwept : Tree → Desk → Reply → Type 0
  AtSwept t desk reply = P (record { world = Step.swept (record { tree = t; desk = desk }); reply = reply })

  -- a free place that a path names, where two more keys are there
  pub record IsFreeAt (k : Limits) (path : List ℕ) (place : Place) : Type 0 where
    pub short : is_too_long path ≡ false
    pub walked : walk w.tree (pieces_of path) ≡ Ok place
    pub free : Step.is_there w.tree place ≡ false
    pub room : nat_lt k.keys (charge w.tree + 2) ≡ false

  free_at : (k : Limits) (path : List ℕ) (place : Place) → is_too_long path ≡ false → walk w.tree (pieces_of path) ≡ Ok place → Step.is_there w.tree place ≡ false → nat_lt k.keys (charge w.tree + 2) ≡ false → IsFreeAt k path place
  free_at k path place a b c d = record { short = a; walked = b; free = c; room = d }

  abbrev pub made : Place → Type 0
  made place = Each P (Step.leaves w (with_new w.tree place Dir) replies.Done)

  pub mkdir_each : (k : Limits) (path : List ℕ) → ((place : Place) → IsFreeAt k path place → At (with_new w.tree place Dir) w.desk replies.Done) → Each P (Step.mkdir k w path)
  mkdir_each k path h = each_inside P (Step.mkdir_at k w.tree path) (λ place. Step.leaves w (with_new w.tree place Dir) replies.Done) (search (each_syntax made, each_bind made, each_unless made, free_at, h) depth 20)

  -- an empty directory that a path names, which ends in a name
  pub record IsEmptyAt (path : List ℕ) (place : Place) : Type 0 where
    pub short : is_too_long path ≡ false
    pub walked : walk w.tree (pieces_of path) ≡ Ok place
    pub dot : Step.ends_by is_dot (pieces_of path) ≡ false
    pub dots : Step.ends_by is_dot_dot (pieces_of path) ≡ false
    pub root : Step.is_root (pieces_of path) ≡ false
    pub there : Step.is_there w.tree place ≡ true
    pub empty : Step.isnt_empty w.tree place ≡ false

  empty_at : (path : List ℕ) (place : Place) → is_too_long path ≡ false → walk w.tree (pieces_of path) ≡ Ok place → Step.ends_by is_dot (pieces_of path) ≡ false → Step.ends_by is_dot_dot (pieces_of path) ≡ false
      → Step.is_root (pieces_of path) ≡ false → Step.is_there w.tree place ≡ true → Step.isnt_empty w.tree place ≡ false → IsEmptyAt path place
  empty_at path place a b c d e f g = record { short = a; walked = b; dot = c; dots = d; root = e; there = f; empty = g }

  abbrev pub removed : Place → Type 0
  removed place = Each P (Step.leaves_swept w (without_place w.tree place) replies.Done)

  pub rmdir_each : (path : List ℕ) → ((place : Place) → IsEmptyAt path place → AtSwept (without_place w.tree place) w.desk replies.Done)
      → Each P (Step.rmdir_at w.tree path >>= λ place. Step.leaves_swept w (without_place w.tree place) replies.Done)
  rmdir_each path h = each_inside P (Step.rmdir_at w.tree path) (λ place. Step.leaves_swept w (without_place w.tree place) replies.Done)
      (search (each_syntax removed, each_bind removed, each_where removed, each_unless removed, empty_at, h) depth 30)

  pub unlink_each : (path : List ℕ) → ((place : Place) → Step.is_there w.tree place ≡ true → Step.is_dir w.tree place ≡ false → AtSwept (without_place w.tree place) w.desk replies.Done) → Each P (Step.unlink w path)
  unlink_each path h = search (each_syntax P, each_bind P, each_where P, each_unless P, h) depth 24

  -- an old path and a new one that name two places, the new one with nothing below it
  pub record IsMove (old new : List ℕ) (p q : Place) : Type 0 where
    pub short : is_too_long new ≡ false
    pub ends : (Step.ends_in_dots (pieces_of old) || Step.ends_in_dots (pieces_of new)) ≡ false
    pub roots : (Step.is_root (pieces_of old) || Step.is_root (pieces_of new)) ≡ false
    pub from : walk w.tree (pieces_of old) ≡ Ok p
    pub there : Step.is_there w.tree p ≡ true
    pub to : walk w.tree (pieces_of new) ≡ Ok q
    pub differs : Step.is_same_place p q ≡ false
    pub apart : is_some (below p q) ≡ false
    pub empty : Step.isnt_empty w.tree q ≡ false

  move_at : (old new : List ℕ) (p q : Place) → is_too_long new ≡ false → (Step.ends_in_dots (pieces_of old) || Step.ends_in_dots (pieces_of new)) ≡ false → (Step.is_root (pieces_of old) || Step.is_root (pieces_of new)) ≡ false
      → walk w.tree (pieces_of old) ≡ Ok p → Step.is_there w.tree p ≡ true → walk w.tree (pieces_of new) ≡ Ok q → Step.is_same_place p q ≡ false → is_some (below p q) ≡ false → Step.isnt_empty w.tree q ≡ false → IsMove old new p q
  move_at old new p q a b c d e f g h i = record { short = a; ends = b; roots = c; from = d; there = e; to = f; differs = g; apart = h; empty = i }

  pub rename_each : (old new : List ℕ) → At w.tree w.desk replies.Done → ((p q : Place) → IsMove old new p q → AtSwept (renamed (without_place w.tree q) p q) w.desk replies.Done) → Each P (Step.rename w old new)
  rename_each old new g h = search (each_syntax P, each_bind P, each_where P, each_unless P, each_if P, g, h, move_at) depth 50

  pub stat_each : (path : List ℕ) → ((reply : Reply) → Step.stat_of w.tree path ≡ Ok reply → At w.tree w.desk reply) → Each P (Step.stat w path)
  stat_each path h = search (each_bind P, h)

  pub list_each : (path : List ℕ) → ((reply : Reply) → Step.list_of w.tree path ≡ Ok reply → At w.tree w.desk reply) → Each P (Step.list w path)
  list_each path h = search (each_bind P, h)

  pub fstat_each : (fd : ℕ) → ((o : Option (ℕ × Node)) (reply : Reply) → Step.told o ≡ Ok reply → At w.tree w.desk reply) → Each P (Step.fstat w fd)
  fstat_each fd h = search (each_bind P, h)

  pub fsync_each : (fd : ℕ) → At w.tree w.desk replies.Done → Each P (Step.fsync w fd)
  fsync_each fd h = search (each_bind P, h)

  abbrev pub shared : ℕ → ℕ → Desk
  shared new d = record { descriptors = put nat_cmp new d w.desk.descriptors; descriptions = w.desk.descriptions }

  pub dup_each : (fd : ℕ) → ((it : ℕ × Description) (new : ℕ) → opened w.desk fd ≡ Some it → lowest_free w.desk ≡ Some new → At w.tree (shared new it.0) (replies.Number new)) → Each P (Step.dup w fd)
  dup_each fd h = search (each_or_else P, h)

  readable_is : (fd count : ℕ) → Each (λ it. opened w.desk fd ≡ Some it) (Step.readable w fd count)
  readable_is fd count = search (each_or_else (λ it. opened w.desk fd ≡ Some it), each_then (λ it. opened w.desk fd ≡ Some it)) depth 12

  each_readable : (fd count : ℕ) (f : ℕ × Description → Result Step.After Errno) → ((it : ℕ × Description) → opened w.desk fd ≡ Some it → Each P (f it)) → Each P (Step.readable w fd count >>= f)
  each_readable fd count f h = each_bind P (Step.readable w fd count) f (λ it e. h it (of_each (λ it. opened w.desk fd ≡ Some it) (Step.readable w fd count) it (readable_is fd count) e))

  -- the offset of a description moves
  abbrev pub Moves : ℕ → Reply → Type 0
  Moves fd reply = (it : ℕ × Description) (p : ℕ) → opened w.desk fd ≡ Some it → At w.tree (with_description w.desk it.0 (Step.with_offset it.1 p)) reply

  pub read_each : (fd count : ℕ) → ((bytes : List ℕ) → Moves fd (replies.Read bytes)) → Each P (Step.read w fd count)
  read_each fd count h = search (each_readable, h)

  pub pread_each : (fd count : ℕ) (offset : ℤ) → ((bytes : List ℕ) → At w.tree w.desk (replies.Read bytes)) → Each P (Step.pread w fd count offset)
  pread_each fd count offset h = search (each_bind P, each_then P, h)

  pub lseek_each : (fd : ℕ) (whence : Whence) (offset : ℤ) → ((n : ℕ) → Moves fd (replies.Number n)) → Each P (Step.lseek w fd whence offset)
  lseek_each fd whence offset h = search (each_or_else P, each_then P, h) depth 12

  abbrev pub longer : ℕ → ℕ → Tree
  longer n size = with_node w.tree n (File (resized (Step.content w.tree n) size))

  -- the new length of a file is within the greatest one and the room
  pub record MayHave (k : Limits) (n size : ℕ) : Type 0 where
    pub short : nat_lt greatest_length size ≡ false
    pub room : has_room k (longer n size) ≡ true

  may_have : (k : Limits) (n size : ℕ) → nat_lt greatest_length size ≡ false → has_room k (longer n size) ≡ true → MayHave k n size
  may_have k n size a b = record { short = a; room = b }

  -- the new content of what a path names
  abbrev pub Lengthens : Limits → List ℕ → ℤ → Type 0
  Lengthens k path size =
      (place : Place) (e : ℕ × Node) → walk w.tree (pieces_of path) ≡ Ok place → entry_at w.tree place ≡ Some e → Step.is_dir w.tree place ≡ false → MayHave k e.0 (Step.natural size)
      → At (longer e.0 (Step.natural size)) w.desk replies.Done

  abbrev pub left : Tree → Type 0
  left t = Each P (Step.leaves w t replies.Done)

  pub truncate_each : (k : Limits) (path : List ℕ) (size : ℤ) → Lengthens k path size → Each P (Step.changes_tree w (Step.truncate k w.tree path size))
  truncate_each k path size h = each_inside P (Step.truncate k w.tree path size) (λ t. Step.leaves w t replies.Done) (search (each_bind left, each_syntax left, each_or_else left, each_unless left, each_where left, may_have, h) depth 24)

  -- the new content of what a descriptor has
  abbrev pub LengthensOpen : Limits → ℕ → ℤ → Type 0
  LengthensOpen k fd size =
      (it : ℕ × Description) → opened w.desk fd ≡ Some it → it.1.write ≡ true → MayHave k it.1.node (Step.natural size)
      → At (longer it.1.node (Step.natural size)) w.desk replies.Done

  pub ftruncate_each : (k : Limits) (fd : ℕ) (size : ℤ) → LengthensOpen k fd size → Each P (Step.changes_tree w (Step.ftruncate k w fd size))
  ftruncate_each k fd size h = each_inside P (Step.ftruncate k w fd size) (λ t. Step.leaves w t replies.Done) (search (each_or_else left, each_unless left, each_where left, may_have, h) depth 24)

  -- a desk without a descriptor, and without the descriptions that no other has
  abbrev pub closed : ℕ → Desk
  closed fd = record {
    descriptors = filter (λ e. not (e.0 == fd)) w.desk.descriptors;
    descriptions = filter (λ e. list_any (λ f. f.1 == e.0) (filter (λ e. not (e.0 == fd)) w.desk.descriptors)) w.desk.descriptions;
  }

  pub close_each : (fd : ℕ) → ((it : ℕ × Description) → opened w.desk fd ≡ Some it → AtSwept w.tree (closed fd) replies.Done) → Each P (Step.close w fd)
  close_each fd h = search (each_or_else P, h)

  -- what is written, and how many bytes fit
  abbrev pub fitting : Limits → ℕ → ℕ → List ℕ → ℕ
  fitting k n p given = fits k w.tree n (Step.content w.tree n) p (length given)

  abbrev pub wrote : Limits → ℕ → ℕ → List ℕ → Tree
  wrote k n p given = with_node w.tree n (File (written (Step.content w.tree n) p (take (fitting k n p given) given)))

  abbrev pub advanced : Description → ℕ → Description
  advanced it p = record { node = it.node; offset = p; read = it.read; write = it.write; append = it.append }

  pub writes_each : (k : Limits) (it : ℕ × Description) (given : List ℕ) → At w.tree w.desk (replies.Number 0)
      → ((p : ℕ) → (fitting k it.1.node p given == 0) ≡ false → At (wrote k it.1.node p given) (with_description w.desk it.0 (advanced it.1 (p + fitting k it.1.node p given))) (replies.Number (fitting k it.1.node p given)))
      → Each P (Step.writes k w it given)
  writes_each k it given g h = search (each_unless P, each_if P, g, h) depth 12

  abbrev pub Writes : Limits → ℕ → List ℕ → Type 0
  Writes k fd given =
      (it : ℕ × Description) (p : ℕ) → opened w.desk fd ≡ Some it → it.1.write ≡ true → (fitting k it.1.node p given == 0) ≡ false
      → At (wrote k it.1.node p given) (with_description w.desk it.0 (advanced it.1 (p + fitting k it.1.node p given))) (replies.Number (fitting k it.1.node p given))

  pub write_each : (k : Limits) (fd : ℕ) (given : Data) → At w.tree w.desk (replies.Number 0) → Writes k fd (Step.bytes_of given) → Each P (Step.write k w fd given)
  write_each k fd given g h = search (each_or_else P, each_where P, inner) depth 12
    where
      inner : (it : ℕ × Description) → opened w.desk fd ≡ Some it → it.1.write ≡ true → Each P (Step.writes k w it (Step.bytes_of given))
      inner it is may = writes_each k it (Step.bytes_of given) g (λ p some. h it p is may some)

  -- a new file, a directory, a file as it is, and one that is cut to no bytes
  pub record Opens (k : Limits) (d : ℕ) (path : List ℕ) (flags : Flags) : Type 0 where
    pub new : (place : Place) (fd : ℕ) → IsFreeAt k path place → lowest_free w.desk ≡ Some fd → P (Step.opens w (with_new w.tree place (File [])) fd d w.tree.next flags)
    pub dir : (place : Place) (fd n : ℕ) → entry_at w.tree place ≡ Some (n, Dir) → flags.write ≡ false → lowest_free w.desk ≡ Some fd → P (Step.opens w w.tree fd d n flags)
    pub file : (place : Place) (fd n : ℕ) (bytes : List ℕ) → entry_at w.tree place ≡ Some (n, File bytes) → lowest_free w.desk ≡ Some fd → P (Step.opens w w.tree fd d n flags)
    pub cut : (place : Place) (fd n : ℕ) (bytes : List ℕ) → entry_at w.tree place ≡ Some (n, File bytes) → lowest_free w.desk ≡ Some fd → P (Step.opens w (with_node w.tree n (File [])) fd d n flags)

  pub open_each : (k : Limits) (d : ℕ) (path : List ℕ) (flags : Flags) → Opens k d path flags → Each P (Step.open_path k d w path flags)
  open_each k d path flags h = search (each_syntax P, each_bind P, each_then P, open_it) depth 20
    where
      by_trunc : (b : Bool) (place : Place) (fd n : ℕ) (bytes : List ℕ) → entry_at w.tree place ≡ Some (n, File bytes) → lowest_free w.desk ≡ Some fd → P (Step.opens w (cond b (with_node w.tree n (File [])) w.tree) fd d n flags)
      by_trunc true place fd n bytes e l = h.cut place fd n bytes e l
      by_trunc false place fd n bytes e l = h.file place fd n bytes e l

      no_write : (a b : Bool) → (a || b) ≡ false → a ≡ false
      no_write true b e = absurd (cc)
      no_write false b e = refl

      at : (route : Step.Route) (place : Place) (o : Option (ℕ × Node)) → is_too_long path ≡ false → walk w.tree (pieces_of path) ≡ Ok place → entry_at w.tree place ≡ o → Each P (Step.open_at k d w route place flags o)
      at route place None short walked e =
          let new = λ (fd : ℕ) (l : lowest_free w.desk ≡ Some fd) (room : nat_lt k.keys (charge w.tree + 2) ≡ false). h.new place fd (free_at k path place short walked (ap is_some e) room) l in
          search (each_or_else P, each_unless P, new) depth 12
      at route place (Some (n, Dir)) short walked e =
          each_then P _ _ (each_unless P _ _ _ (λ may. each_or_else P _ _ _ (λ fd l. h.dir place fd n e (no_write flags.write flags.creat may) l)))
      at route place (Some (n, File bytes)) short walked e =
          let old = λ (fd : ℕ) (l : lowest_free w.desk ≡ Some fd). by_trunc flags.trunc place fd n bytes e l in
          search (each_or_else P, each_then P, old) depth 12

      open_it : (route : Step.Route) (place : Place) → is_too_long path ≡ false → walk w.tree (pieces_of path) ≡ Ok place → Each P (Step.open_at k d w route place flags (entry_at w.tree place))
      open_it route place short walked = at route place (entry_at w.tree place) short walked refl

-- a write at a place, whose offset stays
module _ (P : Step.After → Type 0) (w : Step.World) where
  abbrev pub kept : Step.After → Type 0
  kept after = Each P (Step.leaves w after.world.tree after.reply)

  pub pwrite_each : (k : Limits) (fd : ℕ) (given : Data) (offset : ℤ)
      → At P w w.tree w.desk (replies.Number 0)
      → ((it : ℕ × Description) (p : ℕ) → opened w.desk fd ≡ Some it → it.1.write ≡ true → (fitting P w k it.1.node p (Step.bytes_of given) == 0) ≡ false
      → At P w (wrote P w k it.1.node p (Step.bytes_of given)) w.desk (replies.Number (fitting P w k it.1.node p (Step.bytes_of given))))
      → Each P (Step.pwrite k w fd given offset)
  pwrite_each k fd given offset g h = search (each_or_else P, each_where P, each_then P, inner) depth 12
    where
      inner : (it : ℕ × Description) → opened w.desk fd ≡ Some it → it.1.write ≡ true
          → Each P (Step.writes k w (it.0, record { node = it.1.node; offset = Step.natural offset; read = it.1.read; write = true; append = false }) (Step.bytes_of given) >>= λ after. Step.leaves w after.world.tree after.reply)
      inner it is may =
          each_inside P (Step.writes k w (it.0, record { node = it.1.node; offset = Step.natural offset; read = it.1.read; write = true; append = false }) (Step.bytes_of given)) (λ after. Step.leaves w after.world.tree after.reply)
          (writes_each kept w k (it.0, record { node = it.1.node; offset = Step.natural offset; read = it.1.read; write = true; append = false }) (Step.bytes_of given) g (λ p some. h it p is may some))
