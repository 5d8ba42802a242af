-- What giving a file a length by its path is judged by, and what a last close finds.
use Rattle.std.proofs.Common.{◌≡◌, ℕ, ◌<◌, ◌≤◌, ◌==◌, ◌||◌, true, false, Bool, refl, sym, ◌∙◌, ap, subst, ◌^◌, arith, List, [], ◌∷◌, length, map, Option, Some, None, Result, Ok, Err}
use Rattle.std.specs.Prelude.{pos}
use Rattle.std.specs.List.{AllByRecursion, list_any}
use Rattle.std.specs.Option.{option_map, option_and_then}
use Rattle.std.specs.Result.{result_ok}
use Rattle.std.specs.Str.{bytes_eq}
use Rattle.std.proofs.lemmas.Bool.Decides.{nat_tests}
use Rattle.std.proofs.lemmas.Slice.Eq.{bytes_eq-Decides}
use Rattle.kv_device.specs.Objects.{Objects}
use Rattle.kfs_objects.specs.Keys.{be64}
use Rattle.kfs_objects.proofs.KeyLaws.{same64}
use Rattle.kfs_path.specs.declared.call.Errno.{Errno}
use Rattle.kfs_path.specs.declared.call.Errno.TheVariants.{ENOENT, ENOTDIR, EISDIR, EFBIG}
use Rattle.kfs_model.specs.declared.Node.{Node}
use Rattle.kfs_model.specs.declared.Node.TheVariants.{Dir, File}
use Rattle.kfs_model.specs.Ladder.{◌>>=◌, ◌>>◌, ◌when◌}
use Rattle.kfs_model.specs.Tree.{Place, Tree, Limits, entry_at, walk, with_node, resized, has_room, greatest_length, node_of}
use Rattle.kfs_model.specs.declared.Description.{Description}
use Rattle.kfs_model.specs.Step.{Route, syntax, or_else, is_dir, has_dir, truncate, lengthened}
use Rattle.kfs_model.specs.Change.{node_at}
use Rattle.kfs_core.specs.declared.room.Space.{Space}
use Rattle.kfs_core.specs.Stands.{Stands}
use Rattle.kfs_core.specs.Flat.{Where, at_root, walk_in, found_in, inode_in, reach_in}
use Rattle.kfs_core.specs.Removing.{release_at, is_open_in}
use Rattle.kfs_core.specs.Resizing.{resize_in}
use Rattle.kfs_core.proofs.Ways.{Alike, kind_of, inode_at, walks, root_spot}
use Rattle.kfs_core.proofs.Judges.{syntax_named, found_at, seen_as}
use Rattle.kfs_core.proofs.Fitting.{IsSpaceOf}
use Rattle.kfs_core.proofs.Ladders.{SameAs, same_when}
use Rattle.kfs_core.proofs.RemovingJudges.{entry_parts, short_file}
use Rattle.kfs_core.proofs.RenamingJudges.{pieces_read}
use Rattle.kfs_core.proofs.ResizingJudges.{ResizesTree, resize_same}

-- the node whose length changes, and its old length
abbrev pub cut_in : Objects → Space → Bool → ℕ → Option (ℕ × ℕ × ℕ) → Result (ℕ × ℕ) Errno
cut_in m space trailing size None = Err ENOENT
cut_in m space trailing size (Some (n, kind, was)) = do
  EISDIR when (kind == 1)
  ENOTDIR when trailing
  old ← resize_in m space n size
  Ok (n, old)

-- what is found by a path, and cut or followed by zeros
abbrev pub truncate_in : Objects → Space → Route → ℕ → Result (ℕ × ℕ) Errno
truncate_in m space route size = reach_in m route >>= cut_in m space route.trailing size

same_then : {X Y Z : Type 0} (P : X → Y → Type 0) (Q : X → Z → Type 0) (f : Y → Z) (r : Result X Errno) (s : Result Y Errno) → SameAs P r s → ((x : X) (y : Y) → P x y → Q x (f y)) → SameAs Q r (s >>= λ y. Ok (f y))
same_then P Q f (Ok x) (Ok y) h g = g x y h
same_then P Q f (Ok x) (Err e) h g = h
same_then P Q f (Err d) (Ok y) h g = h
same_then P Q f (Err d) (Err e) h g = h

module _ (m : Objects) (t : Tree) (stands : Stands m t) where
  -- the tree with the new length, the node and its old length
  abbrev pub CutsTree : Limits → List ℕ → ℕ → Tree → ℕ × ℕ → Type 0
  CutsTree k path size u cut =
      (bytes : List ℕ) × (node_of t cut.0 ≡ Some (File bytes)) × (node_at t path ≡ Some cut.0) × (u ≡ with_node t cut.0 (File (resized bytes size))) × (cut.1 ≡ length bytes)
      × (has_room k u ≡ true) × (size ≤ greatest_length)

  module _ (k : Limits) (space : Space) (room : IsSpaceOf space k t) (path : List ℕ) (route : Route) (read : syntax path ≡ Ok route) (size : ℕ) where
    abbrev cut_tree : Place → Option (ℕ × Node) → Result Tree Errno
    cut_tree place o = do
      entry ← or_else o ENOENT
      EISDIR when has_dir o
      ENOTDIR when route.trailing
      lengthened k t entry.0 (pos size)

    abbrev judge : Route → Result Tree Errno
    judge route = do
      place ← walk t route.pieces
      entry ← or_else (entry_at t place) ENOENT
      EISDIR when is_dir t place
      ENOTDIR when route.trailing
      lengthened k t entry.0 (pos size)

    at_node : (place : Place) (n : ℕ) (node : Node) → walk t route.pieces ≡ Ok place → entry_at t place ≡ Some (n, node) → node_at t path ≡ Some n
    at_node place n node way is =
        ap (λ (r : Result Place Errno). option_and_then {U = ℕ} (λ p. option_map {U = ℕ} (λ (e : ℕ × Node). e.0) (entry_at t p)) (result_ok r)) (ap (walk t) (pieces_read path route read) ∙ way)
        ∙ ap (option_map {U = ℕ} (λ (e : ℕ × Node). e.0)) is

    cuts : (place : Place) → walk t route.pieces ≡ Ok place → (o : Option (ℕ × Node)) → entry_at t place ≡ o → SameAs (CutsTree k path size) (cut_tree place o) (cut_in m space route.trailing size (option_map (seen_as m t stands) o))
    cuts place way None is = refl
    cuts place way (Some (n, Dir)) is = refl
    cuts place way (Some (n, File bytes)) is =
        let parts = entry_parts t place (n, File bytes) is in
        same_when (CutsTree k path size) ENOTDIR route.trailing route.trailing _ _ refl (λ _.
        same_then (ResizesTree m t stands n bytes parts.1 k size) (CutsTree k path size) (λ old. (n, old)) (lengthened k t n (pos size)) (resize_in m space n size) (resize_same m t stands n bytes parts.1 k space size room)
        (λ u old h. (bytes, parts.1, at_node place n (File bytes) way is, h.0, h.1, h.2, h.3)))

    walked : (r : Result Place Errno) (s : Result Where Errno) → walk t route.pieces ≡ r → Alike m t stands r s
        → SameAs (CutsTree k path size) (r >>= λ place. cut_tree place (entry_at t place)) ((s >>= λ w. Ok (found_in m w.node)) >>= cut_in m space route.trailing size)
    walked (Ok place) (Ok w) way h = subst (λ o. SameAs (CutsTree k path size) (cut_tree place (entry_at t place)) (cut_in m space route.trailing size o)) (sym (found_at m t stands place w h)) (cuts place way (entry_at t place) refl)
    walked (Ok place) (Err e) way h = absurd h
    walked (Err d) (Ok w) way h = absurd h
    walked (Err d) (Err e) way h = h

    pub truncate_same : SameAs (CutsTree k path size) (truncate k t path (pos size)) (truncate_in m space route size)
    truncate_same = subst (λ r. SameAs (CutsTree k path size) (r >>= judge) (truncate_in m space route size)) (sym read)
        (walked (walk t route.pieces) (walk_in m at_root route.pieces) refl (walks m t stands [] at_root route.pieces (syntax_named path route read) (root_spot m t stands)))

  -- a node that goes is never refused, and its length is found
  pub release_finds : (n : ℕ) (node : Node) → node_of t n ≡ Some node → release_at (inode_in m n) ≡ Ok (kind_of node).1
  release_finds n node there = ap release_at (inode_at m t stands n node there) ∙ by node there
    where
      by : (x : Node) → node_of t n ≡ Some x → release_at (Some (kind_of x)) ≡ Ok (kind_of x).1
      by Dir e = refl
      by (File bytes) e = ap (λ b. (EFBIG when b) >> Ok (length bytes)) (short_file m t stands n bytes e)

-- the list of open nodes has those that the descriptions have
pub open_same : (files : List (ℕ × Description)) (n : ℕ) → n < 2 ^ 64 → AllByRecursion (λ e. e.1.node < 2 ^ 64) files → is_open_in (map (λ e. be64 e.1.node) files) n ≡ list_any (λ e. e.1.node == n) files
open_same [] n low all = refl
open_same (e ∷ files) n low all = λ i. test (e.1.node == n) refl i || open_same files n low all.1 i
  where
    test : (b : Bool) → (e.1.node == n) ≡ b → bytes_eq (be64 e.1.node) (be64 n) ≡ b
    test true is = let same : e.1.node ≡ n = grind (arith, nat_tests) in (bytes_eq-Decides (be64 e.1.node) (be64 n)).1 (ap be64 same)
    test false is = by (bytes_eq (be64 e.1.node) (be64 n)) refl
      where
        by : (c : Bool) → bytes_eq (be64 e.1.node) (be64 n) ≡ c → c ≡ false
        by false h = refl
        by true h = let same : e.1.node ≡ n = same64 e.1.node n all.0 low ((bytes_eq-Decides (be64 e.1.node) (be64 n)).0 h) in absurd (let t : (e.1.node == n) ≡ true = grind (arith, nat_tests) in let bad : true ≡ false = sym t ∙ is in cc)
