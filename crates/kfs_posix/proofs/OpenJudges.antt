-- Opening over the objects is opening over the tree that they show.
use Rattle.std.proofs.Common.{◌≡◌, ℕ, ◌≤◌, ◌+◌, ◌-◌, ◌/◌, ◌&&◌, ◌||◌, inl, inr, true, false, cond, not, Bool, refl, sym, ◌∙◌, ap, subst, arith, lit<, List, [], length, Option, Some, None, is_some, Result, Ok, Err, nat_lt, nat_le}
use Rattle.std.specs.Ordering.{nat_cmp}
use Rattle.std.specs.Option.{option_map, option_and_then}
use Rattle.std.specs.FinMap.{find, put}
use Rattle.std.proofs.lemmas.Bool.Decides.{nat_tests}
use Rattle.std.proofs.lemmas.Option.{same_Some}
use Rattle.kv_device.specs.Objects.{Objects}
use Rattle.kfs_path.specs.declared.call.Call.TheVariants as calls
use Rattle.kfs_path.specs.declared.call.Errno.{Errno}
use Rattle.kfs_path.specs.declared.call.Errno.TheVariants.{EINVAL, EEXIST, EISDIR, ENOTDIR, ENOENT, EMFILE, ENOSPC, EFBIG}
use Rattle.kfs_path.specs.declared.call.Flags.{Flags}
use Rattle.kfs_path.specs.declared.call.Reply.TheVariants as replies
use Rattle.kfs_model.specs.declared.Description.{Description}
use Rattle.kfs_model.specs.declared.Node.{Node}
use Rattle.kfs_model.specs.declared.Node.TheVariants.{Dir, File}
use Rattle.kfs_model.specs.Ladder.{◌>>=◌, ◌>>◌, ◌when◌}
use Rattle.kfs_model.specs.Tree.{Tree, Place, Limits, place_cmp, walk, entry_at, node_of, number_at, is_named, with_new, with_node, charge, chunks, has_room, greatest_length}
use Rattle.kfs_model.specs.Desk.{Desk, lowest_free}
use Rattle.kfs_model.specs.Step.{World, After, Route, syntax, or_else, content, is_there, open_path, open_at, open_missing, open_dir, open_file, opens}
use Rattle.kfs_model.specs.Change.{weight, node_resizing, resizing, node_open}
use Rattle.kfs_laws.proofs.Lookups.{number_put, number_other, decide_number, place_put, some_found}
use Rattle.kfs_laws.proofs.Desks.{opening_is}
use Rattle.kfs_laws.specs.Worlds.{IsDesk}
use Rattle.kfs_core.specs.Stands.{Stands}
use Rattle.kfs_core.specs.declared.room.Space.{Space}
use Rattle.kfs_core.specs.Room.{chunks_for}
use Rattle.kfs_core.specs.Resizing.{resize_in, resized_fits}
use Rattle.kfs_core.specs.Flat.{Where, reach_in, create_at, create_in}
use Rattle.kfs_core.proofs.FileJudges.{file_there}
use Rattle.kfs_core.proofs.Ways.{IsSpot}
use Rattle.kfs_core.proofs.Judges.{SamePlace, seen_as}
use Rattle.kfs_core.proofs.CreateJudges.{SameReach, reach_same, create_same, create_place}
use Rattle.kfs_posix.specs.declared.open_files.OpenFile.{OpenFile}
use Rattle.kfs_posix.specs.Opens.{Opens, desk_of, opened_as}
use Rattle.kfs_posix.specs.Holding.{Holds, Knows}
use Rattle.kfs_posix.specs.Opening.{Opening, New, There, Cut, opened_file, is_contrary, there_in, open_there_in, open_new_in, open_found, open_at_in, open_in}
use Rattle.kfs_posix.proofs.Maps.{put-map, find-map}
use Rattle.kfs_posix.proofs.Held.{world_in, description, put_open}
use Rattle.kfs_posix.proofs.Rooms.{both_true}

-- ---- what is open afterwards

pub opened_desk : (o : Opens) (fd d : ℕ) (file : OpenFile) → desk_of (opened_as o fd d file) ≡ record { descriptors = put nat_cmp fd d o.descriptors; descriptions = put nat_cmp d file.it (desk_of o).descriptions }
opened_desk o fd d file = λ i. record { descriptors = put nat_cmp fd d o.descriptors; descriptions = put-map description d file o.files i }

pub opened_holds : (t : Tree) (o : Opens) (fd d : ℕ) (file : OpenFile) → Holds o t → lowest_free (desk_of o) ≡ Some fd → find nat_cmp d o.files ≡ None → Knows t file → Holds (opened_as o fd d file) t
opened_holds t o fd d file holds low free knows = record {
  desk = subst IsDesk (sym (opened_desk o fd d file)) (opening_is (desk_of o) holds.desk fd d file.it low (find-map description d o.files ∙ ap (option_map description) free));
  known = λ e g is. elim (decide_number e d) [
    | inl same ↦ subst (Knows t) (same_Some file g (sym (number_put d file o.files) ∙ ap (λ k. find nat_cmp k (put nat_cmp d file o.files)) (sym same) ∙ is)) knows
    | inr other ↦ holds.known e g (sym (number_other e d file o.files other) ∙ is)
  ];
  kept = λ n node there none. put_open o d file n (λ was e. absurd (let x : None ≡ Some was = sym free ∙ e in cc)) (holds.kept n node there none);
}

-- a new file
pub fresh_knows : (t : Tree) (place : Place) (flags : Flags) → Knows (with_new t place (File [])) (opened_file t.next true 0 flags)
fresh_knows t place flags = record {
  node = File [];
  there = number_put t.next (File []) t.nodes;
  kind = refl;
  length = refl;
  named = sym (some_found place_cmp (put place_cmp place t.next t.names) place t.next (place_put place t.next t.names));
  writes = λ e. refl;
  low = lit< tt;
}

-- ---- the judges

-- the room that a tree takes
abbrev pub space_for : Limits → Tree → Space
space_for k t = record { keys = k.keys; pages = k.pages; charge = charge t; chunks = chunks t }

-- a file may always be cut to no bytes
pub cut_fits : (k : Limits) (t : Tree) → has_room k t ≡ true → (was : ℕ) → resized_fits (space_for k t) was 0 ≡ true
cut_fits k t room was =
    let h = both_true (nat_le (charge t) k.keys) (nat_le (chunks t) k.pages) room in
    let x = h.0 in
    let y = h.1 in
    let f : nat_le (charge t + chunks_for 0 - chunks_for was) k.keys ≡ true = grind (arith, nat_tests) in
    let g : nat_le (chunks t + chunks_for 0 - chunks_for was) k.pages ≡ true = grind (arith, nat_tests) in
    λ i. f i && g i

module _ (m : Objects) (t : Tree) (stands : Stands m t) (k : Limits) (room : has_room k t ≡ true) (o : Opens) (d : ℕ) (flags : Flags) where
  abbrev w : World
  w = world_in t o

  abbrev space : Space
  space = space_for k t

  -- what opening means in the tree
  pub data Opened (effect : Result After Errno) : Result Opening Errno → Type 0 where
    refused : (e : Errno) → effect ≡ Err e → Opened effect (Err e)
    there : (fd : ℕ) (file : OpenFile) → lowest_free (desk_of o) ≡ Some fd → Knows t file → effect ≡ Ok (opens w t fd d file.it.node flags)
        → file.it ≡ (opened_file file.it.node true 0 flags).it → Opened effect (Ok (There fd file))
    new : (fd : ℕ) (where' : Where) (place : Place) → lowest_free (desk_of o) ≡ Some fd → IsSpot t place where' → where'.node ≡ None → number_at t place ≡ None → charge t + 2 ≤ k.keys
        → effect ≡ Ok (opens w (with_new t place (File [])) fd d t.next flags) → Opened effect (Ok (New where' fd))
    cut : (fd : ℕ) (file : OpenFile) (bytes : List ℕ) → lowest_free (desk_of o) ≡ Some fd → Knows t file → node_of t file.it.node ≡ Some (File bytes) → effect ≡ Ok (opens w (with_node t file.it.node (File [])) fd d file.it.node flags)
        → file.it ≡ (opened_file file.it.node true 0 flags).it → Opened effect (Ok (Cut fd file (length bytes)))

  -- the same by the judge's answer
  abbrev pub Meaning : Result After Errno → Result Opening Errno → Type 0
  Meaning effect (Err e) = effect ≡ Err e
  Meaning effect (Ok (There fd file)) = (lowest_free (desk_of o) ≡ Some fd) × Knows t file × (effect ≡ Ok (opens w t fd d file.it.node flags)) × (file.it ≡ (opened_file file.it.node true 0 flags).it)
  Meaning effect (Ok (New v fd)) =
      (place : Place) × (lowest_free (desk_of o) ≡ Some fd) × IsSpot t place v × (v.node ≡ None) × (number_at t place ≡ None) × (charge t + 2 ≤ k.keys)
      × (effect ≡ Ok (opens w (with_new t place (File [])) fd d t.next flags))
  Meaning effect (Ok (Cut fd file was)) =
      (bytes : List ℕ) × (lowest_free (desk_of o) ≡ Some fd) × Knows t file × (node_of t file.it.node ≡ Some (File bytes)) × (was ≡ length bytes)
      × (effect ≡ Ok (opens w (with_node t file.it.node (File [])) fd d file.it.node flags)) × (file.it ≡ (opened_file file.it.node true 0 flags).it)

  pub meaning : (effect : Result After Errno) (r : Result Opening Errno) → Opened effect r → Meaning effect r
  meaning effect r (refused e is) = is
  meaning effect r (there fd file low knows is same) = (low, knows, is, same)
  meaning effect r (new fd v place low spot none free fits is) = (place, low, spot, none, free, fits, is)
  meaning effect r (cut fd file bytes low knows at is same) = (bytes, low, knows, at, refl, is, same)

  -- a node that is there
  entry_named : (place : Place) (n : ℕ) (node : Node) → entry_at t place ≡ Some (n, node) → (node_of t n ≡ Some node) × (is_named t n ≡ true)
  entry_named place n node e = by (number_at t place) refl e
    where
      inner : (i : ℕ) → number_at t place ≡ Some i → (x : Option Node) → node_of t i ≡ x → option_map {U = ℕ × Node} (λ y. (i, y)) x ≡ Some (n, node) → (node_of t n ≡ Some node) × (is_named t n ≡ true)
      inner i at None is e = absurd (cc)
      inner i at (Some x) is e =
          let pair = same_Some (i, x) (n, node) e in
          let same : i ≡ n = ap (λ (q : ℕ × Node). q.0) pair in
          let kind : x ≡ node = ap (λ (q : ℕ × Node). q.1) pair in
          (ap (node_of t) (sym same) ∙ is ∙ ap Some kind, some_found place_cmp t.names place n (at ∙ ap Some same))

      by : (x : Option ℕ) → number_at t place ≡ x → option_and_then (λ i. option_map {U = ℕ × Node} (λ y. (i, y)) (node_of t i)) x ≡ Some (n, node) → (node_of t n ≡ Some node) × (is_named t n ≡ true)
      by None at e = absurd (cc)
      by (Some i) at e = inner i at (node_of t i) refl e

  nothing_at : (place : Place) → entry_at t place ≡ None → number_at t place ≡ None
  nothing_at place e = by (number_at t place) refl e
    where
      inner : (i : ℕ) → (x : Node) → node_of t i ≡ Some x → option_map {U = ℕ × Node} (λ y. (i, y)) (node_of t i) ≡ None → ⊥
      inner i x is e = let bad = sym (ap (option_map {U = ℕ × Node} (λ y. (i, y))) is) ∙ e in cc

      by : (x : Option ℕ) → number_at t place ≡ x → option_and_then (λ i. option_map {U = ℕ × Node} (λ y. (i, y)) (node_of t i)) x ≡ None → number_at t place ≡ None
      by None at e = at
      by (Some i) at e = let h = stands.tree.there place i at in absurd (inner i h.0 h.1 e)

  -- flags that don't contradict each other cut nothing that isn't written
  no_cut : is_contrary flags ≡ false → (flags.write || flags.creat) ≡ false → flags.trunc ≡ false
  no_cut plain e = by flags.trunc flags.write flags.creat (flags.excl && not flags.creat) plain e
    where
      by : (a b c x : Bool) → ((a && not b) || x) ≡ false → (b || c) ≡ false → a ≡ false
      by true true c x p e = absurd (cc)
      by true false c x p e = absurd (cc)
      by false b c x p e = refl

  dir_same : is_contrary flags ≡ false → (n : ℕ) → node_of t n ≡ Some Dir → is_named t n ≡ true → (trailing : Bool) → Opened (open_dir d w n flags) (open_there_in m space o n 1 0 trailing flags)
  dir_same plain n at named trailing = by (flags.creat && flags.excl) (flags.write || flags.creat) refl (lowest_free (desk_of o)) refl
    where
      no_write : (a b : Bool) → (a || b) ≡ false → a ≡ true → false ≡ true
      no_write true b e f = absurd (cc)
      no_write false b e f = f

      by : (a b : Bool) → (flags.write || flags.creat) ≡ b → (x : Option ℕ) → lowest_free (desk_of o) ≡ x
          → Opened ((EEXIST when a) >> ((EISDIR when b) >> (or_else x EMFILE >>= λ fd. Ok (opens w t fd d n flags))))
          ((cond a (Some EEXIST) (cond true (EISDIR when b) (ENOTDIR when trailing)) >> or_else x EMFILE) >>= λ fd. there_in m space fd (opened_file n false 0 flags) flags.trunc)
      by true b e x f = refused EEXIST refl
      by false true e x f = refused EISDIR refl
      by false false e None f = refused EMFILE refl
      by false false e (Some fd) f =
          subst (λ c. Opened (Ok (opens w t fd d n flags)) (there_in m space fd (opened_file n false 0 flags) c)) (sym (no_cut plain e))
          (there fd (opened_file n false 0 flags) f (record { node = Dir; there = at; kind = refl; length = refl; named = sym named; writes = λ write. no_write flags.write flags.creat e write; low = lit< tt }) refl refl)

  cut_there : (n : ℕ) (bytes : List ℕ) → node_of t n ≡ Some (File bytes) → resize_in m space n 0 ≡ Ok (length bytes)
  cut_there n bytes at =
      ap (λ r. r >>= λ was. (EFBIG when nat_lt greatest_length 0) >> ((ENOSPC when not (resized_fits space was 0)) >> Ok was)) (file_there m t stands n bytes at)
      ∙ ap (λ b. (ENOSPC when not b) >> Ok (length bytes)) (cut_fits k t room (length bytes))

  file_same : (route : Route) (n : ℕ) (bytes : List ℕ) → node_of t n ≡ Some (File bytes) → is_named t n ≡ true → Opened (open_file d w route n flags) (open_there_in m space o n 2 (length bytes) route.trailing flags)
  file_same route n bytes at named = by (flags.creat && flags.excl) route.trailing (lowest_free (desk_of o)) refl flags.trunc
    where
      file : OpenFile
      file = opened_file n true (length bytes) flags

      known : Knows t file
      known = record { node = File bytes; there = at; kind = refl; length = refl; named = sym named; writes = λ write. refl; low = lit< tt }

      by : (a b : Bool) (x : Option ℕ) → lowest_free (desk_of o) ≡ x → (c : Bool)
          → Opened ((EEXIST when a) >> ((ENOTDIR when b) >> (or_else x EMFILE >>= λ fd. Ok (opens w (cond c (with_node t n (File [])) t) fd d n flags))))
          ((cond a (Some EEXIST) (cond false (EISDIR when (flags.write || flags.creat)) (ENOTDIR when b)) >> or_else x EMFILE) >>= λ fd. there_in m space fd file c)
      by true b x f c = refused EEXIST refl
      by false true x f c = refused ENOTDIR refl
      by false false None f c = refused EMFILE refl
      by false false (Some fd) f false = there fd file f known refl refl
      by false false (Some fd) f true =
          subst (λ r. Opened (Ok (opens w (with_node t n (File [])) fd d n flags)) (r >>= λ was. Ok (Cut fd file was))) (sym (cut_there n bytes at)) (cut fd file bytes f known at refl refl)

  -- a new file
  missing_same : (path : List ℕ) (route : Route) (place : Place) → syntax path ≡ Ok route → walk t route.pieces ≡ Ok place → entry_at t place ≡ None → Opened (open_missing k d w route place flags) (open_new_in m space o route flags)
  missing_same path route place is to none = tests (not flags.creat || route.trailing) refl
    where
      full : Bool
      full = nat_lt k.keys (charge t + 2)

      or_none : (a b : Bool) → (a || b) ≡ false → b ≡ false
      or_none true b e = absurd (cc)
      or_none false b e = e

      place_is : route.trailing ≡ false → create_place k t path ≡ ((ENOSPC when full) >> Ok place)
      place_is flat =
          ap (λ r. r >>= λ route. walk t route.pieces >>= λ place. (EEXIST when is_there t place) >> ((ENOENT when route.trailing) >> ((ENOSPC when full) >> Ok place))) is
          ∙ ap (λ r. r >>= λ place. (EEXIST when is_there t place) >> ((ENOENT when route.trailing) >> ((ENOSPC when full) >> Ok place))) to
          ∙ (λ i. (EEXIST when is_some (none i)) >> ((ENOENT when flat i) >> ((ENOSPC when full) >> Ok place)))

      made_is : create_in m k.keys (charge t) path ≡ create_at m k.keys (charge t) route
      made_is = ap (λ r. r >>= λ route. create_at m k.keys (charge t) route) is

      same : route.trailing ≡ false → SamePlace m t stands ((ENOSPC when full) >> Ok place) (create_at m k.keys (charge t) route)
      same flat = subst (λ r. SamePlace m t stands r (create_at m k.keys (charge t) route)) (place_is flat) (subst (SamePlace m t stands (create_place k t path)) made_is (create_same m t stands k path))

      last : (fd : ℕ) → lowest_free (desk_of o) ≡ Some fd → (b : Bool) → full ≡ b → (s : Result Where Errno) → SamePlace m t stands ((ENOSPC when b) >> Ok place) s
          → Opened ((ENOSPC when b) >> Ok (opens w (with_new t place (File [])) fd d t.next flags)) (s >>= λ w. Ok (New w fd))
      last fd f true g (Ok v) h = absurd h
      last fd f true g (Err e) h = refused e (ap Err h)
      last fd f false g (Ok v) h = new fd v place f h.0 h.1 (nothing_at place none) (grind (arith, nat_tests)) refl
      last fd f false g (Err e) h = absurd h

      by : route.trailing ≡ false → (x : Option ℕ) → lowest_free (desk_of o) ≡ x
          → Opened (or_else x EMFILE >>= λ fd. (ENOSPC when full) >> Ok (opens w (with_new t place (File [])) fd d t.next flags)) (or_else x EMFILE >>= λ fd. create_at m k.keys (charge t) route >>= λ w. Ok (New w fd))
      by flat None f = refused EMFILE refl
      by flat (Some fd) f = last fd f full refl (create_at m k.keys (charge t) route) (same flat)

      tests : (a : Bool) → (not flags.creat || route.trailing) ≡ a
          → Opened ((ENOENT when a) >> (or_else (lowest_free (desk_of o)) EMFILE >>= λ fd. (ENOSPC when full) >> Ok (opens w (with_new t place (File [])) fd d t.next flags)))
          ((ENOENT when a) >> (or_else (lowest_free (desk_of o)) EMFILE >>= λ fd. create_at m k.keys (charge t) route >>= λ w. Ok (New w fd)))
      tests true e = refused ENOENT refl
      tests false e = by (or_none (not flags.creat) route.trailing e) (lowest_free (desk_of o)) refl

  pub open_same : (path : List ℕ) → Opened (open_path k d w path flags) (open_in m space o path flags)
  open_same path = first (is_contrary flags) refl
    where
      found : is_contrary flags ≡ false → (route : Route) (place : Place) → syntax path ≡ Ok route → walk t route.pieces ≡ Ok place → (x : Option (ℕ × Node)) → entry_at t place ≡ x → Opened (open_at k d w route place flags x) (open_found m space o route flags (option_map (seen_as m t stands) x))
      found plain route place is to None e = missing_same path route place is to e
      found plain route place is to (Some (n, Dir)) e = let h = entry_named place n Dir e in dir_same plain n h.0 h.1 route.trailing
      found plain route place is to (Some (n, File bytes)) e = let h = entry_named place n (File bytes) e in file_same route n bytes h.0 h.1

      walked : is_contrary flags ≡ false → (route : Route) → syntax path ≡ Ok route → (r : Result Place Errno) → walk t route.pieces ≡ r → (s : Result (Option (ℕ × ℕ × ℕ)) Errno) → SameReach m t stands r s
          → Opened (r >>= λ place. open_at k d w route place flags (entry_at t place)) (s >>= λ found. open_found m space o route flags found)
      walked plain route is (Ok place) to (Ok x) h = subst (λ y. Opened (open_at k d w route place flags (entry_at t place)) (open_found m space o route flags y)) (sym h) (found plain route place is to (entry_at t place) refl)
      walked plain route is (Ok place) to (Err f) h = absurd h
      walked plain route is (Err e) to (Ok x) h = absurd h
      walked plain route is (Err e) to (Err f) h = refused f (ap Err h)

      by : is_contrary flags ≡ false → (r : Result Route Errno) → syntax path ≡ r → Opened (r >>= λ route. walk t route.pieces >>= λ place. open_at k d w route place flags (entry_at t place)) (r >>= λ route. open_at_in m space o route flags)
      by plain (Err e) is = refused e refl
      by plain (Ok route) is = walked plain route is (walk t route.pieces) refl (reach_in m route) (reach_same m t stands path route is)

      first : (b : Bool) → is_contrary flags ≡ b → Opened ((EINVAL when b) >> (syntax path >>= λ route. walk t route.pieces >>= λ place. open_at k d w route place flags (entry_at t place))) ((EINVAL when b) >> (syntax path >>= λ route. open_at_in m space o route flags))
      first true plain = refused EINVAL refl
      first false plain = by plain (syntax path) refl

-- ---- weights

still : (n : ℕ) → nat_lt n n ≡ false
still n = grind (arith, nat_tests)

same_size : (n : ℕ) → resizing n n ≡ None
same_size n = ap (λ b. cond b (Some (2 + (n + 4095) / 4096 - n / 4096)) (cond b (Some 2) None)) (still n)

-- a node that was there is opened without a change
pub there_weighs : (w : World) (path : List ℕ) (flags : Flags) (desk : Desk) (fd : ℕ) → weight w (calls.Open path flags) (record { world = record { tree = w.tree; desk = desk }; reply = replies.Number fd }) ≡ None
there_weighs w path flags desk fd =
    ap (λ b. cond b (Some 4) (node_resizing w (record { world = record { tree = w.tree; desk = desk }; reply = replies.Number fd }) (node_open desk fd))) (still w.tree.next) ∙ by (node_open desk fd)
  where
    by : (x : Option ℕ) → node_resizing w (record { world = record { tree = w.tree; desk = desk }; reply = replies.Number fd }) x ≡ None
    by None = refl
    by (Some n) = same_size (length (content w.tree n))

-- a new file is one
pub new_weighs : (w : World) (path : List ℕ) (flags : Flags) (place : Place) (node : Node) (desk : Desk) (fd : ℕ) → weight w (calls.Open path flags) (record { world = record { tree = with_new w.tree place node; desk = desk }; reply = replies.Number fd }) ≡ Some 4
new_weighs w path flags place node desk fd =
    let e : nat_lt w.tree.next (w.tree.next + 1) ≡ true = grind (arith, nat_tests) in
    ap (λ b. cond b (Some 4) (node_resizing w (record { world = record { tree = with_new w.tree place node; desk = desk }; reply = replies.Number fd }) (node_open desk fd))) e

-- a file that is cut, as its lengths say
pub cut_weighs : (w : World) (path : List ℕ) (flags : Flags) (n : ℕ) (node : Node) (desk : Desk) (fd : ℕ) → node_open desk fd ≡ Some n
    → weight w (calls.Open path flags) (record { world = record { tree = with_node w.tree n node; desk = desk }; reply = replies.Number fd }) ≡ resizing (length (content w.tree n)) (length (content (with_node w.tree n node) n))
cut_weighs w path flags n node desk fd has =
    ap (λ b. cond b (Some 4) (node_resizing w (record { world = record { tree = with_node w.tree n node; desk = desk }; reply = replies.Number fd }) (node_open desk fd))) (still w.tree.next)
    ∙ ap (node_resizing w (record { world = record { tree = with_node w.tree n node; desk = desk }; reply = replies.Number fd })) has

-- the node that a new description has
pub opened_node : (o : Opens) (fd d : ℕ) (file : OpenFile) → node_open (desk_of (opened_as o fd d file)) fd ≡ Some file.it.node
opened_node o fd d file =
    ap (λ (desk : Desk). node_open desk fd) (opened_desk o fd d file)
    ∙ ap (λ x. option_map {U = ℕ} (λ (e : ℕ × Description). e.1.node) (option_and_then {U = ℕ × Description} (λ d'. option_map {U = ℕ × Description} (λ it. (d', it)) (find nat_cmp d' (put nat_cmp d file.it (desk_of o).descriptions))) x)) (number_put fd d o.descriptors)
    ∙ ap (λ x. option_map {U = ℕ} (λ (e : ℕ × Description). e.1.node) (option_map {U = ℕ × Description} (λ it. (d, it)) x)) (number_put d file.it (desk_of o).descriptions)
