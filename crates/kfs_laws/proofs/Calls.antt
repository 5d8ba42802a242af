-- Each call leaves a tree with its open files: its walk and its checks meet what its effect asks for.
use Rattle.std.proofs.Common.{◌≡◌, ◌≢◌, ℕ, ◌≤◌, ◌+◌, ◌-◌, ◌==◌, true, false, refl, sym, ◌∙◌, ap, subst, arith, T, List, [], ◌∷◌, ◌++◌, length, take, Option, Some, None, is_some, Ok, lit≤}
use Rattle.std.specs.Prelude.{nat_lt, nat_le}
use Rattle.std.specs.Ordering.{nat_cmp}
use Rattle.std.specs.FinMap.{find, is_sorted}
use Rattle.std.proofs.lemmas.Bool.{and_parts, or_parts}
use Rattle.std.proofs.lemmas.Bool.Decides.{nat_tests}
use Rattle.kfs_path.specs.Pieces.{is_too_long, pieces_of}
use Rattle.kfs_path.specs.declared.call.Call.{Call}
use Rattle.kfs_path.specs.declared.call.Call.TheVariants as calls
use Rattle.kfs_path.specs.declared.call.Flags.{Flags}
use Rattle.kfs_model.specs.declared.Node.{Node}
use Rattle.kfs_model.specs.declared.Node.TheVariants.{Dir, File}
use Rattle.kfs_model.specs.declared.Description.{Description}
use Rattle.kfs_model.specs.Tree.{Limits, Tree, Place, Name, below, walk, with_new, with_node, without_place, renamed, written, resized, fits, greatest_length, IsTree, number_at, node_of}
use Rattle.kfs_model.specs.Desk.{Desk, opened, with_description}
use Rattle.kfs_model.specs.Step
use Rattle.kfs_model.specs.Life.{IsFree}
use Rattle.kfs_laws.proofs.Outcomes
use Rattle.kfs_laws.proofs.Contents.{entry_is, entry_file, content_is, length_resized}
use Rattle.kfs_laws.proofs.Lookups.{none_some}
use Rattle.kfs_laws.proofs.Making.{IsFreePlace, new_tree, content_tree, node_before}
use Rattle.kfs_laws.proofs.Unnaming.{unnamed_tree}
use Rattle.kfs_laws.proofs.Unnaming as unnaming
use Rattle.kfs_laws.proofs.Renamed.{IsGoal, renamed_tree}
use Rattle.kfs_laws.proofs.Keeping.{swept_tree}
use Rattle.kfs_laws.proofs.Fitting.{fits_pass, length_fitting}
use Rattle.kfs_laws.proofs.Desks.{opened_is, free_number, closed_before, closing_is}
use Rattle.kfs_laws.specs.WholeCalls.{IsWhole}
use Rattle.kfs_laws.proofs.Open
use Rattle.kfs_laws.proofs.Reaching
use Rattle.kfs_laws.proofs.Walking.{IsIn, free_in, ends_in, none_there, leaf_empty, file_leaf, neither_dots}
use Rattle.kfs_laws.proofs.RootAlone.{not_root}

-- ---- how long contents become

longest : (l p j c g : ℕ) → l ≡ p + j + (c - (p + j)) → c ≤ g → p + j ≤ g → l ≤ g
longest l p j c g e a b = omega arith

-- what is written ends within the greatest length
written_short : (k : Limits) (t : Tree) (n p : ℕ) (given : List ℕ) → length (Step.content t n) ≤ greatest_length → (fits k t n (Step.content t n) p (length given) == 0) ≡ false
    → length (written (Step.content t n) p (take (fits k t n (Step.content t n) p (length given)) given)) ≤ greatest_length
written_short k t n p given low some =
    let old = Step.content t n in
    let j = fits k t n old p (length given) in
    let test : nat_le (p + j) greatest_length ≡ true = (and_parts _ _ (fits_pass k t n old p (length given) some)).0 in
    let end : p + j ≤ greatest_length = grind (arith, nat_tests) in
    longest (length (written old p (take j given))) p j (length old) greatest_length (length_fitting k t n old p given) low end

-- ---- what each effect leaves

-- a tree, what is open in it is there, and each node is named or open
pub record Keeps (t : Tree) (desk : Desk) : Type 0 where
  pub tree : IsTree t
  pub opens : Open.Opens t desk
  pub reached : Reaching.Reached t desk

abbrev pub P : Step.After → Type 0
P after = Keeps after.world.tree after.world.desk

swept_keeps : (w : Step.World) → IsTree w.tree → Open.Opens w.tree w.desk → T (is_sorted nat_cmp w.desk.descriptions) → Keeps (Step.swept w).tree (Step.swept w).desk
swept_keeps w tree opens sorted = record { tree = swept_tree w tree; opens = Open.opens_swept w opens; reached = Reaching.reached_swept w tree.sorted_names sorted }

module _ (t : Tree) (tree : IsTree t) where
  -- a new node at a free place that a path names
  made_tree : (path : List ℕ) (place : Place) (node : Node) → is_too_long path ≡ false → walk t (pieces_of path) ≡ Ok place → Step.is_there t place ≡ false
      → ((bytes : List ℕ) → node ≡ File bytes → length bytes ≤ greatest_length) → IsTree (with_new t place node)
  made_tree path place node short walked free low =
      let at = free_in t tree path place short walked free in
      let none : number_at t (at.up ++ at.name ∷ []) ≡ None = ap (number_at t) (sym at.same) ∙ none_there t tree place free in
      let spot : IsFreePlace t at.up at.name at.number = record { at = at.at; dir = at.dir; free = none; named = at.named } in
      subst (λ q. IsTree (with_new t q node)) (sym at.same) (new_tree t tree at.up at.name at.number spot node low)

  -- a file's new content
  filled_tree : (n : ℕ) (was bytes : List ℕ) → node_of t n ≡ Some (File was) → length bytes ≤ greatest_length → IsTree (with_node t n (File bytes))
  filled_tree n was bytes file low = content_tree t tree n was bytes file low

  -- a name that ends a path, with nothing below it, goes
  bare_tree : (q : Place) → IsIn t q → ((x : Name) → number_at t (q ++ x ∷ []) ≡ None) → IsTree (without_place t q)
  bare_tree q at leaf = unnamed_tree t q tree (λ e. not_root at.up at.name (sym at.same ∙ e)) leaf

  -- what lies at a place, or below it, lies at another
  moved_tree : (p q : Place) → IsIn t q → ((x : Name) → number_at t (q ++ x ∷ []) ≡ None) → below p q ≡ None → IsTree (renamed (without_place t q) p q)
  moved_tree p q at leaf apart =
      let bare = without_place t q in
      let new = at.up ++ at.name ∷ [] in
      let up : number_at bare at.up ≡ Some at.number = unnaming.number_old t q at.up (λ e. none_some (number_at t (q ++ at.name ∷ [])) at.number (leaf at.name) (absurd (higher at.up at.name (e ∙ at.same)))) ∙ at.at in
      let none : number_at bare new ≡ None = ap (number_at bare) (sym at.same) ∙ unnaming.number_gone t q in
      let goal : IsGoal bare p at.up at.name at.number = record { at = up; dir = at.dir; free = none; named = at.named; apart = ap (below p) (sym at.same) ∙ apart } in
      subst (λ r. IsTree (renamed bare p r)) (sym at.same) (renamed_tree bare (bare_tree q at leaf) p at.up at.name at.number goal)
    where
      higher : (up : Place) (x : Name) → up ≢ up ++ x ∷ []
      higher [] x e = cc
      higher (y ∷ up) x e = higher up x (ap (λ (r : Place). rest r) e)
        where
          rest : Place → Place
          rest [] = []
          rest (z ∷ zs) = zs

-- ---- each call

no_some : {A : Type 0} (o : Option A) → is_some o ≡ false → o ≡ None
no_some None e = refl
no_some (Some x) e = absurd (cc)

module _ (k : Limits) (d : ℕ) (w : Step.World) (free : IsFree w d) (is : IsWhole w) where
  abbrev t : Tree
  t = w.tree

  opens : Open.Opens t w.desk
  opens = Open.opens_of w is.there is.files

  pub still : Keeps t w.desk
  still = record { tree = is.tree; opens = opens; reached = is.reached }

  more_same : (e : ℕ) (it : Description) → find nat_cmp e w.desk.descriptions ≡ Some it → (f : ℕ) × (x : Description) × (find nat_cmp f w.desk.descriptions ≡ Some x) × (x.node ≡ it.node)
  more_same e it f = (e, it, f, refl)

  abbrev made : ℕ → Flags → Description
  made n flags = record { node = n; offset = 0; read = flags.read; write = flags.write; append = flags.append }

  -- a new description of a node that is there
  opened_keeps : (u : Tree) (fd n : ℕ) (flags : Flags) → IsTree u → Open.Carries t u → Open.Has u n flags.write → Reaching.Reached u (Step.opens w u fd d n flags).world.desk → P (Step.opens w u fd d n flags)
  opened_keeps u fd n flags tree more has reached = record {
    tree = tree;
    opens = Open.opens_put u w.desk d (made n flags) (Step.opens w u fd d n flags).world.desk refl has (Open.carried t u w.desk more opens);
    reached = reached;
  }

  -- the same of a tree with the same names
  opened_same : (u : Tree) (fd n : ℕ) (flags : Flags) → u.names ≡ t.names → ((m : ℕ) (x : Node) → node_of u m ≡ Some x → (y : Node) × (node_of t m ≡ Some y)) → IsTree u → Open.Carries t u → Open.Has u n flags.write → P (Step.opens w u fd d n flags)
  opened_same u fd n flags names nodes tree more has =
      opened_keeps u fd n flags tree more has (Reaching.reached_same t u w.desk (Step.opens w u fd d n flags).world.desk names nodes (Reaching.more_new w.desk d (made n flags) (free_number w d free)) is.reached)

  -- the same of the tree as it is
  opened_still : (fd n : ℕ) (node : Node) (flags : Flags) → node_of t n ≡ Some node → (flags.write ≡ true → (bytes : List ℕ) × (node ≡ File bytes)) → P (Step.opens w t fd d n flags)
  opened_still fd n node flags e may = opened_same t fd n flags refl (λ m x e. (x, e)) is.tree (λ n write h. h) (node, e, may)

  -- a description at another offset
  moved_keeps : (fd : ℕ) (it : ℕ × Description) (u : Tree) (new : Description) → opened w.desk fd ≡ Some it → new.node ≡ it.1.node → new.write ≡ it.1.write
      → u.names ≡ t.names → ((m : ℕ) (x : Node) → node_of u m ≡ Some x → (y : Node) × (node_of t m ≡ Some y)) → IsTree u → Open.Carries t u → Keeps u (with_description w.desk it.0 new)
  moved_keeps fd it u new e node write names nodes tree more =
      let there = opened_is w.desk fd it e in
      let h = more it.1.node it.1.write (opens it.0 it.1 there) in
      record {
        tree = tree;
        opens = Open.opens_put u w.desk it.0 new (with_description w.desk it.0 new) refl (h.0, ap (node_of u) node ∙ h.1, λ may. h.2 (sym write ∙ may)) (Open.carried t u w.desk more opens);
        reached = Reaching.reached_same t u w.desk (with_description w.desk it.0 new) names nodes (Reaching.more_moved w.desk it.0 it.1 new there node) is.reached;
      }

  carries_all : (u : Tree) → u.nodes ≡ t.nodes → Open.Carries t u
  carries_all u e n write h = (h.0, ap (find nat_cmp n) e ∙ h.1, h.2)

  -- the file that a descriptor may write
  written_file : (fd : ℕ) (it : ℕ × Description) → opened w.desk fd ≡ Some it → it.1.write ≡ true → (b : List ℕ) × (node_of t it.1.node ≡ Some (File b))
  written_file fd it e may = is.files it.0 it.1 (opened_is w.desk fd it e) may

  no_bytes : (bytes : List ℕ) → ◌≡◌ {A = Node} (File []) (File bytes) → length bytes ≤ greatest_length
  no_bytes bytes e = let f : [] ≡ bytes = cc in subst (λ b. length b ≤ greatest_length) f (lit≤ tt)

  no_file : (bytes : List ℕ) → ◌≡◌ {A = Node} Dir (File bytes) → length bytes ≤ greatest_length
  no_file bytes e = absurd (cc)

  -- a new file, a directory, a file as it is, and one that is cut to no bytes
  open_keeps : (path : List ℕ) (flags : Flags) → Outcomes.Each P (Step.open_path k d w path flags)
  open_keeps path flags = Outcomes.open_each P w k d path flags (record {
    new = λ place fd spot l.
        opened_keeps (with_new t place (File [])) fd t.next flags (made_tree t is.tree path place (File []) spot.short spot.walked spot.free no_bytes) (Open.carries_new t is.tree place (File []))
        (File [], Open.new_there t place (File []), λ may. ([], refl))
        (Reaching.reached_new t w.desk (Step.opens w (with_new t place (File [])) fd d t.next flags).world.desk place (File []) (none_there t is.tree place spot.free) (Reaching.more_new w.desk d (made t.next flags) (free_number w d free)) is.reached);
    dir = λ place fd n e may l. opened_still fd n Dir flags (entry_is t place n Dir e) (λ yes. absurd (let bad : true ≡ false = sym yes ∙ may in cc));
    file = λ place fd n bytes e l. opened_still fd n (File bytes) flags (entry_is t place n (File bytes) e) (λ may. (bytes, refl));
    cut = λ place fd n bytes e l.
        let file = entry_is t place n (File bytes) e in
        let more = Open.carries_content t n [] in
        opened_same (with_node t n (File [])) fd n flags refl (node_before t is.tree n bytes [] file) (filled_tree t is.tree n bytes [] file (lit≤ tt)) more (more n flags.write (File bytes, file, λ may. (bytes, refl)));
  })

  -- a file gets another content
  filled_keeps : (n : ℕ) (was bytes : List ℕ) → node_of t n ≡ Some (File was) → length bytes ≤ greatest_length → Keeps (with_node t n (File bytes)) w.desk
  filled_keeps n was bytes file low = record { tree = filled_tree t is.tree n was bytes file low; opens = Open.carried t (with_node t n (File bytes)) w.desk (Open.carries_content t n bytes) opens; reached = Reaching.reached_same t (with_node t n (File bytes)) w.desk w.desk refl (node_before t is.tree n was bytes file) more_same is.reached }

  content_low : (n : ℕ) (was : List ℕ) → node_of t n ≡ Some (File was) → length (Step.content t n) ≤ greatest_length
  content_low n was file = subst (λ b. length b ≤ greatest_length) (sym (content_is t n was file)) (is.tree.lengths n was file)

  resized_low : (b : List ℕ) (size : ℕ) → nat_lt greatest_length size ≡ false → length (resized b size) ≤ greatest_length
  resized_low b size low = let le : size ≤ greatest_length = grind (arith, nat_tests) in subst (λ m. m ≤ greatest_length) (sym (length_resized b size)) le

  -- the same tree of names and nodes but for names that go or move, swept
  named_keeps : (u : Tree) → IsTree u → u.nodes ≡ t.nodes → Keeps (Step.swept (record { tree = u; desk = w.desk })).tree w.desk
  named_keeps u tree e = swept_keeps (record { tree = u; desk = w.desk }) tree (Open.carried t u w.desk (carries_all u e) opens) is.desk.sorted_descriptions

  pub keeps : (call : Call) → Outcomes.Each P (Step.effect k d w call)
  keeps (calls.Open path flags) = open_keeps path flags
  keeps (calls.Close fd) = Outcomes.close_each P w fd (λ it e.
      swept_keeps (record { tree = t; desk = Outcomes.closed P w fd }) is.tree (λ n x f. opens n x (closed_before w.desk is.desk fd n x f)) (closing_is w.desk is.desk fd).sorted_descriptions)
  keeps (calls.Dup fd) = Outcomes.dup_each P w fd (λ it new e l. record { tree = is.tree; opens = opens; reached = is.reached })
  keeps (calls.Read fd count) = Outcomes.read_each P w fd count (λ bytes it p e. moved_keeps fd it t _ e refl refl refl (λ m x e. (x, e)) is.tree (λ n write h. h))
  keeps (calls.Write fd bytes) = Outcomes.write_each P w k fd bytes still (λ it p e may some.
      let file = written_file fd it e may in
      moved_keeps fd it _ _ e refl refl refl (node_before t is.tree it.1.node file.0 _ file.1) (filled_tree t is.tree it.1.node file.0 _ file.1 (written_short k t it.1.node p (Step.bytes_of bytes) (content_low it.1.node file.0 file.1) some)) (Open.carries_content t it.1.node _))
  keeps (calls.Pread fd count offset) = Outcomes.pread_each P w fd count offset (λ bytes. still)
  keeps (calls.Pwrite fd bytes offset) = Outcomes.pwrite_each P w k fd bytes offset still (λ it p e may some.
      let file = written_file fd it e may in
      filled_keeps it.1.node file.0 _ file.1 (written_short k t it.1.node p (Step.bytes_of bytes) (content_low it.1.node file.0 file.1) some))
  keeps (calls.Lseek fd whence offset) = Outcomes.lseek_each P w fd whence offset (λ n it p e. moved_keeps fd it t _ e refl refl refl (λ m x e. (x, e)) is.tree (λ n write h. h))
  keeps (calls.Truncate path size) = Outcomes.truncate_each P w k path size (λ place e at there dir may.
      let file = entry_file t place e there dir in
      filled_keeps e.0 file.0 _ file.1 (resized_low (Step.content t e.0) (Step.natural size) may.short))
  keeps (calls.Ftruncate fd size) = Outcomes.ftruncate_each P w k fd size (λ it e write may.
      let file = written_file fd it e write in
      filled_keeps it.1.node file.0 _ file.1 (resized_low (Step.content t it.1.node) (Step.natural size) may.short))
  keeps (calls.Mkdir path) = Outcomes.mkdir_each P w k path (λ place spot. record {
    tree = made_tree t is.tree path place Dir spot.short spot.walked spot.free no_file;
    opens = Open.carried t (with_new t place Dir) w.desk (Open.carries_new t is.tree place Dir) opens;
    reached = Reaching.reached_new t w.desk w.desk place Dir (none_there t is.tree place spot.free) more_same is.reached;
  })
  keeps (calls.Rmdir path) = Outcomes.rmdir_each P w path (λ place spot.
      let at = ends_in t is.tree path place spot.short (neither_dots (pieces_of path) spot.dot spot.dots) spot.root spot.walked in
      named_keeps (without_place t place) (bare_tree t is.tree place at (leaf_empty t is.tree place spot.empty)) refl)
  keeps (calls.Unlink path) = Outcomes.unlink_each P w path (λ place there dir.
      let leaf = file_leaf t is.tree place there dir in
      named_keeps (without_place t place) (unnamed_tree t place is.tree leaf.0 leaf.1) refl)
  keeps (calls.Rename old new) = Outcomes.rename_each P w old new still (λ p q move.
      let dots = or_parts (Step.ends_in_dots (pieces_of old)) (Step.ends_in_dots (pieces_of new)) move.ends in
      let roots = or_parts (Step.is_root (pieces_of old)) (Step.is_root (pieces_of new)) move.roots in
      let at = ends_in t is.tree new q move.short dots.1 roots.1 move.to in
      named_keeps (renamed (without_place t q) p q) (moved_tree t is.tree p q at (leaf_empty t is.tree q move.empty) (no_some (below p q) move.apart)) refl)
  keeps (calls.Stat path) = Outcomes.stat_each P w path (λ reply e. still)
  keeps (calls.Fstat fd) = Outcomes.fstat_each P w fd (λ o reply e. still)
  keeps (calls.List path) = Outcomes.list_each P w path (λ reply e. still)
  keeps (calls.Fsync fd) = Outcomes.fsync_each P w fd still
  keeps calls.Sync = still
  keeps calls.Room = still
  keeps calls.Tree = still
  keeps (calls.Work operations) = still
