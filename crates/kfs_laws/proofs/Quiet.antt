-- A call that is no change leaves the tree.
use Rattle.std.proofs.Common.{◌≡◌, ◌≢◌, ℕ, suc, ◌+◌, ◌-◌, ◌/◌, ◌≤◌, ◌==◌, Bool, true, false, cond, T, arith, refl, sym, ap, ◌∙◌, List, [], ◌∷◌, length, Option, Some, None, Result, Ok, Err}
use Rattle.std.specs.Prelude.{nat_lt, replicate}
use Rattle.std.specs.Result.{result_ok}
use Rattle.std.specs.Ordering.{nat_cmp}
use Rattle.std.specs.List.{filter}
use Rattle.std.specs.Option.{option_map, option_and_then}
use Rattle.std.specs.FinMap.{put, is_sorted}
use Rattle.std.proofs.lemmas.List.{take-append-le, take_all}
use Rattle.std.proofs.lemmas.Bool.Decides.{nat_tests}
use Rattle.kfs_path.specs.Pieces.{pieces_of}
use Rattle.kfs_path.specs.declared.call.Call.{Call}
use Rattle.kfs_path.specs.declared.call.Call.TheVariants as calls
use Rattle.kfs_path.specs.declared.call.Reply.TheVariants as replies
use Rattle.kfs_path.specs.declared.call.Errno.{Errno}
use Rattle.kfs_path.specs.declared.call.Flags.{Flags}
use Rattle.kfs_model.specs.declared.Node.{Node}
use Rattle.kfs_model.specs.declared.Node.TheVariants.{File}
use Rattle.kfs_model.specs.Tree.{Limits, Tree, Place, entry_at, node_of, with_node, resized, walk, renamed, without_place, IsTree}
use Rattle.kfs_model.specs.Step
use Rattle.kfs_model.specs.declared.Description.{Description}
use Rattle.kfs_model.specs.Change
use Rattle.kfs_model.specs.Change.{weight, resizing, writing}
use Rattle.kfs_laws.specs.Worlds.{WritesFiles}
use Rattle.kfs_laws.specs.Laws.{looks}
use Rattle.kfs_laws.proofs.Outcomes
use Rattle.kfs_laws.proofs.Contents.{entry_is, entry_file, content_is, length_resized}
use Rattle.kfs_laws.proofs.Moves.{renamed_leaves}
use Rattle.kfs_laws.proofs.Lookups.{number_put, number_put_same}
use Rattle.kfs_laws.proofs.Desks.{opened_is}

-- calls that have no effect on the tree by their definition
module _ (k : Limits) (d : ℕ) (w : Step.World) where
  abbrev Same : Step.After → Type 0
  Same after = after.world.tree ≡ w.tree

  pub looking : (call : Call) → looks call ≡ true → Outcomes.Each Same (Step.effect k d w call)
  looking (calls.Dup fd) e = Outcomes.dup_each Same w fd (λ it new is l. refl)
  looking (calls.Read fd count) e = Outcomes.read_each Same w fd count (λ bytes it p is. refl)
  looking (calls.Pread fd count offset) e = Outcomes.pread_each Same w fd count offset (λ bytes. refl)
  looking (calls.Lseek fd whence offset) e = Outcomes.lseek_each Same w fd whence offset (λ n it p is. refl)
  looking (calls.Stat path) e = Outcomes.stat_each Same w path (λ reply e. refl)
  looking (calls.Fstat fd) e = Outcomes.fstat_each Same w fd (λ o reply e. refl)
  looking (calls.List path) e = Outcomes.list_each Same w path (λ reply e. refl)
  looking (calls.Fsync fd) e = Outcomes.fsync_each Same w fd refl
  looking calls.Sync e = refl
  looking calls.Room e = refl
  looking calls.Tree e = refl
  looking (calls.Work operations) e = refl
  looking (calls.Open path flags) e = absurd (cc)
  looking (calls.Close fd) e = absurd (cc)
  looking (calls.Write fd bytes) e = absurd (cc)
  looking (calls.Pwrite fd bytes offset) e = absurd (cc)
  looking (calls.Truncate path size) e = absurd (cc)
  looking (calls.Ftruncate fd size) e = absurd (cc)
  looking (calls.Mkdir path) e = absurd (cc)
  looking (calls.Rmdir path) e = absurd (cc)
  looking (calls.Unlink path) e = absurd (cc)
  looking (calls.Rename old new) e = absurd (cc)

no_more : {X : Type 0} (p : X → Bool) (xs : List X) → length (filter p xs) ≤ length xs
no_more p [] = omega arith
no_more p (x ∷ xs) = by (p x) (no_more p xs)
  where
    by : (b : Bool) → length (filter p xs) ≤ length xs → length (cond b (x ∷ filter p xs) (filter p xs)) ≤ length (x ∷ xs)
    by true h = let t : suc (length (filter p xs)) ≤ suc (length xs) = omega arith in t
    by false h = let t : length (filter p xs) ≤ suc (length xs) = omega arith in t

-- where a filter loses none, it changes nothing
all_stay : {X : Type 0} (p : X → Bool) (xs : List X) → nat_lt (length (filter p xs)) (length xs) ≡ false → filter p xs ≡ xs
all_stay p [] h = refl
all_stay p (x ∷ xs) h = by (p x) (no_more p xs) (all_stay p xs) h
  where
    by : (b : Bool) → length (filter p xs) ≤ length xs → (nat_lt (length (filter p xs)) (length xs) ≡ false → filter p xs ≡ xs) → nat_lt (length (cond b (x ∷ filter p xs) (filter p xs))) (length (x ∷ xs)) ≡ false → cond b (x ∷ filter p xs) (filter p xs) ≡ x ∷ xs
    by true le rest h = ap (λ ys. x ∷ ys) (rest (let t : nat_lt (length (filter p xs)) (length xs) ≡ false = grind (arith, nat_tests) in t))
    by false le rest h = absurd (let t : nat_lt (length (filter p xs)) (suc (length xs)) ≡ true = grind (arith, nat_tests) in let bad : true ≡ false = sym t ∙ h in cc)

swept_same : (w : Step.World) → nat_lt (length (Step.swept w).tree.nodes) (length w.tree.nodes) ≡ false → (Step.swept w).tree ≡ w.tree
swept_same w h = λ i. record { names = w.tree.names; nodes = all_stay _ w.tree.nodes h i; next = w.tree.next }

no_change : (b : Bool) (n : ℕ) → ◌≡◌ {A = Option ℕ} (cond b (Some n) None) None → b ≡ false
no_change true n e = absurd (cc)
no_change false n e = refl

written_some : (j p : ℕ) → (j == 0) ≡ false → writing p j ≢ None
written_some j p some e = by (j == 0) some e
  where
    by : (b : Bool) → b ≡ false → ◌≡◌ {A = Option ℕ} (cond b None (Some (2 + Change.spanned p j))) None → ⊥
    by true s e = cc
    by false s e = cc

-- a resize that has no weight keeps the length
same_length : (old new : ℕ) → resizing old new ≡ None → old ≡ new
same_length old new e = by (nat_lt new old) (nat_lt old new) refl refl e
  where
    by : (a b : Bool) → nat_lt new old ≡ a → nat_lt old new ≡ b → ◌≡◌ {A = Option ℕ} (cond a (Some (2 + (old + 4095) / 4096 - new / 4096)) (cond b (Some 2) None)) None → old ≡ new
    by true b p q e = absurd (cc)
    by false true p q e = absurd (cc)
    by false false p q e = grind (arith, nat_tests)

content_now : (t : Tree) (n : ℕ) (b : List ℕ) → Step.content (with_node t n (File b)) n ≡ b
content_now t n b = content_is (with_node t n (File b)) n b (number_put n (File b) t.nodes)

node_stays : (t : Tree) (n : ℕ) (old new : List ℕ) → T (is_sorted nat_cmp t.nodes) → node_of t n ≡ Some (File old) → new ≡ old → with_node t n (File new) ≡ t
node_stays t n old new sorted e is = λ i. record { names = t.names; nodes = (ap (λ b. put nat_cmp n (File b) t.nodes) is ∙ number_put_same n (File old) t.nodes sorted e) i; next = t.next }

-- where a content's length stays, and its bytes with it
same_content : (t : Tree) (n : ℕ) (old new : List ℕ) → T (is_sorted nat_cmp t.nodes) → node_of t n ≡ Some (File old) → (length old ≡ length new → new ≡ old)
    → resizing (length (Step.content t n)) (length (Step.content (with_node t n (File new)) n)) ≡ None → with_node t n (File new) ≡ t
same_content t n old new sorted e stays h =
    let a = content_is t n old e in
    let b = content_now t n new in
    node_stays t n old new sorted e (stays (same_length (length old) (length new) (sym (λ i. resizing (length (a i)) (length (b i))) ∙ h)))

no_bytes : (b : List ℕ) → length b ≡ 0 → [] ≡ b
no_bytes [] e = refl
no_bytes (x ∷ b) e = absurd (let h : suc (length b) ≡ 0 = e in omega arith)

resized_same : (b : List ℕ) (n : ℕ) → length b ≡ length (resized b n) → resized b n ≡ b
resized_same b n e = let h = length_resized b n in take-append-le n b (replicate (n - length b) 0) (omega arith) ∙ take_all n b (omega arith)

node_at_is : (t : Tree) (path : List ℕ) (place : Place) (e : ℕ × Node) → walk t (pieces_of path) ≡ Ok place → entry_at t place ≡ Some e → Change.node_at t path ≡ Some e.0
node_at_is t path place e at is = by (walk t (pieces_of path)) at
  where
    by : (r : Result Place Errno) → r ≡ Ok place → option_and_then (λ q. option_map (λ (x : ℕ × Node). x.0) (entry_at t q)) (result_ok r) ≡ Some e.0
    by (Ok q) h = let same : q ≡ place = cc in ap (λ q. option_map (λ (x : ℕ × Node). x.0) (entry_at t q)) same ∙ ap (option_map (λ (x : ℕ × Node). x.0)) is
    by (Err d) h = absurd (cc)

rises : (b : Bool) (n : ℕ) (o : Option ℕ) → b ≡ true → cond b (Some n) o ≡ None → ⊥
rises true n o t h = cc
rises false n o t h = cc

otherwise : (b : Bool) (n : ℕ) (o : Option ℕ) → cond b (Some n) o ≡ None → o ≡ None
otherwise true n o h = absurd (cc)
otherwise false n o h = h

from_node : (w : Step.World) (after : Step.After) (o : Option ℕ) (n : ℕ) → o ≡ Some n → Change.node_resizing w after o ≡ None → resizing (length (Step.content w.tree n)) (length (Step.content after.world.tree n)) ≡ None
from_node w after o n e h = sym (ap (Change.node_resizing w after) e) ∙ h

-- a new descriptor has the node
opens_node : (w : Step.World) (t : Tree) (fd d n : ℕ) (flags : Flags) → Change.node_open (Step.opens w t fd d n flags).world.desk fd ≡ Some n
opens_node w t fd d n flags = rw (number_put fd d w.desk.descriptors, number_put d (record { node = n; offset = 0; read = flags.read; write = flags.write; append = flags.append }) w.desk.descriptions) refl

module _ (k : Limits) (d : ℕ) (w : Step.World) (tree : IsTree w.tree) (files : WritesFiles w) where
  abbrev Quiet : Call → Step.After → Type 0
  Quiet call after = weight w call after ≡ None → after.world.tree ≡ w.tree

  opening_file : (path : List ℕ) (flags : Flags) → Outcomes.Each (Quiet (calls.Open path flags)) (Step.open_path k d w path flags)
  opening_file path flags = Outcomes.open_each (Quiet (calls.Open path flags)) w k d path flags (record {
    new = λ place fd spot l h. absurd (rises (nat_lt w.tree.next (w.tree.next + 1)) 4 _ (let t : nat_lt w.tree.next (w.tree.next + 1) ≡ true = grind (arith, nat_tests) in t) h);
    dir = λ place fd n e may l h. refl;
    file = λ place fd n b e l h. refl;
    cut = λ place fd n b e l h. same_content w.tree n b [] tree.sorted_nodes (entry_is w.tree place n (File b) e) (λ l. no_bytes b l)
        (from_node w (cut n fd) (Change.node_open (cut n fd).world.desk fd) n (opens_node w (with_node w.tree n (File [])) fd d n flags) (otherwise (nat_lt w.tree.next w.tree.next) 4 _ h));
  })
    where
      cut : ℕ → ℕ → Step.After
      cut n fd = Step.opens w (with_node w.tree n (File [])) fd d n flags

  lengthened : (n : ℕ) (b : List ℕ) (size : ℕ) → node_of w.tree n ≡ Some (File b)
      → resizing (length (Step.content w.tree n)) (length (Step.content (with_node w.tree n (File (resized (Step.content w.tree n) size))) n)) ≡ None
      → with_node w.tree n (File (resized (Step.content w.tree n) size)) ≡ w.tree
  lengthened n b size there h =
      let c = content_is w.tree n b there in
      same_content w.tree n b (resized (Step.content w.tree n) size) tree.sorted_nodes there (λ l. ap (λ x. resized x size) c ∙ resized_same b size (l ∙ ap (λ x. length (resized x size)) c)) h

  abbrev longer : ℕ → ℕ → Step.After
  longer n size = record { world = record { tree = with_node w.tree n (File (resized (Step.content w.tree n) size)); desk = w.desk }; reply = replies.Done }

  abbrev moving : Place → Place → Tree
  moving p q = (Step.swept (record { tree = renamed (without_place w.tree q) p q; desk = w.desk })).tree

  pub quiet : (call : Call) → Outcomes.Each (Quiet call) (Step.effect k d w call)
  quiet (calls.Open path flags) = opening_file path flags
  quiet (calls.Close fd) = Outcomes.close_each (Quiet (calls.Close fd)) w fd (λ it is h. swept_same (record { tree = w.tree; desk = Outcomes.closed (Quiet (calls.Close fd)) w fd }) (no_change _ _ h))
  quiet (calls.Dup fd) = Outcomes.dup_each (Quiet (calls.Dup fd)) w fd (λ it new is l h. refl)
  quiet (calls.Read fd count) = Outcomes.read_each (Quiet (calls.Read fd count)) w fd count (λ bytes it p is h. refl)
  quiet (calls.Write fd bytes) = Outcomes.write_each (Quiet (calls.Write fd bytes)) w k fd bytes (λ h. refl) (λ it p is may some h. absurd (written_some (Outcomes.fitting (Quiet (calls.Write fd bytes)) w k it.1.node p (Step.bytes_of bytes)) _ some h))
  quiet (calls.Pread fd count offset) = Outcomes.pread_each (Quiet (calls.Pread fd count offset)) w fd count offset (λ bytes h. refl)
  quiet (calls.Pwrite fd bytes offset) = Outcomes.pwrite_each (Quiet (calls.Pwrite fd bytes offset)) w k fd bytes offset (λ h. refl) (λ it p is may some h. absurd (written_some (Outcomes.fitting (Quiet (calls.Pwrite fd bytes offset)) w k it.1.node p (Step.bytes_of bytes)) _ some h))
  quiet (calls.Lseek fd whence offset) = Outcomes.lseek_each (Quiet (calls.Lseek fd whence offset)) w fd whence offset (λ n it p is h. refl)
  quiet (calls.Truncate path size) = Outcomes.truncate_each (Quiet (calls.Truncate path size)) w k path size (λ place e at is dir low h.
      let file = entry_file w.tree place e is dir in
      lengthened e.0 file.0 (Step.natural size) file.1 (from_node w (longer e.0 (Step.natural size)) (Change.node_at w.tree path) e.0 (node_at_is w.tree path place e at is) h))
  quiet (calls.Ftruncate fd size) = Outcomes.ftruncate_each (Quiet (calls.Ftruncate fd size)) w k fd size (λ it is write low h.
      let file = files it.0 it.1 (opened_is w.desk fd it is) write in
      lengthened it.1.node file.0 (Step.natural size) file.1 (from_node w (longer it.1.node (Step.natural size)) (Change.node_open w.desk fd) it.1.node (ap (option_map (λ (x : ℕ × Description). x.1.node)) is) h))
  quiet (calls.Mkdir path) = Outcomes.mkdir_each (Quiet (calls.Mkdir path)) w k path (λ place spot h. absurd (cc))
  quiet (calls.Rmdir path) = Outcomes.rmdir_each (Quiet (calls.Rmdir path)) w path (λ place spot h. absurd (cc))
  quiet (calls.Unlink path) = Outcomes.unlink_each (Quiet (calls.Unlink path)) w path (λ place there dir h. absurd (cc))
  quiet (calls.Rename old new) = Outcomes.rename_each (Quiet (calls.Rename old new)) w old new (λ h. refl) (λ p q move h.
      let left = renamed_leaves w.tree tree p q old (moving p q) refl move.from move.there move.differs move.empty in
      absurd (rises (Change.has_left w.tree (moving p q) old) _ None left h))
  quiet (calls.Stat path) = Outcomes.stat_each (Quiet (calls.Stat path)) w path (λ reply e h. refl)
  quiet (calls.Fstat fd) = Outcomes.fstat_each (Quiet (calls.Fstat fd)) w fd (λ o reply e h. refl)
  quiet (calls.List path) = Outcomes.list_each (Quiet (calls.List path)) w path (λ reply e h. refl)
  quiet (calls.Fsync fd) = Outcomes.fsync_each (Quiet (calls.Fsync fd)) w fd (λ h. refl)
  quiet calls.Sync = λ h. refl
  quiet calls.Room = λ h. refl
  quiet calls.Tree = λ h. refl
  quiet (calls.Work operations) = λ h. refl

  pub settled_quiet : (call : Call) (r : Result Step.After Errno) → Outcomes.Each (Quiet call) r → weight w call (Step.settled w r) ≡ None → (Step.settled w r).world.tree ≡ w.tree
  settled_quiet call (Ok after) h none = h none
  settled_quiet call (Err e) h none = refl
