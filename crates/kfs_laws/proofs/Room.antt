-- Each call leaves room where there was room: what a call adds was judged, and nothing else adds.
use Rattle.std.proofs.Common.{◌≡◌, ℕ, suc, ◌+◌, ◌*◌, ◌≤◌, ◌/◌, ◌==◌, ◌&&◌, true, false, refl, sym, ◌∙◌, ap, subst, arith, List, [], ◌∷◌, length, take, sum_by, Some}
use Rattle.std.specs.Prelude.{nat_lt, nat_le, replicate}
use Rattle.std.specs.declared.cmp.Ordering.{Ordering}
use Rattle.std.specs.declared.cmp.Ordering.TheVariants.{Less, Equal, Greater}
use Rattle.std.specs.Ordering.{nat_cmp}
use Rattle.std.specs.FinMap.{put}
use Rattle.std.specs.FinMap.Entries.{by_order}
use Rattle.std.proofs.lemmas.Bool.{and_parts}
use Rattle.std.proofs.lemmas.Bool.Decides.{nat_tests}
use Rattle.std.proofs.lemmas.List.Sums.{sum_by-cons}
use Rattle.kfs_path.specs.declared.call.Call.{Call}
use Rattle.kfs_path.specs.declared.call.Call.TheVariants as calls
use Rattle.kfs_model.specs.declared.Node.{Node}
use Rattle.kfs_model.specs.declared.Node.TheVariants.{Dir, File}
use Rattle.kfs_model.specs.Tree.{Limits, Tree, Place, node_of, charge, chunks, chunks_of, has_room, with_new, with_node, without_place, renamed, written, fits, IsTree}
use Rattle.kfs_model.specs.Step
use Rattle.kfs_model.proofs.Fits.{size_written}
use Rattle.kfs_laws.proofs.Outcomes
use Rattle.kfs_laws.proofs.Contents.{entry_is}
use Rattle.kfs_laws.proofs.Charging.{charge_new, chunks_new, charge_content, chunks_content, charge_swept, chunks_swept}
use Rattle.kfs_laws.proofs.Fitting.{fits_pass, length_fitting}

-- what a tree takes is within the limits
pub record IsWithin (k : Limits) (t : Tree) : Type 0 where
  pub keys : charge t ≤ k.keys
  pub pages : chunks t ≤ k.pages

pub within_of : (k : Limits) (t : Tree) → has_room k t ≡ true → IsWithin k t
within_of k t room =
    let both = and_parts (nat_le (charge t) k.keys) (nat_le (chunks t) k.pages) room in
    let keys = both.0 in
    let pages = both.1 in
    record { keys = grind (arith, nat_tests); pages = grind (arith, nat_tests) }

pub room_of : (k : Limits) (t : Tree) → IsWithin k t → has_room k t ≡ true
room_of k t is =
    let keys = is.keys in
    let pages = is.pages in
    let a : nat_le (charge t) k.keys ≡ true = grind (arith, nat_tests) in
    let b : nat_le (chunks t) k.pages ≡ true = grind (arith, nat_tests) in
    λ i. a i && b i

-- what takes no more has room too
less_within : (k : Limits) (t u : Tree) → IsWithin k t → charge u ≤ charge t → chunks u ≤ chunks t → IsWithin k u
less_within k t u is a b = let keys = is.keys in let pages = is.pages in record { keys = omega arith; pages = omega arith }

-- ---- contents of one length take the same

-- the chunks of an entry
abbrev taken : ℕ × Node → ℕ
taken e = chunks_of e.1

first_alike : (n : ℕ) (a b : Node) (es : List (ℕ × Node)) → chunks_of a ≡ chunks_of b → sum_by taken ((n, a) ∷ es) ≡ sum_by taken ((n, b) ∷ es)
first_alike n a b es is = sum_by-cons taken (n, a) es ∙ ap (λ c. c + sum_by taken es) is ∙ sym (sum_by-cons taken (n, b) es)

put_alike : (n : ℕ) (a b : Node) (es : List (ℕ × Node)) → chunks_of a ≡ chunks_of b
    → (sum_by taken (put nat_cmp n a es) ≡ sum_by taken (put nat_cmp n b es)) × (length (put nat_cmp n a es) ≡ length (put nat_cmp n b es))
put_alike n a b [] is = (first_alike n a b [] is, refl)
put_alike n a b (x ∷ es) is = by (nat_cmp n x.0) (put_alike n a b es is)
  where
    by : (r : Ordering) → (sum_by taken (put nat_cmp n a es) ≡ sum_by taken (put nat_cmp n b es)) × (length (put nat_cmp n a es) ≡ length (put nat_cmp n b es))
        → (sum_by taken (by_order r ((n, a) ∷ x ∷ es) ((x.0, a) ∷ es) (x ∷ put nat_cmp n a es)) ≡ sum_by taken (by_order r ((n, b) ∷ x ∷ es) ((x.0, b) ∷ es) (x ∷ put nat_cmp n b es)))
        × (length (by_order r ((n, a) ∷ x ∷ es) ((x.0, a) ∷ es) (x ∷ put nat_cmp n a es)) ≡ length (by_order r ((n, b) ∷ x ∷ es) ((x.0, b) ∷ es) (x ∷ put nat_cmp n b es)))
    by Less rest = (first_alike n a b (x ∷ es) is, refl)
    by Equal rest = (first_alike x.0 a b es is, refl)
    by Greater rest = (sum_by-cons taken x (put nat_cmp n a es) ∙ ap (λ c. taken x + c) rest.0 ∙ sym (sum_by-cons taken x (put nat_cmp n b es)), ap (λ c. suc c) rest.1)

same_length : (k : Limits) (t : Tree) (n : ℕ) (xs ys : List ℕ) → length xs ≡ length ys → IsWithin k (with_node t n (File xs)) → IsWithin k (with_node t n (File ys))
same_length k t n xs ys same is =
    let alike = put_alike n (File xs) (File ys) t.nodes (ap (λ m. (m + 4095) / 4096) same) in
    record {
      keys = subst (λ m. m ≤ k.keys) (λ i. 1 + 2 * alike.1 i + alike.0 i) is.keys;
      pages = subst (λ m. m ≤ k.pages) alike.0 is.pages;
    }

-- ---- all calls

module _ (k : Limits) (d : ℕ) (w : Step.World) (tree : IsTree w.tree) (is : IsWithin k w.tree) where
  abbrev t : Tree
  t = w.tree

  abbrev P : Step.After → Type 0
  P after = IsWithin k after.world.tree

  -- a node without chunks, where two more keys are there
  new_within : (place : Place) (node : Node) → chunks_of node ≡ 0 → nat_lt k.keys (charge t + 2) ≡ false → IsWithin k (with_new t place node)
  new_within place node none room =
      let more = charge_new t place node tree in
      let same = chunks_new t place node tree in
      let le : charge t + 2 ≤ k.keys = grind (arith, nat_tests) in
      let pages = is.pages in
      record { keys = omega arith; pages = omega arith }

  -- a file without its bytes
  cut_within : (n : ℕ) (was : List ℕ) → node_of t n ≡ Some (File was) → IsWithin k (with_node t n (File []))
  cut_within n was file =
      let keys = charge_content t n was [] tree file in
      let pages = chunks_content t n was [] tree file in
      less_within k t (with_node t n (File [])) is (omega arith) (omega arith)

  -- a part of what was given, where that many zeros have room
  written_within : (n p : ℕ) (given : List ℕ) → (fits k t n (Step.content t n) p (length given) == 0) ≡ false
      → IsWithin k (with_node t n (File (written (Step.content t n) p (take (fits k t n (Step.content t n) p (length given)) given))))
  written_within n p given some =
      let old = Step.content t n in
      let j = fits k t n old p (length given) in
      let same = size_written old p j ∙ sym (length_fitting k t n old p given) in
      let room = (and_parts _ _ (fits_pass k t n old p (length given) some)).1 in
      same_length k t n (written old p (replicate j 0)) (written old p (take j given)) same (within_of k _ room)

  -- what nothing names any more goes, and takes nothing
  swept_within : (v : Step.World) → IsWithin k v.tree → IsWithin k (Step.swept v).tree
  swept_within v has =
      let less = charge_swept v in
      let fewer = chunks_swept v in
      less_within k v.tree (Step.swept v).tree has (omega arith) (omega arith)

  -- names that go or move take nothing
  names_within : (names : List (Place × ℕ)) → IsWithin k (Step.swept (record { tree = record { names = names; nodes = t.nodes; next = t.next }; desk = w.desk })).tree
  names_within names = swept_within (record { tree = record { names = names; nodes = t.nodes; next = t.next }; desk = w.desk }) (record { keys = is.keys; pages = is.pages })

  pub within : (call : Call) → Outcomes.Each P (Step.effect k d w call)
  within (calls.Open path flags) = Outcomes.open_each P w k d path flags (record {
    new = λ place fd spot l. new_within place (File []) refl spot.room;
    dir = λ place fd n e may l. is;
    file = λ place fd n bytes e l. is;
    cut = λ place fd n bytes e l. cut_within n bytes (entry_is t place n (File bytes) e);
  })
  within (calls.Close fd) = Outcomes.close_each P w fd (λ it e. swept_within (record { tree = t; desk = Outcomes.closed P w fd }) is)
  within (calls.Dup fd) = Outcomes.dup_each P w fd (λ it new e l. is)
  within (calls.Read fd count) = Outcomes.read_each P w fd count (λ bytes it p e. is)
  within (calls.Write fd bytes) = Outcomes.write_each P w k fd bytes is (λ it p e may some. written_within it.1.node p (Step.bytes_of bytes) some)
  within (calls.Pread fd count offset) = Outcomes.pread_each P w fd count offset (λ bytes. is)
  within (calls.Pwrite fd bytes offset) = Outcomes.pwrite_each P w k fd bytes offset is (λ it p e may some. written_within it.1.node p (Step.bytes_of bytes) some)
  within (calls.Lseek fd whence offset) = Outcomes.lseek_each P w fd whence offset (λ n it p e. is)
  within (calls.Truncate path size) = Outcomes.truncate_each P w k path size (λ place e at there dir may. within_of k _ may.room)
  within (calls.Ftruncate fd size) = Outcomes.ftruncate_each P w k fd size (λ it e write may. within_of k _ may.room)
  within (calls.Mkdir path) = Outcomes.mkdir_each P w k path (λ place spot. new_within place Dir refl spot.room)
  within (calls.Rmdir path) = Outcomes.rmdir_each P w path (λ place spot. names_within (without_place t place).names)
  within (calls.Unlink path) = Outcomes.unlink_each P w path (λ place there dir. names_within (without_place t place).names)
  within (calls.Rename old new) = Outcomes.rename_each P w old new is (λ p q move. names_within (renamed (without_place t q) p q).names)
  within (calls.Stat path) = Outcomes.stat_each P w path (λ reply e. is)
  within (calls.Fstat fd) = Outcomes.fstat_each P w fd (λ o reply e. is)
  within (calls.List path) = Outcomes.list_each P w path (λ reply e. is)
  within (calls.Fsync fd) = Outcomes.fsync_each P w fd is
  within calls.Sync = is
  within calls.Room = is
  within calls.Tree = is
  within (calls.Work operations) = is
