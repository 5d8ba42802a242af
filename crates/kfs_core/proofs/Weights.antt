-- The weights of removals, renames, last closes and new lengths are those that the code counts.
use Rattle.std.proofs.Common.{◌≡◌, ◌≢◌, ℕ, ◌<◌, ◌+◌, ◌-◌, ◌*◌, ◌/◌, ◌&&◌, not, true, false, cond, Bool, refl, ◌∙◌, ap, arith, List, length, Option, Some, None, Ok, is_some, nat_lt}
use Rattle.std.specs.Option.{option_map, option_and_then}
use Rattle.std.proofs.lemmas.Bool.Decides.{nat_tests}
use Rattle.kfs_path.specs.Pieces.{pieces_of}
use Rattle.kfs_path.specs.declared.call.Call.TheVariants as calls
use Rattle.kfs_path.specs.declared.call.Reply.TheVariants as replies
use Rattle.kfs_model.specs.declared.Node.{Node}
use Rattle.kfs_model.specs.Tree.{Tree, Place, chunks, renamed, without_place, walk, IsTree, number_at, node_of}
use Rattle.kfs_model.specs.Step.{World, is_there, swept}
use Rattle.kfs_model.specs.Change.{weight, resizing, has_left, place_of}
use Rattle.kfs_laws.proofs.Moves.{renamed_leaves}
use Rattle.kfs_shows.specs.Sweeping.{Frees}
use Rattle.kfs_core.specs.Removing.{Leaf, chunks_gone}
use Rattle.kfs_core.specs.Renaming.{Move}
use Rattle.kfs_core.specs.Resizing.{resize_weight}
use Rattle.kfs_core.proofs.RenamingJudges.{IsMove}

pub unlink_weight : (w u : World) (path : List ℕ) (keys pages : ℕ) → Frees w.tree u.tree keys pages → weight w (calls.Unlink path) (record { world = u; reply = replies.Done }) ≡ Some (4 + pages)
unlink_weight w u path keys pages frees = let f = frees.pages in ap (λ n. Some (4 + n)) (let g : chunks w.tree - chunks u.tree ≡ pages = omega arith in g)

-- a directory has no chunks
pub no_chunks : (leaf : Leaf) (open_now : Bool) → leaf.size ≡ 0 → chunks_gone leaf open_now ≡ 0
no_chunks leaf true e = refl
no_chunks leaf false e = ap (λ n. (n + 4095) / 4096) e

-- where a path led before and after a call that leaves the tree
pub stays_left : (t : Tree) (path : List ℕ) → has_left t t path ≡ false
stays_left t path = by (place_of t path) refl
  where
    both : (b : Bool) → (b && not b) ≡ false
    both true = refl
    both false = refl

    by : (o : Option Place) → place_of t path ≡ o → has_left t t path ≡ false
    by None e = rw e refl
    by (Some place) e = rw e (both (is_there t place))

is_there_at : (t : Tree) → IsTree t → (p : Place) (n : ℕ) → number_at t p ≡ Some n → is_there t p ≡ true
is_there_at t tree p n at =
    let x = tree.there p n at in
    ap (λ (o : Option ℕ). is_some {T = ℕ × Node} (option_and_then {U = ℕ × Node} (λ k. option_map {U = ℕ × Node} (λ node. (k, node)) (node_of t k)) o)) at
    ∙ ap (λ (o : Option Node). is_some {T = ℕ × Node} (option_map {U = ℕ × Node} (λ node. (n, node)) o)) x.1

-- after a move the old path leads to nothing
pub moves_left : (w : World) → IsTree w.tree → (p q : Place) (move : Move) → IsMove w.tree p q move → (old : List ℕ) → walk w.tree (pieces_of old) ≡ Ok p
    → has_left w.tree (swept (record { tree = renamed (without_place w.tree q) p q; desk = w.desk })).tree old ≡ true
moves_left w tree p q move is old way = renamed_leaves w.tree tree p q old (swept (record { tree = renamed (without_place w.tree q) p q; desk = w.desk })).tree refl way (is_there_at w.tree tree p move.node is.at) is.two is.empty

pub rename_weight : (w u : World) (old new : List ℕ) (keys pages : ℕ) → has_left w.tree u.tree old ≡ true → Frees w.tree u.tree keys pages → weight w (calls.Rename old new) (record { world = u; reply = replies.Done }) ≡ Some (4 + pages)
rename_weight w u old new keys pages left frees =
    let f = frees.pages in
    let g : chunks w.tree - chunks u.tree ≡ pages = omega arith in
    (λ i. cond (left i) (Some (4 + (chunks w.tree - chunks u.tree))) None) ∙ ap (λ n. Some (4 + n)) g

-- where nothing moves there is no change
pub rename_stays : (w : World) (old new : List ℕ) → weight w (calls.Rename old new) (record { world = w; reply = replies.Done }) ≡ None
rename_stays w old new = λ i. cond (stays_left w.tree old i) (Some (4 + (chunks w.tree - chunks w.tree))) None

pub close_weight : (w u : World) (fd pages : ℕ) → Frees w.tree u.tree (2 + pages) pages → weight w (calls.Close fd) (record { world = u; reply = replies.Done }) ≡ Some (4 + pages)
close_weight w u fd pages frees =
    let f = frees.pages in
    let k : 1 + 2 * length u.tree.nodes + chunks u.tree + (2 + pages) ≡ 1 + 2 * length w.tree.nodes + chunks w.tree = frees.keys in
    let g : chunks w.tree - chunks u.tree ≡ pages = omega arith in
    let test : nat_lt (length u.tree.nodes) (length w.tree.nodes) ≡ true = grind (arith, nat_tests) in
    (λ i. cond (test i) (Some (4 + (chunks w.tree - chunks u.tree))) None) ∙ ap (λ n. Some (4 + n)) g

-- from a length to another
pub resizing_is : (was now : ℕ) → was ≢ now → resizing was now ≡ Some (resize_weight was now)
resizing_is was now differ = by (nat_lt now was) (nat_lt was now) refl refl
  where
    by : (a b : Bool) → nat_lt now was ≡ a → nat_lt was now ≡ b → cond a (Some (2 + (was + 4095) / 4096 - now / 4096)) (cond b (Some 2) None) ≡ Some (2 + cond a ((was + 4095) / 4096 - now / 4096) 0)
    by true b e f = let less : now < was = grind (arith, nat_tests) in ap Some (let same : 2 + (was + 4095) / 4096 - now / 4096 ≡ 2 + ((was + 4095) / 4096 - now / 4096) = omega arith in same)
    by false true e f = refl
    by false false e f = absurd (differ (grind (arith, nat_tests)))

pub resizing_stays : (was : ℕ) → resizing was was ≡ None
resizing_stays was =
    let test : nat_lt was was ≡ false = grind (arith, nat_tests) in
    (λ i. cond (test i) (Some (2 + (was + 4095) / 4096 - was / 4096)) (cond (test i) (Some 2) None))
