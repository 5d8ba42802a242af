-- The node that a place names, a file's content, and how long it becomes.
use Rattle.std.proofs.Common.{◌≡◌, ℕ, ◌-◌, refl, sym, ◌∙◌, ap, arith, true, false, List, length, Option, Some, None}
use Rattle.std.specs.Prelude.{replicate}
use Rattle.std.specs.Option.{option_map, option_and_then}
use Rattle.std.proofs.lemmas.List.{length-take-le, length-append, length-replicate}
use Rattle.std.proofs.lemmas.Option.{same_Some}
use Rattle.kfs_model.specs.declared.Node.{Node}
use Rattle.kfs_model.specs.declared.Node.TheVariants.{Dir, File}
use Rattle.kfs_model.specs.Tree.{Tree, Place, entry_at, number_at, node_of, resized, padded}
use Rattle.kfs_model.specs.Step

-- the node of an entry
pub entry_is : (t : Tree) (place : Place) (n : ℕ) (node : Node) → entry_at t place ≡ Some (n, node) → node_of t n ≡ Some node
entry_is t place n node e = by (number_at t place) e
  where
    inner : (m : ℕ) (o : Option Node) → node_of t m ≡ o → option_map {U = ℕ × Node} (λ x. (m, x)) o ≡ Some (n, node) → node_of t n ≡ Some node
    inner m None is e = absurd (cc)
    inner m (Some x) is e = let pair = same_Some (m, x) (n, node) e in let same = ap (λ (q : ℕ × Node). q.0) pair in let kind = ap (λ (q : ℕ × Node). q.1) pair in ap (node_of t) (sym same) ∙ is ∙ ap Some kind

    by : (o : Option ℕ) → option_and_then (λ m. option_map {U = ℕ × Node} (λ x. (m, x)) (node_of t m)) o ≡ Some (n, node) → node_of t n ≡ Some node
    by None e = absurd (cc)
    by (Some m) e = inner m (node_of t m) refl e

-- what is there and no directory is a file
pub entry_file : (t : Tree) (place : Place) (e : ℕ × Node) → entry_at t place ≡ Some e → Step.is_dir t place ≡ false → (bytes : List ℕ) × (node_of t e.0 ≡ Some (File bytes))
entry_file t place (n, Dir) at dir = absurd (let bad : true ≡ false = sym (ap Step.has_dir at) ∙ dir in cc)
entry_file t place (n, File bytes) at dir = (bytes, entry_is t place n (File bytes) at)

pub content_is : (t : Tree) (n : ℕ) (bytes : List ℕ) → node_of t n ≡ Some (File bytes) → Step.content t n ≡ bytes
content_is t n bytes e = rw e refl

pub length_resized : (bytes : List ℕ) (n : ℕ) → length (resized bytes n) ≡ n
length_resized bytes n = length-take-le n (padded bytes n) (let h = length-append bytes (replicate (n - length bytes) 0) in let g = length-replicate {A = ℕ} (n - length bytes) 0 in omega arith)
