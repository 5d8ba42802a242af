-- A map shows at most one tree and number.
use Rattle.std.proofs.Common.{◌≡◌, ℕ, ◌<◌, ◌≤◌, ◌+◌, ◌*◌, ◌/◌, ◌%◌, ◌^◌, refl, sym, ◌∙◌, ap, subst, arith, List, [], ◌∷◌, ◌++◌, length, get_or, Option, Some, None, append_assoc, append-nil}
use Rattle.std.specs.Option.{option_map}
use Rattle.std.specs.Ordering.{nat_cmp}
use Rattle.std.specs.Cmp.{nat_cmp_total}
use Rattle.std.specs.FinMap as objects
use Rattle.std.specs.FinMap.Entries.{same_entries}
use Rattle.std.proofs.lemmas.Grind.{same_number_lists}
use Rattle.std.proofs.lemmas.Option.{same_Some}
use Rattle.kv_device.specs.Objects.{Objects}
use Rattle.kfs_objects.specs.Keys.{be64, chunk_key}
use Rattle.kfs_objects.specs.Records.{entry_value, super_value}
use Rattle.kfs_objects.proofs.KeyLaws.{same64, same_front, same_rest}
use Rattle.kfs_model.specs.declared.Node.{Node}
use Rattle.kfs_model.specs.declared.Node.TheVariants.{Dir, File}
use Rattle.kfs_model.specs.Tree.{Place, Name, Tree, place_cmp, greatest_length, IsTree, number_at, node_of}
use Rattle.kfs_shows.specs.Shows.{Shows, ShowsTree, ShowsChunk, IsPiece, inode_of}
use Rattle.kfs_shows.proofs.Lookups.{places_total, same_places}
use Rattle.kfs_shows.proofs.KeysApart.{tails}

-- induction from the front, one name more at the end
pub from_end : (P : List (List ℕ) → Type 0) → P [] → ((xs : List (List ℕ)) (x : List ℕ) → P xs → P (xs ++ x ∷ [])) → (xs : List (List ℕ)) → P xs
from_end P start more xs = go [] xs start
  where
    go : (done rest : List (List ℕ)) → P done → P (done ++ rest)
    go done [] h = subst P (sym (append-nil done)) h
    go done (x ∷ rest) h = subst P (append_assoc done (x ∷ []) rest) (go (done ++ x ∷ []) rest (more done x h))

-- what is said of one is said of the other, both ways
both_halves : {A : Type 0} (o p : Option A) → ((x : A) → o ≡ Some x → p ≡ Some x) → ((x : A) → p ≡ Some x → o ≡ Some x) → o ≡ p
both_halves None None f g = refl
both_halves None (Some y) f g = g y refl
both_halves (Some x) p f g = sym (f x refl)

-- an option whose spelling is there, is there
spelled : {A : Type 0} (f : A → List ℕ) (o : Option A) (v : List ℕ) → option_map f o ≡ Some v → (x : A) × (o ≡ Some x) × (f x ≡ v)
spelled f None v e = absurd (cc)
spelled f (Some x) v e = (x, refl, same_Some _ _ e)

module _ (m : Objects) (t u : Tree) (tree : IsTree t) (other : IsTree u) (s : ShowsTree m t) (r : ShowsTree m u) (low : t.next ≤ 2 ^ 63) (small : u.next ≤ 2 ^ 63) where
  number_low : (q : Place) (n : ℕ) → number_at t q ≡ Some n → n < 2 ^ 64
  number_low q n e = let x = tree.there q n e in let h = (tree.numbers n x.0 x.1).1 in omega arith

  number_small : (q : Place) (n : ℕ) → number_at u q ≡ Some n → n < 2 ^ 64
  number_small q n e = let x = other.there q n e in let h = (other.numbers n x.0 x.1).1 in omega arith

  half : (q : Place) (x : Name) → number_at t q ≡ number_at u q → (n : ℕ) → number_at t (q ++ x ∷ []) ≡ Some n → number_at u (q ++ x ∷ []) ≡ Some n
  half q x same n e =
      let up = tree.parents q x n e in
      let short = (tree.names q x n e).short in
      let here = s.entries q up.0 x up.1 short in
      let there = r.entries q up.0 x (sym same ∙ up.1) short in
      let found = spelled entry_value (number_at u (q ++ x ∷ [])) (entry_value n) (sym there ∙ here ∙ ap (option_map entry_value) e) in
      found.1 ∙ ap Some (same64 found.0 n (number_small _ found.0 found.1) (number_low _ n e) (tails _ _ _ _ found.2))

-- what is absent or short is zero, so the pieces tell each byte
same_content : (m : Objects) (n : ℕ) (a b : List ℕ) → ((chunk : ℕ) → chunk < 2 ^ 32 → IsPiece (objects.get m (chunk_key n chunk)) a chunk) → ((chunk : ℕ) → chunk < 2 ^ 32 → IsPiece (objects.get m (chunk_key n chunk)) b chunk)
    → length a ≤ greatest_length → length a ≡ length b → a ≡ b
same_content m n a b f g le same = same_number_lists a b same (λ k lt.
    let c = k / 4096 in
    let i = k % 4096 in
    let low : i < 4096 = omega arith in
    let few : c < 2 ^ 32 = omega arith in
    let is : 4096 * c + i ≡ k = omega arith in
    ap (λ x. get_or a x 0) (sym is) ∙ (f c few).same i low ∙ sym ((g c few).same i low) ∙ ap (λ x. get_or b x 0) is)

same_kind : (k j : ℕ) (x y : List ℕ) → 1 ∷ k ∷ x ≡ 1 ∷ j ∷ y → k ≡ j
same_kind k j x y e = ap (λ l. get_or l 1 0) e

module _ (m : Objects) (t u : Tree) (tree : IsTree t) (other : IsTree u) (s : ShowsTree m t) (r : ShowsTree m u) (low : t.next ≤ 2 ^ 63) (small : u.next ≤ 2 ^ 63) where
  node_half : (n : ℕ) (x : Node) → node_of t n ≡ Some x → node_of u n ≡ Some x
  node_half n x e =
      let lt : n < 2 ^ 64 = let h = (tree.numbers n x e).1 in omega arith in
      let found = spelled inode_of (node_of u n) (inode_of x) (sym (r.inodes n lt) ∙ s.inodes n lt ∙ ap (option_map inode_of) e) in
      found.1 ∙ ap Some (by lt x found.0 e found.1 found.2)
    where
      pieces : n < 2 ^ 64 → (v : Tree) → ShowsTree m v → (bytes : List ℕ) → node_of v n ≡ Some (File bytes) → (chunk : ℕ) → chunk < 2 ^ 32 → IsPiece (objects.get m (chunk_key n chunk)) bytes chunk
      pieces lt v w bytes e chunk lc = subst (λ o. ShowsChunk (objects.get m (chunk_key n chunk)) o chunk) e (w.chunks n chunk lt lc)

      by : n < 2 ^ 64 → (x y : Node) → node_of t n ≡ Some x → node_of u n ≡ Some y → inode_of y ≡ inode_of x → y ≡ x
      by lt Dir Dir e f is = refl
      by lt Dir (File b) e f is = let k = same_kind 2 1 _ _ is in absurd (omega arith)
      by lt (File a) Dir e f is = let k = same_kind 1 2 _ _ is in absurd (omega arith)
      by lt (File a) (File b) e f is =
          let la = tree.lengths n a e in
          let lb = other.lengths n b f in
          let long : length b ≡ length a = same64 (length b) (length a) (omega arith) (omega arith) (tails _ _ _ _ (tails _ _ _ _ is)) in
          ap File (same_content m n b a (pieces lt u r b f) (pieces lt t s a e) lb long)

-- the same of both at once
pub shows_once : (m : Objects) (t u : Tree) (k j : ℕ) → IsTree t → IsTree u → Shows m t k → Shows m u j → t.next < 2 ^ 63 → u.next < 2 ^ 63 → k < 2 ^ 63 → j < 2 ^ 63 → (t ≡ u) × (k ≡ j)
shows_once m t u k j tree other s r tn un kn jn =
    let head : super_value k t.next ≡ super_value j u.next = same_Some _ _ (sym s.head ∙ r.head) in
    let numbers = tails _ _ _ _ head in
    let count = same_front k j (be64 t.next) (be64 u.next) (omega arith) (omega arith) numbers in
    let next : t.next ≡ u.next = same64 t.next u.next (omega arith) (omega arith) (same_rest k j _ _ numbers) in
    let places = from_end (λ q. number_at t q ≡ number_at u q) (tree.root ∙ sym other.root) (λ q x same.
    both_halves _ _ (half m t u tree other s.tree r.tree (omega arith) (omega arith) q x same) (half m u t other tree r.tree s.tree (omega arith) (omega arith) q x (sym same))) in
    let nodes = λ (n : ℕ). both_halves (node_of t n) (node_of u n) (node_half m t u tree other s.tree r.tree (omega arith) (omega arith) n) (node_half m u t other tree r.tree s.tree (omega arith) (omega arith) n) in
    let names_same = same_entries place_cmp places_total same_places t.names u.names tree.sorted_names other.sorted_names places in
    let nodes_same = same_entries nat_cmp nat_cmp_total objects.nat_cmp-IsAntisymmetric t.nodes u.nodes tree.sorted_nodes other.sorted_nodes nodes in
    (λ i. record { names = names_same i; nodes = nodes_same i; next = next i }, count)
