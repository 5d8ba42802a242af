-- Which nodes have a name after an entry goes or moves.
use Rattle.std.proofs.Common.{◌≡◌, ◌≢◌, ℕ, false, sym, ◌∙◌, ap, subst, [], ◌∷◌, ◌++◌, Option, Some, None}
use Rattle.kfs_model.specs.Tree.{Place, Name, Tree, below, without_place, renamed, is_named, IsTree, number_at}
use Rattle.kfs_shows.proofs.StillNamed.{unnamed_others, unnamed_one, moved_named, moved_over_others, moved_over_one}
use Rattle.kfs_core.specs.Removing.{Leaf}
use Rattle.kfs_core.specs.Renaming.{Move}
use Rattle.kfs_core.proofs.RemovingJudges.{IsLeaf}
use Rattle.kfs_core.proofs.RenamingJudges.{IsMove, IsOver}

module _ (t : Tree) (tree : IsTree t) (place : Place) (leaf : Leaf) (is : IsLeaf t place leaf) where
  at : number_at t (is.up ++ leaf.name ∷ []) ≡ Some leaf.node
  at = ap (number_at t) (sym is.is) ∙ is.at

  leafless : (x : Name) → number_at t ((is.up ++ leaf.name ∷ []) ++ x ∷ []) ≡ None
  leafless x = ap (λ q. number_at t (q ++ x ∷ [])) (sym is.is) ∙ is.empty x

  -- without a name each other node is named as before
  pub leaf_others : (k : ℕ) → k ≢ leaf.node → is_named (without_place t place) k ≡ is_named t k
  leaf_others k d = ap (λ q. is_named (without_place t q) k) is.is ∙ unnamed_others t tree is.up leaf.name leaf.parent leaf.node is.above at leafless k d

  -- and its node no more
  pub leaf_nameless : is_named (without_place t place) leaf.node ≡ false
  leaf_nameless = ap (λ q. is_named (without_place t q) leaf.node) is.is ∙ unnamed_one t tree is.up leaf.name leaf.parent leaf.node is.above at leafless

-- whether a node is the one that is replaced
abbrev pub IsReplaced : Option Leaf → ℕ → Type 0
IsReplaced None k = ⊥
IsReplaced (Some leaf) k = k ≡ leaf.node

module _ (t : Tree) (tree : IsTree t) (p q : Place) (move : Move) (is : IsMove t p q move) where
  found : number_at t (is.up ++ move.name ∷ []) ≡ Some move.node
  found = ap (number_at t) (sym is.is) ∙ is.at

  apart : below (is.up ++ move.name ∷ []) (is.to ++ move.new_name ∷ []) ≡ None
  apart = (λ i. below (sym is.is i) (sym is.goal i)) ∙ is.apart

  places : (k : ℕ) → is_named (renamed (without_place t q) p q) k ≡ is_named (renamed (without_place t (is.to ++ move.new_name ∷ [])) (is.up ++ move.name ∷ []) (is.to ++ move.new_name ∷ [])) k
  places k = λ i. is_named (renamed (without_place t (is.goal i)) (is.is i) (is.goal i)) k

  -- after a move each node that isn't replaced is named as before
  pub move_others : (k : ℕ) → (IsReplaced move.replaced k → ⊥) → is_named (renamed (without_place t q) p q) k ≡ is_named t k
  move_others k d = places k ∙ by move.replaced is.over d
    where
      by : (o : Option Leaf) → IsOver t q move.new_parent move.new_name o → (IsReplaced o k → ⊥) → is_named (renamed (without_place t (is.to ++ move.new_name ∷ [])) (is.up ++ move.name ∷ []) (is.to ++ move.new_name ∷ [])) k ≡ is_named t k
      by None free d = moved_named t tree is.up move.name is.to move.new_name move.parent move.new_parent move.node is.above found is.under apart is.dir (ap (number_at t) (sym is.goal) ∙ free) is.named k
      by (Some leaf) over d = moved_over_others t tree is.up move.name is.to move.new_name move.parent move.new_parent move.node is.above found is.under apart leaf.node
          (ap (number_at t) (sym is.goal) ∙ over.0.at) (λ x. ap (λ s. number_at t (s ++ x ∷ [])) (sym is.goal) ∙ over.0.empty x) k d

  -- and the one that is replaced no more
  pub move_nameless : (leaf : Leaf) → move.replaced ≡ Some leaf → is_named (renamed (without_place t q) p q) leaf.node ≡ false
  move_nameless leaf e =
      let over = subst (IsOver t q move.new_parent move.new_name) e is.over in
      places leaf.node ∙ moved_over_one t tree is.up move.name is.to move.new_name move.parent move.new_parent move.node is.above found is.under apart leaf.node
      (ap (number_at t) (sym is.goal) ∙ over.0.at) (λ x. ap (λ s. number_at t (s ++ x ∷ [])) (sym is.goal) ∙ over.0.empty x)
