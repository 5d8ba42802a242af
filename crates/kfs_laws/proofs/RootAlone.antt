-- A root alone is a tree.
use Rattle.std.proofs.Common.{◌≡◌, ◌≢◌, ℕ, inl, inr, cond, sym, ◌∙◌, ap, refl, arith, List, [], ◌∷◌, ◌++◌, Some, None}
use Rattle.std.proofs.lemmas.Option.{same_Some}
use Rattle.kfs_model.specs.declared.Node.TheVariants.{Dir, File}
use Rattle.kfs_model.specs.Tree.{Place, Name, root_alone, IsTree, number_at, node_of}
use Rattle.kfs_laws.proofs.Lookups.{decide_place, decide_number, place_apart, number_apart}

root_named : (q : Place) (n : ℕ) → number_at root_alone q ≡ Some n → (q ≡ []) × (n ≡ 1)
root_named q n e = elim (decide_place q []) [
  | inl is ↦ (is, same_Some n 1 (sym e ∙ ap (number_at root_alone) is))
  | inr d ↦ absurd (let t : None ≡ Some n = sym (ap (λ b. cond b (Some 1) None) (place_apart q [] d)) ∙ e in cc)
]

pub not_root : (q : Place) (x : Name) → q ++ x ∷ [] ≢ []
not_root [] x e = cc
not_root (y ∷ q) x e = cc

pub root_below : (q : Place) (x : Name) → number_at root_alone (q ++ x ∷ []) ≡ None
root_below q x = ap (λ b. cond b (Some 1) None) (place_apart (q ++ x ∷ []) [] (not_root q x))

pub root_others : (n : ℕ) → n ≢ 1 → node_of root_alone n ≡ None
root_others n d = ap (λ b. cond b (Some Dir) None) (number_apart n 1 d)

pub root_is_tree : IsTree root_alone
root_is_tree = record {
  root = refl;
  root_dir = refl;
  parents = λ q x n e. absurd (not_root q x (root_named (q ++ x ∷ []) n e).0);
  names = λ q x n e. absurd (not_root q x (root_named (q ++ x ∷ []) n e).0);
  apart = λ q r n e f. (root_named q n e).0 ∙ sym (root_named r n f).0;
  there = λ q n e. (Dir, ap (node_of root_alone) (root_named q n e).1);
  numbers = λ n x e. elim (decide_number n 1) [
    | inl is ↦ (omega arith, omega arith)
    | inr d ↦ absurd (let t : None ≡ Some x = sym (root_others n d) ∙ e in cc)
  ];
  lengths = λ n bytes e. elim (decide_number n 1) [
    | inl is ↦ absurd (let t : Some Dir ≡ Some (File bytes) = sym (ap (node_of root_alone) is) ∙ e in cc)
    | inr d ↦ absurd (let t : None ≡ Some (File bytes) = sym (root_others n d) ∙ e in cc)
  ];
  sorted_names = tt;
  sorted_nodes = tt;
}
