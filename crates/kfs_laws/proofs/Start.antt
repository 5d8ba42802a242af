-- A root alone with nothing open.
use Rattle.std.proofs.Common.{◌≡◌, inl, inr, sym, ◌∙◌, ap, [], Some, None}
use Rattle.kfs_model.specs.Tree.{root_alone}
use Rattle.kfs_model.specs.Desk.{empty_desk}
use Rattle.kfs_laws.proofs.Lookups.{decide_number}
use Rattle.kfs_laws.proofs.Desks.{empty_is}
use Rattle.kfs_laws.proofs.RootAlone.{root_others, root_is_tree}
use Rattle.kfs_laws.specs.WholeCalls.{IsWhole}

pub root_is_whole : IsWhole (record { tree = root_alone; desk = empty_desk })
root_is_whole = record {
  tree = root_is_tree;
  desk = empty_is;
  there = λ d it e. absurd (cc);
  files = λ d it e may. absurd (cc);
  reached = λ n x e. elim (decide_number n 1) [
    | inl is ↦ inl ([], ap Some (sym is))
    | inr d ↦ absurd (let t : None ≡ Some x = sym (root_others n d) ∙ e in cc)
  ];
}
