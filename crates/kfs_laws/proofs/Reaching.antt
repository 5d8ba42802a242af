-- Each node is named or open after each kind of change.
use Rattle.std.proofs.Common.{◌≡◌, ℕ, ◌==◌, ◌||◌, inl, inr, T, refl, sym, ◌∙◌, ap, Some, None}
use Rattle.std.specs.Ordering.{nat_cmp}
use Rattle.std.specs.Cmp.{nat_cmp_total}
use Rattle.std.specs.FinMap.{nat_cmp-IsAntisymmetric, find, put, is_sorted}
use Rattle.std.proofs.lemmas.Bool.{or_cases}
use Rattle.std.proofs.lemmas.Option.{same_Some}
use Rattle.kfs_model.specs.declared.Description.{Description}
use Rattle.kfs_model.specs.declared.Node.{Node}
use Rattle.kfs_model.specs.Tree.{Tree, Place, place_cmp, with_new, is_named, number_at, node_of}
use Rattle.kfs_model.specs.Desk.{Desk, is_open}
use Rattle.kfs_model.specs.Step.{World, swept}
use Rattle.kfs_laws.proofs.Keeping.{swept_node}
use Rattle.kfs_laws.proofs.Lookups.{same_places, places_total, place_put, place_other, number_put, number_other, decide_number, none_some, passed, any_found, number_found, same_number}
use Rattle.kfs_laws.specs.WholeCalls.{IsReached}

abbrev pub Reached : Tree → Desk → Type 0
Reached t desk = (n : ℕ) (node : Node) → node_of t n ≡ Some node → IsReached (record { tree = t; desk = desk }) n

-- ---- a node more, or another content

pub reached_new : (t : Tree) (desk after : Desk) (place : Place) (node : Node) → number_at t place ≡ None
    → ((d : ℕ) (it : Description) → find nat_cmp d desk.descriptions ≡ Some it → (e : ℕ) × (new : Description) × (find nat_cmp e after.descriptions ≡ Some new) × (new.node ≡ it.node))
    → Reached t desk → Reached (with_new t place node) after
reached_new t desk after place node free more reached n x e = elim (decide_number n t.next) [
  | inl is ↦ inl (place, place_put place t.next t.names ∙ ap Some (sym is))
  | inr other ↦ elim (reached n x (sym (number_other n t.next node t.nodes other) ∙ e)) [
    | inl (q, at) ↦ inl (q, place_other q place t.next t.names (λ same. none_some (number_at t place) n free (ap (number_at t) (sym same) ∙ at)) ∙ at)
    | inr (d, it, f, is) ↦ let h = more d it f in inr (h.0, h.1, h.2, h.3 ∙ is)
  ]
]

-- the same nodes and names are there
pub reached_same : (t u : Tree) (desk after : Desk) → u.names ≡ t.names → ((n : ℕ) (x : Node) → node_of u n ≡ Some x → (y : Node) × (node_of t n ≡ Some y))
    → ((d : ℕ) (it : Description) → find nat_cmp d desk.descriptions ≡ Some it → (e : ℕ) × (new : Description) × (find nat_cmp e after.descriptions ≡ Some new) × (new.node ≡ it.node))
    → Reached t desk → Reached u after
reached_same t u desk after names nodes more reached n x e =
    let y = nodes n x e in
    elim (reached n y.0 y.1) [
      | inl (q, at) ↦ inl (q, ap (find place_cmp q) names ∙ at)
      | inr (d, it, f, is) ↦ let h = more d it f in inr (h.0, h.1, h.2, h.3 ∙ is)
    ]

-- ---- the descriptions

-- a new one beside the others
pub more_new : (desk : Desk) (d : ℕ) (new : Description) → find nat_cmp d desk.descriptions ≡ None → (e : ℕ) (it : Description) → find nat_cmp e desk.descriptions ≡ Some it
    → (f : ℕ) × (x : Description) × (find nat_cmp f (put nat_cmp d new desk.descriptions) ≡ Some x) × (x.node ≡ it.node)
more_new desk d new free e it f = (e, it, number_other e d new desk.descriptions (λ same. none_some (find nat_cmp d desk.descriptions) it free (ap (λ n. find nat_cmp n desk.descriptions) (sym same) ∙ f)) ∙ f, refl)

-- one that is there, of the same node
pub more_moved : (desk : Desk) (d : ℕ) (was new : Description) → find nat_cmp d desk.descriptions ≡ Some was → new.node ≡ was.node → (e : ℕ) (it : Description) → find nat_cmp e desk.descriptions ≡ Some it
    → (f : ℕ) × (x : Description) × (find nat_cmp f (put nat_cmp d new desk.descriptions) ≡ Some x) × (x.node ≡ it.node)
more_moved desk d was new there node e it f = elim (decide_number e d) [
  | inl same ↦
      let one : was ≡ it = same_Some was it (sym there ∙ ap (λ n. find nat_cmp n desk.descriptions) (sym same) ∙ f) in
      (d, new, number_put d new desk.descriptions, node ∙ ap (λ (x : Description). x.node) one)
  | inr other ↦ (e, it, number_other e d new desk.descriptions other ∙ f, refl)
]

-- ---- what nothing names goes

pub reached_swept : (w : World) → T (is_sorted place_cmp w.tree.names) → T (is_sorted nat_cmp w.desk.descriptions) → Reached (swept w).tree (swept w).desk
reached_swept w names descriptions n x e =
    let test = (passed (is_named w.tree n || is_open w.desk n) (node_of w.tree n) x (sym (swept_node w n) ∙ e)).0 in
    elim (or_cases (is_named w.tree n) (is_open w.desk n) test) [
      | inl named ↦ inl (number_found place_cmp places_total same_places n w.tree.names names named)
      | inr opened ↦ let h = any_found nat_cmp nat_cmp_total nat_cmp-IsAntisymmetric (λ (it : Description). it.node == n) w.desk.descriptions descriptions opened in inr (h.0, h.1, h.2, same_number h.1.node n h.3)
    ]
