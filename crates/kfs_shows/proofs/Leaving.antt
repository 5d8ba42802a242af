-- What the calls leave that take names away: the objects show the swept tree.
use Rattle.std.proofs.Common.{◌≡◌, ℕ, ◌≤◌, ◌^◌, true, false, inl, inr, sym, ◌∙◌, ap, subst, List, [], ◌∷◌, ◌++◌, Some, None}
use Rattle.std.specs.Cmp.Lexicographic.{nat_list_cmp_total}
use Rattle.std.specs.FinMap as objects
use Rattle.kv_device.specs.Objects.{Objects}
use Rattle.kfs_objects.specs.Keys.{entry_key, orphan_key}
use Rattle.kfs_objects.specs.Records.{orphan_value}
use Rattle.kfs_model.specs.declared.Node.{Node}
use Rattle.kfs_model.specs.declared.Node.TheVariants.{Dir}
use Rattle.kfs_model.specs.Tree.{Place, Name, Tree, place_cmp, below, without_place, renamed, chunks_of, IsTree, IsName, IsNameless, number_at, node_of}
use Rattle.kfs_model.specs.Desk.{is_open}
use Rattle.kfs_model.specs.Step.{World, swept}
use Rattle.kfs_laws.proofs.Lookups.{same_entries}
use Rattle.kfs_laws.proofs.Renamed.{IsGoal}
use Rattle.std.specs.FinMap.Entries.{is_sorted-where_key}
use Rattle.kfs_laws.proofs.Unnaming as unnamed
use Rattle.kfs_shows.specs.Shows.{ShowsTree}
use Rattle.kfs_shows.specs.Laws.{DropsNamed, MovesEntry, MovesOverKept, MovesOverDropped, without_node}
use Rattle.kfs_shows.specs.Sweeping.{AllOpen, OpenBut, ShowsWorld, Frees, KeepsUnnamed, keys_of, with_tree}
use Rattle.kfs_shows.proofs.Lookups.{key_put, key_other, key_removed, key_kept, same_bytes, same_places, places_total, decide_number, decide_place, decide_bytes}
use Rattle.kfs_shows.proofs.Unnaming as unnaming
use Rattle.kfs_shows.proofs.UnnamingDrops as drops
use Rattle.kfs_shows.proofs.Dropping as dropping
use Rattle.kfs_shows.proofs.Renaming as renaming
use Rattle.kfs_shows.proofs.Replacing as replacing
use Rattle.kfs_shows.proofs.Sweeping.{sweeps_none, sweeps_one, frees_nothing, frees_node}

-- where each nameless node but one is open and that one too, each is
open_too : (w : World) (n : ℕ) → OpenBut w n → is_open w.desk n ≡ true → AllOpen w
open_too w n but opened k x e none = elim (decide_number k n) [
  | inl is ↦ ap (is_open w.desk) is ∙ opened
  | inr d ↦ but k x d e none
]

-- nothing goes
pub leaves_all : (m : Objects) (w : World) → IsTree w.tree → ShowsTree m w.tree → AllOpen w → ShowsWorld m (swept w) × Frees w.tree (swept w).tree 0 0
leaves_all m w tree shows opened =
    let e = sweeps_none w tree opened in
    subst (λ u. ShowsWorld m (with_tree w u) × Frees w.tree u 0 0) (sym e) (record { tree = tree; shows = shows; opened = opened }, frees_nothing w.tree)

-- one node goes
pub leaves_less : (m : Objects) (w : World) → IsTree w.tree → (n : ℕ) (node : Node) → node_of w.tree n ≡ Some node → IsNameless w.tree n → OpenBut w n → is_open w.desk n ≡ false → ShowsTree m (without_node w.tree n)
    → ShowsWorld m (swept w) × Frees w.tree (swept w).tree (keys_of node) (chunks_of node)
leaves_less m w tree n node there none but shut shows =
    let e = sweeps_one w tree n but none shut in
    subst (λ u. ShowsWorld m (with_tree w u) × Frees w.tree u (keys_of node) (chunks_of node)) (sym e) (
      record {
        tree = dropping.still_tree w.tree tree n none;
        shows = shows;
        opened = λ k x a b. let y = dropping.node_before w.tree tree n none k x a in but k x y.0 y.1 b;
      },
      frees_node w.tree tree n node there,
    )

module _ (m after : Objects) (w : World) (sh : ShowsWorld m w) (reach : w.tree.next ≤ 2 ^ 64) (place : Place) (name : Name) (p n : ℕ) (node : Node)
    (up : number_at w.tree place ≡ Some p) (at : number_at w.tree (place ++ name ∷ []) ≡ Some n) (there : node_of w.tree n ≡ Some node) (leaf : (x : Name) → number_at w.tree ((place ++ name ∷ []) ++ x ∷ []) ≡ None) where
  abbrev bare : Tree
  bare = without_place w.tree (place ++ name ∷ [])

  bare_tree : IsTree bare
  bare_tree = unnaming.still_tree w.tree sh.tree place name p n up at leaf

  nameless : IsNameless bare n
  nameless = unnaming.nameless w.tree sh.tree place name p n up at leaf

  open_but : OpenBut (with_tree w bare) n
  open_but k x d e none = sh.opened k x e (unnaming.nameless_before w.tree sh.tree place name p n up at leaf k d none)

  shown_kept : KeepsUnnamed m after p name n → ShowsTree after bare
  shown_kept keeps = subst (λ o. ShowsTree o bare) (objects.same_map nat_list_cmp_total same_bytes between after same) (unnaming.still_shows w.tree sh.tree place name p n up at leaf m sh.shows reach)
    where
      less : Objects
      less = objects.remove m (entry_key p name)

      between : Objects
      between = objects.insert (objects.remove m (entry_key p name)) (orphan_key n) orphan_value

      same : (key : List ℕ) → objects.get between key ≡ objects.get after key
      same key = elim (decide_bytes key (orphan_key n)) [
        | inl is ↦ ap (objects.get between) is ∙ key_put less (orphan_key n) orphan_value ∙ sym (ap (objects.get after) is ∙ keeps.orphan)
        | inr d ↦ key_other less (orphan_key n) orphan_value key d ∙ elim (decide_bytes key (entry_key p name)) [
          | inl is ↦ ap (objects.get less) is ∙ key_removed m (entry_key p name) ∙ sym (ap (objects.get after) is ∙ keeps.entry)
          | inr e ↦ key_kept m (entry_key p name) key e ∙ sym (keeps.others key e d)
        ]
      ]

  pub unlinked_kept : is_open w.desk n ≡ true → KeepsUnnamed m after p name n → ShowsWorld after (swept (with_tree w bare)) × Frees w.tree (swept (with_tree w bare)).tree 0 0
  unlinked_kept opened keeps =
      let f = leaves_all after (with_tree w bare) bare_tree (shown_kept keeps) (open_too (with_tree w bare) n open_but opened) in
      (f.0, record { keys = f.1.keys; pages = f.1.pages })

  pub unlinked_dropped : is_open w.desk n ≡ false → DropsNamed m after p name n → ShowsWorld after (swept (with_tree w bare)) × Frees w.tree (swept (with_tree w bare)).tree (keys_of node) (chunks_of node)
  unlinked_dropped shut gone =
      let f = leaves_less after (with_tree w bare) bare_tree n node there nameless open_but shut (drops.still_shows w.tree sh.tree place name p n up at leaf m after sh.shows reach gone) in
      (f.0, record { keys = f.1.keys; pages = f.1.pages })

-- a place that names nothing loses no name
pub without_none : (t : Tree) → IsTree t → (q : Place) → number_at t q ≡ None → without_place t q ≡ t
without_none t tree q none =
    let e = same_entries places_total same_places (without_place t q).names t.names (is_sorted-where_key place_cmp (unnamed.stays q) t.names tree.sorted_names) tree.sorted_names (λ r. elim (decide_place r q) [
      | inl is ↦ ap (number_at (without_place t q)) is ∙ unnamed.number_gone t q ∙ sym (ap (number_at t) is ∙ none)
      | inr d ↦ unnamed.number_old t q r d
    ]) in
    λ i. record { names = e i; nodes = t.nodes; next = t.next }

module _ (m after : Objects) (w : World) (sh : ShowsWorld m w) (reach : w.tree.next ≤ 2 ^ 64) (above : Place) (was : Name) (place : Place) (name : Name) (p q n : ℕ)
    (up : number_at w.tree above ≡ Some p) (at : number_at w.tree (above ++ was ∷ []) ≡ Some n) (to : number_at w.tree place ≡ Some q) (apart : below (above ++ was ∷ []) (place ++ name ∷ []) ≡ None) where
  abbrev old : Place
  old = above ++ was ∷ []

  abbrev new : Place
  new = place ++ name ∷ []

  pub moved : node_of w.tree q ≡ Some Dir → number_at w.tree new ≡ None → IsName name → MovesEntry m after p was q name n
      → ShowsWorld after (swept (with_tree w (renamed (without_place w.tree new) old new))) × Frees w.tree (swept (with_tree w (renamed (without_place w.tree new) old new))).tree 0 0
  moved dir free named moves =
      let spot : IsGoal w.tree old place name q = record { at = to; dir = dir; free = free; named = named; apart = apart } in
      let u = renamed w.tree old new in
      let f = leaves_all after (with_tree w u) (renaming.still_tree w.tree sh.tree above was place name p q n up at spot)
      (renaming.still_shows w.tree sh.tree above was place name p q n up at spot m after sh.shows reach moves)
      (λ k x e none. sh.opened k x e (renaming.nameless_before w.tree sh.tree above was place name p q n up at spot k none)) in
      subst (λ v. ShowsWorld after (swept (with_tree w (renamed v old new))) × Frees w.tree (swept (with_tree w (renamed v old new))).tree 0 0) (sym (without_none w.tree sh.tree new free))
      (f.0, record { keys = f.1.keys; pages = f.1.pages })

  module _ (r : ℕ) (node : Node) (over : number_at w.tree new ≡ Some r) (there : node_of w.tree r ≡ Some node) (leaf : (x : Name) → number_at w.tree (new ++ x ∷ []) ≡ None) where
    abbrev gone : Tree
    gone = without_place w.tree new

    abbrev now : Tree
    now = renamed gone old new

    now_tree : IsTree now
    now_tree = replacing.kept_tree w.tree sh.tree above was place name p q n r up at to over leaf apart

    now_nameless : IsNameless now r
    now_nameless = replacing.kept_nameless w.tree sh.tree above was place name p q n r up at to over leaf apart

    now_open : OpenBut (with_tree w now) r
    now_open k x d e none = sh.opened k x e (unnaming.nameless_before w.tree sh.tree place name q r to over leaf k d
        (renaming.nameless_before gone (replacing.bare_tree w.tree sh.tree above was place name p q n r up at to over leaf apart) above was place name p q n
        (replacing.up_bare w.tree sh.tree above was place name p q n r up at to over leaf apart)
        (replacing.at_bare w.tree sh.tree above was place name p q n r up at to over leaf apart)
        (replacing.bare_goal w.tree sh.tree above was place name p q n r up at to over leaf apart) k none))

    pub moved_kept : is_open w.desk r ≡ true → MovesOverKept m after p was q name n r → ShowsWorld after (swept (with_tree w now)) × Frees w.tree (swept (with_tree w now)).tree 0 0
    moved_kept opened moves =
        let f = leaves_all after (with_tree w now) now_tree (replacing.kept_shows w.tree sh.tree above was place name p q n r up at to over leaf apart m after sh.shows reach moves) (open_too (with_tree w now) r now_open opened) in
        (f.0, record { keys = f.1.keys; pages = f.1.pages })

    pub moved_dropped : is_open w.desk r ≡ false → MovesOverDropped m after p was q name n r → ShowsWorld after (swept (with_tree w now)) × Frees w.tree (swept (with_tree w now)).tree (keys_of node) (chunks_of node)
    moved_dropped shut moves =
        let f = leaves_less after (with_tree w now) now_tree r node there now_nameless now_open shut (replacing.dropped_shows w.tree sh.tree above was place name p q n r up at to over leaf apart m after sh.shows reach moves) in
        (f.0, record { keys = f.1.keys; pages = f.1.pages })
