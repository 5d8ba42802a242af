-- Which nodes have a name after a name goes or moves, and that open nodes stay.
use Rattle.std.proofs.Common.{◌≡◌, ◌≢◌, ℕ, ◌||◌, true, false, cond, Bool, refl, sym, ◌∙◌, ap, [], ◌∷◌, ◌++◌, Some, None}
use Rattle.std.specs.Ordering.{nat_cmp}
use Rattle.std.specs.FinMap.{nat_cmp-IsAntisymmetric}
use Rattle.std.specs.FinMap.Entries.{find-where_key}
use Rattle.kfs_model.specs.declared.Node.TheVariants.{Dir}
use Rattle.kfs_model.specs.Tree.{Place, Name, Tree, below, without_place, renamed, is_named, IsTree, IsName, IsNameless, number_at, node_of}
use Rattle.kfs_model.specs.Desk.{is_open}
use Rattle.kfs_model.specs.Step.{World, swept}
use Rattle.kfs_laws.proofs.Renamed.{IsGoal}
use Rattle.kfs_shows.proofs.Sweeping.{nameless_test, test_nameless}
use Rattle.kfs_shows.proofs.Leaving.{without_none}
use Rattle.kfs_shows.proofs.Unnaming as unnaming
use Rattle.kfs_shows.proofs.Renaming as renaming
use Rattle.kfs_shows.proofs.Replacing as replacing

or_true : (a b : Bool) → b ≡ true → (a || b) ≡ true
or_true true b e = refl
or_true false b e = e

-- what is open stays
pub swept_open : (w : World) (k : ℕ) → is_open w.desk k ≡ true → node_of (swept w).tree k ≡ node_of w.tree k
swept_open w k opened =
    find-where_key nat_cmp (λ j. is_named w.tree j || is_open w.desk j) k (λ x e. ap (λ j. is_named w.tree j || is_open w.desk j) (sym (nat_cmp-IsAntisymmetric k x e))) w.tree.nodes
    ∙ ap (λ b. cond b (node_of w.tree k) None) (or_true (is_named w.tree k) (is_open w.desk k) opened)

-- the same nodes have a name where the same have none
same_test : (t u : Tree) → IsTree t → IsTree u → (k : ℕ) → (IsNameless t k → IsNameless u k) → (IsNameless u k → IsNameless t k) → is_named u k ≡ is_named t k
same_test t u tree now k there back = by (is_named u k) (is_named t k) refl refl
  where
    by : (a b : Bool) → is_named u k ≡ a → is_named t k ≡ b → a ≡ b
    by true true e f = refl
    by false false e f = refl
    by true false e f = let bad : true ≡ false = sym e ∙ nameless_test u now k (there (test_nameless t k f)) in absurd (cc)
    by false true e f = let bad : true ≡ false = sym f ∙ nameless_test t tree k (back (test_nameless u k e)) in absurd (cc)

module _ (t : Tree) (tree : IsTree t) (place : Place) (name : Name) (p n : ℕ) (up : number_at t place ≡ Some p) (at : number_at t (place ++ name ∷ []) ≡ Some n) (leaf : (x : Name) → number_at t ((place ++ name ∷ []) ++ x ∷ []) ≡ None) where
  abbrev bare : Tree
  bare = without_place t (place ++ name ∷ [])

  -- the others are named as before
  pub unnamed_others : (k : ℕ) → k ≢ n → is_named (without_place t (place ++ name ∷ [])) k ≡ is_named t k
  unnamed_others k d = same_test t bare tree (unnaming.still_tree t tree place name p n up at leaf) k
      (λ none q e. none q (unnaming.named_before t tree place name p n up at leaf q k e).1)
      (unnaming.nameless_before t tree place name p n up at leaf k d)

  pub unnamed_one : is_named (without_place t (place ++ name ∷ [])) n ≡ false
  unnamed_one = nameless_test bare (unnaming.still_tree t tree place name p n up at leaf) n (unnaming.nameless t tree place name p n up at leaf)

module _ (t : Tree) (tree : IsTree t) (above : Place) (was : Name) (place : Place) (name : Name) (p q n : ℕ)
    (up : number_at t above ≡ Some p) (at : number_at t (above ++ was ∷ []) ≡ Some n) (to : number_at t place ≡ Some q) (apart : below (above ++ was ∷ []) (place ++ name ∷ []) ≡ None) where
  abbrev old : Place
  old = above ++ was ∷ []

  abbrev new : Place
  new = place ++ name ∷ []

  -- a move to a free place leaves each name's node named
  pub moved_named : node_of t q ≡ Some Dir → number_at t (place ++ name ∷ []) ≡ None → IsName name → (k : ℕ) → is_named (renamed (without_place t (place ++ name ∷ [])) (above ++ was ∷ []) (place ++ name ∷ [])) k ≡ is_named t k
  moved_named dir free named k =
      let spot : IsGoal t old place name q = record { at = to; dir = dir; free = free; named = named; apart = apart } in
      ap (λ u. is_named (renamed u old new) k) (without_none t tree new free)
      ∙ same_test t (renamed t old new) tree (renaming.still_tree t tree above was place name p q n up at spot) k
      (λ none s e. let f = renaming.named_before t tree above was place name p q n up at spot s k e in none f.0 f.1)
      (renaming.nameless_before t tree above was place name p q n up at spot k)

  module _ (r : ℕ) (over : number_at t (place ++ name ∷ []) ≡ Some r) (leaf : (x : Name) → number_at t ((place ++ name ∷ []) ++ x ∷ []) ≡ None) where
    abbrev gone : Tree
    gone = without_place t new

    abbrev now : Tree
    now = renamed gone old new

    gone_tree : IsTree (without_place t (place ++ name ∷ []))
    gone_tree = replacing.bare_tree t tree above was place name p q n r up at to over leaf apart

    now_tree : IsTree (renamed (without_place t (place ++ name ∷ [])) (above ++ was ∷ []) (place ++ name ∷ []))
    now_tree = replacing.kept_tree t tree above was place name p q n r up at to over leaf apart

    -- a move over a name leaves each other node named, and not the one that it replaces
    pub moved_over_others : (k : ℕ) → k ≢ r → is_named (renamed (without_place t (place ++ name ∷ [])) (above ++ was ∷ []) (place ++ name ∷ [])) k ≡ is_named t k
    moved_over_others k d =
        let at_up = replacing.up_bare t tree above was place name p q n r up at to over leaf apart in
        let at_old = replacing.at_bare t tree above was place name p q n r up at to over leaf apart in
        let goal = replacing.bare_goal t tree above was place name p q n r up at to over leaf apart in
        same_test t now tree now_tree k
        (λ none s e.
        let f = renaming.named_before gone gone_tree above was place name p q n at_up at_old goal s k e in
        none f.0 (unnaming.named_before t tree place name q r to over leaf f.0 k f.1).1)
        (λ none. unnaming.nameless_before t tree place name q r to over leaf k d (renaming.nameless_before gone gone_tree above was place name p q n at_up at_old goal k none))

    pub moved_over_one : is_named (renamed (without_place t (place ++ name ∷ [])) (above ++ was ∷ []) (place ++ name ∷ [])) r ≡ false
    moved_over_one = nameless_test now now_tree r (replacing.kept_nameless t tree above was place name p q n r up at to over leaf apart)
