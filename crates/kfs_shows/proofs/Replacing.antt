-- A place moves over another that nothing lies below, whose node stays without a name or goes.
use Rattle.std.proofs.Common.{◌≡◌, ◌≢◌, ℕ, ◌<◌, ◌≤◌, ◌+◌, ◌^◌, inl, inr, sym, ◌∙◌, ap, arith, List, [], ◌∷◌, ◌++◌, length, Option, Some, None}
use Rattle.std.specs.Option.{option_map}
use Rattle.std.specs.FinMap as objects
use Rattle.std.proofs.lemmas.List.{length_push}
use Rattle.std.proofs.lemmas.Option.{same_Some}
use Rattle.kv_device.specs.Objects.{Objects}
use Rattle.kfs_objects.specs.Keys.{entry_key, orphan_key}
use Rattle.kfs_objects.specs.Records.{entry_value, orphan_value}
use Rattle.kfs_model.specs.declared.Node.TheVariants.{Dir}
use Rattle.kfs_model.specs.Tree.{Place, Name, Tree, below, renamed, without_place, IsTree, IsNameless, number_at, node_of}
use Rattle.kfs_laws.proofs.Moves.{below_itself}
use Rattle.kfs_laws.proofs.Renamed.{IsGoal}
use Rattle.kfs_shows.specs.Shows.{ShowsTree}
use Rattle.kfs_shows.specs.Laws.{DropsNamed, MovesOverKept, MovesOverDropped, without_node}
use Rattle.kfs_shows.proofs.Lookups.{key_put, key_other, key_removed, key_kept, decide_bytes, none_some}
use Rattle.kfs_shows.proofs.KeysApart.{kinds, same_parent, same_name}
use Rattle.kfs_shows.proofs.Unnaming as unnaming
use Rattle.kfs_shows.proofs.Dropping as dropping
use Rattle.kfs_shows.proofs.UnnamingDrops as drops
use Rattle.kfs_shows.proofs.Renaming as renaming

module _ (t : Tree) (tree : IsTree t) (up : Place) (was : Name) (place : Place) (name : Name) (p q n r : ℕ)
    (above : number_at t up ≡ Some p) (at : number_at t (up ++ was ∷ []) ≡ Some n) (to : number_at t place ≡ Some q)
    (over : number_at t (place ++ name ∷ []) ≡ Some r) (leaf : (x : Name) → number_at t ((place ++ name ∷ []) ++ x ∷ []) ≡ None)
    (apart : below (up ++ was ∷ []) (place ++ name ∷ []) ≡ None) where
  abbrev old : Place
  old = up ++ was ∷ []

  abbrev new : Place
  new = place ++ name ∷ []

  -- without the name that is replaced
  abbrev bare : Tree
  bare = without_place t new

  -- without its node too
  abbrev less : Tree
  less = without_node bare r

  pub bare_tree : IsTree bare
  bare_tree = unnaming.still_tree t tree place name q r to over leaf

  pub bare_nameless : IsNameless bare r
  bare_nameless = unnaming.nameless t tree place name q r to over leaf

  number_bare : (s : Place) → s ≢ new → number_at bare s ≡ number_at t s
  number_bare s d = unnaming.number_old t tree place name q r to over leaf s d

  pub up_bare : number_at bare up ≡ Some p
  up_bare = number_bare up (λ e. none_some _ n (leaf was) (ap (λ s. number_at t (s ++ was ∷ [])) (sym e) ∙ at)) ∙ above

  old_new : old ≢ new
  old_new e = none_some (below old new) [] apart (ap (below old) (sym e) ∙ below_itself old)

  pub at_bare : number_at bare old ≡ Some n
  at_bare = number_bare old old_new ∙ at

  place_new : place ≢ new
  place_new e = let h : length place + 1 ≡ length place = sym (length_push place name) ∙ sym (ap length e) in absurd (omega arith)

  to_bare : number_at bare place ≡ Some q
  to_bare = number_bare place place_new ∙ to

  pub to_dir : node_of t q ≡ Some Dir
  to_dir = let m = tree.parents place name r over in ap (node_of t) (same_Some q m.0 (sym to ∙ m.1)) ∙ m.2

  pub bare_goal : IsGoal bare old place name q
  bare_goal = record { at = to_bare; dir = to_dir; free = unnaming.number_gone t tree place name q r to over leaf; named = tree.names place name r over; apart = apart }

  less_tree : IsTree less
  less_tree = dropping.still_tree bare bare_tree r bare_nameless

  less_goal : IsGoal less old place name q
  less_goal = record {
    at = to_bare;
    dir = dropping.node_old bare bare_tree r bare_nameless q (λ e. bare_nameless place (to_bare ∙ ap Some e)) ∙ to_dir;
    free = unnaming.number_gone t tree place name q r to over leaf;
    named = tree.names place name r over;
    apart = apart;
  }

  pub kept_tree : IsTree (renamed bare old new)
  kept_tree = renaming.still_tree bare bare_tree up was place name p q n up_bare at_bare bare_goal

  pub kept_nameless : IsNameless (renamed bare old new) r
  kept_nameless s e = let f = renaming.named_before bare bare_tree up was place name p q n up_bare at_bare bare_goal s r e in bare_nameless f.0 f.1

  pub dropped_tree : IsTree (renamed less old new)
  dropped_tree = renaming.still_tree less less_tree up was place name p q n up_bare at_bare less_goal

  module _ (m after : Objects) (shows : ShowsTree m t) (reach : t.next ≤ 2 ^ 64) where
    named_low : (s : Place) (k : ℕ) → number_at t s ≡ Some k → k < 2 ^ 64
    named_low s k e = let x = tree.there s k e in let h = (tree.numbers k x.0 x.1).1 in omega arith

    pub keys_apart : entry_key q name ≢ entry_key p was
    keys_apart e =
        let num = same_parent q p name was (named_low place q to) (named_low up p above) e in
        let same = tree.apart place up q to (above ∙ ap Some (sym num)) in
        let both : new ≡ old = λ i. same i ++ same_name q p name was e i ∷ [] in
        old_new (sym both)

    -- the entry of the old place, before
    at_entry : objects.get m (entry_key p was) ≡ Some (entry_value n)
    at_entry = shows.entries up p was above (tree.names up was n at).short ∙ ap (option_map entry_value) at

    -- the replaced name without its node's objects or with an orphan object, the old place's entry still there
    abbrev between : Objects
    between = objects.insert (objects.remove after (entry_key q name)) (entry_key p was) (entry_value n)

    between_old : objects.get between (entry_key p was) ≡ Some (entry_value n)
    between_old = key_put (objects.remove after (entry_key q name)) (entry_key p was) (entry_value n)

    between_new : objects.get between (entry_key q name) ≡ None
    between_new = key_other (objects.remove after (entry_key q name)) (entry_key p was) (entry_value n) (entry_key q name) keys_apart ∙ key_removed after (entry_key q name)

    between_same : (key : List ℕ) → key ≢ entry_key p was → key ≢ entry_key q name → objects.get after key ≡ objects.get between key
    between_same key d e = sym (key_other (objects.remove after (entry_key q name)) (entry_key p was) (entry_value n) key d ∙ key_kept after (entry_key q name) key e)

    module _ (moves : MovesOverDropped m after p was q name n r) where
      drops_named : DropsNamed m between q name r
      drops_named = record {
        entry = between_new;
        inode = sym (between_same _ (kinds 105 101 _ _ (λ e. omega arith)) (kinds 105 101 _ _ (λ e. omega arith))) ∙ moves.inode;
        chunks = λ c lc. sym (between_same _ (kinds 100 101 _ _ (λ e. omega arith)) (kinds 100 101 _ _ (λ e. omega arith))) ∙ moves.chunks c lc;
        others = λ key d e f. elim (decide_bytes key (entry_key p was)) [
          | inl is ↦ ap (objects.get between) is ∙ between_old ∙ sym (ap (objects.get m) is ∙ at_entry)
          | inr g ↦ sym (between_same key g d) ∙ moves.others key g d e f
        ];
      }

      pub dropped_shows : ShowsTree after (renamed less old new)
      dropped_shows = renaming.still_shows less less_tree up was place name p q n up_bare at_bare less_goal between after
          (drops.still_shows t tree place name q r to over leaf m between shows reach drops_named) reach
          (record { gone = moves.gone; new = moves.new; others = between_same })

    module _ (moves : MovesOverKept m after p was q name n r) where
      -- as the law of taking a name away leaves them
      abbrev unnamed : Objects
      unnamed = objects.insert (objects.remove m (entry_key q name)) (orphan_key r) orphan_value

      unnamed_same : (key : List ℕ) → key ≢ entry_key p was → key ≢ entry_key q name → objects.get after key ≡ objects.get unnamed key
      unnamed_same key d e = elim (decide_bytes key (orphan_key r)) [
        | inl is ↦ ap (objects.get after) is ∙ moves.orphan ∙ sym (ap (objects.get unnamed) is ∙ key_put (objects.remove m (entry_key q name)) (orphan_key r) orphan_value)
        | inr g ↦ moves.others key d e g ∙ sym (key_other (objects.remove m (entry_key q name)) (orphan_key r) orphan_value key g ∙ key_kept m (entry_key q name) key e)
      ]

      pub kept_shows : ShowsTree after (renamed bare old new)
      kept_shows = renaming.still_shows bare bare_tree up was place name p q n up_bare at_bare bare_goal unnamed after
          (unnaming.still_shows t tree place name q r to over leaf m shows reach) reach
          (record { gone = moves.gone; new = moves.new; others = unnamed_same })
