-- The walk over the objects is the walk over the tree that they show.
use Rattle.std.proofs.Common.{◌≡◌, ◌≢◌, ℕ, ◌<◌, ◌+◌, ◌-◌, ◌^◌, ◌==◌, ◌⊎◌, inl, inr, true, false, cond, Bool, refl, sym, ◌∙◌, ap, subst, arith, List, [], ◌∷◌, ◌++◌, length, take, get_or, Option, Some, None, Result, Ok, Err}
use Rattle.std.specs.List.{AllByRecursion}
use Rattle.std.specs.Option.{option_map, option_and_then}
use Rattle.std.proofs.lemmas.Bool.Decides.{nat_tests}
use Rattle.std.proofs.lemmas.List.{length_push, take-take, take-append-le, take_all, length-take-le, get_or-take, get_or_append_left, get_or_push}
use Rattle.kv_device.specs.Objects.{Objects}
use Rattle.kfs_objects.specs.Keys.{IsNamed}
use Rattle.kfs_objects.specs.Records.{read_inode, read_entry, entry_value}
use Rattle.kfs_objects.proofs.RecordLaws.{read_entry_value}
use Rattle.kfs_path.specs.declared.call.Errno.{Errno}
use Rattle.kfs_model.specs.declared.Node.{Node}
use Rattle.kfs_model.specs.declared.Node.TheVariants.{Dir, File}
use Rattle.kfs_model.specs.Ladder.{◌>>=◌}
use Rattle.kfs_model.specs.Tree.{Place, Name, Tree, parent, further, entered, entry_at, walk_from, is_dot, is_dot_dot, IsName, number_at, node_of}
use Rattle.std.specs.Str.{bytes_eq}
use Rattle.std.specs.Ordering.{is_eq}
use Rattle.std.specs.Cmp.{tied_itself}
use Rattle.std.specs.Cmp.Lexicographic.{nat_list_cmp_total}
use Rattle.std.proofs.lemmas.Map.Text.{is_eq-slice_cmp}
pub use Rattle.kfs_damages.proofs.Counts.{kind_of, read_inode_of}
use Rattle.kfs_core.proofs.Pieces.{IsPart}
use Rattle.kfs_shows.specs.Shows.{inode_of}
use Rattle.kfs_core.specs.Stands.{Stands}
use Rattle.kfs_dir.specs.Directory.{node_under}
use Rattle.kfs_core.specs.Flat.{Where, at_root, inode_in, enter_at, enter_in, up_from, further_in, walk_in}

-- where a walk stands, in the tree and over the objects
pub record IsSpot (t : Tree) (place : Place) (w : Where) : Type 0 where
  pub node : w.node ≡ number_at t place
  pub long : length w.above ≡ length place
  pub way : (i : ℕ) → i < length place → number_at t (take i place) ≡ Some (get_or w.above i 0)
  pub dirs : (i : ℕ) → i < length place → node_of t (get_or w.above i 0) ≡ Some Dir
  pub name : w.node ≡ None → (q : Place) × (place ≡ q ++ w.name ∷ []) × IsName w.name

pub bytes_eq_refl : (xs : List ℕ) → bytes_eq xs xs ≡ true
bytes_eq_refl xs = sym (is_eq-slice_cmp xs xs) ∙ ap is_eq (tied_itself nat_list_cmp_total xs)

module _ (m : Objects) (t : Tree) (stands : Stands m t) where
  number_low : (place : Place) (n : ℕ) → number_at t place ≡ Some n → n < 2 ^ 63
  number_low place n e = let x = stands.tree.there place n e in let h = (stands.tree.numbers n x.0 x.1).1 in let l = stands.low in omega arith

  pub inode_at : (n : ℕ) (x : Node) → node_of t n ≡ Some x → inode_in m n ≡ Some (kind_of x)
  inode_at n x e =
      let lt : n < 2 ^ 64 = let h = (stands.tree.numbers n x e).1 in let l = stands.low in omega arith in
      ap (option_and_then read_inode) (stands.shows.inodes n lt ∙ ap (option_map inode_of) e) ∙ read_inode_of x (λ bytes f. stands.tree.lengths n bytes (e ∙ ap Some f))

  pub find_at : (place : Place) (n : ℕ) (name : Name) → number_at t place ≡ Some n → IsNamed name → node_under m n name ≡ number_at t (place ++ name ∷ [])
  find_at place n name e short = ap (option_and_then read_entry) (stands.shows.entries place n name e short) ∙ by (number_at t (place ++ name ∷ [])) refl
    where
      by : (o : Option ℕ) → number_at t (place ++ name ∷ []) ≡ o → option_and_then read_entry (option_map entry_value o) ≡ o
      by None f = refl
      by (Some k) f = read_entry_value k (let h = number_low (place ++ name ∷ []) k f in omega arith)

  abbrev pub entry_of : Option ℕ → Option (ℕ × Node)
  entry_of o = option_and_then (λ n. option_map (λ node. (n, node)) (node_of t n)) o

  abbrev SameEnter : Result (Unit {0}) Errno → Result ℕ Errno → Option ℕ → Type 0
  SameEnter (Ok x) (Ok n) o = (o ≡ Some n) × (node_of t n ≡ Some Dir)
  SameEnter (Ok x) (Err f) o = ⊥
  SameEnter (Err e) (Ok n) o = ⊥
  SameEnter (Err e) (Err f) o = e ≡ f

  enters : (place : Place) (o : Option ℕ) → number_at t place ≡ o → SameEnter (entered (entry_of o)) (enter_in m o) o
  enters place None e = refl
  enters place (Some n) e =
      let x = stands.tree.there place n e in
      subst (λ y. SameEnter (entered (option_map (λ node. (n, node)) y)) (enter_at n (inode_in m n)) (Some n)) (sym x.1)
      (subst (λ y. SameEnter (entered (Some (n, x.0))) (enter_at n y) (Some n)) (sym (inode_at n x.0 x.1)) (by x.0 x.1))
    where
      by : (x : Node) → node_of t n ≡ Some x → SameEnter (entered (Some (n, x))) (enter_at n (Some (kind_of x))) (Some n)
      by Dir is = (refl, is)
      by (File bytes) is = refl

  abbrev pub Alike : Result Place Errno → Result Where Errno → Type 0
  Alike (Ok place) (Ok w) = IsSpot t place w
  Alike (Ok place) (Err f) = ⊥
  Alike (Err e) (Ok w) = ⊥
  Alike (Err e) (Err f) = e ≡ f

  alike_bind : (o : Option ℕ) (r : Result (Unit {0}) Errno) (s : Result ℕ Errno) (f : Result Place Errno) (g : ℕ → Result Where Errno) → SameEnter r s o → ((n : ℕ) → o ≡ Some n → node_of t n ≡ Some Dir → Alike f (g n)) → Alike (r >>= λ _. f) (s >>= g)
  alike_bind o (Ok x) (Ok n) f g h then = then n h.0 h.1
  alike_bind o (Ok x) (Err e) f g h then = absurd h
  alike_bind o (Err e) (Ok n) f g h then = absurd h
  alike_bind o (Err e) (Err d) f g h then = h

  up_spot : (place : Place) (w : Where) (n : ℕ) → IsSpot t place w → number_at t place ≡ Some n → IsSpot t (parent place) (up_from w)
  up_spot place w n spot e = by (length w.above == 0) refl
    where
      by : (b : Bool) → (length w.above == 0) ≡ b → IsSpot t (parent place) (cond b w (record { above = take (length w.above - 1) w.above; node = Some (get_or w.above (length w.above - 1) 0); name = w.name }))
      by true z =
          let none : length w.above ≡ 0 = grind (arith, nat_tests) in
          let long = spot.long in
          let same : parent place ≡ place = take_all (length place - 1) place (omega arith) in
          subst (λ q. IsSpot t q w) (sym same) spot
      by false z =
          let some' : 0 < length w.above = grind (arith, nat_tests) in
          let long = spot.long in
          let k : length w.above - 1 ≡ length place - 1 = omega arith in
          let lp : length (take (length place - 1) place) ≡ length place - 1 = length-take-le (length place - 1) place (omega arith) in
          let la : length (take (length w.above - 1) w.above) ≡ length w.above - 1 = length-take-le (length w.above - 1) w.above (omega arith) in
          record {
            node = sym (spot.way (length place - 1) (omega arith) ∙ ap (λ j. Some (get_or w.above j 0)) (sym k));
            long = omega arith;
            way = λ i lt. ap (number_at t) (take-take i (length place - 1) place (omega arith)) ∙ spot.way i (omega arith) ∙ ap Some (sym (get_or-take (length w.above - 1) w.above i 0 (omega arith)));
            dirs = λ i lt. ap (node_of t) (get_or-take (length w.above - 1) w.above i 0 (omega arith)) ∙ spot.dirs i (omega arith);
            name = λ f. absurd (let bad : Some (get_or w.above (length w.above - 1) 0) ≡ None = f in cc);
          }

  down_spot : (place : Place) (w : Where) (n : ℕ) (piece : Name) → IsPart piece → IsName piece → IsSpot t place w → number_at t place ≡ Some n → node_of t n ≡ Some Dir → IsSpot t (place ++ piece ∷ []) (record { above = w.above ++ n ∷ []; node = node_under m n piece; name = piece })
  down_spot place w n piece part named spot e dir =
      let lp = length_push place piece in
      let la = length_push w.above n in
      let long = spot.long in
      record {
        node = find_at place n piece e part.0;
        long = omega arith;
        way = λ i lt. elim (split i (length place) (omega arith)) [
          | inl less ↦ ap (number_at t) (take-append-le i place (piece ∷ []) (omega arith)) ∙ spot.way i less ∙ ap Some (sym (get_or_append_left w.above (n ∷ []) 0 i (omega arith)))
          | inr same ↦ ap (number_at t) (take-append-le i place (piece ∷ []) (omega arith) ∙ take_all i place (omega arith)) ∙ e ∙ ap Some (sym (get_or_push w.above n 0 i (omega arith)))
        ];
        dirs = λ i lt. elim (split i (length place) (omega arith)) [
          | inl less ↦ ap (node_of t) (get_or_append_left w.above (n ∷ []) 0 i (omega arith)) ∙ spot.dirs i less
          | inr same ↦ ap (node_of t) (get_or_push w.above n 0 i (omega arith)) ∙ dir
        ];
        name = λ f. (place, refl, named);
      }
    where
      split : (i k : ℕ) → i < k + 1 → (i < k) ⊎ (i ≡ k)
      split i k lt = grind arith

  not_bytes : (xs ys : Name) → bytes_eq xs ys ≡ false → xs ≢ ys
  not_bytes xs ys e f = let bad : true ≡ false = sym (ap (bytes_eq xs) (sym f) ∙ bytes_eq_refl xs) ∙ e in cc

  further_spot : (place : Place) (w : Where) (n : ℕ) (piece : Name) → IsPart piece → IsSpot t place w → number_at t place ≡ Some n → node_of t n ≡ Some Dir → IsSpot t (further place piece) (further_in m w n piece)
  further_spot place w n piece part spot e dir = by (is_dot piece) (is_dot_dot piece) refl refl
    where
      by : (a b : Bool) → is_dot piece ≡ a → is_dot_dot piece ≡ b → IsSpot t (cond a place (cond b (parent place) (place ++ piece ∷ []))) (cond a w (cond b (up_from w) (record { above = w.above ++ n ∷ []; node = node_under m n piece; name = piece })))
      by true b f g = spot
      by false true f g = up_spot place w n spot e
      by false false f g = down_spot place w n piece part (record { short = part.0; slashes = part.1; dot = not_bytes piece (46 ∷ []) f; dots = not_bytes piece (46 ∷ 46 ∷ []) g }) spot e dir

  pub walks : (place : Place) (w : Where) (pieces : List Name) → AllByRecursion IsPart pieces → IsSpot t place w → Alike (walk_from t place pieces) (walk_in m w pieces)
  walks place w [] short spot = spot
  walks place w (piece ∷ pieces) short spot =
      let same : SameEnter (entered (entry_at t place)) (enter_in m w.node) (number_at t place) = subst (λ o. SameEnter (entered (entry_at t place)) (enter_in m o) (number_at t place)) (sym spot.node) (enters place (number_at t place) refl) in
      alike_bind (number_at t place) (entered (entry_at t place)) (enter_in m w.node) (walk_from t (further place piece) pieces) (λ n. walk_in m (further_in m w n piece) pieces) same
      (λ n e dir. walks (further place piece) (further_in m w n piece) pieces short.1 (further_spot place w n piece short.0 spot e dir))

  pub root_spot : IsSpot t [] at_root
  root_spot = record { node = sym stands.tree.root; long = refl; way = λ i lt. absurd (omega arith); dirs = λ i lt. absurd (omega arith); name = λ e. absurd (cc) }
