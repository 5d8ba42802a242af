-- A path's node looked up first, and then asked.
use Rattle.std.proofs.Common.{◌≡◌, ℕ, ◌==◌, Bool, true, false, cond, refl, sym, ◌∙◌, ap, List, Option, Some, None, Result, Ok, Err, option_map}
use Rattle.kv_device.specs.Objects.{Objects}
use Rattle.kfs_path.specs.declared.call.Errno.{Errno}
use Rattle.kfs_path.specs.declared.call.Errno.TheVariants.{ENOTDIR}
use Rattle.kfs_path.specs.declared.call.Reply.{Reply}
use Rattle.kfs_path.specs.declared.call.Reply.TheVariants as replies
use Rattle.kfs_model.specs.Ladder.{◌>>=◌}
use Rattle.kfs_model.specs.Tree.{Name}
use Rattle.kfs_model.specs.Step.{syntax}
use Rattle.kfs_core.specs.Flat.{at_root, walk_in, found_in, inode_in, inode_at, node_in, lookup_in, children_at, names_of, told_in, listed_in, stat_in, list_in}
use Rattle.kfs_posix.specs.Looking.{told_by, found_by, names_by}

bind_same : {A B : Type 0} (r : Result A Errno) (f g : A → Result B Errno) → ((x : A) → f x ≡ g x) → (r >>= f) ≡ (r >>= g)
bind_same (Ok x) f g h = h x
bind_same (Err e) f g h = refl

bind_twice : {A B C : Type 0} (r : Result A Errno) (f : A → Result B Errno) (g : B → Result C Errno) → ((r >>= f) >>= g) ≡ (r >>= λ x. f x >>= g)
bind_twice (Ok x) f g = refl
bind_twice (Err e) f g = refl

abbrev pub told_ok : ℕ × ℕ × ℕ → Result Reply Errno
told_ok it = Ok (told_by it)

abbrev pub names_ok : List Name → Result Reply Errno
names_ok names = Ok (replies.Names names)

abbrev with_inode : Objects → ℕ → Result (ℕ × ℕ × ℕ) Errno
with_inode m n = inode_at (inode_in m n) >>= λ i. Ok (n, i.0, i.1)

told_same : (m : Objects) (o : Option ℕ) (trailing : Bool) → told_in (found_in m o) trailing ≡ ((node_in (found_in m o) trailing >>= with_inode m) >>= told_ok)
told_same m None trailing = refl
told_same m (Some n) trailing = by (inode_in m n) refl
  where
    third : (kind size : ℕ) (b t : Bool) → inode_in m n ≡ Some (kind, size) → (kind == 1) ≡ b
        → cond b (Ok (replies.Dir n)) (cond t (Err ENOTDIR) (Ok (replies.File n size))) ≡ ((cond b (Ok n) (cond t (Err ENOTDIR) (Ok n)) >>= with_inode m) >>= told_ok)
    third kind size true t e f = sym (ap (λ x. (inode_at x >>= λ i. Ok (n, i.0, i.1)) >>= told_ok) e ∙ ap (λ b. Ok (cond b (replies.Dir n) (replies.File n size))) f)
    third kind size false true e f = refl
    third kind size false false e f = sym (ap (λ x. (inode_at x >>= λ i. Ok (n, i.0, i.1)) >>= told_ok) e ∙ ap (λ b. Ok (cond b (replies.Dir n) (replies.File n size))) f)

    by : (x : Option (ℕ × ℕ)) → inode_in m n ≡ x → told_in (option_map (λ (i : ℕ × ℕ). (n, i.0, i.1)) x) trailing ≡ ((node_in (option_map (λ (i : ℕ × ℕ). (n, i.0, i.1)) x) trailing >>= with_inode m) >>= told_ok)
    by None e = refl
    by (Some (kind, size)) e = third kind size (kind == 1) trailing e refl

pub stat_same : (m : Objects) (path : List ℕ) → stat_in m path ≡ (found_by m path >>= told_ok)
stat_same m path =
    sym (bind_twice (syntax path) (λ route. lookup_in m route >>= with_inode m) told_ok
    ∙ bind_same (syntax path) (λ route. (lookup_in m route >>= with_inode m) >>= told_ok) (λ route. walk_in m at_root route.pieces >>= λ w. told_in (found_in m w.node) route.trailing) (λ route.
    ap (λ x. x >>= told_ok) (bind_twice (walk_in m at_root route.pieces) (λ w. node_in (found_in m w.node) route.trailing) (with_inode m))
    ∙ bind_twice (walk_in m at_root route.pieces) (λ w. node_in (found_in m w.node) route.trailing >>= with_inode m) told_ok
    ∙ bind_same (walk_in m at_root route.pieces) (λ w. (node_in (found_in m w.node) route.trailing >>= with_inode m) >>= told_ok) (λ w. told_in (found_in m w.node) route.trailing) (λ w. sym (told_same m w.node route.trailing))))

abbrev children_in : Objects → ℕ → Result (List Name) Errno
children_in m n = children_at m n (inode_in m n)

listed_same : (m : Objects) (o : Option ℕ) (trailing : Bool) → listed_in m (found_in m o) ≡ ((node_in (found_in m o) trailing >>= children_in m) >>= names_ok)
listed_same m None trailing = refl
listed_same m (Some n) trailing = by (inode_in m n) refl
  where
    third : (kind size : ℕ) (b t : Bool) → inode_in m n ≡ Some (kind, size) → (kind == 1) ≡ b
        → cond b (Ok (replies.Names (names_of m n))) (Err ENOTDIR) ≡ ((cond b (Ok n) (cond t (Err ENOTDIR) (Ok n)) >>= children_in m) >>= names_ok)
    third kind size true t e f = sym (ap (λ x. children_at m n x >>= names_ok) e ∙ ap (λ (b : Bool). cond b (Ok (names_of m n)) (Err ENOTDIR) >>= names_ok) f)
    third kind size false true e f = refl
    third kind size false false e f = sym (ap (λ x. children_at m n x >>= names_ok) e ∙ ap (λ (b : Bool). cond b (Ok (names_of m n)) (Err ENOTDIR) >>= names_ok) f)

    by : (x : Option (ℕ × ℕ)) → inode_in m n ≡ x → listed_in m (option_map (λ (i : ℕ × ℕ). (n, i.0, i.1)) x) ≡ ((node_in (option_map (λ (i : ℕ × ℕ). (n, i.0, i.1)) x) trailing >>= children_in m) >>= names_ok)
    by None e = refl
    by (Some (kind, size)) e = third kind size (kind == 1) trailing e refl

pub list_same : (m : Objects) (path : List ℕ) → list_in m path ≡ (names_by m path >>= names_ok)
list_same m path =
    sym (bind_twice (syntax path) (λ route. lookup_in m route >>= children_in m) names_ok
    ∙ bind_same (syntax path) (λ route. (lookup_in m route >>= children_in m) >>= names_ok) (λ route. walk_in m at_root route.pieces >>= λ w. listed_in m (found_in m w.node)) (λ route.
    ap (λ x. x >>= names_ok) (bind_twice (walk_in m at_root route.pieces) (λ w. node_in (found_in m w.node) route.trailing) (children_in m))
    ∙ bind_twice (walk_in m at_root route.pieces) (λ w. node_in (found_in m w.node) route.trailing >>= children_in m) names_ok
    ∙ bind_same (walk_in m at_root route.pieces) (λ w. (node_in (found_in m w.node) route.trailing >>= children_in m) >>= names_ok) (λ w. listed_in m (found_in m w.node)) (λ w. sym (listed_same m w.node route.trailing))))
