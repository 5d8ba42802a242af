-- What is open is there.
use Rattle.std.proofs.Common.{◌≡◌, ℕ, Option, Some, None, Result, Ok, refl, ap, sym, ◌∙◌}
use Rattle.std.specs.Prelude.{IsSome, ◌==◌, not, nat_lt}
use Rattle.std.specs.Ordering.{nat_cmp}
use Rattle.std.specs.Option.{option_map, option_and_then}
use Rattle.std.specs.FinMap.{find}
use Rattle.std.proofs.lemmas.Option.{same_Some}
use Rattle.std.specs.FinMap.Entries.{is_sorted-put, is_sorted-where_key}
use Rattle.std.specs.Cmp.{nat_cmp_total}
use Rattle.std.specs.List.{list_any, filter}
use Rattle.kfs_plain.proofs.Gaps.{Lacks-first_gap}
use Rattle.kfs_model.specs.declared.Description.{Description}
use Rattle.kfs_model.specs.Tree.{node_of, Limits}
use Rattle.kfs_model.specs.Desk.{Desk, opened}
use Rattle.kfs_model.specs.Ladder.{◌>>=◌, ◌>>◌, ◌when◌, then_ok}
use Rattle.kfs_model.specs.Step.{World, readable, or_else, is_open_dir, greatest_count}
use Rattle.kfs_path.specs.declared.call.Errno.{Errno}
use Rattle.kfs_path.specs.declared.call.Errno.TheVariants.{EBADF, EISDIR, EINVAL}
use Rattle.kfs_plain.specs.declared.tables.OpenFiles.{OpenFiles}
use Rattle.kfs_plain.specs.declared.tables.Tables.{Tables}
use Rattle.kfs_plain.specs.Tables.{IsSound, IsKept, world_of, tree_of, desk_of, limits_of, with_open, with_offset_at, closed, free_number}
use Rattle.kfs_plain.proofs.Keeping.{there-put, there-filter, sound-desk, kept_at}

same_found : (d' d : ℕ) (x it : Description) → ◌≡◌ {A = Option (ℕ × Description)} (Some (d', x)) (Some (d, it)) → (d' ≡ d) × (x ≡ it)
same_found d' d x it same = let p = same_Some (d', x) (d, it) same in (ap (λ (q : ℕ × Description). q.0) p, ap (λ (q : ℕ × Description). q.1) p)

found_under : (desk : Desk) (d' d : ℕ) (it : Description) (o : Option Description) → find nat_cmp d' desk.descriptions ≡ o → option_map {U = ℕ × Description} (λ x. (d', x)) o ≡ Some (d, it) → find nat_cmp d desk.descriptions ≡ Some it
found_under desk d' d it None e same = absurd (cc)
found_under desk d' d it (Some x) e same =
    let both = same_found d' d x it same in
    ap (λ n. find nat_cmp n desk.descriptions) (sym both.0) ∙ e ∙ ap (λ y. Some y) both.1

found : (desk : Desk) (d : ℕ) (it : Description) (o : Option ℕ) → option_and_then {U = ℕ × Description} (λ n. option_map {U = ℕ × Description} (λ x. (n, x)) (find nat_cmp n desk.descriptions)) o ≡ Some (d, it) → find nat_cmp d desk.descriptions ≡ Some it
found desk d it None e = absurd (cc)
found desk d it (Some d') e = found_under desk d' d it (find nat_cmp d' desk.descriptions) refl e

pub opened-found : (desk : Desk) (fd d : ℕ) (it : Description) → opened desk fd ≡ Some (d, it) → find nat_cmp d desk.descriptions ≡ Some it
opened-found desk fd d it e = found desk d it (find nat_cmp fd desk.descriptors) e

-- the node of an open description
pub node_there : (t : Tables) (fd d : ℕ) (it : Description) → IsKept t → opened (desk_of t.desk) fd ≡ Some (d, it) → IsSome (node_of (tree_of t.files) it.node)
node_there t fd d it kept e = kept.sound.there d it (opened-found (desk_of t.desk) fd d it e)

pub sound-offset : (k : Limits) (w : World) (fd d : ℕ) (it : Description) (offset : ℕ) → IsSound k w → opened w.desk fd ≡ Some (d, it) → IsSound k (record { tree = w.tree; desk = with_offset_at w.desk d it offset })
sound-offset k w fd d it offset s e =
    sound-desk k w (with_offset_at w.desk d it offset) s
    (there-put k w d (record { node = it.node; offset = offset; read = it.read; write = it.write; append = it.append }) s (s.there d it (opened-found w.desk fd d it e)))
    (is_sorted-put nat_cmp nat_cmp_total d (record { node = it.node; offset = offset; read = it.read; write = it.write; append = it.append }) w.desk.descriptions s.rising)

pub sound-open : (k : Limits) (w : World) (fd : ℕ) (it : Description) → IsSound k w → IsSome (node_of w.tree it.node) → IsSound k (record { tree = w.tree; desk = with_open w.desk fd it })
sound-open k w fd it s there = sound-desk k w (with_open w.desk fd it) s (there-put k w (free_number w.desk) it s there) (is_sorted-put nat_cmp nat_cmp_total (free_number w.desk) it w.desk.descriptions s.rising)

pub sound-closed : (k : Limits) (w : World) (fd : ℕ) → IsSound k w → IsSound k (record { tree = w.tree; desk = closed w.desk fd })
sound-closed k w fd s = sound-desk k w (closed w.desk fd) s (there-filter k w (λ n. list_any (λ f. f.1 == n) (filter (λ e. not (e.0 == fd)) w.desk.descriptors)) s)
    (is_sorted-where_key nat_cmp (λ n. list_any (λ f. f.1 == n) (filter (λ e. not (e.0 == fd)) w.desk.descriptors)) w.desk.descriptions s.rising)

-- a step of the definition whose number is free
pub free_is : (k : Limits) (w : World) → IsSound k w → find nat_cmp (free_number w.desk) w.desk.descriptions ≡ None
free_is k w s = Lacks-first_gap w.desk.descriptions s.rising

-- tables that were kept, with a new description of a node that is there
pub kept-open : (t : Tables) (desk : OpenFiles) (old : Desk) (fd : ℕ) (it : Description) → IsKept t → desk_of t.desk ≡ old → desk_of desk ≡ with_open old fd it → IsSome (node_of (tree_of t.files) it.node)
    → IsKept (record { files = t.files; desk = desk; keys = t.keys; pages = t.pages })
kept-open t desk old fd it kept same is there =
    let w : World = record { tree = tree_of t.files; desk = with_open (desk_of t.desk) fd it } in
    let left : desk_of desk ≡ with_open (desk_of t.desk) fd it = is ∙ ap (λ (d : Desk). with_open d fd it) (sym same) in
    kept_at _ w (λ i. record { tree = tree_of t.files; desk = left i }) kept.counted (sound-open (limits_of t) (world_of t) fd it kept.sound there)

-- tables that were kept, with an open description at another offset
pub kept-offset : (t : Tables) (desk : OpenFiles) (old : Desk) (fd d : ℕ) (it : Description) (offset : ℕ) → IsKept t → desk_of t.desk ≡ old → desk_of desk ≡ with_offset_at old d it offset → opened old fd ≡ Some (d, it)
    → IsKept (record { files = t.files; desk = desk; keys = t.keys; pages = t.pages })
kept-offset t desk old fd d it offset kept same is e =
    let w : World = record { tree = tree_of t.files; desk = with_offset_at (desk_of t.desk) d it offset } in
    let left : desk_of desk ≡ with_offset_at (desk_of t.desk) d it offset = is ∙ ap (λ (x : Desk). with_offset_at x d it offset) (sym same) in
    kept_at _ w (λ i. record { tree = tree_of t.files; desk = left i }) kept.counted (sound-offset (limits_of t) (world_of t) fd d it offset kept.sound (ap (λ (x : Desk). opened x fd) same ∙ e))

some_of_ok : (x y : ℕ × Description) → ◌≡◌ {A = Result (ℕ × Description) Errno} (Ok x) (Ok y) → ◌≡◌ {A = Option (ℕ × Description)} (Some x) (Some y)
some_of_ok x y e = cc

readable_at : (w : World) (count : ℕ) (it : ℕ × Description) (o : Option (ℕ × Description)) → (or_else o EBADF >>= λ it. (EBADF when not it.1.read) >> ((EISDIR when is_open_dir w.tree it.1.node) >> ((EINVAL when nat_lt greatest_count count) >> Ok it))) ≡ Ok it → o ≡ Some it
readable_at w count it None e = absurd (cc)
readable_at w count it (Some x) e = some_of_ok x it (then_ok (EINVAL when nat_lt greatest_count count) _ it (then_ok (EISDIR when is_open_dir w.tree x.1.node) _ it (then_ok (EBADF when not x.1.read) _ it e)))

-- what may be read from is open
pub readable-opened : (w : World) (fd count : ℕ) (it : ℕ × Description) → readable w fd count ≡ Ok it → opened w.desk fd ≡ Some it
readable-opened w fd count it e = readable_at w count it (opened w.desk fd) e
