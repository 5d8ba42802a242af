-- A load's calls do the same whatever number its one description has.
use Rattle.std.proofs.Common.{◌≡◌, ◌∙◌, ℕ, ℤ, zero, suc, Bool, true, false, not, cond, List, [], ◌∷◌, length, take, Option, Some, None, Result, Ok, Err, refl, sym, ap, subst}
use Rattle.std.specs.Prelude.{◌==◌, ◌&&◌, ◌||◌, nat_lt, nat_le, ◌+◌}
use Rattle.std.specs.Ordering.{nat_cmp, eq_by_cmp, is_eq}
use Rattle.std.specs.Cmp.{nat_cmp_total, tied_itself}
use Rattle.std.specs.Option.{option_map, option_and_then}
use Rattle.std.specs.List.{filter, list_any}
use Rattle.std.specs.FinMap.{find, nat_cmp-IsAntisymmetric}
use Rattle.kfs_path.specs.Pieces.{is_empty}
use Rattle.kfs_path.specs.declared.call.Call.{Call}
use Rattle.kfs_path.specs.declared.call.Call.TheVariants as calls
use Rattle.kfs_path.specs.declared.call.Reply.{Reply}
use Rattle.kfs_path.specs.declared.call.Reply.TheVariants as replies
use Rattle.kfs_path.specs.declared.call.Errno.{Errno}
use Rattle.kfs_path.specs.declared.call.Errno.TheVariants.{ENOENT, EEXIST, EISDIR, ENOTDIR, EINVAL, EBADF, EFBIG, ENOSPC}
use Rattle.kfs_path.specs.declared.call.Flags.{Flags}
use Rattle.kfs_path.specs.declared.call.Data.{Data}
use Rattle.kfs_model.specs.declared.Node.{Node}
use Rattle.kfs_model.specs.declared.Node.TheVariants.{Dir, File}
use Rattle.kfs_model.specs.Ladder.{◌>>=◌, ◌>>◌}
use Rattle.kfs_model.specs.Tree.{Limits, Tree, Place, charge, entry_at, walk, with_new, with_node, written, fits, greatest_length}
use Rattle.kfs_model.specs.declared.Description.{Description}
use Rattle.kfs_model.specs.Desk.{Desk, empty_desk, opened, lowest_free}
use Rattle.kfs_model.specs.Step
use Rattle.kfs_model.specs.Step.{World, After, Route, settled, step}
use Rattle.kfs_model.specs.Change.{weight, node_resizing}

-- nothing is open, or descriptor 0 alone, whose description has the number d
abbrev pub desk_at : ℕ → Option Description → Desk
desk_at d None = empty_desk
desk_at d (Some it) = record { descriptors = (0, d) ∷ []; descriptions = (d, it) ∷ [] }

abbrev pub world_at : Tree → ℕ → Option Description → World
world_at t d it = record { tree = t; desk = desk_at d it }

tied : (d : ℕ) → eq_by_cmp nat_cmp d d ≡ true
tied d = ap is_eq (tied_itself nat_cmp_total d)

opened_one : (d : ℕ) (it : Description) → opened (desk_at d (Some it)) 0 ≡ Some (d, it)
opened_one d it = ap (λ b. option_map {U = ℕ × Description} (λ x. (d, x)) (cond b (Some it) None)) (tied d)

-- the same left and answered, but for the number of what is open
pub record AreTwins (w v : World) (call : Call) (d e : ℕ) (x y : After) : Type 0 where
  pub tree : Tree
  pub it : Option Description
  pub left : x.world ≡ world_at tree d it
  pub right : y.world ≡ world_at tree e it
  pub reply : x.reply ≡ y.reply
  pub weigh : weight w call x ≡ weight v call y

module _ (P : After → After → Type 0) (w v : World) where
  -- what two results come to
  pub record Both (r s : Result After Errno) : Type 0 where
    pub both : P (settled w r) (settled v s)

  both_ok : (x y : After) → P x y → Both (Ok x) (Ok y)
  both_ok x y h = record { both = h }

  module _ (bad : (e : Errno) → P (settled w (Err e)) (settled v (Err e))) where
    both_err : (e : Errno) → Both (Err e) (Err e)
    both_err e = record { both = bad e }

    both_then : (c : Option Errno) (r s : Result After Errno) → Both r s → Both (c >> r) (c >> s)
    both_then None r s h = h
    both_then (Some e) r s h = both_err e

    both_bind : {B : Type 0} (q : Result B Errno) (f g : B → Result After Errno) → ((x : B) → Both (f x) (g x)) → Both (q >>= f) (q >>= g)
    both_bind (Ok x) f g h = h x
    both_bind (Err e) f g h = both_err e

-- ---- open

module _ (k : Limits) (t : Tree) (path : List ℕ) (flags : Flags) (d e : ℕ) where
  abbrev w : World
  w = world_at t 0 None

  abbrev call : Call
  call = calls.Open path flags

  abbrev P : After → After → Type 0
  P x y = AreTwins w w call d e x y

  bad : (err : Errno) → P (settled w (Err err)) (settled w (Err err))
  bad err = record { tree = t; it = None; left = refl; right = refl; reply = refl; weigh = refl }

  abbrev it_of : ℕ → Description
  it_of n = record { node = n; offset = 0; read = flags.read; write = flags.write; append = flags.append }

  node_is : (d : ℕ) (n : ℕ) → option_map {U = ℕ} (λ (x : ℕ × Description). x.1.node) (opened (desk_at d (Some (it_of n))) 0) ≡ Some n
  node_is d n = ap (option_map {U = ℕ} (λ (x : ℕ × Description). x.1.node)) (opened_one d (it_of n))

  -- the weight where a description of node n is open
  abbrev weigh_by : Tree → Option ℕ → Option ℕ
  weigh_by s o = cond (nat_lt t.next s.next) (Some 4) (node_resizing w (record { world = world_at s 0 None; reply = replies.Number 0 }) o)

  good : (s : Tree) (n : ℕ) → P (Step.opens w s 0 d n flags) (Step.opens w s 0 e n flags)
  good s n = record {
    tree = s;
    it = Some (it_of n);
    left = refl;
    right = refl;
    reply = refl;
    weigh = weighs d s n ∙ sym (weighs e s n);
  }
    where
      weighs : (d : ℕ) (s : Tree) (n : ℕ) → weight w call (Step.opens w s 0 d n flags) ≡ weigh_by s (Some n)
      weighs d s n = ap (λ o. cond (nat_lt t.next s.next) (Some 4) (node_resizing w (Step.opens w s 0 d n flags) o)) (node_is d n)

  good_one : (s : Tree) (n : ℕ) → Both P w w (Ok (Step.opens w s 0 d n flags)) (Ok (Step.opens w s 0 e n flags))
  good_one s n = both_ok P w w _ _ (good s n)

  missing : (route : Route) (place : Place) → Both P w w (Step.open_missing k d w route place flags) (Step.open_missing k e w route place flags)
  unfolding lowest_free
  missing route place =
      both_then P w w bad (cond (not flags.creat || route.trailing) (Some ENOENT) None) (rest d) (rest e)
      (both_then P w w bad (cond (nat_lt k.keys (charge t + 2)) (Some ENOSPC) None) (Ok (made d)) (Ok (made e)) (good_one (with_new t place (File [])) t.next))
    where
      made : ℕ → After
      made f = Step.opens w (with_new t place (File [])) 0 f t.next flags

      rest : ℕ → Result After Errno
      rest f = cond (nat_lt k.keys (charge t + 2)) (Some ENOSPC) None >> Ok (made f)

  opens_dir : (n : ℕ) → Both P w w (Step.open_dir d w n flags) (Step.open_dir e w n flags)
  unfolding lowest_free
  opens_dir n =
      both_then P w w bad (cond (flags.creat && flags.excl) (Some EEXIST) None) (rest d) (rest e)
      (both_then P w w bad (cond (flags.write || flags.creat) (Some EISDIR) None) (Ok (Step.opens w t 0 d n flags)) (Ok (Step.opens w t 0 e n flags)) (good_one t n))
    where
      rest : ℕ → Result After Errno
      rest f = cond (flags.write || flags.creat) (Some EISDIR) None >> Ok (Step.opens w t 0 f n flags)

  opens_file : (route : Route) (n : ℕ) → Both P w w (Step.open_file d w route n flags) (Step.open_file e w route n flags)
  unfolding lowest_free
  opens_file route n =
      both_then P w w bad (cond (flags.creat && flags.excl) (Some EEXIST) None) (rest d) (rest e)
      (both_then P w w bad (cond route.trailing (Some ENOTDIR) None) (Ok (made d)) (Ok (made e)) (good_one (cond flags.trunc (with_node t n (File [])) t) n))
    where
      made : ℕ → After
      made f = Step.opens w (cond flags.trunc (with_node t n (File [])) t) 0 f n flags

      rest : ℕ → Result After Errno
      rest f = cond route.trailing (Some ENOTDIR) None >> Ok (made f)

  at : (route : Route) (place : Place) (o : Option (ℕ × Node)) → Both P w w (Step.open_at k d w route place flags o) (Step.open_at k e w route place flags o)
  at route place None = missing route place
  at route place (Some (n, Dir)) = opens_dir n
  at route place (Some (n, File bytes)) = opens_file route n

  found : (route : Route) (place : Place) → Both P w w (Step.open_at k d w route place flags (entry_at t place)) (Step.open_at k e w route place flags (entry_at t place))
  found route place = at route place (entry_at t place)

  both_open : Both P w w (Step.open_path k d w path flags) (Step.open_path k e w path flags)
  both_open = search (both_then P w w bad, both_bind P w w bad, found) depth 12

  pub open_twins : AreTwins w w call d e (step k d w call) (step k e w call)
  open_twins = both_open.both

-- ---- pwrite and close, where descriptor 0 is open or nothing is

module _ (k : Limits) (t : Tree) (it : Option Description) (d e : ℕ) where
  abbrev left : World
  left = world_at t d it

  abbrev right : World
  right = world_at t e it

  abbrev Q : Call → After → After → Type 0
  Q call x y = AreTwins left right call d e x y

  bad_write : (bytes : Data) (offset : ℤ) (err : Errno) → Q (calls.Pwrite 0 bytes offset) (settled left (Err err)) (settled right (Err err))
  bad_write bytes offset err = record { tree = t; it = it; left = refl; right = refl; reply = refl; weigh = refl }

  bad_close : (err : Errno) → Q (calls.Close 0) (settled left (Err err)) (settled right (Err err))
  bad_close err = record { tree = t; it = it; left = refl; right = refl; reply = refl; weigh = refl }

-- a write to what a descriptor has open
abbrev pwrite_by : Limits → World → Data → ℤ → Option (ℕ × Description) → Result After Errno
pwrite_by k w given offset o =
    Step.or_else o EBADF >>= λ it. (cond (not it.1.write) (Some EBADF) None >> (cond (Step.is_negative offset) (Some EINVAL) None
    >> (Step.writes k w (it.0, record { node = it.1.node; offset = Step.natural offset; read = it.1.read; write = true; append = false }) (Step.bytes_of given) >>= λ after. Step.leaves w after.world.tree after.reply)))

module _ (k : Limits) (t : Tree) (it : Description) (d e : ℕ) (given : Data) (offset : ℤ) where
  abbrev wl : World
  wl = world_at t d (Some it)

  abbrev wr : World
  wr = world_at t e (Some it)

  abbrev write_call : Call
  write_call = calls.Pwrite 0 given offset

  abbrev R : After → After → Type 0
  R x y = AreTwins wl wr write_call d e x y

  abbrev bad_here : (err : Errno) → R (settled wl (Err err)) (settled wr (Err err))
  bad_here err = bad_write k t (Some it) d e given offset err

  good_here : (s : Tree) (n : ℕ) → R (record { world = world_at s d (Some it); reply = replies.Number n }) (record { world = world_at s e (Some it); reply = replies.Number n })
  good_here s n = record { tree = s; it = Some it; left = refl; right = refl; reply = refl; weigh = refl }

  abbrev kept : World → After → Result After Errno
  kept w after = Step.leaves w after.world.tree after.reply

  abbrev record_of : ℕ → Tree → Reply → After
  record_of f s reply = record { world = world_at s f (Some it); reply = reply }

  writing : (a b c d' : Bool) (x y : After) (s : Tree) (n : ℕ) → x.world.tree ≡ s → y.world.tree ≡ s → x.reply ≡ replies.Number n → y.reply ≡ replies.Number n
      → Both R wl wr
      ((cond a (Some EINVAL) None >> cond b (Step.answers wl (replies.Number 0)) (cond c (Some EFBIG) None >> (cond d' (Some ENOSPC) None >> Ok x))) >>= kept wl)
      ((cond a (Some EINVAL) None >> cond b (Step.answers wr (replies.Number 0)) (cond c (Some EFBIG) None >> (cond d' (Some ENOSPC) None >> Ok y))) >>= kept wr)
  writing true b c d' x y s n xt yt xr yr = record { both = bad_here EINVAL }
  writing false true c d' x y s n xt yt xr yr = record { both = good_here t 0 }
  writing false false true d' x y s n xt yt xr yr = record { both = bad_here EFBIG }
  writing false false false true x y s n xt yt xr yr = record { both = bad_here ENOSPC }
  writing false false false false x y s n xt yt xr yr =
      let l : record_of d x.world.tree x.reply ≡ record_of d s (replies.Number n) = λ i. record_of d (xt i) (xr i) in
      let r : record_of e y.world.tree y.reply ≡ record_of e s (replies.Number n) = λ i. record_of e (yt i) (yr i) in
      record { both = subst (λ z. R z (record_of e y.world.tree y.reply)) (sym l) (subst (λ z. R (record_of d s (replies.Number n)) z) (sym r) (good_here s n)) }

  abbrev bytes : List ℕ
  bytes = Step.bytes_of given

  abbrev p : ℕ
  p = Step.natural offset

  abbrev j : ℕ
  j = fits k t it.node (Step.content t it.node) p (length bytes)

  abbrev from : ℕ → ℕ × Description
  from f = (f, record { node = it.node; offset = p; read = it.read; write = true; append = false })

  abbrev tail : World → ℕ → Result After Errno
  tail w f = Step.writes k w (from f) bytes >>= kept w

  abbrev judged : World → ℕ → Result After Errno
  judged w f = cond (Step.is_negative offset) (Some EINVAL) None >> tail w f

  writes_both : Both R wl wr (Step.writes k wl (from d) bytes >>= kept wl) (Step.writes k wr (from e) bytes >>= kept wr)
  writes_both =
      writing (nat_lt Step.greatest_count (length bytes)) (is_empty bytes) (nat_le greatest_length p) (j == 0) _ _
      (with_node t it.node (File (written (Step.content t it.node) p (take j bytes)))) j refl refl refl refl

  opened_both : (o u : Option (ℕ × Description)) → o ≡ Some (d, it) → u ≡ Some (e, it) → Both R wl wr (pwrite_by k wl given offset o) (pwrite_by k wr given offset u)
  opened_both o u a b =
      subst (λ z. Both R wl wr (pwrite_by k wl given offset z) (pwrite_by k wr given offset u)) (sym a)
      (subst (λ z. Both R wl wr (pwrite_by k wl given offset (Some (d, it))) (pwrite_by k wr given offset z)) (sym b) here)
    where
      here : Both R wl wr (pwrite_by k wl given offset (Some (d, it))) (pwrite_by k wr given offset (Some (e, it)))
      here =
          both_then R wl wr bad_here (cond (not it.write) (Some EBADF) None) (judged wl d) (judged wr e)
          (both_then R wl wr bad_here (cond (Step.is_negative offset) (Some EINVAL) None) (tail wl d) (tail wr e) writes_both)

  pub pwrite_twins : AreTwins wl wr write_call d e (step k d wl write_call) (step k e wr write_call)
  pwrite_twins = (opened_both (opened wl.desk 0) (opened wr.desk 0) (opened_one d it) (opened_one e it)).both

-- ---- close

-- a descriptor is closed, by what it has open
abbrev close_by : World → Option (ℕ × Description) → Result After Errno
close_by w o = Step.or_else o EBADF >>= λ it.
    Ok (record {
      world = Step.swept (record {
        tree = w.tree;
        desk = record {
          descriptors = filter (λ e. not (e.0 == 0)) w.desk.descriptors;
          descriptions = filter (λ e. list_any (λ f. f.1 == e.0) (filter (λ e. not (e.0 == 0)) w.desk.descriptors)) w.desk.descriptions;
        };
      });
      reply = replies.Done;
    })

abbrev pub swept_tree : Tree → Tree
swept_tree t = (Step.swept (world_at t 0 None)).tree

-- what was open is closed, the same whatever its number, and nothing is open
pub close_leaves : (k : Limits) (t : Tree) (it : Description) (d f : ℕ) → step k f (world_at t d (Some it)) (calls.Close 0) ≡ record { world = world_at (swept_tree t) 0 None; reply = replies.Done }
close_leaves k t it d f = ap (λ o. settled (world_at t d (Some it)) (close_by (world_at t d (Some it)) o)) (opened_one d it)
