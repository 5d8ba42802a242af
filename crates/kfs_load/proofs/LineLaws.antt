-- Which lines a load has, and in which order.
use Rattle.std.proofs.Common.{◌≡◌, ◌<◌, ◌≤◌, ◌+◌, ◌*◌, ◌++◌, ◌∷◌, ◌∙◌, ℕ, zero, suc, ℤ, Bool, true, false, cond, All, List, [], length, get_or, refl, sym, ap, subst, arith, append_assoc, length-append}
use Rattle.kfs_path.specs.declared.call.Call.TheVariants as calls
use Rattle.kfs_path.specs.declared.call.Data.{Data}
use Rattle.kfs_path.specs.declared.call.Flags.{Flags}
use Rattle.kfs_model.specs.declared.Line.{Line}
use Rattle.kfs_model.specs.declared.Line.TheVariants as lines
use Rattle.kfs_load.specs.Generator.{Part, making, write_part, unlink_part, rename_part, truncate_part, sync_part, part_of, step_from, steps_from, dirs_from, load_rest, load_lines}

-- what holds of every line that a load may have, behind its format
pub record HoldsOf (P : Line → Type 0) : Type 0 where
  pub mkdir : (path : List ℕ) → P (lines.Call (calls.Mkdir path))
  pub opens : (path : List ℕ) → P (lines.Call (calls.Open path making))
  pub pwrite : (bytes : Data) (offset : ℤ) → P (lines.Call (calls.Pwrite 0 bytes offset))
  pub close : P (lines.Call (calls.Close 0))
  pub unlink : (path : List ℕ) → P (lines.Call (calls.Unlink path))
  pub rename : (old new : List ℕ) → P (lines.Call (calls.Rename old new))
  pub truncate : (path : List ℕ) (size : ℤ) → P (lines.Call (calls.Truncate path size))
  pub sync : P (lines.Call calls.Sync)
  pub mount : P lines.Mount

abbrev EachOf : (Line → Type 0) → List Line → Type 0
EachOf P [] = Unit {0}
EachOf P (x ∷ xs) = P x × EachOf P xs

pub rest_is : (seed count blocks : ℕ) → load_lines seed count blocks ≡ lines.Format blocks ∷ load_rest seed count
unfolding load_lines
rest_is seed count blocks = refl

module _ (P : Line → Type 0) (h : HoldsOf P) where
  both_of : (xs ys : List Line) → EachOf P xs → EachOf P ys → EachOf P (xs ++ ys)
  both_of [] ys a b = b
  both_of (x ∷ xs) ys a b = (a.0, both_of xs ys a.1 b)

  dirs_of : (a n : ℕ) → EachOf P (dirs_from a n)
  dirs_of a zero = tt
  dirs_of a (suc n) = (h.mkdir _, dirs_of (a + 1) n)

  write_of : (x : ℕ) → EachOf P (write_part x).lines
  unfolding write_part
  write_of x = (h.opens _, (h.pwrite _ _, (h.close, tt)))

  unlink_of : (x : ℕ) → EachOf P (unlink_part x).lines
  unfolding unlink_part
  unlink_of x = (h.unlink _, tt)

  rename_of : (x : ℕ) → EachOf P (rename_part x).lines
  unfolding rename_part
  rename_of x = (h.rename _ _, tt)

  truncate_of : (x : ℕ) → EachOf P (truncate_part x).lines
  unfolding truncate_part
  truncate_of x = (h.truncate _ _, tt)

  by_kind : (a b c d : Bool) (x : ℕ) → EachOf P (cond a (write_part x) (cond b (unlink_part x) (cond c (rename_part x) (cond d (truncate_part x) (sync_part x))))).lines
  by_kind true b c d x = write_of x
  by_kind false true c d x = unlink_of x
  by_kind false false true d x = rename_of x
  by_kind false false false true x = truncate_of x
  by_kind false false false false x = (h.sync, tt)

  steps_of : (x n : ℕ) → EachOf P (steps_from x n)
  steps_of x zero = tt
  steps_of x (suc n) = both_of (step_from x).lines (steps_from (step_from x).state n) (by_kind _ _ _ _ _) (steps_of (step_from x).state n)

  each_at : (ls : List Line) → EachOf P ls → (k : ℕ) (d : Line) → k < length ls → P (get_or ls k d)
  each_at [] all k d lt = absurd (omega arith)
  each_at (x ∷ xs) all zero d lt = all.0
  each_at (x ∷ xs) all (suc k) d lt = each_at xs all.1 k d (omega arith)

  pub every_line : (seed count : ℕ) → All P (load_rest seed count)
  every_line seed count =
      each_at (load_rest seed count) (both_of (dirs_from 0 10 ++ steps_from seed count) (lines.Call calls.Sync ∷ lines.Mount ∷ [])
      (both_of (dirs_from 0 10) (steps_from seed count) (dirs_of 0 10) (steps_of seed count)) (h.sync, (h.mount, tt)))

-- ---- how many

dirs_length : (a n : ℕ) → length (dirs_from a n) ≡ n
dirs_length a zero = refl
dirs_length a (suc n) = ap suc (dirs_length (a + 1) n)

write_length : (x : ℕ) → length (write_part x).lines ≤ 3
unfolding write_part
write_length x = omega arith

unlink_length : (x : ℕ) → length (unlink_part x).lines ≤ 3
unfolding unlink_part
unlink_length x = omega arith

rename_length : (x : ℕ) → length (rename_part x).lines ≤ 3
unfolding rename_part
rename_length x = omega arith

truncate_length : (x : ℕ) → length (truncate_part x).lines ≤ 3
unfolding truncate_part
truncate_length x = omega arith

kind_length : (a b c d : Bool) (x : ℕ) → length (cond a (write_part x) (cond b (unlink_part x) (cond c (rename_part x) (cond d (truncate_part x) (sync_part x))))).lines ≤ 3
kind_length true b c d x = write_length x
kind_length false true c d x = unlink_length x
kind_length false false true d x = rename_length x
kind_length false false false true x = truncate_length x
kind_length false false false false x = omega arith

step_length : (x : ℕ) → length (step_from x).lines ≤ 3
step_length x = kind_length _ _ _ _ _

steps_length : (x n : ℕ) → length (steps_from x n) ≤ 3 * n
steps_length x zero = omega arith
steps_length x (suc n) = omega (arith, length-append (step_from x).lines (steps_from (step_from x).state n), step_length x, steps_length (step_from x).state n)

-- a step has three lines at most
pub few_lines : (seed count : ℕ) → length (load_rest seed count) ≤ 12 + 3 * count
few_lines seed count =
    omega (arith, length-append (dirs_from 0 10 ++ steps_from seed count) (lines.Call calls.Sync ∷ lines.Mount ∷ []), length-append (dirs_from 0 10) (steps_from seed count), dirs_length 0 10, steps_length seed count)

-- ---- their order

-- what may be open behind the lines so far, and whether the last one committed; or the mount was
pub data Place : Type 0 where
  Idle : (synced : Bool) → Place
  Opened : Place
  Over : Place

-- the lines that may follow: what is opened is written to and closed at once; a mount comes last,
-- behind a sync
abbrev pub Follow : Place → List Line → Type 0
Follow (Idle b) (lines.Call (calls.Mkdir path) ∷ ls) = Follow (Idle false) ls
Follow (Idle b) (lines.Call (calls.Unlink path) ∷ ls) = Follow (Idle false) ls
Follow (Idle b) (lines.Call (calls.Rename old new) ∷ ls) = Follow (Idle false) ls
Follow (Idle b) (lines.Call (calls.Truncate path size) ∷ ls) = Follow (Idle false) ls
Follow (Idle b) (lines.Call calls.Sync ∷ ls) = Follow (Idle true) ls
Follow (Idle b) (lines.Call (calls.Open path flags) ∷ ls) = Follow Opened ls
Follow (Idle true) (lines.Mount ∷ ls) = Follow Over ls
Follow Opened (lines.Call (calls.Pwrite zero bytes offset) ∷ ls) = Follow Opened ls
Follow Opened (lines.Call (calls.Close zero) ∷ ls) = Follow (Idle false) ls
Follow Over [] = Unit {0}
Follow place ls = ⊥

-- wherever nothing is open these lines may follow
abbrev Anywhere : List Line → Type 0
Anywhere ls = (b : Bool) → Follow (Idle b) ls

dirs_follow : (a n : ℕ) (rest : List Line) → Anywhere rest → Anywhere (dirs_from a n ++ rest)
dirs_follow a zero rest h b = h b
dirs_follow a (suc n) rest h b = dirs_follow (a + 1) n rest h false

write_follows : (x : ℕ) (rest : List Line) → Anywhere rest → Anywhere ((write_part x).lines ++ rest)
unfolding write_part
write_follows x rest h b = h false

unlink_follows : (x : ℕ) (rest : List Line) → Anywhere rest → Anywhere ((unlink_part x).lines ++ rest)
unfolding unlink_part
unlink_follows x rest h b = h false

rename_follows : (x : ℕ) (rest : List Line) → Anywhere rest → Anywhere ((rename_part x).lines ++ rest)
unfolding rename_part
rename_follows x rest h b = h false

truncate_follows : (x : ℕ) (rest : List Line) → Anywhere rest → Anywhere ((truncate_part x).lines ++ rest)
unfolding truncate_part
truncate_follows x rest h b = h false

kind_follows : (a b c d : Bool) (x : ℕ) (rest : List Line) → Anywhere rest → Anywhere ((cond a (write_part x) (cond b (unlink_part x) (cond c (rename_part x) (cond d (truncate_part x) (sync_part x))))).lines ++ rest)
kind_follows true b c d x rest h = write_follows x rest h
kind_follows false true c d x rest h = unlink_follows x rest h
kind_follows false false true d x rest h = rename_follows x rest h
kind_follows false false false true x rest h = truncate_follows x rest h
kind_follows false false false false x rest h = λ b. h true

steps_follow : (x n : ℕ) (rest : List Line) → Anywhere rest → Anywhere (steps_from x n ++ rest)
steps_follow x zero rest h = h
steps_follow x (suc n) rest h =
    subst Anywhere (sym (append_assoc (step_from x).lines (steps_from (step_from x).state n) rest))
    (kind_follows _ _ _ _ _ (steps_from (step_from x).state n ++ rest) (steps_follow (step_from x).state n rest h))

abbrev ends : List Line
ends = lines.Call calls.Sync ∷ lines.Mount ∷ []

ends_follow : Anywhere ends
ends_follow b = tt

pub rest_follows : (seed count : ℕ) → Follow (Idle false) (load_rest seed count)
rest_follows seed count =
    subst (λ ls. Follow (Idle false) ls) (sym (append_assoc (dirs_from 0 10) (steps_from seed count) ends))
    (dirs_follow 0 10 (steps_from seed count ++ ends) (steps_follow seed count ends ends_follow) false)
