-- How great the numbers of a life are.
use Rattle.std.specs.Prelude.{ℕ, ◌≤◌, ◌+◌, All}
use Rattle.kfs_model.specs.Tree.{Tree}
use Rattle.kfs_model.specs.Life.{Live, Now, Up, Down, Past, AnyOf}

-- a tree's next number is at most so many above the first
abbrev pub Low : ℕ → Tree → Type 0
Low n t = t.next ≤ n + 2

-- at most so many changes, and no tree with a greater next number
pub record IsYoungPast (n : ℕ) (past : Past) : Type 0 where
  pub count : past.count ≤ n
  pub trees : All (Low n) past.trees

-- so in all that a life holds
abbrev pub IsYoung : ℕ → Now → Type 0
IsYoung n (Up live) = IsYoungPast n live.past × (live.mark ≤ n) × Low n live.world.tree
IsYoung n (Down past may) = IsYoungPast n past × ((k : ℕ) → AnyOf may k → k ≤ n)
