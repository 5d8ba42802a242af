-- What a step adds.
use Rattle.std.specs.Prelude.{ℕ, ◌≡◌, List, ◌++◌}
use Rattle.kfs_model.specs.declared.Line.{Line}
use Rattle.kfs_load.specs.Generator.{Part}

-- the part's lines stand behind the old ones, and its state is reached
pub record Adds (old : List Line) (part : Part) (new : List Line) (state : ℕ) : Type 0 where
  pub lines : new ≡ old ++ part.lines
  pub reached : state ≡ part.state
