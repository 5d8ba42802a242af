-- An index that has place already.
use Rattle.std.specs.Prelude.{◌≡◌}
use Rattle.kv_nand.specs.Flash.{Flash}
use Rattle.kssd_index.specs.declared.index.Index.{Index}

-- nothing was done
pub record IsStill (old : Index) (before : Flash) (new : Index) (after : Flash) : Type 0 where
  pub index : new ≡ old
  pub flash : after ≡ before
