-- What stays of a device that is up.
use Rattle.std.specs.Prelude.{◌≡◌, true, length, Option}
use Rattle.kv_nand.specs.Flash.{Flash, Image}
use Rattle.kssd_model.specs.OnlyReading.{OnlyReads}
use Rattle.kssd_image.specs.Stages.{shown_in}
use Rattle.kssd_image.specs.Whole.{IsWhole}
use Rattle.kssd_values.specs.declared.values.Values.{Values}
use Rattle.kssd_values.specs.Blocks.{device_of}
use Rattle.kssd_values.specs.Pages.{Fills}
use Rattle.kssd_machine.specs.Names.{are_rising, are_valued}
use Rattle.kssd_machine.specs.Marked.{AreMarked, HasBlock}
use Rattle.kssd_reclaim.specs.declared.reclaim.Reclaim.{Reclaim}
use Rattle.kssd_mounted.specs.declared.mounted.Mounted.{Mounted}
use Rattle.kssd_mounted.specs.Collections.{CollectsIn, BearsCollection}
use Rattle.kssd_mounted.specs.Standing.{Stands, Leaves, mounted_age}
use Rattle.kssd_mounted.specs.Beside.{OnlyValues}

-- a device stands where the flash was only read; a mount takes what stands, also where only the image and the blocks stayed; where only blocks of values changed a device stands again whose index, counts and collection are as before, whose values and changes are those of the flash, and which bears the collection; and what bears a collection leaves it standing
pub record DevicesStay : Type 0 where
  pub reading : (m : Mounted) (old new : Flash) → OnlyReads old new → Stands m old → Stands m new
  pub leaves : (m : Mounted) (old new : Flash) → new.blocks ≡ old.blocks → new.image ≡ old.image → Stands m old → Leaves old (mounted_age m) new
  pub beside : (old new : Mounted) (before after : Flash) → Stands old before → OnlyValues before.blocks before.image after.image → after.powered ≡ true → after.blocks ≡ before.blocks → IsWhole after.blocks after.image
      → new.index ≡ old.index → new.keys ≡ old.keys → new.pages ≡ old.pages → device_of new.values ≡ device_of old.values → Fills new.values after.image → new.collection ≡ old.collection → BearsCollection old.values new.values before.image after.image → HasBlock new.values
      → length new.changes ≡ 4 → are_rising new.changes ≡ true → are_valued after.blocks after.image new.changes ≡ true → AreMarked new.values (shown_in before.image) new.changes → Stands new after
  pub collection : (c : Option Reclaim) (v w : Values) (before after : Image) → CollectsIn c v before → BearsCollection v w before after → CollectsIn c w after
