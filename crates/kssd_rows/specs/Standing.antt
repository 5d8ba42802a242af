-- What the next call needs of a device, and of a flash without one.
use Rattle.std.specs.Prelude.{ℕ, ◌≤◌, ◌+◌, ◌*◌, ◌^◌}
use Rattle.nand_mem.specs.MemNand.{mem}
use Rattle.kssd_rows.specs.declared.bench.Bench.{Bench}
use Rattle.kssd_rows.specs.declared.bench.Bench.TheVariants as benches

-- the numbers of a device that was mounted so many calls ago are far from their end, and a flash has 256 to 2,048 blocks
abbrev pub MayCall : Bench → ℕ → Type 0
MayCall (benches.Up age) calls = age ≤ 2 ^ 62 + 2 ^ 21 + 2 ^ 20 * calls
MayCall (benches.Down nand) calls = (256 ≤ (mem nand).flash.blocks) × ((mem nand).flash.blocks ≤ 2048)
