use Rattle.std.proofs.Common.{◌≡◌, ◌-◌, ◌*◌, ◌%◌}
use Rattle.kv_nand.specs.Working.{Works}
use Rattle.kssd_log.specs.Scan.{IsScanning}
use Rattle.kssd_log.proofs.scanning.scan.Given as goal

abbrev pub invariant-pages : goal.invariant-pages
invariant-pages g l = record {
  so_far : IsScanning (g.N.Nand.flash l.initial.nand).image (32 * l.fn.block) l.fn.seq l.groups l.rest l.keys.keys l.turns l.page l.number;
  same : (g.N.Nand.flash l.nand).image ≡ (g.N.Nand.flash l.initial.nand).image;
  works : Works (g.N.Nand.flash l.initial.nand) (g.N.Nand.flash l.nand) 0 (l.number - l.fn.seq);
}

abbrev pub decreases-pages : goal.decreases-pages
decreases-pages g l = 32 * (17 - l.turns) - l.page % 32
