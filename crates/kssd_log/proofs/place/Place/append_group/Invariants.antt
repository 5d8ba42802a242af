use Rattle.std.proofs.Common.{◌≡◌, ◌≤◌, ◌<◌, ◌+◌, length, take, drop}
use Rattle.std.specs.List.{AllByRecursion}
use Rattle.kssd_entry.specs.Spelling.{FitsEntry}
use Rattle.kssd_log.specs.Ring.{IsInRing, room_of}
use Rattle.kssd_log.specs.Append.{IsUnderWay, pages_more}
use Rattle.kssd_log.proofs.place.Place.append_group.Given as goal

abbrev pub invariant-loop-entry : goal.invariant-loop-entry
invariant-loop-entry g l = record {
  way : IsUnderWay (g.N.Nand.flash l.initial.nand) l.initial.self (g.N.Nand.flash l.nand) l.self l.packer (take l.entry-index l.entry-items);
  ring : IsInRing l.self;
  room : pages_more (length l.packer.bytes) (drop l.entry-index l.entry-items) + room_of l.initial.self ≡ pages_more 0 l.entry-items + room_of l.self;
  size : length l.packer.bytes ≤ 4096;
  some : 0 < l.entry-index → 1 ≤ l.packer.count;
  first : 0 < l.entry-index → AllByRecursion FitsEntry (take 1 l.entry-items);
}
