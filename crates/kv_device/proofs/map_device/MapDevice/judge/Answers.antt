use Rattle.std.proofs.Common.{arith}
use Rattle.kv_device.specs.Objects.{seen_through}
use Rattle.kv_device.proofs.MachineLaws.{len-seen_through}
use Rattle.kv_device.proofs.SlotLaws.{page_count-le}
use Rattle.kv_device.proofs.map_device.MapDevice.judge.Goals as goal

pub overflow_cast-result : goal.overflow_cast-result
overflow_cast-result c =
    let s = c.args.self.now in
    let few = c.in-Ok.slot.now.few in
    let room = s.has_room in
    let small = s.small in
    let len = len-seen_through c.in-Ok.slot.now.changes s.stable.map in
    let keys = c.size_after-size.ensures.keys in
    omega arith

pub overflow_cast-result-then-size-self : goal.overflow_cast-result-then-size-self
overflow_cast-result-then-size-self c =
    let s = c.args.self.now in
    let few = c.in-Ok.slot.now.few in
    let room = s.has_room in
    let small = s.small in
    let len = len-seen_through c.in-Ok.slot.now.changes s.stable.map in
    let pages = page_count-le (seen_through c.in-Ok.slot.now.changes s.stable.map) in
    let same = c.size_after-size.ensures.pages in
    omega arith
