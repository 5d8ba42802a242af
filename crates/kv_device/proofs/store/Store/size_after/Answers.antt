use Rattle.std.proofs.Common.{arith}
use Rattle.kv_device.specs.Sizes.{one, large}
use Rattle.kv_device.specs.Objects.{seen_through}
use Rattle.kv_device.proofs.SizeLaws.{total-seen_through, total-one, total-large, new_total-le, large-le}
use Rattle.kv_device.proofs.SlotLaws.{page_count-le}
use Rattle.kv_device.proofs.store.Store.size_after.Goals as goal

pub overflow_add-result : goal.overflow_add-result
overflow_add-result c =
    let few = new_total-le one c.args.changes.now (λ v. omega arith) in
    omega arith

pub overflow_sub-result : goal.overflow_sub-result
overflow_sub-result c =
    let keys = total-seen_through one c.args.changes.now c.args.self.now.map in
    let before = total-one c.args.self.now.map in
    omega arith

pub overflow_add-result-2 : goal.overflow_add-result-2
overflow_add-result-2 c =
    let few = new_total-le large c.args.changes.now large-le in
    let pages = page_count-le c.args.self.now.map in
    omega (arith, c.args.self.now.paged)

pub overflow_sub-result-2 : goal.overflow_sub-result-2
overflow_sub-result-2 c =
    let pages = total-seen_through large c.args.changes.now c.args.self.now.map in
    let before = total-large c.args.self.now.map in
    omega (arith, c.args.self.now.paged)

pub returns-clause-keys : goal.returns-clause-keys
returns-clause-keys c =
    let keys = total-seen_through one c.args.changes.now c.args.self.now.map in
    let before = total-one c.args.self.now.map in
    let after = total-one (seen_through c.args.changes.now c.args.self.now.map) in
    omega arith

pub returns-clause-pages : goal.returns-clause-pages
returns-clause-pages c =
    let pages = total-seen_through large c.args.changes.now c.args.self.now.map in
    let before = total-large c.args.self.now.map in
    let after = total-large (seen_through c.args.changes.now c.args.self.now.map) in
    omega (arith, c.args.self.now.paged)
