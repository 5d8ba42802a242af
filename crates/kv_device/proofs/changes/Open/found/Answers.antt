use Rattle.std.proofs.Common.{arith}
use Rattle.kv_device.proofs.MachineLaws.{get-seen_through}
use Rattle.kv_device.proofs.changes.Open.found.Goals as goal

pub returns-in_ok-copy-in-Some-Some : goal.returns-in_ok-copy-in-Some-Some
returns-in_ok-copy-in-Some-Some c =
    let s = get-seen_through c.args.self.now.changes c.args.stable.now c.args.key.now in
    grind (arith, s)

pub returns-in-Some-None : goal.returns-in-Some-None
returns-in-Some-None c =
    let s = get-seen_through c.args.self.now.changes c.args.stable.now c.args.key.now in
    grind (arith, s)

pub returns-in_ok-copy-in-Some : goal.returns-in_ok-copy-in-Some
returns-in_ok-copy-in-Some c =
    let s = get-seen_through c.args.self.now.changes c.args.stable.now c.args.key.now in
    grind (arith, s)

pub returns-in-None-get : goal.returns-in-None-get
returns-in-None-get c =
    let s = get-seen_through c.args.self.now.changes c.args.stable.now c.args.key.now in
    grind (arith, s)
