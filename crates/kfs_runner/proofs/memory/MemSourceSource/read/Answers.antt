use Rattle.std.proofs.Common.{◌≡◌, ◌-◌, List, ℕ, length, take, drop, subst}
use Rattle.kfs_runner.proofs.Streams.{gives_middle}
use Rattle.kfs_runner.proofs.memory.MemSourceSource.read.Goals as goal

pub returns-clause-moved : goal.returns-clause-moved
returns-clause-moved c =
    let n = c.fill_front-n.result in
    let place = c.args.self.now.at in
    let P : List ℕ → Type 0 = λ bytes. take n c.fill_front-n.new.into ≡ take n (take (length bytes - place) (drop place bytes)) in
    gives_middle c.args.self.now.bytes.items c.fill_front-n.new.into place n (subst P c.deref.ensures.value c.fill_front-n.ensures.front)
