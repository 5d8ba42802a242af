use Rattle.std.proofs.Common.{◌≡◌, ◌∙◌, ap, sym, rules, to_z, of_z, w64}
use Rattle.std.proofs.lemmas.Int.{to_z-of_z}
use Rattle.kfs_path.specs.declared.call.Call.TheVariants as calls
use Rattle.kfs_posix.proofs.Answered.{named_answers}
use Rattle.kfs_posix.proofs.session.Session.step.Goals as goal

pub returns-in-Mkdir-clause-answers : goal.returns-in-Mkdir-clause-answers
returns-in-Mkdir-clause-answers g c = named_answers c.args.self.now c.mkdir.new.self (calls.Mkdir c.bytes.result.now) c.args.call.now c.mkdir.result (ap calls.Mkdir c.bytes.ensures ∙ sym c.in-Mkdir.is) c.mkdir.ensures

pub returns-in-Stat-clause-answers : goal.returns-in-Stat-clause-answers
returns-in-Stat-clause-answers g c = named_answers c.args.self.now c.stat.new.self (calls.Stat c.bytes-in-Stat.result.now) c.args.call.now c.stat.result (ap calls.Stat c.bytes-in-Stat.ensures ∙ sym c.in-Stat.is) c.stat.ensures

pub returns-in-List-clause-answers : goal.returns-in-List-clause-answers
returns-in-List-clause-answers g c = named_answers c.args.self.now c.list.new.self (calls.List c.bytes-in-List.result.now) c.args.call.now c.list.result (ap calls.List c.bytes-in-List.ensures ∙ sym c.in-List.is) c.list.ensures

pub returns-in-Sync-clause-answers : goal.returns-in-Sync-clause-answers
returns-in-Sync-clause-answers g c = named_answers c.args.self.now c.sync.new.self calls.Sync c.args.call.now c.sync.result (sym c.in-Sync.is) c.sync.ensures

pub returns-in-Room-clause-answers : goal.returns-in-Room-clause-answers
returns-in-Room-clause-answers g c = named_answers c.args.self.now c.args.self.now calls.Room c.args.call.now c.room.result (sym c.in-Room.is) c.room.ensures

pub returns-in-Open-clause-answers : goal.returns-in-Open-clause-answers
returns-in-Open-clause-answers g c = named_answers c.args.self.now c.open.new.self (calls.Open c.bytes-in-Open.result.now c.in-Open.flags) c.args.call.now c.open.result (ap (λ p. calls.Open p c.in-Open.flags) c.bytes-in-Open.ensures ∙ sym c.in-Open.is) c.open.ensures

pub returns-in-Unlink-clause-answers : goal.returns-in-Unlink-clause-answers
returns-in-Unlink-clause-answers g c = named_answers c.args.self.now c.unlink.new.self (calls.Unlink c.bytes-in-Unlink.result.now) c.args.call.now c.unlink.result (ap calls.Unlink c.bytes-in-Unlink.ensures ∙ sym c.in-Unlink.is) c.unlink.ensures

pub returns-in-Truncate-clause-answers : goal.returns-in-Truncate-clause-answers
returns-in-Truncate-clause-answers g c =
    let same : to_z w64 (of_z w64 c.in-Truncate.length) ≡ c.in-Truncate.length = search (rules, to_z-of_z) in
    named_answers c.args.self.now c.truncate.new.self (calls.Truncate c.bytes-in-Truncate.result.now (to_z w64 (of_z w64 c.in-Truncate.length))) c.args.call.now c.truncate.result ((λ i. calls.Truncate (c.bytes-in-Truncate.ensures i) (same i)) ∙ sym c.in-Truncate.is) c.truncate.ensures

pub returns-in-Rmdir-clause-answers : goal.returns-in-Rmdir-clause-answers
returns-in-Rmdir-clause-answers g c = named_answers c.args.self.now c.rmdir.new.self (calls.Rmdir c.bytes-in-Rmdir.result.now) c.args.call.now c.rmdir.result (ap calls.Rmdir c.bytes-in-Rmdir.ensures ∙ sym c.in-Rmdir.is) c.rmdir.ensures

pub returns-in-Rename-clause-answers : goal.returns-in-Rename-clause-answers
returns-in-Rename-clause-answers g c = named_answers c.args.self.now c.rename.new.self (calls.Rename c.bytes-in-Rename.result.now c.bytes-in-Rename-2.result.now) c.args.call.now c.rename.result ((λ i. calls.Rename (c.bytes-in-Rename.ensures i) (c.bytes-in-Rename-2.ensures i)) ∙ sym c.in-Rename.is) c.rename.ensures

pub returns-in-Tree-clause-answers : goal.returns-in-Tree-clause-answers
returns-in-Tree-clause-answers g c = named_answers c.args.self.now c.tree.new.self calls.Tree c.args.call.now c.tree.result (sym c.in-Tree.is) c.tree.ensures
