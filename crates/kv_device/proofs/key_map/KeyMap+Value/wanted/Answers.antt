use Rattle.std.proofs.Common.{◌≡◌, ◌∙◌, sym, filter, rules}
use Rattle.std.specs.FinMap as objects
use Rattle.kv_device.specs.Objects.{is_wanted}
use Rattle.kv_device.proofs.KeyMapLaws.{entries_shown}
use Rattle.kv_device.proofs.WantedLaws.{puts, puts_wanted, puts_more}
use Rattle.kv_device.proofs.key_map.KeyMap+Value.wanted.Goals as goal

pub loop-key-init : goal.loop-key-init
loop-key-init c =
    let iter = c.into_iter-key-iterator.ensures.into_iter_gives in
    let all : c.into_iter-key-iterator.result ≡ objects.entries c.args.self.now = iter.0 ∙ sym (entries_shown c.self.inside.map.entries c.args.self.now iter.5 c.self.view_is) in
    (λ i. puts (filter (λ e. is_wanted c.args.from.now c.args.prefix.now e.0) (all i)) (c.new-near.ensures i))
    ∙ puts_wanted c.args.self.now (is_wanted c.args.from.now c.args.prefix.now)

pub loop-key-preserved : goal.loop-key-preserved
loop-key-preserved c =
    puts_more (λ e. is_wanted c.args.from.now c.args.prefix.now e.0) c.loop-key.key-iterator c.next.new.self (c.in-Some.key.now, c.in-Some.value.now) c.loop-key.near c.put_wanted.new.self _
    (search rules) c.in_ok-put_wanted.ensures c.loop-key.invariant
