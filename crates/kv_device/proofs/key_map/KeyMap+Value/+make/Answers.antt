use Rattle.std.proofs.Common.{◌≡◌, ◌∙◌, sym, ◌∷◌, None, rules}
use Rattle.std.specs.FinMap as objects
use Rattle.kv_device.proofs.MakeLaws.{put_there, first_last, undone}
use Rattle.kv_device.proofs.key_map.KeyMap+Value.+make.Goals as goal

pub put_back-requires : goal.put_back-requires
put_back-requires t c =
    put_there c.args.self.now c.make-in-Some-default-Some.new.self _ _ _ (c.in-Err-make.ensures.err ∙ c.in_ok-old-in-Some-default-Some.ensures.ok)
    (c.in_ok-spare-in-Some-default-Some.ensures ∙ sym c.in_ok-copy-in-Some-default-Some.ensures)

pub returns-in-Ok-clause-ok : goal.returns-in-Ok-clause-ok
returns-in-Ok-clause-ok t c =
    let left : c.args.rest ≡ (c.in-Some-default-None.key.now, None) ∷ c.next.new.self = search rules in
    c.remove.ensures ∙ (λ i. objects.remove (c.in-Ok.ensures.ok i) c.in-Some-default-None.key.now) ∙ first_last c.args.rest c.next.new.self c.args.self.now c.in-Some-default-None.key.now None left c.requires

pub returns-in-Err-make-clause-err : goal.returns-in-Err-make-clause-err
returns-in-Err-make-clause-err t c =
    c.put_back.ensures
    ∙ undone c.args.self.now c.make-in-Some-default-Some.new.self _ _ _ _ (c.in-Err-make.ensures.err ∙ c.in_ok-old-in-Some-default-Some.ensures.ok)
    (c.in_ok-spare-in-Some-default-Some.ensures ∙ sym c.in_ok-copy-in-Some-default-Some.ensures) c.in_ok-old-in-Some-default-Some.ensures.old
