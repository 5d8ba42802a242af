use Rattle.std.proofs.Common.{◌≡◌, ◌∙◌, sym, ap, subst, T}
use Rattle.std.proofs.lemmas.Result.{on_ok_weaker}
use Rattle.std.specs.FinMap as objects
use Rattle.std.specs.FinMap.Entries.{is_sorted}
use Rattle.kv_device.specs.Bytes.{bytes_cmp}
use Rattle.kv_device.specs.Objects.{changed_all, seen_through}
use Rattle.kv_device.proofs.KeyMapLaws.{entries_shown, sorted_test}
use Rattle.kv_device.proofs.key_map.KeyMap+Option+Value.apply_to.Goals as goal

pub make-requires : goal.make-requires
make-requires c = subst (λ es. T (is_sorted bytes_cmp es)) (sym c.iter.ensures.rest) (sorted_test c.self.inside.map.entries c.iter.ensures.ordered)

pub returns-clause-ok : goal.returns-clause-ok
unfolding seen_through
returns-clause-ok c =
    let all : c.iter.result ≡ objects.entries c.args.self.now = c.iter.ensures.rest ∙ sym (entries_shown c.self.inside.map.entries c.args.self.now c.iter.ensures.ordered c.self.view_is) in
    on_ok_weaker c.make.result (λ (e : c.make.new.self ≡ changed_all c.iter.result c.args.objects.now). e ∙ ap (λ es. changed_all es c.args.objects.now) all) c.make.ensures.ok
