use Rattle.std.proofs.Common.{◌∙◌, List, length, ap, subst, arith}
use Rattle.std.specs.List.{AllByRecursion}
use Rattle.kssd_entry.specs.declared.entry.Entry.{Entry}
use Rattle.kssd_entry.specs.Spelling.{FitsEntry}
use Rattle.kssd_image.specs.Stages.{shown_in}
use Rattle.kssd_image.specs.Whole.{pages_named}
use Rattle.kssd_machine.specs.Sizes.{replaced, kept_count}
use Rattle.kssd_commit.proofs.Replaced.{replaced_few}
use Rattle.kssd_commit.proofs.Judged.{few_keys, few_pages, keys_sum, pages_sum, judged_read}
use Rattle.kssd_commit.proofs.judging.judge.Goals as goal

pub overflow_cast-len : goal.overflow_cast-len
overflow_cast-len g c =
    let few = replaced_few (shown_in (g.N.Nand.flash c.args.nand.now).image) c.changes-entries.result.now in
    let size = ap (λ (es : List Entry). length es) c.in_ok-replaced.ensures.found in
    let most = ap (λ (es : List Entry). length es) c.changes-entries.ensures.value in
    omega (arith, few, size, most, c.changes-entries.ensures.list.few, c.len.ensures)

pub changed_count-keys-requires-clause-few : goal.changed_count-keys-requires-clause-few
changed_count-keys-requires-clause-few g c = few_keys c.args.mounted.now (g.N.Nand.flash c.args.nand.now) c.requires.stands

pub changed_count-keys-requires-clause-removed : goal.changed_count-keys-requires-clause-removed
changed_count-keys-requires-clause-removed g c =
    let flash = g.N.Nand.flash c.args.nand.now in
    let gone = c.in_ok-replaced.ensures.found ∙ ap (replaced (shown_in flash.image)) c.changes-entries.ensures.value in
    let sum = keys_sum c.args.mounted.now flash c.requires.stands c.args.tx.0 c.in_ok-replaced.replaced gone in
    omega (arith, sum, c.len.ensures, c.kept_in.ensures.count, ap kept_count c.changes-entries.ensures.value)

pub pages_in-requires-2 : goal.pages_in-requires-2
pages_in-requires-2 g c =
    let few = replaced_few (shown_in (g.N.Nand.flash c.args.nand.now).image) c.changes-entries.result.now in
    let size = ap (λ (es : List Entry). length es) (c.as_slice.ensures ∙ c.in_ok-replaced.ensures.found) in
    let most = ap (λ (es : List Entry). length es) c.changes-entries.ensures.value in
    omega (arith, few, size, most, c.changes-entries.ensures.list.few)

pub changed_count-pages-requires-clause-few : goal.changed_count-pages-requires-clause-few
changed_count-pages-requires-clause-few g c = few_pages c.args.mounted.now (g.N.Nand.flash c.args.nand.now) c.requires.stands

pub changed_count-pages-requires-clause-removed : goal.changed_count-pages-requires-clause-removed
changed_count-pages-requires-clause-removed g c =
    let flash = g.N.Nand.flash c.args.nand.now in
    let gone = c.in_ok-replaced.ensures.found ∙ ap (replaced (shown_in flash.image)) c.changes-entries.ensures.value in
    let fits = subst (AllByRecursion FitsEntry) c.changes-entries.ensures.value c.read_sizes.ensures in
    let sum = pages_sum c.args.mounted.now flash c.requires.stands c.args.tx.0 c.in_ok-replaced.replaced (g.met.N.Nand.sound c.args.nand.now) fits gone in
    omega (arith, sum, c.pages_in-2.ensures.count, c.pages_in.ensures.count, ap (λ (es : List Entry). length (pages_named es)) c.changes-entries.ensures.value, ap (λ (es : List Entry). length (pages_named es)) c.as_slice.ensures)

pub returns-clause-judged : goal.returns-clause-judged
returns-clause-judged g c =
    let flash = g.N.Nand.flash c.args.nand.now in
    let gone = c.in_ok-replaced.ensures.found ∙ ap (replaced (shown_in flash.image)) c.changes-entries.ensures.value in
    let fits = subst (AllByRecursion FitsEntry) c.changes-entries.ensures.value c.read_sizes.ensures in
    let keys = keys_sum c.args.mounted.now flash c.requires.stands c.args.tx.0 c.in_ok-replaced.replaced gone in
    let pages = pages_sum c.args.mounted.now flash c.requires.stands c.args.tx.0 c.in_ok-replaced.replaced (g.met.N.Nand.sound c.args.nand.now) fits gone in
    judged_read _ c.args.mounted.now c.args.tx.0 flash (g.N.Nand.flash c.replaced_by.new.nand) c.in_ok-replaced.ensures.reads (record {
      replaced_are = gone;
      keys = omega (arith, keys, c.changed_count-keys.ensures, c.len.ensures, c.kept_in.ensures.count, ap kept_count c.changes-entries.ensures.value);
      pages = omega (arith, pages, c.changed_count-pages.ensures, c.pages_in-2.ensures.count, c.pages_in.ensures.count, ap (λ (es : List Entry). length (pages_named es)) c.changes-entries.ensures.value, ap (λ (es : List Entry). length (pages_named es)) c.as_slice.ensures);
      fits = fits;
    })
