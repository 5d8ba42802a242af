-- An index whose log is empty.
use Rattle.std.proofs.Common.{◌≡◌, ◌∙◌, ℕ, ◌-◌, max, List, [], length, None, sym, ap, subst, arith}
use Rattle.kv_nand.specs.Flash.{Image}
use Rattle.kssd_entry.specs.declared.entry.Entry.{Entry}
use Rattle.kssd_image.specs.Whole.{age_by, age_in}
use Rattle.kssd_log.specs.declared.place.Place.{Place}
use Rattle.kssd_log.specs.Ring.{begun}
use Rattle.kssd_root.specs.declared.root.Root.{Root}
use Rattle.kssd_root.specs.Standing.{IsRoot, EndsAt, table_of}
use Rattle.kssd_index.specs.Standing.{IsIndex}
use Rattle.kssd_index.proofs.Later.{within_of, unsplit}
use Rattle.kssd_root.proofs.Beginning.{anchor_age_is}
use Rattle.kssd_root.proofs.Moving.{root_age}

pub record IsPlacedAt (root : Root) (table : List Entry) (ring : Place) (age blocks : ℕ) (image : Image) : Type 0 where
  pub stands : IsIndex (record { root = root; table = table; older = None; ring = ring; age = age; job = None }) blocks image
  pub age_is : age ≡ age_in image

pub placed : (root : Root) (table : List Entry) (ring : Place) (block first seq age blocks : ℕ) (image : Image) → IsRoot root blocks image → table ≡ [] → ring ≡ begun block first → EndsAt (begun block first) root.anchor image → table_of image root.anchor ≡ [] → seq ≡ ring.seq
    → age ≡ max (max root.anchor.number (max root.anchor.next_run root.anchor.log_seq)) (seq - 1) → IsPlacedAt root table ring age blocks image
placed root table ring block first seq age blocks image h none ring_is log empty number aged =
    let here : EndsAt ring root.anchor image = subst (λ (p : Place). EndsAt p root.anchor image) (sym ring_is) log in
    let age_is : age ≡ age_by image root.anchor = omega (arith, aged, number, here.number, anchor_age_is blocks root.anchor h.anchored.index.form) in
    record {
      stands = record {
        root = h;
        split = unsplit root blocks image h;
        log = here;
        long = within_of ring root.anchor image here;
        left = omega (arith, ap (λ (p : Place). p.blocks) ring_is);
        table = none ∙ sym empty;
        few = omega (arith, ap (λ (es : List Entry). length es) none);
        older_few = omega arith;
        numbers = omega (arith, age_is);
        job = tt;
      };
      age_is = age_is ∙ sym (root_age root blocks image h);
    }
