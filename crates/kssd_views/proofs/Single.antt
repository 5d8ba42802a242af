-- The value of one key.
use Rattle.std.proofs.Common.{◌≡◌, ◌∙◌, ℕ, true, List, Some, Option, sym, ap}
use Rattle.std.specs.List.{list_all}
use Rattle.std.specs.FinMap as objects
use Rattle.kv_nand.specs.Flash.{Flash, Image}
use Rattle.kv_device.specs.Machine.{view}
use Rattle.kssd_entry.specs.declared.entry.Entry.{Entry}
use Rattle.kssd_entry.specs.declared.entry.Entry.TheVariants.{At}
use Rattle.kssd_model.specs.OnlyReading.{OnlyReads}
use Rattle.kssd_model.specs.Rising.{find_entry, first_of}
use Rattle.kssd_image.specs.ValuePages.{has_value}
use Rattle.kssd_image.specs.Stages.{shown_in}
use Rattle.kssd_image.specs.Whole.{has_its_value}
use Rattle.kssd_tx.specs.Lists.{Transactions, change_of}
use Rattle.kssd_values.specs.Pages.{key_in}
use Rattle.kssd_machine.specs.Names.{are_rising}
use Rattle.kssd_machine.specs.Machines.{machine_of}
use Rattle.kssd_machine.proofs.Seeing.{get_found, visible_valued, page_read}
use Rattle.kssd_views.specs.Seen.{seen_value}

-- the page that an entry names is that of a value
pub page_stands : (blocks : ℕ) (image : Image) (entry : Entry) (key : List ℕ) (page size got : ℕ) → has_its_value blocks image entry ≡ true → entry ≡ At key page size → got ≡ size → has_value (key_in (image page)) got (image page) ≡ true
page_stands blocks image entry key page size got valued is same =
    ap (λ n. has_value (key_in (image page)) n (image page)) same ∙ (page_read blocks image key page size (sym (ap (has_its_value blocks image) is) ∙ valued)).stands

-- a key's value by its change and the visible entry
pub value_seen : (flash : Flash) (lists : Transactions) (tx : ℕ) (key : List ℕ) (own : Option Entry) → are_rising lists ≡ true → own ≡ change_of lists tx key
    → seen_value flash.image (first_of own (find_entry (shown_in flash.image) key)) ≡ objects.get (view (machine_of flash true lists) tx) key
value_seen flash lists tx key own rising is =
    ap (λ o. seen_value flash.image (first_of o (find_entry (shown_in flash.image) key))) is ∙ sym (get_found flash lists tx key rising)

-- what was found is valued after mere reading too
pub found_valued : (old new : Flash) (key : List ℕ) (found : Option Entry) (entry : Entry) → list_all (has_its_value old.blocks old.image) (shown_in old.image) ≡ true → OnlyReads old new → found ≡ find_entry (shown_in old.image) key → found ≡ Some entry
    → has_its_value new.blocks new.image entry ≡ true
found_valued old new key found entry all reads is some =
    ap (λ (f : Flash). has_its_value f.blocks f.image entry) reads.after ∙ visible_valued old.blocks old.image (shown_in old.image) key entry all (sym is ∙ some)

-- it is seen in the image before
pub found_seen : (old new : Flash) (key : List ℕ) (found : Option Entry) (entry : Entry) (value : Option (List ℕ)) → OnlyReads old new → found ≡ find_entry (shown_in old.image) key → found ≡ Some entry → value ≡ seen_value new.image (Some entry)
    → value ≡ seen_value old.image (find_entry (shown_in old.image) key)
found_seen old new key found entry value reads is some given =
    given ∙ ap (λ (f : Flash). seen_value f.image (Some entry)) reads.after ∙ ap (seen_value old.image) (sym some ∙ is)
