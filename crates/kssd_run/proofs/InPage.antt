-- What is found in the bytes of a page is of its entries.
use Rattle.std.proofs.Common.{◌≡◌, ◌∙◌, ℕ, Bool, true, false, cond, List, Option, Some, None, Result, Ok, Err, refl, ap}
use Rattle.kv_nand.specs.Flash.{Whole}
use Rattle.kssd_entry.specs.declared.entry.Entry.{Entry}
use Rattle.kssd_entry.specs.declared.fault.PageFault.{PageFault}
use Rattle.kssd_entry.specs.declared.packer.PageHead.{PageHead}
use Rattle.kssd_entry.specs.Reading.{page_at}
use Rattle.kssd_model.specs.Rising.{find_entry, entries_from}
use Rattle.kssd_model.specs.RunPages.{of_run}
use Rattle.kssd_run.specs.Page.{IsFoundIn, IsRestIn}

when_some : (b : Bool) (xs ys : List Entry) → cond b (Some xs) None ≡ Some ys → xs ≡ ys
when_some true xs ys e = cc
when_some false xs ys e = absurd cc

-- what was made of the entries that a page reads as
abbrev IsMadeOf : {A : Type 0} → (List Entry → A) → Result (PageHead × List Entry) PageFault → A → Type 0
IsMadeOf of read made = (head : PageHead) (entries : List Entry) → read ≡ Ok (head, entries) → made ≡ of entries

of_its_run : {A : Type 0} (of : List Entry → A) (number i : ℕ) (read : Result (PageHead × List Entry) PageFault) (made : A) (entries : List Entry) → IsMadeOf of read made → of_run number i read ≡ Some entries → made ≡ of entries
of_its_run of number i (Ok read) made entries h is = h read.0 read.1 refl ∙ ap of (when_some _ read.1 entries is)
of_its_run of number i (Err fault) made entries h is = absurd cc

pub found_in_whole : (bytes key : List ℕ) (found : Option Entry) → IsMadeOf (λ es. find_entry es key) (page_at 3 bytes) found → IsFoundIn (Whole bytes) key found
found_in_whole bytes key found h number i entries is = of_its_run (λ es. find_entry es key) number i (page_at 3 bytes) found entries h is

pub rest_in_whole : (bytes key : List ℕ) (rest : List Entry) → IsMadeOf (λ es. entries_from es key) (page_at 3 bytes) rest → IsRestIn (Whole bytes) key rest
rest_in_whole bytes key rest h number i entries is = of_its_run (λ es. entries_from es key) number i (page_at 3 bytes) rest entries h is
