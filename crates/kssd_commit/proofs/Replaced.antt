-- The entries that others replace, one after the other.
use Rattle.std.proofs.Common.{◌≡◌, ◌∙◌, ℕ, ◌+◌, ◌<◌, ◌≤◌, List, [], ◌∷◌, ◌++◌, length, get_or, take, Option, Some, None, refl, sym, ap, append_assoc, length-append, arith}
use Rattle.std.proofs.lemmas.List.{take_more}
use Rattle.kv_nand.specs.Flash.{Flash}
use Rattle.kssd_entry.specs.declared.entry.Entry.{Entry}
use Rattle.kssd_entry.specs.Spelling.{key_of}
use Rattle.kssd_model.specs.OnlyReading.{OnlyReads}
use Rattle.kssd_model.specs.Rising.{find_entry}
use Rattle.kssd_image.specs.Stages.{shown_in}
use Rattle.kssd_machine.specs.Sizes.{listed, replaced}

replaced_push : (older entries : List Entry) (e : Entry) → replaced older (entries ++ e ∷ []) ≡ replaced older entries ++ listed (find_entry older (key_of e))
replaced_push older [] e = append_nil (listed (find_entry older (key_of e)))
  where
    append_nil : (xs : List Entry) → xs ++ [] ≡ xs
    append_nil [] = refl
    append_nil (x ∷ xs) = ap (λ ys. x ∷ ys) (append_nil xs)
replaced_push older (x ∷ xs) e =
    ap (λ ys. listed (find_entry older (key_of x)) ++ ys) (replaced_push older xs e)
    ∙ sym (append_assoc (listed (find_entry older (key_of x))) (replaced older xs) (listed (find_entry older (key_of e))))

-- one entry more
pub replaced_more : (older entries : List Entry) (i : ℕ) (e : Entry) → i < length entries → e ≡ get_or entries i e → replaced older (take (i + 1) entries) ≡ replaced older (take i entries) ++ listed (find_entry older (key_of e))
replaced_more older entries i e lt is =
    ap (replaced older) (take_more entries i e lt ∙ ap (λ (x : Entry). take i entries ++ x ∷ []) (sym is)) ∙ replaced_push older (take i entries) e

-- no more are replaced than there are
pub replaced_few : (older entries : List Entry) → length (replaced older entries) ≤ length entries
replaced_few older [] = omega arith
replaced_few older (e ∷ es) = omega (arith, length-append (listed (find_entry older (key_of e))) (replaced older es), one (find_entry older (key_of e)), replaced_few older es)
  where
    one : (o : Option Entry) → length (listed o) ≤ 1
    one None = omega arith
    one (Some x) = omega arith

-- the entry that is found after reads is the one that was there before them
pub found_before : (old now : Flash) (key : List ℕ) (e : Entry) (older : Option Entry) → OnlyReads old now → older ≡ find_entry (shown_in now.image) key → key ≡ key_of e → older ≡ find_entry (shown_in old.image) (key_of e)
found_before old now key e older reads found same = found ∙ (λ j. find_entry (shown_in (reads.after j).image) (same j))
