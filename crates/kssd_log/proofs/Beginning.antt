-- A ring block is erased in which a new log begins.
use Rattle.std.proofs.Common.{◌≡◌, ℕ, ◌*◌, ◌≤◌, sym, ap, subst, arith, inl, inr, [], refl}
use Rattle.kv_nand.specs.Flash.{Flash, Image, Erased, LeftByErase}
use Rattle.kv_nand.specs.Calls.{erased}
use Rattle.kssd_model.specs.Groups.{HasLog, seen, next_block}
use Rattle.kssd_model.proofs.GroupsPaths.{next_in_ring, ends_in_ring}
use Rattle.kssd_log.specs.Ring.{begun}
use Rattle.kssd_log.specs.Append.{IsLogPlace, KeepsLogs, StaysOutside}
use Rattle.kssd_log.proofs.Turning.{erased_log, is_erased}

pub begin_keeps : (old new : Image) (last : ℕ) → LeftByErase old (next_block last) new → KeepsLogs last old new
begin_keeps old new last by page number turns end next groups rest of few at log =
    let ends = ends_in_ring old page number log.pages end next log.path of.low of.high in
    erased_log old new (record { page = end; seq = next; blocks = 0 }) page number turns groups rest (record { low = ends.0; high = ends.1 })
    (subst (λ (b : ℕ). LeftByErase old (next_block b) new) (sym at) by) of (omega arith) log

pub begin_outside : (old new : Image) (last : ℕ) → 2 ≤ last → last ≤ 19 → LeftByErase old (next_block last) new → StaysOutside old new
begin_outside old new last low high by q out =
    let n = next_in_ring last low (omega arith) in
    by.elsewhere q (λ e. elim out [ inl l ↦ absurd (omega (arith, n.1)) | inr l ↦ absurd (omega (arith, n.2)) ])

pub begin_place : (old new : Flash) (last seq : ℕ) → 256 ≤ old.blocks → new ≡ erased old (next_block last) → IsLogPlace new (begun (next_block last) seq)
begin_place old new last seq blocks e = record {
  free = record {
    here = is_erased old new (next_block last) (32 * next_block last) e (omega arith);
    earlier = λ q same less gone. absurd (omega arith);
    later = λ q same more. is_erased old new (next_block last) q e (omega arith);
  };
  blocks = rw (ap (λ f. f.blocks) e) blocks;
}

-- a log that begins where a page is Erased has nothing in it
pub empty_log : (image : Image) (page number : ℕ) → image page ≡ Erased → HasLog image page number [] [] 0 page number
empty_log image page number erased = record {
  pages = [];
  path = (refl, refl);
  stand = tt;
  ends = ap (seen page number) erased;
  groups_are = refl;
  rest_is = refl;
  turns_are = refl;
}
