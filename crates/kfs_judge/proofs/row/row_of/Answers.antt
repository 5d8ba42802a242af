use Rattle.std.specs.Prelude.{◌==◌}
use Rattle.std.proofs.Common.{rules, ◌+◌, ◌*◌, ◌∙◌, sym, ap, subst, List, ℕ, length, drop}
use Rattle.kfs_objects.specs.declared.keys.ObjectKey.TheVariants.{Inode, Entry, Chunk, Orphan}
use Rattle.kfs_model.specs.Tree.{IsName, IsShort}
use Rattle.kfs_judge.proofs.Spelled.{keyed, form_of}
use Rattle.kfs_judge.proofs.row.row_of.Goals as goal

pub returns-in-None : goal.returns-in-None
returns-in-None c = record {
  key = keyed c.args.pair.now.key c.bytes-bytes.result.now (search rules) c.bytes-bytes.ensures.value c.bytes-bytes.ensures.sizes;
  tells = c.in-None.ensures.none;
}

pub returns-in-Some-Inode : goal.returns-in-Some-Inode
returns-in-Some-Inode c =
    let form = form_of c.args.pair.now.key c.in-Some-Inode.field-0 (Inode c.in-Some-Inode.node) c.in-Some-Inode.ensures.some c.in-Some-Inode.field-0-is in
    record {
      key = keyed c.args.pair.now.key c.bytes-bytes.result.now (search rules) c.bytes-bytes.ensures.value c.bytes-bytes.ensures.sizes;
      tells = (form.0, form.1, c.read-in-Some-Inode.ensures.reads);
    }

pub returns-in-Some-Entry : goal.returns-in-Some-Entry
returns-in-Some-Entry c =
    let key = c.args.pair.now.key in
    let form = form_of key c.in-Some-Entry.field-0 (Entry c.in-Some-Entry.parent) c.in-Some-Entry.ensures.some c.in-Some-Entry.field-0-is in
    let name = c.name_in.ensures ∙ ap (drop 9) c.bytes-bytes.ensures.value in
    record {
      key = keyed key c.bytes-bytes.result.now (search rules) c.bytes-bytes.ensures.value c.bytes-bytes.ensures.sizes;
      tells = record {
        name = drop 9 key;
        spelled = form.0;
        low = form.1;
        short = form.2;
        reads = c.child_in.ensures.reads;
        child_low = c.child_in.ensures.low;
        is_name = λ yes. subst IsName name (c.is_name.ensures.yes yes (subst IsShort (sym name) form.2));
        is_none = λ named. c.is_name.ensures.no (subst IsName (sym name) named);
      };
    }

pub returns-in-Some-Chunk : goal.returns-in-Some-Chunk
returns-in-Some-Chunk c =
    let form = form_of c.args.pair.now.key c.in-Some-Chunk.field-0 (Chunk c.in-Some-Chunk.node c.in-Some-Chunk.chunk) c.in-Some-Chunk.ensures.some c.in-Some-Chunk.field-0-is in
    let size = ap (λ (l : List ℕ). length l) c.bytes-size.ensures.value in
    record {
      key = keyed c.args.pair.now.key c.bytes-bytes.result.now (search rules) c.bytes-bytes.ensures.value c.bytes-bytes.ensures.sizes;
      tells = record { chunk = c.in-Some-Chunk.chunk; spelled = form.0; low = form.1; small = form.2; ends = ap (λ n. 4096 * c.in-Some-Chunk.chunk + n) size; empty = ap (λ n. n == 0) size };
    }

pub returns-in-Some-Orphan : goal.returns-in-Some-Orphan
returns-in-Some-Orphan c =
    let form = form_of c.args.pair.now.key c.in-Some-Orphan.field-0 (Orphan c.in-Some-Orphan.node) c.in-Some-Orphan.ensures.some c.in-Some-Orphan.field-0-is in
    record {
      key = keyed c.args.pair.now.key c.bytes-bytes.result.now (search rules) c.bytes-bytes.ensures.value c.bytes-bytes.ensures.sizes;
      tells = (form.0, form.1, c.is_orphan_value.ensures.yes, c.is_orphan_value.ensures.no);
    }
