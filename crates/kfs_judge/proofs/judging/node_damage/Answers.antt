use Rattle.std.proofs.Common.{◌≡◌, ◌∙◌, Some, None, rules, arith}
use Rattle.kfs_damages.specs.Damages.{IsBadInode, IsBadEntry, IsBadChunk, IsBadOrphan, named_charge, named_chunks}
use Rattle.kfs_judge.specs.Judged.{limits_of}
use Rattle.kfs_judge.proofs.Chunks.{least_of_chunks, least_of_orphans}
use Rattle.kfs_judge.proofs.Deciding.{bad_inode, bad_entry as entry_damage, bad_chunk as chunk_damage, bad_orphan as orphan_damage, no_room, all_clear, none_strange, all_formed}
use Rattle.kfs_judge.proofs.Entries.{least_of_entries}
use Rattle.kfs_judge.proofs.Inodes.{none_holds, least_holds}
use Rattle.kfs_judge.proofs.Roomy.{charge_is, chunks_are}
use Rattle.kfs_judge.proofs.judging.node_damage.Goals as goal
use Rattle.kfs_judge.proofs.judging.node_damage.Goals.{then-taken-room-via-then-taken-room, then-taken-room-via-else-taken-room+then-taken-room-2}

pub returns-in-Some : goal.returns-in-Some
returns-in-Some c = λ m are head next.
    let rs = c.args.rows.now in
    let k = limits_of c.args.room in
    let t = c.in_ok-tables.tables in
    let tables = c.in_ok-tables.ensures.tables in
    let reached = c.in_ok-tables.ensures.reached in
    let keys = none_strange m rs are c.requires.formed in
    bad_inode k m head keys c.in-Some.node (least_holds (IsBadInode m) c.in-Some.node (c.in-Some.ensures.found m are next) (first_of (omega arith, search rules)))

pub returns-in-Some-least_entry : goal.returns-in-Some-least_entry
returns-in-Some-least_entry c = λ m are head next.
    let rs = c.args.rows.now in
    let k = limits_of c.args.room in
    let t = c.in_ok-tables.tables in
    let tables = c.in_ok-tables.ensures.tables in
    let reached = c.in_ok-tables.ensures.reached in
    let keys = none_strange m rs are c.requires.formed in
    let inodes = none_holds (IsBadInode m) (c.in_default.ensures.found m are next) in
    let n = c.in-Some-least_entry.node in
    entry_damage k m head keys inodes n (least_holds (IsBadEntry m) n (least_of_entries m rs are t tables reached (Some n) c.in-Some-least_entry.ensures) (first_of (omega arith, search rules)))

pub returns-in-Some-least_chunk : goal.returns-in-Some-least_chunk
returns-in-Some-least_chunk c = λ m are head next.
    let rs = c.args.rows.now in
    let k = limits_of c.args.room in
    let t = c.in_ok-tables.tables in
    let tables = c.in_ok-tables.ensures.tables in
    let reached = c.in_ok-tables.ensures.reached in
    let keys = none_strange m rs are c.requires.formed in
    let inodes = none_holds (IsBadInode m) (c.in_default.ensures.found m are next) in
    let entries = none_holds (IsBadEntry m) (least_of_entries m rs are t tables reached None c.in_default-least_entry.ensures) in
    let n = c.in-Some-least_chunk.node in
    chunk_damage k m head keys inodes entries n (least_holds (IsBadChunk m) n (least_of_chunks m rs are t tables (Some n) c.in-Some-least_chunk.ensures) (first_of (omega arith, search rules)))

pub returns-in-Some-least_orphan : goal.returns-in-Some-least_orphan
returns-in-Some-least_orphan c = λ m are head next.
    let rs = c.args.rows.now in
    let k = limits_of c.args.room in
    let t = c.in_ok-tables.tables in
    let tables = c.in_ok-tables.ensures.tables in
    let reached = c.in_ok-tables.ensures.reached in
    let keys = none_strange m rs are c.requires.formed in
    let inodes = none_holds (IsBadInode m) (c.in_default.ensures.found m are next) in
    let entries = none_holds (IsBadEntry m) (least_of_entries m rs are t tables reached None c.in_default-least_entry.ensures) in
    let chunks = none_holds (IsBadChunk m) (least_of_chunks m rs are t tables None c.in_default-least_chunk.ensures) in
    let n = c.in-Some-least_orphan.node in
    orphan_damage k m head keys inodes entries chunks n (least_holds (IsBadOrphan m) n (least_of_orphans m rs are t tables (Some n) c.in-Some-least_orphan.ensures) (first_of (omega arith, search rules)))

pub returns-then-taken-room : goal.returns-then-taken-room
returns-then-taken-room c = λ m are head next.
    let rs = c.args.rows.now in
    let k = limits_of c.args.room in
    let t = c.in_ok-tables.tables in
    let tables = c.in_ok-tables.ensures.tables in
    let reached = c.in_ok-tables.ensures.reached in
    let keys = none_strange m rs are c.requires.formed in
    let inodes = none_holds (IsBadInode m) (c.in_default.ensures.found m are next) in
    let entries = none_holds (IsBadEntry m) (least_of_entries m rs are t tables reached None c.in_default-least_entry.ensures) in
    let chunks = none_holds (IsBadChunk m) (least_of_chunks m rs are t tables None c.in_default-least_chunk.ensures) in
    let orphans = none_holds (IsBadOrphan m) (least_of_orphans m rs are t tables None c.in_default-least_orphan.ensures) in
    let formed = all_formed m rs are c.requires.formed in
    let charge : c.taken-taken.result.keys ≡ named_charge m = c.taken-taken.ensures.keys ∙ charge_is m rs are t tables formed in
    let pieces : c.taken-taken.result.chunks ≡ named_chunks m = c.taken-taken.ensures.chunks ∙ chunks_are m rs are t tables formed in
    no_room k m head keys inodes entries chunks orphans c.taken-taken.result.keys charge (λ room.
    let a = room.charge in
    let b = room.chunks in
    elim c.then-taken-room.branch [
      | then-taken-room-via-then-taken-room w ↦ (let x = w.if-taken-room.true in omega arith)
      | then-taken-room-via-else-taken-room+then-taken-room-2 w ↦ (let x = w.if-taken-room-2.true in omega arith)
    ])

pub returns : goal.returns
returns c = λ m are head next.
    let rs = c.args.rows.now in
    let k = limits_of c.args.room in
    let t = c.in_ok-tables.tables in
    let tables = c.in_ok-tables.ensures.tables in
    let reached = c.in_ok-tables.ensures.reached in
    let keys = none_strange m rs are c.requires.formed in
    let inodes = none_holds (IsBadInode m) (c.in_default.ensures.found m are next) in
    let entries = none_holds (IsBadEntry m) (least_of_entries m rs are t tables reached None c.in_default-least_entry.ensures) in
    let chunks = none_holds (IsBadChunk m) (least_of_chunks m rs are t tables None c.in_default-least_chunk.ensures) in
    let orphans = none_holds (IsBadOrphan m) (least_of_orphans m rs are t tables None c.in_default-least_orphan.ensures) in
    let formed = all_formed m rs are c.requires.formed in
    let charge : c.taken-taken.result.keys ≡ named_charge m = c.taken-taken.ensures.keys ∙ charge_is m rs are t tables formed in
    let pieces : c.taken-taken.result.chunks ≡ named_chunks m = c.taken-taken.ensures.chunks ∙ chunks_are m rs are t tables formed in
    let a = c.if-taken-room.false in
    let b = c.if-taken-room-2.false in
    all_clear k m head keys inodes entries chunks orphans (record { charge = omega arith; chunks = omega arith })
