-- A file's new length as an event of a life, whichever call gives it.
use Rattle.std.proofs.Common.{◌≡◌, ◌≢◌, ℕ, ◌<◌, ◌≤◌, ◌+◌, ◌-◌, ◌/◌, ◌^◌, ◌&&◌, inl, inr, true, false, cond, Bool, sym, ◌∙◌, ap, subst, arith, List, length, Some, None, nat_lt}
use Rattle.std.specs.Ordering.{nat_cmp}
use Rattle.std.specs.FinMap.{find}
use Rattle.std.proofs.lemmas.Bool.Decides.{nat_tests}
use Rattle.kv_device.specs.declared.fault.DeviceFault.{DeviceFault}
use Rattle.kv_device.specs.Machine.{Machine}
use Rattle.kfs_objects.specs.Keys.{inode_key}
use Rattle.kfs_objects.specs.Records.{inode_value}
use Rattle.kfs_objects.proofs.KeyLaws.{length_be64}
use Rattle.kfs_path.specs.declared.call.Call.{Call}
use Rattle.kfs_path.specs.declared.call.Cause.{Cause}
use Rattle.kfs_path.specs.declared.call.Reply.{Reply}
use Rattle.kfs_model.specs.declared.Node.TheVariants.{File}
use Rattle.kfs_model.specs.declared.Line.TheVariants as lines
use Rattle.kfs_model.specs.declared.Answer.TheVariants as answers
use Rattle.kfs_model.specs.Tree.{Tree, node_of, with_node, resized, charge, chunks, greatest_length, has_room}
use Rattle.kfs_model.specs.Step.{World, step}
use Rattle.kfs_model.specs.Change.{weight, resizing, commits}
use Rattle.kfs_model.specs.Life.{Live, can_fail}
use Rattle.kfs_shows.specs.Sweeping.{ShowsWorld, with_tree}
use Rattle.kfs_tx.specs.Tx.{Tx, Caused, seen, changed_keys, one_change}
use Rattle.kfs_tx.proofs.Falling.{put_falls}
use Rattle.kfs_file.specs.Contents.{pending_of}
use Rattle.kfs_core.specs.Files.{with_length}
use Rattle.kfs_core.specs.Room.{chunks_for}
use Rattle.kfs_core.specs.Resizing.{PutsLength, ResizeFault, keys_cut, resize_weight}
use Rattle.kfs_core.proofs.FileEffects.{SameNumbers}
use Rattle.kfs_core.proofs.Plans.{numbers_of}
use Rattle.kfs_core.proofs.RemovingEffects.{Rests}
use Rattle.kfs_core.proofs.ResizingJudges.{charge_resized, chunks_resized, resized_stays, resized_rests, resized_shows}
use Rattle.kfs_core.proofs.Weights.{resizing_is, resizing_stays}
use Rattle.kfs_posix.specs.Opens.{Opens, desk_of}
use Rattle.kfs_posix.specs.Holding.{Holds}
use Rattle.kfs_posix.specs.Volume.{Volume, limits_of, cause_of}
use Rattle.kfs_posix.specs.Showing.{ShowsLive, GoesOn}
use Rattle.kfs_posix.proofs.Changing.{IsPut, change_shown}
use Rattle.kfs_posix.proofs.Going.{spare, as_before, change_goes_at, turn_goes, fall_goes, Refuses}
use Rattle.kfs_posix.proofs.Planned.{boundary_fell, world_shown, changed_same, changed_bounds, caused_from, change_caused, fallen_from, early_falls}
use Rattle.kfs_core.specs.declared.fault.CoreFault.TheVariants.{Device}

-- what the call does to the tree that is shown: the file n, of so many bytes, gets a length; d is the number of the description that the call makes
pub record Lengthens (old : Volume) (n was size : ℕ) (call : Call) (reply : Reply) (files : Opens) (d : ℕ) (live : Live) : Type 0 where
  pub bytes : List ℕ
  pub file : node_of live.world.tree n ≡ Some (File bytes)
  pub was_is : was ≡ length bytes
  pub step_is : step (limits_of old) d live.world call ≡ record { world = record { tree = with_node live.world.tree n (File (resized bytes size)); desk = desk_of files }; reply = reply }
  pub weighs : weight live.world call (record { world = record { tree = with_node live.world.tree n (File (resized bytes size)); desk = desk_of files }; reply = reply }) ≡ resizing was size
  pub holds : Holds files (with_node live.world.tree n (File (resized bytes size)))
  pub short : size ≤ greatest_length
  pub room : has_room (limits_of old) (with_node live.world.tree n (File (resized bytes size))) ≡ true

-- only the pending changes are others
pub length_same : (r : Tx) (n was size : ℕ) (put : Tx) → PutsLength r n was size put → with_length put n size ≡ pending_of (with_length put n size) r
length_same r n was size put puts = ap (λ (x : Tx). record x { machine = record x.machine { pending = (with_length put n size).machine.pending } }) puts.resizes.same

-- the fault of a new length has a cause from outside
pub resize_caused : (r : Tx) (n was size : ℕ) (fault : DeviceFault) (new : Machine) → ResizeFault r n was size fault new → Caused r.machine fault new
resize_caused r n was size fault new (inl h) = h.cause
resize_caused r n was size fault new (inr (put, puts, inl h)) = caused_from r put fault new puts.resizes.same h.1
resize_caused r n was size fault new (inr (put, puts, inr h)) = change_caused r (with_length put n size) (resize_weight was size) put.next fault new (length_same r n was size put puts) h

-- no file has more than 256 chunks
few_cut : (was size : ℕ) → was ≤ greatest_length → keys_cut was size ≤ 256
few_cut was size le = by (nat_lt size was)
  where
    by : (b : Bool) → cond b ((was + 4095) / 4096 - size / 4096) 0 ≤ 256
    by true = omega arith
    by false = omega arith

small_inode : (size : ℕ) (key : List ℕ) → (nat_lt 128 (length (inode_value 2 size)) && nat_lt 32 (length key)) ≡ false
small_inode size key = let h = length_be64 size in let f : nat_lt 128 (length (inode_value 2 size)) ≡ false = grind (arith, nat_tests) in ap (λ b. b && nat_lt 32 (length key)) f

module _ (old : Volume) (n was size : ℕ) (call : Call) (reply : Reply) (files : Opens) (up : old.down ≡ None) where
  -- the same length changes nothing but what is open
  pub length_rests : (d : ℕ) → find nat_cmp d old.files.files ≡ None → was ≡ size → commits call reply ≡ false → ((live : Live) → ShowsLive old live → Lengthens old n was size call reply files d live)
      → GoesOn old (lines.Call call) (answers.Reply reply) (record old { files = files })
  length_rests d free same quiet at = turn_goes old files call reply d free up quiet (λ live sh.
      let it = at live sh in
      let t = live.world.tree in
      let stays : with_node t n (File (resized it.bytes size)) ≡ t = ap (λ s. with_node t n (File (resized it.bytes s))) (sym same ∙ it.was_is) ∙ resized_stays t sh.tree n it.bytes it.file in (
        it.step_is ∙ (λ i. record { world = record { tree = stays i; desk = desk_of files }; reply = reply }),
        (λ i. weight live.world call (record { world = record { tree = sym stays i; desk = desk_of files }; reply = reply })) ∙ it.weighs ∙ ap (λ s. resizing s size) same ∙ resizing_stays size,
        subst (Holds files) stays it.holds,
      ))

  module _ (differ : was ≢ size) (count : old.tx.changes + 1 < 2 ^ 63) where
    abbrev w : ℕ
    w = resize_weight was size

    abbrev pub charge_now : ℕ
    charge_now = old.charge + chunks_for size - chunks_for was

    abbrev pub chunks_now : ℕ
    chunks_now = old.chunks + chunks_for size - chunks_for was

    module _ (put : Tx) (puts : PutsLength old.tx n was size put) where
      abbrev mid : Tx
      mid = with_length put n size

      same : mid ≡ pending_of mid old.tx
      same = length_same old.tx n was size put puts

      numbers : SameNumbers old.tx mid
      numbers = numbers_of old.tx mid same

      module _ (d : ℕ) (live : Live) (sh : ShowsLive old live) (it : Lengthens old n was size call reply files d live) where
        abbrev tree : Tree
        tree = with_node live.world.tree n (File (resized it.bytes size))

        puts_bytes : PutsLength old.tx n (length it.bytes) size put
        puts_bytes = subst (λ s. PutsLength old.tx n s size put) it.was_is puts

        rests : Rests old.tx mid (keys_cut (length it.bytes) size + 1)
        rests = resized_rests old.tx sh.light.ready live.world (world_shown old live sh) (let h = sh.low in omega arith) n it.bytes it.file size it.short put puts_bytes

        shows : ShowsWorld (seen mid) (with_tree live.world tree)
        shows = resized_shows old.tx sh.light.ready live.world (world_shown old live sh) (let h = sh.low in omega arith) n it.bytes it.file size it.short put puts_bytes

        few : changed_keys mid + 1 ≤ old.tx.weight + w
        few =
            let f = rests.few sh.light.ready in
            let same_cut : keys_cut (length it.bytes) size ≡ keys_cut was size = ap (λ s. keys_cut s size) (sym it.was_is) in
            let h = sh.light.few in
            omega arith

        put_is : IsPut old mid tree w put.next
        put_is = record {
          ready = rests.ready sh.light.ready;
          tree = shows.tree;
          shows = shows.shows;
          low = sh.low;
          few_changes = let c = numbers.changes in omega arith;
          next_is = numbers.next ∙ sh.next;
          changes = numbers.changes;
          since = numbers.since;
          weight = numbers.weight;
          stable = numbers.stable;
          bounds = numbers.bounds;
          few = few;
          room = it.room;
        }

        charged : charge_now ≡ charge tree
        charged = (λ i. sh.charged i + chunks_for size - chunks_for (it.was_is i)) ∙ sym (charge_resized live.world.tree sh.tree n it.bytes it.file size)

        chunked : chunks_now ≡ chunks tree
        chunked = (λ i. sh.chunked i + chunks_for size - chunks_for (it.was_is i)) ∙ sym (chunks_resized live.world.tree sh.tree n it.bytes it.file size)

        weighs : weight live.world call (record { world = record { tree = tree; desk = desk_of files }; reply = reply }) ≡ Some w
        weighs = it.weighs ∙ resizing_is was size differ

        pub few_keys : keys_cut was size ≤ 256
        few_keys = few_cut was size (let h = sh.tree.lengths n it.bytes it.file in let e = it.was_is in omega arith)

      -- another length is a change
      pub length_goes : (d : ℕ) → find nat_cmp d old.files.files ≡ None → ((live : Live) → ShowsLive old live → Lengthens old n was size call reply files d live)
          → GoesOn old (lines.Call call) (answers.Reply reply) (record old { tx = one_change mid w put.next; charge = charge_now; chunks = chunks_now; files = files })
      length_goes d free at =
          let m = changed_same old.tx mid same w put.next in
          change_goes_at old (record old { tx = one_change mid w put.next; charge = charge_now; chunks = chunks_now; files = files }) call reply w d free up m.cuts m.faults (changed_bounds old.tx mid same w put.next) (λ live sh.
          let it = at live sh in (
            record { tree = tree d live sh it; desk = desk_of files },
            it.step_is,
            weighs d live sh it,
            change_shown old live sh mid (tree d live sh it) w put.next charge_now chunks_now (put_is d live sh it) (charged d live sh it) (chunked d live sh it) files it.holds,
          ))

    -- a fault in it
    pub length_falls : (new : Volume) (fault : DeviceFault) → new.down ≡ Some (cause_of fault) → limits_of new ≡ limits_of old → ((u : World) (cause : Cause) → can_fail u call cause ≡ true)
        → ((live : Live) → ShowsLive old live → Lengthens old n was size call reply files (spare old) live) → ResizeFault old.tx n was size fault new.tx.machine
        → Refuses old call (Device fault) new
    length_falls new fault down limits can at (inl h) = early_falls old new call (keys_cut was size) fault up down limits (λ live sh cause. can live.world cause)
        (λ live sh. let it = at live sh in let k = few_cut was size (let h = sh.tree.lengths n it.bytes it.file in let e = it.was_is in omega arith) in omega arith) h
    length_falls new fault down limits can at (inr (put, puts, inl h)) = fall_goes old new call fault up down limits (λ live sh.
        let it = at live sh in
        let keys = puts.keys sh.light.ready in
        let k = few_keys put puts (spare old) live sh it in
        let few = sh.light.few in
        let light = sh.light.light in
        let f = put_falls put (inode_key n) (inode_value 2 size) fault new.tx.machine (puts.resizes.ready sh.light.ready) (omega arith) (small_inode size (inode_key n)) h in
        record {
          stands = old.tx.machine.stable;
          fallen = fallen_from old.tx put fault old.tx.machine.stable new.tx.machine puts.resizes.same f.cause (f.stable ∙ ap (λ (r : Tx). r.machine.stable) puts.resizes.same) f.bounds;
          stood = as_before sh.saved;
          can = λ cause e. can live.world cause;
        })
    length_falls new fault down limits can at (inr (put, puts, inr h)) = fall_goes old new call fault up down limits (λ live sh.
        let it = at live sh in
        let k = few_keys put puts (spare old) live sh it in
        boundary_fell old new live sh (mid put puts) (same put puts) (tree put puts (spare old) live sh it) w put.next charge_now chunks_now (put_is put puts (spare old) live sh it) (charged put puts (spare old) live sh it) (chunked put puts (spare old) live sh it) files it.holds call reply fault
        it.step_is (weighs put puts (spare old) live sh it) (omega arith) (can live.world) h)
