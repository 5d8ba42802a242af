-- Counts of operations, however many reads there are.
use Rattle.std.proofs.Common.{ℕ, ◌+◌, ◌≤◌, ◌^◌, arith}
use Rattle.kv_nand.specs.Flash.{Flash, IsSound}
use Rattle.kv_nand.specs.Working.{Works, Stops}
use Rattle.kv_nand.specs.declared.fault.FlashFault.{FlashFault}
use Rattle.kv_nand.proofs.Chaining.{works_then_works, works_then_stops}

pub works_on : (a b c : Flash) (m n k r s : ℕ) → IsSound c → m + n ≤ k → Works a b m r → Works b c n s → Works a c k (2 ^ 64)
works_on a b c m n k r s sound le first more =
    let both = works_then_works a b c m r n s first more in
    record {
      after = both.after;
      counts = record {
        ops_at_most = omega (arith, both.counts.ops_at_most, le);
        ops_at_least = both.counts.ops_at_least;
        reads_at_most = omega (arith, sound.reads);
        reads_at_least = both.counts.reads_at_least;
      };
    }

pub stops_on : (a b c : Flash) (fault : FlashFault) (m n k r s : ℕ) → IsSound c → m + n ≤ k → Works a b m r → Stops b fault c n s → Stops a fault c k (2 ^ 64)
stops_on a b c fault m n k r s sound le first more =
    let both = works_then_stops a b c fault m r n s first more in
    record {
      after = both.after;
      counts = record {
        ops_at_most = omega (arith, both.counts.ops_at_most, le);
        ops_at_least = both.counts.ops_at_least;
        reads_at_most = omega (arith, sound.reads);
        reads_at_least = both.counts.reads_at_least;
      };
    }
