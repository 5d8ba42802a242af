-- What a write of many chunks takes, chunk by chunk: keys of the transaction, and ages.
use Rattle.std.proofs.Common.{◌≡◌, ℕ, ◌<◌, ◌≤◌, ◌+◌, ◌-◌, ◌*◌, ◌%◌, ◌^◌, sym, ap, ◌∙◌, subst, arith, List, min}
use Rattle.kfs_tx.specs.Tx.{Tx, RunningState, Aged, IsReady, age_of, changed_keys}
use Rattle.kfs_tx.proofs.Seeing.{keys_put}
use Rattle.kfs_objects.specs.Keys.{chunk_key}
use Rattle.kfs_tx.specs.Tx.{seen}
use Rattle.kfs_model.specs.Tree.{greatest_length}
use Rattle.kfs_file.specs.Contents.{touched, with_piece, piece_in, rewritten}

-- so much for each chunk, d of n bytes being written; what is left is to spare
pub record Spent (old now unit p n d : ℕ) : Type 0 where
  pub most : now ≤ old + unit * touched p n
  pub left : d < n → now + unit * touched (p + d) (n - d) ≤ old + unit * touched p n

times : (u t k : ℕ) → t ≡ k + 1 → u * t ≡ u * k + u
times u t k e = ap (λ x. u * x) e ∙ (let s : u * (k + 1) ≡ u * k + u = omega arith in s)

-- a chunk is left where bytes are
spare : (p d n : ℕ) → d < n → touched (p + d) (n - d) ≡ (touched (p + d) (n - d) - 1) + 1
spare p d n lt = omega arith

-- a chunk's end lies before the next chunk
further : (p d n count : ℕ) → d < n → count ≡ min (4096 - (p + d) % 4096) (n - d) → d + count < n → touched (p + d) (n - d) ≡ touched (p + (d + count)) (n - (d + count)) + 1
further p d n count lt least more = omega arith

pub spent_nothing : (old unit p n : ℕ) → Spent old old unit p n 0
spent_nothing old unit p n = record { most = omega arith; left = λ lt. (let e : touched (p + 0) (n - 0) ≡ touched p n = omega arith in let f = ap (λ x. unit * x) e in omega arith) }

pub spent_on : (old mid new unit p n d count : ℕ) → Spent old mid unit p n d → d < n → count ≡ min (4096 - (p + d) % 4096) (n - d) → new ≤ mid + unit → Spent old new unit p n (d + count)
spent_on old mid new unit p n d count before lt least one =
    let room = before.left lt in
    record {
      most = (let e = times unit _ _ (spare p d n lt) in omega arith);
      left = λ more. (let e = times unit _ _ (further p d n count lt least more) in omega arith);
    }

-- one key for a piece
pub one_key : (mid new : Tx) (node c s : ℕ) (ys : List ℕ) → new ≡ with_piece mid node c s ys → IsReady mid → changed_keys new ≤ changed_keys mid + 1
one_key mid new node c s ys is ready = subst (λ (r : Tx). changed_keys r ≤ changed_keys mid + 1) (sym is) (keys_put mid (chunk_key node c) (rewritten (piece_in (seen mid) node c) s ys) ready)

-- both ages after two steps that write nothing
pub aged_on : (old mid new : RunningState) → Aged old mid 0 → Aged mid new 0 → Aged old new 0
aged_on old mid new first then = record { device = record { later = omega (arith, first.device.later, then.device.later); bounded = omega (arith, first.device.bounded, then.device.bounded) }; whole = record { later = omega (arith, first.whole.later, then.whole.later); bounded = omega (arith, first.whole.bounded, then.whole.bounded) } }

-- both ages
pub record AgesSpent (old now : RunningState) (p n d : ℕ) : Type 0 where
  pub device_later : old.device_age ≤ now.device_age
  pub device : Spent old.device_age now.device_age (2 ^ 16) p n d
  pub whole_later : age_of old ≤ age_of now
  pub whole : Spent (age_of old) (age_of now) (2 ^ 16) p n d

pub ages_nothing : (old : RunningState) (p n : ℕ) → AgesSpent old old p n 0
ages_nothing old p n = record { device_later = omega arith; device = spent_nothing old.device_age (2 ^ 16) p n; whole_later = omega arith; whole = spent_nothing (age_of old) (2 ^ 16) p n }

pub ages_on : (old mid new : RunningState) (p n d count : ℕ) → AgesSpent old mid p n d → d < n → count ≡ min (4096 - (p + d) % 4096) (n - d) → Aged mid new (2 ^ 16) → AgesSpent old new p n (d + count)
ages_on old mid new p n d count before lt least aged =
    let a = aged.device.later in
    let b = aged.whole.later in
    let x = before.device_later in
    let y = before.whole_later in
    record {
      device_later = omega (arith, a, x);
      device = spent_on old.device_age mid.device_age new.device_age (2 ^ 16) p n d count before.device lt least aged.device.bounded;
      whole_later = omega (arith, b, y);
      whole = spent_on (age_of old) (age_of mid) (age_of new) (2 ^ 16) p n d count before.whole lt least aged.whole.bounded;
    }

pub ages_end : (old new : RunningState) (p n d : ℕ) → AgesSpent old new p n d → Aged old new (2 ^ 16 * touched p n)
ages_end old new p n d spent = record { device = record { later = spent.device_later; bounded = spent.device.most }; whole = record { later = spent.whole_later; bounded = spent.whole.most } }

-- the age in the middle is still below the device's bound
pub still_young : (old mid : RunningState) (p n d : ℕ) → AgesSpent old mid p n d → p + n ≤ greatest_length → age_of old < 2 ^ 63 - 2 ^ 39 → age_of mid < 2 ^ 63 - 2 ^ 38
still_young old mid p n d spent short young = (let most = spent.whole.most in omega (arith, most))

-- a key is to spare for the next piece
pub one_to_spare : (old mid p n d : ℕ) → Spent old mid 1 p n d → d < n → mid + 1 ≤ old + touched p n
one_to_spare old mid p n d spent lt = let room = spent.left lt in let e = spare p d n lt in omega arith
