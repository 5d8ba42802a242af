use Rattle.std.proofs.Common.{◌≤◌, ◌^◌, ℕ, List, length, nat_lt, true, false, if◌then◌else◌, Option, Some, None, OnSome, arith}
use Rattle.kv_device.specs.Calls.{set_ages}
use Rattle.kfs_parts.proofs.running.put.Goals as goal

most : (value : List ℕ) → set_ages value ≤ 2 ^ 16
most value = elim (nat_lt 128 (length value)) as (λ b. (if b then 2 ^ 16 else 0) ≤ 2 ^ 16) [ true ↦ omega arith | false ↦ omega arith ]

on_some : {A P : Type 0} (o : Option A) → P → OnSome o P
on_some None p = tt
on_some (Some x) p = p

pub returns : goal.returns
returns c =
    let few = most c.in_ok-value.value in
    on_some c.ok-3.result (omega (arith, c.set-2.ensures.age.whole.bounded))
