-- What the tree's calls keep, as their callers see it.
use Rattle.std.specs.Prelude.{ℕ, ◌≡◌, ◌+◌, refl}
use Rattle.std.specs.Coded.{Coded, code_by, coded×, coded_ℕ}
use Rattle.kfs_tx.specs.Tx.{Tx, RunningState}
use Rattle.kfs_tx.specs.Codes.{state_code}

-- the running transaction, the device's room, and what the tree that the transaction shows takes of it
pub record KfsState : Type 0 where
  pub running : RunningState
  pub keys : ℕ
  pub pages : ℕ
  pub charge : ℕ
  pub chunks : ℕ

abbrev pub tx_in : KfsState → Tx
tx_in s = s.running.tx

-- all but the running transaction stays
abbrev pub Stays : KfsState → KfsState → Type 0
Stays old new = new ≡ record old { running = new.running }

-- nothing changes, but what the device has written and what is planned for it may
abbrev pub Same : KfsState → KfsState → Type 0
Same old new = new ≡ record old { running = record new.running { tx = tx_in old } }

-- so many chunks more are taken, by the running transaction too
abbrev pub Takes : KfsState → ℕ → KfsState → Type 0
Takes old more new = new ≡ record old { running = new.running; charge = old.charge + more; chunks = old.chunks + more }

abbrev pub kfs_code : Coded KfsState
kfs_code =
    code_by (RunningState × (ℕ × (ℕ × (ℕ × ℕ)))) (coded× state_code (coded× coded_ℕ (coded× coded_ℕ (coded× coded_ℕ coded_ℕ))))
    (λ s. (s.running, (s.keys, (s.pages, (s.charge, s.chunks)))))
    (λ p. record { running = p.0; keys = p.1.0; pages = p.1.1.0; charge = p.1.1.1.0; chunks = p.1.1.1.1 })
    (λ _. refl)
