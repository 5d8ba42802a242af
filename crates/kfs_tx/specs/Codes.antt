-- The states' codes, by which proofs tell them apart.
use Rattle.std.specs.Prelude.{ℕ, Bool, Option, refl}
use Rattle.std.specs.Coded.{Coded, code_by, coded×, coded_ℕ, coded_bool, coded_list, coded_option}
use Rattle.std.specs.FinMap as objects
use Rattle.kv_device.specs.Objects.{Objects, Changes}
use Rattle.kv_device.specs.Asked.{Asked}
use Rattle.kv_device.specs.Machine.{Machine, Transactions}
use Rattle.kfs_tx.specs.Tx.{Tx, RunningState}

abbrev pub objects_code : Coded Objects
objects_code = objects.code (coded_list coded_ℕ) (coded_list coded_ℕ)

abbrev pub changes_code : Coded Changes
changes_code = objects.code (coded_list coded_ℕ) (coded_option (coded_list coded_ℕ))

abbrev pub transactions_code : Coded Transactions
transactions_code = coded_list (coded_option changes_code)

-- the counts, their bounds and the rooms
abbrev pub MachineCounts : Type 0
MachineCounts = ℕ × (ℕ × (ℕ × (ℕ × (ℕ × ℕ))))

abbrev pub machine_counts_code : Coded MachineCounts
machine_counts_code = coded× coded_ℕ (coded× coded_ℕ (coded× coded_ℕ (coded× coded_ℕ (coded× coded_ℕ coded_ℕ))))

abbrev pub machine_code : Coded Machine
machine_code =
    code_by (Bool × (Objects × (Transactions × MachineCounts))) (coded× coded_bool (coded× objects_code (coded× transactions_code machine_counts_code)))
    (λ m. (m.up, (m.stable, (m.pending, (m.cuts, (m.faults, (m.most_cuts, (m.most_faults, (m.room_keys, m.room_pages)))))))))
    (λ p. record {
      up = p.0;
      stable = p.1.0;
      pending = p.1.1.0;
      cuts = p.1.1.1.0;
      faults = p.1.1.1.1.0;
      most_cuts = p.1.1.1.1.1.0;
      most_faults = p.1.1.1.1.1.1.0;
      room_keys = p.1.1.1.1.1.1.1.0;
      room_pages = p.1.1.1.1.1.1.1.1;
    })
    (λ _. refl)

abbrev pub tx_code : Coded Tx
tx_code =
    code_by (Machine × (ℕ × (ℕ × (ℕ × (ℕ × ℕ))))) (coded× machine_code (coded× coded_ℕ (coded× coded_ℕ (coded× coded_ℕ (coded× coded_ℕ coded_ℕ)))))
    (λ r. (r.machine, (r.id, (r.changes, (r.next, (r.since, r.weight))))))
    (λ p. record { machine = p.0; id = p.1.0; changes = p.1.1.0; next = p.1.1.1.0; since = p.1.1.1.1.0; weight = p.1.1.1.1.1 })
    (λ _. refl)

-- two numbers, where there are any
abbrev pub Words : Type 0
Words = Option (ℕ × ℕ)

abbrev pub words_code : Coded Words
words_code = coded_option (coded× coded_ℕ coded_ℕ)

abbrev pub asked_code : Coded Asked
asked_code =
    code_by (Words × (Words × ℕ)) (coded× words_code (coded× words_code coded_ℕ))
    (λ a. (a.cut, (a.fault, a.work)))
    (λ p. record { cut = p.0; fault = p.1.0; work = p.1.1 })
    (λ _. refl)

abbrev pub state_code : Coded RunningState
state_code =
    code_by (Tx × (ℕ × Asked)) (coded× tx_code (coded× coded_ℕ asked_code))
    (λ s. (s.tx, (s.device_age, s.asked)))
    (λ p. record { tx = p.0; device_age = p.1.0; asked = p.1.1 })
    (λ _. refl)
