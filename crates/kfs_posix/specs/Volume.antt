-- What a session keeps.
use Rattle.std.specs.Prelude.{ℕ, zero, suc, ◌≡◌, Option, refl}
use Rattle.std.specs.Coded.{Coded, code_by, coded×, coded_ℕ, coded_option}
use Rattle.kv_device.specs.Asked.{Asked}
use Rattle.kv_device.specs.declared.fault.DeviceFault.{DeviceFault}
use Rattle.kv_device.specs.declared.fault.DeviceFault.TheVariants.{Off, Failed}
use Rattle.kfs_path.specs.declared.call.Cause.{Cause}
use Rattle.kfs_path.specs.declared.call.Cause.TheVariants.{Cut, Eio, NoMem}
use Rattle.kfs_model.specs.Tree.{Limits}
use Rattle.kfs_tx.specs.Tx.{Tx, RunningState}
use Rattle.kfs_tx.specs.Codes.{tx_code, asked_code}
use Rattle.kfs_core.specs.Core.{KfsState}
use Rattle.kfs_posix.specs.Opens.{Opens, opens_code}

pub record Volume : Type 0 where
  pub tx : Tx
  pub keys : ℕ
  pub pages : ℕ
  pub charge : ℕ
  pub chunks : ℕ
  pub files : Opens
  pub down : Option Cause

-- a session, as its callers see it
pub record SessionState : Type 0 where
  pub volume : Volume
  pub device_age : ℕ
  pub asked : Asked

abbrev pub volume_of : KfsState → Opens → Option Cause → Volume
volume_of kfs files down = record { tx = kfs.running.tx; keys = kfs.keys; pages = kfs.pages; charge = kfs.charge; chunks = kfs.chunks; files = files; down = down }

abbrev pub state_of : KfsState → Opens → Option Cause → SessionState
state_of kfs files down = record { volume = volume_of kfs files down; device_age = kfs.running.device_age; asked = kfs.running.asked }

-- its running transaction
abbrev pub running_in : SessionState → RunningState
running_in s = record { tx = s.volume.tx; device_age = s.device_age; asked = s.asked }

abbrev pub limits_of : Volume → Limits
limits_of b = record { keys = b.keys; pages = b.pages }

abbrev pub cause_of : DeviceFault → Cause
cause_of Off = Cut
cause_of Failed = Eio
cause_of fault = NoMem

-- ---- codes, by which proofs tell the states apart

abbrev pub number_of : Cause → ℕ
number_of Cut = 0
number_of Eio = 1
number_of NoMem = 2

abbrev pub cause_at : ℕ → Cause
cause_at zero = Cut
cause_at (suc zero) = Eio
cause_at (suc (suc n)) = NoMem

abbrev pub cause_at-number_of : (c : Cause) → cause_at (number_of c) ≡ c
cause_at-number_of Cut = refl
cause_at-number_of Eio = refl
cause_at-number_of NoMem = refl

abbrev pub volume_code : Coded Volume
volume_code =
    code_by (Tx × (ℕ × (ℕ × (ℕ × (ℕ × (Opens × Option Cause)))))) (coded× tx_code (coded× coded_ℕ (coded× coded_ℕ (coded× coded_ℕ (coded× coded_ℕ (coded× opens_code (coded_option (code_by ℕ coded_ℕ number_of cause_at cause_at-number_of))))))))
    (λ b. (b.tx, (b.keys, (b.pages, (b.charge, (b.chunks, (b.files, b.down)))))))
    (λ p. record { tx = p.0; keys = p.1.0; pages = p.1.1.0; charge = p.1.1.1.0; chunks = p.1.1.1.1.0; files = p.1.1.1.1.1.0; down = p.1.1.1.1.1.1 })
    (λ _. refl)

abbrev pub session_code : Coded SessionState
session_code =
    code_by (Volume × (ℕ × Asked)) (coded× volume_code (coded× coded_ℕ asked_code))
    (λ s. (s.volume, (s.device_age, s.asked)))
    (λ p. record { volume = p.0; device_age = p.1.0; asked = p.1.1 })
    (λ _. refl)
