-- The plan by which a device in memory fails.
use Rattle.std.specs.Prelude.{◌≡◌, ◌↔◌, ℕ, ◌-◌, Result, IsErr}
use Rattle.base.specs.declared.error.PoolError.{PoolError}
use Rattle.device_model.specs.declared.fault.Fault.{Fault}
use Rattle.device_model.specs.declared.fault.Fault.TheVariants.{Read, Write, Flush}
use Rattle.device_model.specs.MemState.{MemState}

-- with this plan for one kind of call, and the plans for the others
abbrev pub with_plan : Fault → ℕ → MemState → MemState
with_plan Read n s = record s { read_fails = n }
with_plan Write n s = record s { write_fails = n }
with_plan Flush n s = record s { flush_fails = n }

-- a call of this kind counts its plan down, and leaves the other plans
abbrev pub KeepsPlans : Fault → MemState → MemState → Type 0
KeepsPlans Read old new = (new.read_fails ≡ old.read_fails - 1) × (new.write_fails ≡ old.write_fails) × (new.flush_fails ≡ old.flush_fails)
KeepsPlans Write old new = (new.read_fails ≡ old.read_fails) × (new.write_fails ≡ old.write_fails - 1) × (new.flush_fails ≡ old.flush_fails)
KeepsPlans Flush old new = (new.read_fails ≡ old.read_fails) × (new.write_fails ≡ old.write_fails) × (new.flush_fails ≡ old.flush_fails - 1)

-- which call of this kind from now fails
abbrev pub planned : Fault → MemState → ℕ
planned Read s = s.read_fails
planned Write s = s.write_fails
planned Flush s = s.flush_fails

-- a call of this kind fails exactly if that was planned, and counts its plan down; no write goes unnoted by it
pub record FailsAsPlanned (fault : Fault) (result : Result (Unit {0}) PoolError) (old new : MemState) : Type 0 where
  pub fails : IsErr result ↔ (planned fault old ≡ 1)
  pub plans : KeepsPlans fault old new
  pub unnoted : new.unnoted ≡ old.unnoted
