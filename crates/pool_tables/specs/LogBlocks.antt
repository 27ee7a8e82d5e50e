-- The log block that a pool writes next, and what a log write hands to the disk.
use Rattle.std.specs.Prelude.{ℕ, ◌≡◌, ◌⊎◌, Bool, true, false, [], ◌∷◌, Result, Ok, Err}
use Rattle.std.specs.FinSet as set
use Rattle.base.specs.declared.error.PoolError.{PoolError}
use Rattle.base.specs.declared.version.Version.TheVariants as version
use Rattle.base.specs.kept.LogSteps.{IsPackedBlock, shown_after_write}
use Rattle.base.specs.kept.Views.{Logged}
use Rattle.base.specs.disk.Calls.{Writes}
use Rattle.base.specs.disk.Disk.{Disk}
use Rattle.base.specs.steps.Logs.{IsTaken, Taken, log_after_write}
use Rattle.base.specs.steps.Shown.{Shown}
use Rattle.base.specs.steps.Steps.{lowest_free}
use Rattle.intent_log.specs.declared.packing.NewBlock.{NewBlock}
use Rattle.pool_tables.specs.declared.pool.PoolTables.{PoolTables}

-- where the next log block goes: to the log's next header, with this address for the block after it
abbrev pub next_place : ℕ → PoolTables → NewBlock
next_place next p = record {
  guid = p.guid;
  group = record { 0 = p.groups.line.open_group };
  header = record { address = p.log.next.address; number = p.log.next.number; import_number = p.import_number; version = version.Two };
  next = next;
}

-- what is shown once this was taken for a log block, and the block after it lies at this address
abbrev pub shown_after_block : Taken → ℕ → Shown → Shown
shown_after_block taken address s = record s {
  log = log_after_write taken address s.log;
  free = set.remove s.free address;
}

-- A log block was handed to the disk at the log's next address, with this answer. It holds what is to be taken of what
-- is begun and pending, and names the lowest free block as the one after it.
pub record PutsLogBlock (answer : Result (Unit {0}) PoolError) (done : Bool) (old new : Shown) (before after : Disk) : Type 0 where
  pub taken : Taken
  pub fits : IsTaken old.log.begun old.log.pending taken
  pub address : ℕ
  pub next : lowest_free 1 old ≡ address ∷ []
  pub block : Logged
  pub packed : IsPackedBlock old taken address block
  pub writes : Writes before old.log.next.address block.content answer after
  pub shown : new ≡ shown_after_write taken address (set.remove old.free address) done old

-- A log write hands one block to the disk. Refused before that it leaves the pool and the disk.
abbrev pub WritesLogBlock : Result ℕ PoolError → Shown → Shown → Disk → Disk → Type 0
WritesLogBlock (Ok count) old new before after = PutsLogBlock (Ok tt) true old new before after
WritesLogBlock (Err e) old new before after = ((new ≡ old) × (after ≡ before)) ⊎ PutsLogBlock (Err e) false old new before after
