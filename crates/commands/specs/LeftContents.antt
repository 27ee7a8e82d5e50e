-- What the commands leave of the contents of a pool, by those that it had.
use Rattle.std.specs.Prelude.{ℕ, ◌≡◌, ◌≢◌, List, None, Ok, Err, Option, Result, Some}
use Rattle.std.specs.FinMap as map
use Rattle.base.specs.declared.names.ObjectId.{ObjectId}
use Rattle.base.specs.history.Contents.{Contents}
use Rattle.running_pools.specs.LeftDevices.{HoldsContents, StillHolds}
use Rattle.device_model.specs.declared.device.SectorDevice.{Ghosts}
use Rattle.commands.specs.Puts.{bytes_put}
use Rattle.read_commands.specs.declared.failure.Failure.{Failure}

-- each other object has what it had, and the pool its name
abbrev pub KeepsOthers : ObjectId → Contents → Contents → Type 0
KeepsOthers n base c = ((other : ℕ) → other ≢ n.0 → map.get c.objects other ≡ map.get base.objects other) × (c.name ≡ base.name)

-- the object has the bytes that were put, and nothing else was changed
abbrev pub HasPut : ObjectId → Option ℕ → List ℕ → Contents → Contents → Type 0
HasPut n offset bytes base c = (map.get c.objects n.0 ≡ Some (bytes_put offset bytes (map.get base.objects n.0))) × KeepsOthers n base c

-- the object isn't there, and nothing else was changed
abbrev pub HasRemoved : ObjectId → Contents → Contents → Type 0
HasRemoved n base c = (map.get c.objects n.0 ≡ None) × KeepsOthers n base c

-- What the device holds that comes back from a command with this result: what it is to hold if all was done, and else
-- nothing that was durable is lost.
abbrev pub LeavesDevice : {Dev : Type 0} → Ghosts Dev → (Contents → Contents → Type 0) → (Contents → Contents → Type 0) → Dev → Result (Unit {0}) Failure → Dev → Type 0
LeavesDevice G P Q device (Ok done) after = HoldsContents G P device after
LeavesDevice G P Q device (Err why) after = StillHolds G Q device after
