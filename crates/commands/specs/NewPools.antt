-- What a create leaves on its device.
use Rattle.std.specs.Prelude.{ℕ, IsTrue, List}
use Rattle.base.specs.disk.Disk.{moments}
use Rattle.base.specs.history.Past.{new_past}
use Rattle.base.specs.kept.LeftDisks.{IsLeft}
use Rattle.base.specs.kept.Own.{IsOwnWith}
use Rattle.device_model.specs.declared.device.SectorDevice.{Ghosts}
use Rattle.import_replay.specs.CreateCalls.{IsPoolCreated}
use Rattle.import_replay.specs.CreateRefusals.{CanCreate}
use Rattle.import_replay.specs.OwnCreations.{first_contents}

-- A pool of this name and guid was made on the device. If the device keeps the disk model, the pool is on its disk,
-- whatever crash comes then, and a run in which nothing happened has left it.
pub record CreatesOn {Dev : Type 0} (G : Ghosts Dev) (name : List ℕ) (guid moment : ℕ) (device after : Dev) : Type 0 where
  pub can : CanCreate (G.size device) name
  pub created : IsTrue G.keeps_model → IsPoolCreated (G.size device) name guid moment (G.disk device) (G.disk after)
  pub own : IsTrue G.keeps_model → IsOwnWith (G.disk after) (moments (G.disk device)) guid (first_contents name)
  pub left : IsTrue G.keeps_model → IsLeft (new_past (first_contents name) (moments (G.disk device)) 0) (G.disk after)
