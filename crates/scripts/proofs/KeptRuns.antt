-- What a run left is left by a crash and by a plan to fail, whichever pool its session has.
use Rattle.std.proofs.Common.{◌≡◌, ◌∙◌, ℕ, List, refl, sym, ap, subst}
use Rattle.std.specs.Prelude.{Result, Ok, Err, IsOk}
use Rattle.base.specs.declared.piece.Piece.{Piece}
use Rattle.base.specs.disk.Crashes.{crash_image}
use Rattle.base.specs.disk.Disk.{Disk, MayLeave}
use Rattle.base.specs.history.Past.{Past}
use Rattle.device_model.specs.MemState.{MemState, after_crash}
use Rattle.device_model.specs.Plans.{with_plan}
use Rattle.device_model.specs.contracts.memory.MemDeviceSectorDevice.TheImpl.{ghosts}
use Rattle.device_model.specs.declared.fault.Fault.{Fault}
use Rattle.device_model.specs.declared.fault.Fault.TheVariants.{Read, Write, Flush}
use Rattle.base.proofs.crash.LeftDisks.{left_crashed}
use Rattle.base.specs.kept.LeftDisks.{IsLeft}
use Rattle.script_lines.specs.declared.answer.Answer.{Answer}
use Rattle.scripts.specs.Kept.{IsRunIn, KeepsOverCrash}
use Rattle.scripts.specs.Places.{CrashesOn}
use Rattle.scripts.specs.declared.mounted_pool.MountedPool as mounted
use Rattle.scripts.specs.declared.place.Place.{Place}
use Rattle.scripts.specs.declared.session.BadCommand.{BadCommand}

plan_disk : (fault : Fault) (n : ℕ) (s : MemState) → (with_plan fault n s).disk ≡ s.disk
plan_disk Read n s = refl
plan_disk Write n s = refl
plan_disk Flush n s = refl

module _ {R P : Type 0} (G : mounted.Ghosts P MemState R) where
  -- a fair crash leaves what a run left, and so does one with more letters than there are unflushed writes
  pub crash_keeps : ((past : Past) (old new : Disk) → (IsLeft past old → IsLeft past new) → G.left past old → G.left past new) → (pieces : List Piece) (old new : Place MemState P) (device : MemState) (told : Result Answer BadCommand)
      → ((past : Past) → IsRunIn ghosts G past old → G.left past device.disk) → CrashesOn pieces device told new → (IsOk told → MayLeave device.disk.now (crash_image pieces device.disk.now))
      → KeepsOverCrash G pieces device old told new
  crash_keeps carries pieces old new device (Ok a) left crashes may = λ past run fair.
      subst (λ (place : Place MemState P). IsRunIn ghosts G past place) (sym crashes.2)
      (carries past device.disk (after_crash pieces device).disk (left_crashed past device.disk (crash_image pieces device.disk.now) (may refl) fair) (left past run))
  crash_keeps carries pieces old new device (Err e) left crashes may = λ past run. subst (λ (place : Place MemState P). IsRunIn ghosts G past place) (sym crashes.1) (left past run)

  -- a device on which a call is planned to fail has the same disk
  pub plan_keeps : (past : Past) (old new : MemState) (fault : Fault) (n : ℕ) → new ≡ with_plan fault n old → G.left past old.disk → G.left past new.disk
  plan_keeps past old new fault n is was = subst (λ (d : Disk). G.left past d) (sym (ap (λ (s : MemState). s.disk) is ∙ plan_disk fault n old)) was
