-- A device that was only read refused no write and no flush, and stays where it was opened.
use Rattle.std.proofs.Common.{◌≡◌, ◌⊎◌, inl, inr, ℕ, Result, Ok, IsTrue, refl, subst, sym}
use Rattle.std.specs.Prelude.{IfOk}
use Rattle.base.specs.declared.error.PoolError.{PoolError}
use Rattle.base.specs.declared.error.PoolError.TheVariants.{Flush, Read, Write}
use Rattle.base.specs.declared.names.ObjectId.{ObjectId}
use Rattle.base.specs.declared.range.Range.{Range}
use Rattle.base.specs.declared.refused.RefusedCalls.{RefusedCalls}
use Rattle.base.specs.disk.Calls.{with_refusal}
use Rattle.device_model.specs.declared.device.SectorDevice.{Ghosts}
use Rattle.file_devices.specs.declared.held_file.FileRefusal.{FileRefusal}
use Rattle.inspections.specs.Refused.{IsInspectionRefusal}
use Rattle.inspections.specs.Views.{IsViewRefusal}
use Rattle.read_commands.specs.Checks.{StaysOpened}
use Rattle.read_commands.specs.Reads.{IsReadersRefusal}

pub by_inspection : (size : ℕ) (e : PoolError) → IsInspectionRefusal size e → IsReadersRefusal e
by_inspection size Write kind = absurd kind.1
by_inspection size Flush kind = absurd kind.1
by_inspection size e kind = (λ is. cc, λ is. cc)

pub by_view : (object : ObjectId) (range : Range) (e : PoolError) → IsViewRefusal object range e → IsReadersRefusal e
by_view object range e (inl (outside, test)) = (λ is. cc, λ is. cc)
by_view object range e (inr (inl absent)) = (λ is. cc, λ is. cc)
by_view object range e (inr (inr (inl memory))) = (λ is. cc, λ is. cc)
by_view object range e (inr (inr (inr (inl read)))) = (λ is. cc, λ is. cc)
by_view object range e (inr (inr (inr (inr (kind, address, damaged))))) = (λ is. cc, λ is. cc)

counted_reading : (e : PoolError) → IsReadersRefusal e → (old new : RefusedCalls) → new ≡ with_refusal e old → (new ≡ old) ⊎ (new ≡ with_refusal Read old)
counted_reading Read reads old new is = inr is
counted_reading Write reads old new is = absurd (reads.0 refl)
counted_reading Flush reads old new is = absurd (reads.1 refl)
counted_reading e reads old new is = inl is

module _ {Dev : Type 0} (D : Ghosts Dev) (opened : Result Dev FileRefusal) (old : Dev) (is : opened ≡ Ok old) where
  pub stays_opened : (new : Dev) (e : PoolError) → IsReadersRefusal e → D.size new ≡ D.size old → (IsTrue D.keeps_model → D.disk new ≡ D.disk old)
      → D.refused new ≡ with_refusal e (D.refused old) → StaysOpened D opened (Ok new)
  stays_opened new e reads size disk count = subst (λ (o : Result Dev FileRefusal). StaysOpened D o (Ok new)) (sym is)
      (record { size = size; disk = disk; refused = counted_reading e reads (D.refused old) (D.refused new) count })

-- what is so of a device is so of what was opened as it
pub of_opened : {Dev : Type 0} (opened : Result Dev FileRefusal) (old : Dev) → opened ≡ Ok old → (P : Dev → Type 0) → P old → IfOk opened P
of_opened {Dev = Dev} opened old is P holds = subst (λ (o : Result Dev FileRefusal). IfOk o P) (sym is) holds
