-- Why a copy ends before its end, by what a look was refused for.
use Rattle.std.proofs.Common.{◌≡◌, ◌≢◌, ℕ, inl, inr, refl, subst, sym, true, ◌∙◌}
use Rattle.std.specs.Prelude.{Bool, IsTrue}
use Rattle.base.specs.declared.error.PoolError.{PoolError}
use Rattle.base.specs.declared.error.PoolError.TheVariants.{BadGeometry, BadRange, Damaged, Flush, NoMemory, NoObject, NoPool, Read, Write}
use Rattle.base.specs.declared.range.Range.{Range}
use Rattle.base.specs.disk.Disk.{Disk, bytes_of}
use Rattle.inspections.specs.Refused.{IsInspectionRefusal}
use Rattle.object_maps.specs.BlockReads.{IsLoadRefusal}
use Rattle.object_views.specs.ObjectViews.{IsObjectReadRefusal}
use Rattle.object_views.specs.declared.view.ObjectView.{ObjectView}
use Rattle.read_commands.specs.Reads.{IsReadersRefusal}
use Rattle.trees.specs.declared.damages.BlockDamage.{BlockDamage}
use Rattle.copies.specs.ReadRecords.{IsPlainRefusal, MountsNone}
use Rattle.copies.specs.Stops.{IsStopFor, IsStopOf}
use Rattle.copies.specs.declared.stop.Stop.{Stop}
use Rattle.copies.specs.declared.stop.Stop.TheVariants.{Old, Unwritten}

-- what a look is refused for is no write and no flush
reader : (e f : PoolError) → e ≡ f → f ≢ Write → f ≢ Flush → IsReadersRefusal e
reader e f is w l = ((λ n. w (sym is ∙ n)), (λ n. l (sym is ∙ n)))

no_memory : (e : PoolError) → e ≡ NoMemory → IsReadersRefusal e
no_memory e is = reader e NoMemory is (λ n. let no : NoMemory ≡ Write = n in cc) (λ n. let no : NoMemory ≡ Flush = n in cc)

of_read : (e : PoolError) → e ≡ Read → IsReadersRefusal e
of_read e is = reader e Read is (λ n. let no : Read ≡ Write = n in cc) (λ n. let no : Read ≡ Flush = n in cc)

of_damage : (e : PoolError) (kind address : ℕ) → e ≡ Damaged kind address → IsReadersRefusal e
of_damage e kind address is = reader e (Damaged kind address) is (λ n. let no : Damaged kind address ≡ Write = n in cc) (λ n. let no : Damaged kind address ≡ Flush = n in cc)

pub load_reader : (e : PoolError) → IsLoadRefusal e → IsReadersRefusal e
load_reader e (inl is) = no_memory e is
load_reader e (inr (inl is)) = of_read e is
load_reader e (inr (inr (kind, address, is))) = of_damage e kind address is

pub found_reader : (size : ℕ) (e : PoolError) → IsInspectionRefusal size e → IsReadersRefusal e
found_reader size BadGeometry h = reader BadGeometry BadGeometry refl (λ n. let no : BadGeometry ≡ Write = n in cc) (λ n. let no : BadGeometry ≡ Flush = n in cc)
found_reader size NoMemory h = no_memory NoMemory refl
found_reader size Read h = of_read Read refl
found_reader size NoPool h = reader NoPool NoPool refl (λ n. let no : NoPool ≡ Write = n in cc) (λ n. let no : NoPool ≡ Flush = n in cc)
found_reader size (Damaged kind address) h = of_damage (Damaged kind address) kind address refl
found_reader size _ h = absurd h.1

pub read_reader : (v : ObjectView) (range : Range) (e : PoolError) → IsObjectReadRefusal v range e → IsReadersRefusal e
read_reader v range e (inl (is, outside)) = reader e BadRange is (λ n. let no : BadRange ≡ Write = n in cc) (λ n. let no : BadRange ≡ Flush = n in cc)
read_reader v range e (inr (inl (is, missing))) = reader e NoObject is (λ n. let no : NoObject ≡ Write = n in cc) (λ n. let no : NoObject ≡ Flush = n in cc)
read_reader v range e (inr (inr h)) = load_reader e h

module _ (keeps : Bool) (disk : Disk) (skips : Bool) where
  pub plain_stop : (e : PoolError) → IsPlainRefusal e → IsStopOf keeps disk skips (Old e)
  plain_stop e plain = λ kind address is. absurd (plain.0 kind address is)

  pub stop_for : (d : BlockDamage) (s : Stop) → IsStopFor d skips s → (IsTrue keeps → MountsNone (bytes_of disk.now)) → IsStopOf keeps disk skips s
  stop_for d s (inl (never, is)) none = subst (λ (t : Stop). IsStopOf keeps disk skips t) (sym is) (λ kind address same. (never, none))
  stop_for d s (inr (passes, is)) none = subst (λ (t : Stop). IsStopOf keeps disk skips t) (sym is) (passes, none)

  -- a line wasn't written of a damage that is passed over
  pub unwritten_stop : (s : Stop) → s ≡ Unwritten → skips ≡ true → (IsTrue keeps → MountsNone (bytes_of disk.now)) → IsStopOf keeps disk skips s
  unwritten_stop s is passes none = subst (λ (t : Stop). IsStopOf keeps disk skips t) (sym is) (passes, none)
