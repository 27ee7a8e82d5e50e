-- What was only read, in one look or in several.
use Rattle.std.proofs.Common.{◌≡◌, ◌⊎◌, Ok, Err, ap, inl, inr, subst, sym, refl, ◌∙◌}
use Rattle.std.specs.Prelude.{IfErr, Result}
use Rattle.base.specs.declared.error.PoolError.{PoolError}
use Rattle.base.specs.declared.error.PoolError.TheVariants.{Flush, Read, Write}
use Rattle.base.specs.declared.refused.RefusedCalls.{RefusedCalls}
use Rattle.base.specs.disk.Calls.{counted, with_refusal}
use Rattle.device_model.specs.Reading.{OnlyReads}
use Rattle.device_model.specs.declared.device.SectorDevice.{Ghosts}
use Rattle.pool_threads.specs.declared.handle.Handle.{Handle}
use Rattle.read_commands.specs.Checks.{IsOnlyRead}
use Rattle.read_commands.specs.Reads.{IsReadersRefusal}
use Rattle.copies.specs.Stops.{StaysAlone}

-- the handle stays, and stays again
pub alone_same : {Dev : Type 0} {G : Ghosts Dev} (old new : Handle Dev G) → new ≡ old → StaysAlone old new
alone_same old new same = subst (λ (h : Handle _ _). StaysAlone old h) (sym same) (record { same_pool = (refl, refl); met_none = (refl, refl) })

pub alone_on : {Dev : Type 0} {G : Ghosts Dev} (old now new : Handle Dev G) → StaysAlone old now → StaysAlone now new → StaysAlone old new
alone_on old now new first later = record {
  same_pool = (later.same_pool.0 ∙ first.same_pool.0, later.same_pool.1 ∙ first.same_pool.1);
  met_none = (later.met_none.0 ∙ first.met_none.0, later.met_none.1 ∙ first.met_none.1);
}

of_reader : (e : PoolError) (calls : RefusedCalls) → IsReadersRefusal e → (with_refusal e calls ≡ calls) ⊎ (with_refusal e calls ≡ with_refusal Read calls)
of_reader Read calls plain = inr refl
of_reader Write calls plain = absurd (plain.0 refl)
of_reader Flush calls plain = absurd (plain.1 refl)
of_reader _ calls plain = inl refl

module _ {Dev : Type 0} (D : Ghosts Dev) where
  counted_so : {T : Type 0} (r : Result T PoolError) (old new : Dev) → D.refused new ≡ counted r (D.refused old) → IfErr r IsReadersRefusal → (D.refused new ≡ D.refused old) ⊎ (D.refused new ≡ with_refusal Read (D.refused old))
  counted_so (Ok x) old new count plain = inl count
  counted_so (Err e) old new count plain = by (of_reader e (D.refused old) plain)
    where
      by : (with_refusal e (D.refused old) ≡ D.refused old) ⊎ (with_refusal e (D.refused old) ≡ with_refusal Read (D.refused old)) → (D.refused new ≡ D.refused old) ⊎ (D.refused new ≡ with_refusal Read (D.refused old))
      by (inl same) = inl (count ∙ same)
      by (inr more) = inr (count ∙ more)

  pub only_read : {T : Type 0} (r : Result T PoolError) (old new : Dev) → OnlyReads D r old new → IfErr r IsReadersRefusal → IsOnlyRead D old new
  only_read r old new reads plain = record { size = reads.size; disk = reads.disk; refused = counted_so r old new reads.count plain }

  pub not_read : (old new : Dev) → new ≡ old → IsOnlyRead D old new
  not_read old new same = subst (λ (d : Dev). IsOnlyRead D old d) (sym same) (record { size = refl; disk = λ keeps. refl; refused = inl refl })

  -- after looks that the device answered
  pub read_on : (old mid new : Dev) → IsOnlyRead D old mid → D.refused mid ≡ D.refused old → IsOnlyRead D mid new → IsOnlyRead D old new
  read_on old mid new first answered later = record {
    size = later.size ∙ first.size;
    disk = λ keeps. later.disk keeps ∙ first.disk keeps;
    refused = by later.refused;
  }
    where
      by : (D.refused new ≡ D.refused mid) ⊎ (D.refused new ≡ with_refusal Read (D.refused mid)) → (D.refused new ≡ D.refused old) ⊎ (D.refused new ≡ with_refusal Read (D.refused old))
      by (inl same) = inl (same ∙ answered)
      by (inr more) = inr (more ∙ ap (λ c. with_refusal Read c) answered)
