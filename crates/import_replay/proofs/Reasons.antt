-- What a refusal says of the image.
use Rattle.std.proofs.Common.{◌≡◌, ◌⊎◌, inl, inr, ℕ, List, Result, Ok, Err, IfErr, ap, sym, subst, ◌∙◌}
use Rattle.std.specs.Prelude.{IsErrAnd}
use Rattle.base.specs.declared.error.PoolError.{PoolError}
use Rattle.base.specs.declared.error.PoolError.TheVariants.{BadGeometry, BadRange, Damaged, NoMemory, NoPool, NoSpace, Read, TooMany}
use Rattle.base.specs.tree.Mount.{HasNoPool, IsChainDamaged, IsTreeDamaged}
use Rattle.base.specs.formats.Uberblocks.{Uberblock, IsActive}
use Rattle.group_plans.specs.GroupPlans.{IsHeldRefusal}
use Rattle.intent_log.specs.Chains.{IsChainRefusal}
use Rattle.log_replay.specs.Replays.{IsReplayCause}
use Rattle.object_maps.specs.BlockReads.{IsLoadRefusal}
use Rattle.import_replay.specs.Found.{LacksName, LacksUberblock}
use Rattle.import_replay.specs.ImportRefusals.{HasLastNumbers, LacksImportRoom, IsDamagedWith, IsFindRefusal, IsReason, IsOpenRefusal, IsReadingRefusal, IsSyncRefusal}

-- an error that is passed on
pub passed_on : {A : Type 0} (r : Result A PoolError) (x : PoolError) (P : PoolError → Type 0) → IsErrAnd r (λ e. e ≡ x) → P x → IfErr r P
passed_on (Ok a) x P is h = tt
passed_on (Err e) x P is h = subst P (sym is) h

-- a refusal of another kind
other : (image : List ℕ) (e : PoolError) → (e ≡ NoPool → HasNoPool image) → (e ≡ TooMany → ⊥) → ((kind address : ℕ) → e ≡ Damaged kind address → ⊥) → (e ≡ NoSpace → ⊥) → IsReason image e
other image e no_pool not_many not_damaged not_full = record {
  no_pool = no_pool;
  too_many = λ is. absurd (not_many is);
  damaged = λ kind address is. absurd (not_damaged kind address is);
  no_space = λ is. absurd (not_full is);
}

find_reason : (image : List ℕ) (e : PoolError) → IsFindRefusal e → (e ≡ NoPool → HasNoPool image) → IsReason image e
find_reason image e (inl is) none = other image e none (λ f. cc) (λ k a f. cc) (λ f. cc)
find_reason image e (inr (inl is)) none = other image e none (λ f. cc) (λ k a f. cc) (λ f. cc)
find_reason image e (inr (inr is)) none = other image e none (λ f. cc) (λ k a f. cc) (λ f. cc)

pub reason-uberblock : (image : List ℕ) (e : PoolError) → IsFindRefusal e → LacksUberblock image e → IsReason image e
reason-uberblock image e refused none = find_reason image e refused (λ is. inl (none is))

pub reason-name : (image : List ℕ) (u : Uberblock) (e : PoolError) → IsFindRefusal e → IsActive image u → LacksName image u.guid u.group e → IsReason image e
reason-name image u e refused active none = find_reason image e refused (λ is. inr (u, active, none is))

-- or the first damage
maybe_damaged : (image : List ℕ) (e : PoolError) → (e ≡ NoPool → ⊥) → (e ≡ TooMany → ⊥) → (e ≡ NoSpace → ⊥) → ((kind address : ℕ) → e ≡ Damaged kind address → IsDamagedWith (λ (a : ℕ). IsChainDamaged image a) image kind address) → IsReason image e
maybe_damaged image e not_pool not_many not_full damaged = record {
  no_pool = λ is. absurd (not_pool is);
  too_many = λ is. absurd (not_many is);
  damaged = damaged;
  no_space = λ is. absurd (not_full is);
}

pub reason-load : (image : List ℕ) (e : PoolError) → IsLoadRefusal e → ((kind address : ℕ) → e ≡ Damaged kind address → IsTreeDamaged image kind address) → IsReason image e
reason-load image e (inl is) damaged = maybe_damaged image e (λ f. cc) (λ f. cc) (λ f. cc) (λ kind address same. inl (damaged kind address same))
reason-load image e (inr (inl is)) damaged = maybe_damaged image e (λ f. cc) (λ f. cc) (λ f. cc) (λ kind address same. inl (damaged kind address same))
reason-load image e (inr (inr (k, a, is))) damaged = maybe_damaged image e (λ f. cc) (λ f. cc) (λ f. cc) (λ kind address same. inl (damaged kind address same))

-- or a record that can't take place
pub reason-replay : (image : List ℕ) (address : ℕ) → IsChainDamaged image address → IsReason image (Damaged 6 address)
reason-replay image address damaged =
    maybe_damaged image (Damaged 6 address) (λ f. let no : Damaged 6 address ≡ NoPool = f in cc) (λ f. let no : Damaged 6 address ≡ TooMany = f in cc) (λ f. let no : Damaged 6 address ≡ NoSpace = f in cc)
    (λ kind other same. inr (let k : kind ≡ 6 = cc in k, subst (λ (a : ℕ). IsChainDamaged image a) (let a : address ≡ other = cc in a) damaged))

-- a chain is refused for memory or by the device
pub reason-chain : (image : List ℕ) (e : PoolError) → IsChainRefusal e → IsReason image e
reason-chain image e (inl is) = find_reason image e (inl is) (λ f. absurd (let no : NoMemory ≡ NoPool = sym is ∙ f in cc))
reason-chain image e (inr is) = find_reason image e (inr (inl is)) (λ f. absurd (let no : Read ≡ NoPool = sym is ∙ f in cc))

-- or that there is no room
other_than_full : (image : List ℕ) (e : PoolError) → (e ≡ NoPool → ⊥) → (e ≡ TooMany → ⊥) → ((kind address : ℕ) → e ≡ Damaged kind address → ⊥) → (e ≡ NoSpace → LacksImportRoom image) → IsReason image e
other_than_full image e not_pool not_many not_damaged full = record {
  no_pool = λ is. absurd (not_pool is);
  too_many = λ is. absurd (not_many is);
  damaged = λ kind address is. absurd (not_damaged kind address is);
  no_space = full;
}

pub reason-open : (image : List ℕ) (e : PoolError) → IsOpenRefusal e → (e ≡ NoSpace → LacksImportRoom image) → IsReason image e
reason-open image e (inl is) = other_than_full image e (λ f. cc) (λ f. cc) (λ k a f. cc)
reason-open image e (inr (inl is)) = other_than_full image e (λ f. cc) (λ f. cc) (λ k a f. cc)
reason-open image e (inr (inr (inl is))) = other_than_full image e (λ f. cc) (λ f. cc) (λ k a f. cc)
reason-open image e (inr (inr (inr is))) = other_than_full image e (λ f. cc) (λ f. cc) (λ k a f. cc)

-- so it is with a plan, which reads as well
pub reason-plan : (image : List ℕ) (e : PoolError) → IsHeldRefusal e → (e ≡ NoSpace → LacksImportRoom image) → IsReason image e
reason-plan image e (inl (inl is)) = other_than_full image e (λ f. cc) (λ f. cc) (λ k a f. cc)
reason-plan image e (inl (inr is)) = other_than_full image e (λ f. cc) (λ f. cc) (λ k a f. cc)
reason-plan image e (inr is) = other_than_full image e (λ f. cc) (λ f. cc) (λ k a f. cc)

pub reason-many : (image : List ℕ) → HasLastNumbers image → IsReason image TooMany
reason-many image past = record {
  no_pool = λ is. absurd (let f : TooMany ≡ NoPool = is in cc);
  too_many = λ is. past;
  damaged = λ kind address is. absurd (let f : TooMany ≡ Damaged kind address = is in cc);
  no_space = λ is. absurd (let f : TooMany ≡ NoSpace = is in cc);
}

-- a record can't take place
pub reason-record : (image : List ℕ) (e : PoolError) → IsReplayCause e → ((address : ℕ) → e ≡ Damaged 6 address → IsChainDamaged image address) → IsReason image e
reason-record image e (inl is) damaged = find_reason image e (inl is) (λ f. absurd (let no : NoMemory ≡ NoPool = sym is ∙ f in cc))
reason-record image e (inr (there, is)) damaged = record {
  no_pool = λ f. absurd (let no : Damaged 6 there ≡ NoPool = sym is ∙ f in cc);
  damaged = λ kind address same.
      let both : Damaged 6 there ≡ Damaged kind address = sym is ∙ same in
      let kind_is : kind ≡ 6 = cc in
      inr (kind_is, damaged address (same ∙ ap (λ (k : ℕ). Damaged k address) kind_is));
  too_many = λ f. absurd (let no : Damaged 6 there ≡ TooMany = sym is ∙ f in cc);
  no_space = λ f. absurd (let no : Damaged 6 there ≡ NoSpace = sym is ∙ f in cc);
}

-- a refusal by size or limits says nothing
pub no_reason : (image : List ℕ) (e : PoolError) → (e ≡ BadGeometry) ⊎ (e ≡ BadRange) → IsReason image e
no_reason image e (inl is) = record { no_pool = λ f. let no : BadGeometry ≡ NoPool = sym is ∙ f in cc; damaged = λ k a f. let no : BadGeometry ≡ Damaged k a = sym is ∙ f in cc; too_many = λ f. let no : BadGeometry ≡ TooMany = sym is ∙ f in cc; no_space = λ f. let no : BadGeometry ≡ NoSpace = sym is ∙ f in cc }
no_reason image e (inr is) = record { no_pool = λ f. let no : BadRange ≡ NoPool = sym is ∙ f in cc; damaged = λ k a f. let no : BadRange ≡ Damaged k a = sym is ∙ f in cc; too_many = λ f. let no : BadRange ≡ TooMany = sym is ∙ f in cc; no_space = λ f. let no : BadRange ≡ NoSpace = sym is ∙ f in cc }

-- a refusal before the first write is none of a write or a flush
pub not_both : (e : PoolError) → IsReadingRefusal e → IsSyncRefusal e → ⊥
not_both e reading (inl is) = subst IsReadingRefusal is reading
not_both e reading (inr is) = subst IsReadingRefusal is reading
