-- What a command's handle has committed is in its history, in order, and once the pool is synced no crash loses it.
use Rattle.std.proofs.Common.{◌≡◌, ◌≢◌, ◌*◌, ◌<◌, ◌≤◌, ◌∷◌, [], ℕ, zero, suc, List, Ok, Err, ap, arith, false, inl, inr, length, min, refl, subst, sym, take, true, ◌∙◌}
use Rattle.std.specs.Prelude.{Bool, None, Option, Result, Some, is_ok, slice_get}
use Rattle.std.proofs.Math.Logic.{∥∥₁_elim, ∥∥₁_map, ∥∥₁_prop}
use Rattle.std.proofs.Math.Seq.{take-length}
use Rattle.std.proofs.lemmas.Bool.{false≢true}
use Rattle.base.specs.declared.error.PoolError.{PoolError}
use Rattle.base.specs.declared.error.PoolError.TheVariants.{NoObject, NoSpace}
use Rattle.base.specs.declared.names.Group.{Group}
use Rattle.base.specs.declared.names.ObjectId.{ObjectId}
use Rattle.base.specs.declared.operation.Op.{Op}
use Rattle.base.specs.declared.operation.Op.TheVariants.{Remove}
use Rattle.base.specs.steps.Tables.{GoesOn}
use Rattle.base.specs.steps.Steps.{State}
use Rattle.base.proofs.common.KeptLists.{none_at}
use Rattle.base.proofs.steps.SeenStates.{at-prefix, grown, no-shorter}
use Rattle.device_model.specs.declared.device.SectorDevice.{Ghosts}
use Rattle.pool_threads.specs.declared.handle.Handle.{Handle}
use Rattle.pool_threads.specs.Answers.{state_seen}
use Rattle.pool_threads.specs.Waits.{AreDurable, SyncsPool}
use Rattle.pool_threads.proofs.Along.{GoesAlong, along_made, along_on, along_same}
use Rattle.pool_threads.proofs.TransactsSeen.{entered_by}
use Rattle.running_pools.proofs.Along.{along_syncs}
use Rattle.running_pools.specs.Commits.{MakesFirst, command_owner}
use Rattle.running_pools.proofs.Commits.{along_first, sound_first}
use Rattle.running_pools.proofs.Sounds.{durable_after}
use Rattle.commands.specs.Committed.{AreEntered, AreNewEntries, HappensOn, PutsAsFound, PutsBy, PutsFrom, PutsIfRoom, PutsOn, RemovesOn, SyncsAfter, SyncsIfMade, result_after}
use Rattle.commands.specs.PutRoom.{lacks_room}
use Rattle.commands.specs.Puts.{IsStartFor, put_transactions, start_of}
use Rattle.commands.specs.declared.changes.Put.{Put}
use Rattle.commands.specs.declared.changes.Start.{Start}
use Rattle.commands.specs.declared.changes.Start.TheVariants.{Creates, Empties, Keeps}

-- an entry that is there is below the number of entries
below : {A : Type 0} (xs : List A) (i : ℕ) (x : A) → slice_get xs i ≡ Some x → i < length xs
below [] i x at = absurd (none_at i x at)
below (y ∷ ys) zero x at = omega arith
below (y ∷ ys) (suc i) x at = let rest : i < length ys = below ys i x at in omega (arith, rest)

-- entries stay where they are, and no crash loses them once none loses any of the earlier state
entered_on : (durable later : Type 0) (all : List (List Op)) (from : ℕ) (s t : State) → GoesOn s t → (later → AreDurable s t) → AreEntered durable all from s → AreEntered later all from t
entered_on durable later [] from s t onward known there = tt
entered_on durable later (ops ∷ rest) from s t onward known (ordinal, e, high, at, are, is, more) = (
  ordinal,
  e,
  high,
  at-prefix s.past.entries t.past.entries ordinal e (grown s t onward).entries at,
  are,
  λ so. known so ordinal e at,
  entered_on durable later rest (suc ordinal) s t onward known more,
)

entered_from : (durable : Type 0) (all : List (List Op)) (low from : ℕ) (s : State) → low ≤ from → AreEntered durable all from s → AreEntered durable all low s
entered_from durable [] low from s lower there = tt
entered_from durable (ops ∷ rest) low from s lower (ordinal, e, high, at, are, is, more) = (ordinal, e, (let least : low ≤ ordinal = omega (arith, lower, high) in least), at, are, is, more)

module _ {Dev : Type 0} {G : Ghosts Dev} where
  -- what was committed is in the history, in this order
  pub entered_first : (all : List (List Op)) (count : ℕ) (result : Result (Unit {0}) PoolError) (old new : Handle Dev G) → MakesFirst all count result old new → ∥ AreNewEntries ⊥ (take count all) (state_seen old) (state_seen new) ∥₁
  entered_first [] count result old new (none, is, same) = subst (λ (k : ℕ). ∥ AreNewEntries ⊥ (take k []) (state_seen old) (state_seen new) ∥₁) (sym none) ∣ tt ∣₁
  entered_first (ops ∷ rest) zero result old new makes = ∣ tt ∣₁
  entered_first (ops ∷ rest) (suc count) result old new (r, next, made, more) =
      ∥∥₁_elim (entered_by command_owner ops r old old next new (along_same old old refl) made (along_first rest count result next new more)) ∥∥₁_prop (λ here.
      ∥∥₁_elim (entered_by command_owner ops r old old next next (along_same old old refl) made (along_same next next refl)) ∥∥₁_prop (λ there.
      ∥∥₁_map {B = AreNewEntries ⊥ (ops ∷ take count rest) (state_seen old) (state_seen new)} (entered_first rest count result next new more) (λ others. (
        r.ordinal.0,
        record { group = r.group.0; tx = here.0.0; ops = ops },
        here.1.fresh,
        here.1.entry,
        refl,
        λ never. absurd never,
        entered_from ⊥ (take count rest) (suc r.ordinal.0) (length (state_seen next).past.entries) (state_seen new) (below (state_seen next).past.entries r.ordinal.0 (record { group = r.group.0; tx = there.0.0; ops = ops }) there.1.entry) others,
      ))))

  -- some were committed, and then the pool was synced
  module _ (all : List (List Op)) (count : ℕ) (made : Result (Unit {0}) PoolError) (old done new : Handle Dev G) (some : count ≢ 0) (makes : MakesFirst all count made old done) where
    synced_after : (durable : Type 0) (synced : Result Group PoolError) → SyncsPool synced done new → (durable → ∥ AreDurable (state_seen done) (state_seen new) ∥₁) → durable → ∥ AreNewEntries durable (take count all) (state_seen old) (state_seen new) ∥₁
    synced_after durable synced syncs known so =
        ∥∥₁_elim (along_syncs synced done new syncs).onward.goes_on ∥∥₁_prop (λ onward.
        ∥∥₁_elim (known so) ∥∥₁_prop (λ all_known.
        ∥∥₁_map {B = AreNewEntries durable (take count all) (state_seen old) (state_seen new)} (entered_first all count made old done makes)
        (λ there. entered_on ⊥ durable (take count all) (length (state_seen old).past.entries) (state_seen done) (state_seen new) onward (λ _. all_known) there)))

    pub entered_and_synced : (group : Group) → SyncsPool (Ok group) done new → ∥ AreNewEntries (Unit {0}) (take count all) (state_seen old) (state_seen new) ∥₁
    entered_and_synced group syncs = synced_after (Unit {0}) (Ok group) syncs (λ _. durable_after group done new (sound_first all count made old done some makes) syncs) tt

    entered_unless : (durable : Type 0) (e : PoolError) → (durable → ⊥) → SyncsPool (Err e) done new → ∥ AreNewEntries durable (take count all) (state_seen old) (state_seen new) ∥₁
    entered_unless durable e never syncs =
        ∥∥₁_elim (along_syncs (Err e) done new syncs).onward.goes_on ∥∥₁_prop (λ onward.
        ∥∥₁_map {B = AreNewEntries durable (take count all) (state_seen old) (state_seen new)} (entered_first all count made old done makes)
        (λ there. entered_on ⊥ durable (take count all) (length (state_seen old).past.entries) (state_seen done) (state_seen new) onward (λ so. absurd (never so)) there))

    entered_if : (is_synced : Bool) (synced : Result Group PoolError) → is_synced ≡ is_ok synced → SyncsPool synced done new → ∥ AreNewEntries (is_synced ≡ true) (take count all) (state_seen old) (state_seen new) ∥₁
    entered_if is_synced (Ok group) is syncs =
        synced_after (is_synced ≡ true) (Ok group) syncs (λ _. durable_after group done new (sound_first all count made old done some makes) syncs) is
    entered_if is_synced (Err e) is syncs = entered_unless (is_synced ≡ true) e (λ so. false≢true (sym is ∙ so)) syncs

  -- The pieces of a put are in the history, as many as it says. If it says that they are synced, no crash loses them.
  put_entered : (start : Start) (n : ObjectId) (offset : Option ℕ) (bytes : List ℕ) (put : Put) (result : Result (Unit {0}) PoolError) (old new : Handle Dev G) → PutsFrom start n offset bytes put result old new
      → ∥ AreNewEntries (put.is_synced ≡ true) (take put.transactions (put_transactions start n offset bytes)) (state_seen old) (state_seen new) ∥₁
  put_entered start n offset bytes put result old new p = by p.syncs
    where
      by : SyncsAfter put p.made result p.done new → ∥ AreNewEntries (put.is_synced ≡ true) (take put.transactions (put_transactions start n offset bytes)) (state_seen old) (state_seen new) ∥₁
      by (inl (none, is, same)) = subst (λ (k : ℕ). ∥ AreNewEntries (put.is_synced ≡ true) (take k (put_transactions start n offset bytes)) (state_seen old) (state_seen new) ∥₁) (sym none) ∣ tt ∣₁
      by (inr (synced, some, syncs, is_synced, is)) = entered_if (put_transactions start n offset bytes) put.transactions p.made old p.done new some p.makes put.is_synced synced is_synced syncs

  -- none of them was there when the handle had seen less
  pub entered_since : (durable : Type 0) (all : List (List Op)) (first old : Handle Dev G) (s : State) → GoesAlong first old → ∥ AreEntered durable all (length (state_seen old).past.entries) s ∥₁ → ∥ AreEntered durable all (length (state_seen first).past.entries) s ∥₁
  entered_since durable all first old s along there =
      ∥∥₁_elim along.onward.goes_on ∥∥₁_prop (λ onward.
      ∥∥₁_map {B = AreEntered durable all (length (state_seen first).past.entries) s} there (λ h.
      entered_from durable all (length (state_seen first).past.entries) (length (state_seen old).past.entries) s
      (no-shorter (state_seen first).past.entries (state_seen old).past.entries (grown (state_seen first) (state_seen old) onward).entries) h))

  pub put_stands : (start : Start) (n : ObjectId) (offset : Option ℕ) (bytes : List ℕ) (put : Put) (result : Result (Unit {0}) PoolError) (first old new : Handle Dev G) → GoesAlong first old → PutsFrom start n offset bytes put result old new
      → ∥ AreNewEntries (put.is_synced ≡ true) (take put.transactions (put_transactions start n offset bytes)) (state_seen first) (state_seen new) ∥₁
  put_stands start n offset bytes put result first old new along p =
      entered_since (put.is_synced ≡ true) (take put.transactions (put_transactions start n offset bytes)) first old (state_seen new) along (put_entered start n offset bytes put result old new p)

  -- if all were committed, they are as many as there are
  pub all_counted : (all : List (List Op)) (count : ℕ) (old new : Handle Dev G) → MakesFirst all count (Ok tt) old new → count ≡ length all
  all_counted [] count old new (none, is, same) = none
  all_counted (ops ∷ rest) zero old new (e, is, refused) = absurd (let no_way : Ok tt ≡ Err e = is in cc)
  all_counted (ops ∷ rest) (suc count) old new (r, next, made, more) = let others : count ≡ length rest = all_counted rest count next new more in omega (arith, others)

  -- Transactions of a put that ends well are in the history as a whole, and no crash loses them.
  module _ (all : List (List Op)) (put : Put) (old done new : Handle Dev G) where
    abbrev Stands : Type 0
    Stands = (put.transactions ≡ length all) × ∥ AreNewEntries (Unit {0}) (take put.transactions all) (state_seen old) (state_seen new) ∥₁

    both_well : (made : Result (Unit {0}) PoolError) (synced : Result Group PoolError) → Ok tt ≡ result_after made synced → MakesFirst all put.transactions made old done → put.transactions ≢ 0 → SyncsPool synced done new → Stands
    both_well (Ok tt) (Ok group) is makes some syncs = (all_counted all put.transactions old done makes, entered_and_synced all put.transactions (Ok tt) old done new some makes group syncs)
    both_well (Ok tt) (Err e) is makes some syncs = absurd (let no_way : Ok tt ≡ Err e = is in cc)
    both_well (Err e) synced is makes some syncs = absurd (let no_way : Ok tt ≡ Err e = is in cc)

    ends_well : (made : Result (Unit {0}) PoolError) → MakesFirst all put.transactions made old done → SyncsAfter put made (Ok tt) done new → Stands
    ends_well made makes (inl (none, is, same)) = (
      all_counted all put.transactions old done (subst (λ (r : Result (Unit {0}) PoolError). MakesFirst all put.transactions r old done) (sym is) makes),
      subst (λ (k : ℕ). ∥ AreNewEntries (Unit {0}) (take k all) (state_seen old) (state_seen new) ∥₁) (sym none) ∣ tt ∣₁,
    )
    ends_well made makes (inr (synced, some, syncs, is_synced, is)) = both_well made synced is makes some syncs

    pub all_stand : (made : Result (Unit {0}) PoolError) → MakesFirst all put.transactions made old done → SyncsAfter put made (Ok tt) done new
        → (put.transactions ≡ length all) × ∥ AreNewEntries (Unit {0}) all (state_seen old) (state_seen new) ∥₁
    all_stand made makes syncs =
        let s = ends_well made makes syncs in
        (s.0, subst (λ (l : List (List Op)). ∥ AreNewEntries (Unit {0}) l (state_seen old) (state_seen new) ∥₁) (ap (λ (k : ℕ). take k all) s.0 ∙ take-length all) s.1)

-- how a put starts that has found an object, or none
module _ (offset : Option ℕ) (found : Result ℕ PoolError) where
  pub may_start : (start : Start) → start_of offset found ≡ Ok start → IsStartFor offset start
  may_start start is = by offset found is
    where
      empties : Empties ≢ Keeps
      empties is = let no_way : Empties ≡ Keeps = is in cc

      creates : Creates ≢ Keeps
      creates is = let no_way : Creates ≡ Keeps = is in cc

      keeps : Keeps ≢ Empties
      keeps is = let no_way : Keeps ≡ Empties = is in cc

      makes : Creates ≢ Empties
      makes is = let no_way : Creates ≡ Empties = is in cc

      by : (o : Option ℕ) (f : Result ℕ PoolError) → start_of o f ≡ Ok start → IsStartFor o start
      by None (Ok count) is = let same : Empties ≡ start = cc in subst (IsStartFor None) same empties
      by (Some at) (Ok count) is = let same : Keeps ≡ start = cc in subst (IsStartFor (Some at)) same keeps
      by None (Err NoObject) is = let same : Creates ≡ start = cc in subst (IsStartFor None) same creates
      by (Some at) (Err NoObject) is = let same : Creates ≡ start = cc in subst (IsStartFor (Some at)) same makes
      by None (Err e) is = absurd (let no_way : Err e ≡ Ok start = is in cc)
      by (Some at) (Err e) is = absurd (let no_way : Err e ≡ Ok start = is in cc)

-- What a handle did that put bytes, and ended well: all its transactions are in the history of its pool, none of them was
-- there before, and no crash loses one.
module _ {Dev : Type 0} {G : Ghosts Dev} (n : ObjectId) (offset : Option ℕ) (bytes : List ℕ) (put : Put) (first last : Handle Dev G) where
  abbrev pub PutEnters : Start → Type 0
  PutEnters start = IsStartFor offset start × (put.transactions ≡ length (put_transactions start n offset bytes)) × (put.bytes ≡ min (64512 * put.transactions) (length bytes))
      × ∥ AreNewEntries (Unit {0}) (put_transactions start n offset bytes) (state_seen first) (state_seen last) ∥₁

  pub put_enters : PutsBy n offset bytes put (Ok tt) first last → (start : Start) × PutEnters start
  put_enters did = by (start_of offset did.found) refl did.puts
    where
      -- there was room for a put that ended well
      with_room : (lacks : Bool) (start : Start) (old : Handle Dev G) → PutsIfRoom lacks start n offset bytes put (Ok tt) old last → PutsFrom start n offset bytes put (Ok tt) old last
      with_room false start old p = p
      with_room true start old (none, nothing, is, same) = absurd (let no_way : Ok tt ≡ Err NoSpace = is in cc)

      by : (s : Result Start PoolError) → start_of offset did.found ≡ s → PutsAsFound s did.found n offset bytes put (Ok tt) did.looked last → (start : Start) × PutEnters start
      by (Err e) is p = absurd (let no_way : Ok tt ≡ Err e = p.2 in cc)
      by (Ok start) is r =
          let p = with_room (lacks_room start offset bytes did.found r.status.available) start r.asked r.puts in
          let all : List (List Op) = put_transactions start n offset bytes in
          let w = all_stand all put r.asked p.done last p.made p.makes p.syncs in (
            start,
            (
              may_start offset did.found start is,
              w.0,
              p.size,
              entered_since (Unit {0}) all first r.asked (state_seen last) (along_on first did.looked r.asked (along_made did.looks) (along_made r.asks)) w.1,
            ),
          )

-- So it is of a put into the pool of a device.
module _ {Dev : Type 0} (G : Ghosts Dev) (device : Dev) (n : ObjectId) (offset : Option ℕ) (bytes : List ℕ) (put : Put) where
  abbrev pub PutHappens : Start → Type 0
  PutHappens start = IsStartFor offset start × (put.transactions ≡ length (put_transactions start n offset bytes)) × (put.bytes ≡ min (64512 * put.transactions) (length bytes))
      × HappensOn G device (AreNewEntries (Unit {0}) (put_transactions start n offset bytes))

  pub put_happens : PutsOn G device n offset bytes put (Ok tt) → (start : Start) × PutHappens start
  put_happens o =
      let p = put_enters n offset bytes put o.does.first o.does.last o.does.did in (
        p.0,
        (
          p.1.0,
          p.1.1,
          p.1.2,
          record { pool = o.pool; opens = o.opens; first = o.does.first; only = o.does.only; last = o.does.last; sees = p.1.3 },
        ),
      )

-- So it is of one transaction that was committed, and synced after.
module _ {Dev : Type 0} {G : Ghosts Dev} (ops : List Op) where
  pub one_and_synced : (count : ℕ) (made : Result (Unit {0}) PoolError) (first done last : Handle Dev G) → MakesFirst (ops ∷ []) count made first done → SyncsIfMade made (Ok tt) done last
      → ∥ AreNewEntries (Unit {0}) (ops ∷ []) (state_seen first) (state_seen last) ∥₁
  one_and_synced count (Err e) first done last makes (is, same) = absurd (let no_way : Ok tt ≡ Err e = is in cc)
  one_and_synced zero (Ok ok) first done last (e, is, refused) syncs = absurd (let no_way : Ok tt ≡ Err e = is in cc)
  one_and_synced (suc zero) (Ok ok) first done last makes (Ok group, syncs, is) =
      entered_and_synced (ops ∷ []) 1 (Ok ok) first done last (λ none. absurd (omega (arith, none))) makes group syncs
  one_and_synced (suc zero) (Ok ok) first done last makes (Err e, syncs, is) = absurd (let no_way : Ok tt ≡ Err e = is in cc)
  one_and_synced (suc (suc count)) (Ok ok) first done last (r, next, made, (none, is, same)) syncs = absurd (let no_way : suc count ≡ 0 = none in omega (arith, no_way))

-- and of an object that was removed
module _ {Dev : Type 0} (G : Ghosts Dev) (device : Dev) (n : ObjectId) where
  pub removal_happens : RemovesOn G device n → HappensOn G device (AreNewEntries (Unit {0}) ((Remove n ∷ []) ∷ []))
  removal_happens o =
      let r = o.does in
      record {
        pool = o.pool;
        opens = o.opens;
        first = r.first;
        only = r.only;
        last = r.last;
        sees = one_and_synced (Remove n ∷ []) r.count r.made r.first r.done r.last r.makes r.syncs;
      }
