-- What callers take from a put of two bytes, and from a removal, that the engine refused.
use Rattle.std.proofs.Common.{◌≡◌, ◌≢◌, ◌⊎◌, ◌-◌, ◌<◌, ◌∷◌, [], ℕ, zero, suc, List, Ok, Err, ap, arith, false, inl, inr, refl, subst, sym, true, ◌∙◌}
use Rattle.std.specs.Prelude.{Bool, IsTrue, None, Result, nat_lt}
use Rattle.std.proofs.lemmas.Bool.{ltb-true, true≢false}
use Rattle.base.specs.declared.error.PoolError.{PoolError}
use Rattle.base.specs.declared.error.PoolError.TheVariants.{NoObject, NoSpace}
use Rattle.base.specs.declared.names.Group.{Group}
use Rattle.base.specs.declared.names.ObjectId.{ObjectId}
use Rattle.base.specs.declared.names.Receipt.{Receipt}
use Rattle.base.specs.declared.status.Status.{Status}
use Rattle.base.specs.declared.operation.Op.{Op}
use Rattle.base.specs.declared.operation.Op.TheVariants.{Create, Remove, SetLength, Write}
use Rattle.base.specs.declared.step.Reply.TheVariants as reply
use Rattle.base.specs.declared.step.Step.TheVariants as step
use Rattle.base.specs.disk.Calls.{with_refusal}
use Rattle.base.specs.formats.Limits.{one_level_length}
use Rattle.base.specs.steps.Runs.{reply_of}
use Rattle.device_model.specs.declared.device.SectorDevice.{Ghosts}
use Rattle.import_replay.specs.ImportRefusals.{IsImportRefusal}
use Rattle.pool_threads.specs.Answers.{Makes}
use Rattle.pool_threads.specs.Handles.{LeavesSame}
use Rattle.running_pools.specs.LeftDevices.{IsOnlyHandle}
use Rattle.pool_threads.specs.Transacts.{TransactsOrLacks}
use Rattle.pool_threads.specs.Waits.{SyncsPool}
use Rattle.pool_threads.specs.declared.handle.Handle.{Handle}
use Rattle.pool_threads.specs.declared.shared.Shared.{Shared}
use Rattle.commands.specs.Committed.{IsNotOpened, IsOpenedOn, PutsAsFound, PutsIfRoom, PutsInto, PutsOrFails, RefusesPut, RefusesRemoval, RemovesFrom, SyncsAfter, SyncsIfMade, result_after}
use Rattle.running_pools.specs.Commits.{MakesFirst, command_owner}
use Rattle.commands.specs.PutRoom.{freed_blocks, lacks_room, length_found}
use Rattle.commands.specs.Puts.{put_transactions, start_of}
use Rattle.commands.specs.declared.changes.Put.{Put}
use Rattle.commands.specs.declared.changes.Start.{Start}
use Rattle.commands.specs.declared.changes.Start.TheVariants.{Creates, Empties, Keeps}
use Rattle.read_commands.specs.declared.failure.Failure.{Failure}
use Rattle.commands.proofs.Committed.{may_start}

abbrev seven : ObjectId
seven = record { 0 = 7 }

abbrev two : List ℕ
two = 1 ∷ 2 ∷ []

abbrev PutsTwo : List Op → Type 0
PutsTwo ops = (ops ≡ Create seven ∷ Write seven 0 two ∷ []) ⊎ (ops ≡ SetLength seven 0 ∷ Write seven 0 two ∷ [])

same_error : (A : Type 0) (r : Result A PoolError) (x y : PoolError) → r ≡ Err x → r ≡ Err y → x ≡ y
same_error A r x y one other = cc

fewer : (freed needed available : ℕ) → nat_lt freed (needed - available) ≡ true → available < needed
fewer freed needed available is = let more : freed < needed - available = ltb-true freed (needed - available) is in omega (arith, more)

-- two bytes need a data block, an indirect block, a directory and the root
few_available : (start : Start) (found : Result ℕ PoolError) (available : ℕ) → start ≢ Keeps → lacks_room start None two found available ≡ true → available < 4
unfolding one_level_length
few_available Creates found available other is = fewer 0 4 available is
few_available Empties found available other is = fewer (freed_blocks Empties 0 2 (length_found found)) 4 available is
few_available Keeps found available other is = absurd (other refl)

module _ {Dev : Type 0} {G : Ghosts Dev} (e : PoolError) where
  sync_refused : (done last : Handle Dev G) (synced : Result Group PoolError) → Err e ≡ result_after (Ok tt) synced → SyncsPool synced done last → SyncsPool (Err e) done last
  sync_refused done last (Ok group) is syncs = absurd (let no_way : Err e ≡ Ok tt = is in cc)
  sync_refused done last (Err other) is syncs = subst (λ (x : PoolError). SyncsPool (Err x) done last) (same_error (Unit {0}) (Err e) other e is refl) syncs

  -- of one transaction and the sync after it, one was refused
  one_refused : (ops : List Op) (put : Put) (count : ℕ) (made : Result (Unit {0}) PoolError) (old done last : Handle Dev G) → put.transactions ≡ count
      → MakesFirst (ops ∷ []) count made old done → SyncsAfter put made (Err e) done last → TransactsOrLacks command_owner ops (Err e) old done ⊎ SyncsPool (Err e) done last
  one_refused ops put zero made old done last are (other, is, refused) (inl (none, same, end)) =
      inl (subst (λ (x : PoolError). TransactsOrLacks command_owner ops (Err x) old done) (same_error (Unit {0}) made other e is (sym same)) refused)
  one_refused ops put zero made old done last are makes (inr (synced, some, syncs, is_synced, is)) = absurd (some are)
  one_refused ops put (suc count) made old done last are (r, next, one, (none, is, same)) (inl (nothing, told, end)) = absurd (let no_way : Err e ≡ Ok tt = told ∙ is in cc)
  one_refused ops put (suc count) made old done last are (r, next, one, (none, is, same)) (inr (synced, some, syncs, is_synced, told)) =
      inr (sync_refused done last synced (told ∙ ap (λ (m : Result (Unit {0}) PoolError). result_after m synced) is) syncs)

  -- a handle was told that fewer than four blocks are available
  abbrev IsToldFew : Handle Dev G → Handle Dev G → Type 0
  IsToldFew old new = (s : Status) × Makes step.Status (reply.Status s) old new × (s.available < 4) × (e ≡ NoSpace)

  -- the only handle was refused the length, the one transaction, or the sync, or it was told so
  abbrev IsPutRefused : Shared Dev G → Type 0
  IsPutRefused p = (first looked done last : Handle Dev G) × IsOnlyHandle p first × (Makes (step.Length seven) (reply.Refused e) first looked
      ⊎ (((ops : List Op) × TransactsOrLacks command_owner ops (Err e) looked done × PutsTwo ops) ⊎ (SyncsPool (Err e) done last ⊎ IsToldFew looked done)))

  put_refused : (p : Shared Dev G) (put : Put) → PutsInto p seven None two put (Err e) → IsPutRefused p
  put_refused p put i = by (start_of None i.did.found) refl i.did.puts
    where
      length_refused : (f : Result ℕ PoolError) (other : PoolError) → start_of None f ≡ Err other → Makes (step.Length seven) (reply_of (λ count. reply.Length count) f) i.first i.did.looked → Makes (step.Length seven) (reply.Refused other) i.first i.did.looked
      length_refused (Ok count) other is makes = absurd (let no_way : Ok Empties ≡ Err other = is in cc)
      length_refused (Err NoObject) other is makes = absurd (let no_way : Ok Creates ≡ Err other = is in cc)
      length_refused (Err x) other is makes = subst (λ (y : PoolError). Makes (step.Length seven) (reply.Refused y) i.first i.did.looked) (same_error Start (Err x) x other refl is) makes

      made_or_synced : (ops : List Op) (asked done : Handle Dev G) → PutsTwo ops → TransactsOrLacks command_owner ops (Err e) asked done ⊎ SyncsPool (Err e) done i.last → IsPutRefused p
      made_or_synced ops asked done so (inl refused) = (i.first, asked, done, i.last, i.only, inr (inl (ops, refused, so)))
      made_or_synced ops asked done so (inr syncs) = (i.first, asked, done, i.last, i.only, inr (inr (inl syncs)))

      by_room : (start : Start) (ops : List Op) (status : Status) (asked : Handle Dev G) (lacks : Bool) → start ≢ Keeps → PutsTwo ops → put_transactions start seven None two ≡ ops ∷ []
          → Makes step.Status (reply.Status status) i.did.looked asked → lacks_room start None two i.did.found status.available ≡ lacks → PutsIfRoom lacks start seven None two put (Err e) asked i.last → IsPutRefused p
      by_room start ops status asked false other so are asks is q =
          made_or_synced ops asked q.done so (one_refused ops put put.transactions q.made asked q.done i.last refl (subst (λ (all : List (List Op)). MakesFirst all put.transactions q.made asked q.done) are q.makes) q.syncs)
      by_room start ops status asked true other so are asks is (none, nothing, told, same) =
          (i.first, i.did.looked, asked, i.last, i.only, inr (inr (inr (status, asks, few_available start i.did.found status.available other is, same_error (Unit {0}) (Err e) e NoSpace refl told))))

      by : (s : Result Start PoolError) → start_of None i.did.found ≡ s → PutsAsFound s i.did.found seven None two put (Err e) i.did.looked i.last → IsPutRefused p
      by (Err other) is (none, nothing, told, same) =
          (i.first, i.did.looked, i.did.looked, i.last, i.only, inl (subst (λ (x : PoolError). Makes (step.Length seven) (reply.Refused x) i.first i.did.looked) (same_error (Unit {0}) (Err e) other e told refl) (length_refused i.did.found other is i.did.looks)))
      by (Ok Creates) is r = by_room Creates (Create seven ∷ Write seven 0 two ∷ []) r.status r.asked (lacks_room Creates None two i.did.found r.status.available) (may_start None i.did.found Creates is) (inl refl) refl r.asks refl r.puts
      by (Ok Empties) is r = by_room Empties (SetLength seven 0 ∷ Write seven 0 two ∷ []) r.status r.asked (lacks_room Empties None two i.did.found r.status.available) (may_start None i.did.found Empties is) (inr refl) refl r.asks refl r.puts
      by (Ok Keeps) is r = absurd (may_start None i.did.found Keeps is refl)

  -- the only handle was refused the one transaction, or the sync after it
  abbrev IsRemovalRefused : Shared Dev G → Type 0
  IsRemovalRefused p = (first done last : Handle Dev G) × IsOnlyHandle p first × (TransactsOrLacks command_owner (Remove seven ∷ []) (Err e) first done
      ⊎ ((r : Receipt) × TransactsOrLacks command_owner (Remove seven ∷ []) (Ok r) first done × SyncsPool (Err e) done last))

  removed_or_refused : (p : Shared Dev G) → RemovesFrom p seven (Err e) → IsRemovalRefused p
  removed_or_refused p f = by f.count f.made f.makes f.syncs
    where
      by : (count : ℕ) (made : Result (Unit {0}) PoolError) → MakesFirst ((Remove seven ∷ []) ∷ []) count made f.first f.done → SyncsIfMade made (Err e) f.done f.last → IsRemovalRefused p
      by zero (Ok done) (other, is, refused) syncs = absurd (let no_way : Ok done ≡ Err other = is in cc)
      by zero (Err made) (other, is, refused) (told, same) =
          (f.first, f.done, f.last, f.only, inl (subst (λ (x : PoolError). TransactsOrLacks command_owner (Remove seven ∷ []) (Err x) f.first f.done) (same_error (Unit {0}) (Err made) other e is (sym told)) refused))
      by (suc count) (Err made) (r, next, one, (none, is, same)) syncs = absurd (let no_way : Err made ≡ Ok tt = is in cc)
      by (suc count) (Ok done) (r, next, one, (none, is, same)) (synced, syncs, told) =
          (f.first, f.done, f.last, f.only, inr (r, subst (λ (h : Handle Dev G). TransactsOrLacks command_owner (Remove seven ∷ []) (Ok r) f.first h) (sym same) one, sync_refused f.done f.last synced told syncs))

module _ {Dev : Type 0} (G : Ghosts Dev) (device : Dev) (moment : ℕ) where
  -- the device came back from an import that was refused so
  abbrev ComesBack : PoolError → Type 0
  ComesBack e = (after : Dev) × IsImportRefusal (G.size device) true e × (G.refused after ≡ with_refusal e (G.refused device)) × (IsTrue G.keeps_model → LeavesSame (G.disk device) (G.disk after))

  comes_back : (e : PoolError) → IsNotOpened G device moment e → ComesBack e
  comes_back e n = (n.after, n.refused, n.counted, n.still_left)

  abbrev PutRefused : Type 0
  PutRefused = (e : PoolError) × (ComesBack e ⊎ IsOpenedOn G device (λ (p : Shared Dev G). IsPutRefused e p))

  put_or_opening_refused : (put : Put) (why : Failure) → PutsOrFails G device moment seven None two put (Err why) → PutRefused
  put_or_opening_refused put why (inl (nothing, inl (no_target, is))) = absurd (true≢false no_target)
  put_or_opening_refused put why (inl (nothing, inr (e, n, is))) = (e, inl (comes_back e n))
  put_or_opening_refused put why (inr (e, o, is)) = (e, inr (record { pool = o.pool; opens = o.opens; does = put_refused e o.pool put o.does }))

  pub two_bytes_refused : (bytes : List ℕ) → bytes ≡ two → RefusesPut G device moment seven None bytes → PutRefused
  two_bytes_refused bytes are (put, why, refused) = put_or_opening_refused put why (subst (λ (l : List ℕ). PutsOrFails G device moment seven None l put (Err why)) are refused)

  pub removal_refused : RefusesRemoval G device moment seven → (e : PoolError) × (ComesBack e ⊎ IsOpenedOn G device (λ (p : Shared Dev G). IsRemovalRefused e p))
  removal_refused (why, inl (e, n, is)) = (e, inl (comes_back e n))
  removal_refused (why, inr (e, o, is)) = (e, inr (record { pool = o.pool; opens = o.opens; does = removed_or_refused e o.pool o.does }))
