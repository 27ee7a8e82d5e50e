-- A put and a removal by number make their transactions by the only handle of a pool, and commit nothing besides.
use Rattle.std.proofs.Common.{◌≡◌, ◌⊎◌, ◌∷◌, [], ℕ, zero, suc, Bool, List, Ok, Err, false, inl, inr, refl, subst, sym, take, true}
use Rattle.std.specs.Prelude.{IsTrue, Option, Result}
use Rattle.std.proofs.Math.Logic.{∥∥₁_elim, ∥∥₁_map, ∥∥₁_prop}
use Rattle.base.specs.declared.error.PoolError.{PoolError}
use Rattle.base.specs.declared.names.ObjectId.{ObjectId}
use Rattle.base.specs.declared.operation.Op.{Op}
use Rattle.base.specs.declared.operation.Op.TheVariants.{Remove}
use Rattle.base.specs.declared.step.Reply.TheVariants as reply
use Rattle.base.specs.declared.step.Step.TheVariants as step
use Rattle.base.specs.history.Contents.{Contents}
use Rattle.base.specs.history.Past.{Past}
use Rattle.base.specs.kept.LeftDisks.{IsLeft}
use Rattle.base.specs.steps.Explains.{IsLeftBy}
use Rattle.base.specs.steps.Runs.{reply_of}
use Rattle.command_fronts.specs.CommandFronts.{Ended, HasMade, LeavesFirst, LeavesFirstOfPut, PutsFollowCommands, PutsSurviveInOrder, RemovalsFollowCommands, RemovalsSurviveInOrder}
use Rattle.command_fronts.proofs.FirstOnes.{Does, does_nothing, does_on, does_same, does_then_none, does_transact, leaves_first}
use Rattle.commands.specs.Committed.{PutsAsFound, PutsBy, PutsFrom, PutsIfRoom, PutsOn, RemovesFrom, RemovesWith, SyncsAfter, SyncsIfMade, default_dirty_max}
use Rattle.running_pools.specs.Commits.{MakesFirst, command_owner}
use Rattle.commands.specs.PutRoom.{lacks_room}
use Rattle.commands.specs.Puts.{IsStartFor, put_transactions, start_of}
use Rattle.commands.proofs.Committed.{may_start}
use Rattle.device_model.specs.declared.device.SectorDevice.{Ghosts}
use Rattle.fronts.specs.RisingPools.CommitsNothing.{by_step, by_sync_pool}
use Rattle.fronts.specs.RisingPools.MakesTransactions.{by_transact}
use Rattle.pool_threads.specs.declared.handle.Handle.{Handle}
use Rattle.pool_threads.specs.declared.shared.Shared.{Shared}
use Rattle.pool_threads.specs.Handles.{OpensBehind, opening_view}
use Rattle.running_pools.specs.LeftDevices.{HoldsContents}
use Rattle.running_pools.proofs.Adds.{made_alone, synced_alone, transacted_alone}

-- the one transaction of a removal
abbrev removal_of : ObjectId → List (List Op)
removal_of n = (Remove n ∷ []) ∷ []

module _ {Dev : Type 0} {G : Ghosts Dev} where
  does_first : (all : List (List Op)) (count : ℕ) (result : Result (Unit {0}) PoolError) (old new : Handle Dev G) → MakesFirst all count result old new → Does (take count all) old new
  does_first [] count result old new (none, is, same) = subst (λ (k : ℕ). Does (take k []) old new) (sym none) (does_same old new same)
  does_first (ops ∷ rest) zero result old new (e, is, refused) = does_transact [] old new (by_transact command_owner ops (Err e) refused) (transacted_alone command_owner ops (Err e) old new refused)
  does_first (ops ∷ rest) (suc count) result old new (r, next, made, more) =
      does_on (ops ∷ []) (take count rest) old next new (does_transact (ops ∷ []) old next (by_transact command_owner ops (Ok r) made) (transacted_alone command_owner ops (Ok r) old next made)) (does_first rest count result next new more)

  module _ (n : ObjectId) (offset : Option ℕ) (bytes : List ℕ) (result : Result (Unit {0}) PoolError) where
    does_after : (put : _) (made : Result (Unit {0}) PoolError) (old new : Handle Dev G) → SyncsAfter put made result old new → Does [] old new
    does_after put made old new (inl (none, is, same)) = does_same old new same
    does_after put made old new (inr (synced, some, syncs, is_synced, is)) = does_nothing old new (by_sync_pool synced syncs) (synced_alone synced old new syncs)

    does_put : (start : _) (put : _) (old new : Handle Dev G) → PutsFrom start n offset bytes put result old new → Does (take put.transactions (put_transactions start n offset bytes)) old new
    does_put start put old new p =
        does_then_none (take put.transactions (put_transactions start n offset bytes)) old p.done new (does_first (put_transactions start n offset bytes) put.transactions p.made old p.done p.makes) (does_after put p.made p.done new p.syncs)

    does_if_room : (lacks : Bool) (start : _) (put : _) (old new : Handle Dev G) → PutsIfRoom lacks start n offset bytes put result old new → Does (take put.transactions (put_transactions start n offset bytes)) old new
    does_if_room false start put old new p = does_put start put old new p
    does_if_room true start put old new (none, nothing, is, same) = subst (λ (k : ℕ). Does (take k (put_transactions start n offset bytes)) old new) (sym none) (does_same old new same)

    -- it did so by a start that it may have, or did nothing
    abbrev Puts : ℕ → Handle Dev G → Handle Dev G → Type 0
    Puts count old new = Does [] old new ⊎ ((start : _) × IsStartFor offset start × Does (take count (put_transactions start n offset bytes)) old new)

    does_as_found : (found : Result ℕ PoolError) (s : Result _ PoolError) (put : _) (old new : Handle Dev G) → start_of offset found ≡ s → PutsAsFound s found n offset bytes put result old new → Puts put.transactions old new
    does_as_found found (Ok start) put old new is r = inr (
      start,
      may_start offset found start is,
      does_on [] (take put.transactions (put_transactions start n offset bytes)) old r.asked new (does_nothing old r.asked (by_step step.Status (reply.Status r.status) refl r.asks) (made_alone step.Status (reply.Status r.status) old r.asked refl r.asks))
          (does_if_room (lacks_room start offset bytes found r.status.available) start put r.asked new r.puts),
    )
    does_as_found found (Err e) put old new is (none, nothing, ends, same) = inl (does_same old new same)

    puts_by : (put : _) (first last : Handle Dev G) → PutsBy n offset bytes put result first last → Puts put.transactions first last
    puts_by put first last b = by (does_as_found b.found (start_of offset b.found) put b.looked last refl b.puts)
      where
        looks : Does [] first b.looked
        looks = does_nothing first b.looked (by_step (step.Length n) (reply_of (λ count. reply.Length count) b.found) refl b.looks) (made_alone (step.Length n) (reply_of (λ count. reply.Length count) b.found) first b.looked refl b.looks)

        by : Puts put.transactions b.looked last → Puts put.transactions first last
        by (inl none) = inl (does_on [] [] first b.looked last looks none)
        by (inr (start, may, does)) = inr (start, may, does_on [] (take put.transactions (put_transactions start n offset bytes)) first b.looked last looks does)

    put_leaves_first : (device : Dev) (put : _) (on : PutsOn G device n offset bytes put result) → IsTrue G.keeps_model → (past : Past) → IsLeft past (G.disk device) → ∥ LeavesFirstOfPut n offset bytes put.transactions on.pool on.does.last past.created ∥₁
    put_leaves_first device put on keeps past was = by (puts_by put on.does.first on.does.last on.does.did)
      where
        by : Puts put.transactions on.does.first on.does.last → ∥ LeavesFirstOfPut n offset bytes put.transactions on.pool on.does.last past.created ∥₁
        by (inl none) =
            ∥∥₁_map {B = LeavesFirstOfPut n offset bytes put.transactions on.pool on.does.last past.created} (leaves_first on.pool (G.disk device) default_dirty_max on.opens on.does.first on.does.last on.does.only [] none keeps past was) (λ leaves. inl leaves)
        by (inr (start, may, does)) =
            ∥∥₁_map {B = LeavesFirstOfPut n offset bytes put.transactions on.pool on.does.last past.created}
            (leaves_first on.pool (G.disk device) default_dirty_max on.opens on.does.first on.does.last on.does.only (take put.transactions (put_transactions start n offset bytes)) does keeps past was)
            (λ leaves. inr (start, may, leaves))

  pub puts_survive_in_order : PutsSurviveInOrder G
  puts_survive_in_order device n offset bytes put result on keeps past was = (on.opens.left keeps past was, put_leaves_first n offset bytes result device put on keeps past was)

  module _ (n : ObjectId) where
    does_if_made : (made result : Result (Unit {0}) PoolError) (old new : Handle Dev G) → SyncsIfMade made result old new → Does [] old new
    does_if_made (Ok done) result old new (synced, syncs, is) = does_nothing old new (by_sync_pool synced syncs) (synced_alone synced old new syncs)
    does_if_made (Err e) result old new (is, same) = does_same old new same

    does_removal : (p : Shared Dev G) (result : Result (Unit {0}) PoolError) (r : RemovesFrom p n result) → Does (take r.count (removal_of n)) r.first r.last
    does_removal p result r = does_then_none (take r.count (removal_of n)) r.first r.done r.last (does_first (removal_of n) r.count r.made r.first r.done r.makes) (does_if_made r.made result r.done r.last r.syncs)

    removal_leaves_first : (device : Dev) (result : Result (Unit {0}) PoolError) (on : RemovesWith G device n result) → IsTrue G.keeps_model → (past : Past) → IsLeft past (G.disk device) → ∥ LeavesFirst (take on.does.count (removal_of n)) on.pool on.does.last past.created ∥₁
    removal_leaves_first device result on keeps past was =
        leaves_first on.pool (G.disk device) default_dirty_max on.opens on.does.first on.does.last on.does.only (take on.does.count (removal_of n)) (does_removal on.pool result on.does) keeps past was

  pub removals_survive_in_order : RemovalsSurviveInOrder G
  removals_survive_in_order device n result on keeps past was = (on.opens.left keeps past was, removal_leaves_first n device result on keeps past was)

  -- What is left after a command begins with all that an earlier one made.
  module _ (earlier : Ended) (first device : Dev) (holds : HoldsContents G (HasMade earlier) first device) (keeps : IsTrue G.keeps_model) (past : Past) (was : IsLeft past (G.disk first)) (p : Shared Dev G)
      (opens : OpensBehind (IsTrue G.keeps_model) (G.disk device) default_dirty_max (opening_view p)) (Leaves : ℕ → Type 0) where
    follows : ((later : Past) → IsLeft later (G.disk device) → ∥ Leaves later.created ∥₁) → ∥ ((base : Contents) × IsLeftBy past base × HasMade earlier base (opening_view p).past.base × Leaves past.created) ∥₁
    follows each =
        ∥∥₁_elim (holds keeps past was) ∥∥₁_prop (λ (later, so, upon).
        ∥∥₁_map {B = (base : Contents) × IsLeftBy past base × HasMade earlier base (opening_view p).past.base × Leaves past.created} (each later upon.left) (λ leaves. (
          later.base,
          upon.base,
          so (opening_view p).past.base (opens.left keeps later upon.left),
          subst Leaves upon.created leaves,
        )))

  pub puts_follow_commands : PutsFollowCommands G
  puts_follow_commands earlier first device n offset bytes put result on holds keeps past was =
      follows earlier first device holds keeps past was on.pool on.opens (λ created. LeavesFirstOfPut n offset bytes put.transactions on.pool on.does.last created)
      (λ later left. put_leaves_first n offset bytes result device put on keeps later left)

  pub removals_follow_commands : RemovalsFollowCommands G
  removals_follow_commands earlier first device n result on holds keeps past was =
      follows earlier first device holds keeps past was on.pool on.opens (λ created. LeavesFirst (take on.does.count (removal_of n)) on.pool on.does.last created)
      (λ later left. removal_leaves_first n device result on keeps later left)
