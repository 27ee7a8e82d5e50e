-- What a put and a removal leave of the contents: an import finds what all of their entries leave, and each entry
-- changes the one object alone.
use Rattle.std.proofs.Common.{◌≡◌, ◌≢◌, ◌+◌, ◌∷◌, [], ℕ, zero, suc, List, Ok, Err, ap, append-nil, arith, drop, false, inl, inr, length, refl, subst, sym, take, true, ◌∙◌}
use Rattle.std.specs.Prelude.{All, Bool, IsSome, IsTrue, None, Option, Result, Some, option_map, slice_get}
use Rattle.std.specs.FinMap as map
use Rattle.std.proofs.Math.Logic.{∥∥₁_elim, ∥∥₁_map, ∥∥₁_prop}
use Rattle.std.proofs.Math.Seq.{take-length}
use Rattle.std.proofs.lemmas.List.Elements.{All-append, All-cons, All-head, All-nil, All-tail, All-take}
use Rattle.base.specs.declared.error.PoolError.{PoolError}
use Rattle.base.specs.declared.error.PoolError.TheVariants.{NoObject, NoSpace}
use Rattle.base.specs.declared.names.Group.{Group}
use Rattle.base.specs.declared.names.ObjectId.{ObjectId}
use Rattle.base.specs.declared.operation.Op.{Op}
use Rattle.base.specs.declared.operation.Op.TheVariants.{Create, Remove, SetLength, Write}
use Rattle.base.specs.declared.step.Reply.TheVariants as reply
use Rattle.base.specs.declared.step.Step.TheVariants as step
use Rattle.base.specs.history.Contents.{Contents, apply, at_object, bytes_after_write, changed, created, length_of, removed, resize}
use Rattle.base.specs.history.History.{Entry, apply_all}
use Rattle.base.specs.history.Past.{Past}
use Rattle.base.specs.history.Sequences.{in_turn}
use Rattle.base.specs.steps.Refusals.{length_refusal}
use Rattle.base.specs.steps.Runs.{reply_of}
use Rattle.base.specs.steps.Steps.{Answers, Never, State}
use Rattle.base.proofs.common.KeptLists.{none_at}
use Rattle.base.proofs.common.Sequences.{parted}
use Rattle.base.proofs.history.Objects.{get-stored_other, get-stored_same, reached}
use Rattle.device_model.specs.declared.device.SectorDevice.{Ghosts}
use Rattle.pool_threads.specs.declared.handle.Handle.{Handle}
use Rattle.pool_threads.specs.declared.handle.LastSeen.{LastSeen}
use Rattle.pool_threads.specs.declared.shared.Shared.{Shared}
use Rattle.pool_threads.specs.Answers.{Makes, state_seen}
use Rattle.pool_threads.specs.Handles.{OpensBehind, WasOf, kin_left, kin_of, opening_view, view_seen}
use Rattle.pool_threads.specs.Views.{SeenPool}
use Rattle.pool_threads.specs.Waits.{SyncsPool}
use Rattle.pool_threads.proofs.AloneSteps.{step_at_once}
use Rattle.pool_threads.proofs.Along.{GoesAlong, along_made, along_on, along_same}
use Rattle.running_pools.proofs.Along.{along_syncs}
use Rattle.running_pools.specs.LeftDevices.{ClosesAfter, HoldsContents, StillHolds}
use Rattle.running_pools.proofs.Adds.{Adds, AddsAlone, alone_on, alone_same, made_alone, past_seen, same_entries, synced_alone, transacted_alone}
use Rattle.running_pools.proofs.Cuts.{Preserves, kept_by_all}
use Rattle.running_pools.proofs.LeftDevices.{alone_keeps, alone_leaves, found_so, only_number, only_was_of}
use Rattle.running_pools.proofs.Sounds.{AllAcknowledged, IsSound, all_acknowledged, durable_after, sound_on}
use Rattle.commands.specs.Committed.{PutsAndLeaves, PutsAsFound, PutsBy, PutsFrom, PutsIfRoom, RemovesAndLeaves, RemovesFrom, SyncsAfter, SyncsIfMade, result_after}
use Rattle.running_pools.specs.Commits.{MakesFirst, command_owner}
use Rattle.commands.specs.LeftContents.{HasPut, HasRemoved, KeepsOthers}
use Rattle.commands.specs.PutRoom.{lacks_room}
use Rattle.commands.specs.Puts.{IsStartFor, first_byte, piece_ops, put_transactions, start_of, start_ops, write_ops}
use Rattle.commands.specs.declared.changes.Put.{Put}
use Rattle.commands.specs.declared.changes.Start.{Start}
use Rattle.commands.specs.declared.changes.Start.TheVariants.{Creates, Empties, Keeps}
use Rattle.commands.proofs.Committed.{all_counted, all_stand, may_start}
use Rattle.running_pools.proofs.Commits.{along_first, sound_first}
use Rattle.commands.proofs.Pieces.{piece_count, same_put, transactions_from}
use Rattle.commands.proofs.PutBytes.{puts_leave_bytes}

-- nothing changed keeps all, and so do two changes that each do
keeps_same : (n : ObjectId) (c : Contents) → KeepsOthers n c c
keeps_same n c = (λ other ne. refl, refl)

keeps_on : (n : ObjectId) (a b c : Contents) → KeepsOthers n a b → KeepsOthers n b c → KeepsOthers n a c
keeps_on n a b c first later = (λ other ne. later.0 other ne ∙ first.0 other ne, later.1 ∙ first.1)

-- an operation on one object keeps the others
module _ (n : ObjectId) where
  abbrev IsOnIt : Op → Type 0
  IsOnIt op = (c d : Contents) → apply op c ≡ Ok d → KeepsOthers n c d

  at_it : (f : Option (List ℕ) → Result (Option (List ℕ)) PoolError) (c d : Contents) → at_object n.0 f c ≡ Ok d → KeepsOthers n c d
  at_it f c d h =
      let r = reached n.0 f c d h in (
        λ other ne. ap (λ (x : Contents). map.get x.objects other) (sym r.2) ∙ get-stored_other c.objects n.0 r.0 other ne,
        ap (λ (x : Contents). x.name) (sym r.2),
      )

  creates_it : IsOnIt (Create n)
  creates_it c d h = at_it created c d h

  removes_it : IsOnIt (Remove n)
  removes_it c d h = at_it removed c d h

  empties_it : (size : ℕ) → IsOnIt (SetLength n size)
  empties_it size c d h = at_it (changed (resize size)) c d h

  writes_it : (at : ℕ) (bytes : List ℕ) → IsOnIt (Write n at bytes)
  writes_it at bytes c d h = at_it (changed (bytes_after_write at bytes)) c d h

  -- and so do operations in turn
  all_on_it : (ops : List Op) → All IsOnIt ops → Preserves (KeepsOthers n) ops
  all_on_it [] each c d h = subst (KeepsOthers n c) (let is : c ≡ d = cc in is) (keeps_same n c)
  all_on_it (op ∷ ops) each c d h =
      let p = parted (apply op c) (in_turn apply ops) d h in
      keeps_on n c p.0 d (All-head IsOnIt op ops each c p.0 p.1) (all_on_it ops (All-tail IsOnIt op ops each) p.0 d p.2)

  start_on_it : (start : Start) → All IsOnIt (start_ops start n)
  start_on_it Creates = All-cons IsOnIt (Create n) [] creates_it (All-nil IsOnIt)
  start_on_it Empties = All-cons IsOnIt (SetLength n 0) [] (empties_it 0) (All-nil IsOnIt)
  start_on_it Keeps = All-nil IsOnIt

  write_on_it : (at : ℕ) (piece : List ℕ) → All IsOnIt (write_ops n at piece)
  write_on_it at [] = All-nil IsOnIt
  write_on_it at (byte ∷ bytes) = All-cons IsOnIt (Write n at (byte ∷ bytes)) [] (writes_it at (byte ∷ bytes)) (All-nil IsOnIt)

  piece_preserves : (start : Start) (at : ℕ) (piece : List ℕ) → Preserves (KeepsOthers n) (piece_ops start n at piece)
  piece_preserves start at piece = all_on_it (piece_ops start n at piece) (All-append IsOnIt (start_ops start n) (write_ops n at piece) (start_on_it start) (write_on_it at piece))

  pieces_preserve : (count : ℕ) (start : Start) (at : ℕ) (bytes : List ℕ) → All (Preserves (KeepsOthers n)) (transactions_from start n at bytes count)
  pieces_preserve zero start at bytes = All-nil (Preserves (KeepsOthers n))
  pieces_preserve (suc count) start at bytes =
      let piece : List ℕ = take 64512 bytes in
      All-cons (Preserves (KeepsOthers n)) (piece_ops start n at piece) (transactions_from Keeps n (at + length piece) (drop 64512 bytes) count) (piece_preserves start at piece) (pieces_preserve count Keeps (at + length piece) (drop 64512 bytes))

  put_preserves : (start : Start) (offset : Option ℕ) (bytes : List ℕ) → All (Preserves (KeepsOthers n)) (put_transactions start n offset bytes)
  put_preserves start offset bytes =
      subst (λ (all : List (List Op)). All (Preserves (KeepsOthers n)) all) (sym (same_put start n offset bytes)) (pieces_preserve (piece_count start bytes) start (first_byte offset) bytes)

  abbrev removal_of : List (List Op)
  removal_of = (Remove n ∷ []) ∷ []

  removal_preserves : All (Preserves (KeepsOthers n)) removal_of
  removal_preserves = All-cons (Preserves (KeepsOthers n)) (Remove n ∷ []) [] (all_on_it (Remove n ∷ []) (All-cons IsOnIt (Remove n) [] removes_it (All-nil IsOnIt))) (All-nil (Preserves (KeepsOthers n)))

  -- an object that was removed isn't there
  gone : (before o : Option (List ℕ)) → removed before ≡ Ok o → o ≡ None
  gone None o h = cc
  gone (Some bytes) o h = cc

  removal_leaves_none : (c d : Contents) → in_turn apply_all removal_of c ≡ Ok d → map.get d.objects n.0 ≡ None
  removal_leaves_none c d h =
      let p = parted (apply_all (Remove n ∷ []) c) (in_turn apply_all []) d h in
      let q = parted (apply (Remove n) c) (in_turn apply []) p.0 p.1 in
      let last : p.0 ≡ d = cc in
      let next : q.0 ≡ p.0 = cc in
      let r = reached n.0 removed c q.0 q.1 in
      ap (λ (x : Contents). map.get x.objects n.0) (sym last ∙ sym next ∙ sym r.2) ∙ get-stored_same c.objects n.0 r.0 ∙ gone (map.get c.objects n.0) r.0 r.1

-- a past without entries has none that isn't acknowledged
none_unknown : (past : Past) → past.entries ≡ [] → AllAcknowledged past
none_unknown past none ordinal e at = absurd (none_at ordinal e (subst (λ (l : List Entry). slice_get l ordinal ≡ Some e) none at))

-- an object that isn't there is not kept
not_kept : (offset : Option ℕ) (e : PoolError) → start_of offset (Err e) ≡ Ok Keeps → ⊥
not_kept None NoObject is = let no_way : Ok Creates ≡ Ok Keeps = is in cc
not_kept (Some at) NoObject is = let no_way : Ok Creates ≡ Ok Keeps = is in cc
not_kept None e is = let no_way : Err e ≡ Ok Keeps = is in cc
not_kept (Some at) e is = let no_way : Err e ≡ Ok Keeps = is in cc

-- an object whose length a step answered is there
module _ (n : ObjectId) (count : ℕ) (old new : State) where
  has_length : (o : Option (List ℕ)) → option_map length o ≡ Some count → IsSome o
  has_length None is = absurd (let no_way : None ≡ Some count = is in cc)
  has_length (Some bytes) is = refl

  there_by_answer : (o : Option PoolError) (answer : Result ℕ PoolError) → reply.Length count ≡ reply_of (λ k. reply.Length k) answer
      → Answers o answer old new (λ k. (length_of old.shown.contents n.0 ≡ Some k) × (new ≡ old)) Never → IsSome (map.get old.shown.contents.objects n.0)
  there_by_answer (Some e) (Ok k) is (told, same) = absurd (let no_way : Ok k ≡ Err e = told in cc)
  there_by_answer (Some e) (Err f) is holds = absurd (let no_way : reply.Length count ≡ reply.Refused f = is in cc)
  there_by_answer None (Err f) is never = absurd never
  there_by_answer None (Ok k) is (has, same) =
      has_length (map.get old.shown.contents.objects n.0) (has ∙ ap (λ (j : ℕ). Some j) (let alike : k ≡ count = cc in alike))

module _ {Dev : Type 0} {G : Ghosts Dev} where
  -- what was committed of some transactions was added, and no more
  first_alone : (all : List (List Op)) (count : ℕ) (result : Result (Unit {0}) PoolError) (old new : Handle Dev G) → MakesFirst all count result old new → AddsAlone (take count all) old new
  first_alone [] count result old new (none, is, same) = subst (λ (k : ℕ). AddsAlone (take k []) old new) (sym none) (alone_same old new same)
  first_alone (ops ∷ rest) zero result old new (e, is, refused) = transacted_alone command_owner ops (Err e) old new refused
  first_alone (ops ∷ rest) (suc count) result old new (r, next, made, more) =
      alone_on (ops ∷ []) (take count rest) old next new (transacted_alone command_owner ops (Ok r) old next made) (first_alone rest count result next new more)

  -- a sync after it adds nothing
  then_none : (all : List (List Op)) (old done new : Handle Dev G) → AddsAlone all old done → AddsAlone [] done new → AddsAlone all old new
  then_none all old done new first later = subst (λ (l : List (List Op)). AddsAlone l old new) (append-nil all) (alone_on all [] old done new first later)

  synced_after_alone : (put : Put) (made result : Result (Unit {0}) PoolError) (old new : Handle Dev G) → SyncsAfter put made result old new → AddsAlone [] old new
  synced_after_alone put made result old new (inl (none, is, same)) = alone_same old new same
  synced_after_alone put made result old new (inr (synced, some, syncs, is_synced, is)) = synced_alone synced old new syncs

  -- all that was committed is acknowledged once the pool is synced
  synced_known : (group : Group) (done last : Handle Dev G) → kin_of done ≡ 0 → IsSound (view_seen done) → SyncsPool (Ok group) done last → ∥ AllAcknowledged (past_seen last) ∥₁
  synced_known group done last only sound syncs =
      ∥∥₁_elim (sound_on (IsTrue G.keeps_model) (view_seen done) (view_seen last) (along_syncs (Ok group) done last syncs).onward sound) ∥∥₁_prop (λ x.
      ∥∥₁_elim (synced_alone (Ok group) done last syncs only).1 ∥∥₁_prop (λ a.
      ∥∥₁_map {B = AllAcknowledged (past_seen last)} (durable_after group done last sound syncs) (λ d. all_acknowledged (state_seen done) (state_seen last) x a d)))

  -- the transactions of a put that starts so
  module _ (start : Start) (n : ObjectId) (offset : Option ℕ) (bytes : List ℕ) (put : Put) where
    from_alone : (result : Result (Unit {0}) PoolError) (old new : Handle Dev G) → PutsFrom start n offset bytes put result old new → AddsAlone (take put.transactions (put_transactions start n offset bytes)) old new
    from_alone result old new p = then_none (take put.transactions (put_transactions start n offset bytes)) old p.done new (first_alone (put_transactions start n offset bytes) put.transactions p.made old p.done p.makes) (synced_after_alone put p.made result p.done new p.syncs)

    module _ (old new : Handle Dev G) (p : PutsFrom start n offset bytes put (Ok tt) old new) where
      whole_alone : AddsAlone (put_transactions start n offset bytes) old new
      whole_alone =
          subst (λ (l : List (List Op)). AddsAlone l old new) (ap (λ (k : ℕ). take k (put_transactions start n offset bytes)) (all_stand (put_transactions start n offset bytes) put old p.done new p.made p.makes p.syncs).0 ∙ take-length (put_transactions start n offset bytes)) (from_alone (Ok tt) old new p)

      known_by : kin_of old ≡ 0 → (made : Result (Unit {0}) PoolError) (synced : Result Group PoolError) → Ok tt ≡ result_after made synced → MakesFirst (put_transactions start n offset bytes) put.transactions made old p.done → put.transactions ≢ 0 → SyncsPool synced p.done new
          → ∥ AllAcknowledged (past_seen new) ∥₁
      known_by only (Ok tt) (Ok group) is makes some syncs = synced_known group p.done new (first_alone (put_transactions start n offset bytes) put.transactions (Ok tt) old p.done makes only).0 (sound_first (put_transactions start n offset bytes) put.transactions (Ok tt) old p.done some makes) syncs
      known_by only (Ok tt) (Err e) is makes some syncs = absurd (let no_way : Ok tt ≡ Err e = is in cc)
      known_by only (Err e) synced is makes some syncs = absurd (let no_way : Ok tt ≡ Err e = is in cc)

      -- without a transaction nothing was added
      nothing_added : kin_of old ≡ 0 → put.transactions ≡ 0 → ∥ Adds [] (past_seen old) (past_seen new) ∥₁
      nothing_added only none = subst (λ (k : ℕ). ∥ Adds (take k (put_transactions start n offset bytes)) (past_seen old) (past_seen new) ∥₁) none (from_alone (Ok tt) old new p only).1

      whole_known : kin_of old ≡ 0 → (past_seen old).entries ≡ [] → ∥ AllAcknowledged (past_seen new) ∥₁
      whole_known only empty = by p.syncs
        where
          by : SyncsAfter put p.made (Ok tt) p.done new → ∥ AllAcknowledged (past_seen new) ∥₁
          by (inl (none, is, same)) =
              ∥∥₁_map {B = AllAcknowledged (past_seen new)} (nothing_added only none) (λ a. none_unknown (past_seen new) (same_entries (past_seen old) (past_seen new) a ∙ empty))
          by (inr (synced, some, syncs, is_synced, is)) = known_by only p.made synced is p.makes some syncs

  -- a handle that puts goes along
  module _ (n : ObjectId) (offset : Option ℕ) (bytes : List ℕ) (put : Put) (result : Result (Unit {0}) PoolError) where
    along_after : (made : Result (Unit {0}) PoolError) (old new : Handle Dev G) → SyncsAfter put made result old new → GoesAlong old new
    along_after made old new (inl (none, is, same)) = along_same old new same
    along_after made old new (inr (synced, some, syncs, is_synced, is)) = along_syncs synced old new syncs

    along_put : (start : Start) (old new : Handle Dev G) → PutsFrom start n offset bytes put result old new → GoesAlong old new
    along_put start old new p = along_on old p.done new (along_first (put_transactions start n offset bytes) put.transactions p.made old p.done p.makes) (along_after p.made p.done new p.syncs)

    along_if_room : (lacks : Bool) (start : Start) (old new : Handle Dev G) → PutsIfRoom lacks start n offset bytes put result old new → GoesAlong old new
    along_if_room false start old new p = along_put start old new p
    along_if_room true start old new (none, nothing, is, same) = along_same old new same

    along_as_found : (s : Result Start PoolError) (found : Result ℕ PoolError) (old new : Handle Dev G) → PutsAsFound s found n offset bytes put result old new → GoesAlong old new
    along_as_found (Ok start) found old new r = along_on old r.asked new (along_made r.asks) (along_if_room (lacks_room start offset bytes found r.status.available) start r.asked new r.puts)
    along_as_found (Err e) found old new (none, nothing, is, same) = along_same old new same

    along_put_by : (first last : Handle Dev G) → PutsBy n offset bytes put result first last → GoesAlong first last
    along_put_by first last b = along_on first b.looked last (along_made b.looks) (along_as_found (start_of offset b.found) b.found b.looked last b.puts)

    pub put_was_of : (p : Shared Dev G) (l : LastSeen Dev G) → PutsAndLeaves p n offset bytes put result l → WasOf p l
    put_was_of p l (i, behind) = only_was_of p i.first i.last l i.only (along_put_by i.first i.last i.did) behind

    pub put_number : (p : Shared Dev G) (l : LastSeen Dev G) → PutsAndLeaves p n offset bytes put result l → kin_left l ≡ 0
    put_number p l (i, behind) = only_number i.last l ((along_put_by i.first i.last i.did).met_none.0 ∙ i.only.number) behind

    -- it adds some transactions, each of which keeps all other objects
    pub record AddsSome (old new : Handle Dev G) : Type 0 where
      pub some : List (List Op)
      pub each : All (Preserves (KeepsOthers n)) some
      pub adds : AddsAlone some old new

    adds_nothing : (old new : Handle Dev G) → AddsAlone [] old new → AddsSome old new
    adds_nothing old new adds = record { some = []; each = All-nil (Preserves (KeepsOthers n)); adds = adds }

    some_if_room : (lacks : Bool) (start : Start) (old new : Handle Dev G) → PutsIfRoom lacks start n offset bytes put result old new → AddsSome old new
    some_if_room false start old new p = record {
      some = take put.transactions (put_transactions start n offset bytes);
      each = All-take (Preserves (KeepsOthers n)) put.transactions (put_transactions start n offset bytes) (put_preserves n start offset bytes);
      adds = from_alone start n offset bytes put result old new p;
    }
    some_if_room true start old new (none, nothing, is, same) = adds_nothing old new (alone_same old new same)

    some_as_found : (s : Result Start PoolError) (found : Result ℕ PoolError) (old new : Handle Dev G) → PutsAsFound s found n offset bytes put result old new → AddsSome old new
    some_as_found (Ok start) found old new r =
        let more = some_if_room (lacks_room start offset bytes found r.status.available) start r.asked new r.puts in
        record { some = more.some; each = more.each; adds = alone_on [] more.some old r.asked new (made_alone step.Status (reply.Status r.status) old r.asked refl r.asks) more.adds }
    some_as_found (Err e) found old new (none, nothing, is, same) = adds_nothing old new (alone_same old new same)

    some_by : (first last : Handle Dev G) → PutsBy n offset bytes put result first last → AddsSome first last
    some_by first last b =
        let more = some_as_found (start_of offset b.found) b.found b.looked last b.puts in
        record { some = more.some; each = more.each; adds = alone_on [] more.some first b.looked last (made_alone (step.Length n) (reply_of (λ count. reply.Length count) b.found) first b.looked refl b.looks) more.adds }

  -- What a put left on the device of a pool that was opened for it alone.
  module _ (p : Shared Dev G) (device : Dev) (dirty_max : ℕ) (opens : OpensBehind (IsTrue G.keeps_model) (G.disk device) dirty_max (opening_view p)) (n : ObjectId) where
    module _ (offset : Option ℕ) (bytes : List ℕ) (put : Put) (l : LastSeen Dev G) where
      pub refused_put_leaves : (result : Result (Unit {0}) PoolError) → PutsAndLeaves p n offset bytes put result l → (after : Dev) → ClosesAfter p l after → StillHolds G (KeepsOthers n) device after
      refused_put_leaves result (i, behind) after closes = λ keeps.
          let some = some_by n offset bytes put result i.first i.last i.did in
          let added = some.adds i.only.number in
          inr (alone_keeps p device dirty_max opens i.first i.last i.only l added.0 behind (KeepsOthers n) (keeps_same n) (keeps_on n) some.some some.each added.1 after closes keeps)

      -- what a put that ended well added
      record Puts (first last : Handle Dev G) : Type 0 where
        start : Start
        may : IsStartFor offset start
        adds : AddsAlone (put_transactions start n offset bytes) first last
        known : kin_of first ≡ 0 → (past_seen first).entries ≡ [] → ∥ AllAcknowledged (past_seen last) ∥₁
        there : kin_of first ≡ 0 → ∥ (start ≡ Keeps → IsSome (map.get (state_seen first).shown.contents.objects n.0)) ∥₁

      found_there : (start : Start) (found : Result ℕ PoolError) (first looked : Handle Dev G) → start_of offset found ≡ Ok start → Makes (step.Length n) (reply_of (λ count. reply.Length count) found) first looked → kin_of first ≡ 0
          → ∥ (start ≡ Keeps → IsSome (map.get (state_seen first).shown.contents.objects n.0)) ∥₁
      found_there start (Ok count) first looked is makes only =
          ∥∥₁_map {B = start ≡ Keeps → IsSome (map.get (state_seen first).shown.contents.objects n.0)} (step_at_once first looked only makes)
          (λ (answer, told, holds) keeps. there_by_answer n count (state_seen first) (state_seen looked) (length_refusal n.0 (state_seen first).shown) answer told holds)
      found_there start (Err e) first looked is makes only = ∣ (λ keeps. absurd (not_kept offset e (is ∙ ap (λ (s : Start). Ok s) keeps))) ∣₁

      with_room : (lacks : Bool) (start : Start) (old new : Handle Dev G) → PutsIfRoom lacks start n offset bytes put (Ok tt) old new → PutsFrom start n offset bytes put (Ok tt) old new
      with_room false start old new q = q
      with_room true start old new (none, nothing, is, same) = absurd (let no_way : Ok tt ≡ Err NoSpace = is in cc)

      puts : (first last : Handle Dev G) → PutsBy n offset bytes put (Ok tt) first last → Puts first last
      puts first last b = go (start_of offset b.found) refl b.puts
        where
          looked : AddsAlone [] first b.looked
          looked = made_alone (step.Length n) (reply_of (λ count. reply.Length count) b.found) first b.looked refl b.looks

          go : (s : Result Start PoolError) → start_of offset b.found ≡ s → PutsAsFound s b.found n offset bytes put (Ok tt) b.looked last → Puts first last
          go (Err e) is q = absurd (let no_way : Ok tt ≡ Err e = q.2 in cc)
          go (Ok start) is r =
              let asked = alone_on [] [] first b.looked r.asked looked (made_alone step.Status (reply.Status r.status) b.looked r.asked refl r.asks) in
              let q = with_room (lacks_room start offset bytes b.found r.status.available) start r.asked last r.puts in
              record {
                start = start;
                may = may_start offset b.found start is;
                adds = alone_on [] (put_transactions start n offset bytes) first r.asked last asked (whole_alone start n offset bytes put r.asked last q);
                known = λ only empty.
                    let a = asked only in
                    ∥∥₁_elim a.1 ∥∥₁_prop (λ none. whole_known start n offset bytes put r.asked last q a.0 (same_entries (past_seen first) (past_seen r.asked) none ∙ empty));
                there = found_there start b.found first b.looked is b.looks;
              }

      pub put_leaves : PutsAndLeaves p n offset bytes put (Ok tt) l → (after : Dev) → ClosesAfter p l after → HoldsContents G (HasPut n offset bytes) device after
      put_leaves (i, behind) after closes =
          let q = puts i.first i.last i.did in
          let added = q.adds i.only.number in
          let empty : (past_seen i.first).entries ≡ [] = ap (λ (v : SeenPool). v.past.entries) i.only.seen ∙ ap (λ (x : Past). x.entries) opens.anew in
          let shown : (state_seen i.first).shown.contents ≡ (opening_view p).past.base = ap (λ (v : SeenPool). v.shown.contents) i.only.seen ∙ opens.shows in
          let leaves = alone_leaves p device dirty_max opens i.first i.last i.only l added.0 behind (put_transactions q.start n offset bytes) added.1 (q.known i.only.number empty) after closes in
          λ keeps. found_so (q.start ≡ Keeps → IsSome (map.get (state_seen i.first).shown.contents.objects n.0)) _ (HasPut n offset bytes) (q.there i.only.number)
          (λ there base c (begun, ran).
          let is_there : q.start ≡ Keeps → IsSome (map.get base.objects n.0) = λ is. subst (λ (x : Contents). IsSome (map.get x.objects n.0)) (shown ∙ sym begun) (there is) in
          ((puts_leave_bytes q.start n offset bytes base c q.may is_there ran).0, kept_by_all (KeepsOthers n) (keeps_same n) (keeps_on n) (put_transactions q.start n offset bytes) base c (put_preserves n q.start offset bytes) ran))
          (G.disk device) (G.disk after) (leaves keeps)

    -- and so it is of a removal
    along_if_made : (made result : Result (Unit {0}) PoolError) (old new : Handle Dev G) → SyncsIfMade made result old new → GoesAlong old new
    along_if_made (Ok done) result old new (synced, syncs, is) = along_syncs synced old new syncs
    along_if_made (Err e) result old new (is, same) = along_same old new same

    along_removes : (result : Result (Unit {0}) PoolError) (r : RemovesFrom p n result) → GoesAlong r.first r.last
    along_removes result r = along_on r.first r.done r.last (along_first (removal_of n) r.count r.made r.first r.done r.makes) (along_if_made r.made result r.done r.last r.syncs)

    pub removal_was_of : (result : Result (Unit {0}) PoolError) (l : LastSeen Dev G) → RemovesAndLeaves p n result l → WasOf p l
    removal_was_of result l (r, behind) = only_was_of p r.first r.last l r.only (along_removes result r) behind

    pub removal_number : (result : Result (Unit {0}) PoolError) (l : LastSeen Dev G) → RemovesAndLeaves p n result l → kin_left l ≡ 0
    removal_number result l (r, behind) = only_number r.last l ((along_removes result r).met_none.0 ∙ r.only.number) behind

    synced_if_alone : (made result : Result (Unit {0}) PoolError) (old new : Handle Dev G) → SyncsIfMade made result old new → AddsAlone [] old new
    synced_if_alone (Ok done) result old new (synced, syncs, is) = synced_alone synced old new syncs
    synced_if_alone (Err e) result old new (is, same) = alone_same old new same

    removes_alone : (result : Result (Unit {0}) PoolError) (r : RemovesFrom p n result) → AddsAlone (take r.count (removal_of n)) r.first r.last
    removes_alone result r = then_none (take r.count (removal_of n)) r.first r.done r.last (first_alone (removal_of n) r.count r.made r.first r.done r.makes) (synced_if_alone r.made result r.done r.last r.syncs)

    pub refused_removal_leaves : (result : Result (Unit {0}) PoolError) (l : LastSeen Dev G) → RemovesAndLeaves p n result l → (after : Dev) → ClosesAfter p l after → StillHolds G (KeepsOthers n) device after
    refused_removal_leaves result l (r, behind) after closes = λ keeps.
        let added = removes_alone result r r.only.number in
        inr (alone_keeps p device dirty_max opens r.first r.last r.only l added.0 behind (KeepsOthers n) (keeps_same n) (keeps_on n) (take r.count (removal_of n))
        (All-take (Preserves (KeepsOthers n)) r.count (removal_of n) (removal_preserves n)) added.1 after closes keeps)

    -- one that ended well was committed and synced
    removed_known : (r : RemovesFrom p n (Ok tt)) (count : ℕ) (made : Result (Unit {0}) PoolError) → MakesFirst (removal_of n) count made r.first r.done → SyncsIfMade made (Ok tt) r.done r.last → (count ≡ 1) × ∥ AllAcknowledged (past_seen r.last) ∥₁
    removed_known r count (Err e) makes (is, same) = absurd (let no_way : Ok tt ≡ Err e = is in cc)
    removed_known r count (Ok tt) makes (Err e, syncs, is) = absurd (let no_way : Ok tt ≡ Err e = is in cc)
    removed_known r count (Ok tt) makes (Ok group, syncs, is) =
        let one : count ≡ 1 = all_counted (removal_of n) count r.first r.done makes in (
          one,
          synced_known group r.done r.last (first_alone (removal_of n) count (Ok tt) r.first r.done makes r.only.number).0
              (sound_first (removal_of n) count (Ok tt) r.first r.done (λ none. absurd (omega (arith, one, none))) makes) syncs,
        )

    pub removal_leaves : (l : LastSeen Dev G) → RemovesAndLeaves p n (Ok tt) l → (after : Dev) → ClosesAfter p l after → HoldsContents G (HasRemoved n) device after
    removal_leaves l (r, behind) after closes =
        let known = removed_known r r.count r.made r.makes r.syncs in
        let adds : AddsAlone (removal_of n) r.first r.last = subst (λ (k : ℕ). AddsAlone (take k (removal_of n)) r.first r.last) known.0 (removes_alone (Ok tt) r) in
        let added = adds r.only.number in
        let leaves = alone_leaves p device dirty_max opens r.first r.last r.only l added.0 behind (removal_of n) added.1 known.1 after closes in
        λ keeps. found_so (Unit {0}) _ (HasRemoved n) ∣ tt ∣₁
        (λ so base c (begun, ran). (removal_leaves_none n base c ran, kept_by_all (KeepsOthers n) (keeps_same n) (keeps_on n) (removal_of n) base c (removal_preserves n) ran))
        (G.disk device) (G.disk after) (leaves keeps)
