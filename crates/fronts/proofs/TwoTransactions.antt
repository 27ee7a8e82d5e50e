-- What an import finds after two transactions of the only handle of a pool, and a crash.
use Rattle.std.proofs.Common.{◌≡◌, ◌<◌, ◌≤◌, ◌++◌, ◌∷◌, [], ℕ, zero, suc, List, Ok, ap, arith, inl, inr, length, refl, subst, sym, take, ◌∙◌, ◌⊎◌}
use Rattle.std.specs.Prelude.{IsTrue}
use Rattle.std.proofs.lemmas.List.{length-map}
use Rattle.std.proofs.Math.Logic.{∥∥₁_elim, ∥∥₁_map, ∥∥₁_prop}
use Rattle.base.specs.declared.names.Owner.{Owner}
use Rattle.base.specs.declared.names.Receipt.{Receipt}
use Rattle.base.specs.declared.operation.Op.{Op}
use Rattle.base.specs.disk.Disk.{Disk, MayLeave, certain}
use Rattle.base.specs.disk.Fairness.{IsFairOn}
use Rattle.base.specs.history.Contents.{Contents}
use Rattle.base.specs.history.History.{Entry, apply_all, replay, run}
use Rattle.base.specs.history.Past.{Past}
use Rattle.base.specs.history.Sequences.{in_turn}
use Rattle.base.specs.kept.LeftDisks.{IsLeft}
use Rattle.base.specs.steps.Explains.{IsLeftBy}
use Rattle.base.proofs.common.Sequences.{parted}
use Rattle.base.proofs.crash.LeftDisks.{left_crashed}
use Rattle.device_model.specs.declared.device.SectorDevice.{Ghosts}
use Rattle.pool_threads.specs.declared.handle.Handle.{Handle}
use Rattle.pool_threads.specs.declared.handle.LastSeen.{LastSeen}
use Rattle.pool_threads.specs.declared.shared.Shared.{Shared}
use Rattle.pool_threads.specs.Handles.{IsBackIn, IsFirstSeen, IsLeftBehind, OpensBehind, StaysInPool, WasOf, kin_left, opening_view}
use Rattle.pool_threads.specs.Transacts.{TransactsDurably, TransactsOrLacks}
use Rattle.pool_threads.specs.Views.{SeenPool, since, viewed_state}
use Rattle.word_lock.specs.Seats.{seat_table}
use Rattle.running_pools.specs.LeftDevices.{ClosesAfter, IsOnlyHandle, LeavesContents}
use Rattle.running_pools.proofs.Adds.{Adds, AddsAlone, alone_on, ops_of, past_seen, transacted_alone}
use Rattle.running_pools.proofs.LeftDevices.{alone_upon, only_handle, only_number}
use Rattle.fronts.specs.Fronts.{IsFrontOf}
use Rattle.fronts.specs.RisingPools.{RisesAlone}
use Rattle.fronts.specs.RisingPools.MakesTransactions.{by_transact}
use Rattle.fronts.proofs.DurableTransactions.{durable_entered, durable_transacts_have_all_before}
use Rattle.fronts.proofs.Fronts.{cuts_are_fronts}
use Rattle.fronts.proofs.RisingCalls.{first_handles_rise, transacts_go_on_rising}

module _ (one two : List Op) where
  -- contents to which both led, one after the other
  abbrev pub AreBoth : Contents → Contents → Type 0
  AreBoth base c = (d : Contents) × (apply_all one base ≡ Ok d) × (apply_all two d ≡ Ok c)

  -- what was there before, or what the first left, or both
  abbrev pub AreFirst : Contents → Contents → Type 0
  AreFirst base c = (c ≡ base) ⊎ ((apply_all one base ≡ Ok c) ⊎ AreBoth base c)

  -- the entries of two transactions
  both_found : (e f : Entry) (base c : Contents) → e.ops ≡ one → f.ops ≡ two → replay (e ∷ f ∷ []) base ≡ Ok c → AreBoth base c
  both_found e f base c is_one is_two h =
      let p = parted (run e base) (in_turn run (f ∷ [])) c h in
      let q = parted (run f p.0) (in_turn run []) c p.2 in
      let last : q.0 ≡ c = (let is : Ok q.0 ≡ Ok c = q.2 in cc) in (
        p.0,
        subst (λ (ops : List Op). apply_all ops base ≡ Ok p.0) is_one p.1,
        subst (λ (ops : List Op). apply_all ops p.0 ≡ Ok c) is_two (subst (λ (x : Contents). apply_all f.ops p.0 ≡ Ok x) last q.1),
      )

  first_found : (e : Entry) (base c : Contents) → e.ops ≡ one → replay (e ∷ []) base ≡ Ok c → apply_all one base ≡ Ok c
  first_found e base c is_one h =
      let p = parted (run e base) (in_turn run []) c h in
      let last : p.0 ≡ c = (let is : Ok p.0 ≡ Ok c = p.2 in cc) in
      subst (λ (ops : List Op). apply_all ops base ≡ Ok c) is_one (subst (λ (x : Contents). apply_all e.ops base ≡ Ok x) last p.1)

  some_found : (n : ℕ) (e f : Entry) (base c : Contents) → n ≤ 2 → e.ops ≡ one → f.ops ≡ two → replay (take n (e ∷ f ∷ [])) base ≡ Ok c → AreFirst base c
  some_found zero e f base c within is_one is_two h = inl (let is : Ok base ≡ Ok c = h in let same : c ≡ base = cc in same)
  some_found (suc zero) e f base c within is_one is_two h = inr (inl (first_found e base c is_one h))
  some_found (suc (suc zero)) e f base c within is_one is_two h = inr (inr (both_found e f base c is_one is_two h))
  some_found (suc (suc (suc n))) e f base c within is_one is_two h = absurd (omega (arith, within))

  more_found : (n : ℕ) (e f : Entry) (base c : Contents) → 1 < n → n ≤ 2 → e.ops ≡ one → f.ops ≡ two → replay (take n (e ∷ f ∷ [])) base ≡ Ok c → AreBoth base c
  more_found zero e f base c more within is_one is_two h = absurd (omega (arith, more))
  more_found (suc zero) e f base c more within is_one is_two h = absurd (omega (arith, more))
  more_found (suc (suc zero)) e f base c more within is_one is_two h = both_found e f base c is_one is_two h
  more_found (suc (suc (suc n))) e f base c more within is_one is_two h = absurd (omega (arith, within))

  -- a list of two entries of these operations
  record AreTwo (entries : List Entry) : Type 0 where
    first : Entry
    second : Entry
    are : entries ≡ first ∷ second ∷ []
    is_one : first.ops ≡ one
    is_two : second.ops ≡ two

  two_in : (entries : List Entry) → ops_of entries ≡ one ∷ two ∷ [] → AreTwo entries
  two_in [] same = absurd (let no_way : [] ≡ one ∷ two ∷ [] = same in cc)
  two_in (e ∷ []) same = absurd (let no_way : e.ops ∷ [] ≡ one ∷ two ∷ [] = same in cc)
  two_in (e ∷ f ∷ []) same =
      let all : e.ops ∷ f.ops ∷ [] ≡ one ∷ two ∷ [] = same in
      record { first = e; second = f; are = refl; is_one = (let is : e.ops ≡ one = cc in is); is_two = (let is : f.ops ≡ two = cc in is) }
  two_in (e ∷ f ∷ g ∷ rest) same = absurd (let no_way : e.ops ∷ f.ops ∷ g.ops ∷ ops_of rest ≡ one ∷ two ∷ [] = same in cc)

  -- a front of them
  module _ (past : Past) (all : ops_of past.entries ≡ one ∷ two ∷ []) (c : Contents) (front : IsFrontOf past c) where
    pub front_finds : AreFirst past.base c
    front_finds =
        let t = two_in past.entries all in
        let within : front.count ≤ length past.entries = front.within in
        let long : length past.entries ≡ 2 = ap length t.are in
        some_found front.count t.first t.second past.base c (omega (arith, within, long)) t.is_one t.is_two (subst (λ (es : List Entry). replay (take front.count es) past.base ≡ Ok c) t.are front.replayed)

    -- and one that has more than the first
    pub front_finds_both : 1 < front.count → AreBoth past.base c
    front_finds_both more =
        let t = two_in past.entries all in
        let within : front.count ≤ length past.entries = front.within in
        let long : length past.entries ≡ 2 = ap length t.are in
        more_found front.count t.first t.second past.base c more (omega (arith, within, long)) t.is_one t.is_two (subst (λ (es : List Entry). replay (take front.count es) past.base ≡ Ok c) t.are front.replayed)

module _ {Dev : Type 0} {G : Ghosts Dev} where
  -- The only handle of a pool made a first transaction, and then a call that made a second one and no more.
  module _ (p : Shared Dev G) (device : Dev) (dirty_max : ℕ) (opens : OpensBehind (IsTrue G.keeps_model) (G.disk device) dirty_max (opening_view p)) (l : LastSeen Dev G) (is_first : IsFirstSeen p l)
      (h : Handle Dev G) (back : IsBackIn p l h) (owner : Owner) (one two : List Op) (r : Receipt) (now last : Handle Dev G) (first : TransactsOrLacks owner one (Ok r) h now) where
    only : IsOnlyHandle p h
    only = only_handle p l h is_first back

    pub rises_first : RisesAlone now
    rises_first = (transacts_go_on_rising h now (by_transact owner one (Ok r) first) (first_handles_rise p (G.disk device) dirty_max h opens only.number only.seen)).after

    no_entries : (past_seen h).entries ≡ []
    no_entries = ap (λ (v : SeenPool). v.past.entries) only.seen ∙ ap (λ (q : Past). q.entries) opens.anew

    one_entry : ∥ Adds (one ∷ []) (past_seen h) (past_seen now) ∥₁
    one_entry = (transacted_alone owner one (Ok r) h now first only.number).1

    entries_are : (all : List (List Op)) (past : Past) → Adds all (past_seen h) past → ops_of past.entries ≡ all
    entries_are all past a = ap ops_of a.entries ∙ ap (λ (es : List Entry). ops_of (es ++ a.added)) no_entries ∙ a.ops

    module _ (rises : RisesAlone last) (more : AddsAlone (two ∷ []) now last) (left : LastSeen Dev G) (behind : IsLeftBehind last left) where
      two_entries : ∥ Adds (one ∷ two ∷ []) (past_seen h) (past_seen last) ∥₁
      two_entries = (alone_on (one ∷ []) (two ∷ []) h now last (transacted_alone owner one (Ok r) h now first) more only.number).1

      -- an import finds a front of the two
      pub finds_front : (after : Dev) → ClosesAfter p left after → IsTrue G.keeps_model → LeavesContents (AreFirst one two) (G.disk device) (G.disk after)
      finds_front after closes keeps =
          alone_upon p device dirty_max opens h last only left rises.only behind (λ later. (c : Contents) → IsLeftBy later c → AreFirst one two later.base c) (λ created.
          ∥∥₁_elim two_entries ∥∥₁_prop (λ a.
          ∥∥₁_map {B = (c : Contents) → IsLeftBy (since created (past_seen last)) c → AreFirst one two (past_seen last).base c} rises.rising (λ up c is.
          front_finds one two (since created (past_seen last)) (entries_are (one ∷ two ∷ []) (past_seen last) a) c (cuts_are_fronts (since created (past_seen last)) c up is)))) after closes keeps

      -- it finds both if the second one is durable
      pub finds_both : (q : Receipt) → TransactsDurably owner two (Ok q) now last → (after : Dev) → ClosesAfter p left after → IsTrue G.keeps_model → LeavesContents (AreBoth one two) (G.disk device) (G.disk after)
      finds_both q durable after closes keeps =
          alone_upon p device dirty_max opens h last only left rises.only behind (λ later. (c : Contents) → IsLeftBy later c → AreBoth one two later.base c) (λ created.
          ∥∥₁_elim two_entries ∥∥₁_prop (λ a.
          ∥∥₁_elim one_entry ∥∥₁_prop (λ b.
          ∥∥₁_elim (durable_entered owner two q now last durable) ∥∥₁_prop (λ entered.
          ∥∥₁_map {B = (c : Contents) → IsLeftBy (since created (past_seen last)) c → AreBoth one two (past_seen last).base c} (durable_transacts_have_all_before owner two q now last durable rises_first) (λ each c is.
          let f = each created c is in
          let fresh : length (past_seen now).entries ≤ q.ordinal.0 = entered.1.fresh in
          let one_before : length (ops_of (past_seen now).entries) ≡ 1 = ap length (entries_are (one ∷ []) (past_seen now) b) in
          let same : length (ops_of (past_seen now).entries) ≡ length (past_seen now).entries = length-map (past_seen now).entries (λ (e : Entry). e.ops) in
          let has : q.ordinal.0 < f.front.count = f.has in
          front_finds_both one two (since created (past_seen last)) (entries_are (one ∷ two ∷ []) (past_seen last) a) c f.front (omega (arith, fresh, one_before, same, has))))))) after closes keeps

-- a handle that left its pool was one of it, and the only one
pub was_of : {Dev : Type 0} {G : Ghosts Dev} (p : Shared Dev G) (l : LastSeen Dev G) (h now last : Handle Dev G) (left : LastSeen Dev G) → IsFirstSeen p l → IsBackIn p l h → StaysInPool h now → StaysInPool now last → IsLeftBehind last left → WasOf p left
was_of p l h now last left is_first back first later behind = ap (λ s. seat_table s) behind ∙ later.0 ∙ first.0 ∙ (only_handle p l h is_first back).of

pub is_only : {Dev : Type 0} {G : Ghosts Dev} (last : Handle Dev G) (left : LastSeen Dev G) → RisesAlone last → IsLeftBehind last left → kin_left left ≡ 0
is_only last left rises behind = only_number last left rises.only behind

-- an open of what a fair crash leaves shows contents that the run left
pub opened_left : (keeps : Type 0) (past : Past) (ended crashed : Disk) (image : List ℕ) (dirty_max : ℕ) (v : SeenPool) → keeps → crashed ≡ certain image ended → MayLeave ended.now image → OpensBehind keeps crashed dirty_max v
    → IsLeft past ended → IsFairOn ended past.created image → IsLeftBy past (viewed_state v).shown.contents
opened_left keeps past ended crashed image dirty_max v k is may opens was fair =
    subst (λ (c : Contents). IsLeftBy past c) (sym opens.shows) (opens.left k past (subst (λ (d : Disk). IsLeft past d) (sym is) (left_crashed past ended image may fair was)))
