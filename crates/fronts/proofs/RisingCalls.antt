-- Groups go on rising over orderly turns, so over each call of the only handle of a pool. A crash at any moment of them
-- leaves a front.
use Rattle.std.proofs.Common.{◌≡◌, ◌≢◌, ℕ, List, [], ◌∷◌, arith, false, if◌then◌else◌, refl, subst, sym, true, ◌==◌, ◌∙◌}
use Rattle.std.specs.Prelude.{All, Bool, IsTrue, Result}
use Rattle.std.proofs.Math.Logic.{∥∥₁_elim, ∥∥₁_map, ∥∥₁_prop}
use Rattle.std.proofs.lemmas.Bool.{eq-eqb, eqb-true, true≢false}
use Rattle.std.proofs.lemmas.List.Elements.{All-cons, All-head, All-nil, All-tail}
use Rattle.base.specs.declared.error.PoolError.{PoolError}
use Rattle.base.specs.declared.names.Owner.{Owner}
use Rattle.base.specs.declared.names.Receipt.{Receipt}
use Rattle.base.specs.declared.operation.Op.{Op}
use Rattle.base.specs.declared.operation.Shape.{Shape}
use Rattle.base.specs.declared.range.ObjectRange.{ObjectRange}
use Rattle.base.specs.history.History.{AreRising}
use Rattle.base.specs.history.Past.{Past}
use Rattle.base.proofs.steps.SeenStates.{grown}
use Rattle.device_model.specs.declared.device.SectorDevice.{Ghosts}
use Rattle.pool_threads.specs.declared.handle.Handle.{Handle}
use Rattle.pool_threads.specs.Handles.{opening_view, view_seen}
use Rattle.pool_threads.specs.Transacts.{MakesTransaction}
use Rattle.pool_threads.specs.Views.{CrashRule, IsFollowed, SeenPool, grows_onward, since, viewed_state}
use Rattle.word_lock.specs.declared.rule.Turn.{Turn}
use Rattle.word_lock.specs.Seats.{seat_number}
use Rattle.word_lock.specs.Turns.{turns_of}
use Rattle.fronts.specs.RisingPools.{CallsGoOnRising, FirstHandlesRise, GoesOnRising, IsInOrder, LeavesFronts, LeavesFrontsBetween, OtherCallsGoOnRising, Rises, RisesAlone, TransactionsKeepRising, TransactsGoOnRising}
use Rattle.fronts.specs.SharedPools.{IsOrderlyTurn, OpenedPoolsAreInOrder, OrderlyTurnsStayInOrder, SharedPoolsLeaveFronts, TakesOrderlyTurns}
use Rattle.fronts.proofs.Fronts.{safe_disks_leave_fronts}
use Rattle.fronts.proofs.FrontsBetween.{Leads, commit_rises, fronts_on, leads_by_commit, leads_by_step, leads_on, leads_same, rises_by_step}
use Rattle.fronts.proofs.OrderlyCalls.{other_calls_take_orderly_turns, transacts_take_orderly_turns}
use Rattle.fronts.proofs.OverTurns.{over_all, over_own, over_transaction}

none_rises : AreRising []
none_rises i j d low within = absurd (omega (arith, within))

-- a turn of a transaction keeps groups rising
module _ (keeps : Bool) where
  abbrev Lifts : SeenPool → SeenPool → Type 0
  Lifts v w = Rises v → Rises w

  pub transactions_rise : (owner : Owner) (ranges : List ObjectRange) (plan : List Shape) (ops : List Op) (result : Result Receipt PoolError) (v w : SeenPool) → MakesTransaction (IsTrue keeps) owner ranges plan ops result v w → Lifts v w
  transactions_rise =
      over_transaction (IsTrue keeps) Lifts (λ v w same. subst (λ (u : SeenPool). Lifts v u) (sym same) (λ x. x)) (λ u v w first later x. later (first x)) (rises_by_step keeps)
      (λ owner plan tx group ops receipt v m w begins ends x. commit_rises keeps owner plan tx group ops receipt v m w begins ends (rises_by_step keeps _ _ v m refl begins x))

pub transactions_keep_rising : TransactionsKeepRising
transactions_keep_rising keeps owner ranges plan ops result v w made rising = transactions_rise keeps owner ranges plan ops result v w made rising

-- turns of whichever handles
pub orderly_turns_stay_in_order : OrderlyTurnsStayInOrder
orderly_turns_stay_in_order keeps v w turns line each x =
    let a = over_all (IsTrue keeps) (Leads keeps) (leads_same keeps) (leads_on keeps) (leads_by_step keeps) (leads_by_commit keeps) turns v w line each in
    record { onward = a.onward; after = a.sound x; between = a.between x }

-- turns are all of a kind if those of each seat are
all_of_seats : (P : Turn SeenPool → Type 0) (ts : List (ℕ × Turn SeenPool)) → ((seat : ℕ) → All P (turns_of seat ts)) → All (λ (t : ℕ × Turn SeenPool). P t.1) ts
all_of_seats P [] each = All-nil (λ (t : ℕ × Turn SeenPool). P t.1)
all_of_seats P (t ∷ ts) each =
    let own : All P (t.1 ∷ turns_of t.0 ts) = subst (λ (b : Bool). All P (if b then t.1 ∷ turns_of t.0 ts else turns_of t.0 ts)) (eq-eqb t.0 t.0 refl) (each t.0) in
    All-cons (λ (t : ℕ × Turn SeenPool). P t.1) t ts (All-head P t.1 (turns_of t.0 ts) own) (all_of_seats P ts (λ seat. rest seat (t.0 == seat) (each seat)))
  where
    rest : (seat : ℕ) (b : Bool) → All P (if b then t.1 ∷ turns_of seat ts else turns_of seat ts) → All P (turns_of seat ts)
    rest seat true all = All-tail P t.1 (turns_of seat ts) all
    rest seat false all = all

-- those of a seat are, if they are its own or those of another
of_seat : (P : Turn SeenPool → Type 0) (own : ℕ) (all : List (ℕ × Turn SeenPool)) → All P (turns_of own all) → ((seat : ℕ) → seat ≢ own → All P (turns_of seat all)) → (seat : ℕ) (b : Bool) → (seat == own) ≡ b → All P (turns_of seat all)
of_seat P own all mine others seat true is = subst (λ (n : ℕ). All P (turns_of n all)) (sym (eqb-true seat own is)) mine
of_seat P own all mine others seat false is = others seat (λ same. true≢false (sym (eq-eqb seat own same) ∙ is))

module _ {Dev : Type 0} {G : Ghosts Dev} where
  -- the view that a pool opens with has no entries, and a crash leaves what it began with
  pub opened_pools_are_in_order : OpenedPoolsAreInOrder G
  opened_pools_are_in_order p old dirty_max opens =
      let there : AreRising (opening_view p).past.entries = subst (λ (q : Past). AreRising q.entries) (sym opens.anew) none_rises in
      record {
        rising = ∣ there ∣₁;
        fronts = λ k created follows.
            ∥∥₁_map {B = LeavesFronts created (opening_view p)} (opens.explained k created follows) (λ x. safe_disks_leave_fronts (opening_view p).disk (since created (opening_view p).past) there (x.safe tt));
      }

  pub first_handles_rise : FirstHandlesRise G
  first_handles_rise p old dirty_max h opens only saw =
      let x : IsInOrder G.keeps_model (view_seen h) = subst (λ (v : SeenPool). IsInOrder G.keeps_model v) (sym saw) (opened_pools_are_in_order p old dirty_max opens) in
      record { only = only; rising = x.rising; fronts = x.fronts }

  pub shared_pools_leave_fronts : SharedPoolsLeaveFronts G
  shared_pools_leave_fronts p old dirty_max l s opens last mine others =
      let P : Turn SeenPool → Type 0 = IsOrderlyTurn (IsTrue G.keeps_model) in
      orderly_turns_stay_in_order G.keeps_model (opening_view p) last.last last.history.0 last.history.1
      (all_of_seats P last.history.0 (λ seat. of_seat P (seat_number l.seat) last.history.0 (subst (λ (ts : List (Turn SeenPool)). All P ts) last.history.2 mine) others seat (seat == seat_number l.seat) refl))
      (opened_pools_are_in_order p old dirty_max opens)

  -- over the turns of the only handle
  goes_on : (old new : Handle Dev G) → TakesOrderlyTurns old new → RisesAlone old → GoesOnRising old new
  goes_on old new t x =
      let here : IsInOrder G.keeps_model (view_seen old) = record { rising = x.rising; fronts = x.fronts } in
      let a = over_own (IsTrue G.keeps_model) (Leads G.keeps_model) (leads_same G.keeps_model) (leads_on G.keeps_model) (leads_by_step G.keeps_model) (leads_by_commit G.keeps_model) t.made.had (view_seen old) (view_seen new) t.made.each (t.made.alone x.only) in
      let there : IsInOrder G.keeps_model (view_seen new) = a.sound here in
      record {
        onward = a.onward;
        after = record { only = t.made.met_none.0 ∙ x.only; rising = there.rising; fronts = there.fronts };
        between = a.between here;
      }

  pub transacts_go_on_rising : TransactsGoOnRising G
  transacts_go_on_rising old new made x = goes_on old new (transacts_take_orderly_turns old new made) x

  pub other_calls_go_on_rising : OtherCallsGoOnRising G
  other_calls_go_on_rising old new made x = goes_on old new (other_calls_take_orderly_turns old new made) x

  pub calls_go_on_rising : CallsGoOnRising G
  calls_go_on_rising old now new first later = record {
    onward = grows_onward _ (view_seen old) (view_seen now) (view_seen new) first.onward later.onward;
    after = later.after;
    between = λ k created follows.
        ∥∥₁_elim first.onward.goes_on ∥∥₁_prop (λ before.
        ∥∥₁_elim later.onward.goes_on ∥∥₁_prop (λ after.
        ∥∥₁_elim (first.between k created follows) ∥∥₁_prop (λ one.
        ∥∥₁_map {B = LeavesFrontsBetween created (view_seen old) (view_seen new)} (later.between k created (subst (λ (rule : CrashRule). IsFollowed rule created) (sym first.onward.rule) follows))
        (λ more. fronts_on created (view_seen old) (view_seen now) (view_seen new) (grown (viewed_state (view_seen old)) (viewed_state (view_seen now)) before) (grown (viewed_state (view_seen now)) (viewed_state (view_seen new)) after) one more))));
  }
