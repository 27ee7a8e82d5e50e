-- Each call of a sync keeps the phases: each of its moments is at rest on the old view, between the two, or at rest on
-- the new one.
use Rattle.std.proofs.Common.{◌≡◌, ◌⊎◌, inl, inr, ℕ, ◌+◌, ◌<◌, ◌≤◌, List, length, Option, Some, None, Result, refl, sym, ◌∙◌, ap, subst, arith}
use Rattle.std.specs.Prelude.{IfSome}
use Rattle.std.proofs.lemmas.Bool.{cases_lt}
use Rattle.base.specs.declared.error.PoolError.{PoolError}
use Rattle.base.specs.formats.Geometry.{block_count, slot_place, slot_of}
use Rattle.base.specs.formats.Uberblocks.{slot_size}
use Rattle.base.specs.kept.PlacedTrees.{ArePlaced}
use Rattle.base.specs.disk.Disk.{Moment, Disk, EachMoment, bytes_of, handed, moments}
use Rattle.base.specs.disk.Calls.{Writes}
use Rattle.base.specs.disk.Fairness.{HandsOnly}
use Rattle.base.specs.disk.SyncOrder.{DeviceCall}
use Rattle.base.specs.disk.SyncOrder.DeviceCall.{Block, Config, Uberblock, Flush}
use Rattle.base.specs.kept.CallStages.{IsSwitching, SparesAt}
use Rattle.base.specs.kept.Views.{View, IsLaid}
use Rattle.base.proofs.disk.Fairness.{hands_wrote, hands_settled}
use Rattle.base.proofs.disk.Moments.{starts, each_write, each_flush}
use Rattle.base.proofs.tree.PlacedTrees.{holds-placed}
use Rattle.sync.specs.declared.run.SyncRun.{SyncRun}
use Rattle.sync.specs.Calls.{Target, target_of, IsNextCall, MakesCall, TargetFits}
use Rattle.sync.specs.Made.{HasMade}
use Rattle.sync.specs.Phases.{SyncViews, LeadsViews, HasPhaseOf, IsWrittenNext, KeepsPhases, calls_before_slots, new_config_label}
use Rattle.sync.specs.Runs.{SameSync}
use Rattle.sync.proofs.CallTurns.{IsFrontCall, IsBackCall, IsTurn, call_turn}
use Rattle.sync.proofs.CheckedWrites.{call_fair}
use Rattle.sync.proofs.KeptWrites.{done_after}
use Rattle.sync.proofs.LaidViews.{new_view_laid, new_label_below}
use Rattle.sync.proofs.LoggedCalls.{call_logged}
use Rattle.sync.proofs.PhaseSteps.{Keeps, first_write, first_flush, last_flush, behind_write, behind_flush}
use Rattle.sync.proofs.QuietCalls.{front_quiet, back_quiet, slot_spared}
use Rattle.sync.proofs.SlotSteps.{slot_write, slot_flush, switched_write}
use Rattle.sync.proofs.SparedPlaces.{own_slot_spares}
use Rattle.sync.proofs.Targets.{IsSound, WritesTarget, call_in_labels, target_of_call}

-- The tree of a view that is laid has its blocks in the area.
laid_placed : (size t flushed : ℕ) (m : Moment) (v : View) → IsLaid size t flushed m v → ArePlaced (block_count size) v.pointers
laid_placed size t flushed m v laid = holds-placed _ _ v.pointers v.synced.objects laid.firm.tree.holds

module _ (run : SyncRun) (sound : IsSound run) (call : DeviceCall) (next : IsNextCall run call) (fits : TargetFits run call) (before after : Disk) (r : Result (Unit {0}) PoolError) (makes : MakesCall run call before r after) where
  abbrev Hands : ℕ → Moment → Type 0
  Hands t m = HandsOnly t (IsWrittenNext run) (handed before.now) m

  -- what counts is what counted, and the call's own write
  call_hands : (t : ℕ) → EachMoment (HandsOnly t (IsWrittenNext run) (handed before.now)) before after
  call_hands t = by_call call next makes
    where
      begins : EachMoment (Hands t) before before
      begins = starts (Hands t) before (λ place content some. inr some)

      by_target : (c : DeviceCall) → IsNextCall run c → (o : Option Target) → target_of run c ≡ o → WritesTarget o before r after → EachMoment (Hands t) before after
      by_target c at None is writes = absurd writes
      by_target c at (Some u) is writes =
          let own : IsWrittenNext run u.place u.content = record { target = u; at = target_of_call run run.done c at ∙ ap (λ (o : Option Target). Some o) is; place_is = refl; content_is = refl } in
          each_write (Hands t) before before after u.place u.content r begins writes
          (λ done here. hands_wrote (moments before) t u.place u.content done (IsWrittenNext run) (handed before.now) before.now own here)

      by_call : (c : DeviceCall) → IsNextCall run c → MakesCall run c before r after → EachMoment (Hands t) before after
      by_call (Block k) at made = by_target (Block k) at (target_of run (Block k)) refl made
      by_call (Config l) at made = by_target (Config l) at (target_of run (Config l)) refl made
      by_call (Uberblock l) at made = by_target (Uberblock l) at (target_of run (Uberblock l)) refl made
      by_call Flush at made = each_flush (Hands t) before before after r begins made (λ here. hands_settled t (bytes_of before.now) (IsWrittenNext run) (handed before.now) before.now here)

  module _ (base : List ℕ) (v : SyncViews) (leads : LeadsViews base run v) (made : HasMade base run (bytes_of before.now)) (has : HasPhaseOf run v before.now) where
    abbrev Kept : Type 0
    Kept = Keeps v run.geometry (calls_before_slots run) (new_config_label v run.stages) run.done r before after

    no_flush : (c : DeviceCall) → run.done + 1 < calls_before_slots run ⊎ (calls_before_slots run ≤ run.done + 1) → run.done < calls_before_slots run → (run.done + 1 ≡ calls_before_slots run → c ≡ Flush)
        → (c ≡ Flush → ⊥) → run.done + 1 < calls_before_slots run
    no_flush c (inl less) below last other = less
    no_flush c (inr more) below last other = absurd (other (last (omega (arith, below, more))))

    -- a call before the uberblocks
    front_kept : (c : DeviceCall) → run.done < calls_before_slots run → IsFrontCall run.stages c → (run.done + 1 ≡ calls_before_slots run → c ≡ Flush) → TargetFits run c → MakesCall run c before r after → Kept
    front_kept c below is last fit makes = by_call c is last fit makes
      where
        laid : IsLaid run.geometry v.created v.flushed before.now v.old
        laid = (has.first below).rest.rest.laid

        by_target : (c : DeviceCall) → IsFrontCall run.stages c → run.done + 1 < calls_before_slots run → (o : Option Target) → target_of run c ≡ o
            → IfSome o (λ t. (length t.content ≡ t.size) × (t.place + t.size ≤ run.geometry)) → WritesTarget o before r after → Kept
        by_target c is less None at fit writes = absurd writes
        by_target c is less (Some t) at fit writes =
            let quiet = front_quiet base run sound v leads laid.view (laid_placed run.geometry v.created v.flushed before.now v.old laid) c t is at fit.0 fit.1 in
            first_write v run.geometry (calls_before_slots run) (new_config_label v run.stages) run.done r before after has t.place t.content less quiet.0 quiet.1 writes

        by_call : (c : DeviceCall) → IsFrontCall run.stages c → (run.done + 1 ≡ calls_before_slots run → c ≡ Flush) → TargetFits run c → MakesCall run c before r after → Kept
        by_call (Block k) is last fit makes =
            by_target (Block k) is (no_flush (Block k) (cases_lt (run.done + 1) (calls_before_slots run)) below last (λ same. let no_way : Block k ≡ Flush = same in cc)) (target_of run (Block k)) refl fit makes
        by_call (Config l) is last fit makes =
            by_target (Config l) is (no_flush (Config l) (cases_lt (run.done + 1) (calls_before_slots run)) below last (λ same. let no_way : Config l ≡ Flush = same in cc)) (target_of run (Config l)) refl fit makes
        by_call (Uberblock l) is last fit makes = absurd is
        by_call Flush is last fit makes = elim (cases_lt (run.done + 1) (calls_before_slots run)) as (λ _. Kept) [
          | inl less ↦ first_flush v run.geometry (calls_before_slots run) (new_config_label v run.stages) run.done r before after has less makes
          | inr more ↦
              let at : run.done + 1 ≡ calls_before_slots run = omega (arith, below, more) in
              last_flush v run.geometry (calls_before_slots run) (new_config_label v run.stages) run.done r before after has at makes
              (λ none same here. new_view_laid base run sound v leads after.now here (subst (λ (image : List ℕ). HasMade base run image) (sym same) made) at none)
        ]

    -- a write of the uberblock
    slot_kept : (label : ℕ) → label < 4 → run.done ≡ calls_before_slots run + label → MakesCall run (Uberblock label) before r after → Kept
    slot_kept label below at makes = elim (cases_lt (calls_before_slots run) run.done) as (λ _. Kept) [
      | inl later ↦ elim (has.between later (omega (arith, at, below))) as (λ _. Kept) [
        | inl b ↦ between_kept (inr b) (b.between.old_laid, b.between.new_laid)
        | inr s ↦
            let new_placed = laid_placed run.geometry v.created v.new_flushed before.now v.new s.rest.rest.laid in
            switched_write v run.geometry (calls_before_slots run) (new_config_label v run.stages) leads.above leads.other_slot place run.uberblock run.done label r before after has below at refl long here later s leads.uberblock
            (λ labels lower. subst (λ (n : ℕ). SparesAt run.geometry v.new_flushed labels v.new place n) (sym long)
            (own_slot_spares run.geometry sound.geometry v.new_flushed labels v.new leads.view new_placed label below (λ same. omega (arith, lower, same))))
      ]
      | inr first ↦ elim (has.switching (omega (arith, at, first))) as (λ _. Kept) [
        | inl rest ↦ between_kept (inl rest) (rest.0.rest.laid, rest.1.laid)
        | inr b ↦ between_kept (inr b) (b.between.old_laid, b.between.new_laid)
      ]
    ]
      where
        place : ℕ
        place = slot_place run.geometry label (slot_of v.new.u.group)

        long : length run.uberblock ≡ slot_size
        long = ap (λ (l : List ℕ). length l) leads.uberblock ∙ leads.view.uberblock.size

        here : Writes before place run.uberblock r after
        here = subst (λ (s : ℕ). Writes before (slot_place run.geometry label s) run.uberblock r after) leads.slot makes

        between_kept : IsSwitching run.geometry v.created v.flushed v.new_flushed (new_config_label v run.stages) v.fixed v.old v.new before.now
            → IsLaid run.geometry v.created v.flushed before.now v.old × IsLaid run.geometry v.created v.new_flushed before.now v.new → Kept
        between_kept switching views =
            slot_write v run.geometry (calls_before_slots run) (new_config_label v run.stages) leads.above leads.other_slot place run.uberblock run.done label r before after has below at refl long here switching
            (slot_spared base run sound v leads (laid_placed run.geometry v.created v.new_flushed before.now v.new views.1) views.0.view
            (laid_placed run.geometry v.created v.flushed before.now v.old views.0) label (new_config_label v run.stages) below (new_label_below v run.stages))

    -- a call after the uberblocks
    back_kept : (c : DeviceCall) → calls_before_slots run + 4 < run.done → IsBackCall run.stages c → MakesCall run c before r after → Kept
    back_kept c above is makes = by_call c is makes
      where
        by_target : (c : DeviceCall) → IsBackCall run.stages c → (o : Option Target) → target_of run c ≡ o → WritesTarget o before r after → Kept
        by_target c is None at writes = absurd writes
        by_target c is (Some t) at writes =
            behind_write v run.geometry (calls_before_slots run) (new_config_label v run.stages) run.done r before after has t.place t.content above
            (λ labels config. back_quiet base run sound v leads (laid_placed run.geometry v.created v.new_flushed before.now v.new (has.behind above).rest.rest.laid) c t is at labels config) writes

        by_call : (c : DeviceCall) → IsBackCall run.stages c → MakesCall run c before r after → Kept
        by_call (Block k) is makes = absurd is
        by_call (Config l) is makes = by_target (Config l) is (target_of run (Config l)) refl makes
        by_call (Uberblock l) is makes = absurd is
        by_call Flush is makes = behind_flush v run.geometry (calls_before_slots run) (new_config_label v run.stages) run.done r before after has above makes

    call_kept : IsTurn run.stages (calls_before_slots run) run.done call → Kept
    call_kept (inl (below, is, last)) = front_kept call below is last fits makes
    call_kept (inr (inl (label, below, at, is))) = slot_kept label below at (subst (λ (c : DeviceCall). MakesCall run c before r after) is makes)
    call_kept (inr (inr (inl (at, is)))) =
        slot_flush v run.geometry (calls_before_slots run) (new_config_label v run.stages) leads.above leads.other_slot run.done r before after has at (subst (λ (c : DeviceCall). MakesCall run c before r after) is makes)
    call_kept (inr (inr (inr (above, is)))) = back_kept call above is makes

  pub kept_phases : (new : SyncRun) → SameSync run new → new.done ≡ done_after run.done r → KeepsPhases run new before after
  kept_phases new same done = record {
    fair = λ t began fair. call_fair run sound t before after began fair r call (call_in_labels run run.done call next) fits makes;
    hands = call_hands;
    phases = λ base v leads made has.
        let kept = call_kept base v leads made has (call_turn run call next) in
        (kept.0, rw (same.geometry, same.blocks, same.stages, done) kept.1);
    logs = λ base v leads made has holds.
        let kept = call_kept base v leads made has (call_turn run call next) in
        call_logged run new sound before after same base v leads has kept.0 (rw (same.geometry, same.blocks, same.stages, done) kept.1) holds call r next (call_in_labels run run.done call next) fits done makes;
  }
