-- What the labels have of the new uberblock, by the calls that a sync has made: nothing before its first write, and the
-- uberblock in label 0 after it.
use Rattle.std.proofs.Common.{◌≡◌, inl, inr, ℕ, ◌<◌, List, Some, None, refl, sym, ◌∙◌, ap, subst, arith}
use Rattle.base.specs.disk.Disk.{Apart, IsInRange}
use Rattle.base.specs.disk.SyncOrder.{DeviceCall}
use Rattle.base.specs.disk.SyncOrder.DeviceCall.{Block, Config, Uberblock, Flush}
use Rattle.base.specs.formats.Fields.{part}
use Rattle.base.specs.formats.Geometry.{block_address, block_size, config_place, slot_of, slot_place}
use Rattle.base.specs.formats.Uberblocks.{slot_size}
use Rattle.base.proofs.disk.Put.{part_same}
use Rattle.base.proofs.formats.Geometry.{slot-below}
use Rattle.base.proofs.formats.LabelPlaces.{block-label_apart, slot-config_apart}
use Rattle.base.proofs.common.KeptLists.{mapped}
use Rattle.sync.specs.declared.run.SyncRun.{SyncRun}
use Rattle.sync.specs.Calls.{Target, config_target, target_of}
use Rattle.sync.specs.Made.{HasMade}
use Rattle.sync.specs.Phases.{HasNoNewSlot, LeadsViews, SyncViews, calls_before_slots}
use Rattle.sync.proofs.Blocks.{call_stands}
use Rattle.sync.proofs.CallTurns.{IsFrontCall, IsTurn, first_slot_stands, turn_at}
use Rattle.sync.proofs.Targets.{IsSound, block_lies, call_of_target}

-- no byte is in two ranges that are apart
not_in_both : (a m b n i : ℕ) → Apart a m b n → IsInRange a m i → IsInRange b n i → ⊥
not_in_both a m b n i (inl before) one other = omega (arith, before, one.1, other.0)
not_in_both a m b n i (inr behind) one other = omega (arith, behind, one.0, other.1)

module _ (base image : List ℕ) (run : SyncRun) (sound : IsSound run) (v : SyncViews) (leads : LeadsViews base run v) (made : HasMade base run image) where
  abbrev slot : ℕ
  slot = slot_of v.new.u.group

  -- what is written before the uberblocks lies in no slot
  front_apart : (call : DeviceCall) (t : Target) (label : ℕ) → IsFrontCall run.stages call → label < 4 → target_of run call ≡ Some t → (i : ℕ) → IsInRange t.place t.size i → IsInRange (slot_place run.geometry label slot) slot_size i → ⊥
  front_apart (Block k) t label is below at i one other =
      let (b, at_b, in_area, same) = block_lies run sound k t at in
      let in_array : slot < 128 = slot-below v.new.u.group in
      not_in_both (block_address b.index) block_size (slot_place run.geometry label slot) slot_size i
      (block-label_apart run.geometry label (slot_place run.geometry label slot) slot_size (block_address b.index) sound.geometry below (omega arith) (omega (arith, in_array)) (b.index, in_area, refl))
      (subst (λ (u : Target). IsInRange u.place u.size i) (sym same) one) other
  front_apart (Config other_label) t label is below at i one other =
      let (stages, at_s, same) = mapped (config_target run.geometry other_label) run.stages t at in
      not_in_both (slot_place run.geometry label slot) slot_size (config_place run.geometry other_label) block_size i
      (slot-config_apart run.geometry label slot other_label sound.geometry below (slot-below v.new.u.group) is.0) other
      (subst (λ (u : Target). IsInRange u.place u.size i) (sym same) one)
  front_apart (Uberblock other_label) t label is below at i one other = is
  front_apart Flush t label is below at i one other = absurd (let no_way : None ≡ Some t = at in cc)

  pub slots_stay : run.done ≡ calls_before_slots run → HasNoNewSlot base run.geometry v → HasNoNewSlot image run.geometry v
  slots_stay first none label below same = none label below (sym stays ∙ same)
    where
      in_front : (k : ℕ) (call : DeviceCall) → k < run.done → IsTurn run.stages (calls_before_slots run) k call → IsFrontCall run.stages call
      in_front k call early (inl (before, is, last)) = is
      in_front k call early (inr (inl (l, in_range, at, is))) = absurd (omega (arith, early, first, at))
      in_front k call early (inr (inr (inl (at, is)))) = absurd (omega (arith, early, first, at))
      in_front k call early (inr (inr (inr (behind, is)))) = absurd (omega (arith, early, first, behind))

      stays : part image (slot_place run.geometry label slot) slot_size ≡ part base (slot_place run.geometry label slot) slot_size
      stays = part_same image base (slot_place run.geometry label slot) slot_size made.size (λ i from to. made.others i (λ k t early at here.
          let (call, stands, is) = call_of_target run k t at in
          front_apart call t label (in_front k call early (turn_at run k call stands)) below is i here (from, to)))

  pub first_slot : calls_before_slots run < run.done → part image (slot_place run.geometry 0 slot) slot_size ≡ v.new.slot
  first_slot later =
      let stands : part image (slot_place run.geometry 0 run.slot) slot_size ≡ run.uberblock =
      call_stands base image run (calls_before_slots run) (Uberblock 0) (record { place = slot_place run.geometry 0 run.slot; size = 1024; content = run.uberblock }) made later (first_slot_stands run) refl in
      ap (λ (s : ℕ). part image (slot_place run.geometry 0 s) slot_size) (sym leads.slot) ∙ stands ∙ leads.uberblock
