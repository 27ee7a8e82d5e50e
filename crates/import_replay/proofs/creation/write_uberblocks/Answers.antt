use Rattle.std.proofs.Common.{ℕ, ◌≡◌, ◌+◌, ◌∙◌, map, ap, subst, sym, inr, arith}
use Rattle.std.specs.List.{range_with_len}
use Rattle.uberblocks.specs.Slots.{slot_bytes}
use Rattle.base.specs.disk.Disk.{bytes_of}
use Rattle.base.specs.formats.Geometry.{slot_of, slot_place}
use Rattle.base.specs.formats.Limits.{first_group}
use Rattle.base.specs.disk.DiskCalls.{after_disk_calls}
use Rattle.import_replay.specs.Creations.{first_config, first_uberblock}
use Rattle.import_replay.specs.Cleared.{IsCleared}
use Rattle.import_replay.specs.CreateCalls.{write_uberblock}
use Rattle.import_replay.specs.Labelled.{HoldConfig, HoldUberblock}
use Rattle.import_replay.specs.OwnCreations.{AreSlotsHanded}
use Rattle.import_replay.proofs.CreateCalls.{next_made, next_refused, stops_with, write_done, write_refused}
use Rattle.import_replay.proofs.FirstWrites.{configs_behind, first_written, slot_handed, written_later}
use Rattle.import_replay.proofs.LabelWrites.{after_write, uberblock_next, uberblock_behind, uberblock_beside}
use Rattle.import_replay.proofs.OutsideWrites.{first_slot_writable, writes_on}
use Rattle.import_replay.proofs.creation.write_uberblocks.Goals as goal

pub returns-in_err-write-clause-outside : goal.returns-in_err-write-clause-outside
returns-in_err-write-clause-outside g c = λ keeps start so_far.
    let long = g.met.D.SectorDevice.sized keeps c.loop-label.device ∙ c.loop-label.invariant.sized in
    writes_on c.args.geometry start (g.D.SectorDevice.disk c.loop-label.device) (g.D.SectorDevice.disk c.write.new.self) _ _ _ _ c.write.result c.requires.sized.geometry long
    (c.loop-label.invariant.outside keeps start so_far) (c.write.ensures.disk keeps) (c.slot_place.ensures.place ∙ ap (slot_place c.args.geometry c.loop-label.label) c.slot.ensures)
    c.encode-bytes.ensures.uberblock.size
    (first_slot_writable c.args.geometry c.loop-label.label c.loop-label-test.true)

pub returns-in_err-write-clause-ordered : goal.returns-in_err-write-clause-ordered
returns-in_err-write-clause-ordered g c = λ keeps.
    let x = c.in_err-write.field-0.0 in
    stops_with (map (write_uberblock c.args.geometry (first_uberblock c.args.guid c.args.moment)) (range_with_len 0 4)) c.from_residual.result x (g.D.SectorDevice.disk c.args.device.now) (g.D.SectorDevice.disk c.write.new.self) c.from_residual.ensures.1
    (next_refused (write_uberblock c.args.geometry (first_uberblock c.args.guid c.args.moment)) c.loop-label.label 4 x (g.D.SectorDevice.disk c.args.device.now) (g.D.SectorDevice.disk c.loop-label.device) (g.D.SectorDevice.disk c.write.new.self) c.loop-label-test.true (c.loop-label.invariant.ordered keeps)
    (write_refused x (g.D.SectorDevice.disk c.loop-label.device) (g.D.SectorDevice.disk c.write.new.self) _ (slot_place c.args.geometry c.loop-label.label (slot_of first_group)) _ (slot_bytes (first_uberblock c.args.guid c.args.moment)) c.in_err-write.ensures.refusal (c.in_err-write.ensures.disk keeps) (c.slot_place.ensures.place ∙ ap (slot_place c.args.geometry c.loop-label.label) c.slot.ensures) c.encode-bytes.ensures.bytes))

pub loop-label-preserved : goal.loop-label-preserved
loop-label-preserved g c = record {
  sized = c.write.ensures.size ∙ c.loop-label.invariant.sized;
  size = c.write.ensures.size ∙ c.loop-label.invariant.size;
  refused = c.in_ok-write.ensures.count ∙ c.loop-label.invariant.refused;
  cleared = λ keeps cleared.
      let long = g.met.D.SectorDevice.sized keeps c.loop-label.device ∙ c.loop-label.invariant.sized in
      after_write (IsCleared c.args.geometry) _ _ _ _ _ (c.in_ok-write.ensures.disk keeps) (c.slot_place.ensures.place ∙ ap (slot_place c.args.geometry c.loop-label.label) c.slot.ensures)
      (uberblock_beside c.args.geometry c.requires.sized.geometry _ long c.loop-label.label _ c.loop-label-test.true c.encode-bytes.ensures.uberblock.size (c.loop-label.invariant.cleared keeps cleared));
  configs = λ keeps name held.
      let long = g.met.D.SectorDevice.sized keeps c.loop-label.device ∙ c.loop-label.invariant.sized in
      after_write (HoldConfig c.args.geometry 4 (first_config name c.args.guid c.args.geometry)) _ _ _ _ _ (c.in_ok-write.ensures.disk keeps) (c.slot_place.ensures.place ∙ ap (slot_place c.args.geometry c.loop-label.label) c.slot.ensures)
      (uberblock_behind c.args.geometry c.requires.sized.geometry _ long c.loop-label.label _ _ c.loop-label-test.true c.encode-bytes.ensures.uberblock.size (c.loop-label.invariant.configs keeps name held));
  uberblocks = λ keeps.
      let long = g.met.D.SectorDevice.sized keeps c.loop-label.device ∙ c.loop-label.invariant.sized in
      after_write (HoldUberblock c.args.geometry (c.loop-label.label + 1) (first_uberblock c.args.guid c.args.moment)) _ _ _ _ _ (c.in_ok-write.ensures.disk keeps) (c.slot_place.ensures.place ∙ ap (slot_place c.args.geometry c.loop-label.label) c.slot.ensures)
      (uberblock_next c.args.geometry c.requires.sized.geometry _ long c.loop-label.label _ _ c.loop-label-test.true c.encode-bytes.ensures.uberblock.size c.encode-bytes.ensures.uberblock (c.loop-label.invariant.uberblocks keeps));
  ordered = λ keeps.
      next_made (write_uberblock c.args.geometry (first_uberblock c.args.guid c.args.moment)) c.loop-label.label (g.D.SectorDevice.disk c.args.device.now) (g.D.SectorDevice.disk c.loop-label.device) (g.D.SectorDevice.disk c.write.new.self) (c.loop-label.invariant.ordered keeps)
      (write_done (g.D.SectorDevice.disk c.loop-label.device) (g.D.SectorDevice.disk c.write.new.self) _ (slot_place c.args.geometry c.loop-label.label (slot_of first_group)) _ (slot_bytes (first_uberblock c.args.guid c.args.moment)) (c.in_ok-write.ensures.disk keeps) (c.slot_place.ensures.place ∙ ap (slot_place c.args.geometry c.loop-label.label) c.slot.ensures) c.encode-bytes.ensures.bytes);
  outside = λ keeps start so_far.
      let long = g.met.D.SectorDevice.sized keeps c.loop-label.device ∙ c.loop-label.invariant.sized in
      writes_on c.args.geometry start (g.D.SectorDevice.disk c.loop-label.device) (g.D.SectorDevice.disk c.write.new.self) _ _ _ _ c.write.result c.requires.sized.geometry long
      (c.loop-label.invariant.outside keeps start so_far) (c.write.ensures.disk keeps) (c.slot_place.ensures.place ∙ ap (slot_place c.args.geometry c.loop-label.label) c.slot.ensures)
      c.encode-bytes.ensures.uberblock.size
      (first_slot_writable c.args.geometry c.loop-label.label c.loop-label-test.true);
  first = λ keeps t v same so_far.
      first_written (g.D.SectorDevice.disk c.loop-label.device) (g.D.SectorDevice.disk c.write.new.self) _ t _ v (c.in_ok-write.ensures.disk keeps) (inr (inr (c.encode-bytes.ensures.bytes ∙ sym same)))
      (c.loop-label.invariant.first keeps t v same so_far);
  handed = λ keeps t began.
      let long = g.met.D.SectorDevice.sized keeps c.loop-label.device ∙ c.loop-label.invariant.sized in
      let old = g.D.SectorDevice.disk c.loop-label.device in
      let new = g.D.SectorDevice.disk c.write.new.self in
      let so_far = c.loop-label.invariant.handed keeps t began in (
        written_later old new _ t _ (c.in_ok-write.ensures.disk keeps) so_far.0,
        slot_handed c.args.geometry c.requires.sized.geometry t c.loop-label.label old new long _ _ _ (c.in_ok-write.ensures.disk keeps) c.encode-bytes.ensures.bytes c.loop-label-test.true so_far.0
            c.encode-bytes.ensures.uberblock.size (c.slot_place.ensures.place ∙ ap (slot_place c.args.geometry c.loop-label.label) c.slot.ensures) so_far.1,
      );
  configs_handed = λ keeps t config held.
      let long = g.met.D.SectorDevice.sized keeps c.loop-label.device ∙ c.loop-label.invariant.sized in
      configs_behind c.args.geometry t c.loop-label.label (g.D.SectorDevice.disk c.loop-label.device) (g.D.SectorDevice.disk c.write.new.self) _ _ config c.requires.sized.geometry long (c.in_ok-write.ensures.disk keeps)
      c.encode-bytes.ensures.uberblock.size c.loop-label-test.true (c.slot_place.ensures.place ∙ ap (slot_place c.args.geometry c.loop-label.label) c.slot.ensures) (c.loop-label.invariant.configs_handed keeps t config held);
}

pub returns-clause-labels : goal.returns-clause-labels
returns-clause-labels g c = λ keeps cleared name held.
    let end : c.loop-label.label ≡ 4 = omega arith in (
      c.loop-label.invariant.cleared keeps cleared,
      (
        c.loop-label.invariant.configs keeps name held,
        subst (λ (n : ℕ). HoldUberblock c.args.geometry n (first_uberblock c.args.guid c.args.moment) (bytes_of (g.D.SectorDevice.disk c.loop-label.device).now)) end (c.loop-label.invariant.uberblocks keeps),
      ),
    )

pub returns-clause-handed : goal.returns-clause-handed
returns-clause-handed g c = λ keeps t began.
    let end : c.loop-label.label ≡ 4 = omega arith in
    subst (λ (n : ℕ). AreSlotsHanded c.args.geometry n t (slot_bytes (first_uberblock c.args.guid c.args.moment)) (g.D.SectorDevice.disk c.loop-label.device)) end (c.loop-label.invariant.handed keeps t began).1

pub returns-clause-ordered : goal.returns-clause-ordered
returns-clause-ordered g c = λ keeps.
    let end : c.loop-label.label ≡ 4 = omega arith in
    subst (λ (n : ℕ). g.D.SectorDevice.disk c.loop-label.device ≡ after_disk_calls (map (write_uberblock c.args.geometry (first_uberblock c.args.guid c.args.moment)) (range_with_len 0 n)) (g.D.SectorDevice.disk c.args.device.now)) end (c.loop-label.invariant.ordered keeps)
