use Rattle.std.proofs.Common.{ℕ, ◌≡◌, ◌+◌, ◌∙◌, List, length, map, ap, subst, arith}
use Rattle.std.specs.List.{range_with_len}
use Rattle.base.specs.formats.Geometry.{label_place}
use Rattle.base.specs.disk.DiskCalls.{after_disk_calls}
use Rattle.import_replay.specs.Cleared.{AreTailsCleared, zeros}
use Rattle.import_replay.specs.CreateCalls.{clear_tail}
use Rattle.import_replay.proofs.CreateCalls.{next_made, next_refused, stops_with, write_done, write_refused}
use Rattle.import_replay.proofs.FirstWrites.{tail_written}
use Rattle.import_replay.proofs.LabelWrites.{after_write, cleared_next, length-zeros}
use Rattle.import_replay.proofs.OutsideWrites.{label_writable, writes_on}
use Rattle.import_replay.proofs.creation.clear_labels.Goals as goal

pub returns-in_err-write-clause-outside : goal.returns-in_err-write-clause-outside
returns-in_err-write-clause-outside g c = λ keeps start so_far.
    let long = g.met.D.SectorDevice.sized keeps c.loop-label.device ∙ c.loop-label.invariant.sized in
    writes_on c.args.geometry start (g.D.SectorDevice.disk c.loop-label.device) (g.D.SectorDevice.disk c.write.new.self) _ _ _ _ c.write.result c.requires.sized.geometry long
    (c.loop-label.invariant.outside keeps start so_far) (c.write.ensures.disk keeps) (ap (λ (k : ℕ). k + 16384) c.label_place.ensures.place)
    (ap (λ (l : List ℕ). length l) c.zero_tail-zeros.ensures ∙ length-zeros 245760)
    (label_writable c.args.geometry c.loop-label.label 16384 245760 c.loop-label-test.true (omega arith) (omega arith))

pub returns-in_err-write-clause-ordered : goal.returns-in_err-write-clause-ordered
returns-in_err-write-clause-ordered g c = λ keeps.
    let x = c.in_err-write.field-0.0 in
    stops_with (map (clear_tail c.args.geometry) (range_with_len 0 4)) c.from_residual.result x (g.D.SectorDevice.disk c.args.device.now) (g.D.SectorDevice.disk c.write.new.self) c.from_residual.ensures.1
    (next_refused (clear_tail c.args.geometry) c.loop-label.label 4 x (g.D.SectorDevice.disk c.args.device.now) (g.D.SectorDevice.disk c.loop-label.device) (g.D.SectorDevice.disk c.write.new.self) c.loop-label-test.true (c.loop-label.invariant.ordered keeps)
    (write_refused x (g.D.SectorDevice.disk c.loop-label.device) (g.D.SectorDevice.disk c.write.new.self) _ (label_place c.args.geometry c.loop-label.label + 16384) _ (zeros 245760) c.in_err-write.ensures.refusal (c.in_err-write.ensures.disk keeps) (ap (λ (k : ℕ). k + 16384) c.label_place.ensures.place) c.zero_tail-zeros.ensures))

pub loop-label-preserved : goal.loop-label-preserved
loop-label-preserved g c = record {
  sized = c.write.ensures.size ∙ c.loop-label.invariant.sized;
  size = c.write.ensures.size ∙ c.loop-label.invariant.size;
  refused = c.in_ok-write.ensures.count ∙ c.loop-label.invariant.refused;
  cleared = λ keeps.
      let long = g.met.D.SectorDevice.sized keeps c.loop-label.device ∙ c.loop-label.invariant.sized in
      after_write (AreTailsCleared c.args.geometry (c.loop-label.label + 1)) _ _ _ _ _ (c.in_ok-write.ensures.disk keeps) (ap (λ (k : ℕ). k + 16384) c.label_place.ensures.place)
      (cleared_next c.args.geometry c.requires.sized.geometry _ long c.loop-label.label _ c.loop-label-test.true c.zero_tail-zeros.ensures (c.loop-label.invariant.cleared keeps));
  ordered = λ keeps.
      next_made (clear_tail c.args.geometry) c.loop-label.label (g.D.SectorDevice.disk c.args.device.now) (g.D.SectorDevice.disk c.loop-label.device) (g.D.SectorDevice.disk c.write.new.self) (c.loop-label.invariant.ordered keeps)
      (write_done (g.D.SectorDevice.disk c.loop-label.device) (g.D.SectorDevice.disk c.write.new.self) _ (label_place c.args.geometry c.loop-label.label + 16384) _ (zeros 245760) (c.in_ok-write.ensures.disk keeps) (ap (λ (k : ℕ). k + 16384) c.label_place.ensures.place) c.zero_tail-zeros.ensures);
  outside = λ keeps start so_far.
      let long = g.met.D.SectorDevice.sized keeps c.loop-label.device ∙ c.loop-label.invariant.sized in
      writes_on c.args.geometry start (g.D.SectorDevice.disk c.loop-label.device) (g.D.SectorDevice.disk c.write.new.self) _ _ _ _ c.write.result c.requires.sized.geometry long
      (c.loop-label.invariant.outside keeps start so_far) (c.write.ensures.disk keeps) (ap (λ (k : ℕ). k + 16384) c.label_place.ensures.place)
      (ap (λ (l : List ℕ). length l) c.zero_tail-zeros.ensures ∙ length-zeros 245760)
      (label_writable c.args.geometry c.loop-label.label 16384 245760 c.loop-label-test.true (omega arith) (omega arith));
  first = λ keeps t v so_far.
      tail_written (g.D.SectorDevice.disk c.loop-label.device) (g.D.SectorDevice.disk c.write.new.self) _ 245760 t _ v (omega arith) c.zero_tail-zeros.ensures (c.in_ok-write.ensures.disk keeps)
      (c.loop-label.invariant.first keeps t v so_far);
}

pub returns-clause-ordered : goal.returns-clause-ordered
returns-clause-ordered g c = λ keeps.
    let end : c.loop-label.label ≡ 4 = omega arith in
    subst (λ (n : ℕ). g.D.SectorDevice.disk c.loop-label.device ≡ after_disk_calls (map (clear_tail c.args.geometry) (range_with_len 0 n)) (g.D.SectorDevice.disk c.args.device.now)) end (c.loop-label.invariant.ordered keeps)
