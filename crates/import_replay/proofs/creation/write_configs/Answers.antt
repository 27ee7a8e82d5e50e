use Rattle.std.proofs.Common.{ℕ, ◌≡◌, ◌+◌, ◌∙◌, List, length, map, ap, arith, inl, inr, subst, sym}
use Rattle.std.specs.List.{range_with_len}
use Rattle.base.specs.formats.Geometry.{config_place}
use Rattle.base.specs.disk.DiskCalls.{after_disk_calls}
use Rattle.labels.specs.Configs.{config_block}
use Rattle.import_replay.specs.Creations.{first_config}
use Rattle.import_replay.specs.Cleared.{IsCleared}
use Rattle.import_replay.specs.CreateCalls.{write_config}
use Rattle.import_replay.specs.Labelled.{HoldConfig}
use Rattle.import_replay.specs.OwnCreations.{AreConfigsHanded}
use Rattle.import_replay.proofs.CreateCalls.{next_made, next_refused, stops_with, write_done, write_refused}
use Rattle.import_replay.proofs.FirstWrites.{config_bytes_are, config_handed, first_written, written_later}
use Rattle.import_replay.proofs.LabelWrites.{after_write, first_config_block, config_next, config_beside}
use Rattle.import_replay.proofs.OutsideWrites.{label_writable, writes_on}
use Rattle.import_replay.proofs.creation.write_configs.Goals as goal

pub returns-in_err-write-clause-outside : goal.returns-in_err-write-clause-outside
returns-in_err-write-clause-outside g c = λ keeps start so_far.
    let long = g.met.D.SectorDevice.sized keeps c.loop-label.device ∙ c.loop-label.invariant.sized in
    writes_on c.args.geometry start (g.D.SectorDevice.disk c.loop-label.device) (g.D.SectorDevice.disk c.write.new.self) _ _ _ _ c.write.result c.requires.sized.geometry long
    (c.loop-label.invariant.outside keeps start so_far) (c.write.ensures.disk keeps) c.config_place.ensures.place
    (ap (λ (l : List ℕ). length l) c.as_bytes.ensures.bytes ∙ c.as_bytes.ensures.length)
    (label_writable c.args.geometry c.loop-label.label 16384 4096 c.loop-label-test.true (omega arith) (omega arith))

pub returns-in_err-write-clause-ordered : goal.returns-in_err-write-clause-ordered
returns-in_err-write-clause-ordered g c = λ keeps.
    let x = c.in_err-write.field-0.0 in
    stops_with (map (write_config c.args.geometry (first_config c.args.name c.args.guid c.args.geometry)) (range_with_len 0 4)) c.from_residual.result x (g.D.SectorDevice.disk c.args.device.now) (g.D.SectorDevice.disk c.write.new.self) c.from_residual.ensures.1
    (next_refused (write_config c.args.geometry (first_config c.args.name c.args.guid c.args.geometry)) c.loop-label.label 4 x (g.D.SectorDevice.disk c.args.device.now) (g.D.SectorDevice.disk c.loop-label.device) (g.D.SectorDevice.disk c.write.new.self) c.loop-label-test.true (c.loop-label.invariant.ordered keeps)
    (write_refused x (g.D.SectorDevice.disk c.loop-label.device) (g.D.SectorDevice.disk c.write.new.self) _ (config_place c.args.geometry c.loop-label.label) _ (config_block (first_config c.args.name c.args.guid c.args.geometry)) c.in_err-write.ensures.refusal (c.in_err-write.ensures.disk keeps) c.config_place.ensures.place (config_bytes_are _ _ c.args.name _ c.args.guid c.size.result c.args.geometry c.as_bytes.ensures.bytes c.encode-block.ensures.bytes c.new-config.ensures c.size.ensures.size)))

pub loop-label-preserved : goal.loop-label-preserved
loop-label-preserved g c = record {
  sized = c.write.ensures.size ∙ c.loop-label.invariant.sized;
  size = c.write.ensures.size ∙ c.loop-label.invariant.size;
  refused = c.in_ok-write.ensures.count ∙ c.loop-label.invariant.refused;
  cleared = λ keeps cleared.
      let long = g.met.D.SectorDevice.sized keeps c.loop-label.device ∙ c.loop-label.invariant.sized in
      after_write (IsCleared c.args.geometry) _ _ _ _ _ (c.in_ok-write.ensures.disk keeps) c.config_place.ensures.place
      (config_beside c.args.geometry c.requires.sized.geometry _ long c.loop-label.label _ c.loop-label-test.true (ap (λ (l : List ℕ). length l) c.as_bytes.ensures.bytes ∙ c.as_bytes.ensures.length) (c.loop-label.invariant.cleared keeps cleared));
  configs = λ keeps.
      let long = g.met.D.SectorDevice.sized keeps c.loop-label.device ∙ c.loop-label.invariant.sized in
      after_write (HoldConfig c.args.geometry (c.loop-label.label + 1) (first_config c.args.name c.args.guid c.args.geometry)) _ _ _ _ _ (c.in_ok-write.ensures.disk keeps) c.config_place.ensures.place
      (config_next c.args.geometry c.requires.sized.geometry _ long c.loop-label.label _ _ c.loop-label-test.true (ap (λ (l : List ℕ). length l) c.as_bytes.ensures.bytes ∙ c.as_bytes.ensures.length)
      (first_config_block _ _ c.args.name _ c.args.guid c.size.result c.args.geometry c.as_bytes.ensures.bytes c.new-config.ensures c.size.ensures.size c.encode-block.ensures.config) (c.loop-label.invariant.configs keeps));
  ordered = λ keeps.
      next_made (write_config c.args.geometry (first_config c.args.name c.args.guid c.args.geometry)) c.loop-label.label (g.D.SectorDevice.disk c.args.device.now) (g.D.SectorDevice.disk c.loop-label.device) (g.D.SectorDevice.disk c.write.new.self) (c.loop-label.invariant.ordered keeps)
      (write_done (g.D.SectorDevice.disk c.loop-label.device) (g.D.SectorDevice.disk c.write.new.self) _ (config_place c.args.geometry c.loop-label.label) _ (config_block (first_config c.args.name c.args.guid c.args.geometry)) (c.in_ok-write.ensures.disk keeps) c.config_place.ensures.place (config_bytes_are _ _ c.args.name _ c.args.guid c.size.result c.args.geometry c.as_bytes.ensures.bytes c.encode-block.ensures.bytes c.new-config.ensures c.size.ensures.size));
  outside = λ keeps start so_far.
      let long = g.met.D.SectorDevice.sized keeps c.loop-label.device ∙ c.loop-label.invariant.sized in
      writes_on c.args.geometry start (g.D.SectorDevice.disk c.loop-label.device) (g.D.SectorDevice.disk c.write.new.self) _ _ _ _ c.write.result c.requires.sized.geometry long
      (c.loop-label.invariant.outside keeps start so_far) (c.write.ensures.disk keeps) c.config_place.ensures.place
      (ap (λ (l : List ℕ). length l) c.as_bytes.ensures.bytes ∙ c.as_bytes.ensures.length)
      (label_writable c.args.geometry c.loop-label.label 16384 4096 c.loop-label-test.true (omega arith) (omega arith));
  first = λ keeps t v same so_far.
      first_written (g.D.SectorDevice.disk c.loop-label.device) (g.D.SectorDevice.disk c.write.new.self) _ t _ v (c.in_ok-write.ensures.disk keeps)
      (inr (inl (config_bytes_are _ _ c.args.name _ c.args.guid c.size.result c.args.geometry c.as_bytes.ensures.bytes c.encode-block.ensures.bytes c.new-config.ensures c.size.ensures.size ∙ sym same)))
      (c.loop-label.invariant.first keeps t v same so_far);
  handed = λ keeps t began.
      let long = g.met.D.SectorDevice.sized keeps c.loop-label.device ∙ c.loop-label.invariant.sized in
      let old = g.D.SectorDevice.disk c.loop-label.device in
      let new = g.D.SectorDevice.disk c.write.new.self in
      let so_far = c.loop-label.invariant.handed keeps t began in (
        written_later old new _ t _ (c.in_ok-write.ensures.disk keeps) so_far.0,
        config_handed c.args.geometry c.requires.sized.geometry t c.loop-label.label old new long _ _ _ (c.in_ok-write.ensures.disk keeps)
            (config_bytes_are _ _ c.args.name _ c.args.guid c.size.result c.args.geometry c.as_bytes.ensures.bytes c.encode-block.ensures.bytes c.new-config.ensures c.size.ensures.size) c.loop-label-test.true so_far.0
            (ap (λ (l : List ℕ). length l) c.as_bytes.ensures.bytes ∙ c.as_bytes.ensures.length) c.config_place.ensures.place so_far.1,
      );
}

pub returns-clause-handed : goal.returns-clause-handed
returns-clause-handed g c = λ keeps t began.
    let end : c.loop-label.label ≡ 4 = omega arith in
    subst (λ (n : ℕ). AreConfigsHanded c.args.geometry n t (config_block (first_config c.args.name c.args.guid c.args.geometry)) (g.D.SectorDevice.disk c.loop-label.device)) end (c.loop-label.invariant.handed keeps t began).1

pub returns-clause-ordered : goal.returns-clause-ordered
returns-clause-ordered g c = λ keeps.
    let end : c.loop-label.label ≡ 4 = omega arith in
    subst (λ (n : ℕ). g.D.SectorDevice.disk c.loop-label.device ≡ after_disk_calls (map (write_config c.args.geometry (first_config c.args.name c.args.guid c.args.geometry)) (range_with_len 0 n)) (g.D.SectorDevice.disk c.args.device.now)) end (c.loop-label.invariant.ordered keeps)
