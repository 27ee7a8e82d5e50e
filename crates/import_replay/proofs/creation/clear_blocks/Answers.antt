use Rattle.std.proofs.Common.{ℕ, ◌≡◌, ◌<◌, ◌+◌, ◌∙◌, map, replicate, refl, subst, arith}
use Rattle.std.specs.List.{range_with_len}
use Rattle.std.proofs.lemmas.List.{length-replicate}
use Rattle.base.specs.disk.Disk.{bytes_of}
use Rattle.base.specs.formats.Geometry.{block_address, block_count}
use Rattle.base.proofs.formats.Geometry.{block-writable}
use Rattle.base.specs.disk.DiskCalls.{after_disk_calls}
use Rattle.import_replay.specs.Cleared.{AreBlocksCleared, AreTailsCleared, zeros}
use Rattle.import_replay.specs.CreateCalls.{clear_block}
use Rattle.import_replay.proofs.CreateCalls.{block_of_zeros, next_made, next_refused, stops_with, write_done, write_refused}
use Rattle.import_replay.proofs.FirstWrites.{zeros_written}
use Rattle.import_replay.proofs.LabelWrites.{after_write, block_beside, block_next}
use Rattle.import_replay.proofs.OutsideWrites.{writes_on}
use Rattle.import_replay.proofs.creation.clear_blocks.Goals as goal

pub returns-in_err-write-clause-outside : goal.returns-in_err-write-clause-outside
returns-in_err-write-clause-outside g c = λ keeps start so_far.
    let long = g.met.D.SectorDevice.sized keeps c.loop-index.device ∙ c.loop-index.invariant.sized in
    writes_on c.args.geometry start (g.D.SectorDevice.disk c.loop-index.device) (g.D.SectorDevice.disk c.write.new.self) _ _ _ _ c.write.result c.requires.sized.geometry long
    (c.loop-index.invariant.outside keeps start so_far) (c.write.ensures.disk keeps) c.block_address.ensures.address
    (length-replicate {A = ℕ} 4096 0)
    (block-writable c.args.geometry c.loop-index.index (omega (arith, c.loop-index-test.true, c.blocks-index-end.ensures)))

pub returns-in_err-write-clause-ordered : goal.returns-in_err-write-clause-ordered
returns-in_err-write-clause-ordered g c = λ keeps.
    let x = c.in_err-write.field-0.0 in
    stops_with (map clear_block (range_with_len 0 (block_count c.args.geometry))) c.from_residual.result x (g.D.SectorDevice.disk c.args.device.now) (g.D.SectorDevice.disk c.write.new.self) c.from_residual.ensures.1
    (next_refused clear_block c.loop-index.index (block_count c.args.geometry) x (g.D.SectorDevice.disk c.args.device.now) (g.D.SectorDevice.disk c.loop-index.device) (g.D.SectorDevice.disk c.write.new.self) (omega (arith, c.loop-index-test.true, c.blocks-index-end.ensures)) (c.loop-index.invariant.ordered keeps)
    (write_refused x (g.D.SectorDevice.disk c.loop-index.device) (g.D.SectorDevice.disk c.write.new.self) _ (block_address c.loop-index.index) _ (zeros 4096) c.in_err-write.ensures.refusal (c.in_err-write.ensures.disk keeps) c.block_address.ensures.address block_of_zeros))

pub loop-index-preserved : goal.loop-index-preserved
loop-index-preserved g c =
    let below : c.loop-index.index < block_count c.args.geometry = omega (arith, c.loop-index-test.true, c.blocks-index-end.ensures) in
    record {
      sized = c.write.ensures.size ∙ c.loop-index.invariant.sized;
      size = c.write.ensures.size ∙ c.loop-index.invariant.size;
      refused = c.in_ok-write.ensures.count ∙ c.loop-index.invariant.refused;
      blocks = λ keeps.
          let long = g.met.D.SectorDevice.sized keeps c.loop-index.device ∙ c.loop-index.invariant.sized in
          after_write (AreBlocksCleared (c.loop-index.index + 1)) _ _ _ _ _ (c.in_ok-write.ensures.disk keeps) c.block_address.ensures.address
          (block_next c.args.geometry c.requires.sized.geometry _ long c.loop-index.index 4096 (replicate 4096 0) below (length-replicate {A = ℕ} 4096 0) refl (c.loop-index.invariant.blocks keeps));
      tails = λ keeps cleared.
          let long = g.met.D.SectorDevice.sized keeps c.loop-index.device ∙ c.loop-index.invariant.sized in
          after_write (AreTailsCleared c.args.geometry 4) _ _ _ _ _ (c.in_ok-write.ensures.disk keeps) c.block_address.ensures.address
          (block_beside c.args.geometry c.requires.sized.geometry _ long c.loop-index.index (replicate 4096 0) below (length-replicate {A = ℕ} 4096 0) (c.loop-index.invariant.tails keeps cleared));
      ordered = λ keeps.
          next_made clear_block c.loop-index.index (g.D.SectorDevice.disk c.args.device.now) (g.D.SectorDevice.disk c.loop-index.device) (g.D.SectorDevice.disk c.write.new.self) (c.loop-index.invariant.ordered keeps)
          (write_done (g.D.SectorDevice.disk c.loop-index.device) (g.D.SectorDevice.disk c.write.new.self) _ (block_address c.loop-index.index) _ (zeros 4096) (c.in_ok-write.ensures.disk keeps) c.block_address.ensures.address block_of_zeros);
      outside = λ keeps start so_far.
          let long = g.met.D.SectorDevice.sized keeps c.loop-index.device ∙ c.loop-index.invariant.sized in
          writes_on c.args.geometry start (g.D.SectorDevice.disk c.loop-index.device) (g.D.SectorDevice.disk c.write.new.self) _ _ _ _ c.write.result c.requires.sized.geometry long
          (c.loop-index.invariant.outside keeps start so_far) (c.write.ensures.disk keeps) c.block_address.ensures.address
          (length-replicate {A = ℕ} 4096 0)
          (block-writable c.args.geometry c.loop-index.index (omega (arith, c.loop-index-test.true, c.blocks-index-end.ensures)));
      first = λ keeps t v so_far.
          zeros_written (g.D.SectorDevice.disk c.loop-index.device) (g.D.SectorDevice.disk c.write.new.self) c.block_address.result 4096 t v (omega arith) (c.in_ok-write.ensures.disk keeps)
          (c.loop-index.invariant.first keeps t v so_far);
    }

pub returns-clause-cleared : goal.returns-clause-cleared
returns-clause-cleared g c = λ keeps cleared.
    let end : c.loop-index.index ≡ block_count c.args.geometry = omega (arith, c.blocks-index-end.ensures) in
    (c.loop-index.invariant.tails keeps cleared, subst (λ (n : ℕ). AreBlocksCleared n (bytes_of (g.D.SectorDevice.disk c.loop-index.device).now)) end (c.loop-index.invariant.blocks keeps))

pub returns-clause-ordered : goal.returns-clause-ordered
returns-clause-ordered g c = λ keeps.
    let end : c.loop-index.index ≡ block_count c.args.geometry = omega (arith, c.blocks-index-end.ensures) in
    subst (λ (n : ℕ). g.D.SectorDevice.disk c.loop-index.device ≡ after_disk_calls (map clear_block (range_with_len 0 n)) (g.D.SectorDevice.disk c.args.device.now)) end (c.loop-index.invariant.ordered keeps)
