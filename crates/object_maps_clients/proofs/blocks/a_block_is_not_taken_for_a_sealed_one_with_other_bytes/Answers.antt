use Rattle.std.proofs.Common.{◌≡◌, ◌∙◌, refl, sym, arith}
use Rattle.std.proofs.lemmas.Result.{on_ok_weaker}
use Rattle.base.proofs.tree.Strips.{indirect-count}
use Rattle.base.specs.disk.Disk.{bytes_of}
use Rattle.object_maps_clients.proofs.blocks.a_block_is_not_taken_for_a_sealed_one_with_other_bytes.Goals as goal

pub read_block-requires-clause-place : goal.read_block-requires-clause-place
read_block-requires-clause-place g c = (omega (arith, indirect-count), omega arith)

pub returns : goal.returns
returns g c =
    on_ok_weaker c.read_block.result (λ opens.
    let same : 4 ≡ 5 = sym c.requires.indirect ∙ (opens c.requires.keeps).block.kind_is in
    absurd (omega (arith, same))) (c.read_block.ensures.opens (bytes_of (g.D.SectorDevice.disk c.args.device.now).now) (λ k. refl))
