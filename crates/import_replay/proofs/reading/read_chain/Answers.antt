use Rattle.std.proofs.Common.{ℕ, List, subst, ◌∙◌}
use Rattle.std.specs.Prelude.{All, IfOk}
use Rattle.base.specs.disk.Disk.{bytes_of}
use Rattle.base.specs.formats.Blocks.{Frame}
use Rattle.uberblocks.specs.Slots.{fields_of}
use Rattle.intent_log.specs.Chains.{IsSoundPiece}
use Rattle.import_replay.proofs.Configs.{ok_weaker}
use Rattle.import_replay.proofs.ReadPools.{is_read_chain}
use Rattle.import_replay.proofs.reading.read_chain.Goals as goal

pub returns-clause-chain : goal.returns-clause-chain
returns-clause-chain g c = λ keeps.
    let image : List ℕ = bytes_of (g.D.SectorDevice.disk c.args.device.now).now in
    ok_weaker c.chain.result _ _
    (λ pieces is. is_read_chain image c.args.geometry _ (fields_of c.args.found.now.uberblock) pieces.items (g.met.D.SectorDevice.sized keeps c.args.device.now ∙ c.requires.sized.size) c.frame_of.ensures is)
    (c.chain.ensures.chain keeps)

pub returns-clause-sound : goal.returns-clause-sound
returns-clause-sound g c = subst (λ (f : Frame). IfOk c.chain.result (λ pieces. All (IsSoundPiece f.blocks) pieces.items)) c.frame_of.ensures c.chain.ensures.sound
