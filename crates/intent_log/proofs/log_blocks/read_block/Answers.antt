use Rattle.std.proofs.Common.{◌≡◌, refl, List, ℕ, subst}
use Rattle.base.specs.disk.Disk.{bytes_of}
use Rattle.base.specs.formats.Chain.{LogBlock, IsLogPayload}
use Rattle.intent_log.specs.Chains.{IsBlockAt}
use Rattle.intent_log.proofs.LogBlocks.{found_also, is_block_of, none_opens}
use Rattle.intent_log.proofs.log_blocks.read_block.Goals as goal

pub returns-in_default-clause-none : goal.returns-in_default-clause-none
returns-in_default-clause-none g c = λ keeps.
    none_opens _ c.args.frame.now c.args.header.now c.expected.result c.read.new.into c.expected.ensures (c.in_ok-read.ensures.bytes keeps) (λ x. let no = c.in_default.ensures.ok.1 x in cc)

pub returns-clause-read : goal.returns-clause-read
returns-clause-read g c = λ keeps.
    let image : List ℕ = bytes_of (g.D.SectorDevice.disk c.args.device.now).now in
    let h = c.args.header.now in
    found_also (λ (b : LogBlock). IsLogPayload c.as_slice.result.now h.import_number b) (λ (b : LogBlock). b.address ≡ h.address) (λ (b : LogBlock). IsBlockAt image c.args.frame.now h b)
    c.read_payload.result c.read_payload.ensures.read c.read_payload.ensures.address
    (λ b fields at. is_block_of image c.args.frame.now h c.expected.result c.read.new.into c.in-Ok.payload.bytes c.in-Ok.payload.group b c.expected.ensures
    (c.if-not-is_block_address.ensures.0 refl) (c.in_ok-read.ensures.bytes keeps) c.in-Ok.ensures.opened
    (subst (λ (l : List ℕ). IsLogPayload l h.import_number b) c.as_slice.ensures.bytes fields) at)
