use Rattle.std.proofs.Common.{map, ap, ◌∙◌}
use Rattle.sha2.specs.Sha256.{sha256}
use Rattle.checked_blocks.proofs.SealedBytes.{map-same}
use Rattle.checked_blocks.proofs.sealing.digests_of.Goals as goal

pub returns : goal.returns
returns c =
    c.in_ok-digests.ensures
    ∙ ap (λ ms. map (λ m. sha256 m.now) ms) c.as_slice.ensures.value
    ∙ map-same (λ m. m.now) (λ h. h.bytes.value) sha256 _ c.args.blocks.now c.in_ok-messages.ensures
