use Rattle.std.proofs.Common.{map, ◌∙◌}
use Rattle.checked_blocks.specs.Prepared.{headed_bytes, with_digest}
use Rattle.checked_blocks.proofs.SealedBytes.{headed-sealed, map-same}
use Rattle.checked_blocks.proofs.sealing.seal_all.Goals as goal

pub returns-clause-sealed : goal.returns-clause-sealed
returns-clause-sealed c =
    let a = c.args in
    c.with_digests.ensures
    ∙ map-same (λ h. h.bytes.value) (λ p. headed_bytes a.kind a.guid a.group.0 p.number p.bytes.value) with_digest _ a.blocks.items c.in_ok-headed.ensures.headed
    ∙ (λ k. map (λ p. headed-sealed a.kind a.guid a.group.0 p.number p.bytes.value k) a.blocks.items)
