use Rattle.std.proofs.Common.{List, ℕ, map, ap, sym, ◌∙◌}
use Rattle.sha2.specs.Sha256.{sha256}
use Rattle.checked_blocks.specs.Sealing.{hashed_bytes}
use Rattle.checked_blocks.proofs.SealedBytes.{map-then}
use Rattle.checked_blocks.proofs.opening.digests_of.Goals as goal

pub returns : goal.returns
returns c =
    c.in_ok-digests.ensures
    ∙ ap (λ ms. map (λ m. sha256 m.now) ms) c.as_slice-2.ensures.value
    ∙ sym (map-then (λ m. m.now) sha256 c.in_ok-messages.messages.items)
    ∙ ap (λ (l : List (List ℕ)). map sha256 l) (c.in_ok-messages.ensures ∙ c.as_slice.ensures.value ∙ c.in_ok-bytes.ensures)
    ∙ map-then (λ r. hashed_bytes r.block.now) sha256 c.args.reads.now
