use Rattle.std.proofs.Common.{◌≡◌, ◌+◌, ◌*◌, ℕ, Bool, true, false, cond, ap, ◌∙◌, arith}
use Rattle.base.specs.formats.Geometry.{block_address}
use Rattle.base.specs.steps.Locks.{is_in}
use Rattle.space.specs.FreeSets.{is_free}
use Rattle.space_maps.proofs.RegionBits.{bits_in_turn}
use Rattle.space_maps.proofs.regions.bits_after.Goals as goal

pub returns-clause-bits : goal.returns-clause-bits
returns-clause-bits c = λ k low.
    let x : ℕ = block_address (32256 * c.args.index + k) in
    let free : Bool = is_free (32256 * c.args.index + k) c.args.free.now in
    let taken : Bool = is_in x c.args.taken.now in
    let freed : Bool = is_in x c.args.freed.now in
    let log : Bool = is_in x c.args.log.now in
    c.put_blocks-3.ensures.bits k low
    ∙ ap (λ (b : Bool). cond taken false b) (c.put_blocks-2.ensures.bits k low
    ∙ ap (λ (b : Bool). cond freed true b) (c.put_blocks.ensures.bits k low
    ∙ ap (λ (b : Bool). cond log true b) (c.free_bits-payload.ensures.bits k low)))
    ∙ bits_in_turn free log freed taken
