use Rattle.std.proofs.Common.{List, ℕ, ◌∙◌, subst, sym}
use Rattle.base.specs.formats.Blocks.{IsBlock}
use Rattle.checked_blocks.specs.Sealing.{padded}
use Rattle.checked_blocks.proofs.block.seal.Goals as goal

pub returns-clause-block : goal.returns-clause-block
returns-clause-block c =
    let a = c.args in
    let P : List ℕ → Type 0 = λ bytes. IsBlock bytes a.kind a.guid a.group.0 a.number (padded a.payload.now) in
    subst P (sym c.with_check.ensures) c.in_ok-bytes.ensures.block
