use Rattle.std.proofs.Common.{List, ℕ, drop, replicate, ap, ◌∙◌, arith, length-drop}
use Rattle.std.proofs.lemmas.List.{length-replicate}
use Rattle.base.specs.formats.Blocks.{block_head_bytes}
use Rattle.base.specs.formats.Fields.{part}
use Rattle.checked_blocks.proofs.SealedBytes.{headed-is}
use Rattle.checked_blocks.proofs.SealedBlocks.{check-part, length-head_bytes, sealed_block-is}
use Rattle.checked_blocks.proofs.sealing.write_headed.Goals as goal

pub returns-clause-headed : goal.returns-clause-headed
returns-clause-headed c =
    let a = c.args in
    headed-is (block_head_bytes a.kind a.guid a.group a.number) a.bytes.now c.write_head.new.bytes c.write_bytes.new.bytes
    (length-head_bytes a.kind a.guid a.group a.number) (omega arith) c.write_head.ensures.head c.write_bytes.ensures

pub returns-clause-clear : goal.returns-clause-clear
returns-clause-clear c =
    let a = c.args in
    ap (λ (l : List ℕ). part l 32 32) (returns-clause-headed c)
    ∙ check-part (block_head_bytes a.kind a.guid a.group a.number) (replicate 32 0) (drop 64 a.bytes.now)
    (length-head_bytes a.kind a.guid a.group a.number) (length-replicate {A = ℕ} 32 0)

pub returns-clause-block : goal.returns-clause-block
returns-clause-block c =
    let a = c.args in
    sealed_block-is a.kind a.guid a.group a.number (drop 64 a.bytes.now) (omega arith) (omega arith) (omega arith) (omega arith) (length-drop 64 a.bytes.now ∙ omega arith)
