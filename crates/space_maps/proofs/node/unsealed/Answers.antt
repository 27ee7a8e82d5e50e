use Rattle.std.proofs.Common.{◌≡◌, ◌+◌, ◌-◌, List, ℕ, [], ◌++◌, length, replicate, ap, subst, sym, ◌∙◌, arith, refl}
use Rattle.std.proofs.lemmas.List.{append-nil}
use Rattle.base.specs.formats.Blocks.{IsBlock, block_head_bytes}
use Rattle.base.specs.disk.Disk.{put}
use Rattle.checked_blocks.specs.Sealing.{zeros}
use Rattle.checked_blocks.proofs.SealedBlocks.{length-head_bytes, sealed_block-is, unsealed-parts}
use Rattle.checked_blocks.proofs.Placed.{put-payload}
use Rattle.space_maps.proofs.node.unsealed.Goals as goal

-- a head and a whole payload among zeros
laid : (head payload first second : List ℕ) → length head ≡ 32 → length payload ≡ 4032
    → first ≡ put 0 head (zeros 4096) → second ≡ put 64 payload first → second ≡ head ++ (replicate 32 0 ++ payload)
unfolding zeros
laid head payload first second lh long e1 e2 =
    e2 ∙ ap (λ (l : List ℕ). put 64 payload l) e1 ∙ put-payload 32 4096 0 head payload (zeros 4096) lh refl (omega (arith, long))
    ∙ ap (λ (l : List ℕ). head ++ (replicate 32 0 ++ l)) (append-nil payload)

whole : (c : goal.After-bytes-4-1) → c.write_bytes.new.bytes ≡ block_head_bytes c.args.kind c.args.guid c.args.group.0 c.args.number ++ (replicate 32 0 ++ c.args.payload.now)
whole c =
    let a = c.args in
    laid (block_head_bytes a.kind a.guid a.group.0 a.number) a.payload.now c.write_head.new.bytes c.write_bytes.new.bytes
    (length-head_bytes a.kind a.guid a.group.0 a.number) (c.told-payload)
    (c.write_head.ensures.head ∙ ap (λ (l : List ℕ). put 0 (block_head_bytes a.kind a.guid a.group.0 a.number) l) c.zero_block-bytes.ensures)
    c.write_bytes.ensures

pub returns-clause-clear : goal.returns-clause-clear
returns-clause-clear c =
    let a = c.args in
    (unsealed-parts c.write_bytes.new.bytes (block_head_bytes a.kind a.guid a.group.0 a.number) a.payload.now (length-head_bytes a.kind a.guid a.group.0 a.number) (whole c)).0

pub returns-clause-whole : goal.returns-clause-whole
returns-clause-whole c =
    let a = c.args in
    (unsealed-parts c.write_bytes.new.bytes (block_head_bytes a.kind a.guid a.group.0 a.number) a.payload.now (length-head_bytes a.kind a.guid a.group.0 a.number) (whole c)).1

pub returns-clause-block : goal.returns-clause-block
returns-clause-block c =
    let a = c.args in
    subst (λ (bytes : List ℕ). IsBlock bytes a.kind a.guid a.group.0 a.number a.payload.now) (sym (returns-clause-whole c))
    (sealed_block-is a.kind a.guid a.group.0 a.number a.payload.now (omega arith) (omega arith) c.write_head.ensures.group_fits (omega arith) c.told-payload)
