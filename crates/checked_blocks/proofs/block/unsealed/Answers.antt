use Rattle.std.proofs.Common.{◌≡◌, ◌+◌, ◌-◌, List, ℕ, ◌++◌, length, replicate, ap, subst, sym, ◌∙◌, arith, refl}
use Rattle.std.proofs.lemmas.List.{length-append, length-replicate}
use Rattle.base.specs.formats.Blocks.{IsBlock, block_head_bytes}
use Rattle.base.specs.disk.Disk.{put}
use Rattle.checked_blocks.specs.Sealing.{padded, zeros}
use Rattle.checked_blocks.proofs.SealedBlocks.{length-head_bytes, sealed_block-is, unsealed-parts}
use Rattle.checked_blocks.proofs.Placed.{put-payload}
use Rattle.checked_blocks.proofs.block.unsealed.Goals as goal

-- a head and a payload among zeros
laid : (head payload first second : List ℕ) (rest : ℕ) → length head ≡ 32 → length payload + rest ≡ 4032
    → first ≡ put 0 head (zeros 4096) → second ≡ put 64 payload first → second ≡ head ++ (replicate 32 0 ++ (payload ++ replicate rest 0))
unfolding zeros
laid head payload first second rest lh fits e1 e2 =
    e2 ∙ ap (λ (l : List ℕ). put 64 payload l) e1 ∙ put-payload 32 4096 rest head payload (zeros 4096) lh refl (omega (arith, fits))

-- the bytes are the head, zeros and the payload
whole : (c : goal.After-bytes-4-1) → c.write_bytes.new.bytes ≡ block_head_bytes c.args.kind c.args.guid c.args.group.0 c.args.number ++ (replicate 32 0 ++ padded c.args.payload.now)
whole c =
    let a = c.args in
    laid (block_head_bytes a.kind a.guid a.group.0 a.number) a.payload.now c.write_head.new.bytes c.write_bytes.new.bytes
    (4032 - length a.payload.now) (length-head_bytes a.kind a.guid a.group.0 a.number) (omega arith)
    (c.write_head.ensures.head ∙ ap (λ (l : List ℕ). put 0 (block_head_bytes a.kind a.guid a.group.0 a.number) l) c.zero_block-bytes.ensures)
    c.write_bytes.ensures

pub returns-clause-clear : goal.returns-clause-clear
returns-clause-clear c =
    let a = c.args in
    (unsealed-parts c.write_bytes.new.bytes (block_head_bytes a.kind a.guid a.group.0 a.number) (padded a.payload.now) (length-head_bytes a.kind a.guid a.group.0 a.number) (whole c)).0

pub returns-clause-whole : goal.returns-clause-whole
returns-clause-whole c =
    let a = c.args in
    (unsealed-parts c.write_bytes.new.bytes (block_head_bytes a.kind a.guid a.group.0 a.number) (padded a.payload.now) (length-head_bytes a.kind a.guid a.group.0 a.number) (whole c)).1

pub returns-clause-block : goal.returns-clause-block
returns-clause-block c =
    let a = c.args in
    let payload : List ℕ = padded a.payload.now in
    let long : length payload ≡ 4032 = length-append a.payload.now (replicate (4032 - length a.payload.now) 0) ∙ omega (arith, length-replicate {A = ℕ} (4032 - length a.payload.now) 0) in
    subst (λ (bytes : List ℕ). IsBlock bytes a.kind a.guid a.group.0 a.number payload) (sym (returns-clause-whole c))
    (sealed_block-is a.kind a.guid a.group.0 a.number payload (omega arith) (omega arith) c.write_head.ensures.group_fits (omega arith) long)
