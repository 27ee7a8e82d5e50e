use Rattle.std.proofs.Common.{◌≡◌, List, ℕ, ◌++◌, drop, length, replicate, take, ap, arith, sym, subst, ◌∙◌, append_assoc}
use Rattle.std.proofs.lemmas.List.{length-replicate, length-take-le}
use Rattle.sha2.specs.Sha256.{sha256}
use Rattle.sha2.proofs.Facts256.{length-sha256}
use Rattle.base.specs.formats.Blocks.{IsSealed}
use Rattle.base.specs.disk.Disk.{put}
use Rattle.checked_blocks.proofs.Placed.{put-between}
use Rattle.checked_blocks.proofs.SealedBlocks.{clear-parts, clear-sealed}
use Rattle.space_maps.proofs.node.with_check.Goals as goal

whole : (c : goal.After-bytes-2-1) → c.write_bytes.new.bytes ≡ take 32 c.args.bytes ++ sha256 c.args.bytes ++ drop 64 c.args.bytes
whole c =
    let bytes : List ℕ = c.args.bytes in
    let check : List ℕ = c.args.check in
    let long : length check ≡ 32 = ap (λ (l : List ℕ). length l) c.requires.check ∙ length-sha256 bytes in
    c.write_bytes.ensures
    ∙ ap (λ (l : List ℕ). put 32 check l) (clear-parts bytes c.requires.clear)
    ∙ put-between 32 check (take 32 bytes) (replicate 32 0) (drop 64 bytes) (length-take-le 32 bytes (omega arith)) (length-replicate {A = ℕ} 32 0 ∙ sym long)
    ∙ sym (append_assoc (take 32 bytes) check (drop 64 bytes))
    ∙ ap (λ (l : List ℕ). take 32 bytes ++ l ++ drop 64 bytes) c.requires.check

pub invariant_of-result : goal.invariant_of-result
invariant_of-result c = subst IsSealed (sym (whole c)) (clear-sealed c.args.bytes (omega arith) c.requires.clear)

pub returns : goal.returns
returns c = whole c
