use Rattle.std.proofs.Common.{◌≡◌, ◌+◌, ◌++◌, ℕ, List, arith, length, subst}
use Rattle.std.specs.Int.{to_le_bytes, w16, w32}
use Rattle.frames.specs.Limits.{frame_head, frame_version, unopened_kind}
use Rattle.frames.specs.Openings.{items_of_unopened, number_of_unopened}
use Rattle.records.specs.Writing.{AppendsBytes}
use Rattle.frames.proofs.Appended.{appends_both}
use Rattle.frames.proofs.opening.write_unopened.Goals as goal

pub returns : goal.returns
returns c =
    let items : List ℕ = items_of_unopened c.args.refusal c.args.system_error c.args.cause.now in
    let same : c.args.size ≡ frame_head + length items = omega (arith, c.requires.size) in
    let rest : List ℕ = to_le_bytes w16 frame_version ++ to_le_bytes w16 unopened_kind ++ to_le_bytes w32 (number_of_unopened c.args.refusal) in
    let head : AppendsBytes c.args.out.now c.write_head.new.out (to_le_bytes w32 c.args.size ++ rest) = rw (← c.number.ensures) c.write_head.ensures in
    let all = appends_both c.args.out.now c.write_head.new.out c.write_items.new.out (to_le_bytes w32 c.args.size ++ rest) items head c.write_items.ensures in
    subst (λ (n : ℕ). AppendsBytes c.args.out.now c.write_items.new.out (to_le_bytes w32 n ++ rest ++ items)) same all
