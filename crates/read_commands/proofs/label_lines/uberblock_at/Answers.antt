use Rattle.std.proofs.Common.{◌≡◌, ◌+◌, ◌-◌, ◌*◌, ℕ, List, ap, arith, subst, ◌∙◌}
use Rattle.std.specs.Prelude.{IfNone, IfSome}
use Rattle.base.specs.formats.Fields.{part}
use Rattle.base.specs.formats.Uberblocks.{IsUberblock}
use Rattle.read_commands.specs.ReadLabels.{slots_read}
use Rattle.uberblocks.specs.Slots.{HoldsNoUberblock, fields_of}
use Rattle.read_commands.proofs.label_lines.uberblock_at.Goals as goal

pub returns-clause-some : goal.returns-clause-some
returns-clause-some c =
    let at : ℕ = 131072 * c.args.label + 1024 * c.args.position in
    let size : at + 1024 - at ≡ 1024 = omega arith in
    let same : c.copy_from_slice.new.self ≡ slots_read c.args.ring.now c.args.label c.args.position = c.copy_from_slice.ensures.after ∙ ap (λ n. part c.args.ring.now at n) size in
    subst (λ (l : List ℕ). IfSome c.decode.result (λ u. IsUberblock l (fields_of u))) same c.decode.ensures.uberblock

pub returns-clause-none : goal.returns-clause-none
returns-clause-none c =
    let at : ℕ = 131072 * c.args.label + 1024 * c.args.position in
    let size : at + 1024 - at ≡ 1024 = omega arith in
    let same : c.copy_from_slice.new.self ≡ slots_read c.args.ring.now c.args.label c.args.position = c.copy_from_slice.ensures.after ∙ ap (λ n. part c.args.ring.now at n) size in
    subst (λ (l : List ℕ). IfNone c.decode.result (HoldsNoUberblock l)) same c.decode.ensures.none
