use Rattle.std.proofs.Common.{◌≡◌, ◌∙◌, ◌<◌, ◌+◌, refl, sym, ap, Bool, List, false, true, get_or, length, arith}
use Rattle.std.proofs.lemmas.List.{length-set}
use Rattle.std.specs.FinSet as set
use Rattle.space.proofs.Counts.{len-given, one_taken}
use Rattle.space.proofs.Flags.{free_of-given, free_already}
use Rattle.space.proofs.Hints.{hint_given}
use Rattle.space.proofs.free_set.FreeSet.give.Goals as goal
use Rattle.space.proofs.free_set.FreeSet.give.Goals.{else-block-len-via-then-block-len+else-not-get, else-block-len-via-else-block-len}

pub overflow_add-self : goal.overflow_add-self
overflow_add-self c =
    let flags : List Bool = c.self.inside.flags in
    let is : get_or flags c.args.block false ≡ false = sym c.get.ensures ∙ c.if-not-get.true in
    let room = one_taken flags c.args.block (omega (arith, c.if-block-len.true, c.len.ensures)) is in
    omega (arith, room, c.self.invariant.count, c.self.invariant.small)

pub invariant_of-self : goal.invariant_of-self
invariant_of-self c =
    let flags : List Bool = c.self.inside.flags in
    let is : get_or flags c.args.block false ≡ false = sym c.get.ensures ∙ c.if-not-get.true in
    let low : c.args.block < length flags = omega (arith, c.if-block-len.true, c.len.ensures) in
    let same = ap length c.set.ensures ∙ length-set flags c.args.block true in
    record {
      small = omega (arith, same, c.self.invariant.small);
      count = ap (λ n. n + 1) c.self.invariant.count ∙ sym (rw c.set.ensures (ap (λ s. set.len s) (free_of-given flags c.args.block low) ∙ len-given flags c.args.block is));
      hint = rw (c.set.ensures, c.min-self-inside.ensures) (hint_given c.self.inside.hint c.args.block flags low c.self.invariant.hint);
      taken = c.self.invariant.taken;
      reserved = omega (arith, same, c.self.invariant.reserved);
    }

pub returns-then-not-get-clause-given : goal.returns-then-not-get-clause-given
returns-then-not-get-clause-given c = λ low.
    rw (← c.self.view_is) (rw (c.set.ensures, length-set c.self.inside.flags c.args.block true, free_of-given c.self.inside.flags c.args.block (omega (arith, c.if-block-len.true, c.len.ensures))) refl)

pub returns-else-block-len-clause-given : goal.returns-else-block-len-clause-given
returns-else-block-len-clause-given c = λ low. elim c.else-block-len.branch [
  | else-block-len-via-then-block-len+else-not-get w ↦
      (let is = sym w.get.ensures ∙ w.if-not-get.false in
      rw (← c.self.view_is) (rw (free_already c.self.inside.flags c.args.block (omega (arith, w.if-block-len.true, c.len.ensures)) is) refl))
  | else-block-len-via-else-block-len w ↦ absurd (let few = rw (← c.self.view_is) at low in omega (arith, few, w.if-block-len.false, c.len.ensures))
]
