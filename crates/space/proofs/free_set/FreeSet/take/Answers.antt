use Rattle.std.proofs.Common.{◌≡◌, ◌∙◌, ◌-◌, refl, sym, ap, Bool, List, false, true, length, get_or, arith}
use Rattle.std.proofs.lemmas.List.{length-set}
use Rattle.std.specs.FinSet as set
use Rattle.space.proofs.Counts.{len-taken, one_free}
use Rattle.space.proofs.Flags.{free_of-taken, taken_already}
use Rattle.space.proofs.Hints.{still_taken}
use Rattle.space.proofs.free_set.FreeSet.take.Goals as goal

pub returns-then-not-get : goal.returns-then-not-get
returns-then-not-get c =
    let is = sym c.get.ensures ∙ c.if-not-get.true in
    rw (← c.self.view_is) (rw (taken_already c.self.inside.flags c.args.block is) refl)

pub overflow_sub-self : goal.overflow_sub-self
overflow_sub-self c =
    let one = one_free c.self.inside.flags c.args.block (sym c.get.ensures ∙ c.if-not-get.false) in
    omega (arith, one, c.self.invariant.count)

pub invariant_of-self : goal.invariant_of-self
invariant_of-self c =
    let flags : List Bool = c.self.inside.flags in
    let is : get_or flags c.args.block false ≡ true = sym c.get.ensures ∙ c.if-not-get.false in
    let same = ap length c.clear.ensures ∙ length-set flags c.args.block false in
    record {
      small = omega (arith, same, c.self.invariant.small);
      count = ap (λ n. n - 1) c.self.invariant.count ∙ sym (rw c.clear.ensures (ap (λ s. set.len s) (free_of-taken flags c.args.block) ∙ len-taken flags c.args.block is));
      hint = c.raised-self-inside.ensures;
      taken = c.self.invariant.taken;
      reserved = omega (arith, same, c.self.invariant.reserved);
    }

pub raised-self-inside-requires : goal.raised-self-inside-requires
raised-self-inside-requires c = rw c.clear.ensures (still_taken c.self.inside.hint c.args.block c.self.inside.flags c.self.invariant.hint.below)

pub returns : goal.returns
returns c = rw (← c.self.view_is) (rw (c.clear.ensures, length-set c.self.inside.flags c.args.block false, free_of-taken c.self.inside.flags c.args.block) refl)
