use Rattle.std.proofs.Common.{◌≤◌, IfSome, sym, subst, arith}
use Rattle.range_locks.specs.declared.parts.Part.{Part}
use Rattle.range_locks.proofs.Updates.{end_fewer, end_gone}
use Rattle.range_locks.proofs.parts.Parts.remove_end.Goals as goal
use Rattle.range_locks.proofs.parts.Parts.remove_end.Goals.{in_default-via-in-Some+else-part-gt1, in_default-via-in_default}

pub returns-in-Some : goal.returns-in-Some
returns-in-Some c = λ f is.
    end_fewer c.args.self.now.table c.replace.new.self c.args.at c.in-Some.part c.in-Some.part f is (sym c.in-Some.ensures) c.if-part-gt1.true (sym c.in-Some.ensures) c.replace.ensures

pub returns-in_default : goal.returns-in_default
returns-in_default c = λ f is. elim c.in_default.branch [
  | in_default-via-in-Some+else-part-gt1 w ↦
      end_gone c.args.self.now.table c.remove.new.self c.args.at f is
      (subst (λ o. IfSome o (λ (p : Part). p.ends ≤ 1)) w.in-Some.ensures (omega (arith, w.if-part-gt1.false))) c.remove.ensures
  | in_default-via-in_default w ↦
      end_gone c.args.self.now.table c.remove.new.self c.args.at f is
      (subst (λ o. IfSome o (λ (p : Part). p.ends ≤ 1)) w.in_default.ensures tt) c.remove.ensures
]
