use Rattle.std.proofs.Common.{inl, inr, sym}
use Rattle.scripts.proofs.pool_commands.sync.Goals as goal

pub returns-then-is_refused-2 : goal.returns-then-is_refused-2
returns-then-is_refused-2 g c = inr (
  c.step-closed.result,
  c.step-closed.new.self,
  c.step-closed.ensures,
  sym c.if-is_refused.ensures,
  inl (c.step-quiesced.ensures, sym c.if-is_refused-2.ensures),
)

pub returns-then-is_refused-3 : goal.returns-then-is_refused-3
returns-then-is_refused-3 g c = inr (
  c.step-closed.result,
  c.step-closed.new.self,
  c.step-closed.ensures,
  sym c.if-is_refused.ensures,
  inr (
    c.step-quiesced.result,
    c.step-quiesced.new.self,
    c.step-quiesced.ensures,
    sym c.if-is_refused-2.ensures,
    inl (c.step-started.ensures, sym c.if-is_refused-3.ensures),
  ),
)

pub returns : goal.returns
returns g c = inr (
  c.step-closed.result,
  c.step-closed.new.self,
  c.step-closed.ensures,
  sym c.if-is_refused.ensures,
  inr (
    c.step-quiesced.result,
    c.step-quiesced.new.self,
    c.step-quiesced.ensures,
    sym c.if-is_refused-2.ensures,
    inr (
      c.step-started.result,
      c.step-started.new.self,
      c.step-started.ensures,
      sym c.if-is_refused-3.ensures,
      c.finish.ensures,
    ),
  ),
)
