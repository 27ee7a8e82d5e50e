use Rattle.std.proofs.Common.{sym, ◌∙◌}
use Rattle.base.proofs.formats.NameTexts.{name_is_text}
use Rattle.base.proofs.pool_name.PoolName.new.Goals as goal

pub returns-in_default-clause-no_name : goal.returns-in_default-clause-no_name
returns-in_default-clause-no_name c = absurd (c.in_default.ensures.cases.0 (name_is_text c.args.bytes.now (sym c.is_name.ensures ∙ c.if-not-is_name.false)))
