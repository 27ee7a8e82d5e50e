use Rattle.std.proofs.Common.{◌∙◌, ap, refl}
use Rattle.base.specs.declared.status.Status.{Status}
use Rattle.pool_tables_clients.proofs.reads.reserved_blocks_are_not_available.Goals as goal

pub returns : goal.returns
returns c = ap (λ (s : Status). s.available) c.status.ensures ∙ (rw (c.requires.free, c.requires.reserved, c.requires.idle) refl)
