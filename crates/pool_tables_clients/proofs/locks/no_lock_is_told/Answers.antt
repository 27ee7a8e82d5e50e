use Rattle.std.proofs.Common.{◌∙◌, ap, length, sym}
use Rattle.std.proofs.lemmas.List.{length-map}
use Rattle.range_locks.specs.Locks.{grant_of}
use Rattle.pool_tables_clients.proofs.locks.no_lock_is_told.Goals as goal

pub returns : goal.returns
returns c = sym (length-map c.held.result grant_of) ∙ ap length (c.held.ensures.locks ∙ c.requires)
