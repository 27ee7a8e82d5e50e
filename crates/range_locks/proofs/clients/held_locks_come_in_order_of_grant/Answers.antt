use Rattle.std.proofs.Common.{◌∙◌, List, map, ap, sym}
use Rattle.std.proofs.lemmas.Simd.{map-map}
use Rattle.base.specs.steps.Locks.{Grant}
use Rattle.range_locks.specs.Locks.{grant_of}
use Rattle.range_locks.proofs.clients.held_locks_come_in_order_of_grant.Goals as goal

pub returns : goal.returns
returns c =
    sym (map-map (λ (g : Grant). g.id) grant_of c.held.result) ∙ ap (λ (l : List Grant). map (λ (g : Grant). g.id) l) (c.held.ensures.locks ∙ c.requires)
