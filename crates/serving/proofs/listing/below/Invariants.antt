use Rattle.std.specs.Prelude.{◌≡◌, ◌≤◌, ◌+◌, ◌++◌, vec_len, vec_capacity}
use Rattle.std.specs.Vec.Iter.{into_iter_items, into_iter_len}
use Rattle.serving.specs.Calls.{listed_below}
use Rattle.serving.proofs.listing.below.Given as goal

-- there is room for each object that is left, and those below the number follow the ones so far
abbrev pub invariant-loop-object : goal.invariant-loop-object
invariant-loop-object l = goal.iterator-loop-object.can_next l.object-iterator × goal.iterator-loop-object.is_finite l.object-iterator
    × (vec_len l.listed + into_iter_len l.object-iterator ≤ vec_capacity l.listed)
    × (listed_below l.past.0 l.fn.objects.items ≡ l.listed.items ++ listed_below l.past.0 (into_iter_items l.object-iterator))
