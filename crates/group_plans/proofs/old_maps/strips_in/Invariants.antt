use Rattle.std.proofs.Common.{◌≡◌, ◌≤◌, vec_capacity, vec_len}
use Rattle.base.specs.tree.Places.{strip_start}
use Rattle.group_plans.proofs.OldMaps.{AreFirst}
use Rattle.group_plans.proofs.old_maps.strips_in.Given as goal

-- so many pointers of the payload, and room for the others
abbrev pub invariant-loop-index : goal.invariant-loop-index
invariant-loop-index l = (vec_len l.pointers ≡ l.index) × (84 ≤ vec_capacity l.pointers) × AreFirst l.payload l.frame.blocks l.size strip_start l.pointers.items l.index
