use Rattle.std.proofs.Common.{◌≡◌, true, false, refl, arith}
use Rattle.std.proofs.lemmas.Bool.{false_from_ne_true}
use Rattle.base.specs.formats.Geometry.{block_address}
use Rattle.space.specs.FreeSets.{FreeSpace, HasAllOf, is_free}
use Rattle.space.proofs.clients.all_blocks_of_a_new_set_are_free.Goals as goal

has : (s : FreeSpace) → HasAllOf 24 s.free → is_free 23 s ≡ true
has s all = (all (block_address 23)).1 (23, omega arith, refl)

has_not : (s : FreeSpace) → HasAllOf 24 s.free → is_free 24 s ≡ false
has_not s all = false_from_ne_true (is_free 24 s) (λ is. let there = (all (block_address 24)).0 is in omega (arith, there.1, there.2))

pub prove-unreachable-requires : goal.prove-unreachable-requires
prove-unreachable-requires c = let is = has c.in_ok-free.free c.in_ok-free.ensures.all in cc

pub prove-unreachable-requires-2 : goal.prove-unreachable-requires-2
prove-unreachable-requires-2 c = let is = has_not c.in_ok-free.free c.in_ok-free.ensures.all in cc
