use Rattle.std.proofs.Common.{◌≡◌, true, refl, ◌∙◌, ap}
use Rattle.std.proofs.lemmas.Cmp.{nat_cmp_total}
use Rattle.std.specs.FinSet as set
use Rattle.std.specs.FinSet.{len-remove}
use Rattle.base.specs.formats.Geometry.{block_address}
use Rattle.space.specs.FreeSets.{FreeSpace, after_sync_take, available_in, is_free}
use Rattle.space.proofs.clients.a_sync_counts_what_it_takes.Goals as goal

-- of 24 free blocks one is taken, and of 6 reserved ones 5 are still to be taken
left : (s : FreeSpace) → set.len s.free ≡ 24 → s.reserved ≡ 6 → s.taken ≡ 0 → is_free 1 s ≡ true → available_in (after_sync_take 1 s) ≡ 18
left s free reserved taken is =
    let count : set.len (set.remove s.free (block_address 1)) ≡ 23 = len-remove nat_cmp_total s.free (block_address 1) ∙ rw (is, free) refl in
    rw (count, reserved, taken) refl

pub returns : goal.returns
returns c = let old = c.requires in
    c.available.ensures.count ∙ ap available_in c.take_for_sync.ensures ∙ left c.args.free.now old.free old.reserved old.taken old.is_free
