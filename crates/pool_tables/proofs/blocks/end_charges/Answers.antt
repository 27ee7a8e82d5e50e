use Rattle.std.proofs.Common.{◌∙◌, ◌≤◌, ap, subst, sym}
use Rattle.space.specs.FreeSets.{FreeSpace, after_sync_end}
use Rattle.throttle.specs.Blocks.{blocks_in}
use Rattle.throttle.specs.DirtyBytes.{sum_of, total_of}
use Rattle.pool_tables.proofs.Charges.{blocks_left, blocks_within}
use Rattle.pool_tables.proofs.blocks.end_charges.Goals as goal

pub end_sync-requires : goal.end_sync-requires
end_sync-requires c =
    let d = c.args.dirty.now in
    let within = blocks_within c.args.free.now.reserved (total_of d) (sum_of d c.args.group.0) (total_of c.synced.new.self) c.requires.reserved c.synced.ensures.total (c.requires.whole.each c.args.group.0) in
    subst (λ n. blocks_in n ≤ c.args.free.now.reserved) (sym c.of.ensures) within

pub returns-clause-free : goal.returns-clause-free
returns-clause-free c = c.end_sync.ensures ∙ ap (λ n. after_sync_end (blocks_in n) c.args.free.now) c.of.ensures

pub returns-clause-reserved : goal.returns-clause-reserved
returns-clause-reserved c =
    let d = c.args.dirty.now in
    let ended = c.end_sync.ensures ∙ ap (λ n. after_sync_end (blocks_in n) c.args.free.now) c.of.ensures in
    ap (λ (s : FreeSpace). s.reserved) ended
    ∙ blocks_left c.args.free.now.reserved (total_of d) (sum_of d c.args.group.0) (total_of c.synced.new.self) c.requires.reserved c.synced.ensures.total (c.requires.whole.each c.args.group.0)
