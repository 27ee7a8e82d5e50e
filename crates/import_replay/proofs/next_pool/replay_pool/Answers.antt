use Rattle.std.proofs.Common.{ℕ, List, refl, subst}
use Rattle.std.specs.List.{list_any}
use Rattle.base.specs.formats.Chain.{LogPiece}
use Rattle.base.specs.formats.Geometry.{block_count}
use Rattle.trees.specs.FreeBlocks.{BlocksTaken}
use Rattle.space.specs.FreeSets.{FreeSpace}
use Rattle.import_replay.specs.FreeBlocks.{logs_block}
use Rattle.import_replay.proofs.FreeBlocks.{unused-from_taken}
use Rattle.import_replay.proofs.next_pool.replay_pool.Goals as goal

pub returns-clause-replayed : goal.returns-clause-replayed
returns-clause-replayed c =
    let blocks : ℕ = block_count c.args.geometry in
    let chain : List LogPiece = c.args.logged.items in
    let left : FreeSpace = c.take_logged.new.free in
    let taken : BlocksTaken (λ k. list_any (logs_block k) chain) c.args.loaded.free left =
    subst (λ (s : FreeSpace). BlocksTaken (λ k. list_any (logs_block k) chain) s left) c.in_ok-spare.ensures
    (subst (λ (bs : List LogPiece). BlocksTaken (λ k. list_any (logs_block k) bs) c.in_ok-spare.spare left) c.deref.ensures.value c.take_logged.ensures.taken) in
    record {
      tree_is = refl;
      name_is = c.copy-2.ensures.copy;
      free = c.requires.free;
      spare = unused-from_taken c.args.loaded.tree chain blocks c.args.loaded.free left c.requires.free taken;
      sized = c.take_logged.ensures.count;
      replayed = c.in_ok-replayed.ensures.replayed;
    }
