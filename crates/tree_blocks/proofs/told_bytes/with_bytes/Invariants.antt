use Rattle.base.specs.disk.Disk.{put}
use Rattle.tree_blocks.proofs.told_bytes.with_bytes.Given as goal

abbrev pub ghost-of : goal.ghost-of
ghost-of a = put a.x.now.1 a.x.now.2.now a.x.now.0.now.value
