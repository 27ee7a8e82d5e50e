-- What an import gives to the run after it, of a disk that its pool alone wrote.
use Rattle.std.specs.Prelude.{ℕ, ◌≡◌, []}
use Rattle.base.specs.kept.CrashRule.{IsOwnOnceFlushed}
use Rattle.base.specs.kept.PoolViews.{IsPoolDisk}
use Rattle.base.specs.disk.Disk.{Disk, Moment}
use Rattle.base.specs.history.Contents.{Contents}
use Rattle.base.specs.history.Past.{new_past}
use Rattle.contents.specs.ContentsShown.{contents_of}
use Rattle.mounted.specs.ShownMounted.{shown_of_import}
use Rattle.mounted.specs.declared.mounted.Mounted.{Mounted}

-- The disk has the views of what is shown, with a past in which nothing happened since this create, and nothing is
-- unflushed; the pool is that of the guid, and what was mounted are the contents.
pub record IsRunStart (created guid : ℕ) (contents : Contents) (dirty_max : ℕ) (m : Mounted) (now : Moment) : Type 0 where
  pub disk : IsPoolDisk m.geometry now (shown_of_import m) (new_past (contents_of m.contents) created dirty_max)
  pub settled : now.unflushed ≡ []
  pub guid_is : m.guid ≡ guid
  pub contents_are : contents_of m.contents ≡ contents

-- so it is of the create, the guid and the contents with which the disk of before was the pool's own, once it was
-- flushed
abbrev pub StartsRun : Disk → ℕ → Disk → Mounted → Type 0
StartsRun before dirty_max after m = (created guid : ℕ) (contents : Contents) → IsOwnOnceFlushed before created guid contents → IsRunStart created guid contents dirty_max m after.now
