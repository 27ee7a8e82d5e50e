-- What was mounted, as contracts see the pool.
use Rattle.std.specs.Prelude.{◌+◌, false, [], None}
use Rattle.std.specs.FinMap as finite
use Rattle.base.specs.formats.Geometry.{block_count}
use Rattle.base.specs.steps.Shown.{Shown, listed}
use Rattle.contents.specs.ContentsShown.{contents_of}
use Rattle.tree_blocks.specs.TreeObjects.{lengths_of}
use Rattle.mounted.specs.declared.mounted.Mounted.{Mounted}

-- the pool as it is shown when the import is done: the synced group is the import's, the next one is open, and nothing
-- else has happened
abbrev pub shown_of_import : Mounted → Shown
shown_of_import m = record {
  suspended = false;
  guid = m.guid;
  blocks = block_count m.geometry;
  import_number = m.import_number;
  dirty_max = m.dirty_max;
  locks = [];
  next_lock = 0;
  line = record { synced = m.group.0; syncing = None; middle = None; open_group = m.group.0 + 1 };
  transactions = [];
  next_tx = 0;
  contents = contents_of m.contents;
  next_ordinal = 0;
  dirty = finite.empty;
  reserved = finite.empty;
  free = m.free.free;
  log = record { unsynced = []; begun = None; pending = []; kept = []; next = record { address = m.log_address; number = 0 } };
  root = m.contents.tree.root;
  synced_contents = contents_of m.contents;
  lengths = listed (lengths_of m.contents.tree);
  sync = None;
}
