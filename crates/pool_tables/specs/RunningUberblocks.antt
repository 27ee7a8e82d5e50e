-- The uberblock that a running sync writes into the labels.
use Rattle.std.specs.Prelude.{ℕ}
use Rattle.base.specs.declared.pointer.Pointer.{Pointer}
use Rattle.base.specs.formats.Chain.{Header}
use Rattle.base.specs.formats.Versions.{written_version}
use Rattle.base.specs.formats.Uberblocks.{Uberblock}

-- of a pool with this guid and import number, that of a sync with this log header, of this group, moment and root
abbrev pub uberblock_with : (guid import_number : ℕ) → Header → (group moment : ℕ) → Pointer → Uberblock
uberblock_with guid import_number header group moment root = record {
  version = written_version;
  group = group;
  guid = guid;
  moment = moment;
  root = root;
  import_number = import_number;
  log_address = header.address;
  log_number = header.number;
}
