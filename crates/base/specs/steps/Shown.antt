-- What contracts see of a running pool.
use Rattle.std.specs.Prelude.{ℕ, ◌+◌, ◌-◌, ◌||◌, Bool, List, [], length, map, get_or, sum_by, nat_le, unwrap_or, Option, Some, None, option_map}
use Rattle.std.specs.List.{range_with_len}
use Rattle.std.specs.Ordering.{nat_cmp}
use Rattle.std.specs.FinMap as finite
use Rattle.std.specs.FinMap.{FinMap}
use Rattle.std.specs.FinSet as set
use Rattle.std.specs.FinSet.{FinSet}
use Rattle.base.specs.declared.pointer.Pointer.{Pointer}
use Rattle.base.specs.declared.status.Status.{Status}
use Rattle.base.specs.formats.Limits.{object_count}
use Rattle.base.specs.history.Contents.{Contents}
use Rattle.base.specs.steps.Locks.{Grant}
use Rattle.base.specs.steps.Groups.{Line, Middle, Admission}
use Rattle.base.specs.steps.Charges.{available_of}
use Rattle.base.specs.formats.Uberblocks.{Uberblock}
use Rattle.base.specs.formats.Versions.{written_version}
use Rattle.base.specs.formats.Chain.{Header}
use Rattle.base.specs.steps.Logs.{Log, is_flushed_in}

-- the lengths of all objects, by number
unfoldable pub listed : (ℕ → Option ℕ) → List (Option ℕ)
listed lengths = map lengths (range_with_len 0 object_count)

-- the length of an object, None if there is no such object
abbrev pub length_at : List (Option ℕ) → ℕ → Option ℕ
length_at lengths n = get_or lengths n None

-- the sync of the syncing group, as it was planned when it was started
pub record SyncPlan : Type 0 where
  pub steps_left : ℕ
  -- the addresses that it took, and those that come back when it is done
  pub taken : List ℕ
  pub freed : List ℕ
  -- the moment, the root pointer and the log header that its uberblocks name
  pub moment : ℕ
  pub root : Pointer
  pub header : Header
  -- the contents that it writes, and the lengths of the objects of its tree, by number
  pub contents : Contents
  pub lengths : List (Option ℕ)

pub record Shown : Type 0 where
  -- a write or a flush was refused, and each later step is
  pub suspended : Bool
  pub guid : ℕ
  -- the number of blocks of the block area
  pub blocks : ℕ
  pub import_number : ℕ
  pub dirty_max : ℕ
  -- held locks in order of grant, and the name of the next one
  pub locks : List Grant
  pub next_lock : ℕ
  pub line : Line
  -- open transactions in order of admission, and the name of the next one
  pub transactions : List Admission
  pub next_tx : ℕ
  -- the contents after all commits, and the ordinal of the next one
  pub contents : Contents
  pub next_ordinal : ℕ
  -- the bytes charged to each unsynced group, and the blocks reserved for it
  pub dirty : FinMap nat_cmp ℕ
  pub reserved : FinMap nat_cmp ℕ
  -- the addresses of free blocks
  pub free : FinSet nat_cmp
  pub log : Log
  -- the root pointer of the synced tree, the contents that it stands for, and the lengths of its objects, by number
  pub root : Pointer
  pub synced_contents : Contents
  pub lengths : List (Option ℕ)
  pub sync : Option SyncPlan

-- the groups after the synced one, up to the open one
abbrev pub unsynced_groups : Line → List ℕ
unsynced_groups l = range_with_len (l.synced + 1) (l.open_group - l.synced)

abbrev pub dirty_of : Shown → ℕ → ℕ
dirty_of s group = unwrap_or (finite.get s.dirty group) 0

abbrev pub reserved_of : Shown → ℕ → ℕ
reserved_of s group = unwrap_or (finite.get s.reserved group) 0

-- the sums of all unsynced groups
abbrev pub dirty_total : Shown → ℕ
dirty_total s = sum_by (dirty_of s) (unsynced_groups s.line)

abbrev pub reserved_total : Shown → ℕ
reserved_total s = sum_by (reserved_of s) (unsynced_groups s.line)

abbrev pub free_count : Shown → ℕ
free_count s = set.len s.free

-- the blocks that the syncing group has taken
abbrev pub taken_of : Option SyncPlan → List ℕ
taken_of None = []
taken_of (Some plan) = plan.taken

-- the uberblock that the sync of a group writes
abbrev pub uberblock_of : Shown → ℕ → SyncPlan → Uberblock
uberblock_of s group plan =
    record {
      version = written_version;
      group = group;
      guid = s.guid;
      moment = plan.moment;
      root = plan.root;
      import_number = s.import_number;
      log_address = plan.header.address;
      log_number = plan.header.number;
    }

abbrev pub available : Shown → ℕ
available s = available_of (free_count s) (reserved_total s) (length (taken_of s.sync))

-- a receipt is durable: its group is synced, or its record was flushed in the log
abbrev pub is_durable : Shown → ℕ → ℕ → Bool
is_durable s ordinal group = nat_le group s.line.synced || is_flushed_in s.log (record { ordinal = ordinal; group = group })

-- the groups and sums of a pool
abbrev pub status_of : Shown → Status
status_of s =
    record {
      synced = record { 0 = s.line.synced };
      syncing = option_map (λ g. record { 0 = g }) s.line.syncing;
      middle = option_map (λ (m : Middle). record { 0 = m.group }) s.line.middle;
      open_group = record { 0 = s.line.open_group };
      dirty = dirty_total s;
      free = free_count s;
      available = available s;
    }
