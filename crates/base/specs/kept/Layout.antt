-- How a running pool lies in an image: a form of "mounts to a cut" that the steps can keep.
use Rattle.std.specs.Prelude.{ℕ, ◌≡◌, ◌≤◌, ◌<◌, ◌⊎◌, true, List, map, filter, length, slice_get, Some, Ok, unwrap_or, option_map, nat_le}
use Rattle.std.specs.List.{flat_map}
use Rattle.base.specs.declared.pointer.Pointer.{Pointer}
use Rattle.base.specs.history.Contents.{Contents}
use Rattle.base.specs.history.History.{Entry, replay, entries_up_to}
use Rattle.base.specs.disk.Disk.{Disk}
use Rattle.base.specs.disk.Fairness.{LeavesFairNow}
use Rattle.base.specs.formats.Uberblocks.{Uberblock}
use Rattle.base.specs.formats.Records.{Record}
use Rattle.base.specs.formats.Chain.{Header, LogPiece, records_of_chain}
use Rattle.base.specs.tree.Mount.{IsFound, header_of}
use Rattle.base.specs.history.Past.{Past}
use Rattle.base.specs.steps.Logs.{Log, KeptBlock, Committed, committed_of, header_at}
use Rattle.base.specs.steps.Shown.{Shown, SyncPlan}

-- the header of the kept log
abbrev pub header_now : Log → Header
header_now log = unwrap_or (option_map header_at (slice_get log.kept 0)) log.next

-- the kept blocks from a header on
abbrev pub kept_from : Header → Log → List KeptBlock
kept_from header log = filter (λ (b : KeptBlock). nat_le header.number b.number) log.kept

-- the record of an entry, by what is noted of it
abbrev pub IsRecordOf : List Entry → Committed → Record → Type 0
IsRecordOf entries c r = (committed_of r ≡ c) × ((e : Entry) × (slice_get entries c.ordinal ≡ Some e) × (e.group ≡ c.group) × (e.ops ≡ r.ops))

-- these records, which end in a log block, are those that are noted of a kept one
pub record AreNotedOf (entries : List Entry) (kept : KeptBlock) (ends : List Record) : Type 0 where
  pub noted : map committed_of ends ≡ kept.ends
  pub records : (i : ℕ) (c : Committed) (r : Record) → slice_get kept.ends i ≡ Some c → slice_get ends i ≡ Some r → IsRecordOf entries c r

-- The image mounts the synced tree of this group, and of the kept log from this header on a front that has all that was
-- flushed. A block whose write was refused is a kept one too: it may stand after a crash.
pub record LiesAs (image : List ℕ) (s : Shown) (past : Past) (group : ℕ) (root : Pointer) (header : Header) : Type 0 where
  pub u : Uberblock
  pub synced : Contents
  pub chain : List LogPiece
  pub found : IsFound image u synced chain
  pub guid : u.guid ≡ s.guid
  pub group_is : u.group ≡ group
  pub root_is : u.root ≡ root
  pub import_is : u.import_number ≡ s.import_number
  pub header_is : header_of u ≡ header
  pub replayed : replay (entries_up_to group past.entries) past.base ≡ Ok synced
  -- the records that end in each log block of the front
  pub ends : List (List Record)
  pub ends_are : flat_map (λ (rs : List Record). rs) ends ≡ records_of_chain chain
  pub no_longer : length ends ≤ length (kept_from header s.log)
  pub blocks : (i : ℕ) (k : KeptBlock) (rs : List Record) → slice_get (kept_from header s.log) i ≡ Some k → slice_get ends i ≡ Some rs → AreNotedOf past.entries k rs
  pub flushed : (i : ℕ) (k : KeptBlock) → slice_get (kept_from header s.log) i ≡ Some k → k.flushed ≡ true → i < length ends

-- as the synced group, or, while a sync runs, as its group
abbrev pub IsLaidOut : List ℕ → Shown → Past → Type 0
IsLaidOut image s past = LiesAs image s past s.line.synced s.root (header_now s.log)
    ⊎ ((group : ℕ) × (plan : SyncPlan) × (s.line.syncing ≡ Some group) × (s.sync ≡ Some plan) × LiesAs image s past group plan.root plan.header)

-- what a read gives is fair, and every fair image that a crash now may leave is laid out so
abbrev pub AreLaidOut : Disk → Shown → Past → Type 0
AreLaidOut disk s past = LeavesFairNow disk past.created (λ image. IsLaidOut image s past)
