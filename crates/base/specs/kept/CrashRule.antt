-- The crash rule for a pool's disk from its create on: what an import keeps, what a step keeps, what a run leaves, and
-- what a client finds after any number of rounds, each an import with its run and then a crash. `created` is never
-- free: it is the moment with which the disk is the pool's own.
use Rattle.std.specs.Prelude.{ℕ, ◌≡◌, ◌≤◌, ◌+◌, ◌⊎◌, List, [], ◌∷◌, length, take, Ok}
use Rattle.base.specs.history.Contents.{Contents}
use Rattle.base.specs.formats.Geometry.{block_count}
use Rattle.base.specs.disk.Disk.{Moment, Disk, moments, EachMoment, MayLeave, bytes_of, handed, certain, disk_size}
use Rattle.base.specs.disk.Fairness.{IsFairOn, HasFairBytes, LeavesFairNow, LeavesFairSince}
use Rattle.base.specs.tree.Mount.{MountsTo, apply_above}
use Rattle.base.specs.history.Past.{Past}
use Rattle.base.specs.steps.Shown.{Shown}
use Rattle.base.specs.kept.Views.{View, ended_in}
use Rattle.base.specs.kept.LogRule.{AreChainsUpTo}
use Rattle.base.specs.kept.LogRoom.{HasImportRoom}
use Rattle.base.specs.steps.Explains.{IsLeftBy}
use Rattle.base.specs.kept.Own.{IsPhase, AreConfigsBelowImport, IsOwnImage, IsOwnWith}
use Rattle.base.specs.kept.PoolViews.{IsPoolDisk}

-- a view mounts these contents where its chain is of all of its log blocks
abbrev pub MountsAs : View → Contents → Type 0
MountsAs v contents = apply_above v.u.group (ended_in v.logged) v.synced ≡ Ok contents

-- at each moment from the one disk to the other what a read gives is fair, and every fair image mounts these contents
abbrev pub AllMountTo : Disk → Disk → ℕ → Contents → Type 0
AllMountTo old new created contents = LeavesFairSince old new created (λ image. MountsTo image contents)

-- the two views of an import: of one pool, four groups apart, both mount these contents, and both have room for an
-- import
pub record AreImportViews (blocks : ℕ) (old new : View) (guid : ℕ) (contents : Contents) : Type 0 where
  pub old_guid : old.u.guid ≡ guid
  pub new_guid : new.u.guid ≡ guid
  pub next_group : new.u.group ≡ old.u.group + 4
  -- so many log blocks of the old one have all records that end in it
  pub flushed : ℕ
  pub all : (n : ℕ) → flushed ≤ n → ended_in (take n old.logged) ≡ ended_in old.logged
  pub old_mounts : MountsAs old contents
  pub new_mounts : MountsAs new contents
  -- the new one begins a log of its own
  pub new_log : new.logged ≡ []
  pub old_room : HasImportRoom blocks old
  pub new_room : HasImportRoom blocks new

-- a moment of an import that mounts this name: what a read gives is fair, no config counts that an import of the old
-- view does not write, no log block of a later chain than the old view's does, and it is one of the phases
pub record IsImportMoment (size t flushed : ℕ) (old new : View) (name : List ℕ) (m : Moment) : Type 0 where
  pub bytes : HasFairBytes size t m
  pub configs : AreConfigsBelowImport size t (handed m) old name
  pub chains : AreChainsUpTo size t (handed m) old.u.guid old.u.import_number
  pub phase : IsPhase size t flushed (length new.logged) m old new

-- each moment from the one disk to the other is one of an import that mounts these contents
pub record HasSteadyPhases (size t : ℕ) (before after : Disk) (guid : ℕ) (contents : Contents) : Type 0 where
  pub old : View
  pub new : View
  pub views : AreImportViews (block_count size) old new guid contents
  pub each : EachMoment (IsImportMoment size t views.flushed old new contents.name) before after

-- a disk that this pool alone wrote, once what a read gives is certain: as a good flush leaves it
abbrev pub IsOwnOnceFlushed : Disk → ℕ → ℕ → Contents → Type 0
IsOwnOnceFlushed disk created guid contents = IsOwnWith (certain (bytes_of disk.now) disk) created guid contents

-- from the first good flush of the old disk on each moment mounts these contents, and a crash, or another import, finds
-- a disk that this pool alone wrote
pub record IsSteady (old new : Disk) (created guid : ℕ) (contents : Contents) : Type 0 where
  pub phases : HasSteadyPhases (disk_size old) created (certain (bytes_of old.now) old) new guid contents
  pub own : IsOwnWith new created guid contents

-- An import, wherever it stops and whatever it answers: no flush answered Ok and the disk is as it was, or all since
-- its first good flush is steady.
abbrev pub IsImportKept : Disk → Disk → (created guid : ℕ) → Contents → Type 0
IsImportKept old new created guid contents = (new ≡ old) ⊎ IsSteady old new created guid contents

-- It is asked of an import of each disk that is the pool's own once it is flushed, with the moment of the create and
-- the contents with which it is. So is one that the pool alone wrote, and one that a run gave up.
abbrev pub KeepsOwn : Disk → Disk → Type 0
KeepsOwn old new = (created guid : ℕ) (contents : Contents) → IsOwnOnceFlushed old created guid contents → IsImportKept old new created guid contents

-- What is steady mounts: a crash at any moment since the first good flush leaves only fair images that mount these
-- contents.
abbrev pub SteadyImportsMount : Type 0
SteadyImportsMount = (old new : Disk) (created guid : ℕ) (contents : Contents) → IsSteady old new created guid contents
    → AllMountTo (certain (bytes_of old.now) old) new created contents

-- And so does what a pool alone wrote: each fair image that a crash leaves of it, and what a read gives.
abbrev pub OwnDisksMount : Type 0
OwnDisksMount = (disk : Disk) (created guid : ℕ) (contents : Contents) → IsOwnWith disk created guid contents
    → LeavesFairNow disk created (λ image. MountsTo image contents) × MountsTo (bytes_of disk.now) contents

-- a step of a run: at each of its moments the disk is kept for what was shown before, or for what is shown after
abbrev pub IsStepKept : Disk → Disk → Shown → Shown → Past → Past → Type 0
IsStepKept before after s t old new =
    EachMoment (λ m. IsPoolDisk (disk_size before) m s old ⊎ IsPoolDisk (disk_size before) m t new) before after

-- What a run leaves, suspended or not: every fair image is one that this pool alone wrote, and mounts the replay of a
-- cut of the run's entries with every acknowledged one.
pub record IsRunLeft (disk : Disk) (past : Past) (guid : ℕ) : Type 0 where
  pub began : past.created ≤ moments disk
  pub left : LeavesFairNow disk past.created (λ image. (c : Contents) × IsLeftBy past c × IsOwnImage (disk_size disk) past.created image disk.now guid c)

-- Runs one upon the other: each begins with what the one before left, and the last leaves these contents.
abbrev pub LeadsTo : Contents → List Past → Contents → Type 0
LeadsTo first [] last = last ≡ first
LeadsTo first (past ∷ pasts) last = (past.base ≡ first) × ((left : Contents) × IsLeftBy past left × LeadsTo left pasts last)

-- One round: a disk of this pool is imported and run, with this past, until it ends on a disk, in a step or between
-- two; a stopped import is a round whose past has no entry. Then a crash makes some fair image certain; for a device
-- that is given back it is the first flush of the next import, and the image is what a read gives.
pub record IsCrashRound (guid : ℕ) (first : Contents) (past : Past) (before ended : Disk) (image : List ℕ) : Type 0 where
  pub base : past.base ≡ first
  pub run_left : IsOwnWith before past.created guid first → IsRunLeft ended past guid
  pub left : MayLeave ended.now image
  pub fair : IsFairOn ended past.created image

-- rounds one upon the other, each of what the one before left
abbrev pub AreRounds : ℕ → ℕ → Contents → List Past → Disk → Disk → Type 0
AreRounds created guid first [] before after = after ≡ before
AreRounds created guid first (past ∷ pasts) before after = (past.created ≡ created) × ((ended : Disk) × ((image : List ℕ) × IsCrashRound guid first past before ended image
    × ((next : Contents) → IsOwnWith (certain image ended) created guid next → AreRounds created guid next pasts (certain image ended) after)))

-- The client's theorem: what stands at last mounts the replay of a cut of each round's entries, one round upon the
-- other, with every acknowledged entry, and this pool alone has written it.
abbrev pub ClientsFindCuts : Type 0
ClientsFindCuts = (created guid : ℕ) (first : Contents) (pasts : List Past) (before after : Disk) → IsOwnWith before created guid first → AreRounds created guid first pasts before after
    → (last : Contents) × LeadsTo first pasts last × (IsOwnWith after created guid last × MountsTo (bytes_of after.now) last)
