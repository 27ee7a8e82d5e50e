-- What the bytes of a running pool's device mount, and that an image mounts one thing at most.
use Rattle.std.specs.Prelude.{ℕ, ◌≡◌, ◌⊎◌, List, [], None, Some, Ok}
use Rattle.base.specs.history.Contents.{Contents}
use Rattle.base.specs.history.History.{replay, entries_up_to}
use Rattle.base.specs.formats.Uberblocks.{Uberblock}
use Rattle.base.specs.formats.Chain.{LogPiece}
use Rattle.base.specs.tree.Mount.{Mounts}
use Rattle.base.specs.history.Past.{Past}
use Rattle.base.specs.steps.Shown.{Shown}
use Rattle.base.specs.kept.ShownLabels.{HasNoLogBlock}
use Rattle.base.specs.kept.Stored.{Held, IsHeld}

-- an image mounts one thing at most
abbrev pub MountsAgree : Type 0
MountsAgree = (image : List ℕ) (u v : Uberblock) (chain other : List LogPiece) (contents others : Contents) → Mounts image u chain contents → Mounts image v other others
    → (u ≡ v) × (chain ≡ other) × (contents ≡ others)

-- the bytes mount, without a log, what the entries up to a group leave, by an uberblock of this group and of the pool
pub record MountsUpTo (group : ℕ) (now : List ℕ) (s : Shown) (past : Past) : Type 0 where
  pub u : Uberblock
  pub contents : Contents
  pub replayed : replay (entries_up_to group past.entries) past.base ≡ Ok contents
  pub mounts : Mounts now u [] contents
  pub guid : u.guid ≡ s.guid
  pub group_is : u.group ≡ group
  pub import_is : u.import_number ≡ s.import_number

-- The bytes of a pool's device, where no block is a log block, mount the synced group; or, once a running sync has
-- written an uberblock, the group of the sync.
abbrev pub HeldMounts : Type 0
HeldMounts = (h : Held) → IsHeld h → HasNoLogBlock h.now
    → MountsUpTo h.state.shown.line.synced h.now h.state.shown h.state.past
    ⊎ ((group : ℕ) × (h.state.shown.line.syncing ≡ Some group) × MountsUpTo group h.now h.state.shown h.state.past)

-- where no sync runs it is the synced group
abbrev pub IdleMounts : Type 0
IdleMounts = (h : Held) → IsHeld h → HasNoLogBlock h.now → h.running ≡ None → MountsUpTo h.state.shown.line.synced h.now h.state.shown h.state.past
