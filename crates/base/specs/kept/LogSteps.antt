-- What a write of the log hands to the device, where the header of a running sync lies, and what is shown after a step
-- of the log.
use Rattle.std.specs.Prelude.{ℕ, ◌≡◌, ◌≢◌, ◌⊎◌, ◌||◌, Bool, not, List, slice_get, Some, All}
use Rattle.std.specs.Ordering.{nat_cmp}
use Rattle.std.specs.FinSet.{FinSet}
use Rattle.base.specs.formats.Fields.{no_pointer}
use Rattle.base.specs.formats.Geometry.{IsBlockAddress}
use Rattle.base.specs.formats.Blocks.{IsBlock}
use Rattle.base.specs.formats.Records.{IsAllowed}
use Rattle.base.specs.formats.Chain.{Header, IsLogPayload}
use Rattle.base.specs.tree.Places.{Place, IsPlace}
use Rattle.base.specs.steps.Logs.{Log, KeptBlock, Taken, header_at, log_after_write, log_after_flush}
use Rattle.base.specs.steps.Shown.{Shown}
use Rattle.base.specs.kept.Views.{View, Logged}

-- The log block that a log write packs: what is taken for it, by the open group, of the next number, in the chain of
-- this run, with this address for the one after it. Its bytes follow from these fields.
pub record IsPackedBlock (s : Shown) (taken : Taken) (address : ℕ) (l : Logged) : Type 0 where
  pub address_is : l.block.address ≡ s.log.next.address
  pub next_is : l.block.next ≡ address
  pub used_is : l.block.used ≡ taken.used
  pub ends_are : l.ends ≡ taken.ends
  pub allowed : All IsAllowed taken.begins
  pub number_is : l.number ≡ s.log.next.number
  pub payload : List ℕ
  pub sealed : IsBlock l.content 6 s.guid s.line.open_group s.log.next.number payload
  pub fields : IsLogPayload payload s.import_number l.block
  pub in_area : IsBlockAddress s.blocks s.log.next.address

-- a header is the next one, or that of a kept block
abbrev pub IsHeaderIn : Header → Log → Type 0
IsHeaderIn header log = (header ≡ log.next) ⊎ ((i : ℕ) × (b : KeptBlock) × (slice_get log.kept i ≡ Some b) × (header_at b ≡ header))

-- neither the tree nor the log of a view has a block at this address
pub record IsSpareOf (v : View) (address : ℕ) : Type 0 where
  pub not_in_tree : (p : Place) → IsPlace p → v.pointers p ≢ no_pointer → (v.pointers p).address ≢ address
  pub not_logged : (i : ℕ) (l : Logged) → slice_get v.logged i ≡ Some l → l.block.address ≢ address

-- what is shown after a log write and a log flush, as far as the log and the disk need it
abbrev pub shown_after_write : Taken → ℕ → FinSet nat_cmp → Bool → Shown → Shown
shown_after_write taken address free done s =
    record s { log = log_after_write taken address s.log; free = free; suspended = s.suspended || not done }

abbrev pub shown_after_flush : Shown → Shown
shown_after_flush s = record s { log = log_after_flush s.log }
