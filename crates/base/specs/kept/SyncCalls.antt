-- The device calls of a running sync, one by one, and what each makes of the bytes. A sync with a new name has label
-- stages: it writes its config into the even labels before the uberblocks, and into the odd ones after them.
use Rattle.std.specs.Prelude.{ℕ, ◌≡◌, ◌+◌, List, [], map, length, slice_get, take, Option, Some, None, is_some, option_map, unwrap_or}
use Rattle.std.specs.List.{count_by}
use Rattle.base.specs.declared.pointer.Pointer.{Pointer}
use Rattle.base.specs.formats.Geometry.{config_place, slot_place, slot_of}
use Rattle.base.specs.disk.DiskCalls.{DiskCall, bytes_made}
use Rattle.base.specs.disk.DiskCalls.DiskCall.{Put, Settle}
use Rattle.base.specs.disk.SyncOrder.{DeviceCall, calls_even_first, is_config}
use Rattle.base.specs.disk.SyncOrder.DeviceCall.{Block, Config, Uberblock, Flush}
use Rattle.base.specs.tree.Places.{Place}
use Rattle.base.specs.kept.PlannedTrees.{NewBlock}

-- what a running sync makes: the pointers of the new tree, its blocks, the bytes of its uberblock, those of the new
-- config if it has label stages, and how many of its calls it has made
pub record NewTree : Type 0 where
  pub pointers : Place → Pointer
  pub blocks : List NewBlock
  pub slot : List ℕ
  pub stages : Option (List ℕ)
  pub done : ℕ

-- the kinds of its calls, in order, and how many they are
abbrev pub order_of_tree : NewTree → List DeviceCall
order_of_tree new = calls_even_first (length new.blocks) (is_some new.stages)

abbrev pub total_calls : NewTree → ℕ
total_calls new = length (order_of_tree new)

-- how many calls each of two label stages has: two configs and a flush, or none
abbrev pub stage_calls : {A : Type 0} → Option A → ℕ
stage_calls None = 0
stage_calls (Some stages) = 3

-- how many calls come before the first uberblock: the blocks and a flush, and the first label stage
abbrev pub calls_before_uberblock : NewTree → ℕ
calls_before_uberblock new = length new.blocks + 1 + stage_calls new.stages

-- how many labels have the new config: the config calls that are made
abbrev pub staged_labels : NewTree → ℕ
staged_labels new = count_by is_config (take new.done (order_of_tree new))

-- The call of a kind, of the sync of a group on a device of so many bytes: a block is put at its address, the config
-- and the uberblock into a label. (Each number in the order has its block.)
abbrev pub call_of_kind : ℕ → ℕ → NewTree → DeviceCall → DiskCall
call_of_kind size group new (Block k) = unwrap_or (option_map (λ (b : NewBlock). Put b.address b.content) (slice_get new.blocks k)) Settle
call_of_kind size group new (Config label) = Put (config_place size label) (unwrap_or new.stages [])
call_of_kind size group new (Uberblock label) = Put (slot_place size label (slot_of group)) new.slot
call_of_kind size group new Flush = Settle

-- its calls, in order
abbrev pub calls_of_tree : ℕ → ℕ → NewTree → List DiskCall
calls_of_tree size group new = map (call_of_kind size group new) (order_of_tree new)

-- the next call was made
abbrev pub Advances : ℕ → List ℕ → List ℕ → NewTree → NewTree → Type 0
Advances group now later old new =
    (call : DiskCall) × (slice_get (calls_of_tree (length now) group old) old.done ≡ Some call) × (later ≡ bytes_made call now) × (new ≡ record old { done = old.done + 1 })
