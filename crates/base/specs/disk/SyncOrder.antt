-- The device calls of a sync, in order.
use Rattle.std.specs.Prelude.{ℕ, Bool, true, false, List, [], ◌∷◌, ◌++◌, map, if◌then◌else◌}
use Rattle.std.specs.List.{range_with_len, list_any}
use Rattle.base.specs.declared.operation.Op.{Op}
use Rattle.base.specs.formats.Labels.{even_labels, odd_labels}
use Rattle.base.specs.tree.Syncs.{is_rename}

-- a write of the k-th block, of a label's config, of a label's uberblock, or a flush
pub data DeviceCall : Type 0 where
  Block : ℕ → DeviceCall
  Config : ℕ → DeviceCall
  Uberblock : ℕ → DeviceCall
  Flush : DeviceCall

abbrev pub is_config : DeviceCall → Bool
is_config (Config label) = true
is_config _ = false

-- the configs of two labels and a flush
abbrev pub label_stage : List ℕ → List DeviceCall
label_stage labels = map (λ l. Config l) labels ++ Flush ∷ []

-- The order of every sync: its blocks and a flush, the first label stage, its uberblocks and a flush, the other label
-- stage.
abbrev pub in_sync_order : {Call : Type 0} → (flush : Call) (blocks first uberblocks second : List Call) → List Call
in_sync_order flush blocks first uberblocks second = blocks ++ flush ∷ [] ++ first ++ uberblocks ++ flush ∷ [] ++ second

-- so many blocks, the uberblock of each label, and label stages if there are any
abbrev pub calls_in_order : ℕ → Bool → List ℕ → List ℕ → List DeviceCall
calls_in_order count has_stages first second =
    in_sync_order Flush (map (λ k. Block k) (range_with_len 0 count))
    (if has_stages then label_stage first else [])
    (map (λ l. Uberblock l) (range_with_len 0 4))
    (if has_stages then label_stage second else [])

-- label stages, if there are any, with the even labels first
abbrev pub calls_even_first : ℕ → Bool → List DeviceCall
calls_even_first count has_stages = calls_in_order count has_stages even_labels odd_labels

-- the sync of a group: label stages where it has a new name, the even labels first
abbrev pub sync_calls : ℕ → List Op → List DeviceCall
sync_calls count ops = calls_even_first count (list_any is_rename ops)

-- the sync of an import: always with label stages, the odd labels first unless one of them has the chosen config
abbrev pub import_calls : ℕ → Bool → List DeviceCall
import_calls count is_even = if is_even then calls_even_first count true else calls_in_order count true odd_labels even_labels
