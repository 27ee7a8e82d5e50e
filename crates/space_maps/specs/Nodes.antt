-- What the nodes of a map say, in bytes: bits of blocks, and entries of nodes.
use Rattle.std.specs.Prelude.{ℕ, zero, suc, ◌≡◌, ◌+◌, ◌*◌, ◌/◌, ◌%◌, Bool, true, false, cond, get_or, List, nat_eq}
use Rattle.std.specs.Int.{bit_at}
use Rattle.mapped_labels.specs.declared.map_entry.MapEntry.{MapEntry}
use Rattle.mapped_labels.specs.Entries.{map_entry_at}
use Rattle.space_maps.specs.declared.node.NodeKind.{NodeKind}
use Rattle.space_maps.specs.declared.node.NodeKind.TheVariants.{Bits, Entries}

-- the number in the kind field of a node's block
abbrev pub kind_number : NodeKind → ℕ
kind_number Bits = 8
kind_number Entries = 9

-- whether the bit of this index is 1 in a payload: the lowest bit of a byte stands first
unfoldable pub bit_in : List ℕ → ℕ → Bool
bit_in payload k = nat_eq (bit_at (get_or payload (k / 8) 0) (k % 8)) 1

-- how many of the first n are true
unfoldable pub count_true : (ℕ → Bool) → ℕ → ℕ
count_true is zero = 0
count_true is (suc n) = count_true is n + cond (is n) 1 0

-- the entry of this number in the payload of a map node
abbrev pub map_entry_in : List ℕ → ℕ → MapEntry
map_entry_in payload e = map_entry_at payload (56 * e)
