-- The bytes that a note keeps.
use Rattle.std.specs.Prelude.{ℕ, List, replicate}
use Rattle.device_model.specs.declared.noted_bytes.Kept.{Kept}
use Rattle.device_model.specs.declared.noted_bytes.Kept.TheVariants.{Run, Each}

-- so many copies of one byte, or each of them
abbrev pub bytes_kept : Kept → List ℕ
bytes_kept (Run byte count) = replicate count byte
bytes_kept (Each bytes) = bytes.items
