-- The space of a pool, and how it is printed.
use Rattle.std.specs.Prelude.{ℕ, ◌-◌, ◌*◌, ◌/◌, ◌%◌, ◌^◌, ◌++◌, if◌then◌else◌, codes, List, min, nat_lt}
use Rattle.std.specs.Fmt.{decimal}
use Rattle.command_arguments.specs.declared.reports.SpaceUnit.{SpaceUnit}
use Rattle.command_arguments.specs.declared.reports.SpaceUnit.TheVariants as unit
use Rattle.inspections.specs.declared.inspection.Inspected.{Inspected}
use Rattle.read_commands.specs.declared.pool_space.Space.{Space}

-- the bytes of so many blocks, as far as 64 bits have them
abbrev pub block_bytes : ℕ → ℕ
block_bytes blocks = min (blocks * 4096) (2 ^ 64 - 1)

-- the space of a pool: all of its blocks, those in use, those that are free, and those of them that bytes may take
abbrev pub space_of : Inspected → Space
space_of i = record {
  total = block_bytes i.blocks;
  used = block_bytes i.used;
  free = block_bytes (i.blocks - i.used);
  available = block_bytes (i.blocks - i.used - 16);
}

-- the greatest power of 1,024 up to 4 that isn't above a number of at least 1,024 bytes, and its letter
abbrev pub power_of : ℕ → ℕ
power_of count =
    if nat_lt count 1048576 then 1024
    else (if nat_lt count 1073741824 then 1048576
    else (if nat_lt count 1099511627776 then 1073741824 else 1099511627776))

abbrev pub letter_of : ℕ → List ℕ
letter_of count =
    if nat_lt count 1048576 then codes "K"
    else (if nat_lt count 1073741824 then codes "M"
    else (if nat_lt count 1099511627776 then codes "G" else codes "T"))

-- a number of bytes in that power, with one decimal; what lies below it is cut
abbrev pub power_text : ℕ → List ℕ
power_text count =
    decimal (count / power_of count) ++ (codes "." ++ (decimal (count % power_of count * 10 / power_of count) ++ letter_of count))

abbrev pub powers_text : ℕ → List ℕ
powers_text count = if nat_lt count 1024 then decimal count else power_text count

abbrev pub amount_text : SpaceUnit → ℕ → List ℕ
amount_text unit.Bytes count = decimal count
amount_text unit.Powers count = powers_text count

-- the lines of the space of a pool
abbrev pub space_lines : SpaceUnit → Space → List ℕ
space_lines unit space =
    codes "total " ++ (amount_text unit space.total ++ (codes "\nused " ++ (amount_text unit space.used ++ (codes "\nfree " ++ (amount_text unit space.free
    ++ (codes "\navailable " ++ (amount_text unit space.available ++ codes "\n")))))))

abbrev pub pool_space_lines : SpaceUnit → Inspected → List ℕ
pool_space_lines unit i = space_lines unit (space_of i)
