-- The kind field of a block.
use Rattle.std.specs.Prelude.{ℕ}
use Rattle.checked_blocks.specs.declared.kind.Kind.{Kind}
use Rattle.checked_blocks.specs.declared.kind.Kind.TheVariants.{Config, Root, Directory, Indirect, Data, Log, Top}

-- the number that stands for a kind
abbrev pub kind_number : Kind → ℕ
kind_number Config = 1
kind_number Root = 2
kind_number Directory = 3
kind_number Indirect = 4
kind_number Data = 5
kind_number Log = 6
kind_number Top = 7
