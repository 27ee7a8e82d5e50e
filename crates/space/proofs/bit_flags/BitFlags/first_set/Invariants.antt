use Rattle.std.proofs.Common.{◌*◌}
use Rattle.space.specs.BitFlags.{flags_of}
use Rattle.space.specs.SetFlags.{AreClear}
use Rattle.space.proofs.bit_flags.BitFlags.first_set.Given as goal

-- no flag before the word is set
abbrev pub invariant-loop-index : goal.invariant-loop-index
invariant-loop-index l = AreClear l.first (l.index * 64) (flags_of l.self-inside.count l.self-inside.words.items)
