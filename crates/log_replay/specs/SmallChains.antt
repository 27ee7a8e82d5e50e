-- Three small chains that the clients replay.
use Rattle.std.specs.Prelude.{ℕ, List, [], ◌∷◌}
use Rattle.base.specs.declared.operation.Op.TheVariants.{Create, SetName, Write}
use Rattle.base.specs.formats.Chain.{LogPiece}
use Rattle.base.specs.formats.Records.{Record}

-- the record of this group that creates object 7, and one that writes 5 bytes into it at offset 3
abbrev pub creation : ℕ → Record
creation group = record { group = group; ordinal = 0; ops = Create (record { 0 = 7 }) ∷ [] }

abbrev pub growth : ℕ → Record
growth group = record { group = group; ordinal = 1; ops = Write (record { 0 = 7 }) 3 (1 ∷ 2 ∷ 3 ∷ 4 ∷ 5 ∷ []) ∷ [] }

-- and one that names the pool pond
abbrev pub naming : ℕ → Record
naming group = record { group = group; ordinal = 0; ops = SetName (112 ∷ 111 ∷ 110 ∷ 100 ∷ []) ∷ [] }

-- a piece with the first, and one with each; and a piece with the last
abbrev pub creation_chain : ℕ → List LogPiece
creation_chain group = record { address = 4194304; behind = []; next = 4198400; records = creation group ∷ [] } ∷ []

abbrev pub growing_chain : ℕ → List LogPiece
growing_chain group =
    record { address = 4194304; behind = []; next = 4198400; records = creation group ∷ [] }
    ∷ record { address = 4198400; behind = []; next = 4202496; records = growth group ∷ [] }
    ∷ []

abbrev pub naming_chain : ℕ → List LogPiece
naming_chain group = record { address = 4194304; behind = []; next = 4198400; records = naming group ∷ [] } ∷ []
