-- What is found of blocks that were read.
use Rattle.std.specs.Prelude.{◌↔◌, Bool, IsTrue, List, [], ◌∷◌}
use Rattle.checked_blocks.specs.declared.payload.ReadBlock.{ReadBlock}
use Rattle.checked_blocks.specs.Opening.{IsExpected}

-- of each block it is found whether it is the one that is expected
abbrev pub AreJudged : List ReadBlock → List Bool → Type 0
AreJudged [] [] = Unit {0}
AreJudged (read ∷ reads) (is ∷ others) = (IsTrue is ↔ IsExpected read.block.now read.expected.now) × AreJudged reads others
AreJudged [] (is ∷ others) = ⊥
AreJudged (read ∷ reads) [] = ⊥
