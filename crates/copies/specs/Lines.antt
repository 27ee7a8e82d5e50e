-- The lines of what is not in a copy.
use Rattle.std.specs.Prelude.{ℕ, ◌++◌, codes, List}
use Rattle.std.specs.Fmt.{decimal}
use Rattle.trees.specs.declared.damages.BlockDamage.{BlockDamage}
use Rattle.copies.specs.declared.missing.Missing.{Missing}
use Rattle.copies.specs.declared.missing.Missing.TheVariants.{Bytes, Objects}

-- three numbers and more, with spaces between them
abbrev pub damage_text : BlockDamage → List ℕ
damage_text d = decimal d.kind ++ (codes " " ++ decimal d.address)

abbrev pub missing_text : Missing → List ℕ
missing_text (Bytes object range d) = codes "damaged " ++ (decimal object.0 ++ (codes " " ++ (decimal range.low ++ (codes " " ++ (decimal range.high ++ (codes " " ++ damage_text d))))))
missing_text (Objects first last d) = codes "damaged objects " ++ (decimal first.0 ++ (codes " " ++ (decimal last.0 ++ (codes " " ++ damage_text d))))

abbrev pub missing_line : Missing → List ℕ
missing_line m = missing_text m ++ codes "\n"
