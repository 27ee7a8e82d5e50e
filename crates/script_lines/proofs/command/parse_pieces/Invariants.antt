use Rattle.std.proofs.Common.{◌≡◌, map, take, Some}
use Rattle.script_lines.specs.Letters.{piece_of}
use Rattle.script_lines.proofs.command.parse_pieces.Given as goal

abbrev pub invariant-loop-letter : goal.invariant-loop-letter
invariant-loop-letter l = map Some l.pieces.items ≡ map piece_of (take l.letter-index l.letters)
