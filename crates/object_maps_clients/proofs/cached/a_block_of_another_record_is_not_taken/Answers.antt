use Rattle.std.proofs.Common.{inl, inr, arith}
use Rattle.std.proofs.lemmas.Result.{on_ok_weaker}
use Rattle.block_cache.proofs.CachedBlocks.{none-in-empty}
use Rattle.base.proofs.tree.Strips.{first-low}
use Rattle.object_maps_clients.proofs.cached.a_block_of_another_record_is_not_taken.Goals as goal

pub returns : goal.returns
returns g c = on_ok_weaker c.read_part.result (λ taken. elim taken.1 [
  | inl there ↦ none-in-empty c.args.pointer.now.address (g.B.BlockReader.cached c.args.reader.now) c.requires.empty taken.0 there
  | inr opens ↦ absurd (omega (arith, opens.block.number_is, c.requires.other))
]) (c.read_part.ensures.taken c.requires.keeps c.requires.there)

pub read_part-requires-clause-number : goal.read_part-requires-clause-number
read_part-requires-clause-number g c = first-low 7 (omega arith)
