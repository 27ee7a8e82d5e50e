use Rattle.std.proofs.Common.{◌≡◌, ap, get_or, inl, inr, arith}
use Rattle.std.proofs.lemmas.Result.{on_ok_weaker}
use Rattle.std.specs.Prelude.{List, ℕ}
use Rattle.block_cache.proofs.CachedBlocks.{none-in-empty}
use Rattle.base.proofs.tree.Strips.{first-low}
use Rattle.object_maps_clients.proofs.cached.a_record_that_goes_on_past_the_end_is_not_taken.Goals as goal

pub returns : goal.returns
returns g c = on_ok_weaker c.read_part.result (λ taken. elim taken.1 [
  | inl there ↦ none-in-empty c.args.pointer.now.address (g.B.BlockReader.cached c.args.reader.now) c.requires.empty taken.0 there
  | inr opens ↦
      let zero : get_or taken.0 4000 0 ≡ 0 = taken.2 4000 (omega arith) in
      absurd (omega (arith, zero, c.requires.more, ap (λ (l : List ℕ). get_or l 4000 0) opens.block.payload_is))
]) (c.read_part.ensures.taken c.requires.keeps c.requires.there)

pub read_part-requires-clause-number : goal.read_part-requires-clause-number
read_part-requires-clause-number g c = first-low 7 (omega arith)
