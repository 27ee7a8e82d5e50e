use Rattle.std.proofs.Common.{refl}
use Rattle.hash_lanes.proofs.Messages.{window_word-lane}
use Rattle.hash_lanes.proofs.Vectors.{spelled}
use Rattle.hash_lanes.proofs.eights.next_word.Goals as goal

pub returns : goal.returns
returns c = record {
  value = spelled _ c.word_after-word.ensures (λ i h. window_word-lane c.args.w.now c.args.place i c.requires);
  window = refl;
}
