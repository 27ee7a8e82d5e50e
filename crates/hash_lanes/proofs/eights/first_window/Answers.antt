use Rattle.std.proofs.Common.{rules, ◌∙◌, arith}
use Rattle.std.proofs.lemmas.List.{length-map}
use Rattle.sha2.proofs.Schedule256.{IsWindow_first}
use Rattle.hash_lanes.specs.Lanes.{lane}
use Rattle.hash_lanes.proofs.Messages.{words_more}
use Rattle.hash_lanes.proofs.eights.first_window.Goals as goal

pub load-preserved : goal.load-preserved
load-preserved c = record {
  len = search rules;
  words = λ i k low lt.
      words_more i c.load.w c.load.k k c.load_words.result _ (omega (arith, c.load.invariant.len)) lt
      (λ h. c.load.invariant.words i k low h) (c.load_words.ensures.lanes i low);
}

pub returns : goal.returns
returns c = λ i low.
    IsWindow_first _ (lane i c.load.w) (length-map c.load.w _ ∙ c.load.invariant.len) (λ k lt.
    c.load.invariant.words i k low (omega arith))
