use Rattle.std.proofs.Common.{rules, ◌≡◌, ◌∙◌, arith, ap, sym}
use Rattle.std.specs.Int.{w32, to_be_bytes}
use Rattle.std.proofs.lemmas.List.{take_all}
use Rattle.std.proofs.lemmas.Slice.{overwrites}
use Rattle.sha2.specs.Sha256.{digest_bytes}
use Rattle.sha2.proofs.Absorbing256.{digest_more}
use Rattle.hash_lanes.specs.Lanes.{lane}
use Rattle.hash_lanes.proofs.Messages.{get_or-lane}
use Rattle.hash_lanes.proofs.digest_in_eight.Goals as goal

pub words-init : goal.words-init
unfolding digest_bytes
words-init c = search rules

pub words-preserved : goal.words-preserved
words-preserved c =
    let hashes = c.args.hashes.now in
    let k = c.words.k in
    let words = lane c.args.message hashes in
    let word = ap (to_be_bytes w32) (sym (get_or-lane c.args.message hashes k)) in
    let bytes = c.copy_from_slice.ensures.after ∙ c.to_be_bytes.ensures ∙ word in record {
      len = search (rules, overwrites);
      written = digest_more c.words.out words _ k _ c.words.invariant.written (omega arith) bytes;
    }

pub returns : goal.returns
returns c =
    let done : c.words.k ≡ 8 = omega arith in
    sym (take_all 32 c.words.out (omega arith)) ∙ (rw done at c.words.invariant.written)
