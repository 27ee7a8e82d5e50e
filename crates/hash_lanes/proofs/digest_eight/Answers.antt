use Rattle.std.proofs.Common.{◌≡◌, ℕ, ◌*◌, ◌<◌, List, ◌∷◌, [], ◌∙◌, ap, arith}
use Rattle.sha2.specs.Sha256.{compress, hash_after}
use Rattle.hash_lanes.specs.Lanes.{one_of_eight}
use Rattle.hash_lanes.proofs.Digests.{digest_from, last_part, part_more_eight}
use Rattle.hash_lanes.proofs.digest_eight.Goals as goal

pub parts-init : goal.parts-init
unfolding hash_after
parts-init c = λ i low. c.initial_eight-hashes.ensures i low

pub parts-preserved : goal.parts-preserved
parts-preserved c = λ i low.
    part_more_eight i c.parts.k (64 * c.parts.k) _ c.args.a.now c.args.b.now c.args.c.now c.args.d.now c.args.e.now c.args.f.now c.args.g.now c.args.h.now _ _
    (c.parts.invariant i low) (omega arith) (omega arith) (c.compress.ensures i low)

pub returns : goal.returns
returns c =
    let done : c.parts.k ≡ 64 = omega arith in
    let padded = λ (i : ℕ) (h : List ℕ). compress h (one_of_eight i last_part last_part last_part last_part last_part last_part last_part last_part) in
    let end = λ (i : ℕ) (low : i < 8).
    c.compress-2.ensures i low ∙ ap (padded i) (rw done at (c.parts.invariant i low)) in
    let first = c.digest_in_eight.ensures ∙ digest_from c.args.a.now _ c.requires.a (end 0 (omega arith)) in
    let second = c.digest_in_eight-2.ensures ∙ digest_from c.args.b.now _ c.requires.b (end 1 (omega arith)) in
    let third = c.digest_in_eight-3.ensures ∙ digest_from c.args.c.now _ c.requires.c (end 2 (omega arith)) in
    let fourth = c.digest_in_eight-4.ensures ∙ digest_from c.args.d.now _ c.requires.d (end 3 (omega arith)) in
    let fifth = c.digest_in_eight-5.ensures ∙ digest_from c.args.e.now _ c.requires.e (end 4 (omega arith)) in
    let sixth = c.digest_in_eight-6.ensures ∙ digest_from c.args.f.now _ c.requires.f (end 5 (omega arith)) in
    let seventh = c.digest_in_eight-7.ensures ∙ digest_from c.args.g.now _ c.requires.g (end 6 (omega arith)) in
    let eighth = c.digest_in_eight-8.ensures ∙ digest_from c.args.h.now _ c.requires.h (end 7 (omega arith)) in
    λ k. first k ∷ second k ∷ third k ∷ fourth k ∷ fifth k ∷ sixth k ∷ seventh k ∷ eighth k ∷ []
