use Rattle.std.proofs.Common.{ℕ, List, take, length, ◌≤◌, ◌∙◌, subst, arith, take_all}
use Rattle.std.proofs.lemmas.List.Elements.{All-more, All-weaker}
use Rattle.object_maps.specs.Cached.{HasNoneAt, OnlyLeft}
use Rattle.pool_tables.specs.Forgotten.{HasNoneOf}
use Rattle.pool_tables.proofs.blocks.forget_all.Goals as goal

-- what has no entry has none after entries went
none_left : (old new : List (ℕ × List ℕ)) → OnlyLeft old new → (addresses : List ℕ) → HasNoneOf addresses old → HasNoneOf addresses new
none_left old new left addresses none =
    All-weaker (λ address. HasNoneAt address old) (λ address. HasNoneAt address new) (λ address has payload there. has payload (left address payload there)) addresses none

pub loop-address-preserved : goal.loop-address-preserved
loop-address-preserved g c =
    let so_far = c.loop-address.invariant in
    let told = c.forget.ensures in
    let cached = g.B.BlockReader.cached in (
      told.size ∙ so_far.0,
      told.disk ∙ so_far.1,
      told.refused ∙ so_far.2,
      All-more (λ address. HasNoneAt address (cached c.forget.new.self)) c.args.addresses.now c.loop-address.address-index _ c.loop-address-test.true
          (none_left (cached c.loop-address.device) (cached c.forget.new.self) told.left (take c.loop-address.address-index c.args.addresses.now) so_far.3) told.gone,
    )

pub returns-clause-gone : goal.returns-clause-gone
returns-clause-gone g c =
    let all : length c.args.addresses.now ≤ c.loop-address.address-index = omega (arith, c.loop-address-test.false) in
    subst (λ (l : List ℕ). HasNoneOf l (g.B.BlockReader.cached c.loop-address.device)) (take_all c.loop-address.address-index c.args.addresses.now all) c.loop-address.invariant.3
