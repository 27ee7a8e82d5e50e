use Rattle.std.proofs.Common.{ap, sym, subst}
use Rattle.base.specs.history.Plans.{number_range}
use Rattle.range_locks.specs.Parts.{blocks_part, counts_of, IsPlaceOf, IsTableOf}
use Rattle.range_locks.proofs.Blocked.{is_blocked-found}
use Rattle.range_locks.proofs.LockCounts.{counts_still}
use Rattle.range_locks.proofs.NumberParts.{no_ends, no_place, parts_at, place_within}
use Rattle.range_locks.proofs.StoredParts.{nothing_before}
use Rattle.range_locks.proofs.numbers.Numbers.blocks.Goals as goal

pub index-requires : goal.index-requires
index-requires c =
    let numbers = c.args.self.now.parts in
    let n = c.args.range.now.object.0 in
    place_within numbers n c.in-Some.place (subst (IsPlaceOf numbers n) c.in-Some.is c.requires.place)

pub returns-in-Some : goal.returns-in-Some
returns-in-Some c = λ held counted.
    let numbers = c.args.self.now.parts in
    let n = c.args.range.now.object.0 in
    let place = subst (IsPlaceOf numbers n) c.in-Some.is c.requires.place in
    let there = parts_at numbers n c.in-Some.place place _ c.index.ensures in
    let is = subst (λ o. IsTableOf o (counts_of n held.locks)) there (counted.is n) in
    is_blocked-found held counted.are (number_range c.args.range.now) c.requires.some_bytes c.args.mode c.blocks-in-Some.result
    (λ so. c.blocks-in-Some.ensures.some so _ is (counts_still n held.locks)) (λ so. c.blocks-in-Some.ensures.none so _ is (counts_still n held.locks))

pub returns-in-None : goal.returns-in-None
returns-in-None c = λ held counted.
    let n = c.args.range.now.object.0 in
    let none = no_place c.args.self.now.parts n c.args.place c.requires.place (sym c.in-None.is) in
    is_blocked-found held counted.are (number_range c.args.range.now) c.requires.some_bytes c.args.mode _ (λ so. cc)
    (λ so k from below. ap (blocks_part c.args.mode) (sym (nothing_before _ (counts_still n held.locks) k (λ x within. no_ends _ (sym none) _ (counted.is n) x))))
