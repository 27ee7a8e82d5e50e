-- What callers of `give_back` conclude: once it gives none, those from the header on are left.
use Rattle.std.proofs.Common.{◌≡◌, ℕ, Bool, true, false, ◌<◌, ◌≤◌, List, [], ◌∷◌, length, sym, ap, refl, ◌∙◌, arith}
use Rattle.std.specs.Prelude.{IfNone, IfSome, Option, None, Some, filter, is_some, nat_le, nat_lt}
use Rattle.std.proofs.lemmas.Bool.{le-leb, lt-leb, ltb-false}
use Rattle.base.specs.formats.Chain.{Header}
use Rattle.base.specs.steps.Logs.{KeptBlock, blocks_before}
use Rattle.intent_log.specs.Kept.{IsFrontGiven, RunLog}

-- the kept blocks that the end of a sync leaves
abbrev pub blocks_from : Header → List KeptBlock → List KeptBlock
blocks_from header kept = filter (λ (b : KeptBlock). nat_le header.number b.number) kept

-- each block that comes back is none of them
pub given_is_before : (header : Header) (old new : List KeptBlock) (given : Option ℕ) → IfSome given (IsFrontGiven header old new) → is_some given ≡ true
    → (blocks_from header old ≡ blocks_from header new) × (length new < length old)
given_is_before header old new None front some = absurd cc
given_is_before header old new (Some address) front some =
    let here : blocks_from header (front.block ∷ new) ≡ blocks_from header new = rw (lt-leb header.number front.block.number front.below) refl in
    let long : length old ≡ length (front.block ∷ new) = ap (λ (l : List KeptBlock). length l) front.front in
    (ap (λ (l : List KeptBlock). blocks_from header l) front.front ∙ here, omega (arith, long))

-- and once none comes back, all that are left are of them
all_from : (header : Header) (kept : List KeptBlock) → blocks_before header kept ≡ [] → blocks_from header kept ≡ kept
all_from header [] none = refl
all_from header (b ∷ bs) none = by_test (nat_lt b.number header.number) refl (all_from header bs)
  where
    by_test : (before : Bool) → before ≡ nat_lt b.number header.number → (blocks_before header bs ≡ [] → blocks_from header bs ≡ bs) → blocks_from header (b ∷ bs) ≡ b ∷ bs
    by_test true is all = absurd (let e : b ∷ blocks_before header bs ≡ [] = rw (sym is) at none in cc)
    by_test false is all =
        let le : header.number ≤ b.number = ltb-false b.number header.number (sym is) in
        let rest : blocks_before header bs ≡ [] = rw (sym is) at none in
        rw (le-leb header.number b.number le) (ap (λ (l : List KeptBlock). b ∷ l) (all rest))

pub none_is_before : (header : Header) (old new : RunLog) (given : Option ℕ) → IfNone given (blocks_before header old.kept ≡ []) → IfNone given (new ≡ old) → is_some given ≡ false
    → new.kept ≡ blocks_from header old.kept
none_is_before header old new None none same end = ap (λ (k : RunLog). k.kept) same ∙ sym (all_from header old.kept none)
none_is_before header old new (Some address) none same end = absurd cc
