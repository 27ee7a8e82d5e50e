-- What the changes of three groups, laid over bytes one after the other, give.
use Rattle.std.proofs.Common.{◌≡◌, ℕ, ◌⊎◌, inl, inr, true, subst, sym, List, length}
use Rattle.std.specs.Prelude.{is_some}
use Rattle.std.specs.Ordering.{nat_cmp}
use Rattle.std.specs.FinMap as finite
use Rattle.std.specs.FinMap.{FinMap}
use Rattle.tree_blocks.specs.Sources.{AreBytesFrom, object_bytes}
use Rattle.extents.specs.LaidReads.{LaysOnBelow}
use Rattle.extents.specs.Objects.{HidesBelow}
use Rattle.extents.specs.Patches.{Patches, laid_over}
use Rattle.extents.proofs.LaidReads.{over_below}

pub lays_on_all : (first second third : Patches) (n offset : ℕ) (a b c d : List ℕ) → length b ≡ length a → length c ≡ length a → LaysOnBelow first n offset a b → LaysOnBelow second n offset b c → LaysOnBelow third n offset c d
    → (below : FinMap nat_cmp (List ℕ)) → is_some (finite.get (laid_over third (laid_over second (laid_over first below))) n) ≡ true
    → (HidesBelow (third n) offset (length a) ⊎ (HidesBelow (second n) offset (length a) ⊎ HidesBelow (first n) offset (length a))) ⊎ AreBytesFrom offset (object_bytes below n) a
    → AreBytesFrom offset (object_bytes (laid_over third (laid_over second (laid_over first below))) n) d
lays_on_all first second third n offset a b c d long longer one two three below there known = by known
  where
    from_second : (is_some (finite.get (laid_over second (laid_over first below)) n) ≡ true → AreBytesFrom offset (object_bytes (laid_over second (laid_over first below)) n) c)
        → AreBytesFrom offset (object_bytes (laid_over third (laid_over second (laid_over first below))) n) d
    from_second = over_below third n offset (laid_over second (laid_over first below)) c d three there

    from_first : (is_some (finite.get (laid_over first below) n) ≡ true → AreBytesFrom offset (object_bytes (laid_over first below) n) b)
        → AreBytesFrom offset (object_bytes (laid_over third (laid_over second (laid_over first below))) n) d
    from_first reads = from_second (λ some. over_below second n offset (laid_over first below) b c two some reads)

    by : (HidesBelow (third n) offset (length a) ⊎ (HidesBelow (second n) offset (length a) ⊎ HidesBelow (first n) offset (length a))) ⊎ AreBytesFrom offset (object_bytes below n) a
        → AreBytesFrom offset (object_bytes (laid_over third (laid_over second (laid_over first below))) n) d
    by (inl (inl hides)) = three (laid_over second (laid_over first below)) there (inl (subst (λ (k : ℕ). HidesBelow (third n) offset k) (sym longer) hides))
    by (inl (inr (inl hides))) = from_second (λ some. two (laid_over first below) some (inl (subst (λ (k : ℕ). HidesBelow (second n) offset k) (sym long) hides)))
    by (inl (inr (inr hides))) = from_first (λ some. one below some (inl hides))
    by (inr reads) = from_first (λ some. one below some (inr reads))
