-- A list of the lengths of all objects has each of them at its number.
use Rattle.std.proofs.Common.{◌≡◌, ◌<◌, ℕ, map, sym, ◌∙◌, arith}
use Rattle.std.specs.Prelude.{Option, None}
use Rattle.std.specs.List.{range_with_len}
use Rattle.std.proofs.lemmas.List.FromFn.{fill_by_all, get_or-map-range_with_len, length-map-range_with_len}
use Rattle.base.specs.formats.Limits.{object_count}
use Rattle.base.specs.history.Contents.{Contents}
use Rattle.base.specs.steps.Shown.{length_at, listed}
use Rattle.base.specs.steps.Steps.{AreLengthsOf}

length_at-listed : (lengths : ℕ → Option ℕ) (n : ℕ) → n < object_count → length_at (listed lengths) n ≡ lengths n
unfolding listed
length_at-listed lengths n low = get_or-map-range_with_len lengths 0 object_count n n None low (omega arith)

-- lengths that agree are listed alike
pub same_listed : (old new : ℕ → Option ℕ) → ((n : ℕ) → n < object_count → old n ≡ new n) → listed old ≡ listed new
unfolding listed
same_listed old new same = fill_by_all new (map old (range_with_len 0 object_count)) object_count None (length-map-range_with_len old 0 object_count) (λ n low. length_at-listed old n low ∙ same n low)

-- lengths are those of contents exactly if the listed ones are
pub lengths_stay_listed : (c : Contents) (lengths : ℕ → Option ℕ) → AreLengthsOf c lengths → AreLengthsOf c (length_at (listed lengths))
lengths_stay_listed c lengths are = λ n low. length_at-listed lengths n low ∙ are n low

pub listed_lengths_are : (c : Contents) (lengths : ℕ → Option ℕ) → AreLengthsOf c (length_at (listed lengths)) → AreLengthsOf c lengths
listed_lengths_are c lengths are = λ n low. sym (length_at-listed lengths n low) ∙ are n low
