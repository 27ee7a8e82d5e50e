-- The lines of what was measured are written part by part.
use Rattle.std.proofs.Common.{◌≡◌, ◌++◌, List, Option, Result, Err, Ok, ℕ, subst}
use Rattle.std.specs.Io.KnownBytes.{Appends}
use Rattle.std.specs.Prelude.{OnOk}
use Rattle.std.proofs.KnownBytes.{Appends-trans}
use Rattle.benchmarks.specs.declared.measured.Measured.{Measured}
use Rattle.rates.specs.Rates.{rate_of}
use Rattle.benchmarks.specs.Printed.{count_lines, measured_lines, rate_lines, time_lines}

-- three texts that were written one after another are one text, if the last one was written
joined : {E : Type 0} (written : Result (Unit {0}) E) (a b c d : Option (List ℕ)) (xs ys zs : List ℕ) → Appends a b xs → Appends b c ys → OnOk written (Appends c d zs)
    → OnOk written (Appends a d (xs ++ (ys ++ zs)))
joined (Ok x) a b c d xs ys zs first second third = Appends-trans a b d xs (ys ++ zs) first (Appends-trans b c d ys zs second third)
joined (Err e) a b c d xs ys zs first second third = tt

pub measured_written : {E : Type 0} (written : Result (Unit {0}) E) (a b c d : Option (List ℕ)) (m : Measured) (commits bytes flushes : ℕ)
    → commits ≡ rate_of m.commits m.time → bytes ≡ rate_of m.bytes m.time → flushes ≡ rate_of m.flushes m.time
    → Appends a b (count_lines m) → Appends b c (rate_lines commits bytes flushes) → OnOk written (Appends c d (time_lines m)) → OnOk written (Appends a d (measured_lines m))
measured_written written a b c d m commits bytes flushes commits_are bytes_are flushes_are counts rates times =
    let same : rate_lines commits bytes flushes ≡ rate_lines (rate_of m.commits m.time) (rate_of m.bytes m.time) (rate_of m.flushes m.time) = cc in
    joined written a b c d (count_lines m) _ (time_lines m) counts (subst (λ (lines : List ℕ). Appends b c lines) same rates) times
