-- What a bench prints.
use Rattle.std.specs.Prelude.{ℕ, ◌++◌, codes, List, Option}
use Rattle.std.specs.Fmt.{decimal}
use Rattle.std.specs.Io.KnownBytes.{Appends}
use Rattle.benchmarks.specs.Measured.{HasTimes}
use Rattle.benchmarks.specs.declared.measured.Measured.{Measured}
use Rattle.rates.specs.Rates.{rate_of}

-- the lines of the counts and of the time
abbrev pub count_lines : Measured → List ℕ
count_lines m =
    codes "commits " ++ (decimal m.commits ++ (codes "\nbytes " ++ (decimal m.bytes ++ (codes "\nflushes " ++ (decimal m.flushes ++ (codes "\ntime " ++ (decimal m.time ++ codes "\n")))))))

-- the lines of so many commits, bytes and flushes in a second
abbrev pub rate_lines : (commits bytes flushes : ℕ) → List ℕ
rate_lines commits bytes flushes =
    codes "commits_per_second " ++ (decimal commits ++ (codes "\nbytes_per_second " ++ (decimal bytes ++ (codes "\nflushes_per_second " ++ (decimal flushes ++ codes "\n")))))

-- the lines of how long calls took
abbrev pub time_lines : Measured → List ℕ
time_lines m =
    codes "middle " ++ (decimal m.middle ++ (codes "\npercentile_99 " ++ (decimal m.percentile_99 ++ (codes "\nlongest " ++ (decimal m.longest ++ codes "\n")))))

-- a line for each number: the counts and the time, the rates, and how long calls took
abbrev pub measured_lines : Measured → List ℕ
measured_lines m = count_lines m ++ (rate_lines (rate_of m.commits m.time) (rate_of m.bytes m.time) (rate_of m.flushes m.time) ++ time_lines m)

-- the lines of what was measured of such calls were written
pub record PrintsMeasured (bytes : ℕ) (old new : Option (List ℕ)) : Type 0 where
  pub printed : Measured
  pub has : HasTimes bytes printed
  pub writes : Appends old new (measured_lines printed)
