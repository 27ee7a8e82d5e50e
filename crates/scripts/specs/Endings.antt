-- How a script ends.
use Rattle.std.specs.Prelude.{ℕ}
use Rattle.scripts.specs.declared.script.Ending.{Ending}
use Rattle.scripts.specs.declared.script.Ending.TheVariants.{Done, Refused, BadLine, Failed}

-- the status of a script that ended so
abbrev pub status_number : Ending → ℕ
status_number Done = 0
status_number Refused = 1
status_number BadLine = 2
status_number Failed = 3
