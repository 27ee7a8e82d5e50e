-- How a command on an object by its name ends that was not done.
use Rattle.std.specs.Prelude.{ℕ}
use Rattle.read_commands.specs.declared.name_causes.NameFailure.{NameFailure}
use Rattle.read_commands.specs.declared.name_causes.NameFailure.TheVariants.{Name, Plain}
use Rattle.read_commands.specs.Failures.{failure_status}

-- the status of a failure
abbrev pub name_failure_status : NameFailure → ℕ
name_failure_status (Name cause) = 1
name_failure_status (Plain failure) = failure_status failure
