-- Why a command that changes an object by its name is not done.
use Rattle.std.specs.Prelude.{ℕ, ◌≡◌, ◌⊎◌, ◌&&◌, Bool, false, List, Option, Result, Ok, Err}
use Rattle.base.specs.declared.error.PoolError.{PoolError}
use Rattle.commands.specs.Puts.{bad_number_of, is_target}
use Rattle.commands.specs.declared.named_steps.NameRefusal.{NameRefusal}
use Rattle.commands.specs.declared.named_steps.NameRefusal.TheVariants as refused
use Rattle.read_commands.specs.declared.name_causes.NameCause.TheVariants.{NoName}
use Rattle.read_commands.specs.declared.name_causes.NameFailure.{NameFailure}
use Rattle.read_commands.specs.declared.name_causes.NameFailure.TheVariants.{Name, Plain}
use Rattle.object_names.specs.Names.{is_name}
use Rattle.read_commands.specs.Failures.{IsFailureFor}
use Rattle.read_commands.specs.declared.failure.Failure.TheVariants.{OutOfRange}

-- what the engine said of steps
abbrev pub by_engine : Result (Unit {0}) PoolError → Result (Unit {0}) NameRefusal
by_engine (Ok done) = Ok done
by_engine (Err e) = Err (refused.Engine e)

-- the failure of a command for a refusal
abbrev pub IsNameFailureFor : NameRefusal → NameFailure → Type 0
IsNameFailureFor (refused.Name cause) why = why ≡ Name cause
IsNameFailureFor (refused.Engine e) (Plain why) = IsFailureFor e why
IsNameFailureFor (refused.Engine e) (Name cause) = ⊥

-- some object may have this name, and these bytes at this offset
abbrev pub is_named_target : List ℕ → Option ℕ → List ℕ → Bool
is_named_target name offset bytes = is_name name && is_target 0 offset bytes

-- a put is not done for that, and its pool is not opened: the name comes first
abbrev pub IsEarlyFailure : List ℕ → Option ℕ → List ℕ → NameFailure → Type 0
IsEarlyFailure name offset bytes why = ((is_name name ≡ false) × (why ≡ Name NoName))
    ⊎ ((is_target 0 offset bytes ≡ false) × (why ≡ Plain (OutOfRange (bad_number_of 0 offset bytes))))
