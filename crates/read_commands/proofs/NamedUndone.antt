-- Why a look-up of a name failed, and how a command ends whose device was only read before.
use Rattle.std.proofs.Common.{◌≡◌, inl, inr, ℕ, List, Option, Result, Ok, Err, Some, refl, subst, sym, ◌∙◌}
use Rattle.std.specs.Prelude.{IfErr, IfOk, IsTrue}
use Rattle.base.specs.declared.error.PoolError.{PoolError}
use Rattle.base.specs.declared.names.ObjectId.{ObjectId}
use Rattle.base.specs.declared.range.Range.{Range}
use Rattle.base.specs.disk.Disk.{Disk, bytes_of}
use Rattle.command_arguments.specs.declared.reports.Scope.{Scope}
use Rattle.command_arguments.specs.declared.reports.Scope.TheVariants.{Path, Whole}
use Rattle.device_model.specs.declared.device.SectorDevice.{Ghosts}
use Rattle.file_devices.specs.declared.held_file.FileRefusal.{FileRefusal}
use Rattle.read_commands.specs.Checks.{MountsWhole}
use Rattle.read_commands.specs.Failures.{IsFailureFor}
use Rattle.read_commands.specs.NameFailures.{name_failure_status}
use Rattle.read_commands.specs.NamedObjects.{IsUnknown}
use Rattle.read_commands.specs.NamedTables.{IsTableChecked, IsTableIn, table_range}
use Rattle.read_commands.specs.NamedUndone.{GetsNamedUndone, IsFindFailure, IsNameFound, IsTableFound}
use Rattle.read_commands.specs.PathReads.{TellsPath}
use Rattle.read_commands.specs.Reads.{MountsRange}
use Rattle.read_commands.specs.Scopes.{IsAssured}
use Rattle.read_commands.specs.Undone.{EndsUndone, GetsUndone, HasRange, IsGetRefused, IsLookFailure}
use Rattle.read_commands.specs.declared.failure.Failure.{Failure}
use Rattle.read_commands.specs.declared.failure.Failure.TheVariants.{Unusable}
use Rattle.read_commands.specs.declared.name_causes.NameCause.TheVariants.{Unknown}
use Rattle.read_commands.specs.declared.name_causes.NameFailure.{NameFailure}
use Rattle.read_commands.specs.declared.name_causes.NameFailure.TheVariants.{Name, Plain}
use Rattle.read_commands.proofs.ScopedReads.{kept}
use Rattle.read_commands.proofs.Undone.{refused_status}

-- a file that was not opened
pub unopened : {Dev : Type 0} (R : Dev → Dev → PoolError → Type 0) (F : Dev → Type 0) (opened after : Result Dev FileRefusal) (cause : FileRefusal) (status : ℕ)
    → opened ≡ Err cause → status ≡ 3 → EndsUndone R F opened after status
unopened {Dev = Dev} R F opened after cause status is three =
    subst (λ (o : Result Dev FileRefusal). EndsUndone R F o after status) (sym is) (inl (Unusable cause, refl, three))

module _ {Dev : Type 0} (D : Ghosts Dev) where
  -- a look-up that failed has status 1
  pub find_status : (scope : Scope) (name : List ℕ) (old new : Dev) (why : NameFailure) → IsFindFailure D scope name old new why → name_failure_status why ≡ 1
  find_status scope name old new (Name cause) is = refl
  find_status scope name old new (Plain why) (e, refused, is) = refused_status e why is

  module _ (scope : Scope) (old new : Dev) where
    abbrev keep : Type 0
    keep = IsTrue D.keeps_model

    abbrev image : List ℕ
    image = bytes_of (D.disk old).now

    -- the table that was read, and why it wasn't
    pub table_found : (read : Result (Option (List ℕ)) PoolError) (o table : Option (List ℕ)) → read ≡ Ok o → o ≡ table
        → (IsAssured scope keep image → IfOk read (IsTableIn image)) → (scope ≡ Path → keep → IfOk read (IsTableChecked image)) → IsTableFound scope keep image table
    table_found read o table is same mounted checked = record {
      mounted = λ all. subst (IsTableIn image) same (subst (λ (r : Result (Option (List ℕ)) PoolError). IfOk r (IsTableIn image)) is (mounted all));
      checked = λ path keeps. subst (IsTableChecked image) same (subst (λ (r : Result (Option (List ℕ)) PoolError). IfOk r (IsTableChecked image)) is (checked path keeps));
    }

    pub table_refused : (name : List ℕ) (read : Result (Option (List ℕ)) PoolError) (e : PoolError) (why : Failure) → read ≡ Err e → IfErr read (IsGetRefused D scope 0 table_range old new) → IsFailureFor e why
        → IsFindFailure D scope name old new (Plain why)
    table_refused name read e why is refused cause = (e, subst (λ (r : Result (Option (List ℕ)) PoolError). IfErr r (IsGetRefused D scope 0 table_range old new)) is refused, cause)

    -- no object has the name in it
    pub none_found : (name table : List ℕ) (found : Result ObjectId NameFailure) → IsTableFound scope keep image (Some table) → IfErr found (λ why. (why ≡ Name Unknown) × IsUnknown table name)
        → IfErr found (IsFindFailure D scope name old new)
    none_found name table (Ok n) is_table unknown = tt
    none_found name table (Err why) is_table (is, unknown) = subst (IsFindFailure D scope name old new) (sym is) (table, is_table, unknown)

    -- so a get by name ends, and one of a file that was not opened
    pub find_undone : (name : List ℕ) (range : Range) (opened : Result Dev FileRefusal) (found : Result ObjectId NameFailure) (why : NameFailure) (status : ℕ) → opened ≡ Ok old → found ≡ Err why
        → IfErr found (IsFindFailure D scope name old new) → status ≡ name_failure_status why → GetsNamedUndone D scope name range opened (Ok new) status
    find_undone name range opened found why status is failed look same =
        subst (λ (o : Result Dev FileRefusal). GetsNamedUndone D scope name range o (Ok new) status) (sym is)
        (inl (why, new, refl, subst (λ (r : Result ObjectId NameFailure). IfErr r (IsFindFailure D scope name old new)) failed look, same))

    -- and so one of a name that can't be found
    pub unknown_status : (name : List ℕ) (range : Range) (after : Result Dev FileRefusal) (status : ℕ) → GetsNamedUndone D scope name range (Ok old) after status → ((n : ℕ) → IsNameFound scope keep image name n → ⊥) → status ≡ 1
    unknown_status name range after status (inl (why, last, same, look, is)) none = is ∙ find_status scope name old last why look
    unknown_status name range after status (inr (n, found, undone)) none = absurd (none n found)

  pub unopened_undone : (scope : Scope) (name : List ℕ) (range : Range) (opened after : Result Dev FileRefusal) (cause : FileRefusal) (status : ℕ) → opened ≡ Err cause → status ≡ 3
      → GetsNamedUndone D scope name range opened after status
  unopened_undone scope name range opened after cause status is three = subst (λ (o : Result Dev FileRefusal). GetsNamedUndone D scope name range o after status) (sym is) three

  -- the device was only read before, so what was refused of it, or not done, is so of the device before
  module _ (old mid : Dev) (same : IsTrue D.keeps_model → D.disk mid ≡ D.disk old) where
    pub refused_before : (scope : Scope) (object : ℕ) (range : Range) (new : Dev) (e : PoolError) → IsGetRefused D scope object range mid new e → IsGetRefused D scope object range old new e
    refused_before Whole object range new e is = is
    refused_before Path object range new e is = record {
      readers = is.readers;
      undamaged = λ keeps whole. is.undamaged keeps (subst (λ (d : Disk). MountsWhole (bytes_of d.now)) (sym (same keeps)) whole);
      damaged = λ keeps kind address damage. subst (λ (d : Disk). TellsPath (bytes_of d.now) object range e kind address) (same keeps) (is.damaged keeps kind address damage);
    }

    look_before : (scope : Scope) (object : ℕ) (range : Range) (after : Result Dev FileRefusal) (why : Failure) → IsLookFailure (IsGetRefused D scope object range) (Ok mid) after why
        → IsLookFailure (IsGetRefused D scope object range) (Ok old) after why
    look_before scope object range (Ok new) why (e, refused, is) = (e, refused_before scope object range new e refused, is)
    look_before scope object range (Err cause) why is = absurd is

    range_before : (scope : Scope) (object : ℕ) (range : Range) → HasRange D scope object range mid → HasRange D scope object range old
    range_before scope object range there = λ all.
        let disk = same (kept scope (IsTrue D.keeps_model) (bytes_of (D.disk old).now) all) in
        subst (λ (d : Disk). MountsRange (bytes_of d.now) object range) disk (there (subst (λ (d : Disk). IsAssured scope (IsTrue D.keeps_model) (bytes_of d.now)) (sym disk) all))

    undone_before : (scope : Scope) (object : ℕ) (range : Range) (after : Result Dev FileRefusal) (status : ℕ) → GetsUndone D scope object range (Ok mid) after status → GetsUndone D scope object range (Ok old) after status
    undone_before scope object range after status (inl (why, look, is)) = inl (why, look_before scope object range after why look, is)
    undone_before scope object range after status (inr (three, there)) = inr (three, range_before scope object range there)

    -- so the get of the object that was found ended
    pub got_undone : (scope : Scope) (name : List ℕ) (n : ℕ) (range : Range) (opened after : Result Dev FileRefusal) (status : ℕ) → opened ≡ Ok old
        → IsNameFound scope (IsTrue D.keeps_model) (bytes_of (D.disk old).now) name n → GetsUndone D scope n range (Ok mid) after status → GetsNamedUndone D scope name range opened after status
    got_undone scope name n range opened after status is found undone =
        subst (λ (o : Result Dev FileRefusal). GetsNamedUndone D scope name range o after status) (sym is) (inr (n, found, undone_before scope n range after status undone))
