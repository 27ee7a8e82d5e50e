-- What a line's words ask for.
use Rattle.std.specs.Prelude.{◌≡◌, ◌<◌, ◌^◌, ◌⊎◌, ℕ, List, [], Some, Result, All, Ok, Err, IfErr, IfOk, IsOk, IsOkAnd, IsOkUnless, IsSome, codes, drop, length, map, unwrap_or, vec_len}
use Rattle.std.specs.Result.{OkIff}
use Rattle.std.specs.Borrow.{Bor}
use Rattle.base.specs.declared.range.Mode.TheVariants.{Reader}
use Rattle.base.specs.declared.step.Step.{Step}
use Rattle.base.specs.declared.step.Step.TheVariants as step
use Rattle.device_model.specs.declared.fault.Fault.{Fault}
use Rattle.script_lines.specs.declared.command.Command.{Command}
use Rattle.script_lines.specs.declared.command.Command.TheVariants.{Create, Import, Crash, Fail, Pool}
use Rattle.script_lines.specs.declared.command.LineError.{LineError}
use Rattle.script_lines.specs.declared.command.LineError.TheVariants.{NoMemory}
use Rattle.script_lines.specs.declared.command.PoolCommand.{PoolCommand}
use Rattle.script_lines.specs.declared.command.PoolCommand.TheVariants as pool
use Rattle.script_lines.specs.Copies.{AreContents, AreContentsOf}
use Rattle.script_lines.specs.Letters.{call_name, mode_of, piece_of}
use Rattle.script_lines.specs.Numbers.{IsNumberBelow, spelled_number}
use Rattle.script_lines.specs.Shapes.{AreShapesOf, IsShapesRefusal}
use Rattle.script_lines.specs.Words.{ArePartsOf, BeginsWith, HasForm, Words, word}

-- a crash with one piece for each letter
abbrev pub IsCrashOf : List ℕ → Command → Type 0
IsCrashOf letters (Crash pieces) = map Some pieces.items ≡ map piece_of letters
IsCrashOf letters _ = ⊥

-- the n-th such call from now is to fail, and n is at least 1
abbrev pub IsFailOf : List ℕ → List ℕ → Command → Type 0
IsFailOf call count (Fail fault n) = (call ≡ call_name fault) × IsNumberBelow (2 ^ 64) count × (n ≡ spelled_number count) × (0 < n)
IsFailOf call count _ = ⊥

-- a begin of this owner, which is a number, with a shape for each of these words
abbrev pub IsBeginOf : List ℕ → Words → Step → Type 0
IsBeginOf owner words (step.Begin o plan) = IsNumberBelow (2 ^ 32) owner × (o.0 ≡ spelled_number owner) × (length plan ≡ length words) × AreShapesOf words plan
IsBeginOf owner words _ = ⊥

-- a commit of this transaction, which is a number, with the bytes of these words
abbrev pub IsCommitOf : List ℕ → List (Bor (List ℕ)) → PoolCommand → Type 0
IsCommitOf tx words (pool.Commit t contents) = IsNumberBelow (2 ^ 64) tx × (t.0 ≡ spelled_number tx) × (vec_len contents ≡ length words) × AreContentsOf words contents.items
IsCommitOf tx words _ = ⊥

-- the lines of a step that writes or flushes the log, or reports whether a commit is durable
abbrev pub IsLoggingForm : Words → Type 0
IsLoggingForm words = HasForm words (codes "log-write") 1 ⊎ (HasForm words (codes "log-flush") 1 ⊎ HasForm words (codes "durable") 3)

-- those of a step that reports what the contents are, where an object ends, or what the pool's groups and sums are, or
-- of one of the log
abbrev pub IsTellingForm : Words → Type 0
IsTellingForm words = HasForm words (codes "append") 3 ⊎ (HasForm words (codes "length") 2 ⊎ (HasForm words (codes "digest") 1
    ⊎ (HasForm words (codes "name") 1 ⊎ (HasForm words (codes "status") 1 ⊎ IsLoggingForm words))))

-- those of a step that lets a lock go, gives a transaction up, or tells something
abbrev pub IsEndingForm : Words → Type 0
IsEndingForm words = HasForm words (codes "unlock") 3 ⊎ (HasForm words (codes "abort") 2 ⊎ IsTellingForm words)

-- the lines that are a step
abbrev pub IsStepForm : Words → Type 0
IsStepForm words = HasForm words (codes "lock") 6 ⊎ (BeginsWith words (codes "begin") 2 ⊎ (HasForm words (codes "read") 5
    ⊎ (HasForm words (codes "close") 1 ⊎ (HasForm words (codes "quiesce") 1 ⊎ (HasForm words (codes "step") 1 ⊎ IsEndingForm words)))))

-- the lines that ask a pool for something
abbrev pub IsPoolForm : Words → Type 0
IsPoolForm words = BeginsWith words (codes "commit") 2 ⊎ (HasForm words (codes "start") 1 ⊎ (HasForm words (codes "finish") 1
    ⊎ (HasForm words (codes "sync") 1 ⊎ IsStepForm words)))

-- the lines that work on the device as it is, and on the pool there
abbrev pub IsDeviceForm : Words → Type 0
IsDeviceForm words = HasForm words (codes "fail") 3 ⊎ IsPoolForm words

-- the lines that are a command
abbrev pub IsLineForm : Words → Type 0
IsLineForm words = HasForm words (codes "create") 3 ⊎ (HasForm words (codes "import") 2 ⊎ (HasForm words (codes "import") 3 ⊎ (HasForm words (codes "crash") 1
    ⊎ (HasForm words (codes "crash") 2 ⊎ IsDeviceForm words))))

module _ {A : Type 0} (of : Step → A) where
  -- a lock of these words: owner, object, r or w, low and high
  abbrev pub ReadsLockOf : List ℕ → List ℕ → List ℕ → List ℕ → List ℕ → Result A LineError → Type 0
  ReadsLockOf owner object mode low high r = OkIff r
      (IsNumberBelow (2 ^ 32) owner × IsNumberBelow (2 ^ 32) object × IsSome (mode_of mode) × IsNumberBelow (2 ^ 64) low × IsNumberBelow (2 ^ 64) high)
      (of (step.Lock (record { 0 = spelled_number owner }) (record { 0 = spelled_number object }) (record { low = spelled_number low; high = spelled_number high })
      (unwrap_or (mode_of mode) Reader)))

  -- a read of these words: owner, object, low and high
  abbrev pub ReadsReadOf : List ℕ → List ℕ → List ℕ → List ℕ → Result A LineError → Type 0
  ReadsReadOf owner object low high r = OkIff r
      (IsNumberBelow (2 ^ 32) owner × IsNumberBelow (2 ^ 32) object × IsNumberBelow (2 ^ 64) low × IsNumberBelow (2 ^ 64) high)
      (of (step.Read (record { 0 = spelled_number owner }) (record { 0 = spelled_number object }) (record { low = spelled_number low; high = spelled_number high })))

module _ {A : Type 0} (of : Step → A) (words : Words) (r : Result A LineError) where
  -- a `lock` line
  abbrev pub ReadsLock : Type 0
  ReadsLock = HasForm words (codes "lock") 6 → ReadsLockOf of (word words 1) (word words 2) (word words 3) (word words 4) (word words 5) r

  -- an `append` line: owner and object
  abbrev pub ReadsAppend : Type 0
  ReadsAppend = HasForm words (codes "append") 3 → OkIff r
      (IsNumberBelow (2 ^ 32) (word words 1) × IsNumberBelow (2 ^ 32) (word words 2))
      (of (step.LockAppend (record { 0 = spelled_number (word words 1) }) (record { 0 = spelled_number (word words 2) })))

  -- a `length` line: an object
  abbrev pub ReadsLength : Type 0
  ReadsLength = HasForm words (codes "length") 2 → OkIff r
      (IsNumberBelow (2 ^ 32) (word words 1)) (of (step.Length (record { 0 = spelled_number (word words 1) })))

  -- an `unlock` line: owner and lock
  abbrev pub ReadsUnlock : Type 0
  ReadsUnlock = HasForm words (codes "unlock") 3 → OkIff r
      (IsNumberBelow (2 ^ 32) (word words 1) × IsNumberBelow (2 ^ 64) (word words 2))
      (of (step.Unlock (record { 0 = spelled_number (word words 1) }) (record { 0 = spelled_number (word words 2) })))

  -- a `begin` line: an owner, and a shape for each further word
  abbrev pub ReadsBegin : Type 0
  ReadsBegin = BeginsWith words (codes "begin") 2 → IfOk r (λ a. (s : Step) × (a ≡ of s) × IsBeginOf (word words 1) (drop 2 words) s)

  -- an `abort` line: a transaction
  abbrev pub ReadsAbort : Type 0
  ReadsAbort = HasForm words (codes "abort") 2 → OkIff r
      (IsNumberBelow (2 ^ 64) (word words 1)) (of (step.Abort (record { 0 = spelled_number (word words 1) })))

  -- a `read` line
  abbrev pub ReadsRead : Type 0
  ReadsRead = HasForm words (codes "read") 5 → ReadsReadOf of (word words 1) (word words 2) (word words 3) (word words 4) r

  -- a `durable` line: ordinal and group
  abbrev pub ReadsDurable : Type 0
  ReadsDurable = HasForm words (codes "durable") 3 → OkIff r
      (IsNumberBelow (2 ^ 64) (word words 1) × IsNumberBelow (2 ^ 64) (word words 2))
      (of (step.Durable (record { ordinal = record { 0 = spelled_number (word words 1) }; group = record { 0 = spelled_number (word words 2) } })))

-- what the words of a step of the log are read as
pub record ReadsLogging {A : Type 0} (of : Step → A) (words : Words) (r : Result A LineError) : Type 0 where
  pub log_write : HasForm words (codes "log-write") 1 → r ≡ Ok (of step.LogWrite)
  pub log_flush : HasForm words (codes "log-flush") 1 → r ≡ Ok (of step.LogFlush)
  pub durable : ReadsDurable of words r

-- what the words of a step that tells something are read as
pub record ReadsTelling {A : Type 0} (of : Step → A) (words : Words) (r : Result A LineError) : Type 0 where
  pub append : ReadsAppend of words r
  pub length_of : ReadsLength of words r
  pub digest : HasForm words (codes "digest") 1 → r ≡ Ok (of step.Digest)
  pub name : HasForm words (codes "name") 1 → r ≡ Ok (of step.Name)
  pub status : HasForm words (codes "status") 1 → r ≡ Ok (of step.Status)
  pub logging : ReadsLogging of words r

-- what the words of a step that ends or tells something are read as
pub record ReadsEnding {A : Type 0} (of : Step → A) (words : Words) (r : Result A LineError) : Type 0 where
  pub unlock : ReadsUnlock of words r
  pub abort : ReadsAbort of words r
  pub telling : ReadsTelling of words r

-- what the words of a step are read as
pub record ReadsStep {A : Type 0} (of : Step → A) (words : Words) (r : Result A LineError) : Type 0 where
  pub lock : ReadsLock of words r
  pub begin : ReadsBegin of words r
  pub begin_refused : BeginsWith words (codes "begin") 2 → IsNumberBelow (2 ^ 32) (word words 1) → IfErr r (IsShapesRefusal (drop 2 words))
  pub read : ReadsRead of words r
  pub close : HasForm words (codes "close") 1 → r ≡ Ok (of step.CloseGroup)
  pub quiesce : HasForm words (codes "quiesce") 1 → r ≡ Ok (of step.MarkQuiesced)
  pub sync_step : HasForm words (codes "step") 1 → r ≡ Ok (of step.SyncStep)
  pub ending : ReadsEnding of words r

-- What the words of a commit and a sync are read as. A commit whose words are good is read except for want of memory.
pub record ReadsPool {A : Type 0} (of : PoolCommand → A) (words : Words) (r : Result A LineError) : Type 0 where
  pub commit : BeginsWith words (codes "commit") 2 → IfOk r (λ a. (asked : PoolCommand) × (a ≡ of asked) × IsCommitOf (word words 1) (drop 2 words) asked)
  pub commit_read : BeginsWith words (codes "commit") 2 → IsNumberBelow (2 ^ 64) (word words 1) → AreContents (drop 2 words) → IsOkUnless r NoMemory
  pub start : HasForm words (codes "start") 1 → r ≡ Ok (of pool.Start)
  pub finish : HasForm words (codes "finish") 1 → r ≡ Ok (of pool.Finish)
  pub sync : HasForm words (codes "sync") 1 → r ≡ Ok (of pool.Sync)
  pub step : ReadsStep (λ s. of (pool.Step s)) words r

-- what the words of a line that works on the device as it is are read as; a plan to fail is read if its words are
-- those of one
pub record ReadsDeviceLine (words : Words) (r : Result Command LineError) : Type 0 where
  pub fail : HasForm words (codes "fail") 3 → IfOk r (IsFailOf (word words 1) (word words 2))
  pub fail_read : HasForm words (codes "fail") 3 → (fault : Fault) → word words 1 ≡ call_name fault → 0 < spelled_number (word words 2) → IsNumberBelow (2 ^ 64) (word words 2) → IsOk r
  pub pool : ReadsPool Pool words r

-- What the words of a line are read as. Where those of a create or a crash are good, it is read except for want of
-- memory.
pub record ReadsWords (words : Words) (r : Result Command LineError) : Type 0 where
  pub create : HasForm words (codes "create") 3 → IfOk r (λ asked. (asked ≡ Create (word words 1) (spelled_number (word words 2)))
      × (0 < length (word words 1)) × IsNumberBelow (2 ^ 64) (word words 2))
  pub create_read : HasForm words (codes "create") 3 → 0 < length (word words 1) → IsNumberBelow (2 ^ 64) (word words 2) → IsOkUnless r NoMemory
  pub import : HasForm words (codes "import") 2 → OkIff r (IsNumberBelow (2 ^ 64) (word words 1)) (Import (spelled_number (word words 1)) 256)
  pub import_with : HasForm words (codes "import") 3 → OkIff r (IsNumberBelow (2 ^ 64) (word words 1) × IsNumberBelow (2 ^ 64) (word words 2))
      (Import (spelled_number (word words 1)) (spelled_number (word words 2)))
  pub crash : HasForm words (codes "crash") 1 → IsOkAnd r (IsCrashOf [])
  pub crash_of : HasForm words (codes "crash") 2 → IfOk r (IsCrashOf (word words 1))
  pub crash_read : HasForm words (codes "crash") 2 → 0 < length (word words 1) → All (λ letter. IsSome (piece_of letter)) (word words 1) → IsOkUnless r NoMemory
  pub device : ReadsDeviceLine words r

-- a line is read by its words between single spaces (32), or there is no memory for them
abbrev pub ReadsLine : List ℕ → Result Command LineError → Type 0
ReadsLine line r = (r ≡ Err NoMemory) ⊎ ((words : Words) × ArePartsOf 32 line words × ReadsWords words r × (IsOk r → IsLineForm words))
