-- The numbers and the names of the refusals.
use Rattle.std.specs.Prelude.{ℕ, List, codes}
use Rattle.base.specs.declared.error.PoolError.{PoolError}
use Rattle.base.specs.declared.error.PoolError.TheVariants.{NoMemory, Read, Write, Flush, Suspended, NoPool, Damaged, BadGeometry, NoObject, Exists, BadRange, OutOfPlan, NotLocked, Busy, LockInUse, NoSpace, Throttled, TooLarge, NoSuchTransaction, NotReady, NoSuchLock, TooMany, NoLogSpace}

abbrev pub number_of_error : PoolError → ℕ
number_of_error NoMemory = 1
number_of_error Read = 2
number_of_error Write = 3
number_of_error Flush = 4
number_of_error Suspended = 5
number_of_error NoPool = 6
number_of_error (Damaged kind address) = 7
number_of_error BadGeometry = 8
number_of_error NoObject = 9
number_of_error Exists = 10
number_of_error BadRange = 11
number_of_error OutOfPlan = 12
number_of_error NotLocked = 13
number_of_error Busy = 14
number_of_error LockInUse = 15
number_of_error NoSpace = 16
number_of_error Throttled = 17
number_of_error TooLarge = 18
number_of_error NoSuchTransaction = 19
number_of_error NotReady = 20
number_of_error NoSuchLock = 21
number_of_error TooMany = 22
number_of_error NoLogSpace = 23

-- the bytes of the name of a refusal
abbrev pub name_of_error : PoolError → List ℕ
name_of_error NoMemory = codes "NoMemory"
name_of_error Read = codes "Read"
name_of_error Write = codes "Write"
name_of_error Flush = codes "Flush"
name_of_error Suspended = codes "Suspended"
name_of_error NoPool = codes "NoPool"
name_of_error (Damaged kind address) = codes "Damaged"
name_of_error BadGeometry = codes "BadGeometry"
name_of_error NoObject = codes "NoObject"
name_of_error Exists = codes "Exists"
name_of_error BadRange = codes "BadRange"
name_of_error OutOfPlan = codes "OutOfPlan"
name_of_error NotLocked = codes "NotLocked"
name_of_error Busy = codes "Busy"
name_of_error LockInUse = codes "LockInUse"
name_of_error NoSpace = codes "NoSpace"
name_of_error Throttled = codes "Throttled"
name_of_error TooLarge = codes "TooLarge"
name_of_error NoSuchTransaction = codes "NoSuchTransaction"
name_of_error NotReady = codes "NotReady"
name_of_error NoSuchLock = codes "NoSuchLock"
name_of_error TooMany = codes "TooMany"
name_of_error NoLogSpace = codes "NoLogSpace"
