-- What a pool contains, and what each operation makes of it.
use Rattle.std.specs.Prelude.{cond, ◌==◌, option_map, ℕ, ◌+◌, ◌-◌, List, [], ◌∷◌, ◌++◌, take, drop, replicate, length, Option, Some, None, Result, Ok, Err}
use Rattle.std.specs.Ordering.{nat_cmp}
use Rattle.std.specs.FinMap as map
use Rattle.std.specs.FinMap.{FinMap}
use Rattle.base.specs.declared.operation.Op.{Op}
use Rattle.base.specs.declared.operation.Op.TheVariants.{Create, Remove, Write, SetLength, SetName}
use Rattle.base.specs.declared.error.PoolError.{PoolError}
use Rattle.base.specs.history.Sequences.{and_then}
use Rattle.base.specs.declared.error.PoolError.TheVariants.{NoObject, Exists}

-- a name, and the bytes of each object that is there, by its number
pub record Contents : Type 0 where
  pub name : List ℕ
  pub objects : FinMap nat_cmp (List ℕ)

-- the bytes up to this length, with zeros where there are none
abbrev pub resize : ℕ → List ℕ → List ℕ
resize n bytes = take n bytes ++ replicate (n - length bytes) 0

-- a write at an offset; what lies between the old end and the offset is zeros
abbrev pub bytes_after_write : ℕ → List ℕ → List ℕ → List ℕ
bytes_after_write offset new bytes = resize offset bytes ++ new ++ drop (offset + length new) bytes

-- an object after an operation on it, where None is no object, or why the operation can't take place
abbrev pub created : Option (List ℕ) → Result (Option (List ℕ)) PoolError
created None = Ok (Some [])
created (Some bytes) = Err Exists

abbrev pub removed : Option (List ℕ) → Result (Option (List ℕ)) PoolError
removed None = Err NoObject
removed (Some bytes) = Ok None

abbrev pub changed : (List ℕ → List ℕ) → Option (List ℕ) → Result (Option (List ℕ)) PoolError
changed f None = Err NoObject
changed f (Some bytes) = Ok (Some (f bytes))

abbrev pub stored : FinMap nat_cmp (List ℕ) → ℕ → Option (List ℕ) → FinMap nat_cmp (List ℕ)
stored objects n None = map.remove objects n
stored objects n (Some bytes) = map.insert objects n bytes

abbrev pub with_object : Contents → ℕ → Option (List ℕ) → Contents
with_object c n object = record { name = c.name; objects = stored c.objects n object }

-- the contents after an operation on one object
abbrev pub at_object : ℕ → (Option (List ℕ) → Result (Option (List ℕ)) PoolError) → Contents → Result Contents PoolError
at_object n f c = and_then (f (map.get c.objects n)) (λ object. Ok (with_object c n object))

-- the contents after an operation, or why it can't take place
abbrev pub apply : Op → Contents → Result Contents PoolError
apply (Create n) c = at_object n.0 created c
apply (Remove n) c = at_object n.0 removed c
apply (Write n offset bytes) c = at_object n.0 (changed (bytes_after_write offset bytes)) c
apply (SetLength n length) c = at_object n.0 (changed (resize length)) c
apply (SetName bytes) c = Ok (record { name = bytes; objects = c.objects })

-- the name that an operation gives, or else the one that was given before, if one was
abbrev pub name_given : Op → Option (List ℕ) → Option (List ℕ)
name_given (Create n) before = before
name_given (Remove n) before = before
name_given (Write n offset bytes) before = before
name_given (SetLength n size) before = before
name_given (SetName bytes) before = Some bytes

-- the name that operations give last, or else the one that was given before
abbrev pub name_given_by_all : List Op → Option (List ℕ) → Option (List ℕ)
name_given_by_all [] before = before
name_given_by_all (op ∷ ops) before = name_given_by_all ops (name_given op before)

-- an object after an operation that takes place, by its number
abbrev pub object_after : ℕ → Op → Option (List ℕ) → Option (List ℕ)
object_after n (Create m) object = cond (n == m.0) (Some []) object
object_after n (Remove m) object = cond (n == m.0) None object
object_after n (Write m offset bytes) object = cond (n == m.0) (option_map (bytes_after_write offset bytes) object) object
object_after n (SetLength m size) object = cond (n == m.0) (option_map (resize size) object) object
object_after n (SetName bytes) object = object

-- the length of an object, if it is there
abbrev pub length_of : Contents → ℕ → Option ℕ
length_of c n = option_map length (map.get c.objects n)
