-- Records of the log as code has them, and when one is refused its spelling.
use Rattle.std.specs.Prelude.{ℕ, ◌≡◌, ◌&&◌, Bool, not, List, [], ◌∷◌, map, nat_le, nat_lt, Result, Ok, Err, Option, Some, None}
use Rattle.std.specs.List.{list_all}
use Rattle.std.specs.Borrow.{Bor}
use Rattle.base.specs.declared.error.PoolError.{PoolError}
use Rattle.base.specs.declared.error.PoolError.TheVariants.{BadRange, TooLarge}
use Rattle.base.specs.declared.operation.Op.{Op}
use Rattle.base.specs.formats.Limits.{last_number, max_log_record}
use Rattle.base.specs.formats.Records as formats
use Rattle.base.specs.formats.Records.{is_content_allowed, size_of}
use Rattle.base.specs.history.Plans.{shape_of, is_shape_allowed, is_plan_allowed}
use Rattle.base.specs.steps.Refusals.{Test, refused_if, first_refusal}
use Rattle.records.specs.declared.record.Record.{Record}

-- the fields that definitions of records speak of
abbrev pub record_fields : Record → formats.Record
record_fields r = record { group = r.group.0; ordinal = r.ordinal.0; ops = r.ops }

-- whether an operation is within its limits
abbrev pub is_op_allowed : Op → Bool
is_op_allowed op = is_shape_allowed (shape_of op) && is_content_allowed op

-- whether there is an operation, and each is within its limits
abbrev pub are_ops_allowed : List Op → Bool
are_ops_allowed ops = is_plan_allowed (map shape_of ops) && list_all is_content_allowed ops

-- whether a record is within its limits, except for its size
abbrev pub is_in_limits : formats.Record → Bool
is_in_limits r = nat_le r.group last_number && nat_le r.ordinal last_number && are_ops_allowed r.ops

-- why a record is not encoded; want of memory comes after these
abbrev pub encode_tests : formats.Record → List Test
encode_tests r =
    refused_if (not (is_in_limits r)) BadRange
    ∷ refused_if (nat_lt max_log_record (size_of r)) TooLarge ∷ []

abbrev pub encode_refusal : formats.Record → Option PoolError
encode_refusal r = first_refusal (encode_tests r)

-- bytes are decoded as this record and these bytes after it, unless memory runs out
abbrev pub Decodes : Result (Option (Record × Bor (List ℕ))) PoolError → formats.Record → List ℕ → Type 0
Decodes (Ok (Some (found, after))) r rest = (record_fields found ≡ r) × (after.now ≡ rest)
Decodes (Ok None) r rest = ⊥
Decodes (Err e) r rest = Unit {0}
