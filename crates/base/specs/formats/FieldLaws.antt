-- What holds of fields that are written.
use Rattle.std.specs.Prelude.{ℕ, ◌≡◌, ◌≤◌, ◌<◌, ◌+◌, ◌^◌, ◌⊎◌, List, length}
use Rattle.base.specs.declared.pointer.Pointer.{Pointer}
use Rattle.base.specs.disk.Disk.{put}
use Rattle.base.specs.formats.Fields.{number_at, number_bytes, pointer_at, pointer_bytes}

-- a number that is written reads back
abbrev pub FieldsReadBack : Type 0
FieldsReadBack = (at n : ℕ) (bytes : List ℕ) → at + 8 ≤ length bytes → n < 2 ^ 64 → number_at (put at (number_bytes n) bytes) at ≡ n

-- a pointer that is written reads back
abbrev pub PointersReadBack : Type 0
PointersReadBack = (at : ℕ) (p : Pointer) (bytes : List ℕ) → at + 48 ≤ length bytes → p.address < 2 ^ 64 → p.birth < 2 ^ 64 → length p.check ≡ 32
    → pointer_at (put at (pointer_bytes p) bytes) at ≡ p

-- a number stays where something else is written
abbrev pub FieldsStay : Type 0
FieldsStay = (place : ℕ) (content bytes : List ℕ) (at : ℕ) → place + length content ≤ length bytes → (place + length content ≤ at) ⊎ (at + 8 ≤ place)
    → number_at (put place content bytes) at ≡ number_at bytes at
