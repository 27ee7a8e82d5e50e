-- When a create is refused.
use Rattle.std.specs.Prelude.{ℕ, ◌≡◌, false, List}
use Rattle.base.specs.declared.error.PoolError.{PoolError}
use Rattle.base.specs.declared.error.PoolError.TheVariants.{Write, Flush, BadGeometry, BadRange}
use Rattle.base.specs.formats.Geometry.{IsGeometry}
use Rattle.base.specs.formats.Names.{is_name, IsName}

-- a pool of this name can be made on a device of so many bytes
abbrev pub CanCreate : ℕ → List ℕ → Type 0
CanCreate size name = IsGeometry size × IsName name

-- a create on a device of so many bytes is refused: the size comes first, then the name, and then what the device
-- refuses
abbrev pub IsCreateRefusal : ℕ → List ℕ → PoolError → Type 0
IsCreateRefusal size name BadGeometry = IsGeometry size → ⊥
IsCreateRefusal size name BadRange = IsGeometry size × (is_name name ≡ false)
IsCreateRefusal size name Write = CanCreate size name
IsCreateRefusal size name Flush = CanCreate size name
IsCreateRefusal size name _ = ⊥
