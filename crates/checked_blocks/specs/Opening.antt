-- Which blocks a reader accepts.
use Rattle.std.specs.Prelude.{ℕ, ◌≡◌, List, IfSome}
use Rattle.base.specs.declared.error.PoolError.{PoolError}
use Rattle.base.specs.declared.error.PoolError.TheVariants.{Damaged}
use Rattle.base.specs.declared.names.Group.{Group}
use Rattle.base.specs.formats.Fields.{part, number_at}
use Rattle.base.specs.formats.Blocks.{IsSealed}
use Rattle.checked_blocks.specs.declared.expected.Expected.{Expected}

-- the check agrees with the bytes, and every field that is expected is there
pub record IsExpected (block : List ℕ) (e : Expected) : Type 0 where
  pub agrees : IsSealed block
  pub kind : number_at block 0 ≡ e.kind
  pub guid : number_at block 8 ≡ e.guid
  pub number : number_at block 24 ≡ e.number
  pub group : IfSome e.group (λ (g : Group). number_at block 16 ≡ g.0)
  pub check : IfSome e.check (λ (c : List ℕ). part block 32 32 ≡ c)

-- what a reader says of a block that is not as expected
abbrev pub damage_of : Expected → PoolError
damage_of e = Damaged e.kind e.address
