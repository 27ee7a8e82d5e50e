-- What a read of an object by the blocks that lead to it says of the image, whatever the other blocks hold.
use Rattle.std.specs.Prelude.{ℕ, ◌≡◌, ◌⊎◌, List, None}
use Rattle.base.specs.declared.error.PoolError.{PoolError}
use Rattle.base.specs.declared.error.PoolError.TheVariants.{Damaged}
use Rattle.base.specs.declared.range.Range.{Range}
use Rattle.inspections.specs.PoolDamages.{IsOfNoDamage}
use Rattle.object_views.specs.ObjectViews.{IsCheckedRead, IsObjectViewOf, TellsBetween, TellsOwnDamage, length_seen, object_of}
use Rattle.object_views.specs.declared.view.ObjectView.{ObjectView}
use Rattle.read_commands.specs.Checks.{MountsWhole}
use Rattle.read_commands.specs.Reads.{IsReadersRefusal}

-- each byte of this range of the object is one of its own log records, or lies in sound blocks
abbrev pub IsCheckedRange : List ℕ → ℕ → Range → List ℕ → Type 0
IsCheckedRange image object range bytes = (v : ObjectView) × (seen : IsObjectViewOf image v) × (object_of v ≡ object) × IsCheckedRead image seen.u.root v range bytes

-- the blocks that lead to the object, and its own log records, say that there is no such object
abbrev pub IsUnseen : List ℕ → ℕ → Type 0
IsUnseen image object = (v : ObjectView) × IsObjectViewOf image v × (object_of v ≡ object) × (length_seen v ≡ None)

-- A Damaged tells the root, the object's directory or the piece of one of its log records, or a block of a record that
-- has a byte of the range.
abbrev pub TellsPath : List ℕ → ℕ → Range → PoolError → ℕ → ℕ → Type 0
TellsPath image object range e kind address =
    TellsOwnDamage image object e kind address
    ⊎ ((v : ObjectView) × (seen : IsObjectViewOf image v) × (object_of v ≡ object) × TellsBetween image seen.u.root v range.low range.high e)

-- A read by path is refused: no write and no flush was refused. If the image mounts, no damage is told, and else one that
-- is there.
pub record IsPathRefusal (keeps : Type 0) (image : List ℕ) (object : ℕ) (range : Range) (e : PoolError) : Type 0 where
  pub readers : IsReadersRefusal e
  pub undamaged : keeps → MountsWhole image → IsOfNoDamage e
  pub damaged : keeps → (kind address : ℕ) → e ≡ Damaged kind address → TellsPath image object range e kind address
