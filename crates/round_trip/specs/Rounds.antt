-- What an import shows and its moment, a pool as an import left it, and a new one.
use Rattle.std.specs.Prelude.{ℕ, ◌≡◌, ◌+◌, List, None}
use Rattle.std.specs.FinMap as finite
use Rattle.base.specs.tree.Mount.{MountsTo}
use Rattle.base.specs.formats.Uberblocks.{Uberblock, IsActive}
use Rattle.base.specs.history.Contents.{Contents}
use Rattle.base.specs.steps.Shown.{Shown}
use Rattle.mounted.specs.ShownMounted.{shown_of_import}
use Rattle.mounted.specs.declared.mounted.Mounted.{Mounted}

-- an import of these bytes shows the contents that they mount
abbrev pub ShowsMountedContents : List ℕ → Contents → Type 0
ShowsMountedContents now shown = (contents : Contents) → MountsTo now contents → shown ≡ contents

-- the active uberblock of these bytes has this moment
pub record HasMoment (now : List ℕ) (moment : ℕ) : Type 0 where
  pub u : Uberblock
  pub active : IsActive now u
  pub moment_is : u.moment ≡ moment

-- an import of the image at this moment left these bytes: their active uberblock has the moment, and is of the image's
-- pool, four groups later
pub record IsOpened (image now : List ℕ) (moment : ℕ) : Type 0 where
  pub before : Uberblock
  pub was_active : IsActive image before
  pub after : HasMoment now moment
  pub guid : after.u.guid ≡ before.guid
  pub group : after.u.group ≡ before.group + 4

-- a pool as an import mounted it: no step was made since
pub record IsJustMounted (s : Shown) : Type 0 where
  pub mounted : Mounted
  pub shown_is : s ≡ shown_of_import mounted

-- the contents of a new pool: this name and no object
pub record AreNew (name : List ℕ) (contents : Contents) : Type 0 where
  pub name_is : contents.name ≡ name
  pub empty : (n : ℕ) → finite.get contents.objects n ≡ None
