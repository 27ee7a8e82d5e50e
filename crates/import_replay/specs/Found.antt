-- What an import finds in an image, or finds missing.
use Rattle.std.specs.Prelude.{ℕ, ◌≡◌, ◌↔◌, Bool, IsTrue, List, Option}
use Rattle.base.specs.declared.error.PoolError.{PoolError}
use Rattle.base.specs.declared.error.PoolError.TheVariants.{NoPool}
use Rattle.base.specs.formats.Labels.{Config, IsChoice, IsChosen, IsKeptInOdd, HasNoConfig}
use Rattle.base.specs.formats.Uberblocks.{HasNoUberblock}
use Rattle.labels.specs.Choices.{IsKeptIn}

-- the config that is chosen for a pool and a group has this name
abbrev pub HasName : List ℕ → ℕ → ℕ → List ℕ → Type 0
HasName image guid group name = (found : ℕ) × IsChosen image guid group found name

-- The config that is chosen has this name, and whether the even labels are written first is told rightly: they are
-- exactly if an odd label has the same config, so that it stands until another pair is flushed.
pub record HasFirstStage (image : List ℕ) (guid group : ℕ) (name : List ℕ) (even_first : Bool) : Type 0 where
  pub found : ℕ
  pub chosen : IsChosen image guid group found name
  pub even : IsTrue even_first ↔ IsKeptInOdd image guid found name

-- where this refusal says that there is no pool, no config is one of the pool
abbrev pub LacksName : List ℕ → ℕ → ℕ → PoolError → Type 0
LacksName image guid group e = e ≡ NoPool → HasNoConfig image guid group

-- or no uberblock stands
abbrev pub LacksUberblock : List ℕ → PoolError → Type 0
LacksUberblock image e = e ≡ NoPool → HasNoUberblock image

-- of the configs that were read the one that is chosen has this name
abbrev pub HasChosen : List (Option Config) → ℕ → ℕ → List ℕ → Type 0
HasChosen configs guid group name = (c : Config) × IsChoice configs guid group c × (name ≡ c.name)

-- and the even labels are to be written first exactly if an odd label has the same
abbrev pub HasChosenFirst : List (Option Config) → ℕ → ℕ → List ℕ → Bool → Type 0
HasChosenFirst configs guid group name even_first = (c : Config) × IsChoice configs guid group c × (name ≡ c.name) × (IsTrue even_first ↔ IsKeptIn configs c)
