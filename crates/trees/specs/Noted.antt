-- What a walk makes of the damages that it comes to: it ends at the first, or notes each and goes on.
use Rattle.std.specs.Prelude.{ℕ, ◌≡◌, ◌<◌, ◌≤◌, Bool, true, false, IsTrue, List, Some, Result, MatchResult, length}
use Rattle.base.specs.declared.error.PoolError.{PoolError}
use Rattle.base.specs.declared.error.PoolError.TheVariants.{Damaged}
use Rattle.base.specs.declared.pointer.Pointer.{Pointer}
use Rattle.base.specs.formats.Blocks.{Frame}
use Rattle.tree_blocks.specs.declared.forms.Entry.{Entry}
use Rattle.tree_blocks.specs.declared.tree.ObjectEntry.{ObjectEntry}
use Rattle.trees.specs.declared.one_walk.Damages.{Damages}
use Rattle.trees.specs.declared.walk.ToldObject.{ToldObject}
use Rattle.trees.specs.DamageLists.{AddsDamages}
use Rattle.trees.specs.Walking.{TellsDamage}

-- a part of a walk that came to its end: it is whole where a damage would have ended the walk, and of a whole part
-- nothing is noted, of any other something
pub record IsNoted (old new : Damages) (whole : Bool) : Type 0 where
  pub mode : new.goes_on ≡ old.goes_on
  pub first : old.goes_on ≡ false → whole ≡ true
  pub kept : IsTrue whole → new.list.items ≡ old.list.items
  pub grown : length old.list.items ≤ length new.list.items
  pub noted : whole ≡ false → length old.list.items < length new.list.items

-- and of any part: a damage ends the walk only where none is to be noted
abbrev pub Notes : Damages → Damages → Result Bool PoolError → Type 0
Notes old new result = MatchResult result (λ whole. IsNoted old new whole) (λ e. (kind address : ℕ) → e ≡ Damaged kind address → old.goes_on ≡ false)

-- the places of the walk from one index up to another: their damages are noted, or a Damaged tells the first one
abbrev pub Finds : List ℕ → Frame → Pointer → ℕ → ℕ → Damages → Damages → Result Bool PoolError → Type 0
Finds image frame root start end old new result = MatchResult result (λ whole. AddsDamages image frame root start end old.list.items new.list.items) (λ e. TellsDamage image frame root start e)

-- what is kept of an object that was walked
abbrev pub kept_entry : Entry → ToldObject → ObjectEntry
kept_entry entry object = record { length = Some entry.length; pointer = entry.pointer; strips = object.strips }
