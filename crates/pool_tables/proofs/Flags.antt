-- A test and its negation.
use Rattle.std.specs.Prelude.{Option, Some, None, is_some, option_map}
use Rattle.std.proofs.Common.{◌≡◌, ◌↔◌, Bool, true, false, not, refl, sym}

pub from_not_false : (r b : Bool) → r ≡ not b → r ≡ false → b ≡ true
from_not_false r true e h = refl
from_not_false r false e h = cc

pub from_not_true : (r b : Bool) → r ≡ not b → r ≡ true → b ≡ false
from_not_true r true e h = cc
from_not_true r false e h = refl

-- two tests that apply at once
pub same_test : {a b : Bool} → (a ≡ true) ↔ (b ≡ true) → b ≡ a
same_test {a} {b} both = go a b both
  where
    go : (x y : Bool) → (x ≡ true) ↔ (y ≡ true) → y ≡ x
    go true y h = h.0 refl
    go false true h = sym (h.1 refl)
    go false false h = refl

-- a value that is seen by a function is there where it is
pub is_some-map : {A B : Type 0} (f : A → B) (o : Option A) → is_some (option_map f o) ≡ is_some o
is_some-map f None = refl
is_some-map f (Some a) = refl
