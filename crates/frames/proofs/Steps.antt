-- Steps of reading, each of which gives a value or an error.
use Rattle.std.proofs.Common.{◌≡◌, Bool, true, false, Option, Some, None, Result, Ok, Err, refl, ap}
use Rattle.frames.specs.Reading.{◌>>=◌, error_if, or_error}
use Rattle.frames.specs.declared.error.FrameError.{FrameError}

-- the value of a step that did not fail
pub bind_ok : {A B : Type 0} (r : Result A FrameError) (f : A → Result B FrameError) (y : B) → (r >>= f) ≡ Ok y → (x : A) × (r ≡ Ok x) × (f x ≡ Ok y)
bind_ok (Ok x) f y e = (x, refl, e)
bind_ok (Err refusal) f y e = absurd cc

-- a step that gave this value
pub bind-ok : {A B : Type 0} (r : Result A FrameError) (f : A → Result B FrameError) (x : A) → r ≡ Ok x → (r >>= f) ≡ f x
bind-ok r f x e = ap (λ (o : Result _ FrameError). o >>= f) e

abbrev pub ok : {A : Type 0} → A → Result A FrameError
ok x = Ok x

pub ok_is : {A : Type 0} (x y : A) → ok x ≡ ok y → x ≡ y
ok_is x y e = cc

-- what was there
pub there : {A : Type 0} (e : FrameError) (o : Option A) (x : A) → or_error e o ≡ Ok x → o ≡ Some x
there e (Some y) x h = cc
there e None x h = absurd cc

-- a test that did not refuse
pub passes : (b : Bool) (e : FrameError) (x : Unit {0}) → error_if b e ≡ Ok x → b ≡ false
passes true e x h = absurd cc
passes false e x h = refl
