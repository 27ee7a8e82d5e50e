-- The configs of four labels, and what is chosen among them.
use Rattle.std.proofs.Common.{◌≡◌, ◌↔◌, ℕ, Bool, zero, suc, List, [], ◌∷◌, Option, Some, None, Result, Ok, Err, IfOk, IfErr, refl, sym, subst}
use Rattle.std.specs.Prelude.{slice_get}
use Rattle.base.specs.declared.error.PoolError.{PoolError}
use Rattle.base.specs.declared.error.PoolError.TheVariants.{NoPool}
use Rattle.base.specs.formats.Labels.{Config, IsChosen, IsKeptInOdd, HasNoCandidate}
use Rattle.labels.specs.Choices.{AreRead, IsKeptIn, IsRead}
use Rattle.labels.proofs.LabelsOfImage.{so_of_image}
use Rattle.import_replay.specs.Found.{HasChosen, HasChosenFirst, HasFirstStage, HasName, LacksName}

-- what holds of an answer's value where something stronger does
pub ok_weaker : {A E : Type 0} (r : Result A E) (P Q : A → Type 0) → ((a : A) → P a → Q a) → IfOk r P → IfOk r Q
ok_weaker (Ok a) P Q weak h = weak a h
ok_weaker (Err e) P Q weak h = tt

pub err_weaker : {A E : Type 0} (r : Result A E) (P Q : E → Type 0) → ((e : E) → P e → Q e) → IfErr r P → IfErr r Q
err_weaker (Ok a) P Q weak h = tt
err_weaker (Err e) P Q weak h = weak e h

pub ok_both : {A E : Type 0} (r : Result A E) (P Q : A → Type 0) → IfOk r P → IfOk r Q → IfOk r (λ a. P a × Q a)
ok_both (Ok a) P Q p q = (p, q)
ok_both (Err e) P Q p q = tt

-- what the four labels hold was read
pub four_read : (image : List ℕ) (a b c d : Option Config) → IsRead image 0 a → IsRead image 1 b → IsRead image 2 c → IsRead image 3 d → AreRead image (a ∷ b ∷ c ∷ d ∷ [])
four_read image a b c d ra rb rc rd = record { count = refl; each = each }
  where
    each : (label : ℕ) (config : Option Config) → slice_get (a ∷ b ∷ c ∷ d ∷ []) label ≡ Some config → IsRead image label config
    each zero config at = let e : a ≡ config = cc in subst (IsRead image 0) e ra
    each (suc zero) config at = let e : b ≡ config = cc in subst (IsRead image 1) e rb
    each (suc (suc zero)) config at = let e : c ≡ config = cc in subst (IsRead image 2) e rc
    each (suc (suc (suc zero))) config at = let e : d ≡ config = cc in subst (IsRead image 3) e rd
    each (suc (suc (suc (suc k)))) config at = absurd (let e : None ≡ Some config = at in cc)

-- the choice is that of the image
pub named : (image : List ℕ) (configs : List (Option Config)) (guid group : ℕ) (name : List ℕ) → AreRead image configs → HasChosen configs guid group name → HasName image guid group name
named image configs guid group name read (c, choice, is) =
    (c.group, subst (λ (n : List ℕ). IsChosen image guid group c.group n) (sym is) ((so_of_image image configs read guid group).chosen c choice).0)

-- and so is the stage that comes first
pub first_named : (image : List ℕ) (configs : List (Option Config)) (guid group : ℕ) (name : List ℕ) (even_first : Bool) → AreRead image configs
    → HasChosenFirst configs guid group name even_first → HasFirstStage image guid group name even_first
first_named image configs guid group name even_first read (c, choice, is, told) =
    let so = so_of_image image configs read guid group in
    let (chosen, pool, size) = so.chosen c choice in
    let kept : IsKeptIn configs c ↔ IsKeptInOdd image guid c.group name =
    subst (λ (n : List ℕ). IsKeptIn configs c ↔ IsKeptInOdd image guid c.group n) (sym is) (subst (λ g. IsKeptIn configs c ↔ IsKeptInOdd image g c.group c.name) pool (so.kept c size)) in
    record {
      found = c.group;
      chosen = subst (λ (n : List ℕ). IsChosen image guid group c.group n) (sym is) chosen;
      even = (λ first. kept.0 (told.0 first), λ odd. told.1 (kept.1 odd));
    }

pub lacks : (image : List ℕ) (configs : List (Option Config)) (guid group : ℕ) (e : PoolError) → AreRead image configs → (e ≡ NoPool → HasNoCandidate configs guid group) → LacksName image guid group e
lacks image configs guid group e read none is = (so_of_image image configs read guid group).none (none is)
