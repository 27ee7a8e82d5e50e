-- What a walk that notes damages finds, part by part.
use Rattle.std.proofs.Common.{◌≡◌, ◌≢◌, ℕ, ◌+◌, ◌<◌, ◌≤◌, ◌&&◌, Bool, true, false, List, [], ◌∷◌, ◌++◌, length, map, refl, ap, sym, subst, ◌∙◌, arith, inl, inr}
use Rattle.std.specs.Prelude.{Contains, IfErr, IfOk, IsTrue, OnOk, Result, Ok, Err}
use Rattle.std.proofs.lemmas.Bool.{and_from, and_parts}
use Rattle.std.proofs.lemmas.List.{length-append, length-map}
use Rattle.base.specs.declared.error.PoolError.{PoolError}
use Rattle.base.specs.declared.error.PoolError.TheVariants.{Damaged}
use Rattle.base.specs.declared.pointer.Pointer.{Pointer}
use Rattle.base.specs.formats.Blocks.{Frame}
use Rattle.base.specs.formats.Limits.{object_count, object_stride}
use Rattle.base.specs.tree.Places.{Place, IsPlace, levels_in, walk_index_of, walk_index_of_indirect, walk_index_of_object}
use Rattle.base.specs.tree.Damages.{IsSoundAt}
use Rattle.trees.specs.declared.damages.BlockDamage.{BlockDamage}
use Rattle.trees.specs.declared.one_walk.Damages.{Damages}
use Rattle.trees.specs.DamageLists.{AddsDamages, AddsTold, IsJudged, IsListRefusal, block_damage, walk_index_after}
use Rattle.object_maps.specs.BlockReads.{IsLoadRefusal}
use Rattle.trees.specs.Noted.{Finds, IsNoted}
use Rattle.trees.specs.ObjectPaths.{TellsPlace}
use Rattle.trees.specs.Walking.{AreSound, IsDamageFrom, TellsDamage}
use Rattle.trees.proofs.WalkOrder.{damage_behind, sound_none}
use Rattle.trees.proofs.DamageLists.{one_damage, short_added, sound_before}
use Rattle.trees.proofs.WalkParts.{short_tells}

-- the damage of a place that the walk has come to: it is noted, or told
pub place_found : (image : List ℕ) (frame : Frame) (root : Pointer) (place : Place) (start end : ℕ) (error : PoolError) (old new : Damages) (r : Result Bool PoolError) → IsPlace place
    → start ≡ walk_index_of place → end ≡ walk_index_after place → TellsPlace image frame root place error
    → OnOk r (AddsTold error old.list.items new.list.items) → IfErr r (λ e. (kind address : ℕ) → e ≡ Damaged kind address → error ≡ Damaged kind address) → Finds image frame root start end old new r
place_found image frame root place start end error old new (Ok whole) in_range from to tells (kind, address, is, added) told =
    let (kind_is, address_is, bad) = tells kind address is in
    one_damage image frame root place start end old.list.items new.list.items in_range from to bad
    (added ∙ ap (λ (d : BlockDamage). old.list.items ++ d ∷ []) (rw (kind_is, address_is) refl))
place_found image frame root place start end error old new (Err e) in_range from to tells added told = λ kind address is.
    let (kind_is, address_is, bad) = tells kind address (told kind address is) in
    record {
      place = place;
      in_range = in_range;
      kind_is = kind_is;
      address_is = address_is;
      damaged = bad;
      reached = omega (arith, from);
      before = sound_none image frame root start (walk_index_of place) (omega (arith, from));
    }

no_more : {X : Type 0} (old more : List X) → old ≡ old ++ more → length more ≡ 0
no_more old more same = let e : length old ≡ length old + length more = ap length same ∙ length-append old more in omega (arith, e)

-- a part of the walk of which nothing is listed is sound
pub sound_unlisted : (image : List ℕ) (frame : Frame) (root : Pointer) (start end : ℕ) (old new : List BlockDamage) → AddsDamages image frame root start end old new → new ≡ old → AreSound image frame root start end
sound_unlisted image frame root start end old new adds same = record { each = λ place there low high. go place (adds.are.all place there low high) }
  where
    none : length adds.places ≡ 0
    none = sym (length-map adds.places (block_damage image root)) ∙ no_more old (map (block_damage image root) adds.places) (sym same ∙ adds.added)

    no : (place : Place) → Contains adds.places place → ⊥
    no place (k, low, e) = omega (arith, low, none)

    go : (place : Place) → IsJudged image frame root adds.places place → IsSoundAt image frame root place
    go place (inl sound) = sound
    go place (inr (inl there)) = absurd (no place there)
    go place (inr (inr below)) = absurd (no below.0 below.1)

-- a walk that is refused for a damage has noted none before
pub tells_after : (image : List ℕ) (frame : Frame) (root : Pointer) (start middle begin : ℕ) (e : PoolError) (old now : Damages) (whole : Bool) → start ≤ middle → middle ≡ begin
    → IsNoted old now whole → AddsDamages image frame root start middle old.list.items now.list.items
    → ((kind address : ℕ) → e ≡ Damaged kind address → now.goes_on ≡ false) → TellsDamage image frame root begin e → TellsDamage image frame root start e
tells_after image frame root start middle begin e old now whole low here noted adds ends tells = λ kind address d.
    let first : old.goes_on ≡ false = sym noted.mode ∙ ends kind address d in
    damage_behind image frame root start middle kind address low
    (sound_unlisted image frame root start middle old.list.items now.list.items adds (noted.kept (noted.first first)))
    (subst (λ (i : ℕ). IsDamageFrom image frame root i kind address) (sym here) (tells kind address d))

-- no part yet, and one part after another
pub noted_none : (damages : Damages) → IsNoted damages damages true
noted_none damages = record { mode = refl; first = λ ends. refl; kept = λ whole. refl; grown = omega arith; noted = λ damaged. let no : true ≡ false = damaged in cc }

pub noted_then : (old between new : Damages) (first second : Bool) → IsNoted old between first → IsNoted between new second → IsNoted old new (first && second)
noted_then old between new first second one two = record {
  mode = two.mode ∙ one.mode;
  first = λ ends. and_from first second (one.first ends) (two.first (one.mode ∙ ends));
  kept = λ all. let both = and_parts first second all in two.kept both.1 ∙ one.kept both.0;
  grown = omega (arith, one.grown, two.grown);
  noted = more first second one.noted two.noted;
}
  where
    more : (first second : Bool) → (first ≡ false → length old.list.items < length between.list.items) → (second ≡ false → length between.list.items < length new.list.items)
        → (first && second) ≡ false → length old.list.items < length new.list.items
    more false second here there damaged = let low = here refl in omega (arith, low, two.grown)
    more true second here there damaged = let low = there damaged in omega (arith, one.grown, low)

-- a sound block before the rest of its part
pub found_behind : (image : List ℕ) (frame : Frame) (root : Pointer) (start middle end : ℕ) (old new : Damages) (r : Result Bool PoolError) → start ≤ middle → AreSound image frame root start middle
    → Finds image frame root middle end old new r → Finds image frame root start end old new r
found_behind image frame root start middle end old new (Ok whole) low sound found = sound_before image frame root start middle end old.list.items new.list.items low sound found
found_behind image frame root start middle end old new (Err e) low sound found = λ kind address d. damage_behind image frame root start middle kind address low sound (found kind address d)

-- what holds of a whole part, from what holds of it below, or from nothing
pub if_ok_whole : {P Q : Type 0} (r : Result Bool PoolError) → (P → Q) → IfOk r (λ whole. IsTrue whole → P) → IfOk r (λ whole. IsTrue whole → Q)
if_ok_whole (Ok whole) f p = λ all. f (p all)
if_ok_whole (Err e) f p = tt

pub if_ok_from : {Q : Type 0} (r : Result Bool PoolError) → Q → IfOk r (λ whole. IsTrue whole → Q)
if_ok_from (Ok whole) q = λ all. q
if_ok_from (Err e) q = tt

pub if_ok_all : {P Q R S : Type 0} (r : Result Bool PoolError) → (P → Q → R → S) → OnOk r P → IfOk r (λ whole. IsTrue whole → Q) → IfOk r (λ whole. IsTrue whole → R)
    → IfOk r (λ whole. IsTrue whole → S)
if_ok_all (Ok whole) f p q s = λ all. f p (q all) (s all)
if_ok_all (Err e) f p q s = tt

pub on_ok_always : {A P : Type 0} (r : Result A PoolError) → P → OnOk r P
on_ok_always (Ok a) p = p
on_ok_always (Err e) p = tt

pub if_ok_parts : {P Q R S : Type 0} (r : Result Bool PoolError) → (P → Q → R → S) → OnOk r P → OnOk r Q → IfOk r (λ whole. IsTrue whole → R) → IfOk r (λ whole. IsTrue whole → S)
if_ok_parts (Ok whole) f p q s = λ all. f p q (s all)
if_ok_parts (Err e) f p q s = tt

-- the damages of an object of one level are those of its first strip
pub short_found : (image : List ℕ) (frame : Frame) (root : Pointer) (n : ℕ) (old new : Damages) (r : Result Bool PoolError) → n < object_count → levels_in image root n ≢ 2
    → Finds image frame root (walk_index_of_indirect n) (walk_index_of_indirect n + 85) old new r → Finds image frame root (walk_index_of_object n) (walk_index_of_object n + object_stride) old new r
short_found image frame root n old new (Ok whole) low one found = short_added image frame root n old.list.items new.list.items low one found
short_found image frame root n old new (Err e) low one found = short_tells image frame root n e low one found

-- a walk that notes damages is refused for none
pub refused_reading : (old : Damages) (e : PoolError) → old.goes_on ≡ true → ((kind address : ℕ) → e ≡ Damaged kind address → old.goes_on ≡ false) → IsLoadRefusal e → IsListRefusal e
refused_reading old e on ends (inl none) = inl none
refused_reading old e on ends (inr (inl read)) = inr read
refused_reading old e on ends (inr (inr damaged)) = absurd (let off : true ≡ false = sym on ∙ ends damaged.0 damaged.1 damaged.2 in cc)
