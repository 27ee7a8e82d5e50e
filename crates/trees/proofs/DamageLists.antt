-- A list of a tree's damages grows with the walk, part by part.
use Rattle.std.proofs.Common.{◌≡◌, ◌≢◌, ℕ, ◌+◌, ◌-◌, ◌*◌, ◌/◌, ◌%◌, ◌<◌, ◌≤◌, zero, suc, List, [], ◌∷◌, ◌++◌, length, map, refl, ap, sym, subst, ◌∙◌, arith, append_assoc, ◌⊎◌, inl, inr}
use Rattle.std.specs.Prelude.{Contains}
use Rattle.std.proofs.Math.Nat.{le_refl}
use Rattle.std.proofs.lemmas.Bool.{cases_eq, cases_lt}
use Rattle.std.proofs.lemmas.List.{append-nil, map-append}
use Rattle.std.proofs.lemmas.List.Elements.{Contains-append_left, Contains-append_right, Contains-append_cases}
use Rattle.base.specs.declared.pointer.Pointer.{Pointer}
use Rattle.base.specs.formats.Blocks.{Frame}
use Rattle.base.specs.formats.Fields.{no_pointer, pointer_in}
use Rattle.base.specs.formats.Limits.{entry_count, indirect_count, object_count, object_stride, pointer_count}
use Rattle.base.specs.tree.Places.{Place, IsPlace, kind_of, levels_in, object_of_indirect, strip_number, strip_of, walk_index_of, walk_index_of_indirect, walk_index_of_object, pointer_below, pointer_of}
use Rattle.base.specs.tree.Places.Place.{Root, Directory, Top, Indirect, Data}
use Rattle.base.proofs.tree.LevelPointers.{indirect-first, indirect-later}
use Rattle.base.proofs.tree.Strips.{number-object, number-strip}
use Rattle.base.proofs.tree.WalkIndexes.{same_place}
use Rattle.base.specs.tree.Damages.{IsSoundAt, IsFirstDamage}
use Rattle.trees.specs.declared.damages.BlockDamage.{BlockDamage}
use Rattle.trees.specs.DamageLists.{LiesBelow, block_damage, StandRising, IsJudged, ListsDamages, walk_index_after, AreDamaged, AddsDamages}
use Rattle.trees.specs.Walking.{AreSound, directory_index, objects_index}
use Rattle.trees.proofs.WalkOrder.{index-directory, index-object, index_of_strip, index_within, no_directory-object, no_directory-strip, no_top-strip, object-stride, same-object, same-strip, sound_one}
use Rattle.trees.proofs.WalkParts.{first_index, no_top, short_rest}

behind_some : (w s : ℕ) → 0 < s → w + 1 ≤ w + s
behind_some w s some = omega (arith, some)

stride_some : 0 < object_stride
stride_some = omega (arith, object-stride)

pub behind_directory : (d : ℕ) → directory_index d + 1 ≤ directory_index (d + 1)
behind_directory d = let here = index-directory d in let next = index-directory (d + 1) in by here next
  where
    by : {v w : ℕ} → v ≡ 1 + 449884 * d → w ≡ 1 + 449884 * (d + 1) → v + 1 ≤ w
    by here next = omega (arith, here, next)

behind_itself : (place : Place) → walk_index_of place + 1 ≤ walk_index_after place
behind_itself Root = let last = index-directory 84 in omega (arith, last)
behind_itself (Directory d) = behind_directory d
behind_itself (Top n) = behind_some (walk_index_of_object n) object_stride stride_some
behind_itself (Indirect m) = behind_some (walk_index_of_indirect m) 85 (omega arith)
behind_itself (Data m k) = le_refl (walk_index_of_indirect m + 1 + k + 1)

-- the index of a place of an object, from that of the object
from_object : (m k : ℕ) → walk_index_of_indirect m + 1 + k ≡ walk_index_of_object (object_of_indirect m) + (1 + 85 * strip_of m + (1 + k))
from_object m k = sum (walk_index_of_object (object_of_indirect m)) (strip_of m) k
  where
    sum : (w j k : ℕ) → w + 1 + 85 * j + 1 + k ≡ w + (1 + 85 * j + (1 + k))
    sum w j k = omega arith

from_indirect : (m : ℕ) → walk_index_of_indirect m ≡ walk_index_of_object (object_of_indirect m) + (1 + 85 * strip_of m)
from_indirect m = sum (walk_index_of_object (object_of_indirect m)) (strip_of m)
  where
    sum : (w j : ℕ) → w + 1 + 85 * j ≡ w + (1 + 85 * j)
    sum w j = omega arith

in_object : (m k : ℕ) → m < indirect_count → k < 84 → 1 + 85 * strip_of m + (1 + k) < 7141
in_object m k low inside = let j = number-strip m low in omega (arith, j, inside)

at_indirect : (m : ℕ) → m < indirect_count → 1 + 85 * strip_of m < 7141
at_indirect m low = let j = number-strip m low in omega (arith, j)

-- a place of an object stands in the part of its directory
in_directory : (d q k t : ℕ) → k < 63 → t < 7141 → 1 + 449884 * d < 2 + 449884 * q + 7141 * k + t → 2 + 449884 * q + 7141 * k + t < 1 + 449884 * (d + 1) → q ≡ d
in_directory d q k t low inside after before = omega (arith, low, inside, after, before)

of_directory : (d n t : ℕ) → t < 7141 → directory_index d < walk_index_of_object n + t → walk_index_of_object n + t < directory_index (d + 1) → n / entry_count ≡ d
of_directory d n t inside after before =
    let k : n % 63 < 63 = omega arith in
    let here : walk_index_of_object n + t ≡ 2 + 449884 * (n / 63) + 7141 * (n % 63) + t = ap (λ (w : ℕ). w + t) (index-object n) in
    in_directory d (n / 63) (n % 63) t k inside (between (index-directory d) here after) (between here (index-directory (d + 1)) before)
  where
    between : {a b v w : ℕ} → a ≡ v → b ≡ w → a < b → v < w
    between first second low = omega (arith, first, second, low)

difference : (a b : ℕ) → a < b → b ≡ a + (b - a)
difference a b low = omega (arith, low)

some_difference : (a b : ℕ) → a < b → 0 ≡ b - a → ⊥
some_difference a b low none = omega (arith, low, none)

small_difference : (a b s : ℕ) → a < b → b < a + s → b - a < s
small_difference a b s low high = omega (arith, low, high)

none_between : (a b : ℕ) → a < b → b < a + 1 → ⊥
none_between a b low high = omega (arith, low, high)

plus_none : (w : ℕ) → w ≡ w + 0
plus_none w = omega arith

stride_is : (w b : ℕ) → b < w + object_stride → b < w + 7141
stride_is w b high = omega (arith, high, object-stride)

-- a place of an object that stands behind the top of an object and before its end is one of that object
of_top : (n o t : ℕ) → t < 7141 → walk_index_of_object n < walk_index_of_object o + t → walk_index_of_object o + t < walk_index_of_object n + object_stride → (o ≡ n) × (t ≡ walk_index_of_object o + t - walk_index_of_object n)
of_top n o t inside after before =
    same-object o n t (walk_index_of_object o + t - walk_index_of_object n) inside
    (small_difference (walk_index_of_object n) (walk_index_of_object o + t) 7141 after (stride_is (walk_index_of_object n) (walk_index_of_object o + t) before))
    (difference (walk_index_of_object n) (walk_index_of_object o + t) after)

moved : {a b : ℕ} (v : ℕ) → a ≡ b → v < a → v < b
moved v same low = omega (arith, same, low)

moved_up : {a b : ℕ} (v : ℕ) → a ≡ b → a < v → b < v
moved_up v same low = omega (arith, same, low)

-- what stands in the walk after a place and before the index behind it lies below it
pub below_place : (upper lower : Place) → IsPlace upper → IsPlace lower → walk_index_of upper < walk_index_of lower → walk_index_of lower < walk_index_after upper → LiesBelow upper lower
below_place Root Root hu hl after before = omega (arith, after)
below_place Root (Directory d) hu hl after before = tt
below_place Root (Top n) hu hl after before = tt
below_place Root (Indirect m) hu hl after before = tt
below_place Root (Data m k) hu hl after before = tt
below_place (Directory d) Root hu hl after before = omega (arith, after)
below_place (Directory d) (Directory e) hu hl after before = no_directory_between (index-directory d) (index-directory e) (index-directory (d + 1)) after before
  where
    no_directory_between : {u v w : ℕ} → u ≡ 1 + 449884 * d → v ≡ 1 + 449884 * e → w ≡ 1 + 449884 * (d + 1) → u < v → v < w → ⊥
    no_directory_between first second third low high = omega (arith, first, second, third, low, high)
below_place (Directory d) (Top n) hu hl after before =
    of_directory d n 0 (omega arith) (moved (directory_index d) (plus_none (walk_index_of_object n)) after) (moved_up (directory_index (d + 1)) (plus_none (walk_index_of_object n)) before)
below_place (Directory d) (Indirect m) hu hl after before =
    of_directory d (object_of_indirect m) (1 + 85 * strip_of m) (at_indirect m hl) (moved (directory_index d) (from_indirect m) after) (moved_up (directory_index (d + 1)) (from_indirect m) before)
below_place (Directory d) (Data m k) hu hl after before =
    of_directory d (object_of_indirect m) (1 + 85 * strip_of m + (1 + k)) (in_object m k hl.0 hl.1) (moved (directory_index d) (from_object m k) after) (moved_up (directory_index (d + 1)) (from_object m k) before)
below_place (Top n) Root hu hl after before = omega (arith, after)
below_place (Top n) (Directory e) hu hl after before =
    no_directory-object e n (directory_index e - walk_index_of_object n)
    (small_difference (walk_index_of_object n) (directory_index e) 7141 after (stride_is (walk_index_of_object n) (directory_index e) before)) (difference (walk_index_of_object n) (directory_index e) after)
below_place (Top n) (Top o) hu hl after before =
    let t = of_top n o 0 (omega arith) (moved (walk_index_of_object n) (plus_none (walk_index_of_object o)) after) (moved_up (walk_index_of_object n + object_stride) (plus_none (walk_index_of_object o)) before) in
    some_difference (walk_index_of_object n) (walk_index_of_object o + 0) (moved (walk_index_of_object n) (plus_none (walk_index_of_object o)) after) t.1
below_place (Top n) (Indirect m) hu hl after before =
    (of_top n (object_of_indirect m) (1 + 85 * strip_of m) (at_indirect m hl) (moved (walk_index_of_object n) (from_indirect m) after) (moved_up (walk_index_of_object n + object_stride) (from_indirect m) before)).0
below_place (Top n) (Data m k) hu hl after before =
    (of_top n (object_of_indirect m) (1 + 85 * strip_of m + (1 + k)) (in_object m k hl.0 hl.1) (moved (walk_index_of_object n) (from_object m k) after)
    (moved_up (walk_index_of_object n + object_stride) (from_object m k) before)).0
below_place (Indirect m) Root hu hl after before = omega (arith, after)
below_place (Indirect m) (Directory e) hu hl after before =
    no_directory-strip e m (directory_index e - walk_index_of_indirect m) hu (small_difference (walk_index_of_indirect m) (directory_index e) 85 after before) (difference (walk_index_of_indirect m) (directory_index e) after)
below_place (Indirect m) (Top n) hu hl after before =
    no_top-strip n m (walk_index_of_object n - walk_index_of_indirect m) hu (small_difference (walk_index_of_indirect m) (walk_index_of_object n) 85 after before)
    (difference (walk_index_of_indirect m) (walk_index_of_object n) after)
below_place (Indirect m) (Indirect i) hu hl after before =
    let w : ℕ = walk_index_of_indirect m in
    let t = same-strip i m 0 (walk_index_of_indirect i - w) hl hu (omega arith) (small_difference w (walk_index_of_indirect i) 85 after before)
    (sym (plus_none (walk_index_of_indirect i)) ∙ difference w (walk_index_of_indirect i) after) in
    some_difference w (walk_index_of_indirect i) after t.1
below_place (Indirect m) (Data i k) hu hl after before =
    let w : ℕ = walk_index_of_indirect m in
    let low : 1 + k < 85 = omega (arith, hl.1) in
    (same-strip i m (1 + k) (walk_index_of_indirect i + 1 + k - w) hl.0 hu low (small_difference w (walk_index_of_indirect i + 1 + k) 85 after before)
    (regroup (walk_index_of_indirect i) k ∙ difference w (walk_index_of_indirect i + 1 + k) after)).0
  where
    regroup : (v k : ℕ) → v + (1 + k) ≡ v + 1 + k
    regroup v k = omega arith
below_place (Data m k) lower hu hl after before = none_between (walk_index_of_indirect m + 1 + k) (walk_index_of lower) after before

-- what lies below a place stands behind it in the walk
above : (d n t : ℕ) → n / entry_count ≡ d → directory_index d < walk_index_of_object n + t
above d n t is = by (index-directory d) (index-object n)
  where
    by : {v w : ℕ} → v ≡ 1 + 449884 * d → w ≡ 2 + 449884 * (n / 63) + 7141 * (n % 63) → v < w + t
    by first second = omega (arith, first, second, is)

above_strip : (n o s : ℕ) → o ≡ n → walk_index_of_object n < walk_index_of_object o + 1 + s
above_strip n o s is = rw is (more (walk_index_of_object n) s)
  where
    more : (w s : ℕ) → w < w + 1 + s
    more w s = omega arith

above_record : (m i k : ℕ) → i ≡ m → walk_index_of_indirect m < walk_index_of_indirect i + 1 + k
above_record m i k is = rw is (more (walk_index_of_indirect m) k)
  where
    more : (w s : ℕ) → w < w + 1 + s
    more w s = omega arith

further : (v w j k : ℕ) → v < w + 1 + 85 * j → v < w + 1 + 85 * j + 1 + k
further v w j k low = omega (arith, low)

pub behind_upper : (upper lower : Place) → LiesBelow upper lower → walk_index_of upper < walk_index_of lower
behind_upper Root Root below = absurd below
behind_upper Root (Directory d) below = omega arith
behind_upper Root (Top n) below = omega arith
behind_upper Root (Indirect m) below = omega arith
behind_upper Root (Data m k) below = omega arith
behind_upper (Directory d) Root below = absurd below
behind_upper (Directory d) (Directory e) below = absurd below
behind_upper (Directory d) (Top n) below = moved (directory_index d) (sym (plus_none (walk_index_of_object n))) (above d n 0 below)
behind_upper (Directory d) (Indirect m) below = moved (directory_index d) (sym (from_indirect m)) (above d (object_of_indirect m) (1 + 85 * strip_of m) below)
behind_upper (Directory d) (Data m k) below = moved (directory_index d) (sym (from_object m k)) (above d (object_of_indirect m) (1 + 85 * strip_of m + (1 + k)) below)
behind_upper (Top n) Root below = absurd below
behind_upper (Top n) (Directory e) below = absurd below
behind_upper (Top n) (Top o) below = absurd below
behind_upper (Top n) (Indirect m) below = above_strip n (object_of_indirect m) (85 * strip_of m) below
behind_upper (Top n) (Data m k) below =
    further (walk_index_of_object n) (walk_index_of_object (object_of_indirect m)) (strip_of m) k (above_strip n (object_of_indirect m) (85 * strip_of m) below)
behind_upper (Indirect m) Root below = absurd below
behind_upper (Indirect m) (Directory e) below = absurd below
behind_upper (Indirect m) (Top n) below = absurd below
behind_upper (Indirect m) (Indirect i) below = absurd below
behind_upper (Indirect m) (Data i k) below = above_record m i k below
behind_upper (Data m k) lower below = absurd below

-- each place stands before the end of the walk
before_end : (n t : ℕ) → n < object_count → t < 7141 → walk_index_of_object n + t < directory_index pointer_count
before_end n t low inside = by (index-object n) (index-directory 84)
  where
    by : {v w : ℕ} → v ≡ 2 + 449884 * (n / 63) + 7141 * (n % 63) → w ≡ 1 + 449884 * 84 → v + t < w
    by first second = omega (arith, first, second, low, inside)

pub within_walk : (place : Place) → IsPlace place → walk_index_of place < directory_index pointer_count
within_walk Root h = omega arith
within_walk (Directory d) h = by (index-directory d) (index-directory 84)
  where
    by : {v w : ℕ} → v ≡ 1 + 449884 * d → w ≡ 1 + 449884 * 84 → v < w
    by first second = omega (arith, first, second, h)
within_walk (Top n) h = moved_up (directory_index 84) (sym (plus_none (walk_index_of_object n))) (before_end n 0 h (omega arith))
within_walk (Indirect m) h = moved_up (directory_index 84) (sym (from_indirect m)) (before_end (object_of_indirect m) (1 + 85 * strip_of m) (number-object m) (at_indirect m h))
within_walk (Data m k) h = moved_up (directory_index 84) (sym (from_object m k)) (before_end (object_of_indirect m) (1 + 85 * strip_of m + (1 + k)) (number-object m) (in_object m k h.0 h.1))

-- one part of the walk after another
rising_more : (start middle end : ℕ) (xs ys : List Place) → StandRising start xs middle → StandRising middle ys end → StandRising start (xs ++ ys) end
rising_more start middle end [] [] first second = omega (arith, first, second)
rising_more start middle end [] (y ∷ ys) first second = (omega (arith, first, second.0), second.1)
rising_more start middle end (x ∷ xs) ys first second = (first.0, rising_more (walk_index_after x) middle end xs ys first.1 second)

judged_before : (image : List ℕ) (frame : Frame) (root : Pointer) (xs ys : List Place) (place : Place) → IsJudged image frame root xs place → IsJudged image frame root (xs ++ ys) place
judged_before image frame root xs ys place (inl sound) = inl sound
judged_before image frame root xs ys place (inr (inl listed)) = inr (inl (Contains-append_left xs ys place listed))
judged_before image frame root xs ys place (inr (inr below)) = inr (inr (below.0, Contains-append_left xs ys below.0 below.1, below.2))

judged_behind : (image : List ℕ) (frame : Frame) (root : Pointer) (xs ys : List Place) (place : Place) → IsJudged image frame root ys place → IsJudged image frame root (xs ++ ys) place
judged_behind image frame root xs ys place (inl sound) = inl sound
judged_behind image frame root xs ys place (inr (inl listed)) = inr (inl (Contains-append_right xs ys place listed))
judged_behind image frame root xs ys place (inr (inr below)) = inr (inr (below.0, Contains-append_right xs ys below.0 below.1, below.2))

damaged_more : (image : List ℕ) (frame : Frame) (root : Pointer) (start middle end : ℕ) (xs ys : List Place) → AreDamaged image frame root start middle xs → AreDamaged image frame root middle end ys
    → AreDamaged image frame root start end (xs ++ ys)
damaged_more image frame root start middle end xs ys first second = record {
  damaged = λ place there. damaged place (Contains-append_cases xs ys place there);
  rising = rising_more start middle end xs ys first.rising second.rising;
  all = λ place there low high. all place there low high (cases_lt (walk_index_of place) middle);
}
  where
    damaged : (place : Place) → Contains xs place ⊎ Contains ys place → IsPlace place × (IsSoundAt image frame root place → ⊥)
    damaged place (inl there) = first.damaged place there
    damaged place (inr there) = second.damaged place there

    all : (place : Place) → IsPlace place → start ≤ walk_index_of place → walk_index_of place < end → (walk_index_of place < middle) ⊎ (middle ≤ walk_index_of place) → IsJudged image frame root (xs ++ ys) place
    all place there low high (inl before) = judged_before image frame root xs ys place (first.all place there low before)
    all place there low high (inr behind) = judged_behind image frame root xs ys place (second.all place there behind high)

pub damages_more : (image : List ℕ) (frame : Frame) (root : Pointer) (start middle end : ℕ) (old between new : List BlockDamage) → AddsDamages image frame root start middle old between
    → AddsDamages image frame root middle end between new → AddsDamages image frame root start end old new
damages_more image frame root start middle end old between new first second = record {
  places = first.places ++ second.places;
  added = second.added ∙ ap (λ (l : List BlockDamage). l ++ map (block_damage image root) second.places) first.added
      ∙ append_assoc old (map (block_damage image root) first.places) (map (block_damage image root) second.places)
      ∙ ap (λ (l : List BlockDamage). old ++ l) (sym (map-append (block_damage image root) first.places second.places));
  are = damaged_more image frame root start middle end first.places second.places first.are second.are;
}

-- one part after another, by equal indexes
pub damages_then : (image : List ℕ) (frame : Frame) (root : Pointer) (start middle begin last end : ℕ) (old between new : List BlockDamage) → middle ≡ begin → last ≡ end
    → AddsDamages image frame root start middle old between → AddsDamages image frame root begin last between new → AddsDamages image frame root start end old new
damages_then image frame root start middle begin last end old between new here there first second =
    subst (λ (k : ℕ). AddsDamages image frame root start k old new) there
    (damages_more image frame root start begin last old between new (subst (λ (k : ℕ). AddsDamages image frame root start k old between) here first) second)

-- a sound part of the walk adds nothing
pub no_damages : (image : List ℕ) (frame : Frame) (root : Pointer) (start end : ℕ) (list : List BlockDamage) → start ≤ end → AreSound image frame root start end → AddsDamages image frame root start end list list
no_damages image frame root start end list low sound = record {
  places = [];
  added = sym (append-nil list);
  are = record { damaged = λ place there. absurd (omega (arith, there.1)); rising = low; all = λ place there from to. inl (sound.each place there from to) };
}

-- a place that is damaged is the one damage of all that lies below it
pub one_damage : (image : List ℕ) (frame : Frame) (root : Pointer) (place : Place) (start end : ℕ) (old new : List BlockDamage) → IsPlace place → start ≡ walk_index_of place → end ≡ walk_index_after place
    → (IsSoundAt image frame root place → ⊥) → new ≡ old ++ block_damage image root place ∷ [] → AddsDamages image frame root start end old new
one_damage image frame root place start end old new in_range from to bad is = record {
  places = place ∷ [];
  added = is;
  are = record {
    damaged = λ other there. subst (λ (p : Place). IsPlace p × (IsSoundAt image frame root p → ⊥)) (only other there) (in_range, bad);
    rising = (omega (arith, from), omega (arith, to));
    all = λ other there low high. inr (all other there high (cases_lt (walk_index_of place) (walk_index_of other)) low);
  };
}
  where
    only : (other : Place) → Contains (place ∷ []) other → place ≡ other
    only other (zero, low, is_it) = is_it
    only other (suc k, low, is_it) = absurd (omega (arith, low))

    all : (other : Place) → IsPlace other → walk_index_of other < end → (walk_index_of place < walk_index_of other) ⊎ (walk_index_of other ≤ walk_index_of place) → start ≤ walk_index_of other
        → Contains (place ∷ []) other ⊎ ((upper : Place) × Contains (place ∷ []) upper × LiesBelow upper other)
    all other there high (inl after) low = inr (place, (0, omega arith, refl), below_place place other in_range there after (omega (arith, high, to)))
    all other there high (inr before) low = inl (0, omega arith, same_place place other in_range there (omega (arith, low, before, from)))

next_object : (s k : ℕ) → s + 7141 * k + 7141 ≡ s + 7141 * (k + 1)
next_object s k = omega arith

-- one object more, by its index in the walk
pub object_added : (image : List ℕ) (frame : Frame) (root : Pointer) (d k : ℕ) (old between new : List BlockDamage) → k < entry_count
    → AddsDamages image frame root (objects_index d) (objects_index d + 7141 * k) old between
    → AddsDamages image frame root (walk_index_of_object (entry_count * d + k)) (walk_index_of_object (entry_count * d + k) + object_stride) between new
    → AddsDamages image frame root (objects_index d) (objects_index d + 7141 * (k + 1)) old new
object_added image frame root d k old between new low first second =
    let here = index_within d k low in
    damages_then image frame root (objects_index d) (objects_index d + 7141 * k) (walk_index_of_object (entry_count * d + k)) (walk_index_of_object (entry_count * d + k) + object_stride)
    (objects_index d + 7141 * (k + 1)) old between new (sym here)
    (ap (λ (s : ℕ). walk_index_of_object (entry_count * d + k) + s) object-stride ∙ ap (λ (v : ℕ). v + 7141) here ∙ next_object (objects_index d) k) first second

-- a sound part of the walk after what is listed
pub sound_added : (image : List ℕ) (frame : Frame) (root : Pointer) (start middle end : ℕ) (old new : List BlockDamage) → middle ≤ end → AddsDamages image frame root start middle old new
    → AreSound image frame root middle end → AddsDamages image frame root start end old new
sound_added image frame root start middle end old new low first sound = damages_more image frame root start middle end old new new first (no_damages image frame root middle end new low sound)

-- and before it
pub sound_before : (image : List ℕ) (frame : Frame) (root : Pointer) (start middle end : ℕ) (old new : List BlockDamage) → start ≤ middle → AreSound image frame root start middle
    → AddsDamages image frame root middle end old new → AddsDamages image frame root start end old new
sound_before image frame root start middle end old new low sound last = damages_more image frame root start middle end old old new (no_damages image frame root start middle old low sound) last

-- a tree with no root has no block
none-strip : (image : List ℕ) (m : ℕ) → pointer_of image no_pointer (Indirect m) ≡ no_pointer
none-strip image m = elim (cases_eq (strip_of m) 0) as (λ _. pointer_of image no_pointer (Indirect m) ≡ no_pointer) [
  | inl first ↦ indirect-first image no_pointer m (λ two. absurd (omega (arith, two))) first
  | inr later ↦ indirect-later image no_pointer m (λ two. absurd (omega (arith, two))) later
]

none-below : (image : List ℕ) (place : Place) → pointer_of image no_pointer place ≡ no_pointer
none-below image Root = refl
none-below image (Directory d) = refl
none-below image (Top n) = refl
none-below image (Indirect m) = none-strip image m
none-below image (Data m k) = ap (λ (above : Pointer). pointer_below image above (λ (l : List ℕ). pointer_in l k)) (none-strip image m)

pub no_tree_sound : (image : List ℕ) (frame : Frame) (root : Pointer) (end : ℕ) → root ≡ no_pointer → AreSound image frame root 0 end
no_tree_sound image frame root end none = record {
  each = λ place there low high. inl (ap (λ (r : Pointer). pointer_of image r place) none ∙ none-below image place);
}

-- the damages of the whole walk are those of the tree
pub whole_list : (image : List ℕ) (frame : Frame) (root : Pointer) (list : List BlockDamage) → AddsDamages image frame root 0 (directory_index pointer_count) [] list → ListsDamages image frame root list
whole_list image frame root list walk = record {
  places = walk.places;
  listed = walk.added;
  damaged = walk.are.damaged;
  rising = walk.are.rising;
  all = λ place there. walk.are.all place there (omega arith) (within_walk place there);
}

-- the damages that are listed, and their places
contains-map : {X Y : Type 0} (f : X → Y) (xs : List X) (x : X) → Contains xs x → Contains (map f xs) (f x)
contains-map f [] x (k, low, e) = absurd (omega (arith, low))
contains-map f (y ∷ ys) x (zero, low, e) = (0, omega arith, ap f e)
contains-map f (y ∷ ys) x (suc k, low, e) = let r = contains-map f ys x (k, omega (arith, low), e) in (suc r.0, omega (arith, r.1), r.2)

of-map : {X Y : Type 0} (f : X → Y) (xs : List X) (y : Y) → Contains (map f xs) y → (x : X) × Contains xs x × (f x ≡ y)
of-map f [] y (k, low, e) = absurd (omega (arith, low))
of-map f (x ∷ xs) y (zero, low, e) = (x, (0, omega arith, refl), e)
of-map f (x ∷ xs) y (suc k, low, e) = let r = of-map f xs y (k, omega (arith, low), e) in (r.0, (suc r.1.0, omega (arith, r.1.1), r.1.2), r.2)

-- each damage that is listed is that of a place that is not sound
pub listed_damaged : (image : List ℕ) (frame : Frame) (root : Pointer) (list : List BlockDamage) → ListsDamages image frame root list → (d : BlockDamage) → Contains list d
    → (place : Place) × IsPlace place × (kind_of place ≡ d.kind) × ((pointer_of image root place).address ≡ d.address) × (IsSoundAt image frame root place → ⊥)
listed_damaged image frame root list lists d there =
    let at = of-map (block_damage image root) lists.places d (subst (λ (l : List BlockDamage). Contains l d) lists.listed there) in
    let is = lists.damaged at.0 at.1 in
    (at.0, is.0, ap (λ (b : BlockDamage). b.kind) at.2, ap (λ (b : BlockDamage). b.address) at.2, is.1)

-- a tree of which nothing is listed is sound at each place
pub none_listed : (image : List ℕ) (frame : Frame) (root : Pointer) (list : List BlockDamage) → ListsDamages image frame root list → list ≡ [] → (place : Place) → IsPlace place → IsSoundAt image frame root place
none_listed image frame root list lists none place in_range = go (lists.all place in_range)
  where
    no : (p : Place) → Contains lists.places p → ⊥
    no p there =
        let (k, low, e) = contains-map (block_damage image root) lists.places p there in
        let empty : map (block_damage image root) lists.places ≡ [] = sym lists.listed ∙ none in
        let long : length (map (block_damage image root) lists.places) ≡ 0 = ap (λ (l : List BlockDamage). length l) empty in
        omega (arith, low, long)

    go : IsJudged image frame root lists.places place → IsSoundAt image frame root place
    go (inl sound) = sound
    go (inr (inl there)) = absurd (no place there)
    go (inr (inr below)) = absurd (no below.0 below.1)

-- a damaged place is listed if no place above it is damaged
pub damaged_listed : (image : List ℕ) (frame : Frame) (root : Pointer) (list : List BlockDamage) → ListsDamages image frame root list → (place : Place) → IsPlace place
    → (IsSoundAt image frame root place → ⊥) → ((upper : Place) → LiesBelow upper place → IsSoundAt image frame root upper) → Contains list (block_damage image root place)
damaged_listed image frame root list lists place in_range bad sound_above = go (lists.all place in_range)
  where
    go : IsJudged image frame root lists.places place → Contains list (block_damage image root place)
    go (inl sound) = absurd (bad sound)
    go (inr (inl there)) = subst (λ (l : List BlockDamage). Contains l (block_damage image root place)) (sym lists.listed) (contains-map (block_damage image root) lists.places place there)
    go (inr (inr below)) = absurd ((lists.damaged below.0 below.1).1 (sound_above below.0 below.2))

-- what stands above a directory is the root
pub above_directory : (d : ℕ) (upper : Place) → LiesBelow upper (Directory d) → upper ≡ Root
above_directory d Root below = refl
above_directory d (Directory e) below = absurd below
above_directory d (Top n) below = absurd below
above_directory d (Indirect m) below = absurd below
above_directory d (Data m k) below = absurd below

-- places that stand rising come from the first index on
risen : (start end : ℕ) (xs : List Place) (x : Place) → StandRising start xs end → Contains xs x → start ≤ walk_index_of x
risen start end [] x rising (k, low, e) = absurd (omega (arith, low))
risen start end (y ∷ ys) x rising (zero, low, e) = subst (λ (p : Place). start ≤ walk_index_of p) e rising.0
risen start end (y ∷ ys) x rising (suc k, low, e) = let after = risen (walk_index_after y) end ys x rising.1 (k, omega (arith, low), e) in omega (arith, after, rising.0, behind_itself y)

-- the first damage that is listed is the first of the walk
pub first_listed : (image : List ℕ) (frame : Frame) (root : Pointer) (list : List BlockDamage) → ListsDamages image frame root list → (d : BlockDamage) (rest : List BlockDamage) → list ≡ d ∷ rest
    → IsFirstDamage image frame root d.kind d.address
first_listed image frame root list lists d rest is = go lists.places lists.damaged lists.rising lists.all (sym lists.listed ∙ is)
  where
    go : (places : List Place) → ((place : Place) → Contains places place → IsPlace place × (IsSoundAt image frame root place → ⊥)) → StandRising 0 places (directory_index pointer_count)
        → ((place : Place) → IsPlace place → IsJudged image frame root places place) → map (block_damage image root) places ≡ d ∷ rest → IsFirstDamage image frame root d.kind d.address
    go [] damaged rising all e = absurd (let long : 0 ≡ length (d ∷ rest) = ap (λ (l : List BlockDamage). length l) e in omega (arith, long))
    go (p ∷ ps) damaged rising all e =
        let first = damaged p (0, omega arith, refl) in
        let same : block_damage image root p ≡ d = cc in
        record {
          place = p;
          in_range = first.0;
          kind_is = ap (λ (b : BlockDamage). b.kind) same;
          address_is = ap (λ (b : BlockDamage). b.address) same;
          damaged = first.1;
          sound_before = λ other there low. before other low (all other there);
        }
      where
        from : StandRising (walk_index_of p) (p ∷ ps) (directory_index pointer_count)
        from = (omega arith, rising.1)

        before : (other : Place) → walk_index_of other < walk_index_of p → IsJudged image frame root (p ∷ ps) other → IsSoundAt image frame root other
        before other low (inl sound) = sound
        before other low (inr (inl there)) = absurd (let h = risen (walk_index_of p) (directory_index pointer_count) (p ∷ ps) other from there in omega (arith, h, low))
        before other low (inr (inr below)) = absurd (let h = risen (walk_index_of p) (directory_index pointer_count) (p ∷ ps) below.0 from below.1 in
            let b = behind_upper below.0 other below.2 in omega (arith, h, low, b))

-- nothing lies above the root
above_root : (upper : Place) → LiesBelow upper Root → ⊥
above_root Root below = below
above_root (Directory d) below = below
above_root (Top n) below = below
above_root (Indirect m) below = below
above_root (Data m k) below = below

-- a damaged root is listed alone
pub root_alone : (image : List ℕ) (frame : Frame) (root : Pointer) (list : List BlockDamage) → ListsDamages image frame root list → (IsSoundAt image frame root Root → ⊥)
    → list ≡ block_damage image root Root ∷ []
root_alone image frame root list lists bad = go lists.places lists.damaged lists.rising (there (lists.all Root (tt {0}))) lists.listed
  where
    there : IsJudged image frame root lists.places Root → Contains lists.places Root
    there (inl sound) = absurd (bad sound)
    there (inr (inl listed)) = listed
    there (inr (inr below)) = absurd (above_root below.0 below.2)

    go : (places : List Place) → ((place : Place) → Contains places place → IsPlace place × (IsSoundAt image frame root place → ⊥)) → StandRising 0 places (directory_index pointer_count)
        → Contains places Root → list ≡ map (block_damage image root) places → list ≡ block_damage image root Root ∷ []
    go [] damaged rising (k, low, e) is = absurd (omega (arith, low))
    go (p ∷ []) damaged rising (zero, low, e) is = is ∙ ap (λ (q : Place). block_damage image root q ∷ []) e
    go (p ∷ q ∷ qs) damaged rising (zero, low, e) is =
        let last = within_walk q (damaged q (1, omega arith, refl)).0 in
        let after : walk_index_after Root ≤ walk_index_of q = subst (λ (r : Place). walk_index_after r ≤ walk_index_of q) e rising.1.0 in
        absurd (omega (arith, last, after))
    go (p ∷ ps) damaged rising (suc k, low, e) is =
        let after = risen (walk_index_after p) (directory_index pointer_count) ps Root rising.1 (k, omega (arith, low), e) in
        let least = behind_itself p in
        absurd (omega (arith, after, least))

next_strip : (w j : ℕ) → w + 1 + 85 * (j + 1) ≡ w + 1 + 85 * j + 85
next_strip w j = omega arith

-- one strip more of an object
pub strip_added : (image : List ℕ) (frame : Frame) (root : Pointer) (n j : ℕ) (old between new : List BlockDamage) → n < object_count
    → AddsDamages image frame root (walk_index_of_object n + 1) (walk_index_of_object n + 1 + 85 * j) old between
    → AddsDamages image frame root (walk_index_of_indirect (strip_number n j)) (walk_index_of_indirect (strip_number n j) + 85) between new
    → AddsDamages image frame root (walk_index_of_object n + 1) (walk_index_of_object n + 1 + 85 * (j + 1)) old new
strip_added image frame root n j old between new low first second =
    let w : ℕ = walk_index_of_object n in
    let at = index_of_strip n j low in
    damages_then image frame root (w + 1) (w + 1 + 85 * j) (walk_index_of_indirect (strip_number n j)) (walk_index_of_indirect (strip_number n j) + 85) (w + 1 + 85 * (j + 1)) old between new (sym at)
    (ap (λ (v : ℕ). v + 85) at ∙ sym (next_strip w j)) first second

whole_object : (w : ℕ) → w + 1 + 85 ≤ w + 7141
whole_object w = omega arith

le_next : (w : ℕ) → w ≤ w + 1
le_next w = omega arith

-- the damages of an object of one level are those of its first strip
pub short_added : (image : List ℕ) (frame : Frame) (root : Pointer) (n : ℕ) (old new : List BlockDamage) → n < object_count → levels_in image root n ≢ 2
    → AddsDamages image frame root (walk_index_of_indirect n) (walk_index_of_indirect n + 85) old new → AddsDamages image frame root (walk_index_of_object n) (walk_index_of_object n + object_stride) old new
short_added image frame root n old new low one strip =
    let w : ℕ = walk_index_of_object n in
    let at = first_index image root n low in
    sound_before image frame root w (w + 1) (w + object_stride) old new (le_next w) (sound_one image frame root (Top n) w (w + 1) low refl refl (inl (no_top image frame root n one)))
    (sound_added image frame root (w + 1) (w + 1 + 85) (w + object_stride) old new (subst (λ (s : ℕ). w + 1 + 85 ≤ w + s) (sym object-stride) (whole_object w))
    (subst (λ (v : ℕ). AddsDamages image frame root v (v + 85) old new) at strip) (short_rest image frame root n low one))
