-- What lies below a number among the first objects of a list is all that lies below it, if enough are asked for.
use Rattle.std.proofs.Common.{◌≡◌, ◌≤◌, ◌<◌, ◌+◌, ◌-◌, ◌∷◌, ◌++◌, ℕ, zero, suc, [], List, ap, arith, length, refl, sym, ◌∙◌}
use Rattle.std.specs.Prelude.{Bool, None, Option, Some, false, true, if◌then◌else◌, min, nat_lt, take}
use Rattle.std.specs.List.{range_with_len}
use Rattle.std.proofs.Math.Nat.{le-min, min-le_left, min-le_right}
use Rattle.std.proofs.lemmas.Bool.{le-ltb, ltb-true}
use Rattle.std.proofs.lemmas.List.{length-take}
use Rattle.base.specs.declared.names.ObjectId.{ObjectId}
use Rattle.base.specs.formats.Limits.{object_count}
use Rattle.base.specs.history.Contents.{Contents, length_of}
use Rattle.frames.specs.declared.listing.Listed.{Listed}
use Rattle.serving.specs.Calls.{listed_below}
use Rattle.pool_threads.specs.Objects.{object_at, objects_among, objects_from}

module _ (c : Contents) where
  abbrev among : ℕ → ℕ → List (ObjectId × ℕ)
  among from k = objects_among c (range_with_len from k)

  -- no more than their numbers
  few : (k from : ℕ) → length (among from k) ≤ k
  few zero from = omega arith
  few (suc k) from = by (length_of c from) (few k (from + 1))
    where
      by : (o : Option ℕ) → length (among (from + 1) k) ≤ k → length (object_at from o ++ among (from + 1) k) ≤ suc k
      by None rest = omega arith
      by (Some size) rest = omega arith

  pub few_first : (most from : ℕ) (list : List (ObjectId × ℕ)) → list ≡ take most (objects_from from c) → length list ≤ min most object_count
  few_first most from list is =
      let found : length list ≡ min most (length (objects_from from c)) = ap length is ∙ length-take most (objects_from from c) in
      let some : length (objects_from from c) ≤ object_count - from = few (object_count - from) from in
      let below : min most (length (objects_from from c)) ≤ length (objects_from from c) = min-le_right most (length (objects_from from c)) in
      let asked : min most (length (objects_from from c)) ≤ most = min-le_left most (length (objects_from from c)) in
      le-min (omega arith) (omega arith)

  module _ (past : ℕ) where
    none_below : (k from : ℕ) → past ≤ from → listed_below past (among from k) ≡ []
    none_below zero from high = refl
    none_below (suc k) from high = by (length_of c from) (none_below k (from + 1) (omega arith))
      where
        by : (o : Option ℕ) → listed_below past (among (from + 1) k) ≡ [] → listed_below past (object_at from o ++ among (from + 1) k) ≡ []
        by None rest = rest
        by (Some size) rest = rw (le-ltb from past high) rest

    enough : (k from most : ℕ) → past ≤ from + most → listed_below past (take most (among from k)) ≡ listed_below past (among from k)
    enough k from zero far = sym (none_below k from (omega arith))
    enough zero from (suc most) far = refl
    enough (suc k) from (suc most) far = by (length_of c from) (enough k (from + 1) (suc most) (omega arith)) (enough k (from + 1) most (omega arith))
      where
        by : (o : Option ℕ) → listed_below past (take (suc most) (among (from + 1) k)) ≡ listed_below past (among (from + 1) k)
            → listed_below past (take most (among (from + 1) k)) ≡ listed_below past (among (from + 1) k)
            → listed_below past (take (suc most) (object_at from o ++ among (from + 1) k)) ≡ listed_below past (object_at from o ++ among (from + 1) k)
        by None rest others = rest
        by (Some size) rest others = ap (λ (l : List Listed). if nat_lt from past then (record { object = record { 0 = from }; length = size } ∷ l) else l) others

    -- and so many lie below it at most
    few_below : (k from : ℕ) → length (listed_below past (among from k)) ≤ past - from
    few_below zero from = omega arith
    few_below (suc k) from = by (length_of c from) (few_below k (from + 1))
      where
        seen : (b : Bool) (size : ℕ) → nat_lt from past ≡ b → length (listed_below past (among (from + 1) k)) ≤ past - (from + 1)
            → length (if b then (record { object = record { 0 = from }; length = size } ∷ listed_below past (among (from + 1) k)) else listed_below past (among (from + 1) k)) ≤ past - from
        seen true size is rest = let less : from < past = ltb-true from past is in omega arith
        seen false size is rest = omega arith

        by : (o : Option ℕ) → length (listed_below past (among (from + 1) k)) ≤ past - (from + 1) → length (listed_below past (object_at from o ++ among (from + 1) k)) ≤ past - from
        by None rest = omega arith
        by (Some size) rest = seen (nat_lt from past) size refl rest

    -- no more than the objects
    no_more : (list : List (ObjectId × ℕ)) → length (listed_below past list) ≤ length list
    no_more [] = omega arith
    no_more (x ∷ xs) = by (nat_lt x.0.0 past) (no_more xs)
      where
        by : (b : Bool) → length (listed_below past xs) ≤ length xs → length (if b then (record { object = x.0; length = x.1 } ∷ listed_below past xs) else listed_below past xs) ≤ suc (length xs)
        by true rest = omega arith
        by false rest = omega arith

    pub room_below : (first : ℕ) (listed : List Listed) → listed ≡ listed_below past (objects_from first c) → length listed ≤ min (past - first) object_count
    room_below first listed is =
        let same : length listed ≡ length (listed_below past (objects_from first c)) = ap length is in
        let low : length (listed_below past (objects_from first c)) ≤ past - first = few_below (object_count - first) first in
        let some : length (objects_from first c) ≤ object_count - first = few (object_count - first) first in
        let all : length (listed_below past (objects_from first c)) ≤ length (objects_from first c) = no_more (objects_from first c) in
        le-min (omega arith) (omega arith)

    pub all_below : (first most : ℕ) (list : List (ObjectId × ℕ)) → past ≤ first + most → list ≡ take most (objects_from first c) → listed_below past list ≡ listed_below past (objects_from first c)
    all_below first most list far is = ap (listed_below past) is ∙ enough (object_count - first) first most far
