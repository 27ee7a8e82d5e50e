-- Strips by their numbers: each is one of one object, and each record of an object lies in one of them.
use Rattle.std.proofs.Common.{◌≡◌, ℕ, ◌*◌, ◌/◌, ◌%◌, ◌<◌, ◌≤◌, ◌≢◌, Bool, ◌&&◌, refl, ◌∙◌, ap, arith}
use Rattle.std.specs.Prelude.{nat_lt}
use Rattle.std.proofs.Math.Bool.{and-true}
use Rattle.std.proofs.lemmas.Bool.{le-leb}
use Rattle.base.specs.formats.Limits.{object_count, indirect_count, one_level_length, max_length, record_count, record_size, pointer_count}
use Rattle.base.specs.tree.Places.{strip_number, object_of_indirect, strip_of, record_of_strip, record_number}
use Rattle.base.specs.tree.Syncs.{is_long_length}

-- the numbers behind words that do not unfold
pub indirect-count : indirect_count ≡ 444528
unfolding indirect_count
indirect-count = refl

pub record-count : record_count ≡ 7056
unfolding record_count
record-count = refl

pub one_level-length : one_level_length ≡ 338688
unfolding one_level_length
one_level-length = refl

-- no object is longer than its records hold, and one level is not above the greatest length
pub max-length : max_length ≤ record_size * record_count
max-length = omega (arith, record-count)

pub one_level-max : one_level_length ≤ max_length
one_level-max = omega (arith, one_level-length)

-- a strip of an object has a number, by which the object and the strip are found
pub strip-low : (n j : ℕ) → n < object_count → j < pointer_count → strip_number n j < indirect_count
strip-low n j n_low j_low = omega (arith, n_low, j_low, indirect-count)

pub strip-object : (n j : ℕ) → n < object_count → object_of_indirect (strip_number n j) ≡ n
strip-object n j n_low = omega (arith, n_low)

pub strip-which : (n j : ℕ) → n < object_count → strip_of (strip_number n j) ≡ j
strip-which n j n_low = omega (arith, n_low)

-- and a number is that of a strip of an object
pub number-object : (m : ℕ) → object_of_indirect m < object_count
number-object m = omega arith

pub number-strip : (m : ℕ) → m < indirect_count → strip_of m < pointer_count
number-strip m low = omega (arith, low, indirect-count)

pub number-back : (m : ℕ) → strip_number (object_of_indirect m) (strip_of m) ≡ m
number-back m = omega arith

-- the first strip of an object has the object's number
pub first-strip : (n : ℕ) → strip_number n 0 ≡ n
first-strip n = omega arith

pub first-low : (n : ℕ) → n < object_count → n < indirect_count
first-low n low = omega (arith, low, indirect-count)

pub first-object : (n : ℕ) → n < object_count → object_of_indirect n ≡ n
first-object n low = omega (arith, low)

pub first-which : (n : ℕ) → n < object_count → strip_of n ≡ 0
first-which n low = omega (arith, low)

pub first-record : (n k : ℕ) → n < object_count → record_number n k ≡ k
first-record n k low = omega (arith, low)

-- a number whose strip is the first is that of its object
pub first-number : (m : ℕ) → strip_of m ≡ 0 → object_of_indirect m ≡ m
first-number m none = omega (arith, none)

-- a record of a strip is one of its object
pub record-low : (j k : ℕ) → j < pointer_count → k < pointer_count → record_of_strip j k < record_count
record-low j k j_low k_low = omega (arith, j_low, k_low, record-count)

-- a record of an object is the one of this remainder in the strip of this quotient
pub record-back : (r : ℕ) → record_of_strip (r / pointer_count) (r % pointer_count) ≡ r
record-back r = omega arith

-- a record of a later strip begins at the end of the first strip or behind it
pub later-record : (m k : ℕ) → strip_of m ≢ 0 → one_level_length ≤ record_size * record_number m k
later-record m k later = omega (arith, later, one_level-length)

-- a length up to the greatest one has two levels if it is above that of one
pub long-length : (size : ℕ) → size ≤ max_length → is_long_length size ≡ nat_lt one_level_length size
long-length size within = ap (λ (b : Bool). nat_lt one_level_length size && b) (le-leb size max_length within) ∙ and-true (nat_lt one_level_length size)
