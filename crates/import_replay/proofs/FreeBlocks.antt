-- The free blocks of a tree and a chain. And those that a plan leaves.
use Rattle.std.proofs.Common.{◌≡◌, ℕ, suc, ◌+◌, ◌<◌, Bool, true, false, not, ◌&&◌, ◌||◌, List, [], ◌∷◌, length, take, get_or, Some, inl, inr, refl, sym, subst, ap, ◌∙◌, arith}
use Rattle.std.specs.Prelude.{Contains, Err, IfErr, IsErr, Ok, Result, slice_get}
use Rattle.std.specs.List.{list_any}
use Rattle.std.specs.Ordering.{nat_cmp}
use Rattle.std.specs.FinSet as set
use Rattle.std.specs.FinSet.{FinSet, contains-empty, empty_of_len}
use Rattle.std.proofs.lemmas.Bool.{eq-eqb, eqb-true, false≢true, or_cases}
use Rattle.std.proofs.lemmas.List.Folds.{list_any-append}
use Rattle.std.proofs.lemmas.Option.{get_or_from_slice_get, slice_get-get_or}
use Rattle.base.specs.declared.error.PoolError.{PoolError}
use Rattle.base.specs.formats.Chain.{LogPiece, addresses_of, chain_addresses}
use Rattle.base.specs.formats.Geometry.{block_address, IsBlockAddress}
use Rattle.base.proofs.common.KeptLists.{any_at}
use Rattle.base.proofs.common.Choices.{and_not_parts}
use Rattle.tree_blocks.specs.declared.tree.Tree.{Tree}
use Rattle.tree_blocks.specs.Pointers.{pointers_of}
use Rattle.space.specs.FreeSets.{FreeSpace, IsLowestFree, after_take, is_free}
use Rattle.tree_plans.specs.declared.planner.PlannedBlock.{PlannedBlock}
use Rattle.trees.specs.FreeBlocks.{AreUnnamed, BlocksTaken, is_block_at}
use Rattle.trees.proofs.FreeBlocks.{address_taken, blocks_kept, taken_more, taken_twice}
use Rattle.import_replay.specs.FreeBlocks.{AreAllPlanned, AreUnused, IsLowestLeft, IsUsedBy, is_planned, logs_block, plans_block}
use Rattle.import_replay.proofs.NamedBlocks.{named_or_not}

-- what passes a test stands somewhere, and the test of a list finds it
record IsFoundAt {A : Type 0} (p : A → Bool) (xs : List A) : Type 0 where
  index : ℕ
  item : A
  low : index < length xs
  found : slice_get xs index ≡ Some item
  passes : p item ≡ true

found_at : {A : Type 0} (p : A → Bool) (xs : List A) → list_any p xs ≡ true → IsFoundAt p xs
found_at p [] h = absurd (false≢true h)
found_at p (x ∷ xs) h = elim (or_cases (p x) (list_any p xs) h) as (λ _. IsFoundAt p (x ∷ xs)) [
  | inl here ↦ record { index = 0; item = x; low = omega arith; found = refl; passes = here }
  | inr behind ↦ (let f = found_at p xs behind in record { index = suc f.index; item = f.item; low = (let h = f.low in omega arith); found = f.found; passes = f.passes })
]

pub not_both : (a b : Bool) → (a && not b) ≡ false → a ≡ true → b ≡ true
not_both true true h is = refl
not_both true false h is = absurd (false≢true (sym h))
not_both false b h is = absurd (false≢true is)

-- a block at one of some addresses is found, and one that is found is at one
at-found : (k : ℕ) (addresses : List ℕ) → Contains addresses (block_address k) → list_any (is_block_at k) addresses ≡ true
at-found k addresses (i, low, is) = any_at (is_block_at k) addresses i (get_or addresses i (block_address k)) (slice_get-get_or addresses i (block_address k) low) (eq-eqb (get_or addresses i (block_address k)) (block_address k) is)

found-at : (k : ℕ) (addresses : List ℕ) → list_any (is_block_at k) addresses ≡ true → Contains addresses (block_address k)
found-at k addresses h =
    let f = found_at (is_block_at k) addresses h in
    (f.index, f.low, get_or_from_slice_get addresses f.index f.item (block_address k) f.found ∙ eqb-true f.item (block_address k) f.passes)

any-logged : (k : ℕ) (chain : List LogPiece) → list_any (is_block_at k) (chain_addresses chain) ≡ list_any (logs_block k) chain
any-logged k [] = refl
any-logged k (b ∷ bs) = list_any-append (is_block_at k) (addresses_of b) (chain_addresses bs) ∙ ap (λ (there : Bool). logs_block k b || there) (any-logged k bs)

-- where just the blocks were free that no pointer of the tree names, and those of a chain are taken
module _ (t : Tree) (chain : List LogPiece) (blocks : ℕ) (all left : FreeSpace) (unnamed : AreUnnamed blocks t all) (taken : BlocksTaken (λ k. list_any (logs_block k) chain) all left) where
  abbrev HasUse : ℕ → Type 0
  HasUse address = IsUsedBy (pointers_of t) (chain_addresses chain) address

  in_area : (q : ℕ) → set.contains left.free q ≡ true → IsBlockAddress blocks q
  in_area q h = subst (λ (n : ℕ). IsBlockAddress n q) unnamed.sized (unnamed.placed q (taken.fewer q h))

  each : (k : ℕ) → k < blocks → is_free k left ≡ (is_free k all && not (list_any (logs_block k) chain))
  each k low = taken.each k (let count = unnamed.sized in omega (arith, low, count))

  not_used : (k : ℕ) → k < blocks → is_free k left ≡ true → HasUse (block_address k) → ⊥
  not_used k low free used =
      let (was, unlogged) = and_not_parts (is_free k all) (list_any (logs_block k) chain) (sym (each k low) ∙ free) in
      elim used as (λ _. ⊥) [
        | inl named ↦ (unnamed.each k low).0 was named
        | inr there ↦ false≢true (sym unlogged ∙ sym (any-logged k chain) ∙ at-found k (chain_addresses chain) there)
      ]

  in_use : (k : ℕ) → k < blocks → is_free k left ≡ false → HasUse (block_address k)
  in_use k low gone = elim (named_or_not (pointers_of t) (block_address k)) as (λ _. HasUse (block_address k)) [
    | inl named ↦ inl named
    | inr none ↦ inr (found-at k (chain_addresses chain) (any-logged k chain ∙ not_both (is_free k all) (list_any (logs_block k) chain) (sym (each k low) ∙ gone) ((unnamed.each k low).1 none)))
  ]

  pub unused-from_taken : AreUnused (pointers_of t) (chain_addresses chain) blocks left.free
  unused-from_taken = record {
    in_area = in_area;
    unused = λ q h used. (let is = in_area q h in not_used is.0 is.1 (ap (λ (a : ℕ). set.contains left.free a) (sym is.2) ∙ h) (subst HasUse is.2 used));
    others = λ q h is. subst HasUse (sym is.2) (in_use is.0 is.1 (ap (λ (a : ℕ). set.contains left.free a) (sym is.2) ∙ h));
  }

-- the first block of a piece is taken, and then those behind it
pub piece_taken : (p : LogPiece) (old mid new : FreeSpace) → BlocksTaken (λ k. is_block_at k p.address) old mid → BlocksTaken (λ k. list_any (is_block_at k) p.behind) mid new → BlocksTaken (λ k. logs_block k p) old new
piece_taken p old mid new first others = taken_twice (λ k. is_block_at k p.address) (λ k. list_any (is_block_at k) p.behind) old mid new first others

-- one more of some addresses
pub address_more : (addresses : List ℕ) (i : ℕ) (old mid new : FreeSpace) → i < length addresses → BlocksTaken (λ k. list_any (is_block_at k) (take i addresses)) old mid
    → BlocksTaken (λ k. is_block_at k (get_or addresses i 0)) mid new → BlocksTaken (λ k. list_any (is_block_at k) (take (i + 1) addresses)) old new
address_more addresses i old mid new low first second =
    let a : ℕ = get_or addresses i 0 in
    taken_more is_block_at addresses i a old mid new low (sym (get_or_from_slice_get addresses i a a (slice_get-get_or addresses i 0 low))) first second

-- the block of a number is taken
pub number_taken : (i : ℕ) (s : FreeSpace) → BlocksTaken (λ k. is_block_at k (block_address i)) s (after_take i s)
number_taken i s = address_taken (block_address i) i s refl

-- of a set whose planned blocks were taken
module _ (planned : List PlannedBlock) (s left : FreeSpace) (taken : BlocksTaken (λ k. is_planned k planned) s left) where
  -- the lowest free block is the lowest that the plan leaves
  pub lowest_is_left : (b : ℕ) → IsLowestFree left b → IsLowestLeft s planned b
  lowest_is_left b first =
      let count = blocks_kept (λ k. is_planned k planned) s left taken in
      let within : b < s.blocks = (let low = first.within in omega (arith, low, count)) in
      let here = and_not_parts (is_free b s) (is_planned b planned) (sym (taken.each b within) ∙ first.free) in
      record {
        within = within;
        free = here.0;
        left = here.1;
        below = λ k low. not_both (is_free k s) (is_planned k planned) (sym (taken.each k (omega (arith, low, within))) ∙ first.below k (omega arith) low);
      }

  -- where no block is free, each was planned
  pub all_planned : set.len left.free ≡ 0 → AreAllPlanned s planned
  all_planned none k low =
      let gone : is_free k left ≡ false = ap (λ (l : FinSet nat_cmp). set.contains l (block_address k)) (empty_of_len left.free none) ∙ contains-empty nat_cmp (block_address k) in
      not_both (is_free k s) (is_planned k planned) (sym (taken.each k low) ∙ gone)

-- what is so if an answer is a refusal
pub if_refused : {A : Type 0} (r : Result A PoolError) (P : Type 0) → (IsErr r → P) → IfErr r (λ e. P)
if_refused (Ok x) P is = tt
if_refused (Err e) P is = is refl

-- a block that is planned is one of the plan's
pub planned_at : (k : ℕ) (planned : List PlannedBlock) → is_planned k planned ≡ true → (i : ℕ) × (b : PlannedBlock) × (slice_get planned i ≡ Some b) × (block_address b.index ≡ block_address k)
planned_at k planned h =
    let f = found_at (plans_block k) planned h in
    (f.index, f.item, f.found, eqb-true (block_address f.item.index) (block_address k) f.passes)

-- and the other way round
pub at_planned : (k : ℕ) (planned : List PlannedBlock) (i : ℕ) (b : PlannedBlock) → slice_get planned i ≡ Some b → block_address b.index ≡ block_address k → is_planned k planned ≡ true
at_planned k planned i b at same = any_at (plans_block k) planned i b at (eq-eqb (block_address b.index) (block_address k) same)
