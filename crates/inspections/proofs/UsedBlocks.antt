-- The blocks of an area that a set does not have: a list of them, each once, as long as the area has more blocks than
-- the set.
use Rattle.std.proofs.Common.{◌≡◌, ◌≢◌, ◌⊎◌, inl, inr, ℕ, zero, suc, ◌+◌, ◌-◌, ◌<◌, ◌≤◌, Bool, true, false, not, ◌&&◌, cond, List, [], ◌∷◌, length, nat_eq, refl, sym, subst, ap, ◌∙◌, arith}
use Rattle.std.specs.Prelude.{All, Contains}
use Rattle.std.specs.List.{AllByRecursion, IsDistinct}
use Rattle.std.specs.Ordering.{nat_cmp}
use Rattle.std.specs.FinMap.{FinMap}
use Rattle.std.specs.FinSet as set
use Rattle.std.specs.FinSet.{FinSet, contains-empty, len-empty, len-remove, same_set, nat_cmp-IsAntisymmetric}
use Rattle.std.proofs.lemmas.Bool.{cases_eq, eq-eqb, ne_eqb}
use Rattle.std.proofs.lemmas.Cmp.{nat_cmp_total}
use Rattle.base.specs.tree.Mount.{IsUseCount, IsUsed}
use Rattle.base.specs.declared.pointer.Pointer.{Pointer}
use Rattle.base.specs.formats.Chain.{LogPiece, chain_addresses}
use Rattle.base.specs.formats.Geometry.{IsBlockAddress, block_address, block_count}
use Rattle.base.specs.formats.Uberblocks.{Uberblock}
use Rattle.base.specs.kept.PlacedTrees.{ArePlaced, IsPlaced}
use Rattle.base.specs.tree.Places.{IsInTree, Place}
use Rattle.base.proofs.common.Choices.{not_and_parts}
use Rattle.intent_log.specs.Chains.{IsSoundPiece}
use Rattle.tree_blocks.specs.declared.tree.Tree.{Tree}
use Rattle.tree_blocks.specs.Pointers.{pointers_of}
use Rattle.space.proofs.Counts.{one_there}
use Rattle.import_replay.specs.FreeBlocks.{AreUnused, IsNamed, IsUsedBy}
use Rattle.import_replay.specs.ReadPools.{HoldsPool, frame_of_size}
use Rattle.trees.proofs.FreeBlocks.{contains-without}
use Rattle.import_replay.proofs.MountedPools.{named-of_tree, used_on_image}
use Rattle.import_replay.proofs.ReadPools.{sound_in_area}

-- the addresses of those below the n-th that the set does not have
abbrev used_below : ℕ → FinSet nat_cmp → List ℕ
used_below zero free = []
used_below (suc n) free = cond (set.contains free (block_address n)) (used_below n free) (block_address n ∷ used_below n free)

-- a block that the set does not have is one of them
abbrev IsUsedBelow : ℕ → FinSet nat_cmp → ℕ → Type 0
IsUsedBelow n free address = IsBlockAddress n address × (set.contains free address ≡ false)

there_front : (x : ℕ) (xs : List ℕ) → Contains (x ∷ xs) x
there_front x xs = (0, omega arith, refl)

there_behind : (x y : ℕ) (xs : List ℕ) → Contains xs y → Contains (x ∷ xs) y
there_behind x y xs (k, low, is) = (suc k, omega (arith, low), is)

front_or_behind : (x y : ℕ) (xs : List ℕ) → Contains (x ∷ xs) y → (x ≡ y) ⊎ Contains xs y
front_or_behind x y xs (zero, low, is) = inl is
front_or_behind x y xs (suc k, low, is) = inr (k, omega (arith, low), is)

contained-used : (n : ℕ) (free : FinSet nat_cmp) (address : ℕ) → Contains (used_below n free) address → IsUsedBelow n free address
contained-used zero free address there = absurd (let low = there.1 in omega (arith, low))
contained-used (suc n) free address there = by_flag (set.contains free (block_address n)) refl (contained-used n free address) there
  where
    one_more : IsUsedBelow n free address → IsUsedBelow (suc n) free address
    one_more ((k, low, is), not_free) = ((k, omega (arith, low), is), not_free)

    by_flag : (b : Bool) → set.contains free (block_address n) ≡ b → (Contains (used_below n free) address → IsUsedBelow n free address)
        → Contains (cond b (used_below n free) (block_address n ∷ used_below n free)) address → IsUsedBelow (suc n) free address
    by_flag true is rest here = one_more (rest here)
    by_flag false is rest here = elim (front_or_behind (block_address n) address (used_below n free) here) as (λ _. IsUsedBelow (suc n) free address) [
      | inl same ↦ ((n, omega arith, sym same), subst (λ (a : ℕ). set.contains free a ≡ false) same is)
      | inr behind ↦ one_more (rest behind)
    ]

used-contained : (n : ℕ) (free : FinSet nat_cmp) (k : ℕ) → k < n → set.contains free (block_address k) ≡ false → Contains (used_below n free) (block_address k)
used-contained zero free k low is = absurd (omega (arith, low))
used-contained (suc n) free k low is = by_flag (set.contains free (block_address n)) refl (λ other. used-contained n free k (omega (arith, low, other)) is)
  where
    by_flag : (b : Bool) → set.contains free (block_address n) ≡ b → ((k ≡ n → ⊥) → Contains (used_below n free) (block_address k)) → Contains (cond b (used_below n free) (block_address n ∷ used_below n free)) (block_address k)
    by_flag true has below = below (λ same. let f : true ≡ false = sym has ∙ ap (λ (m : ℕ). set.contains free (block_address m)) (sym same) ∙ is in cc)
    by_flag false has below = elim (cases_eq k n) as (λ _. Contains (block_address n ∷ used_below n free) (block_address k)) [
      | inl same ↦ subst (λ (m : ℕ). Contains (block_address n ∷ used_below n free) (block_address m)) (sym same) (there_front (block_address n) (used_below n free))
      | inr other ↦ there_behind (block_address n) (block_address k) (used_below n free) (below other)
    ]

-- each is there once
apart : (n m : ℕ) (free : FinSet nat_cmp) → m ≤ n → AllByRecursion (λ y. nat_eq (block_address n) y ≡ false) (used_below m free)
apart n zero free low = tt
apart n (suc m) free low = by_flag (set.contains free (block_address m)) (apart n m free (omega (arith, low)))
  where
    by_flag : (b : Bool) → AllByRecursion (λ y. nat_eq (block_address n) y ≡ false) (used_below m free)
        → AllByRecursion (λ y. nat_eq (block_address n) y ≡ false) (cond b (used_below m free) (block_address m ∷ used_below m free))
    by_flag true rest = rest
    by_flag false rest = (ne_eqb (block_address n) (block_address m) (λ same. omega (arith, same, low)), rest)

used-distinct : (n : ℕ) (free : FinSet nat_cmp) → IsDistinct nat_eq (used_below n free)
unfolding IsDistinct
used-distinct zero free = tt
used-distinct (suc n) free = by_flag (set.contains free (block_address n)) (used-distinct n free)
  where
    by_flag : (b : Bool) → IsDistinct nat_eq (used_below n free) → IsDistinct nat_eq (cond b (used_below n free) (block_address n ∷ used_below n free))
    by_flag true rest = rest
    by_flag false rest = (apart n n free (omega arith), rest)

-- a block above takes nothing away
same_below : (n m : ℕ) (free : FinSet nat_cmp) → n ≤ m → used_below n (set.remove free (block_address m)) ≡ used_below n free
same_below zero m free low = refl
same_below (suc n) m free low =
    let other : nat_eq (block_address m) (block_address n) ≡ false = ne_eqb (block_address m) (block_address n) (λ same. omega (arith, same, low)) in
    let flag : set.contains (set.remove free (block_address m)) (block_address n) ≡ set.contains free (block_address n) =
    contains-without free (block_address m) (block_address n) ∙ ap (λ (b : Bool). not b && set.contains free (block_address n)) other in
    let rest = same_below n m free (omega (arith, low)) in
    λ i. cond (flag i) (rest i) (block_address n ∷ rest i)

-- a set without numbers has none
none_there : (free : FinSet nat_cmp) → ((address : ℕ) → set.contains free address ≡ true → ⊥) → set.len free ≡ 0
none_there free none =
    ap (λ (s : FinSet nat_cmp). set.len s) (same_set nat_cmp_total nat_cmp-IsAntisymmetric free set.empty (λ q. by_flag q (set.contains free q) refl ∙ sym (contains-empty nat_cmp q))) ∙ len-empty nat_cmp
  where
    by_flag : (q : ℕ) (b : Bool) → set.contains free q ≡ b → set.contains free q ≡ false
    by_flag q true is = absurd (none q is)
    by_flag q false is = is

-- with the blocks of the set they are all blocks
length-used : (n : ℕ) (free : FinSet nat_cmp) → ((address : ℕ) → set.contains free address ≡ true → IsBlockAddress n address) → length (used_below n free) + set.len free ≡ n
length-used zero free within = let none = none_there free (λ address is. let low = (within address is).1 in omega (arith, low)) in omega (arith, none)
length-used (suc n) free within = by_flag (set.contains free (block_address n)) refl (length-used n)
  where
    below : (address : ℕ) → (address ≡ block_address n → ⊥) → IsBlockAddress (suc n) address → IsBlockAddress n address
    below address other (k, low, at) = (k, lower k low (λ same. other (at ∙ ap (λ (m : ℕ). block_address m) same)), at)
      where
        lower : (k : ℕ) → k < suc n → (k ≡ n → ⊥) → k < n
        lower k low other = omega (arith, low, other)

    without : set.contains free (block_address n) ≡ false → (address : ℕ) → set.contains free address ≡ true → IsBlockAddress n address
    without is address has = below address (λ same. let f : true ≡ false = sym has ∙ ap (λ (a : ℕ). set.contains free a) same ∙ is in cc) (within address has)

    removed : (address : ℕ) → set.contains (set.remove free (block_address n)) address ≡ true → IsBlockAddress n address
    removed address has =
        let parts = not_and_parts (nat_eq (block_address n) address) (set.contains free address) (sym (contains-without free (block_address n) address) ∙ has) in
        below address (λ same. let f : true ≡ false = sym (eq-eqb (block_address n) address (sym same)) ∙ parts.0 in cc) (within address parts.1)

    by_flag : (b : Bool) → set.contains free (block_address n) ≡ b
        → ((less : FinSet nat_cmp) → ((address : ℕ) → set.contains less address ≡ true → IsBlockAddress n address) → length (used_below n less) + set.len less ≡ n)
        → length (cond b (used_below n free) (block_address n ∷ used_below n free)) + set.len free ≡ suc n
    by_flag true is all =
        let rest = all (set.remove free (block_address n)) removed in
        let same : length (used_below n (set.remove free (block_address n))) ≡ length (used_below n free) = ap (λ (l : List ℕ). length l) (same_below n n free (omega arith)) in
        let fewer : set.len (set.remove free (block_address n)) ≡ set.len free - 1 = len-remove nat_cmp_total free (block_address n) ∙ ap (λ (b : Bool). cond b (set.len free - 1) (set.len free)) is in
        let some = one_there free (block_address n) is in
        omega (arith, rest, same, fewer, some)
    by_flag false is all = let rest = all free (without is) in omega (arith, rest)

-- the blocks of a tree and a chain that were read are those that are not free
module _ (image : List ℕ) (size : ℕ) (u : Uberblock) (name : List ℕ) (tree : Tree) (objects : FinMap nat_cmp (List ℕ)) (chain : List LogPiece) (read : HoldsPool image size u name tree objects chain)
    (placed : ArePlaced (block_count size) (pointers_of tree)) (sound : All (IsSoundPiece (block_count size)) chain) (free : FinSet nat_cmp)
    (were : AreUnused (pointers_of tree) (chain_addresses chain) (block_count size) free) where
  abbrev pointers : Place → Pointer
  pointers = pointers_of tree

  is_used : (address : ℕ) → IsUsedBelow (block_count size) free address → IsUsed image u.root chain address
  is_used address (is, not_free) = used_on_image image size u tree objects chain read.held read.root address is (were.others address not_free is)

  not_none : (address : ℕ) (p : Pointer) → address ≢ 0 → p.address ≡ address → IsPlaced (block_count size) p → IsBlockAddress (block_count size) address
  not_none address p some at (inl none) = absurd (some (sym at ∙ ap (λ (q : Pointer). q.address) none))
  not_none address p some at (inr is) = subst (λ (a : ℕ). IsBlockAddress (block_count size) a) at is

  logged_in_area : (address : ℕ) → Contains (chain_addresses chain) address → IsBlockAddress (block_count size) address
  logged_in_area address is = sound_in_area (block_count size) chain sound address is

  -- a block that the set does not have, since something uses it
  not_free : (address : ℕ) → IsBlockAddress (block_count size) address → IsUsedBy pointers (chain_addresses chain) address → Contains (used_below (block_count size) free) address
  not_free address (k, low, at) used =
      subst (λ (a : ℕ). Contains (used_below (block_count size) free) a) (sym at)
      (used-contained (block_count size) free k low (by_flag (set.contains free (block_address k)) refl (λ free_too. were.unused address (subst (λ (a : ℕ). set.contains free a ≡ true) (sym at) free_too) used)))
    where
      by_flag : (b : Bool) → set.contains free (block_address k) ≡ b → (set.contains free (block_address k) ≡ true → ⊥) → set.contains free (block_address k) ≡ false
      by_flag true is never = absurd (never is)
      by_flag false is never = is

  pub use_count : (used : ℕ) → used ≡ block_count size - set.len free → IsUseCount image u.root chain used
  use_count used is = record {
    addresses = used_below (block_count size) free;
    distinct = used-distinct (block_count size) free;
    each = λ address. (λ there. is_used address (contained-used (block_count size) free address there), λ used. contained address used);
    used_is = (let all = length-used (block_count size) free were.in_area in omega (arith, all, is));
  }
    where
      contained : (address : ℕ) → IsUsed image u.root chain address → Contains (used_below (block_count size) free) address
      contained address (inl is) =
          let named : IsNamed pointers address = named-of_tree image (frame_of_size u size) pointers objects read.held address (subst (λ (p : Pointer). IsInTree image p address) (sym read.root) is) in
          not_free address (not_none address (pointers named.0) is.there named.2 (placed named.0 named.1)) (inl named)
      contained address (inr is) = not_free address (logged_in_area address is) (inr is)
