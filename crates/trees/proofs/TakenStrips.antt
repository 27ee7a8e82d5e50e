-- The blocks of a strip, and of an object, once those that its pointers name are taken.
use Rattle.std.proofs.Common.{◌≡◌, ◌≢◌, ℕ, ◌+◌, ◌<◌, Bool, List, refl, ap, sym, subst, ◌∙◌, arith, ◌⊎◌, inl, inr}
use Rattle.std.specs.Prelude.{if◌then◌else◌}
use Rattle.std.proofs.lemmas.Bool.{cases_eq, ne_eqb}
use Rattle.base.specs.declared.pointer.Pointer.{Pointer}
use Rattle.base.specs.formats.Fields.{no_pointer}
use Rattle.base.specs.formats.Limits.{pointer_count}
use Rattle.trees.specs.FreeBlocks.{BlocksTaken, Names, ObjectNames, StripNames, StripsName, TakesNamed, is_block_at, payload_names}
use Rattle.tree_blocks.specs.Pointers.{TellsStrip, long_pointers, payload_pointers, pointer_of_list, short_pointers, strip_in, told_record}
use Rattle.trees.proofs.FreeBlocks.{AnyNames, any-named, names-by, none-named, takes_as, takes_by, takes_none, takes_twice}
use Rattle.tree_blocks.proofs.ToldStrips.{length-pointers, told-none, told-some}
use Rattle.space.specs.FreeSets.{FreeSpace}

-- the pointers of an indirect block and the one to it are those of its strip
module _ (indirect : Pointer) (payload : List ℕ) (some : indirect.address ≢ 0) where
  told : (r : ℕ) → told_record (indirect, payload_pointers payload) r ≡ pointer_of_list (payload_pointers payload) r
  told r = told-some (indirect, payload_pointers payload) r some

  to_strip : (k : ℕ) → Names k indirect ⊎ AnyNames k (payload_pointers payload) → StripNames k indirect (told_record (indirect, payload_pointers payload))
  to_strip k (inl named) = inl named
  to_strip k (inr (r, low, named)) = inr (r, subst (λ (n : ℕ). r < n) (length-pointers payload) low, subst (λ (p : Pointer). Names k p) (sym (told r)) named)

  of_strip : (k : ℕ) → StripNames k indirect (told_record (indirect, payload_pointers payload)) → Names k indirect ⊎ AnyNames k (payload_pointers payload)
  of_strip k (inl named) = inl named
  of_strip k (inr (r, low, named)) = inr (r, subst (λ (n : ℕ). r < n) (sym (length-pointers payload)) low, subst (λ (p : Pointer). Names k p) (told r) named)

  pub strip_taken : (s : Pointer × List Pointer) (free mid left : FreeSpace) → s ≡ (indirect, payload_pointers payload) → BlocksTaken (λ k. is_block_at k indirect.address) free mid
      → BlocksTaken (λ k. payload_names k payload) mid left → TakesNamed (λ k. StripNames k indirect (told_record s)) free left
  strip_taken s free mid left is first second =
      subst (λ (t : Pointer × List Pointer). TakesNamed (λ k. StripNames k indirect (told_record t)) free left) (sym is)
      (takes_as (λ k. Names k indirect ⊎ AnyNames k (payload_pointers payload)) (λ k. StripNames k indirect (told_record (indirect, payload_pointers payload))) free left (λ k. (to_strip k, of_strip k))
      (takes_twice (λ k. Names k indirect) (λ k. AnyNames k (payload_pointers payload)) free mid left
      (takes_by (λ k. is_block_at k indirect.address) (λ k. Names k indirect) free mid (λ k. names-by k indirect) first)
      (takes_by (λ k. payload_names k payload) (λ k. AnyNames k (payload_pointers payload)) mid left (λ k. any-named k (payload_pointers payload)) second)))

-- a strip without an indirect block names nothing
pub hole-named : (k : ℕ) (indirect : Pointer) (s : Pointer × List Pointer) → indirect ≡ no_pointer → s.0 ≡ indirect → StripNames k indirect (told_record s) → ⊥
hole-named k indirect s none is (inl named) = none-named k indirect none named
hole-named k indirect s none is (inr (r, low, named)) = none-named k (told_record s r) (told-none s r (ap (λ (p : Pointer). p.address) (is ∙ none))) named

-- no strips name nothing
pub no_strips_named : (strips : List (ℕ × (Pointer × List Pointer))) (s : FreeSpace) → TakesNamed (λ k. StripsName k strips 0) s s
no_strips_named strips s = takes_none (λ k. StripsName k strips 0) s (λ k named. let low = named.1 in omega (arith, low))

-- one strip more
pub strips_named_more : (strips told : List (ℕ × (Pointer × List Pointer))) (count : ℕ) (indirect : Pointer) (free mid left : FreeSpace) → TellsStrip count indirect strips told
    → TakesNamed (λ k. StripsName k strips count) free mid → TakesNamed (λ k. StripNames k indirect (told_record (strip_in told count))) mid left
    → TakesNamed (λ k. StripsName k told (count + 1)) free left
strips_named_more strips told count indirect free mid left tells first second =
    takes_as (λ k. Before k ⊎ Last k) After free left (λ k. (there k, back k)) (takes_twice Before Last free mid left first second)
  where
    Before : ℕ → Type 0
    Before k = StripsName k strips count

    Last : ℕ → Type 0
    Last k = StripNames k indirect (told_record (strip_in told count))

    After : ℕ → Type 0
    After k = StripsName k told (count + 1)

    earlier : (j : ℕ) → j < count → j ≢ count
    earlier j low = λ e. omega (arith, low, e)

    there : (k : ℕ) → Before k ⊎ Last k → After k
    there k (inl (j, low, named)) =
        (j, omega (arith, low), subst (λ (s : Pointer × List Pointer). StripNames k s.0 (told_record s)) (sym (tells.1 j (earlier j low))) named)
    there k (inr named) = (count, omega arith, subst (λ (p : Pointer). StripNames k p (told_record (strip_in told count))) (sym tells.0) named)

    back : (k : ℕ) → After k → Before k ⊎ Last k
    back k (j, low, named) = elim (cases_eq j count) as (λ _. Before k ⊎ Last k) [
      | inl same ↦ inr (subst (λ (p : Pointer). StripNames k p (told_record (strip_in told count))) tells.0
          (subst (λ (i : ℕ). StripNames k (strip_in told i).0 (told_record (strip_in told i))) same named))
      | inr other ↦ inl (j, omega (arith, low, other), subst (λ (s : Pointer × List Pointer). StripNames k s.0 (told_record s)) (tells.1 j other) named)
    ]

-- the top of an object and its strips
pub levels_named : (top : Pointer) (strips : List (ℕ × (Pointer × List Pointer))) (free mid left : FreeSpace) → BlocksTaken (λ k. is_block_at k top.address) free mid
    → TakesNamed (λ k. StripsName k strips pointer_count) mid left → TakesNamed (λ k. ObjectNames k (long_pointers top strips)) free left
levels_named top strips free mid left first second =
    takes_twice (λ k. Names k top) (λ k. StripsName k strips pointer_count) free mid left (takes_by (λ k. is_block_at k top.address) (λ k. Names k top) free mid (λ k. names-by k top) first) second

pub no_levels_named : (top : Pointer) (strips : List (ℕ × (Pointer × List Pointer))) (s : FreeSpace) → top ≡ no_pointer → ((j : ℕ) → (strip_in strips j).0 ≡ no_pointer)
    → TakesNamed (λ k. ObjectNames k (long_pointers top strips)) s s
no_levels_named top strips s none holes = takes_none (λ k. ObjectNames k (long_pointers top strips)) s nothing
  where
    nothing : (k : ℕ) → ObjectNames k (long_pointers top strips) → ⊥
    nothing k (inl named) = none-named k top none named
    nothing k (inr (j, low, named)) = hole-named k (strip_in strips j).0 (strip_in strips j) (holes j) refl named

-- an object of one level has the pointers of its first strip
pub first_named : (indirect : Pointer) (strips : List (ℕ × (Pointer × List Pointer))) (free left : FreeSpace)
    → TakesNamed (λ k. StripNames k indirect (told_record (indirect, (strip_in strips 0).1))) free left → TakesNamed (λ k. ObjectNames k (short_pointers indirect strips)) free left
first_named indirect strips free left taken =
    takes_as (λ k. StripNames k indirect own) (λ k. ObjectNames k (short_pointers indirect strips)) free left (λ k. (λ named. inr (0, omega arith, named), back k)) taken
  where
    own : ℕ → Pointer
    own = told_record (indirect, (strip_in strips 0).1)

    later_none : (k j : ℕ) → j ≢ 0 → StripNames k ((short_pointers indirect strips).strip j) ((short_pointers indirect strips).record_at j) → ⊥
    later_none k j later (inl named) = none-named k ((short_pointers indirect strips).strip j) (ap (λ (b : Bool). if b then indirect else no_pointer) (ne_eqb j 0 later)) named
    later_none k j later (inr (r, low, named)) =
        none-named k ((short_pointers indirect strips).record_at j r) (ap (λ (b : Bool). if b then own r else no_pointer) (ne_eqb j 0 later)) named

    back : (k : ℕ) → ObjectNames k (short_pointers indirect strips) → StripNames k indirect own
    back k (inl named) = absurd (none-named k no_pointer refl named)
    back k (inr (j, low, named)) = elim (cases_eq j 0) as (λ _. StripNames k indirect own) [
      | inl zeroth ↦ subst (λ (i : ℕ). StripNames k ((short_pointers indirect strips).strip i) ((short_pointers indirect strips).record_at i)) zeroth named
      | inr later ↦ absurd (later_none k j later named)
    ]
