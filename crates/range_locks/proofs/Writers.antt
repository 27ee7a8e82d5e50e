-- Of the held locks one writer at most covers an offset, and no lock beside it: so the writer that a part names tells
-- what is covered.
use Rattle.std.proofs.Common.{◌≡◌, ℕ, ◌<◌, ◌≤◌, ◌==◌, ◌&&◌, Bool, true, false, not, List, refl, ap, sym, ◌∙◌, arith, inl, inr}
use Rattle.std.specs.Prelude.{Some, None, Option, slice_get, nat_lt, nat_le}
use Rattle.std.specs.List.{find, list_any}
use Rattle.std.specs.Option.{option_map, option_map_or}
use Rattle.std.proofs.lemmas.Bool.{and_parts, cases_Bool, cases_order, eq-eqb, eqb-true, leb-true, ltb-true, lt-ltb}
use Rattle.base.specs.declared.names.LockId.{LockId}
use Rattle.base.specs.declared.range.Mode.{Mode}
use Rattle.base.specs.declared.range.Mode.TheVariants.{Reader, Writer}
use Rattle.base.specs.history.Plans.{NumberRange, lies_in, overlaps}
use Rattle.base.specs.steps.Locks.{AreLocksSound, Grant, is_covered, is_covered_for_writing, is_reader}
use Rattle.base.proofs.common.KeptLists.{any_found, any_none, found_at, none_any, not_found, Some-injective}
use Rattle.range_locks.specs.Locks.{LockTable, AreHeld, covers, covers_for_writing, is_named}
use Rattle.range_locks.specs.Parts.{counts_of, name_of, reads_at, writes_at}
use Rattle.range_locks.specs.Pieces.{covers_byte}
use Rattle.range_locks.proofs.LockCounts.{same_name, found_counted}

-- two that cover an offset overlap
both_cover : (n k : ℕ) (g h : Grant) → covers_byte n k g ≡ true → covers_byte n k h ≡ true → overlaps g.range h.range ≡ true
both_cover n k g h in_g in_h =
    let one = and_parts (n == g.range.number) (nat_le g.range.low k && nat_lt k g.range.high) in_g in
    let two = and_parts (n == h.range.number) (nat_le h.range.low k && nat_lt k h.range.high) in_h in
    let ends_g = and_parts (nat_le g.range.low k) (nat_lt k g.range.high) one.1 in
    let ends_h = and_parts (nat_le h.range.low k) (nat_lt k h.range.high) two.1 in
    let low_g : g.range.low ≤ k = leb-true g.range.low k ends_g.0 in
    let high_g : k < g.range.high = ltb-true k g.range.high ends_g.1 in
    let low_h : h.range.low ≤ k = leb-true h.range.low k ends_h.0 in
    let high_h : k < h.range.high = ltb-true k h.range.high ends_h.1 in
    ap (λ b. b && (nat_lt g.range.low h.range.high && nat_lt h.range.low g.range.high)) (eq-eqb g.range.number h.range.number (sym (eqb-true n g.range.number one.0) ∙ eqb-true n h.range.number two.0))
    ∙ ap (λ b. b && nat_lt h.range.low g.range.high) (lt-ltb g.range.low h.range.high (omega arith))
    ∙ lt-ltb h.range.low g.range.high (omega arith)

-- no writer is a reader
no_reader : (m : Mode) → not (is_reader m) ≡ true → m ≡ Reader → ⊥
no_reader Reader writes is = let no_way : false ≡ true = writes in cc
no_reader Writer writes is = let no_way : false ≡ true = ap is_reader is in cc

module _ (locks : List Grant) (sound : AreLocksSound locks) (n k i : ℕ) (g : Grant) (at : slice_get locks i ≡ Some g) (writes : writes_at n k g ≡ true) where
  -- beside a writer no other lock covers an offset
  pub writer_alone : (j : ℕ) (h : Grant) → slice_get locks j ≡ Some h → covers_byte n k h ≡ true → i ≡ j
  writer_alone j h at_j in_h = elim (cases_order i j) as (λ _. i ≡ j) [
    | inl same ↦ same
    | inr apart ↦ elim apart as (λ _. i ≡ j) [
      | inl before ↦ absurd (no_reader g.mode parts.0 (sound i j g h before at at_j (both_cover n k g h parts.1 in_h)).0)
      | inr behind ↦ absurd (no_reader g.mode parts.0 (sound j i h g behind at_j at (both_cover n k h g in_h parts.1)).1)
    ]
  ]
    where
      parts : (not (is_reader g.mode) ≡ true) × (covers_byte n k g ≡ true)
      parts = and_parts (not (is_reader g.mode)) (covers_byte n k g) writes

  -- so a test that only locks that cover it pass is passed where the writer passes it
  any_alone : (p : Grant → Bool) → ((h : Grant) → p h ≡ true → covers_byte n k h ≡ true) → list_any p locks ≡ p g
  any_alone p only = elim (cases_Bool (list_any p locks)) as (λ _. list_any p locks ≡ p g) [
    | inl some ↦
        let found = any_found p locks some in
        let here : i ≡ found.0 = writer_alone found.0 found.1 found.2 (only found.1 found.3) in
        let same : found.1 ≡ g = Some-injective (sym found.2 ∙ ap (slice_get locks) (sym here) ∙ at) in
        some ∙ sym (ap p (sym same) ∙ found.3)
    | inr none ↦ none ∙ sym (none_any p locks i g none at)
  ]

-- nothing is found where nothing passes
pub find_none : (p : Grant → Bool) (locks : List Grant) → ((i : ℕ) (g : Grant) → slice_get locks i ≡ Some g → p g ≡ true → ⊥) → find p locks ≡ None
find_none p locks none = by (find p locks) refl
  where
    by : (o : Option Grant) → find p locks ≡ o → o ≡ None
    by None is = refl
    by (Some g) is = absurd (let found = found_at p locks g is in none found.0 g found.1 found.2)

module _ (held : LockTable) (are : AreHeld held) (owner : ℕ) (r : NumberRange) (some : r.low < r.high) where
  -- a lock that covers a range covers its first offset
  covers_first : (h : Grant) → covers owner r h ≡ true → covers_byte r.number r.low h ≡ true
  covers_first h is =
      let lies = (and_parts (h.owner == owner) (lies_in r h.range) is).1 in
      let parts = and_parts (r.number == h.range.number) (nat_le h.range.low r.low && nat_le r.high h.range.high) lies in
      let ends = and_parts (nat_le h.range.low r.low) (nat_le r.high h.range.high) parts.1 in
      let high : r.high ≤ h.range.high = leb-true r.high h.range.high ends.1 in
      ap (λ b. b && (nat_le h.range.low r.low && nat_lt r.low h.range.high)) parts.0 ∙ ap (λ b. b && nat_lt r.low h.range.high) ends.0 ∙ lt-ltb r.low h.range.high (omega arith)

  covers_first_too : (h : Grant) → covers_for_writing owner r h ≡ true → covers_byte r.number r.low h ≡ true
  covers_first_too h is = covers_first h (and_parts (not (is_reader h.mode)) (covers owner r h) is).1

  module _ (id : LockId) (named : (counts_of r.number held.locks r.low).writer ≡ Some id) where
    writer_of : (o : Option Grant) → find (writes_at r.number r.low) held.locks ≡ o → option_map name_of o ≡ Some id
        → (i : ℕ) × (g : Grant) × (slice_get held.locks i ≡ Some g) × (writes_at r.number r.low g ≡ true) × (g.id ≡ id.0)
    writer_of None is name = absurd (let no_way : ◌≡◌ {A = Option LockId} None (Some id) = name in cc)
    writer_of (Some g) is name = let found = found_at (writes_at r.number r.low) held.locks g is in (found.0, g, found.1, found.2, ap (λ (x : LockId). x.0) (Some-injective name))

    writer : (i : ℕ) × (g : Grant) × (slice_get held.locks i ≡ Some g) × (writes_at r.number r.low g ≡ true) × (g.id ≡ id.0)
    writer = writer_of (find (writes_at r.number r.low) held.locks) refl named

    -- the lock of this name is the owner's, and covers the range, where the writer is and does
    own_writer : option_map_or (λ (g : Grant). lies_in r g.range) (find (is_named id.0 owner) held.locks) false ≡ covers owner r writer.1
    own_writer = by (find (is_named id.0 owner) held.locks) refl
      where
        g : Grant
        g = writer.1

        by : (o : Option Grant) → find (is_named id.0 owner) held.locks ≡ o → option_map_or (λ (h : Grant). lies_in r h.range) o false ≡ covers owner r g
        by (Some h) is =
            let found = found_at (is_named id.0 owner) held.locks h is in
            let parts = and_parts (h.id == id.0) (h.owner == owner) found.2 in
            let same : h ≡ g = same_name held.locks writer.0 id.0 g are.rising writer.2 writer.4 found.0 h found.1 (eqb-true h.id id.0 parts.0) in
            ap (λ (x : Grant). lies_in r x.range) same ∙ sym (ap (λ b. b && lies_in r g.range) (ap (λ (x : Grant). x.owner == owner) (sym same) ∙ parts.1))
        by None is =
            let other : ((g.id == id.0) && (g.owner == owner)) ≡ false = not_found (is_named id.0 owner) held.locks is writer.0 g writer.2 in
            let apart : (g.owner == owner) ≡ false = sym (ap (λ b. b && (g.owner == owner)) (eq-eqb g.id id.0 writer.4)) ∙ other in
            sym (ap (λ b. b && lies_in r g.range) apart)

    pub writer_covers : option_map_or (λ (g : Grant). lies_in r g.range) (find (is_named id.0 owner) held.locks) false ≡ is_covered owner r held.locks
    writer_covers = own_writer ∙ sym (any_alone held.locks are.sound r.number r.low writer.0 writer.1 writer.2 writer.3 (covers owner r) covers_first)

    pub writer_covers_for_writing : option_map_or (λ (g : Grant). lies_in r g.range) (find (is_named id.0 owner) held.locks) false ≡ is_covered_for_writing owner r held.locks
    writer_covers_for_writing =
        own_writer ∙ sym (any_alone held.locks are.sound r.number r.low writer.0 writer.1 writer.2 writer.3 (covers_for_writing owner r) covers_first_too
        ∙ ap (λ b. b && covers owner r writer.1) (and_parts (not (is_reader writer.1.mode)) (covers_byte r.number r.low writer.1) writer.3).0)

  -- where none is named no writer covers the range
  module _ (unnamed : (counts_of r.number held.locks r.low).writer ≡ None) where
    none_writes : (o : Option Grant) → option_map name_of o ≡ None → o ≡ None
    none_writes None is = refl
    none_writes (Some g) is = absurd (let no_way : ◌≡◌ {A = Option LockId} (Some (name_of g)) None = is in cc)

    no_writer_at : (i : ℕ) (g : Grant) → slice_get held.locks i ≡ Some g → writes_at r.number r.low g ≡ false
    no_writer_at i g at = not_found (writes_at r.number r.low) held.locks (none_writes (find (writes_at r.number r.low) held.locks) unnamed) i g at

    pub no_writer_covers : false ≡ is_covered_for_writing owner r held.locks
    no_writer_covers = sym (any_none (covers_for_writing owner r) held.locks (λ i g at. elim (cases_Bool (covers_for_writing owner r g)) as (λ _. covers_for_writing owner r g ≡ false) [
      | inr none ↦ none
      | inl is ↦
          let parts = and_parts (not (is_reader g.mode)) (covers owner r g) is in
          let there : writes_at r.number r.low g ≡ true = ap (λ b. b && covers_byte r.number r.low g) parts.0 ∙ covers_first g parts.1 in
          absurd (let no_way : true ≡ false = sym there ∙ no_writer_at i g at in cc)
    ]))

    -- and without readers no lock does
    pub nothing_covers : (counts_of r.number held.locks r.low).readers ≡ 0 → false ≡ is_covered owner r held.locks
    nothing_covers none = sym (any_none (covers owner r) held.locks (λ i g at. elim (cases_Bool (covers owner r g)) as (λ _. covers owner r g ≡ false) [
      | inr free ↦ free
      | inl is ↦ absurd (by i g at (covers_first g is) (is_reader g.mode) refl)
    ]))
      where
        by : (i : ℕ) (g : Grant) → slice_get held.locks i ≡ Some g → covers_byte r.number r.low g ≡ true → (b : Bool) → is_reader g.mode ≡ b → ⊥
        by i g at first true reader =
            let counted = found_counted (reads_at r.number r.low) held.locks i g at (ap (λ b. b && covers_byte r.number r.low g) reader ∙ first) in
            omega (arith, none)
        by i g at first false writer = let no_way : true ≡ false = sym (ap (λ b. not b && covers_byte r.number r.low g) writer ∙ first) ∙ no_writer_at i g at in cc
