-- What an import changes in the block area: the lowest spare blocks, each of them for a place of the new tree that a
-- record of the chain writes.
use Rattle.std.proofs.Common.{◌≡◌, ◌≢◌, ◌⊎◌, inl, inr, ℕ, ◌+◌, ◌<◌, ◌≤◌, Bool, true, false, List, [], ◌∷◌, length, map, Some, refl, sym, ◌∙◌, ap, subst, arith}
use Rattle.std.specs.Prelude.{◌==◌, ◌&&◌, if◌then◌else◌, is_some, not, slice_get}
use Rattle.std.specs.List.{list_any}
use Rattle.std.specs.Ordering.{nat_cmp, eq_by_cmp}
use Rattle.std.specs.Cmp.{unsigned_tied}
use Rattle.std.specs.FinMap as finite
use Rattle.std.specs.FinMap.{contains_key-keys, get-from_entries}
use Rattle.std.specs.FinMap.Entries.{is_some-find}
use Rattle.std.specs.FinSet as set
use Rattle.std.specs.FinSet.{FinSet, contains-items}
use Rattle.std.proofs.lemmas.Bool.{and_parts, cases_lt, eqb-true, false≢true}
use Rattle.std.proofs.lemmas.Cmp.{nat_cmp_total}
use Rattle.std.proofs.lemmas.List.{length-map}
use Rattle.std.proofs.lemmas.Option.{slice_get_within}
use Rattle.base.specs.common.Rising.{as_keys, rising}
use Rattle.base.specs.tree.Mount.{IsChainOf, IsUsed, Mounts, Placed, frame_of, header_of, records_above}
use Rattle.base.specs.declared.operation.Op.{Op}
use Rattle.base.specs.declared.operation.Op.TheVariants.{Create, Remove, SetLength, SetName, Write}
use Rattle.base.specs.declared.pointer.Pointer.{Pointer}
use Rattle.base.specs.declared.record_state.RecordState.{RecordState}
use Rattle.base.specs.declared.record_state.RecordState.TheVariants.{Unchanged}
use Rattle.base.specs.disk.Disk.{Disk, bytes_of}
use Rattle.base.specs.formats.Chain.{LogPiece}
use Rattle.base.specs.formats.Fields.{no_pointer}
use Rattle.base.specs.formats.Geometry.{block_address, block_count, block_size}
use Rattle.base.specs.formats.Limits.{indirect_count, object_count, pointer_count}
use Rattle.base.specs.formats.Uberblocks.{Uberblock}
use Rattle.base.specs.history.Contents.{Contents}
use Rattle.base.specs.tree.Places.{IsInTree, IsPlace, Place, has_block, object_of_indirect, pointer_of, record_of_strip, strip_of}
use Rattle.base.specs.tree.Places.Place.{Data, Indirect, Root}
use Rattle.base.specs.tree.Syncs.{GroupChanges, group_changes, has_strip_after, is_change_of, is_dirty, is_indirect_written, is_on, is_record_written, is_strip_changed, is_unchanged, pointer_numbers, record_state}
use Rattle.base.proofs.common.KeptLists.{any_found, any_none, at_take, none_any, take-at, at-map}
use Rattle.base.proofs.crash.OneMount.{one-active, one-chain}
use Rattle.base.proofs.disk.Put.{part_same}
use Rattle.base.proofs.stored.StoredSets.{IsAt, map-at, rising-in, rising-rises, keys-as_keys}
use Rattle.base.proofs.tree.PlacedTrees.{places-apart, pointers-told, told-in_tree}
use Rattle.base.proofs.tree.RecordStates.{state-off}
use Rattle.contents.specs.ContentsShown.{contents_of}
use Rattle.tree_blocks.specs.Pointers.{pointers_of}
use Rattle.tree_plans.specs.Plans.{address_of}
use Rattle.tree_plans.specs.declared.planner.PlannedBlock.{PlannedBlock}
use Rattle.import_replay.specs.PlacedRecords.{ops_of_placed, placed_estimate}
use Rattle.import_replay.specs.FreeBlocks.{is_planned}
use Rattle.import_replay.specs.ImportSyncs.{IsImportWritten}
use Rattle.import_replay.specs.Mounts.{IsImport, frame_of_import}
use Rattle.import_replay.specs.TakenBlocks.{AreForEachPlace, AreLowestSpare, replayed_places}
use Rattle.import_replay_clients.specs.ChangedBlocks.{ChangesBlock, KeepsBlock}
use Rattle.mounted.specs.declared.mounted.Mounted.{Mounted}
use Rattle.import_replay.proofs.FreeBlocks.{at_planned, planned_at}
use Rattle.import_replay.proofs.WrittenPlaces.{IsWrittenAt, each_place, each_written, root_last}

-- a number of a set stands in its rising list
in-rising : (numbers : FinSet nat_cmp) (x : ℕ) → set.contains numbers x ≡ true → IsAt (rising numbers) x
in-rising numbers x is =
    let there : list_any (eq_by_cmp nat_cmp x) (rising numbers) ≡ true =
    sym (contains_key-keys (finite.from_entries {R = nat_cmp} (as_keys (set.items numbers))) x)
    ∙ ap is_some (get-from_entries nat_cmp_total (as_keys (set.items numbers)) x) ∙ is_some-find nat_cmp x (as_keys (set.items numbers)) ∙ ap (list_any (eq_by_cmp nat_cmp x)) (keys-as_keys (set.items numbers))
    ∙ sym (contains-items numbers x) ∙ is in
    let (i, y, at, passes) = any_found (eq_by_cmp nat_cmp x) (rising numbers) there in
    (i, at ∙ ap (λ (n : ℕ). Some n) (sym (eqb-true x y (sym (unsigned_tied x y) ∙ passes))))

-- an operation that is not on an object changes no record of it
change_off : (n : ℕ) (op : Op) → is_on n op ≡ false → is_change_of n op ≡ false
change_off n (Create o) off = refl
change_off n (Remove o) off = refl
change_off n (Write o offset bytes) off = off
change_off n (SetLength o new) off = off
change_off n (SetName bytes) off = refl

-- a strip that didn't change, of an object that didn't, gives no reason to write its indirect block
not_either : (long strip first changed : Bool) → strip ≡ false → changed ≡ false → (if long then strip else (first && changed)) ≡ true → ⊥
not_either true strip first changed none off h = false≢true (sym none ∙ h)
not_either false strip true changed none off h = false≢true (sym off ∙ h)
not_either false strip false changed none off h = false≢true h

no_change : (n : ℕ) (ops : List Op) → list_any (is_on n) ops ≡ false → list_any (is_change_of n) ops ≡ false
no_change n ops off = any_none (is_change_of n) ops (λ i op at. change_off n op (none_any (is_on n) ops i op off at))

module _ (old new : Disk) (moment dirty_max : ℕ) (m : Mounted) (import : IsImport (bytes_of old.now) (bytes_of new.now) dirty_max m) (written : IsImportWritten old new moment m) where
  abbrev image : List ℕ
  image = bytes_of old.now

  abbrev now : List ℕ
  now = bytes_of new.now

  abbrev blocks : List PlannedBlock
  blocks = written.synced.blocks

  -- a block that is not written stays
  unwritten : (k : ℕ) → k < block_count m.geometry → is_planned k blocks ≡ false → KeepsBlock old new k
  unwritten k low left = part_same now image (block_address k) block_size import.size (λ i from to.
      written.synced.written.others i (omega (arith, from)) (omega (arith, to, low)) (λ j b early at here.
      false≢true (sym left ∙ at_planned k blocks j b at (let index : b.index ≡ k = omega (arith, from, to, here.0, here.1) in ap block_address index))))

  -- so one that has changed is
  changed_at : (k : ℕ) → k < block_count m.geometry → ChangesBlock old new k → IsAt (map address_of blocks) (block_address k)
  changed_at k low changed = by_flag (is_planned k blocks) refl
    where
      by_flag : (b : Bool) → is_planned k blocks ≡ b → IsAt (map address_of blocks) (block_address k)
      by_flag true planned =
          let (i, b, at, same) = planned_at k blocks planned in
          (i, map-at address_of blocks i b at ∙ ap (λ (a : ℕ). Some a) same)
      by_flag false left = absurd (changed (unwritten k low left))

  abbrev each : AreForEachPlace image written.synced.u written.synced.chain (pointers_of m.contents.tree) (map address_of blocks)
  each = written.synced.each

  abbrev lowest : AreLowestSpare image written.synced.u written.synced.chain (map address_of blocks)
  lowest = written.synced.lowest

  abbrev places : List Place
  places = replayed_places image written.synced.u written.synced.chain each.synced

  abbrev ops : List Op
  ops = ops_of_placed (records_above written.synced.u.group written.synced.chain)

  -- it is that of a place which the records write
  place_at : (i address : ℕ) → slice_get (map address_of blocks) i ≡ Some address → (place : Place) × (slice_get places i ≡ Some place) × IsPlace place × ((pointers_of m.contents.tree place).address ≡ address)
  place_at i address at =
      let (place, there, same) = at-map (λ (p : Place). (pointers_of m.contents.tree p).address) places i address (ap (λ (l : List ℕ). slice_get l i) each.each ∙ at) in
      (place, there, each_place (group_changes ops each.synced (has_block image written.synced.u.root)) i place there, same)

  some_pointer : (p : Pointer) (k : ℕ) → p.address ≡ block_address k → p ≢ no_pointer
  some_pointer p k at none = let zero_is : p.address ≡ 0 = ap (λ (q : Pointer). q.address) none in omega (arith, zero_is, at)

  taken_in_tree : (k : ℕ) → IsAt (map address_of blocks) (block_address k) → IsInTree now m.contents.tree.root (block_address k)
  taken_in_tree k (i, at) =
      let (place, there, in_range, same) = place_at i (block_address k) at in
      subst (λ (a : ℕ). IsInTree now m.contents.tree.root a) same
      (told-in_tree now (frame_of_import m) (pointers_of m.contents.tree) (contents_of m.contents).objects import.stands.tree place in_range (some_pointer (pointers_of m.contents.tree place) k same))

  -- the place of a block that is taken, told by its pointer in the new tree
  same_place : (i k : ℕ) (place : Place) → slice_get (map address_of blocks) i ≡ Some (block_address k) → IsPlace place → (pointer_of now m.contents.tree.root place).address ≡ block_address k → slice_get places i ≡ Some place
  same_place i k place at in_range named =
      let (other, there, other_in_range, same) = place_at i (block_address k) at in
      let told : (pointers_of m.contents.tree place).address ≡ block_address k =
      ap (λ (p : Pointer). p.address) (sym (pointers-told now (frame_of_import m) (pointers_of m.contents.tree) (contents_of m.contents).objects import.stands.tree place in_range)) ∙ named in
      let one : other ≡ place =
      places-apart now (frame_of_import m) (pointers_of m.contents.tree) (contents_of m.contents).objects import.stands.tree other place other_in_range in_range (some_pointer (pointers_of m.contents.tree other) k same) (same ∙ sym told) in
      there ∙ ap (λ (p : Place). Some p) one

  -- the block of a place that the records don't write stays
  not_written : (k : ℕ) (place : Place) → k < block_count m.geometry → IsPlace place → (pointer_of now m.contents.tree.root place).address ≡ block_address k
      → (IsWrittenAt (group_changes ops each.synced (has_block image written.synced.u.root)) place → ⊥) → KeepsBlock old new k
  not_written k place low in_range named other = by_flag (is_planned k blocks) refl
    where
      by_flag : (b : Bool) → is_planned k blocks ≡ b → KeepsBlock old new k
      by_flag true planned =
          let (i, b, at, same) = planned_at k blocks planned in
          let there = same_place i k place (map-at address_of blocks i b at ∙ ap (λ (a : ℕ). Some a) same) in_range named in
          absurd (other (each_written (group_changes ops each.synced (has_block image written.synced.u.root)) i place there))
      by_flag false left = unwritten k low left

  -- each block that has changed is one of the new tree
  pub changed_in_tree : (k : ℕ) → k < block_count m.geometry → ChangesBlock old new k → IsInTree now m.contents.tree.root (block_address k)
  changed_in_tree k low changed = taken_in_tree k (changed_at k low changed)

  -- the blocks lie at the first spare addresses, in order
  at_rising : (i x : ℕ) → slice_get (map address_of blocks) i ≡ Some x → slice_get (rising lowest.spare) i ≡ Some x
  at_rising i x at = at_take (length (map address_of blocks)) (rising lowest.spare) i x (ap (λ (l : List ℕ). slice_get l i) (sym lowest.lowest) ∙ at)

  in_order : (i j x y : ℕ) → slice_get (map address_of blocks) i ≡ Some x → slice_get (map address_of blocks) j ≡ Some y → i < j → x < y
  in_order i j x y at_i at_j before = rising-rises lowest.spare i j x y before (at_rising i x at_i) (at_rising j y at_j)

  -- If the root has changed, no block above it has.
  pub root_highest : (k r : ℕ) → k < block_count m.geometry → r < block_count m.geometry → m.contents.tree.root.address ≡ block_address r → ChangesBlock old new k → ChangesBlock old new r → k ≤ r
  root_highest k r k_low r_low named k_changed r_changed =
      let (i, at) = changed_at k k_low k_changed in
      let (last, at_last) = changed_at r r_low r_changed in
      let end : length places ≡ last + 1 = root_last (group_changes ops each.synced (has_block image written.synced.u.root)) last (same_place last r Root at_last tt named) in
      let long : length (map address_of blocks) ≡ length places = ap (λ (l : List ℕ). length l) (sym each.each) ∙ length-map places (λ (p : Place). (pointers_of m.contents.tree p).address) in
      let within = slice_get_within (map address_of blocks) i (block_address k) at in
      elim (cases_lt i last) as (λ _. k ≤ r) [
        | inl before ↦ (let less = in_order i last (block_address k) (block_address r) at at_last before in omega (arith, less))
        | inr from ↦
            let same : i ≡ last = omega (arith, from, end, long, within) in
            let addresses : Some (block_address k) ≡ Some (block_address r) = sym at ∙ ap (λ (n : ℕ). slice_get (map address_of blocks) n) same ∙ at_last in
            let equal : block_address k ≡ block_address r = cc in
            omega (arith, equal)
      ]

  -- What the image mounts, with its chain.
  module _ (u : Uberblock) (chain : List LogPiece) (contents : Contents) (mounts : Mounts image u chain contents) where
    same_u : written.synced.u ≡ u
    same_u = one-active image written.synced.u u written.synced.active mounts.found.pool.active

    same_chain : written.synced.chain ≡ chain
    same_chain = one-chain image (frame_of image u) u.import_number (header_of u) written.synced.chain chain (subst (λ (v : Uberblock). IsChainOf image v written.synced.chain) same_u written.synced.chain_is) mounts.found.chain_is

    same_records : records_above written.synced.u.group written.synced.chain ≡ records_above u.group chain
    same_records = λ i. records_above (same_u i).group (same_chain i)

    -- without records nothing is written
    pub nothing_written : records_above u.group chain ≡ [] → (k : ℕ) → k < block_count m.geometry → KeepsBlock old new k
    nothing_written none k low = unwritten k low (no_block blocks few)
      where
        few : length blocks ≤ 0
        few = subst (λ (ps : List Placed). length blocks ≤ placed_estimate ps) (same_records ∙ none) written.synced.few

        no_block : (bs : List PlannedBlock) → length bs ≤ 0 → is_planned k bs ≡ false
        no_block [] h = refl
        no_block (b ∷ bs) h = absurd (omega (arith, h))

    -- no spare block below one that has changed is left out
    pub lower_in_tree : (j k : ℕ) → k < block_count m.geometry → ChangesBlock old new k → j < k → (IsUsed image u.root chain (block_address j) → ⊥) → IsInTree now m.contents.tree.root (block_address j)
    lower_in_tree j k low changed less unused = taken_in_tree j (below_taken (changed_at k low changed))
      where
        below_taken : IsAt (map address_of blocks) (block_address k) → IsAt (map address_of blocks) (block_address j)
        below_taken (last, at_last) = front (in-rising lowest.spare (block_address j) is_spare)
          where
            there : slice_get (rising lowest.spare) last ≡ Some (block_address k)
            there = at_rising last (block_address k) at_last

            is_spare : set.contains lowest.spare (block_address j) ≡ true
            is_spare =
                let (index, within, same) = ((lowest.each (block_address k)).0 (rising-in lowest.spare last (block_address k) there)).0 in
                (lowest.each (block_address j)).1 (
                  (j, omega (arith, less, within, same), refl),
                  λ used. unused (subst (λ (v : Uberblock). IsUsed image v.root chain (block_address j)) same_u (subst (λ (bs : List LogPiece). IsUsed image written.synced.u.root bs (block_address j)) same_chain used)),
                )

            front : IsAt (rising lowest.spare) (block_address j) → IsAt (map address_of blocks) (block_address j)
            front (i, at) = elim (cases_lt i last) as (λ _. IsAt (map address_of blocks) (block_address j)) [
              | inl before ↦ (let within = slice_get_within (map address_of blocks) last (block_address k) at_last in
                  (i, ap (λ (l : List ℕ). slice_get l i) lowest.lowest ∙ take-at (length (map address_of blocks)) (rising lowest.spare) i (block_address j) (omega (arith, before, within)) at))
              | inr from ↦ absurd (not_above i at from (cases_lt last i))
            ]
              where
                not_above : (i : ℕ) → slice_get (rising lowest.spare) i ≡ Some (block_address j) → last ≤ i → (last < i) ⊎ (i ≤ last) → ⊥
                not_above i at from (inl above) = let order = rising-rises lowest.spare last i (block_address k) (block_address j) above there at in omega (arith, order, less)
                not_above i at from (inr to) =
                    let same : last ≡ i = omega (arith, from, to) in
                    let addresses : Some (block_address k) ≡ Some (block_address j) = sym there ∙ ap (λ (n : ℕ). slice_get (rising lowest.spare) n) same ∙ at in
                    let equal : block_address k ≡ block_address j = cc in
                    omega (arith, equal, less)

    -- an object stays as it is if no record of the chain is on it: its records, its indirect blocks and its top
    module _ (n : ℕ) (low : n < object_count) (none : list_any (is_on n) (ops_of_placed (records_above u.group chain)) ≡ false) where
      none_on : list_any (is_on n) ops ≡ false
      none_on = ap (λ (ps : List Placed). list_any (is_on n) (ops_of_placed ps)) same_records ∙ none

      abbrev changes : GroupChanges
      changes = group_changes ops each.synced (has_block image written.synced.u.root)

      no_state : (r : ℕ) → record_state n r ops each.synced Unchanged ≡ Unchanged
      no_state r = state-off n r ops each.synced Unchanged none_on

      no_strip : (j : ℕ) → is_strip_changed changes n j ≡ false
      no_strip j = any_none (λ k. not (is_unchanged (changes.state n (record_of_strip j k)))) pointer_numbers (λ i k at. ap (λ (state : RecordState). not (is_unchanged state)) (no_state (record_of_strip j k)))

      -- the records of its strip m, and the indirect block of that strip
      pub other_record : (strip r k : ℕ) → strip < indirect_count → object_of_indirect strip ≡ n → r < pointer_count → k < block_count m.geometry
          → (pointer_of now m.contents.tree.root (Data strip r)).address ≡ block_address k → KeepsBlock old new k
      other_record strip r k strip_low of r_low k_low named =
          not_written k (Data strip r) k_low (strip_low, r_low) named
          (λ is. false≢true (sym (ap is_dirty (no_state (record_of_strip (strip_of strip) r))) ∙ sym (ap (λ (o : ℕ). is_record_written changes o (strip_of strip) r) of) ∙ is.2))

      pub other_indirect : (strip k : ℕ) → strip < indirect_count → object_of_indirect strip ≡ n → k < block_count m.geometry
          → (pointer_of now m.contents.tree.root (Indirect strip)).address ≡ block_address k → KeepsBlock old new k
      other_indirect strip k strip_low of k_low named =
          not_written k (Indirect strip) k_low strip_low named (λ is.
          let both = and_parts (if changes.is_long n then is_strip_changed changes n (strip_of strip) else (strip_of strip == 0) && changes.is_changed n) (has_strip_after changes n (strip_of strip))
          (sym (ap (λ (o : ℕ). is_indirect_written changes o (strip_of strip)) of) ∙ is.1) in
          not_either (changes.is_long n) (is_strip_changed changes n (strip_of strip)) (strip_of strip == 0) (changes.is_changed n) (no_strip (strip_of strip)) (no_change n ops none_on) both.0)
