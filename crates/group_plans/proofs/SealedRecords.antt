-- Blocks of records at hand.
use Rattle.std.proofs.Common.{◌≡◌, ℕ, ◌+◌, ◌*◌, ◌/◌, ◌%◌, ◌^◌, ◌<◌, Bool, true, false, cond, List, length, Some, refl, ap, sym, subst, ◌∙◌, arith}
use Rattle.std.specs.Map.{lookup}
use Rattle.std.specs.Prelude.{◌==◌, Err, Ok, OnErr, OnOk, Result, is_some}
use Rattle.std.specs.BTreeMap as tree
use Rattle.std.specs.BTreeMap.{BTreeMap, is_at}
use Rattle.std.specs.Ordering.{nat_cmp}
use Rattle.std.proofs.lemmas.Bool.{eqb-true}
use Rattle.base.specs.formats.Blocks.{IsBlock, sealed_block}
use Rattle.base.specs.formats.Limits.{object_count, pointer_count, record_count}
use Rattle.base.specs.tree.Places.{number_of_place, record_of_strip, strip_number}
use Rattle.base.specs.tree.Places.Place.{Data}
use Rattle.base.proofs.tree.Strips.{record-low}
use Rattle.base.proofs.common.Choices.{some_there}
use Rattle.checked_blocks.specs.Sealing.{padded}
use Rattle.checked_blocks.proofs.SealedBlocks.{sealed_block-is}
use Rattle.tree_blocks.proofs.Payloads.{padded-full}
use Rattle.extents.specs.Tables.{patches_of}
use Rattle.extents.proofs.LaidObjects.{get-laid_past}
use Rattle.tree_blocks.specs.TreeObjects.{objects_of}
use Rattle.tree_blocks.specs.Sources.{object_record}
use Rattle.group_plans.specs.declared.prepared.PreparedObjects.{PreparedObjects}
use Rattle.group_plans.specs.GroupPlans.{objects_with}
use Rattle.group_plans.specs.Prepared.{at_hand}
use Rattle.group_plans.specs.SealedRecords.{AreSealed, IsSealedAs, data_number, prepared_objects}
use Rattle.group_plans.proofs.RecordsAtHand.{at_own, record_at_hand, same_test}

-- one block more
pub put_sealed : (guid group : ℕ) (records old new : BTreeMap ℕ (List ℕ)) (key : ℕ) (block : List ℕ) → IsSealedAs guid group records key block
    → ((q : ℕ) → tree.get nat_cmp new q ≡ cond (is_at (nat_cmp key) q) (Some block) (tree.get nat_cmp old q)) → AreSealed guid group records old → AreSealed guid group records new
put_sealed guid group records old new key block sealed updates all q b at = go (key == q) refl
  where
    told : cond (key == q) (Some block) (tree.get nat_cmp old q) ≡ Some b
    told = sym (ap (λ (t : Bool). cond t (Some block) (tree.get nat_cmp old q)) (same_test key q)) ∙ sym (updates q) ∙ at

    go : (t : Bool) → (key == q) ≡ t → IsSealedAs guid group records q b
    go true same =
        let here : block ≡ b = (let some : Some block ≡ Some b = rw same at told in cc) in
        subst (λ (k : ℕ). IsSealedAs guid group records k b) (eqb-true key q same) (subst (λ (x : List ℕ). IsSealedAs guid group records key x) here sealed)
    go false other = all q b (rw other at told)

-- also if it found no memory
pub stay_sealed : {A E : Type 0} (result : Result A E) (guid group : ℕ) (records old new : BTreeMap ℕ (List ℕ)) (key : ℕ) (block : List ℕ) → IsSealedAs guid group records key block
    → OnOk result (tree.Updates nat_cmp old new key (Some block)) → OnErr result (new.entries ≡ old.entries) → AreSealed guid group records old → AreSealed guid group records new
stay_sealed (Ok a) guid group records old new key block sealed updates same all = put_sealed guid group records old new key block sealed updates.0 all
stay_sealed (Err e) guid group records old new key block sealed updates same all = λ q b at. all q b (sym (ap (λ (es : List (ℕ × List ℕ)). lookup (is_at (nat_cmp q)) es) same) ∙ at)

-- the number of the block of a record
pub own_number : (n j k : ℕ) → j < pointer_count → k < pointer_count → data_number (record_count * n + record_of_strip j k) ≡ number_of_place (Data (strip_number n j) k)
unfolding record_count
own_number n j k j_low k_low =
    let object : (7056 * n + (84 * j + k)) / 7056 ≡ n = omega (arith, j_low, k_low) in
    let within : (7056 * n + (84 * j + k)) % 7056 ≡ 84 * j + k = omega (arith, j_low, k_low) in
    let strip : (84 * j + k) / 84 ≡ j = omega (arith, k_low) in
    let index : (84 * j + k) % 84 ≡ k = omega (arith, k_low) in
    ap (λ (m : ℕ). number_of_place (Data (strip_number m ((7056 * n + (84 * j + k)) % 7056 / 84)) ((7056 * n + (84 * j + k)) % 7056 % 84))) object
    ∙ ap (λ (r : ℕ). number_of_place (Data (strip_number n (r / 84)) (r % 84))) within
    ∙ ap (λ (i : ℕ). number_of_place (Data (strip_number n i) ((84 * j + k) % 84))) strip
    ∙ ap (λ (i : ℕ). number_of_place (Data (strip_number n j) i)) index

-- a sealed record is a block of it
pub sealed_record : (guid group n j k : ℕ) (payload block : List ℕ) → guid < 2 ^ 64 → group < 2 ^ 64 → n < object_count → j < pointer_count → k < pointer_count → length payload ≡ 4032
    → block ≡ sealed_block 5 guid group (number_of_place (Data (strip_number n j) k)) (padded payload)
    → IsBlock block 5 guid group (number_of_place (Data (strip_number n j) k)) payload
sealed_record guid group n j k payload block guid_low group_low n_low j_low k_low long is =
    let number : ℕ = number_of_place (Data (strip_number n j) k) in
    let full : padded payload ≡ payload = padded-full payload long in
    subst (λ (b : List ℕ). IsBlock b 5 guid group number payload) (sym (is ∙ ap (λ (p : List ℕ). sealed_block 5 guid group number p) full))
    (sealed_block-is 5 guid group number payload (omega arith) guid_low group_low (omega (arith, n_low, j_low, k_low)) long)

module _ (p : PreparedObjects) (n j k : ℕ) (n_low : n < object_count) (j_low : j < pointer_count) (k_low : k < pointer_count) where
  -- what is found under its key is the record
  pub own_record : (payload : List ℕ) → tree.get nat_cmp p.records (record_count * n + record_of_strip j k) ≡ Some payload → (length payload ≡ 4032) × (payload ≡ object_record (prepared_objects p) n (record_of_strip j k))
  own_record payload found =
      let r : ℕ = record_of_strip j k in
      let there : at_hand p.records n r ≡ Some payload = at_own p.records n r (record-low j k j_low k_low) ∙ found in
      let cut = p.cut n r payload there in
      (cut.0, record_at_hand (at_hand p.records) (objects_with p.extents.now p.tree.now) (λ m past. get-laid_past (patches_of p.extents.now) (objects_of p.tree.now) m past) n r payload there cut)

  pub padded_record : (payload : List ℕ) → tree.get nat_cmp p.records (record_count * n + record_of_strip j k) ≡ Some payload → padded payload ≡ object_record (prepared_objects p) n (record_of_strip j k)
  padded_record payload found = let own = own_record payload found in padded-full payload own.0 ∙ own.1

  -- a block that is kept for it is its own
  pub kept_block : (guid group : ℕ) (block : List ℕ) → guid < 2 ^ 64 → group < 2 ^ 64 → is_some (at_hand p.records n (record_of_strip j k)) ≡ true → IsSealedAs guid group p.records (record_count * n + record_of_strip j k) block
      → IsBlock block 5 guid group (number_of_place (Data (strip_number n j) k)) (object_record (prepared_objects p) n (record_of_strip j k))
  kept_block guid group block guid_low group_low ready sealed =
      let r : ℕ = record_of_strip j k in
      let some = some_there (at_hand p.records n r) ready in
      let found : tree.get nat_cmp p.records (record_count * n + r) ≡ Some some.0 = sym (at_own p.records n r (record-low j k j_low k_low)) ∙ some.1 in
      let own = own_record some.0 found in
      let is : block ≡ sealed_block 5 guid group (number_of_place (Data (strip_number n j) k)) (padded some.0) = sealed some.0 found ∙ ap (λ (m : ℕ). sealed_block 5 guid group m (padded some.0)) (own_number n j k j_low k_low) in
      subst (λ (payload : List ℕ). IsBlock block 5 guid group (number_of_place (Data (strip_number n j) k)) payload) own.1 (sealed_record guid group n j k some.0 block guid_low group_low n_low j_low k_low own.0 is)
