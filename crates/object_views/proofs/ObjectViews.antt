-- A view of an object has what the image mounts, and its reads have the bytes of sound blocks.
use Rattle.std.proofs.Common.{◌≡◌, ℕ, ◌/◌, ◌%◌, ◌<◌, ◌≤◌, ◌⊎◌, inl, inr, true, List, [], ◌∷◌, ◌++◌, length, Option, Some, None, Ok, refl, sym, ap, subst, ◌∙◌, arith}
use Rattle.std.specs.Prelude.{option_map}
use Rattle.std.specs.FinMap as finite
use Rattle.std.proofs.lemmas.Bool.{cases_lt, false≢true}
use Rattle.base.specs.declared.error.PoolError.{PoolError}
use Rattle.base.specs.declared.error.PoolError.TheVariants.{Damaged}
use Rattle.base.specs.declared.operation.Op.{Op}
use Rattle.base.specs.declared.pointer.Pointer.{Pointer}
use Rattle.base.specs.formats.Blocks.{Frame}
use Rattle.base.specs.formats.Chain.{LogPiece}
use Rattle.base.specs.formats.Limits.{max_length, object_count, record_count}
use Rattle.base.specs.formats.Uberblocks.{Uberblock}
use Rattle.base.specs.history.Contents.{Contents, length_of}
use Rattle.base.specs.tree.Damages.{IsSoundAt}
use Rattle.base.specs.tree.Mount.{HasPool, IsChainOf, Mounts, MountsTo, apply_records, frame_of, header_of, records_above}
use Rattle.base.specs.tree.Places.{IsPlace, Place}
use Rattle.base.specs.tree.Places.Place.{Directory, Root, Top}
use Rattle.base.proofs.crash.OneMount.{one-active, one-chain}
use Rattle.base.proofs.tree.SoundTrees.{sound}
use Rattle.base.proofs.tree.Strips.{max-length, record-count, strip-low, strip-object}
use Rattle.tree_blocks.specs.declared.forms.Entry.{Entry}
use Rattle.trees.specs.ObjectPaths.{IsOnPath, TellsAbove, TellsPlace}
use Rattle.trees.proofs.ObjectPaths.{tree_by_path}
use Rattle.object_views.specs.ReadPaths.{IsSoundObject, IsSoundRecord, TellsRecord, indirect_place, record_place}
use Rattle.extents.specs.Patches.{length_over}
use Rattle.extents.proofs.PatchedObjects.{patched_length}
use Rattle.inspections.specs.PoolDamages.{IsOfNoDamage}
use Rattle.object_views.specs.ObjectViews.{IsObjectViewOf, IsStoredEntry, TellsBetween, TellsOwnDamage, length_of_entry, length_seen, object_of, patch_seen, seen_over}
use Rattle.object_views.specs.OwnRecords.{IsOwnRefused, PlacedOp, TakePlace, can_take_place, object_after_all, ops_of, own_of_records}
use Rattle.object_views.specs.declared.view.ObjectView.{ObjectView}
use Rattle.object_views.proofs.OwnLaws.{own_suffice}
use Rattle.object_views.proofs.OwnRecords.{ops-append}

-- an object of a tree is one as far as the places of its path are sound
sound_by_path : (image : List ℕ) (frame : Frame) (root : Pointer) (n : ℕ) (o : Option (List ℕ)) → n < object_count → IsOnPath image frame root n o → IsSoundObject image frame root n o
sound_by_path image frame root n None low is = is
sound_by_path image frame root n (Some bytes) low is = record {
  there = is.there;
  size = is.size;
  records = λ r inside places.
      let j_low : r / 84 < 84 = omega (arith, inside, record-count) in
      let k_low : r % 84 < 84 = omega arith in
      is.records _ (r % 84) (strip-low n (r / 84) low j_low) (strip-object n (r / 84) low) k_low;
}

-- its length is that of its entry
pub size_below : (image : List ℕ) (frame : Frame) (root : Pointer) (n : ℕ) (entry : Option Entry) (below : Option (List ℕ)) → n < object_count → IsStoredEntry image root n entry
    → IsSoundObject image frame root n below → option_map length below ≡ length_of_entry entry
size_below image frame root n None None low is object = refl
size_below image frame root n None (Some bytes) low is object = absurd (object.there (is.found low))
size_below image frame root n (Some e) None low is object = absurd (is.present (sym (is.found low).levels ∙ object))
size_below image frame root n (Some e) (Some bytes) low is object = ap Some (sym object.size ∙ (is.found low).size_is)

-- one of some operations that take place can
take_place_at : (n : ℕ) (xs ys : List Op) (op : Op) (object : Option (List ℕ)) → TakePlace n (xs ++ op ∷ ys) object → can_take_place op (object_after_all n xs object) ≡ true
take_place_at n [] ys op object place = place.0
take_place_at n (x ∷ xs) ys op object place = take_place_at n xs ys op _ place.1

-- a place that is told isn't sound
not_told : (image : List ℕ) (frame : Frame) (root : Pointer) (place : Place) (e : PoolError) (kind address : ℕ) → e ≡ Damaged kind address → TellsPlace image frame root place e
    → IsSoundAt image frame root place → ⊥
not_told image frame root place e kind address is tells = (tells kind address is).2

pub sound_untold : (image : List ℕ) (frame : Frame) (root : Pointer) (n r : ℕ) (e : PoolError) (kind address : ℕ) → e ≡ Damaged kind address → IsSoundRecord image frame root n r
    → TellsRecord image frame root n r e → ⊥
sound_untold image frame root n r e kind address is sound (inl (inl top)) = not_told image frame root (Top n) e kind address is top sound.top
sound_untold image frame root n r e kind address is sound (inl (inr indirect)) = not_told image frame root (indirect_place n r) e kind address is indirect sound.indirect
sound_untold image frame root n r e kind address is sound (inr block) = not_told image frame root (record_place n r) e kind address is block sound.block

-- what the image mounts, by the active uberblock that it has
module _ (image : List ℕ) (u : Uberblock) (name : List ℕ) (pool : HasPool image u name) (contents : Contents) (mounts : MountsTo image contents) where
  same_u : mounts.0 ≡ u
  same_u = one-active image mounts.0 u mounts.2.found.pool.active pool.active

  pub mine : Mounts image u mounts.1 contents
  mine = subst (λ (w : Uberblock). Mounts image w mounts.1 contents) same_u mounts.2

  pub same_chain : (chain : List LogPiece) → IsChainOf image u chain → mounts.1 ≡ chain
  same_chain chain is = one-chain image (frame_of image u) u.import_number (header_of u) mounts.1 chain mine.found.chain_is is

  pub sound_place : (place : Place) → IsPlace place → IsSoundAt image (frame_of image u) u.root place
  sound_place place in_range = sound image (frame_of image u) u.root mine.synced.objects mine.found.tree place in_range

  -- no place of an object's path is told
  no_record : (n r : ℕ) (e : PoolError) (kind address : ℕ) → n < object_count → r < record_count → e ≡ Damaged kind address → TellsRecord image (frame_of image u) u.root n r e → ⊥
  no_record n r e kind address low inside is tells =
      let j_low : r / 84 < 84 = omega (arith, inside, record-count) in
      let k_low : r % 84 < 84 = omega arith in
      let in_range : IsPlace (record_place n r) = (strip-low n (r / 84) low j_low, k_low) in
      sound_untold image (frame_of image u) u.root n r e kind address is (record {
        top = sound_place (Top n) low;
        indirect = sound_place (indirect_place n r) (strip-low n (r / 84) low j_low);
        block = sound_place (record_place n r) in_range;
      }) tells

  no_above : (n : ℕ) (e : PoolError) (kind address : ℕ) → n < object_count → e ≡ Damaged kind address → TellsAbove image (frame_of image u) u.root n e → ⊥
  no_above n e kind address low is tells =
      let d_low : n / 63 < 84 = omega (arith, low) in
      elim tells [
        | inl root ↦ not_told image (frame_of image u) u.root Root e kind address is root (sound_place Root tt)
        | inr directory ↦ not_told image (frame_of image u) u.root (Directory (n / 63)) e kind address is directory (sound_place (Directory (n / 63)) d_low)
      ]

  module _ (chain : List LogPiece) (chain_is : mounts.1 ≡ chain) (n : ℕ) (entry : Option Entry) (is : IsStoredEntry image u.root n entry) where
    applied : apply_records (records_above u.group chain) mine.synced ≡ Ok contents
    applied = subst (λ (c : List LogPiece). apply_records (records_above u.group c) mine.synced ≡ Ok contents) chain_is mine.applied

    own : (finite.get contents.objects n ≡ object_after_all n (ops_of (own_of_records n (records_above u.group chain))) (finite.get mine.synced.objects n))
        × TakePlace n (ops_of (own_of_records n (records_above u.group chain))) (finite.get mine.synced.objects n)
    own = own_suffice n (records_above u.group chain) mine.synced contents applied

    pub sound_below : n < object_count → IsSoundObject image (frame_of image u) u.root n (finite.get mine.synced.objects n)
    sound_below low =
        sound_by_path image (frame_of image u) u.root n (finite.get mine.synced.objects n) low
        (tree_by_path image (frame_of image u) u.root mine.synced.objects mine.found.tree n low)

    sized : (n < object_count) ⊎ (object_count ≤ n) → option_map length (finite.get mine.synced.objects n) ≡ length_of_entry entry
    sized (inl low) = size_below image (frame_of image u) u.root n entry _ low is (sound_below low)
    sized (inr past) = ap (option_map length) (mine.found.tree.no_others n past) ∙ ap length_of_entry (sym (is.outside past))

    -- no own operation is refused
    pub no_refused : (address : ℕ) → IsOwnRefused n (length_of_entry entry) [] (own_of_records n (records_above u.group chain)) address → ⊥
    no_refused address refused =
        let object : Option (List ℕ) = finite.get mine.synced.objects n in
        let split : ops_of (own_of_records n (records_above u.group chain)) ≡ ops_of refused.before ++ refused.refused.op ∷ ops_of refused.after =
        ap (λ (l : List PlacedOp). ops_of l) refused.split ∙ ops-append refused.before (refused.refused ∷ refused.after) in
        let can = take_place_at n (ops_of refused.before) (ops_of refused.after) refused.refused.op object (subst (λ (l : List Op). TakePlace n l object) split own.1) in
        false≢true (sym (refused.refuses object (sized (cases_lt n object_count))) ∙ can)

    pub own_reached : finite.get contents.objects n ≡ object_after_all n (ops_of (own_of_records n (records_above u.group chain))) (finite.get mine.synced.objects n)
    own_reached = own.0

-- a refusal of a view of an image that mounts tells no damage
pub undamaged : (image : List ℕ) (n : ℕ) (contents : Contents) (e : PoolError) → MountsTo image contents → ((kind address : ℕ) → e ≡ Damaged kind address → TellsOwnDamage image n e kind address) → IsOfNoDamage e
undamaged image n contents e mounts damaged kind address is =
    let told = damaged kind address is in
    elim told.damaged [
      | inl above ↦ no_above image told.u told.name told.pool contents mounts n e kind address above.0 is above.1
      | inr own ↦ no_refused image told.u told.name told.pool contents mounts own.1.chain (same_chain image told.u told.name told.pool contents mounts own.1.chain own.1.chain_is) n own.1.entry own.1.stored address own.1.refused
    ]

-- a view has the object of what the image mounts
module _ (image : List ℕ) (v : ObjectView) (seen : IsObjectViewOf image v) (contents : Contents) (mounts : MountsTo image contents) where
  chain_is : mounts.1 ≡ seen.chain
  chain_is = same_chain image seen.u seen.name seen.pool contents mounts seen.chain seen.chain_is

  abbrev pub stored_below : Option (List ℕ)
  stored_below = finite.get (mine image seen.u seen.name seen.pool contents mounts).synced.objects (object_of v)

  pub mounted_object : finite.get contents.objects (object_of v) ≡ seen_over v stored_below
  mounted_object = own_reached image seen.u seen.name seen.pool contents mounts seen.chain chain_is (object_of v) v.stored seen.stored ∙ sym (seen.own.patches (object_of v) stored_below)

  module _ (low : object_of v < object_count) where
    pub mounted_below : IsSoundObject image v.frame seen.u.root (object_of v) stored_below
    mounted_below =
        subst (λ (f : Frame). IsSoundObject image f seen.u.root (object_of v) stored_below) (sym seen.frame_is)
        (sound_below image seen.u seen.name seen.pool contents mounts seen.chain chain_is (object_of v) v.stored seen.stored low)

    pub mounted_length : length_seen v ≡ length_of contents (object_of v)
    mounted_length =
        ap (length_over (patch_seen v).basis) (sym (size_below image v.frame seen.u.root (object_of v) v.stored stored_below low seen.stored mounted_below))
        ∙ sym (patched_length (patch_seen v) stored_below) ∙ ap (option_map length) (sym mounted_object)

    pub no_damage : (from to : ℕ) (e : PoolError) → to ≤ max_length → TellsBetween image seen.u.root v from to e → IsOfNoDamage e
    no_damage from to e within tells kind address is =
        let t = tells kind address is in
        let inside : t.0 / 4032 < record_count = (let most = max-length in omega (arith, t.2, within, most, record-count)) in
        no_record image seen.u seen.name seen.pool contents mounts (object_of v) (t.0 / 4032) e kind address low inside is
        (subst (λ (f : Frame). TellsRecord image f seen.u.root (object_of v) (t.0 / 4032) e) seen.frame_is t.3)
