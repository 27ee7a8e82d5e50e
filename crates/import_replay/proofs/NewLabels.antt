-- What an image mounts whose labels are those of a new pool.
use Rattle.std.proofs.Common.{◌≡◌, ◌⊎◌, inl, inr, ℕ, ◌+◌, ◌<◌, ◌≤◌, Bool, true, false, List, [], length, drop, get_or, replicate, nat_eq, refl, sym, ◌∙◌, ap, subst, arith}
use Rattle.std.specs.Prelude.{◌==◌, if◌then◌else◌}
use Rattle.std.specs.Ordering.{nat_cmp}
use Rattle.std.specs.FinMap as map
use Rattle.std.specs.List.{IsDistinct}
use Rattle.std.specs.Int.{from_le_bytes, w64}
use Rattle.std.proofs.lemmas.Bool.{cases_order}
use Rattle.std.proofs.lemmas.List.{ext_get_or, get_or-take, get_or-drop, get_or-replicate, length-replicate}
use Rattle.base.specs.declared.pointer.Pointer.{Pointer}
use Rattle.base.specs.formats.Fields.{part, number_at, no_pointer, pointer_in}
use Rattle.base.specs.formats.Limits.{first_group}
use Rattle.base.specs.formats.Geometry.{IsGeometry, block_count, slot_place, slot_of}
use Rattle.base.specs.tree.Places.{Place, indirect_pointer, pointer_below, pointer_of, strip_of, IsInTree}
use Rattle.base.specs.tree.Places.Place.{Root, Directory, Top, Indirect, Data}
use Rattle.base.specs.history.Contents.{Contents}
use Rattle.base.specs.disk.Disk.{Moment, bytes_of, CrashLeaves}
use Rattle.base.specs.formats.Uberblocks.{Uberblock, StandsIn, IsActive, IsUberblock}
use Rattle.base.specs.formats.Labels.{IsConfig, IsChosen}
use Rattle.base.specs.tree.Mount.{IsMounted, IsUseCount}
use Rattle.base.proofs.disk.Put.{length-part, part-part}
use Rattle.base.proofs.disk.Moments.{only_bytes}
use Rattle.labels.proofs.LabelsOfImage.{IsConfigBlock-IsConfig}
use Rattle.base.proofs.crash.EmptyPools.{empty_chain, empty_tree}
use Rattle.base.proofs.formats.Geometry.{slot-on_device, slot-below}
use Rattle.uberblocks.proofs.SlotReads.{readings_agree}
use Rattle.import_replay.specs.Creations.{IsCreatedOn, IsNewPool, first_uberblock, first_config}
use Rattle.import_replay.specs.Labelled.{IsLabelled}

-- the tree under no root has no block
no_block : (image : List ℕ) (address : ℕ) → IsInTree image no_pointer address → ⊥
no_block image address is = by_place is.place is.named
  where
    either : (first : Bool) → (if first then no_pointer else no_pointer) ≡ no_pointer
    either true = refl
    either false = refl

    no_indirect : (m : ℕ) → indirect_pointer image no_pointer m ≡ no_pointer
    no_indirect m = either (strip_of m == 0)

    by_place : (place : Place) → (pointer_of image no_pointer place).address ≡ address → ⊥
    by_place Root named = is.there (sym named)
    by_place (Directory d) named = is.there (sym named)
    by_place (Top n) named = is.there (sym named)
    by_place (Indirect m) named = is.there (sym named ∙ ap (λ (p : Pointer). p.address) (no_indirect m))
    by_place (Data m k) named = is.there (sym named ∙ ap (λ (p : Pointer). (pointer_below image p (λ payload. pointer_in payload k)).address) (no_indirect m))

none_distinct : IsDistinct nat_eq []
unfolding IsDistinct
none_distinct = tt

none_used : (image : List ℕ) → IsUseCount image no_pointer [] 0
none_used image = record {
  addresses = [];
  distinct = none_distinct;
  each = λ address. (λ is. absurd (omega (arith, is.1)), λ is. absurd (none address is));
  used_is = refl;
}
  where
    none : (address : ℕ) → IsInTree image no_pointer address ⊎ ((k : ℕ) × (k < 0) × (get_or [] k address ≡ address)) → ⊥
    none address (inl is) = no_block image address is
    none address (inr is) = omega (arith, is.1)

-- where eight bytes are zeros, so is the number there
pub zero_number : (image : List ℕ) (place n : ℕ) → 8 ≤ n → place + n ≤ length image → ((k : ℕ) → k < 8 → get_or image (place + k) 0 ≡ 0) → number_at (part image place n) 0 ≡ 0
unfolding number_at
zero_number image place n whole fits each =
    ap (λ (l : List ℕ). from_le_bytes w64 l) (part-part image place n 0 8 (omega (arith, whole)) ∙ ap (λ (k : ℕ). part image k 8) (omega arith) ∙ zeros_there)
  where
    zeros_there : part image place 8 ≡ replicate 8 0
    zeros_there =
        let long = length-part place 8 image (omega (arith, whole, fits)) in
        ext_get_or 0 (part image place 8) (replicate 8 0) long
        (λ k below. get_or-take 8 (drop place image) k 0 (omega (arith, below, long)) ∙ get_or-drop place image k 0 ∙ each k (omega (arith, below, long)) ∙ sym (get_or-replicate 8 k 0 0 (omega (arith, below, long))))

-- and so it is where all bytes are
pub zeros_number : (n : ℕ) → 8 ≤ n → number_at (replicate n 0) 0 ≡ 0
unfolding number_at
zeros_number n whole = ap (λ (l : List ℕ). from_le_bytes w64 l) zeros_there
  where
    zeros_there : part (replicate n 0) 0 8 ≡ replicate 8 0
    zeros_there =
        let long : length (part (replicate n 0) 0 8) ≡ 8 = length-part 0 8 (replicate n 0) (omega (arith, whole, length-replicate {A = ℕ} n 0)) in
        ext_get_or 0 (part (replicate n 0) 0 8) (replicate 8 0) long
        (λ k below. get_or-take 8 (drop 0 (replicate n 0)) k 0 (omega (arith, below, long)) ∙ get_or-drop 0 (replicate n 0) k 0 ∙ ap (λ (j : ℕ). get_or (replicate n 0) j 0) (omega arith) ∙ get_or-replicate n k 0 0 (omega (arith, below, long, whole))
        ∙ sym (get_or-replicate 8 k 0 0 (omega (arith, below, long))))

module _ (image name : List ℕ) (guid moment : ℕ) (is : IsGeometry (length image)) (labels : IsLabelled (length image) name guid moment image) where
  abbrev u : Uberblock
  u = first_uberblock guid moment

  -- no uberblock stands in another slot
  none_elsewhere : (k : ℕ) (other : Uberblock) → k < 4 → (slot_of other.group ≡ 4 → ⊥) → StandsIn image k other → ⊥
  none_elsewhere k other below not stands =
      let low = slot-below other.group in
      let fits = (slot-on_device (length image) k (slot_of other.group) is below low).within in
      let zeros = zero_number image (slot_place (length image) k (slot_of other.group)) 1024 (omega arith) fits (λ i small.
      labels.0.0 k (slot_place (length image) k (slot_of other.group) + i) below
      (omega arith, omega (arith, low, small)) (λ inside. omega (arith, inside.1)) (λ inside. apart (slot_of other.group) i not small inside.0 inside.1)) in
      let magic : 0 ≡ 0x00bab10c = sym zeros ∙ stands.magic in
      absurd (omega (arith, magic))
    where
      apart : (slot i : ℕ) → (slot ≡ 4 → ⊥) → i < 8 → slot_place (length image) k 4 ≤ slot_place (length image) k slot + i → slot_place (length image) k slot + i < slot_place (length image) k 4 + 1024 → ⊥
      apart slot i not small from to = not (omega (arith, small, from, to))

  -- so each is the first one
  only : (k : ℕ) (other : Uberblock) → k < 4 → StandsIn image k other → other ≡ u
  only k other below stands = go (cases_order (slot_of other.group) 4)
    where
      go : (slot_of other.group ≡ 4) ⊎ ((slot_of other.group < 4) ⊎ (4 < slot_of other.group)) → other ≡ u
      go (inl same) = readings_agree (part image (slot_place (length image) k 4) 1024) other u (subst (λ (s : ℕ). IsUberblock (part image (slot_place (length image) k s) 1024) other) same stands) (labels.1.1 k below)
      go (inr (inl less)) = absurd (none_elsewhere k other below (λ same. omega (arith, same, less)) stands)
      go (inr (inr more)) = absurd (none_elsewhere k other below (λ same. omega (arith, same, more)) stands)

  active : IsActive image u
  active = record {
    label = 0;
    in_range = omega arith;
    stands = labels.1.1 0 (omega arith);
    highest = λ k other below stands. let same : other.group ≡ first_group = ap (λ (v : Uberblock). v.group) (only k other below stands) in omega (arith, same);
    lowest = λ k other below stands. absurd (omega (arith, below));
  }

  configs : (label : ℕ) → label < 4 → IsConfig image label guid first_group name
  configs label below = IsConfigBlock-IsConfig image label (first_config name guid (length image)) (labels.1.0 label below)

  chosen : IsChosen image guid first_group first_group name
  chosen = record {
    label = 0;
    in_range = omega arith;
    stands = configs 0 (omega arith);
    not_above = omega arith;
    highest = λ k g other below at stands. at;
    lowest = λ k other below stands. omega (arith, below);
  }

  new_pool : IsNewPool image name guid moment
  new_pool = record { configs = configs; uberblocks = labels.1.1; active = active; cleared = labels.0 }

  abbrev contents : Contents
  contents = record { name = name; objects = map.empty }

  mounted : IsMounted image (record { contents = contents; guid = guid; group = first_group; import_number = 0; blocks = block_count (length image); used = 0; records = 0 })
  mounted = record {
    u = u;
    chain = [];
    mounts = record {
      synced = contents;
      found = record {
        pool = record { geometry = is; active = active; config_group = first_group; chosen = chosen };
        tree = empty_tree image _;
        chain_is = empty_chain image _ 0 0;
      };
      applied = refl;
    };
    guid = refl;
    group = refl;
    import_number = refl;
    blocks = refl;
    records = refl;
    used = none_used image;
  }

  created_on : IsCreatedOn image name guid
  created_on = (
    _,
    mounted,
    record {
      name_is = refl;
      objects = λ n. map.get-empty {X = List ℕ} nat_cmp n;
      guid_is = refl;
      group = refl;
      import_number = refl;
      blocks_are = refl;
      used = refl;
      records = refl;
    },
  )

-- the same of an image of so many bytes
module _ (size : ℕ) (image name : List ℕ) (guid moment : ℕ) (is : IsGeometry size) (long : length image ≡ size) (labels : IsLabelled size name guid moment image) where
  pub new_pool_from : IsNewPool image name guid moment
  new_pool_from = new_pool image name guid moment (subst (λ (n : ℕ). IsGeometry n) (sym long) is) (subst (λ (n : ℕ). IsLabelled n name guid moment image) (sym long) labels)

  pub created_from : IsCreatedOn image name guid
  created_from = created_on image name guid moment (subst (λ (n : ℕ). IsGeometry n) (sym long) is) (subst (λ (n : ℕ). IsLabelled n name guid moment image) (sym long) labels)

-- where nothing is unflushed, what is so of the bytes is so of what each crash leaves
pub settled_from : (P : List ℕ → Type 0) (m : Moment) → m.unflushed ≡ [] → P (bytes_of m) → CrashLeaves P m
settled_from P m none holds image left = subst P (sym (only_bytes m image none left)) holds
