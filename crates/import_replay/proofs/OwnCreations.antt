-- What a create leaves is a disk that its pool alone wrote, with no objects.
use Rattle.std.proofs.Common.{◌≡◌, ◌≢◌, ◌⊎◌, inl, inr, ⊎_elim, ℕ, ◌+◌, ◌<◌, ◌≤◌, true, List, [], length, drop, Option, Some, None, refl, sym, ◌∙◌, ap, subst, arith}
use Rattle.std.specs.Prelude.{IfSome, cond}
use Rattle.std.specs.Cmp.{unsigned_tied}
use Rattle.std.specs.Ordering.{nat_cmp, eq_by_cmp}
use Rattle.std.specs.FinMap as map
use Rattle.std.specs.FinSet as set
use Rattle.std.specs.FinSet.{FinSet, contains-empty, contains-insert, len-empty, len-insert}
use Rattle.std.proofs.lemmas.Bool.{cases_eq, eqb-true, false≢true, or_cases}
use Rattle.std.proofs.lemmas.Cmp.{nat_cmp_total}
use Rattle.base.specs.kept.LeftDisks.{IsLeft}
use Rattle.base.specs.kept.LogRoom.{HasImportRoom}
use Rattle.base.specs.kept.Own.{AreHandedOrZero, IsCreatedDisk, IsOwnWith}
use Rattle.base.specs.kept.Views.{View, IsFixed, IsView}
use Rattle.base.specs.disk.Disk.{Disk, HandedSince, IsTouched, Write, bytes_of, disk_size, handed, moments}
use Rattle.base.specs.formats.Blocks.{Frame}
use Rattle.base.specs.formats.Fields.{no_pointer, number_at, part}
use Rattle.base.specs.formats.Geometry.{IsGeometry, block_address, block_count, block_size, config_place, slot_place}
use Rattle.base.specs.formats.Labels.{Config}
use Rattle.base.specs.formats.Uberblocks.{IsUberblock, Uberblock, slot_size}
use Rattle.base.specs.history.Contents.{Contents}
use Rattle.base.specs.history.Past.{new_past}
use Rattle.base.specs.steps.Explains.{IsLeftBy}
use Rattle.base.specs.tree.Places.{Place, object_of_indirect}
use Rattle.base.specs.tree.Places.Place.{Root, Directory, Top, Indirect, Data}
use Rattle.base.specs.kept.PlacedTrees.{HoldsTree, StandsAt}
use Rattle.base.specs.tree.Tree.{IsRecord}
use Rattle.base.proofs.crash.CutViews.{cut_none}
use Rattle.base.proofs.crash.LeftDisks.{own_left}
use Rattle.base.proofs.crash.LogRoom.{enough_without_log}
use Rattle.base.proofs.crash.NewDisks.{created_own}
use Rattle.base.proofs.formats.Geometry.{IsGeometry-IsSize, blocks-end, slot-on_device}
use Rattle.labels.specs.Configs.{IsConfigBlock, config_block}
use Rattle.uberblocks.specs.Slots.{slot_bytes}
use Rattle.import_replay.specs.Creations.{first_config, first_uberblock}
use Rattle.import_replay.specs.Labelled.{IsLabelled}
use Rattle.import_replay.specs.OwnCreations.{IsFirstDisk, first_contents, first_view}
use Rattle.import_replay.proofs.NewLabels.{zero_number}

-- with no pointer at any place an image holds the tree of no objects
none_at : (image : List ℕ) (frame : Frame) (m k : ℕ) (o : Option (List ℕ)) → o ≡ None → IfSome o (λ bytes. IsRecord image frame m k no_pointer bytes)
none_at image frame m k None none = tt
none_at image frame m k (Some bytes) none = absurd (let no_way : Some bytes ≡ None = none in cc)

holds_none : (image : List ℕ) (frame : Frame) → HoldsTree image frame (λ place. no_pointer) map.empty
holds_none image frame = record { no_others = λ n past. map.get-empty {X = List ℕ} nat_cmp n; each = λ place in_range. by_place place }
  where
    by_place : (place : Place) → StandsAt image frame (λ p. no_pointer) map.empty place
    by_place Root = inl (refl, λ d below. refl)
    by_place (Directory d) = inl (refl, λ k below. (map.get-empty {X = List ℕ} nat_cmp _, refl))
    by_place (Top n) = inl (refl, λ j below. inl refl)
    by_place (Indirect m) = inl (refl, λ k below. refl)
    by_place (Data m k) = none_at image frame m k (map.get map.empty (object_of_indirect m)) (map.get-empty {X = List ℕ} nat_cmp (object_of_indirect m))

module _ (size t guid moment : ℕ) (name : List ℕ) (disk : Disk) (g : IsGeometry size) (long : disk_size disk ≡ size) (none : disk.now.unflushed ≡ []) (labels : IsLabelled size name guid moment (bytes_of disk.now))
    (is : IsFirstDisk size t (first_view name guid moment size) disk) where
  abbrev v : View
  v = first_view name guid moment size

  abbrev image : List ℕ
  image = bytes_of disk.now

  abbrev config : Config
  config = first_config name guid size

  abbrev u : Uberblock
  u = first_uberblock guid moment

  config_is : IsConfigBlock (config_block config) size config
  config_is = subst (λ (l : List ℕ). IsConfigBlock l size config) (is.configs 0 (omega arith)).stands (labels.1.0 0 (omega arith))

  slot_is : IsUberblock (slot_bytes u) u
  slot_is = subst (λ (l : List ℕ). IsUberblock l u) (is.slots 0 (omega arith)).stands (labels.1.1 0 (omega arith))

  view : IsView size v
  view = record {
    geometry = g;
    uberblock = slot_is;
    config = record { payload = drop 64 (config_block config); block = config_is.sealed; fields = config_is.fields };
    not_above = omega arith;
    name = refl;
    root = refl;
    linked = tt;
    cut = cut_none u.version;
  }

  -- the first block of the area is room enough
  abbrev spare : FinSet nat_cmp
  spare = set.insert set.empty (block_address 0)

  one_spare : set.len spare ≡ 1
  one_spare =
      len-insert nat_cmp_total set.empty (block_address 0)
      ∙ ap (λ b. cond b (set.len (set.empty {R = nat_cmp})) (set.len (set.empty {R = nat_cmp}) + 1)) (contains-empty nat_cmp (block_address 0))
      ∙ ap (λ n. n + 1) (len-empty nat_cmp)

  spare_is : (address : ℕ) → set.contains spare address ≡ true → address ≡ block_address 0
  spare_is address is =
      ⊎_elim (λ same. eqb-true address (block_address 0) (sym (unsigned_tied address (block_address 0)) ∙ same)) (λ none. absurd (false≢true (sym (contains-empty nat_cmp address) ∙ none)))
      (or_cases (eq_by_cmp nat_cmp address (block_address 0)) (set.contains (set.empty {R = nat_cmp}) address) (sym (contains-insert nat_cmp_total set.empty (block_address 0) address) ∙ is))

  room : HasImportRoom (block_count size) v
  room = record {
    spare = spare;
    each = λ address is. (
      (0, omega (arith, (IsGeometry-IsSize size g).least), spare_is address is),
      record { not_in_tree = λ p in_range some. absurd (some refl); not_logged = λ i l at. absurd (let no_way : None ≡ Some l = at in cc) },
    );
    enough = enough_without_log v spare refl (omega (arith, one_spare));
  }

  fixed : (place n : ℕ) (content : List ℕ) → length content ≡ n → part image place n ≡ content → IsFixed disk.now place content
  fixed place n content as_long there = record {
    settled = λ i from to touched. subst (λ (ws : List Write). IsTouched ws i) none touched;
    stands = ap (λ (k : ℕ). part image place k) as_long ∙ there;
  }

  -- each place that the format checks begins with zeros, or was handed
  abbrev IsHandedOrZero : ℕ → ℕ → Type 0
  IsHandedOrZero place n = (number_at (part image place n) 0 ≡ 0) ⊎ HandedSince t (handed disk.now) place (part image place n)

  fits_in : (n : ℕ) → n ≤ size → n ≤ length image
  fits_in n within = omega (arith, within, long)

  block_zero : (k : ℕ) → k < block_count size → number_at (part image (block_address k) block_size) 0 ≡ 0
  block_zero k below =
      zero_number image (block_address k) block_size (omega arith) (fits_in (block_address k + block_size) (omega (arith, blocks-end size g, below)))
      (λ i small. labels.0.1 (block_address k + i) (omega arith, omega (arith, below, small)))

  slot_zero : (label slot : ℕ) → label < 4 → slot < 128 → (slot ≡ 4 → ⊥) → number_at (part image (slot_place size label slot) slot_size) 0 ≡ 0
  slot_zero label slot below in_array other =
      zero_number image (slot_place size label slot) slot_size (omega arith) (fits_in (slot_place size label slot + slot_size) (slot-on_device size label slot g below in_array).within)
      (λ i small. labels.0.0 label (slot_place size label slot + i) below (omega arith, omega (arith, in_array, small)) (λ inside. omega (arith, inside.1)) (λ inside. apart i small inside.0 inside.1))
    where
      apart : (i : ℕ) → i < 8 → slot_place size label 4 ≤ slot_place size label slot + i → slot_place size label slot + i < slot_place size label 4 + 1024 → ⊥
      apart i small from to = other (omega (arith, small, from, to))

  places : AreHandedOrZero size t disk.now
  places place n (inl (as_long, inl (k, below, at))) =
      subst (λ (m : ℕ). IsHandedOrZero place m) (sym as_long) (subst (λ (p : ℕ). IsHandedOrZero p block_size) (sym at) (inl (block_zero k below)))
  places place n (inl (as_long, inr (label, below, at))) =
      let here = is.configs label below in
      subst (λ (m : ℕ). IsHandedOrZero place m) (sym as_long)
      (subst (λ (p : ℕ). IsHandedOrZero p block_size) (sym at) (inr (subst (λ (l : List ℕ). HandedSince t (handed disk.now) (config_place size label) l) (sym here.stands) here.since)))
  places place n (inr (as_long, (label, slot, below, in_array, at))) =
      subst (λ (m : ℕ). IsHandedOrZero place m) (sym as_long) (subst (λ (p : ℕ). IsHandedOrZero p slot_size) (sym at) (by_slot (cases_eq slot 4)))
    where
      by_slot : (slot ≡ 4) ⊎ (slot ≢ 4) → IsHandedOrZero (slot_place size label slot) slot_size
      by_slot (inl first) =
          let here = is.slots label below in
          subst (λ (k : ℕ). IsHandedOrZero (slot_place size label k) slot_size) (sym first) (inr (subst (λ (l : List ℕ). HandedSince t (handed disk.now) (slot_place size label 4) l) (sym here.stands) here.since))
      by_slot (inr other) = inl (slot_zero label slot below in_array other)

  created : IsCreatedDisk size t disk.now v
  created =
      let config_here = is.configs 0 (omega arith) in
      let slot_here = is.slots 0 (omega arith) in
      record {
        view = view;
        no_log = refl;
        size_is = long;
        flushed = none;
        config = record { label = 0; in_range = omega arith; fixed = fixed (config_place size 0) block_size (config_block config) config_here.long config_here.stands };
        slot = record { label = 0; in_range = omega arith; fixed = fixed (slot_place size 0 4) slot_size (slot_bytes u) slot_here.long slot_here.stands };
        tree = holds_none image _;
        first = is.writes.first;
        places = places;
        room = room;
      }

  pub own_from : IsOwnWith disk t guid (first_contents name)
  own_from = created_own t disk v is.writes.began (subst (λ (n : ℕ). IsCreatedDisk n t disk.now v) (sym long) created)

-- nothing happened in the past of a new pool, so its contents are what is left
nothing_left : (contents : Contents) (created dirty_max : ℕ) → IsLeftBy (new_past contents created dirty_max) contents
nothing_left contents created dirty_max = record {
  marks = [];
  cut = record { each = refl; closed = λ i j d earlier below. absurd (omega (arith, below)) };
  acknowledged = λ k d below. absurd (omega (arith, below));
  replayed = refl;
  front = λ rising i j before marked. absurd (false≢true marked);
}

-- so a create that began on the one disk left them on the other
pub new_left : (name : List ℕ) (guid : ℕ) (start made : Disk) → IsOwnWith made (moments start) guid (first_contents name) → IsLeft (new_past (first_contents name) (moments start) 0) made
new_left name guid start made own =
    let new : Contents = first_contents name in
    own_left made (new_past new (moments start) 0) guid new (nothing_left new (moments start) 0) own
