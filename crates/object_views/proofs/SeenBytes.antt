-- What reads of a view give of an object, from the bytes of the object below its own records.
use Rattle.std.proofs.Common.{◌≡◌, ◌≢◌, ℕ, ◌+◌, ◌-◌, ◌*◌, ◌/◌, ◌<◌, ◌≤◌, ◌⊎◌, inl, inr, true, false, List, [], ◌∷◌, length, get_or, Option, Some, None, refl, sym, ap, subst, ◌∙◌, arith, min, drop, length-take, length-drop, get_or-take, get_or-drop}
use Rattle.std.specs.Prelude.{Bool, IfSome, IsTrue, is_some, nat_le, nat_lt, not, option_map, unwrap_or, ◌||◌}
use Rattle.std.specs.FinMap as finite
use Rattle.std.specs.FinMap.{FinMap}
use Rattle.std.specs.Ordering.{nat_cmp}
use Rattle.std.proofs.lemmas.Bool.{and_parts, cases_lt, false≢true, leb-true}
use Rattle.std.proofs.lemmas.List.{ext_get_or}
use Rattle.std.proofs.Math.Bool.{or-true}
use Rattle.base.specs.declared.error.PoolError.{PoolError}
use Rattle.base.specs.declared.pointer.Pointer.{Pointer}
use Rattle.base.specs.declared.range.Range.{Range}
use Rattle.base.specs.disk.Disk.{Disk, bytes_of}
use Rattle.base.specs.formats.Fields.{part}
use Rattle.base.specs.formats.Limits.{max_length, object_count, record_count, record_size}
use Rattle.base.specs.history.Contents.{stored}
use Rattle.base.specs.steps.Locks.{is_range_allowed}
use Rattle.base.proofs.history.Objects.{get-stored_same}
use Rattle.tree_blocks.specs.declared.forms.Entry.{Entry}
use Rattle.tree_blocks.specs.Sources.{AreBytesFrom}
use Rattle.trees.specs.ObjectPaths.{IsEntryFound}
use Rattle.object_views.specs.ReadPaths.{IsPartRead, IsSoundObject, IsSoundRecord, IsStripRead, OnObject, TellsRecord}
use Rattle.object_views.specs.declared.path_blocks.PathBlocks.{PathBlocks}
use Rattle.extents.specs.declared.basis.Basis.{Basis}
use Rattle.extents.specs.declared.basis.Basis.TheVariants.{Cut, Gone, Grown, Made}
use Rattle.extents.specs.LaidReads.{LaysOnBelow}
use Rattle.extents.specs.Objects.{HidesBelow}
use Rattle.extents.specs.Patches.{is_shown, laid_over, length_over, patched}
use Rattle.extents.specs.Tables.{patches_of}
use Rattle.extents.proofs.LaidObjects.{get-laid_over}
use Rattle.extents.proofs.PatchedObjects.{patched_length}
use Rattle.object_reads.proofs.SyncedObjects.{bytes_long}
use Rattle.object_views.specs.ObjectViews.{AreCheckedBytes, AreSeenBytes, AreStoredBytes, AreViewBlocks, IsCheckedRead, IsStoredEntry, OnStored, TellsBetween, bytes_of_range, is_own, length_of_entry, length_seen, object_of, patch_seen, seen_over, stored_object}
use Rattle.object_views.specs.declared.view.ObjectView.{ObjectView}
use Rattle.object_views.proofs.ObjectViews.{size_below}

-- a range that may be read ends within the greatest length
pub allowed_within : (low high : ℕ) → is_range_allowed low high ≡ true → high ≤ max_length
allowed_within low high allowed = leb-true high max_length (and_parts (nat_lt low high) (nat_le high max_length) allowed).1

-- an object that is there over none has no byte of one below
made_alone : (basis : Basis) (i : ℕ) → is_some (length_over basis None) ≡ true → is_shown basis i ≡ false
made_alone (Grown end) i there = absurd (false≢true there)
made_alone (Cut kept size) i there = absurd (false≢true there)
made_alone (Made size) i there = refl
made_alone Gone i there = refl

some_of : (o : Option (List ℕ)) → is_some (option_map length o) ≡ true → is_some o ≡ true
some_of (Some bytes) there = refl
some_of None there = there

-- what holds of the image of a device holds of that of one with the same disk
pub stored_moved : (v : ObjectView) (keeps : Bool) (old new : Disk) (P : List ℕ → Pointer → Type 0) → (IsTrue keeps → new ≡ old) → OnStored keeps old v P → OnStored keeps new v P
stored_moved v keeps old new P same holds = go v.stored holds
  where
    go : (o : Option Entry) → IfSome o (λ (e : Entry). OnObject keeps old (stored_object v e) P) → IfSome o (λ (e : Entry). OnObject keeps new (stored_object v e) P)
    go None h = tt
    go (Some e) h = λ k image root shows is. h k image root (ap (λ (d : Disk). bytes_of d.now) (sym (same k)) ∙ shows) is

-- no block is read yet
pub none_read : (v : ObjectView) (keeps : Bool) (disk : Disk) (blocks : PathBlocks) → blocks.is_top_read ≡ false → blocks.strip ≡ None → OnStored keeps disk v (AreViewBlocks v blocks)
none_read v keeps disk blocks top strip = go v.stored
  where
    go : (o : Option Entry) → IfSome o (λ (e : Entry). OnObject keeps disk (stored_object v e) (AreViewBlocks v blocks))
    go None = tt
    go (Some e) = λ k image root shows is. record {
      top = λ is_read. absurd (false≢true (sym top ∙ is_read));
      strip = subst (λ (o : Option ℕ). IfSome o (λ j. IsStripRead image v.frame root (object_of v) j blocks.indirect)) (sym strip) tt;
    }

-- bytes of the object in the tree, from a part of a record that was read
pub stored_bytes : (image : List ℕ) (root : Pointer) (v : ObjectView) (entry : Entry) (index start : ℕ) (into : List ℕ) → object_of v < object_count → index < record_count → IsStoredEntry image root (object_of v) v.stored
    → v.stored ≡ Some entry → IsPartRead image v.frame root (object_of v) index start into → AreStoredBytes image root v (record_size * index + start) into
stored_bytes image root v entry index start into low inside is same read None object =
    let at = subst (λ (o : Option Entry). IsEntryFound image root (object_of v) o) same (is.found low) in
    absurd (subst (λ (o : Option Entry). IfSome o (λ (e : Entry). e.present ≢ 0)) same is.present (sym at.levels ∙ object))
stored_bytes image root v entry index start into low inside is same read (Some bytes) object = read.bytes bytes (object.records index inside read.sound)

module _ (image : List ℕ) (root : Pointer) (v : ObjectView) (low : object_of v < object_count) (entry : IsStoredEntry image root (object_of v) v.stored) where
  -- what is seen over an object of the tree has the length that is seen
  pub seen_length : (below : Option (List ℕ)) → IsSoundObject image v.frame root (object_of v) below → option_map length (seen_over v below) ≡ length_seen v
  seen_length below is =
      patched_length (patch_seen v) below ∙ ap (length_over (patch_seen v).basis) (size_below image v.frame root (object_of v) v.stored below low entry is)

  module _ (there : is_some (length_seen v) ≡ true) (offset : ℕ) where
    seen_there : (below : Option (List ℕ)) → IsSoundObject image v.frame root (object_of v) below → is_some (seen_over v below) ≡ true
    seen_there below is = some_of (seen_over v below) (ap is_some (seen_length below is) ∙ there)

    -- the own records over bytes of the object in the tree, or over any that they hide
    pub laid_seen : (old new : List ℕ) → LaysOnBelow (patches_of v.changes) (object_of v) offset old new → HidesBelow (patch_seen v) offset (length old) ⊎ AreStoredBytes image root v offset old
        → AreSeenBytes image root v offset new
    laid_seen old new lays given below is =
        let n : ℕ = object_of v in
        let objects : FinMap nat_cmp (List ℕ) = stored finite.empty n below in
        let got : finite.get objects n ≡ below = get-stored_same finite.empty n below in
        let laid : finite.get (laid_over (patches_of v.changes) objects) n ≡ seen_over v below = get-laid_over (patches_of v.changes) objects n low ∙ ap (patched (patch_seen v)) got in
        subst (λ (o : Option (List ℕ)). AreBytesFrom offset (unwrap_or o []) new) laid (lays objects (ap is_some laid ∙ seen_there below is) (elim given [
          | inl hides ↦ inl hides
          | inr bytes ↦ inr (subst (λ (o : Option (List ℕ)). AreBytesFrom offset (unwrap_or o []) old) (sym got) (bytes below is))
        ]))

    -- so each byte is one of the own records, or of a sound record
    pub hidden_checked : (count : ℕ) → HidesBelow (patch_seen v) offset count → AreCheckedBytes image root v offset count
    hidden_checked count hides k inside = inl (hides k inside)

    pub read_checked : (index start count : ℕ) → offset ≡ 4032 * index + start → start + count ≤ 4032 → IfSome v.stored (λ (e : Entry). IsSoundRecord image v.frame root (object_of v) index)
        → AreCheckedBytes image root v offset count
    read_checked index start count at within is k inside = go v.stored refl
      where
        r_is : index ≡ (offset + k) / 4032
        r_is = omega (arith, at, within, inside)

        go : (o : Option Entry) → v.stored ≡ o → (is_own v (offset + k) ≡ true) ⊎ IsSoundRecord image v.frame root (object_of v) ((offset + k) / 4032)
        go (Some e) same =
            inr (subst (λ (r : ℕ). IsSoundRecord image v.frame root (object_of v) r) r_is (subst (λ (o : Option Entry). IfSome o (λ (e : Entry). IsSoundRecord image v.frame root (object_of v) index)) same is))
        go None same =
            let alone : is_some (length_over (patch_seen v).basis None) ≡ true = ap (λ (o : Option Entry). is_some (length_over (patch_seen v).basis (length_of_entry o))) (sym same) ∙ there in
            let none : not (is_shown (patch_seen v).basis (offset + k)) ≡ true = ap not (made_alone (patch_seen v).basis (offset + k) alone) in
            inl (ap (λ b. is_some ((patch_seen v).written (offset + k)) || b) none ∙ or-true (is_some ((patch_seen v).written (offset + k))))

-- a refusal of a record that has one of so many bytes from an offset on
pub told_between : (image : List ℕ) (root : Pointer) (v : ObjectView) (from count done : ℕ) (e : PoolError) → done < count → TellsRecord image v.frame root (object_of v) ((from + done) / 4032) e
    → TellsBetween image root v from (from + count) e
told_between image root v from count done e inside tells kind address is = (from + done, omega arith, omega (arith, inside), tells)

-- so it is of a range that is read up to the end of an object
pub told_within : (image : List ℕ) (root : Pointer) (v : ObjectView) (low high size count : ℕ) (e : PoolError) → count ≡ min high size - min low size
    → TellsBetween image root v (min low size) (min low size + count) e → TellsBetween image root v low high e
told_within image root v low high size count e counted tells kind address is =
    let t = tells kind address is in
    (t.0, omega (arith, t.1, t.2, counted), omega (arith, t.1, t.2, counted), t.3)

-- checked bytes, and then more of them
pub checked_more : (image : List ℕ) (root : Pointer) (v : ObjectView) (from done count offset : ℕ) → offset ≡ from + done → AreCheckedBytes image root v from done → AreCheckedBytes image root v offset count
    → AreCheckedBytes image root v from (done + count)
checked_more image root v from done count offset at first next k inside = go (cases_lt k done)
  where
    P : ℕ → Type 0
    P i = (is_own v i ≡ true) ⊎ IsSoundRecord image v.frame root (object_of v) (i / 4032)

    go : (k < done) ⊎ (done ≤ k) → P (from + k)
    go (inl l) = first k l
    go (inr g) =
        let same : offset + (k - done) ≡ from + k = omega (arith, at, g) in
        subst (λ (i : ℕ). P i) same (next (k - done) (omega (arith, inside, g)))

-- The bytes of a range that lie below the length of an object.
pub range_read : (bytes into : List ℕ) (low high size : ℕ) → size ≡ length bytes → low ≤ high → length into ≡ min high size - min low size → AreBytesFrom (min low size) bytes into
    → into ≡ part bytes low (high - low)
range_read bytes into low high size is ordered long read =
    let size_is : length (part bytes low (high - low)) ≡ min (high - low) (length bytes - low) = simp (length-take, length-drop) refl in
    ext_get_or 0 into (part bytes low (high - low)) (omega (arith, size_is, long, is, ordered)) (λ k inside.
    let below : k < high - low = omega (arith, inside, long, ordered) in
    let at : min low size + k ≡ low + k = omega (arith, inside, long, ordered) in
    read k inside ∙ ap (λ (i : ℕ). get_or bytes i 0) at ∙ sym (get_or-take (high - low) (drop low bytes) k 0 below ∙ get_or-drop low bytes k 0))

-- The bytes of a range that were read up to the end of the object that is seen.
pub checked_read : (image : List ℕ) (root : Pointer) (v : ObjectView) (range : Range) (size : ℕ) (into : List ℕ) → object_of v < object_count → IsStoredEntry image root (object_of v) v.stored
    → length_seen v ≡ Some size → range.low ≤ range.high → length into ≡ min range.high size - min range.low size → AreSeenBytes image root v (min range.low size) into
    → AreCheckedBytes image root v (min range.low size) (length into) → IsCheckedRead image root v range into
checked_read image root v range size into low entry sized ordered long seen checked = record { exact = exact; checked = from_low }
  where
    P : ℕ → Type 0
    P i = (is_own v i ≡ true) ⊎ IsSoundRecord image v.frame root (object_of v) (i / 4032)

    exact : (below : Option (List ℕ)) → IsSoundObject image v.frame root (object_of v) below → into ≡ bytes_of_range (seen_over v below) range
    exact below is =
        let b = bytes_long (seen_over v below) size (sym (seen_length image root v low entry below is ∙ sized)) in
        range_read b.0 into range.low range.high size (sym b.2) ordered long (subst (λ (o : Option (List ℕ)). AreBytesFrom (min range.low size) (unwrap_or o []) into) b.1 (seen below is))
        ∙ ap (λ (o : Option (List ℕ)). bytes_of_range o range) (sym b.1)

    from_low : AreCheckedBytes image root v range.low (length into)
    from_low k inside =
        let at : min range.low size + k ≡ range.low + k = omega (arith, inside, long, ordered) in
        subst (λ (i : ℕ). P i) at (checked k inside)

-- no byte is read of the first record if its places aren't all sound, but for one of the own records
pub none_checked : (image : List ℕ) (root : Pointer) (v : ObjectView) (bytes : List ℕ) → (IsSoundRecord image v.frame root (object_of v) 0 → ⊥) → is_own v 0 ≡ false
    → AreCheckedBytes image root v 0 (length bytes) → bytes ≡ []
none_checked image root v [] unsound not_own checked = refl
none_checked image root v (b ∷ bytes) unsound not_own checked = elim (checked 0 (omega arith)) [
  | inl own ↦ absurd (false≢true (sym not_own ∙ own))
  | inr sound ↦ absurd (unsound sound)
]
