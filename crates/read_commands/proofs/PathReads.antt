-- A read by path of an image that mounts gives the bytes of what it mounts, or says that there is no such object, and finds
-- no damage. A refusal of it tells a damage that is there.
use Rattle.std.proofs.Common.{◌≡◌, ◌<◌, inl, inr, Bool, ℕ, List, [], ◌∷◌, Result, Ok, Err, true, false, arith, length, refl, subst, sym, ◌∙◌}
use Rattle.std.specs.Prelude.{IfErr, IfOk, IsTrue, None, nat_lt}
use Rattle.std.proofs.lemmas.Bool.{and_parts, false≢true, ltb-true}
use Rattle.base.specs.declared.error.PoolError.{PoolError}
use Rattle.base.specs.declared.error.PoolError.TheVariants.{BadRange, Damaged, NoMemory, NoObject, Read}
use Rattle.base.specs.declared.range.Range.{Range}
use Rattle.base.specs.disk.Disk.{bytes_of}
use Rattle.base.specs.formats.Limits.{object_count}
use Rattle.base.specs.history.Contents.{Contents}
use Rattle.base.specs.steps.Locks.{is_range_allowed}
use Rattle.base.specs.tree.Mount.{MountsTo}
use Rattle.device_model.specs.declared.device.SectorDevice.{Ghosts}
use Rattle.inspections.specs.PoolDamages.{IsOfNoDamage}
use Rattle.mounted.specs.Ranges.{is_readable}
use Rattle.object_views.specs.ReadPaths.{IsSoundRecord}
use Rattle.object_views.specs.ObjectViews.{IsCheckedRead, IsObjectReadRefusal, IsObjectViewOf, IsViewingRefused, TellsBetween, is_own, length_seen, object_of}
use Rattle.object_views.specs.declared.view.ObjectView.{ObjectView}
use Rattle.object_views.proofs.ObjectViews.{mounted_length, undamaged}
use Rattle.tree_blocks.specs.Sources.{range_in}
use Rattle.read_commands.specs.PathReads.{IsCheckedRange, IsPathRefusal, IsUnseen}
use Rattle.read_commands.specs.Reads.{IsAbsentIn, IsMountedRange, IsReadersRefusal}
use Rattle.read_commands.proofs.MountedBytes.{mounted_range}
use Rattle.read_commands.proofs.OnlyRead.{by_inspection}

by_object : (v : ObjectView) (range : Range) (e : PoolError) → IsObjectReadRefusal v range e → IsReadersRefusal e
by_object v range e (inl (outside, test)) = (λ is. cc, λ is. cc)
by_object v range e (inr (inl (none, unseen))) = (λ is. cc, λ is. cc)
by_object v range e (inr (inr (inl memory))) = (λ is. cc, λ is. cc)
by_object v range e (inr (inr (inr (inl read)))) = (λ is. cc, λ is. cc)
by_object v range e (inr (inr (inr (inr (kind, address, damaged))))) = (λ is. cc, λ is. cc)

-- an object that is refused as missing isn't seen
unseen_if : (v : ObjectView) (range : Range) (e : PoolError) → e ≡ NoObject → IsObjectReadRefusal v range e → length_seen v ≡ None
unseen_if v range e is (inl (outside, test)) = absurd (let no : NoObject ≡ BadRange = sym is ∙ outside in cc)
unseen_if v range e is (inr (inl (none, unseen))) = unseen
unseen_if v range e is (inr (inr (inl memory))) = absurd (let no : NoObject ≡ NoMemory = sym is ∙ memory in cc)
unseen_if v range e is (inr (inr (inr (inl read)))) = absurd (let no : NoObject ≡ Read = sym is ∙ read in cc)
unseen_if v range e is (inr (inr (inr (inr (kind, address, damaged))))) = absurd (let no : NoObject ≡ Damaged kind address = sym is ∙ damaged in cc)

-- a range that is refused as one of a missing object could be read
readable_if : (readable : Bool) (read : Result (List ℕ) PoolError) (e : PoolError) → read ≡ Err e → e ≡ NoObject → (readable ≡ false → read ≡ Err BadRange) → readable ≡ true
readable_if true read e same is outside = refl
readable_if false read e same is outside =
    let both : Err e ≡ Err BadRange = sym same ∙ outside refl in
    let bad : e ≡ BadRange = cc in
    absurd (let other : NoObject ≡ BadRange = sym is ∙ bad in cc)

-- a view of an image
module _ (image : List ℕ) (v : ObjectView) (seen : IsObjectViewOf image v) (range : Range) where
  pub path_unseen : (object : ℕ) → object_of v ≡ object → (read : Result (List ℕ) PoolError) → IfErr read (IsObjectReadRefusal v range) → IfErr read (λ e. e ≡ NoObject → IsUnseen image object)
  path_unseen object is (Ok bytes) refused = tt
  path_unseen object is (Err e) refused = λ none. (v, seen, is, unseen_if v range e none refused)

  pub path_checked : (object : ℕ) → object_of v ≡ object → (read : Result (List ℕ) PoolError) → IfOk read (IsCheckedRead image seen.u.root v range) → IfOk read (IsCheckedRange image object range)
  path_checked object is (Ok bytes) checked = (v, seen, is, checked)
  path_checked object is (Err e) checked = tt

  -- which mounts
  module _ (contents : Contents) (mounts : MountsTo image contents) where
    number_low : is_readable (object_of v) range ≡ true → object_of v < object_count
    number_low readable = ltb-true (object_of v) 5292 (and_parts (nat_lt (object_of v) 5292) (is_range_allowed range.low range.high) readable).0

    pub path_mounted : (read : Result (List ℕ) PoolError) → (is_readable (object_of v) range ≡ false → read ≡ Err BadRange)
        → (is_readable (object_of v) range ≡ true → length_seen v ≡ None → read ≡ Err NoObject)
        → IfOk read (λ bytes. bytes ≡ range_in contents.objects v.object range) → IfOk read (IsMountedRange image (object_of v) range)
    path_mounted read outside missing exact =
        mounted_range image contents mounts contents.objects refl v.object range read outside
        (λ readable none. missing readable (mounted_length image v seen contents mounts (number_low readable) ∙ none)) exact

    pub path_absent : (read : Result (List ℕ) PoolError) → (is_readable (object_of v) range ≡ false → read ≡ Err BadRange)
        → IfErr read (IsObjectReadRefusal v range) → IfErr read (λ e. e ≡ NoObject → IsAbsentIn image (object_of v))
    path_absent (Ok bytes) outside refused = tt
    path_absent (Err e) outside refused = λ none. (
      contents,
      mounts,
      sym (mounted_length image v seen contents mounts (number_low (readable_if (is_readable (object_of v) range) (Err e) e refl none outside))) ∙ unseen_if v range e none refused,
    )

-- a view was refused
pub viewing_refused : {Dev : Type 0} (D : Ghosts Dev) (n : ℕ) (range : Range) (old new : Dev) (e : PoolError) → IsViewingRefused D n old new e
    → IsPathRefusal (IsTrue D.keeps_model) (bytes_of (D.disk old).now) n range e
viewing_refused D n range old new e refused = record {
  readers = by_inspection (D.size old) e refused.kind;
  undamaged = λ keeps whole. undamaged (bytes_of (D.disk old).now) n whole.0 e whole.1 (refused.damaged keeps);
  damaged = λ keeps kind address is. inl (refused.damaged keeps kind address is);
}

-- or a read of it was
pub reading_refused : (keeps : Type 0) (image : List ℕ) (v : ObjectView) (object : ℕ) (range : Range) → object_of v ≡ object → (keeps → IsObjectViewOf image v) → (read : Result (List ℕ) PoolError)
    → IfErr read (IsObjectReadRefusal v range) → (keeps → (contents : Contents) → IsObjectViewOf image v → MountsTo image contents → IfErr read IsOfNoDamage)
    → (keeps → (seen : IsObjectViewOf image v) → IfErr read (TellsBetween image seen.u.root v range.low range.high)) → IfErr read (IsPathRefusal keeps image object range)
reading_refused keeps image v object range is seen (Ok bytes) refused sound tells = tt
reading_refused keeps image v object range is seen (Err e) refused sound tells = record {
  readers = by_object v range e refused;
  undamaged = λ kept whole. sound kept whole.0 (seen kept) whole.1;
  damaged = λ kept kind address damaged. inr (v, seen kept, is, tells kept (seen kept));
}

-- no byte of two is checked if its record isn't sound and no log record of the object has the byte
pub no_unsound_byte : (image bytes : List ℕ) → IsCheckedRange image 7 (record { low = 1; high = 3 }) bytes
    → ((v : ObjectView) (seen : IsObjectViewOf image v) → object_of v ≡ 7 → (is_own v 1 ≡ false) × (IsSoundRecord image v.frame seen.u.root 7 0 → ⊥)) → bytes ≡ []
no_unsound_byte image [] checked unsound = refl
no_unsound_byte image (byte ∷ bytes) (v, seen, is, read) unsound =
    let (other, not_sound) = unsound v seen is in
    let some : 0 < length (byte ∷ bytes) = omega arith in
    elim (read.checked 0 some) [
      | inl own ↦ absurd (false≢true (sym other ∙ own))
      | inr sound ↦ absurd (not_sound (subst (λ (n : ℕ). IsSoundRecord image v.frame seen.u.root n 0) is sound))
    ]
