-- What is read of a record, and what it becomes where the changes of a group are laid over it.
use Rattle.std.proofs.Common.{◌≡◌, ℕ, ◌+◌, ◌*◌, ◌<◌, ◌≤◌, ◌⊎◌, inl, inr, arith, get_or, true, ◌∷◌, ◌++◌, List, [], length, Option, Some, None, refl, ap, subst, sym, ◌∙◌}
use Rattle.std.specs.Prelude.{IfSome, is_some, option_map, unwrap_or, OnOk, Ok, Err, Result}
use Rattle.std.proofs.lemmas.Bool.{cases_lt}
use Rattle.std.proofs.lemmas.List.{ext_get_or, get_or_past}
use Rattle.std.specs.Ordering.{nat_cmp}
use Rattle.std.specs.FinMap as finite
use Rattle.std.specs.FinMap.{FinMap}
use Rattle.base.specs.declared.error.PoolError.{PoolError}
use Rattle.base.specs.declared.pointer.Pointer.{Pointer}
use Rattle.base.specs.formats.Blocks.{Frame}
use Rattle.base.specs.formats.Limits.{object_count, pointer_count, record_size}
use Rattle.base.specs.tree.Places.{record_of_strip, record_start, strip_number}
use Rattle.base.specs.tree.Places.Place.{Data}
use Rattle.base.specs.tree.Tree.{IsRecord}
use Rattle.base.proofs.tree.Strips.{strip-low, strip-object, strip-which}
use Rattle.tree_blocks.specs.declared.tree.Tree.{Tree}
use Rattle.extents.specs.declared.extents.Extents.{Extents}
use Rattle.tree_blocks.specs.Sources.{AreBytesFrom, object_bytes, object_length, object_record}
use Rattle.tree_blocks.proofs.Records.{get_or-record, length-record, whole_record_read}
use Rattle.extents.specs.LaidReads.{LaysOnBelow}
use Rattle.extents.specs.Objects.{HidesBelow}
use Rattle.extents.specs.Patches.{Patches, laid_over}
use Rattle.extents.proofs.LaidReads.{over_below}
use Rattle.base.specs.declared.names.ObjectId.{ObjectId}
use Rattle.tree_plans.specs.declared.changes.ObjectChanges.{ObjectChanges}
use Rattle.tree_plans.specs.Parts.{AreReady}
use Rattle.tree_plans.specs.Plans.{IsReady}
use Rattle.tree_plans.specs.Pointers.{entry_of}
use Rattle.tree_blocks.specs.declared.place.RecordPlace.{RecordPlace}
use Rattle.group_plans.specs.Prepared.{AreBelow, AreExact, HoldsRecord, IsClearedPast, IsObjectRecord, KeepsFront, PutsRecord, number_of_record}
use Rattle.group_plans.proofs.OldMaps.{entry_pushed}

-- an object that has a length is there
pub there_of : (objects : FinMap nat_cmp (List ℕ)) (n size : ℕ) → object_length objects n ≡ Some size → (b : List ℕ) × (finite.get objects n ≡ Some b) × (length b ≡ size)
there_of objects n size told = by (finite.get objects n) refl told
  where
    by : (o : Option (List ℕ)) → finite.get objects n ≡ o → option_map length o ≡ Some size → (b : List ℕ) × (finite.get objects n ≡ Some b) × (length b ≡ size)
    by None is e = absurd (cc)
    by (Some b) is e = (b, is, (cc))

-- and its record is one of the image
pub record_is : (image : List ℕ) (frame : Frame) (objects : FinMap nat_cmp (List ℕ)) (place : RecordPlace) (pointer : Pointer) (b : List ℕ) → place.id.0 < object_count → place.strip < pointer_count → place.index < pointer_count
    → HoldsRecord image frame objects place pointer → finite.get objects place.id.0 ≡ Some b → IsRecord image frame (strip_number place.id.0 place.strip) place.index pointer b
record_is image frame objects place pointer b low strip_low inside h is =
    let m : ℕ = strip_number place.id.0 place.strip in
    subst (λ (p : Pointer). IsRecord image frame m place.index p b) h.is
    (subst (λ (o : Option (List ℕ)). IfSome o (λ b. IsRecord image frame m place.index (h.pointers (Data m place.index)) b)) (ap (λ (i : ℕ). finite.get objects i) (strip-object place.id.0 place.strip low) ∙ is)
    (h.tree.each (Data m place.index) (strip-low place.id.0 place.strip low strip_low, inside)))

-- where it begins in its object
pub start_is : (place : RecordPlace) → place.id.0 < object_count → record_start (strip_number place.id.0 place.strip) place.index ≡ record_size * number_of_record place
start_is place low = ap (λ (j : ℕ). record_size * record_of_strip j place.index) (strip-which place.id.0 place.strip low)

pub on_ok : {A : Type 0} {P Q : Type 0} (r : Result A PoolError) → (P → Q) → OnOk r P → OnOk r Q
on_ok (Ok a) f h = f h
on_ok (Err e) f h = tt

-- bytes that were read are those of the object below
pub read_is_below : (patches : Patches) (objects : FinMap nat_cmp (List ℕ)) (n r : ℕ) (b into : List ℕ) → finite.get objects n ≡ Some b → AreBytesFrom (4032 * r + 0) b into → AreBelow patches objects n r into
read_is_below patches objects n r b into is reads =
    inr (λ there. subst (λ (o : Option (List ℕ)). AreBytesFrom (4032 * r + 0) (unwrap_or o []) into) (sym is) reads)

-- the changes laid over them give the record after the group
pub laid_record : (patches : Patches) (below : FinMap nat_cmp (List ℕ)) (n r : ℕ) (old new : List ℕ) → length old ≡ 4032 → length new ≡ 4032 → LaysOnBelow patches n (4032 * r + 0) old new
    → AreBelow patches below n r old → IsObjectRecord (laid_over patches below) n r new
laid_record patches below n r old new long longer lays (inl hides) there =
    whole_record_read (object_bytes (laid_over patches below) n) new r longer (lays below there (inl (subst (λ (k : ℕ). HidesBelow (patches n) (4032 * r + 0) k) (sym long) hides)))
laid_record patches below n r old new long longer lays (inr reads) there =
    whole_record_read (object_bytes (laid_over patches below) n) new r longer (over_below patches n (4032 * r + 0) below old new lays there reads)

-- a record with zeros past the end of its object is that of the object
pub cut_record : (objects : FinMap nat_cmp (List ℕ)) (n r : ℕ) (old new : List ℕ) → IsClearedPast (object_bytes objects n) r new → KeepsFront (object_bytes objects n) r old new → IsObjectRecord objects n r old → new ≡ object_record objects n r
cut_record objects n r old new cut front exact =
    ext_get_or 0 new _ (cut.0 ∙ sym (length-record r (object_bytes objects n))) (λ k l.
    let inside : k < 4032 = rw cut.0 at l in by k inside (cases_lt (4032 * r + k) (length (object_bytes objects n))))
  where
    there : (o : Option (List ℕ)) (i : ℕ) → i < length (unwrap_or o []) → is_some o ≡ true
    there None i low = absurd (omega arith)
    there (Some b) i low = refl

    by : (k : ℕ) → k < 4032 → (4032 * r + k < length (object_bytes objects n)) ⊎ (length (object_bytes objects n) ≤ 4032 * r + k) → get_or new k 0 ≡ get_or (object_record objects n r) k 0
    by k inside (inl before) = front k inside before ∙ ap (λ (l : List ℕ). get_or l k 0) (exact (there (finite.get objects n) (4032 * r + k) before))
    by k inside (inr past) = cut.1 k inside past ∙ sym (get_or-record r (object_bytes objects n) k inside ∙ get_or_past (object_bytes objects n) (4032 * r + k) 0 past)

-- one record more that is that of its object
pub exact_more : (objects : FinMap nat_cmp (List ℕ)) (n r : ℕ) (put : List ℕ) (old new : ℕ → ℕ → Option (List ℕ)) → put ≡ object_record objects n r → PutsRecord n r put old new → AreExact old objects → AreExact new objects
exact_more objects n r put old new is puts exact m s payload at = elim (puts.others m s payload at) [
  | inl here ↦ here.2 ∙ is ∙ (λ k. object_record objects (sym here.0 k) (sym here.1 k))
  | inr before ↦ exact m s payload before
]

-- what is told of one image, of changes and a tree is told of the same ones
pub moved : (Q : List ℕ → Extents → Tree → Type 0) (i j : List ℕ) (x y : Extents) (a b : Tree) → i ≡ j → x ≡ y → a ≡ b → Q i x a → Q j y b
moved Q i j x y a b same_image same_changes same_tree told =
    subst (λ (i : List ℕ). Q i y b) same_image (subst (λ (x : Extents). Q i x b) same_changes (subst (λ (a : Tree). Q i x a) same_tree told))

-- one object more of which the records are at hand
pub ready_more : (has : ℕ → ℕ → Type 0) (done : List (ObjectId × ObjectChanges)) (e : ObjectId × ObjectChanges) → AreReady has done → (e.0.0 < object_count → IsReady (has e.0.0) e.1) → AreReady has (done ++ (e ∷ []))
ready_more has done e before here n changes low at = go (entry_pushed done e n changes at)
  where
    go : (entry_of done n ≡ Some changes) ⊎ ((n ≡ e.0.0) × (changes ≡ e.1)) → IsReady (has n) changes
    go (inl was) = before n changes low was
    go (inr both) = subst (λ (m : ℕ). IsReady (has m) changes) (sym both.0) (subst (λ (c : ObjectChanges). IsReady (has e.0.0) c) (sym both.1) (here (rw both.0 at low)))
