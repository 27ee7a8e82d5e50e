-- Parts of the walk, one after another.
use Rattle.std.proofs.Common.{◌≡◌, ◌≢◌, ℕ, zero, suc, ◌+◌, ◌*◌, ◌/◌, ◌%◌, ◌<◌, ◌≤◌, List, replicate, refl, ap, sym, subst, ◌∙◌, arith, inl}
use Rattle.base.specs.declared.error.PoolError.{PoolError}
use Rattle.base.specs.declared.error.PoolError.TheVariants.{Damaged}
use Rattle.base.specs.declared.pointer.Pointer.{Pointer}
use Rattle.base.specs.formats.Limits.{object_count, indirect_count, object_stride, pointer_count, entry_count}
use Rattle.base.specs.formats.Fields.{pointer_in, entry_in, entry_present, entry_length, entry_pointer, no_pointer}
use Rattle.base.specs.formats.Blocks.{Frame, payload_at}
use Rattle.base.specs.tree.Places.{walk_index_of_indirect, walk_index_of_object, pointer_of, pointer_below, number_below, directory_pointer, below_pointer, levels_in, top_pointer, strip_number, strip_of}
use Rattle.base.specs.tree.Places.Place.{Root, Directory, Top, Indirect, Data}
use Rattle.base.specs.tree.Tree.{OpensAt}
use Rattle.base.specs.tree.Damages.{IsSoundAt, IsFirstDamage}
use Rattle.base.proofs.tree.LevelPointers.{number_below-none, number_below-opens, top-one, top-two, indirect-two, indirect-first, indirect-later, zero_entry, zero_present}
use Rattle.base.proofs.tree.Strips.{first-object, first-which, first-low, strip-low, strip-object, strip-which}
use Rattle.tree_blocks.specs.declared.forms.Entry.{Entry}
use Rattle.tree_blocks.specs.Pointers.{pointer_of_list}
use Rattle.trees.specs.Walking.{AreSound, IsDamageFrom, TellsDamage, IsDataOf, AreDataOf, AreStripsOf, IsIndirectOf, IsObjectAt, IsTopOf, IsPayloadOf, AreDirectoriesOf, directory_index, objects_index}
use Rattle.trees.proofs.WalkOrder.{object-stride, index_within, index_of_strip, index-directory, index-objects, sound_none, sound_more, sound_one, damage_behind}
use Rattle.trees.proofs.WalkDamages.{below_block}

-- one part after another, by equal indexes
pub sound_then : (image : List ℕ) (frame : Frame) (root : Pointer) (start middle begin last end : ℕ) → middle ≡ begin → last ≡ end → AreSound image frame root start middle → AreSound image frame root begin last
    → AreSound image frame root start end
sound_then image frame root start middle begin last end here there first second =
    subst (λ (k : ℕ). AreSound image frame root start k) there (sound_more image frame root start begin last (subst (λ (k : ℕ). AreSound image frame root start k) here first) second)

-- a damage after a sound part is told
pub tells_behind : (image : List ℕ) (frame : Frame) (root : Pointer) (start middle begin : ℕ) (e : PoolError) → start ≤ middle → middle ≡ begin → AreSound image frame root start middle
    → TellsDamage image frame root begin e → TellsDamage image frame root start e
tells_behind image frame root start middle begin e low here sound tells = λ kind address d.
    damage_behind image frame root start middle kind address low sound (subst (λ (k : ℕ). IsDamageFrom image frame root k kind address) (sym here) (tells kind address d))

-- the pointer to a record, from the payload of its indirect block
pub data_in : (image : List ℕ) (root : Pointer) (m k size : ℕ) (payload : List ℕ) (pointer : Pointer) → k < pointer_count → AreDataOf image root m payload size → pointer ≡ pointer_in payload k
    → (pointer ≡ no_pointer → ⊥) → IsDataOf image root m k pointer size
data_in image root m k size payload pointer low all read there = record { at = all.at k low ∙ sym read; there = there; size_is = all.size_is }

-- the pointers to the records, from the indirect block
pub records_linked : (image : List ℕ) (frame : Frame) (root : Pointer) (m size : ℕ) (indirect : Pointer) (payload : List ℕ) → IsIndirectOf image root m indirect size
    → OpensAt image frame (Indirect m) indirect payload → AreDataOf image root m payload size
records_linked image frame root m size indirect payload i opens = record {
  at = λ k low. ap (λ (above : Pointer). pointer_below image above (λ (l : List ℕ). pointer_in l k)) i.at ∙ below_block image frame 4 m indirect payload (λ (l : List ℕ). pointer_in l k) opens;
  size_is = i.size_is;
}

more : (w k : ℕ) → w + 1 + suc k ≡ w + 1 + k + 1
more w k = omega arith

-- so many records of a strip with no indirect block
records_none : (image : List ℕ) (frame : Frame) (root : Pointer) (m : ℕ) → m < indirect_count → pointer_of image root (Indirect m) ≡ no_pointer → (count : ℕ) → count ≤ pointer_count
    → AreSound image frame root (walk_index_of_indirect m + 1) (walk_index_of_indirect m + 1 + count)
records_none image frame root m low none zero most = sound_none image frame root (walk_index_of_indirect m + 1) (walk_index_of_indirect m + 1 + 0) (omega arith)
records_none image frame root m low none (suc k) most =
    let w : ℕ = walk_index_of_indirect m in
    sound_more image frame root (w + 1) (w + 1 + k) (w + 1 + suc k) (records_none image frame root m low none k (omega (arith, most)))
    (sound_one image frame root (Data m k) (w + 1 + k) (w + 1 + suc k) (low, omega (arith, most)) refl (more w k)
    (inl (ap (λ (above : Pointer). pointer_below image above (λ (l : List ℕ). pointer_in l k)) none)))

-- a strip with no indirect block
pub strip_none : (image : List ℕ) (frame : Frame) (root : Pointer) (m : ℕ) → m < indirect_count → pointer_of image root (Indirect m) ≡ no_pointer
    → AreSound image frame root (walk_index_of_indirect m) (walk_index_of_indirect m + 85)
strip_none image frame root m low none = go (walk_index_of_indirect m) refl
  where
    end : (w : ℕ) → w + 1 + 84 ≡ w + 85
    end w = omega arith

    go : (w : ℕ) → walk_index_of_indirect m ≡ w → AreSound image frame root w (w + 85)
    go w is =
        sound_then image frame root w (w + 1) (w + 1) (w + 1 + 84) (w + 85) refl (end w) (sound_one image frame root (Indirect m) w (w + 1) low (sym is) refl (inl none))
        (subst (λ (v : ℕ). AreSound image frame root (v + 1) (v + 1 + 84)) is (records_none image frame root m low none 84 (omega arith)))

next_strip : (w j : ℕ) → w + 1 + 85 * (j + 1) ≡ w + 1 + 85 * j + 85
next_strip w j = omega arith

-- so many strips of an object from one on, none of which has an indirect block
pub strips_none : (image : List ℕ) (frame : Frame) (root : Pointer) (n first : ℕ) → n < object_count
    → ((j : ℕ) → first ≤ j → j < pointer_count → pointer_of image root (Indirect (strip_number n j)) ≡ no_pointer)
    → (count : ℕ) → first + count ≤ pointer_count → AreSound image frame root (walk_index_of_object n + 1 + 85 * first) (walk_index_of_object n + 1 + 85 * (first + count))
strips_none image frame root n first low none zero most =
    sound_none image frame root (walk_index_of_object n + 1 + 85 * first) (walk_index_of_object n + 1 + 85 * (first + 0)) (same (walk_index_of_object n) first)
  where
    same : (w i : ℕ) → w + 1 + 85 * (i + 0) ≤ w + 1 + 85 * i
    same w i = omega arith
strips_none image frame root n first low none (suc count) most =
    let w : ℕ = walk_index_of_object n in
    let j : ℕ = first + count in
    let within : first + count < 84 = omega (arith, most) in
    let last : first + count + 1 ≡ first + suc count = omega arith in
    let at = index_of_strip n j low in
    subst (λ (i : ℕ). AreSound image frame root (w + 1 + 85 * first) (w + 1 + 85 * i)) last
    (sound_then image frame root (w + 1 + 85 * first) (w + 1 + 85 * j) (walk_index_of_indirect (strip_number n j)) (walk_index_of_indirect (strip_number n j) + 85) (w + 1 + 85 * (j + 1)) (sym at)
    (ap (λ (v : ℕ). v + 85) at ∙ sym (next_strip w j)) (strips_none image frame root n first low none count (omega (arith, most)))
    (strip_none image frame root (strip_number n j) (strip-low n j low within) (none j (omega arith) within)))

whole_object : (w : ℕ) → w + 1 + 85 * 84 ≡ w + 7141
whole_object w = omega arith

-- all strips of an object
pub object_end : (image : List ℕ) (frame : Frame) (root : Pointer) (n : ℕ) → AreSound image frame root (walk_index_of_object n + 1) (walk_index_of_object n + 1 + 85 * 84)
    → AreSound image frame root (walk_index_of_object n + 1) (walk_index_of_object n + object_stride)
object_end image frame root n sound =
    subst (λ (i : ℕ). AreSound image frame root (walk_index_of_object n + 1) i) (whole_object (walk_index_of_object n) ∙ ap (λ (s : ℕ). walk_index_of_object n + s) (sym object-stride)) sound

no_strips_yet : (image : List ℕ) (frame : Frame) (root : Pointer) (w : ℕ) → AreSound image frame root (w + 1) (w + 1 + 85 * 0)
no_strips_yet image frame root w = sound_none image frame root (w + 1) (w + 1 + 85 * 0) (omega arith)

pub strips_begin : (image : List ℕ) (frame : Frame) (root : Pointer) (n : ℕ) → AreSound image frame root (walk_index_of_object n + 1) (walk_index_of_object n + 1 + 85 * 0)
strips_begin image frame root n = no_strips_yet image frame root (walk_index_of_object n)

-- the top of an object and its strips
pub object_sound : (image : List ℕ) (frame : Frame) (root : Pointer) (n : ℕ) → n < object_count → IsSoundAt image frame root (Top n)
    → AreSound image frame root (walk_index_of_object n + 1) (walk_index_of_object n + object_stride) → AreSound image frame root (walk_index_of_object n) (walk_index_of_object n + object_stride)
object_sound image frame root n low here below =
    sound_more image frame root (walk_index_of_object n) (walk_index_of_object n + 1) (walk_index_of_object n + object_stride)
    (sound_one image frame root (Top n) (walk_index_of_object n) (walk_index_of_object n + 1) low refl refl here) below

-- a damage among the strips of an object
pub object_tells : (image : List ℕ) (frame : Frame) (root : Pointer) (n : ℕ) (e : PoolError) → n < object_count → IsSoundAt image frame root (Top n)
    → TellsDamage image frame root (walk_index_of_object n + 1) e → TellsDamage image frame root (walk_index_of_object n) e
object_tells image frame root n e low here tells =
    tells_behind image frame root (walk_index_of_object n) (walk_index_of_object n + 1) (walk_index_of_object n + 1) e (le_next (walk_index_of_object n)) refl
    (sound_one image frame root (Top n) (walk_index_of_object n) (walk_index_of_object n + 1) low refl refl here) tells
  where
    le_next : (w : ℕ) → w ≤ w + 1
    le_next w = omega arith

-- an object of no level has no top, and its strips have no indirect blocks but what its entry names for the first one
pub no_top : (image : List ℕ) (frame : Frame) (root : Pointer) (n : ℕ) → levels_in image root n ≢ 2 → pointer_of image root (Top n) ≡ no_pointer
no_top image frame root n one = top-one image root n one

pub first_strip : (image : List ℕ) (root : Pointer) (n : ℕ) → n < object_count → levels_in image root n ≢ 2 → pointer_of image root (Indirect n) ≡ below_pointer image root n
first_strip image root n low one =
    indirect-first image root n (λ two. one (ap (λ (o : ℕ). levels_in image root o) (sym (first-object n low)) ∙ two)) (first-which n low)
    ∙ ap (λ (o : ℕ). below_pointer image root o) (first-object n low)

pub later_strips : (image : List ℕ) (root : Pointer) (n : ℕ) → n < object_count → levels_in image root n ≢ 2 → (j : ℕ) → 1 ≤ j → j < pointer_count
    → pointer_of image root (Indirect (strip_number n j)) ≡ no_pointer
later_strips image root n low one j first inside =
    indirect-later image root (strip_number n j) (λ two. one (ap (λ (o : ℕ). levels_in image root o) (sym (strip-object n j low)) ∙ two))
    (λ none. let which = strip-which n j low in let e : j ≡ 0 = sym which ∙ none in omega (arith, e, first))

-- the strips of an object of two levels are those that its top names
pub top_strips : (image : List ℕ) (frame : Frame) (root : Pointer) (n size : ℕ) (top : Pointer) (payload : List ℕ) → n < object_count → IsTopOf image root n top size → OpensAt image frame (Top n) top payload
    → AreStripsOf image root n payload size
top_strips image frame root n size top payload low t opens = record {
  at = λ j inside.
      indirect-two image root (strip_number n j) (ap (λ (o : ℕ). levels_in image root o) (strip-object n j low) ∙ t.levels)
      ∙ ap (λ (o : ℕ). pointer_below image (top_pointer image root o) (λ (l : List ℕ). pointer_in l (strip_of (strip_number n j)))) (strip-object n j low)
      ∙ ap (λ (i : ℕ). pointer_below image (top_pointer image root n) (λ (l : List ℕ). pointer_in l i)) (strip-which n j low)
      ∙ ap (λ (above : Pointer). pointer_below image above (λ (l : List ℕ). pointer_in l j)) (top-two image root n t.levels ∙ t.at)
      ∙ below_block image frame 7 n top payload (λ (l : List ℕ). pointer_in l j) opens;
  size_is = t.size_is;
}

pub top_at : (image : List ℕ) (root : Pointer) (n size : ℕ) (top : Pointer) → IsTopOf image root n top size → pointer_of image root (Top n) ≡ top
top_at image root n size top t = top-two image root n t.levels ∙ t.at

-- without a top they have no indirect blocks
pub top_none : (image : List ℕ) (root : Pointer) (n size : ℕ) (top : Pointer) → n < object_count → IsTopOf image root n top size → top ≡ no_pointer → (j : ℕ) → j < pointer_count
    → pointer_of image root (Indirect (strip_number n j)) ≡ no_pointer
top_none image root n size top low t none j inside =
    indirect-two image root (strip_number n j) (ap (λ (o : ℕ). levels_in image root o) (strip-object n j low) ∙ t.levels)
    ∙ ap (λ (o : ℕ). pointer_below image (top_pointer image root o) (λ (l : List ℕ). pointer_in l (strip_of (strip_number n j)))) (strip-object n j low)
    ∙ ap (λ (above : Pointer). pointer_below image above (λ (l : List ℕ). pointer_in l (strip_of (strip_number n j)))) (top-two image root n t.levels ∙ t.at ∙ none)

-- an object of two levels without a top
pub levels_none : (image : List ℕ) (frame : Frame) (root : Pointer) (n size : ℕ) (top : Pointer) → n < object_count → IsTopOf image root n top size → top ≡ no_pointer
    → AreSound image frame root (walk_index_of_object n) (walk_index_of_object n + object_stride)
levels_none image frame root n size top low t none =
    object_sound image frame root n low (inl (top_at image root n size top t ∙ none))
    (object_end image frame root n (sound_more image frame root (walk_index_of_object n + 1) (walk_index_of_object n + 1 + 85 * 0) (walk_index_of_object n + 1 + 85 * (0 + 84)) (strips_begin image frame root n)
    (strips_none image frame root n 0 low (λ j _ inside. top_none image root n size top low t none j inside) 84 (omega arith))))

-- a strip of an object of two levels, from its top
pub strip_linked : (image : List ℕ) (root : Pointer) (n j size : ℕ) (payload : List ℕ) (pointer : Pointer) → n < object_count → j < pointer_count → AreStripsOf image root n payload size
    → pointer ≡ pointer_in payload j → IsIndirectOf image root (strip_number n j) pointer size
strip_linked image root n j size payload pointer low inside all read = record {
  at = all.at j inside ∙ sym read;
  size_is = ap (λ (o : ℕ). length_of o) (strip-object n j low) ∙ all.size_is;
}
  where
    length_of : ℕ → ℕ
    length_of o = entry_length (entry_in (payload_at image (directory_pointer image root (o / entry_count)).address) (o % entry_count))

-- the first strip of an object of one level, from its entry
pub first_linked : (image : List ℕ) (root : Pointer) (n : ℕ) (entry : Entry) → n < object_count → entry.present ≢ 2 → IsObjectAt image root n entry → IsIndirectOf image root n entry.pointer entry.length
first_linked image root n entry low one o = record {
  at = first_strip image root n low (λ two. one (sym o.levels ∙ two)) ∙ o.at;
  size_is = ap (λ (i : ℕ). length_of i) (first-object n low) ∙ o.size_is;
}
  where
    length_of : ℕ → ℕ
    length_of i = entry_length (entry_in (payload_at image (directory_pointer image root (i / entry_count)).address) (i % entry_count))

pub first_index : (image : List ℕ) (root : Pointer) (n : ℕ) → n < object_count → walk_index_of_indirect n ≡ walk_index_of_object n + 1
first_index image root n low = index_of_strip_0 n low
  where
    one_less : (w : ℕ) → w + 1 + 85 * 0 ≡ w + 1
    one_less w = omega arith

    zeroth : (n : ℕ) → n + 5292 * 0 ≡ n
    zeroth n = omega arith

    index_of_strip_0 : (n : ℕ) → n < object_count → walk_index_of_indirect n ≡ walk_index_of_object n + 1
    index_of_strip_0 n low = ap (λ (m : ℕ). walk_index_of_indirect m) (sym (zeroth n)) ∙ index_of_strip n 0 low ∙ one_less (walk_index_of_object n)

first_end : (w : ℕ) → w + 1 + 85 ≡ w + 1 + 85 * 1
first_end w = omega arith

-- an object of one level, from its first strip: the later ones are sound
pub short_rest : (image : List ℕ) (frame : Frame) (root : Pointer) (n : ℕ) → n < object_count → levels_in image root n ≢ 2
    → AreSound image frame root (walk_index_of_object n + 1 + 85) (walk_index_of_object n + object_stride)
short_rest image frame root n low one =
    subst (λ (e : ℕ). AreSound image frame root (walk_index_of_object n + 1 + 85) e) (whole_object (walk_index_of_object n) ∙ ap (λ (s : ℕ). walk_index_of_object n + s) (sym object-stride))
    (subst (λ (b : ℕ). AreSound image frame root b (walk_index_of_object n + 1 + 85 * 84)) (sym (first_end (walk_index_of_object n)))
    (strips_none image frame root n 1 low (later_strips image root n low one) 83 (omega arith)))

pub short_sound : (image : List ℕ) (frame : Frame) (root : Pointer) (n : ℕ) → n < object_count → levels_in image root n ≢ 2
    → AreSound image frame root (walk_index_of_indirect n) (walk_index_of_indirect n + 85) → AreSound image frame root (walk_index_of_object n) (walk_index_of_object n + object_stride)
short_sound image frame root n low one strip =
    let at = first_index image root n low in
    object_sound image frame root n low (inl (no_top image frame root n one))
    (sound_more image frame root (walk_index_of_object n + 1) (walk_index_of_object n + 1 + 85) (walk_index_of_object n + object_stride)
    (subst (λ (v : ℕ). AreSound image frame root v (v + 85)) at strip) (short_rest image frame root n low one))

pub short_tells : (image : List ℕ) (frame : Frame) (root : Pointer) (n : ℕ) (e : PoolError) → n < object_count → levels_in image root n ≢ 2 → TellsDamage image frame root (walk_index_of_indirect n) e
    → TellsDamage image frame root (walk_index_of_object n) e
short_tells image frame root n e low one tells =
    object_tells image frame root n e low (inl (no_top image frame root n one)) (subst (λ (v : ℕ). TellsDamage image frame root v e) (first_index image root n low) tells)

-- the levels, the pointer and the length of an object are those that the directory's entry has
pub entry_linked : (image : List ℕ) (frame : Frame) (root : Pointer) (d k : ℕ) (payload : List ℕ) (entry : Entry) → k < entry_count → IsPayloadOf image frame root d payload
    → entry.present ≡ entry_present (entry_in payload k) → entry.pointer ≡ entry_pointer (entry_in payload k) → entry.length ≡ entry_length (entry_in payload k)
    → IsObjectAt image root (entry_count * d + k) entry
entry_linked image frame root d k payload entry low p is_present is_pointer is_length =
    let q : (63 * d + k) / 63 ≡ d = omega (arith, low) in
    let m : (63 * d + k) % 63 ≡ k = omega (arith, low) in
    let above : directory_pointer image root ((63 * d + k) / 63) ≡ p.pointer = ap (λ (i : ℕ). directory_pointer image root i) q ∙ p.at in
    record {
      levels = ap (λ (a : Pointer). number_below image a (λ (l : List ℕ). entry_present (entry_in l ((63 * d + k) % 63)))) above
          ∙ number_below-opens image frame 3 d p.pointer payload (λ (l : List ℕ). entry_present (entry_in l ((63 * d + k) % 63))) p.opens
          ∙ ap (λ (i : ℕ). entry_present (entry_in payload i)) m ∙ sym is_present;
      at = ap (λ (a : Pointer). pointer_below image a (λ (l : List ℕ). entry_pointer (entry_in l ((63 * d + k) % 63)))) above
          ∙ below_block image frame 3 d p.pointer payload (λ (l : List ℕ). entry_pointer (entry_in l ((63 * d + k) % 63))) p.opens
          ∙ ap (λ (i : ℕ). entry_pointer (entry_in payload i)) m ∙ sym is_pointer;
      size_is = ap (λ (a : Pointer). entry_length (entry_in (payload_at image a.address) ((63 * d + k) % 63))) above
          ∙ ap (λ (l : List ℕ). entry_length (entry_in l ((63 * d + k) % 63))) p.opens.block.payload_is
          ∙ ap (λ (i : ℕ). entry_length (entry_in payload i)) m ∙ sym is_length;
    }

-- an object that is not there
pub object_none : (image : List ℕ) (frame : Frame) (root : Pointer) (n : ℕ) → n < object_count → levels_in image root n ≢ 2 → below_pointer image root n ≡ no_pointer
    → AreSound image frame root (walk_index_of_object n) (walk_index_of_object n + object_stride)
object_none image frame root n low one none =
    short_sound image frame root n low one (strip_none image frame root n (first-low n low) (first_strip image root n low one ∙ none))

-- one object more, by its index in the walk
next_object : (s k : ℕ) → s + 7141 * k + 7141 ≡ s + 7141 * (k + 1)
next_object s k = omega arith

pub object_more : (image : List ℕ) (frame : Frame) (root : Pointer) (d k : ℕ) → k < entry_count → AreSound image frame root (objects_index d) (objects_index d + 7141 * k)
    → AreSound image frame root (walk_index_of_object (entry_count * d + k)) (walk_index_of_object (entry_count * d + k) + object_stride)
    → AreSound image frame root (objects_index d) (objects_index d + 7141 * (k + 1))
object_more image frame root d k low first second =
    let here = index_within d k low in
    sound_then image frame root (objects_index d) (objects_index d + 7141 * k) (walk_index_of_object (entry_count * d + k)) (walk_index_of_object (entry_count * d + k) + object_stride)
    (objects_index d + 7141 * (k + 1)) (sym here)
    (ap (λ (s : ℕ). walk_index_of_object (entry_count * d + k) + s) object-stride ∙ ap (λ (v : ℕ). v + 7141) here ∙ next_object (objects_index d) k) first second

-- one object more, which is not there
no_levels : (levels : ℕ) → levels ≡ 0 → levels ≡ 2 → ⊥
no_levels levels none two = omega (arith, none, two)

pub entry_none : (image : List ℕ) (frame : Frame) (root : Pointer) (d k : ℕ) (payload : List ℕ) → d < pointer_count → k < entry_count → IsPayloadOf image frame root d payload
    → entry_in payload k ≡ replicate 64 0 → AreSound image frame root (objects_index d + 7141 * k) (objects_index d + 7141 * (k + 1))
entry_none image frame root d k payload hd hk p absent =
    let entry : Entry = record { present = entry_present (entry_in payload k); length = entry_length (entry_in payload k); pointer = entry_pointer (entry_in payload k) } in
    let o = entry_linked image frame root d k payload entry hk p refl refl refl in
    let here = index_within d k hk in
    let none = object_none image frame root (entry_count * d + k) (omega (arith, hd, hk))
    (no_levels (levels_in image root (entry_count * d + k)) (o.levels ∙ ap entry_present absent ∙ zero_present)) (o.at ∙ ap entry_pointer absent ∙ zero_entry) in
    subst (λ (e : ℕ). AreSound image frame root (objects_index d + 7141 * k) e)
    (ap (λ (s : ℕ). walk_index_of_object (entry_count * d + k) + s) object-stride ∙ ap (λ (v : ℕ). v + 7141) here ∙ next_object (objects_index d) k)
    (subst (λ (v : ℕ). AreSound image frame root v (walk_index_of_object (entry_count * d + k) + object_stride)) here none)

-- a damage of the object that comes next is told from the directory's objects on
behind : (s k : ℕ) → s ≤ s + 7141 * k
behind s k = omega arith

-- so many objects of a directory that is not there
pub objects_none : (image : List ℕ) (frame : Frame) (root : Pointer) (d : ℕ) → d < pointer_count → pointer_of image root (Directory d) ≡ no_pointer → (count : ℕ) → count ≤ entry_count
    → AreSound image frame root (objects_index d) (objects_index d + 7141 * count)
objects_none image frame root d low none zero most = sound_none image frame root (objects_index d) (objects_index d + 7141 * 0) (empty (objects_index d))
  where
    empty : (s : ℕ) → s + 7141 * 0 ≤ s
    empty s = omega arith
objects_none image frame root d low none (suc k) most =
    let hk : k < entry_count = omega (arith, most) in
    let q : (63 * d + k) / 63 ≡ d = omega (arith, hk) in
    let above : directory_pointer image root ((63 * d + k) / 63) ≡ no_pointer = ap (λ (i : ℕ). directory_pointer image root i) q ∙ none in
    let last : k + 1 ≡ suc k = omega arith in
    subst (λ (i : ℕ). AreSound image frame root (objects_index d) (objects_index d + 7141 * i)) last
    (object_more image frame root d k hk (objects_none image frame root d low none k (omega (arith, most)))
    (object_none image frame root (63 * d + k) (omega (arith, low, hk))
    (no_levels (levels_in image root (63 * d + k)) (number_below-none image (directory_pointer image root ((63 * d + k) / 63)) (λ (l : List ℕ). entry_present (entry_in l ((63 * d + k) % 63))) above))
    (ap (λ (a : Pointer). pointer_below image a (λ (l : List ℕ). entry_pointer (entry_in l ((63 * d + k) % 63)))) above)))

next_directory : (d : ℕ) → 2 + 449884 * d + 7141 * 63 ≡ 1 + 449884 * (d + 1)
next_directory d = omega arith

-- the end of a directory's objects
pub directory_end : (d : ℕ) → objects_index d + 7141 * 63 ≡ directory_index (d + 1)
directory_end d = ap (λ (s : ℕ). s + 7141 * 63) (index-objects d) ∙ next_directory d ∙ sym (index-directory (d + 1))

pub objects_begin : (d : ℕ) → objects_index d ≡ directory_index d + 1
objects_begin d = index-objects d ∙ next d ∙ ap (λ (s : ℕ). s + 1) (sym (index-directory d))
  where
    next : (d : ℕ) → 2 + 449884 * d ≡ 1 + 449884 * d + 1
    next d = omega arith

-- a directory that is sound and its objects
pub directory_sound : (image : List ℕ) (frame : Frame) (root : Pointer) (d : ℕ) → d < pointer_count → IsSoundAt image frame root (Directory d)
    → AreSound image frame root (objects_index d) (directory_index (d + 1)) → AreSound image frame root (directory_index d) (directory_index (d + 1))
directory_sound image frame root d low here below =
    sound_more image frame root (directory_index d) (objects_index d) (directory_index (d + 1)) (sound_one image frame root (Directory d) (directory_index d) (objects_index d) low refl (objects_begin d) here) below

-- one directory more, which is not there
pub directory_absent : (image : List ℕ) (frame : Frame) (root : Pointer) (d : ℕ) → d < pointer_count → pointer_of image root (Directory d) ≡ no_pointer
    → AreSound image frame root (directory_index d) (directory_index (d + 1))
directory_absent image frame root d low none =
    directory_sound image frame root d low (inl none) (subst (λ (i : ℕ). AreSound image frame root (objects_index d) i) (directory_end d) (objects_none image frame root d low none 63 (omega arith)))

pub directories_linked : (image : List ℕ) (frame : Frame) (root : Pointer) (payload : List ℕ) (directories : List Pointer) → OpensAt image frame Root root payload
    → ((d : ℕ) → d < pointer_count → pointer_of_list directories d ≡ pointer_in payload d) → AreDirectoriesOf image root directories
directories_linked image frame root payload directories opens read = record {
  at = λ d low. below_block image frame 2 0 root payload (λ (l : List ℕ). pointer_in l d) opens ∙ sym (read d low);
}

-- a damage of the whole walk is the first one
pub first_damage : (image : List ℕ) (frame : Frame) (root : Pointer) (e : PoolError) → TellsDamage image frame root 0 e → (kind address : ℕ) → e ≡ Damaged kind address
    → IsFirstDamage image frame root kind address
first_damage image frame root e tells kind address d =
    let f = tells kind address d in
    record {
      place = f.place;
      in_range = f.in_range;
      kind_is = f.kind_is;
      address_is = f.address_is;
      damaged = f.damaged;
      sound_before = λ other in_range low. f.before.each other in_range (omega arith) low;
    }

-- no objects of a directory yet
pub objects_begun : (image : List ℕ) (frame : Frame) (root : Pointer) (d : ℕ) → AreSound image frame root (objects_index d) (objects_index d + 7141 * 0)
objects_begun image frame root d = sound_none image frame root (objects_index d) (objects_index d + 7141 * 0) (empty (objects_index d))
  where
    empty : (s : ℕ) → s + 7141 * 0 ≤ s
    empty s = omega arith

-- no directories yet
pub directories_begun : (image : List ℕ) (frame : Frame) (root : Pointer) → AreSound image frame root 1 (directory_index 0)
directories_begun image frame root = sound_none image frame root 1 (directory_index 0) (let first = index-directory 0 in omega (arith, first))

-- and where the walk comes to them
pub directory_behind : (d : ℕ) → 1 ≤ directory_index d
directory_behind d = omega arith
