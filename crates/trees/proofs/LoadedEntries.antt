-- Objects of directories as they are loaded, one after another.
use Rattle.std.proofs.Common.{◌≡◌, ℕ, ◌+◌, ◌*◌, ◌<◌, ◌≤◌, ◌≢◌, Bool, List, length, replicate, get_or, refl, ap, sym, subst, ◌∙◌, arith, ◌⊎◌, inl, inr, Some, None}
use Rattle.std.specs.Prelude.{IsTrue, Option, slice_get}
use Rattle.std.specs.Option.{option_map_or}
use Rattle.std.specs.Ordering.{nat_cmp}
use Rattle.std.specs.FinMap as finite
use Rattle.std.specs.FinMap.{FinMap}
use Rattle.std.proofs.Math.ListN.{set}
use Rattle.std.proofs.lemmas.List.{get_or_default}
use Rattle.std.proofs.lemmas.Bool.{cases_eq}
use Rattle.base.specs.declared.pointer.Pointer.{Pointer}
use Rattle.base.specs.formats.Limits.{entry_count, max_length, one_level_length}
use Rattle.base.specs.formats.Fields.{entry_in, entry_present, entry_length, entry_pointer, no_pointer}
use Rattle.base.specs.formats.Geometry.{IsBlockAddress}
use Rattle.base.specs.formats.Blocks.{Frame}
use Rattle.base.specs.tree.Places.Place.{Directory}
use Rattle.base.specs.tree.Tree.{OpensAt}
use Rattle.base.specs.kept.PlacedTrees.{IsEntryFor}
use Rattle.tree_blocks.specs.declared.forms.Entry.{Entry}
use Rattle.tree_blocks.specs.declared.tree.ObjectEntry.{ObjectEntry}
use Rattle.trees.specs.Loaders.{IsObjectOf}
use Rattle.tree_blocks.specs.Forms.{IsEntryOf}
use Rattle.tree_blocks.specs.Pointers.{ObjectPointers, no_pointers, object_pointers, pointer_of_list, pointers_of_entry}
use Rattle.trees.specs.Loading.{IsLoadedObject, IsLoadedAt, IsEntryAt, IsEmptyAt, AreEmptyFrom, DirectoryStands, SameBut, AreLoadedEntries, IsLoadedDirectory, LoadsDirectory, AreLoadedDirectories}
use Rattle.base.proofs.history.Objects.{get-stored_same, get-stored_other}
use Rattle.trees.proofs.LoadedObjects.{none_loaded}
use Rattle.tree_blocks.proofs.SetEntries.{entry-set_same, entry-set_other}
use Rattle.tree_blocks.proofs.ToldStrips.{entry-long, entry-short, long-by_length, short-by_length}

-- the entry of an object that is kept is what its directory has of it
pub entry_for : (frame : Frame) (entry : List ℕ) (e : Entry) (bytes : List ℕ) (m : ObjectEntry) → e.present ≡ entry_present entry → e.length ≡ entry_length entry → e.pointer ≡ entry_pointer entry
    → IsEntryOf frame e → IsObjectOf e bytes m → IsEntryFor frame entry (pointers_of_entry m).top ((pointers_of_entry m).strip 0) (Some bytes)
entry_for frame entry e bytes m present size pointer (inl (one, short)) o =
    subst (λ (p : ObjectPointers). IsEntryFor frame entry p.top (p.strip 0) (Some bytes)) (sym (entry-short m (short-by_length m e.length o.length short)))
    (inl (sym present ∙ one, sym size ∙ sym o.size, subst (λ (s : ℕ). s ≤ one_level_length) (sym o.size) short, sym pointer ∙ sym o.pointer))
entry_for frame entry e bytes m present size pointer (inr (later, two, long, most)) o =
    subst (λ (p : ObjectPointers). IsEntryFor frame entry p.top (p.strip 0) (Some bytes)) (sym (entry-long m (long-by_length m e.length o.length long)))
    (inr (
      later,
      (sym present ∙ two, sym size ∙ sym o.size, subst (λ (s : ℕ). one_level_length < s) (sym o.size) long, subst (λ (s : ℕ). s ≤ max_length) (sym o.size) most, sym pointer ∙ sym o.pointer),
    ))

-- the pointers of an object, if its entry is the same
same_pointers : (n : ℕ) (old_entries entries : List ObjectEntry) → slice_get entries n ≡ slice_get old_entries n → object_pointers entries n ≡ object_pointers old_entries n
same_pointers n old_entries entries em = ap (λ (m : Option ObjectEntry). option_map_or pointers_of_entry m no_pointers) em

-- an object, if the objects and the entries have the same of it
same_loaded : (keeps : Bool) (image : List ℕ) (frame : Frame) (n : ℕ) (old_objects objects : FinMap nat_cmp (List ℕ)) (old_entries entries : List ObjectEntry)
    → finite.get objects n ≡ finite.get old_objects n → slice_get entries n ≡ slice_get old_entries n
    → IsLoadedAt keeps image frame old_objects old_entries n → IsLoadedAt keeps image frame objects entries n
same_loaded keeps image frame n old_objects objects old_entries entries eo em h =
    subst (λ (o : Option (List ℕ)). IsLoadedObject keeps image frame n o (object_pointers entries n)) (sym eo)
    (subst (λ (p : ObjectPointers). IsLoadedObject keeps image frame n (finite.get old_objects n) p) (sym (same_pointers n old_entries entries em)) h)

same_entry : (frame : Frame) (n : ℕ) (entry : List ℕ) (old_objects objects : FinMap nat_cmp (List ℕ)) (old_entries entries : List ObjectEntry)
    → finite.get objects n ≡ finite.get old_objects n → slice_get entries n ≡ slice_get old_entries n
    → IsEntryAt frame old_objects old_entries n entry → IsEntryAt frame objects entries n entry
same_entry frame n entry old_objects objects old_entries entries eo em h =
    subst (λ (o : Option (List ℕ)). IsEntryFor frame entry (object_pointers entries n).top ((object_pointers entries n).strip 0) o) (sym eo)
    (subst (λ (p : ObjectPointers). IsEntryFor frame entry p.top (p.strip 0) (finite.get old_objects n)) (sym (same_pointers n old_entries entries em)) h)

same_empty : (n : ℕ) (old_objects objects : FinMap nat_cmp (List ℕ)) (old_entries entries : List ObjectEntry) → finite.get objects n ≡ finite.get old_objects n
    → slice_get entries n ≡ slice_get old_entries n → IsEmptyAt old_objects old_entries n → IsEmptyAt objects entries n
same_empty n old_objects objects old_entries entries eo em h = record { object = eo ∙ h.object; pointers = same_pointers n old_entries entries em ∙ h.pointers }

empty_loaded : (keeps : Bool) (image : List ℕ) (frame : Frame) (n : ℕ) (objects : FinMap nat_cmp (List ℕ)) (entries : List ObjectEntry) → IsEmptyAt objects entries n → IsLoadedAt keeps image frame objects entries n
empty_loaded keeps image frame n objects entries h =
    subst (λ (o : Option (List ℕ)). IsLoadedObject keeps image frame n o (object_pointers entries n)) (sym h.object)
    (subst (λ (p : ObjectPointers). IsLoadedObject keeps image frame n None p) (sym h.pointers) (none_loaded keeps image frame n))

empty_entry : (frame : Frame) (n : ℕ) (entry : List ℕ) (objects : FinMap nat_cmp (List ℕ)) (entries : List ObjectEntry) → IsEmptyAt objects entries n → entry ≡ replicate 64 0 → IsEntryAt frame objects entries n entry
empty_entry frame n entry objects entries h absent =
    subst (λ (o : Option (List ℕ)). IsEntryFor frame entry (object_pointers entries n).top ((object_pointers entries n).strip 0) o) (sym h.object)
    (inl (absent, ap (λ (p : ObjectPointers). p.strip 0) h.pointers))

-- the object of the entry that comes next is not there yet
pub next_empty : (keeps : Bool) (image : List ℕ) (frame : Frame) (d : ℕ) (payload : List ℕ) (count : ℕ) (old_objects objects : FinMap nat_cmp (List ℕ)) (old_entries entries : List ObjectEntry)
    → AreLoadedEntries keeps image frame d payload count old_objects objects old_entries entries → IsEmptyAt old_objects old_entries (entry_count * d + count)
    → IsEmptyAt objects entries (entry_count * d + count)
next_empty keeps image frame d payload count old_objects objects old_entries entries so_far h =
    let n : ℕ = entry_count * d + count in
    same_empty n old_objects objects old_entries entries (so_far.others.same_objects n (inr (omega arith))) (so_far.others.same_entries n (inr (omega arith))) h

-- no entries yet
pub no_entries : (keeps : Bool) (image : List ℕ) (frame : Frame) (d : ℕ) (payload : List ℕ) (objects : FinMap nat_cmp (List ℕ)) (entries : List ObjectEntry)
    → AreLoadedEntries keeps image frame d payload 0 objects objects entries entries
no_entries keeps image frame d payload objects entries = record {
  each = λ k low. absurd (omega (arith, low));
  named = λ k low. absurd (omega (arith, low));
  others = record { same_objects = λ _ _. refl; same_entries = λ _ _. refl };
}

-- one entry more, with no object
pub entries_skip : (keeps : Bool) (image : List ℕ) (frame : Frame) (d : ℕ) (payload : List ℕ) (count : ℕ) (old_objects objects : FinMap nat_cmp (List ℕ)) (old_entries entries : List ObjectEntry)
    → AreLoadedEntries keeps image frame d payload count old_objects objects old_entries entries → AreEmptyFrom (entry_count * d) old_objects old_entries
    → entry_in payload count ≡ replicate 64 0 → AreLoadedEntries keeps image frame d payload (count + 1) old_objects objects old_entries entries
entries_skip keeps image frame d payload count old_objects objects old_entries entries so_far h absent = record {
  each = λ k low. object k low (cases_eq k count);
  named = λ k low. entry k low (cases_eq k count);
  others = record { same_objects = λ n out. so_far.others.same_objects n (wider n out); same_entries = λ n out. so_far.others.same_entries n (wider n out) };
}
  where
    empty : IsEmptyAt objects entries (entry_count * d + count)
    empty = next_empty keeps image frame d payload count old_objects objects old_entries entries so_far (h.each (entry_count * d + count) (omega arith))

    wider : (n : ℕ) → (n < entry_count * d) ⊎ (entry_count * d + (count + 1) ≤ n) → (n < entry_count * d) ⊎ (entry_count * d + count ≤ n)
    wider n (inl low) = inl low
    wider n (inr high) = inr (omega (arith, high))

    object : (k : ℕ) → k < count + 1 → (k ≡ count) ⊎ (k ≢ count) → IsLoadedAt keeps image frame objects entries (entry_count * d + k)
    object k low (inl e) = rw e (empty_loaded keeps image frame (entry_count * d + count) objects entries empty)
    object k low (inr ne) = so_far.each k (omega (arith, low))

    entry : (k : ℕ) → k < count + 1 → (k ≡ count) ⊎ (k ≢ count) → IsEntryAt frame objects entries (entry_count * d + k) (entry_in payload k)
    entry k low (inl e) = rw e (empty_entry frame (entry_count * d + count) (entry_in payload count) objects entries empty absent)
    entry k low (inr ne) = so_far.named k (omega (arith, low))

-- an object that is put into its place, with its entry
put_loaded : (keeps : Bool) (image : List ℕ) (frame : Frame) (n : ℕ) (objects : FinMap nat_cmp (List ℕ)) (entries : List ObjectEntry) (bytes : List ℕ) (m : ObjectEntry)
    → finite.get objects n ≡ Some bytes → slice_get entries n ≡ Some m
    → IsLoadedObject keeps image frame n (Some bytes) (pointers_of_entry m) → IsLoadedAt keeps image frame objects entries n
put_loaded keeps image frame n objects entries bytes m eo em h =
    subst (λ (o : Option (List ℕ)). IsLoadedObject keeps image frame n o (object_pointers entries n)) (sym eo)
    (subst (λ (o : Option ObjectEntry). IsLoadedObject keeps image frame n (Some bytes) (option_map_or pointers_of_entry o no_pointers)) (sym em) h)

put_entry : (frame : Frame) (n : ℕ) (entry : List ℕ) (objects : FinMap nat_cmp (List ℕ)) (entries : List ObjectEntry) (bytes : List ℕ) (m : ObjectEntry)
    → finite.get objects n ≡ Some bytes → slice_get entries n ≡ Some m
    → IsEntryFor frame entry (pointers_of_entry m).top ((pointers_of_entry m).strip 0) (Some bytes) → IsEntryAt frame objects entries n entry
put_entry frame n entry objects entries bytes m eo em h =
    subst (λ (o : Option (List ℕ)). IsEntryFor frame entry (object_pointers entries n).top ((object_pointers entries n).strip 0) o) (sym eo)
    (subst (λ (o : Option ObjectEntry). IsEntryFor frame entry (option_map_or pointers_of_entry o no_pointers).top ((option_map_or pointers_of_entry o no_pointers).strip 0) (Some bytes)) (sym em) h)

-- one entry more, with its object
pub entries_put : (keeps : Bool) (image : List ℕ) (frame : Frame) (d : ℕ) (payload : List ℕ) (count : ℕ) (old_objects objects : FinMap nat_cmp (List ℕ)) (old_entries entries : List ObjectEntry) (bytes : List ℕ) (m : ObjectEntry)
    → AreLoadedEntries keeps image frame d payload count old_objects objects old_entries entries → entry_count * d + count < length entries
    → IsLoadedObject keeps image frame (entry_count * d + count) (Some bytes) (pointers_of_entry m)
    → IsEntryFor frame (entry_in payload count) (pointers_of_entry m).top ((pointers_of_entry m).strip 0) (Some bytes)
    → AreLoadedEntries keeps image frame d payload (count + 1) old_objects (finite.insert objects (entry_count * d + count) bytes) old_entries (set entries (entry_count * d + count) m)
entries_put keeps image frame d payload count old_objects objects old_entries entries bytes m so_far entry_in_place here entry_is = record {
  each = λ k low. object k low (cases_eq k count);
  named = λ k low. entry k low (cases_eq k count);
  others = record {
    same_objects = λ q out. get-stored_other objects n (Some bytes) q (apart q out) ∙ so_far.others.same_objects q (wider q out);
    same_entries = λ q out. entry-set_other entries n m q (apart q out) ∙ so_far.others.same_entries q (wider q out);
  };
}
  where
    n : ℕ
    n = entry_count * d + count

    new : FinMap nat_cmp (List ℕ)
    new = finite.insert objects n bytes

    wider : (q : ℕ) → (q < entry_count * d) ⊎ (entry_count * d + (count + 1) ≤ q) → (q < entry_count * d) ⊎ (entry_count * d + count ≤ q)
    wider q (inl low) = inl low
    wider q (inr high) = inr (omega (arith, high))

    apart : (q : ℕ) → (q < entry_count * d) ⊎ (entry_count * d + (count + 1) ≤ q) → q ≢ n
    apart q (inl low) = λ e. omega (arith, low, e)
    apart q (inr high) = λ e. omega (arith, high, e)

    eo : finite.get new n ≡ Some bytes
    eo = get-stored_same objects n (Some bytes)

    em : slice_get (set entries n m) n ≡ Some m
    em = entry-set_same entries n m entry_in_place

    object : (k : ℕ) → k < count + 1 → (k ≡ count) ⊎ (k ≢ count) → IsLoadedAt keeps image frame new (set entries n m) (entry_count * d + k)
    object k low (inl e) = rw e (put_loaded keeps image frame n new (set entries n m) bytes m eo em here)
    object k low (inr ne) =
        let other : entry_count * d + k ≢ n = λ e. ne (omega (arith, e)) in
        same_loaded keeps image frame (entry_count * d + k) objects new entries (set entries n m)
        (get-stored_other objects n (Some bytes) (entry_count * d + k) other) (entry-set_other entries n m (entry_count * d + k) other) (so_far.each k (omega (arith, low)))

    entry : (k : ℕ) → k < count + 1 → (k ≡ count) ⊎ (k ≢ count) → IsEntryAt frame new (set entries n m) (entry_count * d + k) (entry_in payload k)
    entry k low (inl e) = rw e (put_entry frame n (entry_in payload count) new (set entries n m) bytes m eo em entry_is)
    entry k low (inr ne) =
        let other : entry_count * d + k ≢ n = λ e. ne (omega (arith, e)) in
        same_entry frame (entry_count * d + k) (entry_in payload k) objects new entries (set entries n m)
        (get-stored_other objects n (Some bytes) (entry_count * d + k) other) (entry-set_other entries n m (entry_count * d + k) other) (so_far.named k (omega (arith, low)))

-- a directory with all its entries
pub directory_loaded : (keeps : Bool) (image : List ℕ) (frame : Frame) (d : ℕ) (pointer : Pointer) (payload : List ℕ) (old_objects objects : FinMap nat_cmp (List ℕ)) (old_entries entries : List ObjectEntry)
    → IsBlockAddress frame.blocks pointer.address → (IsTrue keeps → OpensAt image frame (Directory d) pointer payload)
    → AreLoadedEntries keeps image frame d payload entry_count old_objects objects old_entries entries → LoadsDirectory keeps image frame d pointer old_objects objects old_entries entries
directory_loaded keeps image frame d pointer payload old_objects objects old_entries entries placed opens all = record {
  loaded = record { placed = inr placed; each = all.each; stands = λ k. inr (payload, opens k, all.named) };
  others = all.others;
}

-- a directory that is not there
pub no_directory : (keeps : Bool) (image : List ℕ) (frame : Frame) (d : ℕ) (pointer : Pointer) (objects : FinMap nat_cmp (List ℕ)) (entries : List ObjectEntry) → pointer ≡ no_pointer
    → ((k : ℕ) → k < entry_count → IsEmptyAt objects entries (entry_count * d + k)) → IsLoadedDirectory keeps image frame d pointer objects entries
no_directory keeps image frame d pointer objects entries none empty = record {
  placed = inl none;
  each = λ k low. empty_loaded keeps image frame (entry_count * d + k) objects entries (empty k low);
  stands = λ _. inl (none, empty);
}

-- no directories yet
pub no_directories : (keeps : Bool) (image : List ℕ) (frame : Frame) (directories : List Pointer) (objects : FinMap nat_cmp (List ℕ)) (entries : List ObjectEntry) → AreEmptyFrom 0 objects entries
    → AreLoadedDirectories keeps image frame directories 0 objects entries
no_directories keeps image frame directories objects entries empty = record { loaded = λ d low. absurd (omega (arith, low)); rest = empty }

-- one directory more, none
pub directories_skip : (keeps : Bool) (image : List ℕ) (frame : Frame) (directories : List Pointer) (count : ℕ) (objects : FinMap nat_cmp (List ℕ)) (entries : List ObjectEntry)
    → AreLoadedDirectories keeps image frame directories count objects entries → (p : Pointer) → count < length directories → get_or directories count p ≡ no_pointer
    → AreLoadedDirectories keeps image frame directories (count + 1) objects entries
directories_skip keeps image frame directories count objects entries so_far p within is_none = record {
  loaded = λ d low. go d low (cases_eq d count);
  rest = record { each = λ n high. so_far.rest.each n (omega (arith, high)) };
}
  where
    none : pointer_of_list directories count ≡ no_pointer
    none = get_or_default directories count no_pointer p within ∙ is_none

    go : (d : ℕ) → d < count + 1 → (d ≡ count) ⊎ (d ≢ count) → IsLoadedDirectory keeps image frame d (pointer_of_list directories d) objects entries
    go d low (inl e) = rw e (no_directory keeps image frame count (pointer_of_list directories count) objects entries none (λ k _. so_far.rest.each (entry_count * count + k) (omega arith)))
    go d low (inr ne) = so_far.loaded d (omega (arith, low))

-- a directory stays if its objects stay
same_directory : (keeps : Bool) (image : List ℕ) (frame : Frame) (d : ℕ) (pointer : Pointer) (old_objects objects : FinMap nat_cmp (List ℕ)) (old_entries entries : List ObjectEntry)
    → ((k : ℕ) → k < entry_count → finite.get objects (entry_count * d + k) ≡ finite.get old_objects (entry_count * d + k))
    → ((k : ℕ) → k < entry_count → slice_get entries (entry_count * d + k) ≡ slice_get old_entries (entry_count * d + k))
    → IsLoadedDirectory keeps image frame d pointer old_objects old_entries → IsLoadedDirectory keeps image frame d pointer objects entries
same_directory keeps image frame d pointer old_objects objects old_entries entries eo em h = record {
  placed = h.placed;
  each = λ k low. same_loaded keeps image frame (entry_count * d + k) old_objects objects old_entries entries (eo k low) (em k low) (h.each k low);
  stands = λ keep. go (h.stands keep);
}
  where
    go : DirectoryStands image frame d pointer old_objects old_entries → DirectoryStands image frame d pointer objects entries
    go (inl none) = inl (none.0, λ k low. same_empty (entry_count * d + k) old_objects objects old_entries entries (eo k low) (em k low) (none.1 k low))
    go (inr block) = inr (block.0, block.1, λ k low. same_entry frame (entry_count * d + k) (entry_in block.0 k) old_objects objects old_entries entries (eo k low) (em k low) (block.2 k low))

-- what comes after a directory is as empty as before
empty_behind : (count : ℕ) (old_objects objects : FinMap nat_cmp (List ℕ)) (old_entries entries : List ObjectEntry) → AreEmptyFrom (entry_count * count) old_objects old_entries
    → SameBut (entry_count * count) entry_count old_objects objects old_entries entries → AreEmptyFrom (entry_count * (count + 1)) objects entries
empty_behind count old_objects objects old_entries entries empty others = record {
  each = λ n high. same_empty n old_objects objects old_entries entries (others.same_objects n (inr (omega (arith, high)))) (others.same_entries n (inr (omega (arith, high))))
      (empty.each n (omega (arith, high)));
}

-- one directory more, a block
pub directories_load : (keeps : Bool) (image : List ℕ) (frame : Frame) (directories : List Pointer) (count : ℕ) (old_objects objects : FinMap nat_cmp (List ℕ)) (old_entries entries : List ObjectEntry)
    → AreLoadedDirectories keeps image frame directories count old_objects old_entries
    → (p : Pointer) → count < length directories → LoadsDirectory keeps image frame count (get_or directories count p) old_objects objects old_entries entries
    → AreLoadedDirectories keeps image frame directories (count + 1) objects entries
directories_load keeps image frame directories count old_objects objects old_entries entries so_far p within here = record {
  loaded = λ d low. go d low (cases_eq d count);
  rest = empty_behind count old_objects objects old_entries entries so_far.rest here.others;
}
  where
    go : (d : ℕ) → d < count + 1 → (d ≡ count) ⊎ (d ≢ count) → IsLoadedDirectory keeps image frame d (pointer_of_list directories d) objects entries
    go d low (inl e) = rw e (subst (λ (q : Pointer). IsLoadedDirectory keeps image frame count q objects entries) (get_or_default directories count p no_pointer within) here.loaded)
    go d low (inr ne) =
        same_directory keeps image frame d (pointer_of_list directories d) old_objects objects old_entries entries
        (λ k in_range. here.others.same_objects (entry_count * d + k) (inl (omega (arith, in_range, low)))) (λ k in_range. here.others.same_entries (entry_count * d + k) (inl (omega (arith, in_range, low))))
        (so_far.loaded d (omega (arith, low)))
