-- Entries that are found by the paths of objects.
use Rattle.std.proofs.Common.{◌≡◌, ◌⊎◌, ◌/◌, ◌<◌, ◌≤◌, ℕ, List, length, Result, Ok, Err, IfOk, IfErr, refl, ap, sym, ◌∙◌, arith, inl, inr}
use Rattle.std.specs.Prelude.{Option, Some, None, IfSome}
use Rattle.std.specs.Ordering.{nat_cmp}
use Rattle.std.specs.FinMap as finite
use Rattle.std.specs.FinMap.{FinMap, len-entries}
use Rattle.std.proofs.lemmas.Bool.{cases_lt}
use Rattle.std.proofs.lemmas.List.{length-map}
use Rattle.base.specs.declared.error.PoolError.{PoolError}
use Rattle.base.specs.declared.error.PoolError.TheVariants.{Damaged, NoMemory, Read}
use Rattle.base.specs.declared.names.ObjectId.{ObjectId}
use Rattle.base.specs.declared.pointer.Pointer.{Pointer}
use Rattle.base.specs.formats.Blocks.{Frame}
use Rattle.base.specs.formats.Limits.{entry_count, pointer_count}
use Rattle.base.specs.tree.Damages.{IsSoundAt}
use Rattle.base.specs.tree.Places.{directory_pointer}
use Rattle.base.specs.tree.Places.Place.{Directory, Root}
use Rattle.tree_blocks.specs.Forms.{IsEntryOf}
use Rattle.tree_blocks.specs.ListedObjects.{listed}
use Rattle.tree_blocks.specs.declared.forms.Entry.{Entry}
use Rattle.object_maps.specs.BlockReads.{IsLoadRefusal}
use Rattle.object_maps.specs.Cached.{IsReadRefusal}
use Rattle.trees.specs.EntryLists.{TellsFirstAbove}
use Rattle.trees.specs.ObjectPaths.{IsEntryFound, IsOnPath, HasOnPath, TellsAbove, TellsPlace}

module _ (image : List ℕ) (frame : Frame) (root : Pointer) (n : ℕ) where
  pub none_found : (r : Result (Option Entry) PoolError) → IfOk r (λ o. IfSome o (IsEntryOf frame)) → IfOk r (IsEntryFound image root n) → IsOnPath image frame root n None → IfOk r (λ o. o ≡ None)
  none_found (Err e) form found path = tt
  none_found (Ok None) form found path = refl
  none_found (Ok (Some e)) (inl one) found path = absurd (let levels = found.levels in omega (arith, one.0, levels, path))
  none_found (Ok (Some e)) (inr two) found path = absurd (let levels = found.levels in omega (arith, two.1, levels, path))

  pub some_found : (bytes : List ℕ) (r : Result (Option Entry) PoolError) → IfOk r (IsEntryFound image root n) → HasOnPath image frame root n bytes
      → IfOk r (λ o. (e : Entry) × (o ≡ Some e) × (e.length ≡ length bytes))
  some_found bytes (Err e) found path = tt
  some_found bytes (Ok None) found path = absurd (path.there found)
  some_found bytes (Ok (Some e)) found path = (e, refl, sym found.size_is ∙ path.size)

  pub none_told : IsSoundAt image frame root Root → IsSoundAt image frame root (Directory (n / entry_count)) → (r : Result (Option Entry) PoolError) → IfErr r IsReadRefusal → IfErr r (TellsAbove image frame root n)
      → IfErr r (λ e. e ≡ Read)
  none_told above directory (Ok x) cause tells = tt
  none_told above directory (Err e) (inl read) tells = read
  none_told above directory (Err e) (inr (kind, address, is)) (inl tells) = absurd ((tells kind address is).2 above)
  none_told above directory (Err e) (inr (kind, address, is)) (inr tells) = absurd ((tells kind address is).2 directory)

module _ (image : List ℕ) (frame : Frame) (root : Pointer) (above : IsSoundAt image frame root Root) where
  pub none_told_above : ((d : ℕ) → d < pointer_count → IsSoundAt image frame root (Directory d)) → {A : Type 0} (r : Result A PoolError) → IfErr r IsLoadRefusal → IfErr r (TellsFirstAbove image frame root)
      → IfErr r (λ e. (e ≡ NoMemory) ⊎ (e ≡ Read))
  none_told_above directories (Ok x) cause tells = tt
  none_told_above directories (Err e) (inl memory) tells = inl memory
  none_told_above directories (Err e) (inr (inl read)) tells = inr read
  none_told_above directories (Err e) (inr (inr (kind, address, is))) (inl tells) = absurd ((tells kind address is).2 above)
  none_told_above directories (Err e) (inr (inr (kind, address, is))) (inr (sound, (d, low, tells, before))) = absurd ((tells kind address is).2 (directories d low))

  -- the first damaged directory is told
  module _ (before : (d : ℕ) → d < 5 → IsSoundAt image frame root (Directory d)) (damaged : IsSoundAt image frame root (Directory 5) → ⊥) where
    is_fifth : (e : PoolError) (kind address d : ℕ) → e ≡ Damaged kind address → TellsPlace image frame root (Directory d) e → ((c : ℕ) → c < d → IsSoundAt image frame root (Directory c))
        → (d < 5) ⊎ (5 ≤ d) → e ≡ Damaged 3 (directory_pointer image root 5).address
    is_fifth e kind address d is tells sound (inl low) = absurd ((tells kind address is).2 (before d low))
    is_fifth e kind address d is tells sound (inr high) = go (cases_lt 5 d)
      where
        go : (5 < d) ⊎ (d ≤ 5) → e ≡ Damaged 3 (directory_pointer image root 5).address
        go (inl past) = absurd (damaged (sound 5 past))
        go (inr most) =
            let fifth : d ≡ 5 = omega (arith, high, most) in
            let t = tells kind address is in
            is ∙ ap (λ (k : ℕ). Damaged k address) (sym t.0) ∙ ap (λ (a : ℕ). Damaged 3 a) (sym t.1 ∙ ap (λ (c : ℕ). (directory_pointer image root c).address) fifth)

    pub first_told : (e : PoolError) → IsLoadRefusal e → TellsFirstAbove image frame root e → (e ≡ NoMemory) ⊎ ((e ≡ Read) ⊎ (e ≡ Damaged 3 (directory_pointer image root 5).address))
    first_told e (inl memory) tells = inl memory
    first_told e (inr (inl read)) tells = inr (inl read)
    first_told e (inr (inr (kind, address, is))) (inl tells) = absurd ((tells kind address is).2 above)
    first_told e (inr (inr (kind, address, is))) (inr (sound, (d, low, tells, others))) = inr (inr (is_fifth e kind address d is tells others (cases_lt d 5)))

-- the objects of a tree are as many as are listed
pub as_many_listed : (objects : FinMap nat_cmp (List ℕ)) (list : List (ObjectId × ℕ)) → list ≡ listed objects → length list ≡ finite.len objects
as_many_listed objects list is =
    ap (λ (l : List (ObjectId × ℕ)). length l) is ∙ length-map (finite.entries objects) (λ (e : ℕ × List ℕ). (record { 0 = e.0 }, length e.1)) ∙ sym (len-entries objects)
