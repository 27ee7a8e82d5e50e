-- A patch after operations makes the object that the operations make of the patched one.
use Rattle.std.proofs.Common.{◌≡◌, ℕ, ◌+◌, ◌<◌, ◌≤◌, ◌≢◌, max, min, List, [], ◌∷◌, ◌++◌, Option, Some, None, length, get_or, take, refl, ap, sym, ◌∙◌, arith, length-take, get_or-take, ◌⊎◌, inl, inr, true, false, cond}
use Rattle.std.specs.Prelude.{fold, option_map, ◌==◌}
use Rattle.std.proofs.lemmas.List.{get_or_past}
use Rattle.std.proofs.lemmas.List.Sums.{fold-append}
use Rattle.std.proofs.lemmas.Bool.{cases_lt, cases_eq, eq-eqb, ne_eqb}
use Rattle.base.specs.declared.operation.Op.{Op}
use Rattle.base.specs.declared.operation.Op.TheVariants.{Create, Remove, Write, SetLength, SetName}
use Rattle.base.specs.history.Contents.{resize, bytes_after_write, object_after}
use Rattle.extents.specs.Patches.{Patch, Patches, IsSized, ArePatchesOf, no_patch, patched, patch_after, with_ops, filled, basis_after_write, basis_after_cut, length_over, written_after, written_below}
use Rattle.extents.specs.declared.basis.Basis.{Basis}
use Rattle.extents.specs.declared.basis.Basis.TheVariants.{Grown, Cut, Made, Gone}
use Rattle.extents.proofs.PatchedBytes.{WritesBelow, filled-write, filled-cut, written-within, written-cut, filled_nothing, length-filled}

-- a write of the patch is one of the object
patched_write : (offset : ℕ) (new : List ℕ) (basis : Basis) (written : ℕ → Option ℕ) (below : Option (List ℕ)) → IsSized (record { basis = basis; written = written })
    → patched (record { basis = basis_after_write (offset + length new) basis; written = written_after offset new written }) below
    ≡ option_map (bytes_after_write offset new) (patched (record { basis = basis; written = written }) below)
patched_write offset new (Grown end) written None sized = refl
patched_write offset new (Grown end) written (Some bytes) sized =
    let below : WritesBelow written (max (length bytes) end) = λ i is. let h : i < end = sized i is in omega arith in
    let same : max (length bytes) (max end (offset + length new)) ≡ max (max (length bytes) end) (offset + length new) = omega arith in
    ap (λ n. Some (filled (written_after offset new written) bytes n)) same ∙ ap Some (filled-write written bytes (max (length bytes) end) below (omega arith) offset new)
patched_write offset new (Cut kept size) written None sized = refl
patched_write offset new (Cut kept size) written (Some bytes) sized =
    let k : kept ≤ size = sized.0 in
    ap Some (filled-write written (take kept bytes) size sized.1 (rw length-take (omega arith)) offset new)
patched_write offset new (Made size) written below sized = ap Some (filled-write written [] size sized (omega arith) offset new)
patched_write offset new Gone written below sized = refl

-- of what is kept below a cut, the bytes below it stay
kept-same : (kept new : ℕ) (bytes : List ℕ) (i : ℕ) → i < new → get_or (take (min kept new) bytes) i 0 ≡ get_or (take kept bytes) i 0
kept-same kept new bytes i h = go (cases_lt i kept)
  where
    go : (i < kept) ⊎ (kept ≤ i) → get_or (take (min kept new) bytes) i 0 ≡ get_or (take kept bytes) i 0
    go (inl l) = get_or-take (min kept new) bytes i 0 (omega arith) ∙ sym (get_or-take kept bytes i 0 l)
    go (inr g) = get_or_past (take (min kept new) bytes) i 0 (rw length-take (omega arith)) ∙ sym (get_or_past (take kept bytes) i 0 (rw length-take (omega arith)))

patched_cut : (new : ℕ) (basis : Basis) (written : ℕ → Option ℕ) (below : Option (List ℕ)) → IsSized (record { basis = basis; written = written })
    → patched (record { basis = basis_after_cut new basis; written = written_below new written }) below
    ≡ option_map (resize new) (patched (record { basis = basis; written = written }) below)
patched_cut new (Grown end) written None sized = refl
patched_cut new (Grown end) written (Some bytes) sized =
    let below : WritesBelow written (max (length bytes) end) = λ i is. let h : i < end = sized i is in omega arith in
    ap Some (filled-cut written bytes (max (length bytes) end) below (omega arith) new (take new bytes) (λ i h. get_or-take new bytes i 0 h))
patched_cut new (Cut kept size) written None sized = refl
patched_cut new (Cut kept size) written (Some bytes) sized =
    let k : kept ≤ size = sized.0 in
    ap Some (filled-cut written (take kept bytes) size sized.1 (rw length-take (omega arith)) new (take (min kept new) bytes) (kept-same kept new bytes))
patched_cut new (Made size) written below sized = ap Some (filled-cut written [] size sized (omega arith) new [] (λ i h. refl))
patched_cut new Gone written below sized = refl

-- an operation on another object leaves it
after_patch : (n : ℕ) (op : Op) (p : Patch) (below : Option (List ℕ)) → IsSized p → patched (patch_after n op p) below ≡ object_after n op (patched p below)
after_patch n (Create m) p below sized = go (cases_eq n m.0)
  where
    go : (n ≡ m.0) ⊎ (n ≢ m.0) → patched (patch_after n (Create m) p) below ≡ object_after n (Create m) (patched p below)
    go (inl e) = rw (eq-eqb n m.0 e) refl
    go (inr e) = rw (ne_eqb n m.0 e) refl
after_patch n (Remove m) p below sized = go (cases_eq n m.0)
  where
    go : (n ≡ m.0) ⊎ (n ≢ m.0) → patched (patch_after n (Remove m) p) below ≡ object_after n (Remove m) (patched p below)
    go (inl e) = rw (eq-eqb n m.0 e) refl
    go (inr e) = rw (ne_eqb n m.0 e) refl
after_patch n (Write m offset bytes) p below sized = go (cases_eq n m.0)
  where
    go : (n ≡ m.0) ⊎ (n ≢ m.0) → patched (patch_after n (Write m offset bytes) p) below ≡ object_after n (Write m offset bytes) (patched p below)
    go (inl e) = rw (eq-eqb n m.0 e) (patched_write offset bytes p.basis p.written below sized)
    go (inr e) = rw (ne_eqb n m.0 e) refl
after_patch n (SetLength m size) p below sized = go (cases_eq n m.0)
  where
    go : (n ≡ m.0) ⊎ (n ≢ m.0) → patched (patch_after n (SetLength m size) p) below ≡ object_after n (SetLength m size) (patched p below)
    go (inl e) = rw (eq-eqb n m.0 e) (patched_cut size p.basis p.written below sized)
    go (inr e) = rw (ne_eqb n m.0 e) refl
after_patch n (SetName bytes) p below sized = refl

-- a patch stays sized
sized_write : (offset : ℕ) (new : List ℕ) (basis : Basis) (written : ℕ → Option ℕ) → IsSized (record { basis = basis; written = written })
    → IsSized (record { basis = basis_after_write (offset + length new) basis; written = written_after offset new written })
sized_write offset new (Grown end) written sized = written-within end written sized offset new
sized_write offset new (Cut kept size) written sized = let k : kept ≤ size = sized.0 in ((omega arith), written-within size written sized.1 offset new)
sized_write offset new (Made size) written sized = written-within size written sized offset new
sized_write offset new Gone written sized = tt

sized_cut : (new : ℕ) (basis : Basis) (written : ℕ → Option ℕ) → IsSized (record { basis = basis; written = written })
    → IsSized (record { basis = basis_after_cut new basis; written = written_below new written })
sized_cut new (Grown end) written sized = (omega arith, written-cut new written)
sized_cut new (Cut kept size) written sized = (omega arith, written-cut new written)
sized_cut new (Made size) written sized = written-cut new written
sized_cut new Gone written sized = tt

sized_on : (n m : ℕ) (p q : Patch) → IsSized p → IsSized q → IsSized (cond (n == m) q p)
sized_on n m p q before after = go (cases_eq n m)
  where
    go : (n ≡ m) ⊎ (n ≢ m) → IsSized (cond (n == m) q p)
    go (inl e) = rw (eq-eqb n m e) after
    go (inr e) = rw (ne_eqb n m e) before

pub sized_after : (n : ℕ) (op : Op) (p : Patch) → IsSized p → IsSized (patch_after n op p)
sized_after n (Create m) p sized = sized_on n m.0 p (record { basis = Made 0; written = λ _. None }) sized (λ i is. absurd (let no_way : false ≡ true = is in cc))
sized_after n (Remove m) p sized = sized_on n m.0 p (record { basis = Gone; written = λ _. None }) sized tt
sized_after n (Write m offset bytes) p sized =
    sized_on n m.0 p (record { basis = basis_after_write (offset + length bytes) p.basis; written = written_after offset bytes p.written }) sized
    (sized_write offset bytes p.basis p.written sized)
sized_after n (SetLength m size) p sized =
    sized_on n m.0 p (record { basis = basis_after_cut size p.basis; written = written_below size p.written }) sized (sized_cut size p.basis p.written sized)
sized_after n (SetName bytes) p sized = sized

-- and after operations in order
pub sized_with : (ops : List Op) (n : ℕ) (p : Patch) → IsSized p → IsSized (fold (λ p op. patch_after n op p) p ops)
sized_with [] n p sized = sized
sized_with (op ∷ ops) n p sized = sized_with ops n (patch_after n op p) (sized_after n op p sized)

pub after_patches : (ops : List Op) (n : ℕ) (p : Patch) (below : Option (List ℕ)) → IsSized p
    → patched (fold (λ p op. patch_after n op p) p ops) below ≡ fold (λ object op. object_after n op object) (patched p below) ops
after_patches [] n p below sized = refl
after_patches (op ∷ ops) n p below sized =
    after_patches ops n (patch_after n op p) below (sized_after n op p sized)
    ∙ ap (λ o. fold (λ object op. object_after n op object) o ops) (after_patch n op p below sized)

-- what no operation has touched leaves the object
pub patched_nothing : (below : Option (List ℕ)) → patched no_patch below ≡ below
patched_nothing None = refl
patched_nothing (Some bytes) = ap Some (filled_nothing bytes)

-- the changes of operations, with more of them
pub changes_follow : (earlier ops : List Op) (patches : Patches) → ((n : ℕ) → IsSized (patches n)) → ArePatchesOf earlier patches → ArePatchesOf (earlier ++ ops) (with_ops ops patches)
changes_follow earlier ops patches sized are n below =
    after_patches ops n (patches n) below (sized n) ∙ ap (λ o. fold (λ object op. object_after n op object) o ops) (are n below)
    ∙ sym (fold-append (λ object op. object_after n op object) below earlier ops)

-- the length of a patched object
pub patched_length : (p : Patch) (below : Option (List ℕ)) → option_map length (patched p below) ≡ length_over p.basis (option_map length below)
patched_length p below = by_basis p.basis p.written below
  where
    by_basis : (basis : Basis) (written : ℕ → Option ℕ) (below : Option (List ℕ))
        → option_map length (patched (record { basis = basis; written = written }) below) ≡ length_over basis (option_map length below)
    by_basis (Grown end) written None = refl
    by_basis (Grown end) written (Some bytes) = ap Some (length-filled written bytes (max (length bytes) end))
    by_basis (Cut kept size) written None = refl
    by_basis (Cut kept size) written (Some bytes) = ap Some (length-filled written (take kept bytes) size)
    by_basis (Made size) written below = ap Some (length-filled written [] size)
    by_basis Gone written below = refl
