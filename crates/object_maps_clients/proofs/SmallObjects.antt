-- What patches make of an object of three bytes, and of none.
use Rattle.std.proofs.Common.{◌≡◌, ℕ, ◌<◌, ◌+◌, Bool, true, false, List, [], ◌∷◌, get_or, refl, ap, subst, ◌∙◌, Option, Some, None, arith}
use Rattle.std.proofs.lemmas.Bool.{false≢true}
use Rattle.std.proofs.Math.Bool.{or-true}
use Rattle.std.specs.Prelude.{IsTrue, is_some, unwrap_or}
use Rattle.std.specs.Ordering.{nat_cmp}
use Rattle.std.specs.FinMap as finite
use Rattle.std.specs.FinMap.{FinMap}
use Rattle.base.specs.formats.Limits.{object_count}
use Rattle.tree_blocks.specs.Sources.{object_bytes}
use Rattle.extents.specs.declared.basis.Basis.TheVariants.{Cut, Made}
use Rattle.extents.specs.Objects.{HidesBelow}
use Rattle.extents.specs.Patches.{Patch, Patches, filled, laid_over, no_patch, patched}
use Rattle.extents.proofs.LaidObjects.{get-laid_over}
use Rattle.extents.proofs.PatchedBytes.{filled-in}

-- cut to one byte, and three bytes long again
pub cut-three : (p : Patch) (below : Option (List ℕ)) → p.basis ≡ Cut 1 3 → ((i : ℕ) → p.written i ≡ None) → below ≡ Some (1 ∷ 2 ∷ 3 ∷ [])
    → patched p below ≡ Some (1 ∷ 0 ∷ 0 ∷ [])
cut-three p below is none there = rw (is, there, none 0, none 1, none 2) refl

made-bytes : (p : Patch) (below : Option (List ℕ)) (size : ℕ) → p.basis ≡ Made size → patched p below ≡ Some (filled p.written [] size)
made-bytes p below size is = rw is refl

made-byte : (written : ℕ → Option ℕ) (size k x : ℕ) → k < size → written k ≡ Some x → get_or (filled written [] size) k 0 ≡ x
made-byte written size k x low is = filled-in written [] size k low ∙ ap (λ (o : Option ℕ). unwrap_or o (get_or [] k 0)) is

-- the bytes of objects with patches laid over them
pub laid-bytes : (patches : Patches) (below objects : FinMap nat_cmp (List ℕ)) (n : ℕ) (bytes : List ℕ) → n < object_count → objects ≡ laid_over patches below
    → patched (patches n) (finite.get below n) ≡ Some bytes → object_bytes objects n ≡ bytes
laid-bytes patches below objects n bytes low is made =
    ap (λ (m : FinMap nat_cmp (List ℕ)). object_bytes m n) is ∙ ap (λ (o : Option (List ℕ)). unwrap_or o []) (get-laid_over patches below n low ∙ made)

-- a byte that was written into a created object
pub laid-made : (patches : Patches) (below objects : FinMap nat_cmp (List ℕ)) (n size k x : ℕ) → n < object_count → objects ≡ laid_over patches below
    → (patches n).basis ≡ Made size → k < size → (patches n).written k ≡ Some x → get_or (object_bytes objects n) k 0 ≡ x
laid-made patches below objects n size k x low is basis inside written =
    ap (λ (b : List ℕ). get_or b k 0) (laid-bytes patches below objects n (filled (patches n).written [] size) low is (made-bytes (patches n) (finite.get below n) size basis))
    ∙ made-byte (patches n).written size k x inside written

-- a created object is there, and shows nothing of the one below
pub made-there : (patches : Patches) (below : FinMap nat_cmp (List ℕ)) (n size : ℕ) → n < object_count → (patches n).basis ≡ Made size → is_some (finite.get (laid_over patches below) n) ≡ true
made-there patches below n size low is = ap is_some (get-laid_over patches below n low ∙ made-bytes (patches n) (finite.get below n) size is)

pub made-hides : (p : Patch) (size offset count : ℕ) → p.basis ≡ Made size → HidesBelow p offset count
made-hides p size offset count is = λ k inside. rw is (or-true (is_some (p.written (offset + k))))

-- an object without a patch shows each byte of the one below
pub untouched-shows : (p : Patch) (hidden : Bool) (offset : ℕ) → p ≡ no_patch → (IsTrue hidden → HidesBelow p offset 1) → hidden ≡ false
untouched-shows p false offset is hides = refl
untouched-shows p true offset is hides = absurd (false≢true (subst (λ (q : Patch). HidesBelow q offset 1) is (hides refl) 0 (omega arith)))
