-- What reads of objects give where patches are laid over them: lengths and bytes, from those below.
use Rattle.std.proofs.Common.{◌≡◌, ℕ, ◌+◌, ◌<◌, ◌≤◌, ◌⊎◌, inl, inr, true, false, refl, ap, subst, sym, ◌∙◌, List, [], length, Option, Some, None}
use Rattle.std.specs.Prelude.{is_some, option_map, unwrap_or}
use Rattle.std.proofs.lemmas.Bool.{cases_Bool, cases_lt, false≢true}
use Rattle.std.proofs.Math.Bool.{or-true}
use Rattle.std.specs.Ordering.{nat_cmp}
use Rattle.std.specs.FinMap as finite
use Rattle.std.specs.FinMap.{FinMap}
use Rattle.base.specs.formats.Limits.{object_count}
use Rattle.base.proofs.common.Choices.{none_there}
use Rattle.tree_blocks.specs.Sources.{AreBytesFrom, object_bytes, object_length}
use Rattle.extents.specs.declared.basis.Basis.{Basis}
use Rattle.extents.specs.declared.basis.Basis.TheVariants.{Grown, Cut, Made, Gone}
use Rattle.extents.specs.Patches.{IsSized, Patch, Patches, is_shown, laid_over, length_over, no_patch, patched}
use Rattle.extents.specs.LaidReads.{LaysOnBelow}
use Rattle.extents.specs.Objects.{HidesBelow, LaysOn}
use Rattle.extents.proofs.LaidObjects.{get-laid_over, get-laid_past}
use Rattle.extents.proofs.PatchedObjects.{patched_length, patched_nothing}
use Rattle.extents.proofs.ReadRecords.{bytes_alone, bytes_over, some_at}

-- a patched object of which some shows has one below
has_below : (basis : Basis) (written : ℕ → Option ℕ) (object : Option (List ℕ)) (i : ℕ) → is_some (patched (record { basis = basis; written = written }) object) ≡ true
    → is_shown basis i ≡ true → is_some object ≡ true
has_below basis written (Some bytes) i there shown = refl
has_below (Grown end) written None i there shown = there
has_below (Cut kept size) written None i there shown = there
has_below (Made size) written None i there shown = absurd (false≢true shown)
has_below Gone written None i there shown = there

is_some-map : (o : Option (List ℕ)) → is_some o ≡ true → is_some (option_map length o) ≡ true
is_some-map None is = is
is_some-map (Some bytes) is = refl

module _ (patches : Patches) (below : FinMap nat_cmp (List ℕ)) (n : ℕ) where
  pub laid_length : (size result : Option ℕ) → n < object_count → size ≡ object_length below n → result ≡ length_over (patches n).basis size
      → result ≡ object_length (laid_over patches below) n
  laid_length size result low is gives =
      gives ∙ ap (length_over (patches n).basis) is ∙ sym (patched_length (patches n) (finite.get below n)) ∙ ap (option_map length) (sym (get-laid_over patches below n low))

  pub laid_length_past : object_count ≤ n → None ≡ object_length (laid_over patches below) n
  laid_length_past past = ap (option_map length) (sym (get-laid_past patches below n past))

  -- an object with the patches laid over it has one of the numbers
  numbered : is_some (finite.get (laid_over patches below) n) ≡ true → n < object_count
  numbered there = go (cases_lt n object_count)
    where
      go : (n < object_count) ⊎ (object_count ≤ n) → n < object_count
      go (inl l) = l
      go (inr past) = absurd (false≢true (ap is_some (sym (get-laid_past patches below n past)) ∙ there))

  -- an object that is there, with its patch
  module _ (p : Patch) (is : patches n ≡ p) (there : is_some (finite.get (laid_over patches below) n) ≡ true) where
    pub laid_object : finite.get (laid_over patches below) n ≡ patched p (finite.get below n)
    laid_object = get-laid_over patches below n (numbered there) ∙ ap (λ (q : Patch). patched q (finite.get below n)) is

    made : is_some (patched p (finite.get below n)) ≡ true
    made = ap is_some (sym laid_object) ∙ there

    -- where the patch shows some of the object below, that one is there
    pub shown_is_there : (i : ℕ) → is_shown p.basis i ≡ true → is_some (finite.get below n) ≡ true
    shown_is_there i shown = has_below p.basis p.written (finite.get below n) i made shown

    -- its bytes, from those of the object below, or from any where these are hidden
    module _ (offset : ℕ) (old new : List ℕ) (sized : IsSized p) (long : length new ≡ length old) (lays : LaysOn p offset old new) where
      size : (s : ℕ) × (length_over p.basis (option_map length (finite.get below n)) ≡ Some s)
      size =
          some_at (length_over p.basis (option_map length (finite.get below n)))
          (ap is_some (sym (patched_length p (finite.get below n))) ∙ is_some-map (patched p (finite.get below n)) made)

      back : AreBytesFrom offset (unwrap_or (patched p (finite.get below n)) []) new → AreBytesFrom offset (object_bytes (laid_over patches below) n) new
      back = subst (λ (o : Option (List ℕ)). AreBytesFrom offset (unwrap_or o []) new) (sym laid_object)

      pub laid_part : AreBytesFrom offset (object_bytes below n) old → AreBytesFrom offset (object_bytes (laid_over patches below) n) new
      laid_part was = back (bytes_over p (finite.get below n) offset size.0 old new sized size.1 long lays was)

      pub hidden_part : HidesBelow p offset (length old) → AreBytesFrom offset (object_bytes (laid_over patches below) n) new
      hidden_part hides = back (bytes_alone p (finite.get below n) offset size.0 old new sized size.1 long lays hides)

  -- an object without a patch is the one below
  pub same_object : patches n ≡ no_patch → is_some (finite.get (laid_over patches below) n) ≡ true → finite.get (laid_over patches below) n ≡ finite.get below n
  same_object none there = laid_object no_patch none there ∙ patched_nothing (finite.get below n)

-- what the changes of groups, laid over bytes, give
made_hides : (basis : Basis) (written : ℕ → Option ℕ) (offset count : ℕ) → is_some (patched (record { basis = basis; written = written }) None) ≡ true → HidesBelow (record { basis = basis; written = written }) offset count
made_hides (Grown end) written offset count there = absurd (false≢true there)
made_hides (Cut kept size) written offset count there = absurd (false≢true there)
made_hides (Made size) written offset count there = λ k inside. or-true (is_some (written (offset + k)))
made_hides Gone written offset count there = absurd (false≢true there)

-- nothing is hidden by a patch that says nothing
nothing_hides : (offset count : ℕ) → HidesBelow no_patch offset count → (k : ℕ) → k < count → ⊥
nothing_hides offset count hides k inside = false≢true (hides k inside)

pub lays_on_none : (patches : Patches) (n offset : ℕ) (into : List ℕ) → patches n ≡ no_patch → LaysOnBelow patches n offset into into
lays_on_none patches n offset into none below there (inl hides) = λ k inside. absurd (nothing_hides offset (length into) (subst (λ (p : Patch). HidesBelow p offset (length into)) none hides) k inside)
lays_on_none patches n offset into none below there (inr reads) =
    subst (λ (o : Option (List ℕ)). AreBytesFrom offset (unwrap_or o []) into) (sym (same_object patches below n none there)) reads

pub lays_on_patch : (patches : Patches) (n offset : ℕ) (p : Patch) (old new : List ℕ) → patches n ≡ p → IsSized p → length new ≡ length old → LaysOn p offset old new → LaysOnBelow patches n offset old new
lays_on_patch patches n offset p old new is sized long lays below there (inl hides) =
    hidden_part patches below n p is there offset old new sized long lays (subst (λ (q : Patch). HidesBelow q offset (length old)) is hides)
lays_on_patch patches n offset p old new is sized long lays below there (inr reads) = laid_part patches below n p is there offset old new sized long lays reads

-- one group over another
pub over_below : (patches : Patches) (n offset : ℕ) (below : FinMap nat_cmp (List ℕ)) (old new : List ℕ) → LaysOnBelow patches n offset old new → is_some (finite.get (laid_over patches below) n) ≡ true
    → (is_some (finite.get below n) ≡ true → AreBytesFrom offset (object_bytes below n) old) → AreBytesFrom offset (object_bytes (laid_over patches below) n) new
over_below patches n offset below old new lays there reads = go (cases_Bool (is_some (finite.get below n)))
  where
    go : (is_some (finite.get below n) ≡ true) ⊎ (is_some (finite.get below n) ≡ false) → AreBytesFrom offset (object_bytes (laid_over patches below) n) new
    go (inl some) = lays below there (inr (reads some))
    go (inr none) =
        let alone : is_some (patched (patches n) None) ≡ true = subst (λ (o : Option (List ℕ)). is_some (patched (patches n) o) ≡ true) (none_there (finite.get below n) none)
        (ap is_some (sym (get-laid_over patches below n (numbered patches below n there))) ∙ there) in
        lays below there (inl (made_hides (patches n).basis (patches n).written offset (length old) alone))
