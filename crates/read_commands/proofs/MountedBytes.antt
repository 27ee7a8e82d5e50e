-- What `get` writes are the bytes that it read. If the device keeps the disk model, they are bytes of an object that is
-- there in what the image mounts.
use Rattle.std.proofs.Common.{◌≡◌, [], ◌∷◌, Bool, true, false, List, ℕ, Result, Ok, Err, Option, None, Some, ap, length, refl, subst, sym, ◌∙◌}
use Rattle.std.specs.FinMap as finite
use Rattle.std.specs.FinMap.{FinMap}
use Rattle.std.specs.Io.KnownBytes.{Appends}
use Rattle.std.specs.Ordering.{nat_cmp}
use Rattle.std.specs.Prelude.{IfErr, IfOk, IsSome, option_map}
use Rattle.base.specs.declared.error.PoolError.{PoolError}
use Rattle.base.specs.declared.error.PoolError.TheVariants.{BadRange, NoObject}
use Rattle.base.specs.tree.Mount.{MountsTo}
use Rattle.base.specs.declared.names.ObjectId.{ObjectId}
use Rattle.base.specs.declared.range.Range.{Range}
use Rattle.base.specs.history.Contents.{Contents}
use Rattle.base.proofs.crash.OneMount.{mounts_agree}
use Rattle.mounted.specs.Ranges.{is_readable}
use Rattle.tree_blocks.specs.Sources.{object_length, range_in}
use Rattle.read_commands.specs.Reads.{IsAbsentIn, IsMountedRange, WritesMounted}

-- what is neither outside the limits nor missing is there
object_there : (readable : Bool) (found : Option (List ℕ)) (read : Result (List ℕ) PoolError) (bytes : List ℕ) → read ≡ Ok bytes → (readable ≡ false → read ≡ Err BadRange)
    → (readable ≡ true → option_map length found ≡ None → read ≡ Err NoObject) → IsSome found
object_there readable (Some had) read bytes is outside missing = refl
object_there false None read bytes is outside missing = let no : Ok bytes ≡ Err BadRange = sym is ∙ outside refl in cc
object_there true None read bytes is outside missing = let no : Ok bytes ≡ Err NoObject = sym is ∙ missing refl refl in cc

-- the bytes that were read of objects that the image mounts
module _ (image : List ℕ) (contents : Contents) (mounts : MountsTo image contents) (objects : FinMap nat_cmp (List ℕ)) (same : contents.objects ≡ objects) (object : ObjectId) (range : Range) where
  pub mounted_range : (read : Result (List ℕ) PoolError) → (is_readable object.0 range ≡ false → read ≡ Err BadRange)
      → (is_readable object.0 range ≡ true → object_length objects object.0 ≡ None → read ≡ Err NoObject)
      → IfOk read (λ bytes. bytes ≡ range_in objects object range) → IfOk read (IsMountedRange image object.0 range)
  mounted_range (Err e) outside missing exact = tt
  mounted_range (Ok bytes) outside missing exact =
      let there : IsSome (finite.get objects object.0) = object_there (is_readable object.0 range) (finite.get objects object.0) (Ok bytes) bytes refl outside missing in (
        contents,
        mounts,
        subst (λ (m : FinMap nat_cmp (List ℕ)). IsSome (finite.get m object.0)) (sym same) there,
        exact ∙ ap (λ (m : FinMap nat_cmp (List ℕ)). range_in m object range) (sym same),
      )

-- what was refused as missing isn't among them
pub mounted_absent : (image : List ℕ) (contents : Contents) → MountsTo image contents → (objects : FinMap nat_cmp (List ℕ)) → contents.objects ≡ objects → (object : ℕ) (read : Result (List ℕ) PoolError)
    → IfErr read (λ e. e ≡ NoObject → object_length objects object ≡ None) → IfErr read (λ e. e ≡ NoObject → IsAbsentIn image object)
mounted_absent image contents mounts objects same object (Ok bytes) absent = tt
mounted_absent image contents mounts objects same object (Err e) absent =
    λ is. (contents, mounts, ap (λ (m : FinMap nat_cmp (List ℕ)). object_length m object) same ∙ absent is)

-- an image mounts one contents, so the bytes of a range are those of any that it mounts
one_range : (image : List ℕ) (object : ObjectId) (range : Range) (bytes : List ℕ) → IsMountedRange image object.0 range bytes
    → (contents : Contents) → MountsTo image contents → bytes ≡ range_in contents.objects object range
one_range image object range bytes (other, (w, pieces, found), there, is) contents (u, chain, mounts) =
    let (same_u, same_chain, same) = mounts_agree image w u pieces chain other contents found mounts in
    is ∙ ap (λ (c : Contents). range_in c.objects object range) same

-- what is appended to nothing is all that is there
pub appended : (new : Option (List ℕ)) (bytes : List ℕ) → Appends (Some []) new bytes → new ≡ Some bytes
appended None bytes grown = absurd grown
appended (Some ys) bytes grown = ap Some grown

pub two_bytes_written : (image : List ℕ) (old new : Option (List ℕ)) (contents : Contents) → MountsTo image contents
    → finite.get contents.objects 7 ≡ Some (10 ∷ 11 ∷ 12 ∷ 13 ∷ []) → old ≡ Some []
    → WritesMounted image 7 (record { low = 1; high = 3 }) old new → new ≡ Some (11 ∷ 12 ∷ [])
two_bytes_written image old new contents mounts there empty (bytes, mounted, appends) =
    let object : ObjectId = record { 0 = 7 } in
    let range : Range = record { low = 1; high = 3 } in
    let are : bytes ≡ range_in contents.objects object range = one_range image object range bytes mounted contents mounts in
    let two : range_in contents.objects object range ≡ 11 ∷ 12 ∷ [] = rw there refl in
    appended new bytes (subst (λ (o : Option (List ℕ)). Appends o new bytes) empty appends) ∙ ap Some (are ∙ two)

-- no byte of an object that isn't there is written
pub never_absent : (image : List ℕ) (object : ℕ) (range : Range) (old new : Option (List ℕ)) (contents : Contents) → MountsTo image contents
    → finite.get contents.objects object ≡ None → WritesMounted image object range old new → ⊥
never_absent image object range old new contents (u, chain, mounts) absent (bytes, (other, (w, pieces, found), there, is), appends) =
    let (same_u, same_chain, same) = mounts_agree image w u pieces chain other contents found mounts in
    let no : IsSome {T = List ℕ} None = subst (λ (o : Option (List ℕ)). IsSome o) (ap (λ (c : Contents). finite.get c.objects object) same ∙ absent) there in
    cc
