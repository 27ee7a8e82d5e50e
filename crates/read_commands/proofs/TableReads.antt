-- The table that a read of object 0 gives is that of the whole object, and is refused as the read is.
use Rattle.std.proofs.Common.{◌≡◌, inl, inr, [], List, ℕ, Option, None, Result, Ok, Err, Some, ap, arith, length, refl, subst, sym, take, ◌∙◌, ◌≤◌}
use Rattle.std.specs.Prelude.{IfErr, IfOk, option_map, unwrap_or}
use Rattle.std.proofs.lemmas.List.{length-take, take_all}
use Rattle.base.specs.declared.error.PoolError.{PoolError}
use Rattle.base.specs.declared.error.PoolError.TheVariants.{NoObject}
use Rattle.base.specs.declared.refused.RefusedCalls.{RefusedCalls}
use Rattle.base.specs.disk.Calls.{counted}
use Rattle.device_model.specs.declared.device.SectorDevice.{Ghosts}
use Rattle.device_model.specs.Reading.{OnlyReads}
use Rattle.object_names.specs.NameTables.{IsNameTable}
use Rattle.read_commands.specs.PathReads.{IsCheckedRange, IsUnseen}
use Rattle.read_commands.specs.Reads.{IsAbsentIn, IsMountedRange}
use Rattle.tree_blocks.specs.Sources.{object_bytes}
use Rattle.read_commands.specs.NamedTables.{IsTableChecked, IsTableIn, IsTableOf, IsTableRead, table_range}

-- A table has at most 1,354,752 bytes. So bytes are one exactly if those up to one more are.
table_whole : (bytes : List ℕ) → length bytes ≤ 1354752 → take 1354753 bytes ≡ bytes
table_whole bytes few = take_all 1354753 bytes (omega arith)

front_whole : (bytes : List ℕ) → length (take 1354753 bytes) ≤ 1354752 → take 1354753 bytes ≡ bytes
front_whole bytes few = table_whole bytes (let size = length-take 1354753 bytes in omega (arith, few, size))

table_of_front : (bytes : List ℕ) (table : Option (List ℕ)) → IsTableOf (take 1354753 bytes) table → IsTableOf bytes table
table_of_front bytes (Some table) (same, is) = let whole = front_whole bytes is.whole.1 in (same ∙ whole, subst IsNameTable whole is)
table_of_front bytes None none = λ is. none (subst IsNameTable (sym (table_whole bytes is.whole.1)) is)

-- an object that isn't there has no bytes
no_bytes : (there : Option (List ℕ)) → option_map length there ≡ None → unwrap_or there [] ≡ []
no_bytes None absent = refl
no_bytes (Some bytes) absent = cc

-- the table that was read of what the image mounts
pub table_in : (image : List ℕ) (read : Result (List ℕ) PoolError) (result : Result (Option (List ℕ)) PoolError) → IsTableRead read result
    → IfErr read (λ e. e ≡ NoObject → IsAbsentIn image 0) → IfOk read (IsMountedRange image 0 table_range) → IfOk result (IsTableIn image)
table_in image (Ok bytes) (Ok table) is absent (contents, mounts, there, exact) =
    (contents, mounts, table_of_front (object_bytes contents.objects 0) table (subst (λ (b : List ℕ). IsTableOf b table) exact is))
table_in image (Ok bytes) (Err e) is absent mounted = tt
table_in image (Err NoObject) (Ok table) is absent mounted =
    let (contents, mounts, none) = absent refl in (contents, mounts, subst (λ (b : List ℕ). IsTableOf b table) (sym (no_bytes _ none)) is)
table_in image (Err NoObject) (Err e) is absent mounted = tt
table_in image (Err e) result is absent mounted = subst (λ (r : Result (Option (List ℕ)) PoolError). IfOk r (IsTableIn image)) (sym is) tt

-- and the one that was read by path
pub table_checked : (image : List ℕ) (read : Result (List ℕ) PoolError) (result : Result (Option (List ℕ)) PoolError) → IsTableRead read result
    → IfErr read (λ e. e ≡ NoObject → IsUnseen image 0) → IfOk read (IsCheckedRange image 0 table_range) → IfOk result (IsTableChecked image)
table_checked image (Ok bytes) (Ok table) is unseen checked = inl (bytes, checked, is)
table_checked image (Ok bytes) (Err e) is unseen checked = tt
table_checked image (Err NoObject) (Ok table) is unseen checked = inr (unseen refl, is)
table_checked image (Err NoObject) (Err e) is unseen checked = tt
table_checked image (Err e) result is unseen checked = subst (λ (r : Result (Option (List ℕ)) PoolError). IfOk r (IsTableChecked image)) (sym is) tt

counted_table : (read : Result (List ℕ) PoolError) (result : Result (Option (List ℕ)) PoolError) → IsTableRead read result → (calls : RefusedCalls) → counted result calls ≡ counted read calls
counted_table (Ok bytes) (Ok table) is calls = refl
counted_table (Ok bytes) (Err e) is calls = absurd is
counted_table (Err NoObject) (Ok table) is calls = refl
counted_table (Err NoObject) (Err e) is calls = absurd is
counted_table (Err e) result is calls = ap (λ (r : Result (Option (List ℕ)) PoolError). counted r calls) is

pub table_refused : (P : PoolError → Type 0) (read : Result (List ℕ) PoolError) (result : Result (Option (List ℕ)) PoolError) → IsTableRead read result → IfErr read P → IfErr result P
table_refused P (Ok bytes) (Ok table) is refused = tt
table_refused P (Ok bytes) (Err e) is refused = absurd is
table_refused P (Err NoObject) (Ok table) is refused = tt
table_refused P (Err NoObject) (Err e) is refused = absurd is
table_refused P (Err e) result is refused = subst (λ (r : Result (Option (List ℕ)) PoolError). IfErr r P) (sym is) refused

-- a table is read as the bytes are
pub table_reads : {Dev : Type 0} (D : Ghosts Dev) (read : Result (List ℕ) PoolError) (result : Result (Option (List ℕ)) PoolError) (old new : Dev) → IsTableRead read result → OnlyReads D read old new → OnlyReads D result old new
table_reads D read result old new is reads = record {
  size = reads.size;
  disk = reads.disk;
  count = reads.count ∙ sym (counted_table read result is (D.refused old));
}
