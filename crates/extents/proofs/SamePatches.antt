-- Patches that say the same, and what operations make of them.
use Rattle.std.proofs.Common.{◌≡◌, ℕ, ◌+◌, ◌-◌, ◌<◌, ◌≢◌, List, [], ◌∷◌, ◌++◌, Option, Some, None, length, get_or, take, drop, refl, ap, subst, sym, ◌∙◌, ◌⊎◌, inl, inr, true, false, cond, arith, max}
use Rattle.std.specs.Prelude.{Bool, fold, unwrap_or, nat_le, nat_lt, ◌&&◌, ◌==◌, IfSome, IsSome, IsSomeAnd}
use Rattle.std.specs.List.{list_all}
use Rattle.std.proofs.lemmas.Bool.{cases_eq, eq-eqb, ne_eqb, and_from}
use Rattle.std.proofs.lemmas.List.{drop_more, take_more, get_or_default, ext_get_or}
use Rattle.std.proofs.lemmas.List.Folds.{list_all-append}
use Rattle.base.specs.declared.operation.Op.{Op}
use Rattle.base.specs.declared.operation.Op.TheVariants.{Create, Remove, Write, SetLength, SetName}
use Rattle.base.specs.history.Contents.{name_given, name_given_by_all}
use Rattle.extents.specs.declared.object.ObjectPatch.{ObjectPatch}
use Rattle.extents.specs.declared.extents.Extents.{Extents}
use Rattle.extents.specs.Patches.{Patch, Patches, ArePatchesOf, IsSized, filled, patched, patch_after, patch_after_write, patch_after_cut, with_ops, basis_after_write, basis_after_cut, no_patch}
use Rattle.extents.specs.declared.basis.Basis.{Basis}
use Rattle.extents.specs.declared.basis.Basis.TheVariants.{Grown, Cut, Made, Gone}
use Rattle.extents.proofs.PatchedBytes.{filled-in, length-filled}
use Rattle.extents.proofs.PatchedObjects.{changes_follow, patched_nothing}
use Rattle.extents.proofs.LaidWithin.{patches_sized}
use Rattle.tree_blocks.specs.Sources.{AreBytesFrom}
use Rattle.extents.specs.Objects.{HasRoomFrom, KeepsRoom, LaysOver}
use Rattle.extents.specs.Tables.{CanApply, CanStillApply, IsLeft, IsSame, KeepsRooms, AppliesOps, entry_at, patches_of}

pub same-trans : (p q r : Patch) → IsSame p q → IsSame q r → IsSame p r
same-trans p q r pq qr = record { basis = pq.basis ∙ qr.basis; written = λ i. pq.written i ∙ qr.written i }

same_write : (offset : ℕ) (bytes : List ℕ) (p q : Patch) → IsSame p q → IsSame (patch_after_write offset bytes p) (patch_after_write offset bytes q)
same_write offset bytes p q is = record {
  basis = ap (basis_after_write (offset + length bytes)) is.basis;
  written = λ i. ap (λ v. cond (nat_le offset i && nat_lt i (offset + length bytes)) (Some (get_or bytes (i - offset) 0)) v) (is.written i);
}

same_cut : (size : ℕ) (p q : Patch) → IsSame p q → IsSame (patch_after_cut size p) (patch_after_cut size q)
same_cut size p q is = record { basis = ap (basis_after_cut size) is.basis; written = λ i. ap (λ v. cond (nat_lt i size) v None) (is.written i) }

same_on : (n m : ℕ) (p q a b : Patch) → IsSame p q → IsSame a b → IsSame (cond (n == m) a p) (cond (n == m) b q)
same_on n m p q a b before after = go (cases_eq n m)
  where
    go : (n ≡ m) ⊎ (n ≢ m) → IsSame (cond (n == m) a p) (cond (n == m) b q)
    go (inl e) = rw (eq-eqb n m e) after
    go (inr e) = rw (ne_eqb n m e) before

pub same_patch : (p : Patch) → IsSame p p
same_patch p = record { basis = refl; written = λ i. refl }

-- an operation makes of patches that say the same such ones
pub same_after : (n : ℕ) (op : Op) (p q : Patch) → IsSame p q → IsSame (patch_after n op p) (patch_after n op q)
same_after n (Create m) p q is = same_on n m.0 p q _ _ is (same_patch _)
same_after n (Remove m) p q is = same_on n m.0 p q _ _ is (same_patch _)
same_after n (Write m offset bytes) p q is = same_on n m.0 p q _ _ is (same_write offset bytes p q is)
same_after n (SetLength m size) p q is = same_on n m.0 p q _ _ is (same_cut size p q is)
same_after n (SetName bytes) p q is = is

pub same_with : (ops : List Op) (n : ℕ) (p q : Patch) → IsSame p q → IsSame (fold (λ p op. patch_after n op p) p ops) (fold (λ p op. patch_after n op p) q ops)
same_with [] n p q is = is
same_with (op ∷ ops) n p q is = same_with ops n (patch_after n op p) (patch_after n op q) (same_after n op p q is)

-- one operation more is applied
pub next_applied : (ops : List Op) (i : ℕ) (op : Op) (mid new whole : Patches) → i < length ops → op ≡ get_or ops i op
    → ((n : ℕ) → IsSame (new n) (patch_after n op (mid n))) → ((n : ℕ) → IsSame (with_ops (drop i ops) mid n) (whole n))
    → (n : ℕ) → IsSame (with_ops (drop (i + 1) ops) new n) (whole n)
next_applied ops i op mid new whole low is applied left n =
    let rest : drop i ops ≡ op ∷ drop (i + 1) ops = drop_more ops i op low ∙ ap (λ (x : Op). x ∷ drop (i + 1) ops) (sym is) in
    same-trans _ (with_ops (op ∷ drop (i + 1) ops) mid n) (whole n) (same_with (drop (i + 1) ops) n (new n) (patch_after n op (mid n)) (applied n))
    (rw rest at (left n))

-- and of the name
pub next_named : (ops : List Op) (i : ℕ) (op : Op) (mid new whole : Option (List ℕ)) → i < length ops → op ≡ get_or ops i op
    → new ≡ name_given op mid → name_given_by_all (drop i ops) mid ≡ whole → name_given_by_all (drop (i + 1) ops) new ≡ whole
next_named ops i op mid new whole low is applied left =
    let rest : drop i ops ≡ op ∷ drop (i + 1) ops = drop_more ops i op low ∙ ap (λ (x : Op). x ∷ drop (i + 1) ops) (sym is) in
    ap (name_given_by_all (drop (i + 1) ops)) applied ∙ ap (λ (l : List Op). name_given_by_all l mid) (sym rest) ∙ left

-- what is left twice is left, and operations that are applied to what is left are applied to what was there
pub left-trans : (old mid new : Extents) → IsLeft old mid → IsLeft mid new → IsLeft old new
left-trans old mid new first second = record {
  patches = λ n. same-trans (patches_of new n) (patches_of mid n) (patches_of old n) (second.patches n) (first.patches n);
  name = second.name ∙ first.name;
}

pub applied_left : (ops : List Op) (old mid new : Extents) → IsLeft old mid → AppliesOps ops mid new → AppliesOps ops old new
applied_left ops old mid new same applied = record {
  patches = λ n. same-trans (patches_of new n) (with_ops ops (patches_of mid) n) (with_ops ops (patches_of old) n)
      (applied.patches n) (same_with ops n (patches_of mid n) (patches_of old n) (same.patches n));
  name = applied.name ∙ ap (name_given_by_all ops) same.name;
}

-- what has its room keeps it
has_kept : (a b : Option ObjectPatch) (Q : ObjectPatch → Type 0) → ((x y : ObjectPatch) → KeepsRoom x y → Q x → Q y)
    → IfSome a (λ before. IsSomeAnd b (λ after. KeepsRoom before after)) → IsSomeAnd a Q → IsSomeAnd b Q
has_kept None b Q step kept has = absurd has
has_kept (Some x) None Q step kept has = absurd kept
has_kept (Some x) (Some y) Q step kept has = step x y kept has

entry_kept : (a b : Option ObjectPatch) → IfSome a (λ before. IsSomeAnd b (λ after. KeepsRoom before after)) → IsSome a → IsSome b
entry_kept None b kept has = absurd (let no_way : false ≡ true = has in cc)
entry_kept (Some x) None kept has = absurd kept
entry_kept (Some x) (Some y) kept has = refl

pub room_kept : (op : Op) (old new : Extents) → KeepsRooms old new → CanApply old op → CanApply new op
room_kept (Create m) old new kept has = entry_kept (entry_at old m.0) (entry_at new m.0) (kept m.0) has
room_kept (Remove m) old new kept has = entry_kept (entry_at old m.0) (entry_at new m.0) (kept m.0) has
room_kept (Write m offset bytes) old new kept has =
    has_kept (entry_at old m.0) (entry_at new m.0) (λ o. HasRoomFrom o offset (length bytes)) (λ x y k h index from to. k index (h index from to)) (kept m.0) has
room_kept (SetLength m size) old new kept has = entry_kept (entry_at old m.0) (entry_at new m.0) (kept m.0) has
room_kept (SetName bytes) old new kept has = has

pub rooms_kept : (old new : Extents) → KeepsRooms old new → CanStillApply old new
rooms_kept old new kept ops can = λ k d l. room_kept (get_or ops k d) old new kept (can k d l)

-- so has one operation more
pub next_room : (ops : List Op) (i : ℕ) (op : Op) (old new : Extents) → op ≡ get_or ops i op → KeepsRooms old new → CanApply new op
    → ((k : ℕ) (d : Op) → k < i → CanApply old (get_or ops k d)) → i < length ops → (k : ℕ) (d : Op) → k < i + 1 → CanApply new (get_or ops k d)
next_room ops i op old new is kept has before low k d l = go (cases_eq k i)
  where
    go : (k ≡ i) ⊎ (k ≢ i) → CanApply new (get_or ops k d)
    go (inl e) = let here : op ≡ get_or ops k d = is ∙ get_or_default ops i op d low ∙ ap (λ j. get_or ops j d) (sym e) in rw (sym here) has
    go (inr e) = room_kept (get_or ops k d) old new kept (before k d (omega arith))

-- and its bytes are bytes
pub next_bytes : (p : Op → Bool) (ops : List Op) (i : ℕ) (op : Op) → i < length ops → op ≡ get_or ops i op → list_all p (take i ops) ≡ true → p op ≡ true
    → list_all p (take (i + 1) ops) ≡ true
next_bytes p ops i op low is before here =
    ap (list_all p) (take_more ops i op low ∙ ap (λ (x : Op). take i ops ++ x ∷ []) (sym is))
    ∙ list_all-append p (take i ops) (op ∷ []) ∙ and_from (list_all p (take i ops)) (list_all p (op ∷ [])) before (and_from (p op) true here refl)

-- where an object has no patch its bytes are those below
pub lays_nothing : (offset : ℕ) (below : Option ℕ) (bytes : List ℕ) → LaysOver no_patch offset below bytes bytes
lays_nothing offset below bytes object is was = subst (λ (o : Option (List ℕ)). AreBytesFrom offset (unwrap_or o []) bytes) (sym (patched_nothing object)) was

-- patches that say the same make the same objects
same_filled : (v w : ℕ → Option ℕ) (below : List ℕ) (size : ℕ) → ((i : ℕ) → v i ≡ w i) → filled v below size ≡ filled w below size
same_filled v w below size same =
    ext_get_or 0 _ _ (length-filled v below size ∙ sym (length-filled w below size)) (λ k l.
    let inside : k < size = rw length-filled at l in
    filled-in v below size k inside ∙ ap (λ (o : Option ℕ). unwrap_or o (get_or below k 0)) (same k) ∙ sym (filled-in w below size k inside))

same_by : (basis : Basis) (v w : ℕ → Option ℕ) (object : Option (List ℕ)) → ((i : ℕ) → v i ≡ w i)
    → patched (record { basis = basis; written = v }) object ≡ patched (record { basis = basis; written = w }) object
same_by (Grown end) v w None same = refl
same_by (Grown end) v w (Some bytes) same = ap Some (same_filled v w bytes (max (length bytes) end) same)
same_by (Cut kept size) v w None same = refl
same_by (Cut kept size) v w (Some bytes) same = ap Some (same_filled v w (take kept bytes) size same)
same_by (Made size) v w object same = ap Some (same_filled v w [] size same)
same_by Gone v w object same = refl

pub same_patched : (p q : Patch) (object : Option (List ℕ)) → IsSame p q → patched p object ≡ patched q object
same_patched p q object is =
    same_by p.basis p.written q.written object is.written ∙ ap (λ b. patched (record { basis = b; written = q.written }) object) is.basis

-- the changes of operations with more of them, and with none
pub changes_added : (earlier ops : List Op) (old new : Patches) → ((n : ℕ) → IsSized (old n)) → ArePatchesOf earlier old → ((n : ℕ) → IsSame (new n) (with_ops ops old n))
    → ArePatchesOf (earlier ++ ops) new
changes_added earlier ops old new sized are applied n object =
    same_patched (new n) (with_ops ops old n) object (applied n) ∙ changes_follow earlier ops old sized are n object

pub changes_left : (ops : List Op) (old new : Patches) → ArePatchesOf ops old → ((n : ℕ) → IsSame (new n) (old n)) → ArePatchesOf ops new
changes_left ops old new are same n object = same_patched (new n) (old n) object (same n) ∙ are n object

-- what a group adds to its changes are the changes of what it added
pub added_changes : (earlier ops : List Op) (old new : Extents) → ArePatchesOf earlier (patches_of old) → AppliesOps ops old new
    → ArePatchesOf (earlier ++ ops) (patches_of new)
added_changes earlier ops old new are applied = changes_added earlier ops (patches_of old) (patches_of new) (patches_sized old) are applied.patches
