-- The changes of an object's own operations grow operation by operation, up to the first that can't take place.
use Rattle.std.proofs.Common.{◌≡◌, ℕ, ◌+◌, ◌<◌, true, false, List, [], ◌∷◌, ◌++◌, length, map, take, drop, get_or, inl, inr, Some, None, Ok, Err, refl, sym, subst, ap, ◌∙◌, append-nil, append_assoc}
use Rattle.std.specs.Prelude.{Bool, Option, Result, is_some, nat_lt, option_map}
use Rattle.std.specs.List.{flat_map}
use Rattle.std.proofs.lemmas.Grind.{flat_map-append}
use Rattle.std.proofs.lemmas.List.{map-append, take_more, take-append-drop}
use Rattle.std.proofs.lemmas.List.Elements.{filter-append}
use Rattle.base.specs.declared.error.PoolError.{PoolError}
use Rattle.base.specs.declared.operation.Op.{Op}
use Rattle.base.specs.formats.Chain.{LogPiece}
use Rattle.base.specs.history.Contents.{object_after}
use Rattle.base.specs.tree.Mount.{Placed, records_above}
use Rattle.extents.specs.declared.extents.Extents.{Extents}
use Rattle.extents.specs.Patches.{length_over, no_patch, patched}
use Rattle.extents.specs.Tables.{AppliesOps, patches_of}
use Rattle.extents.proofs.PatchedObjects.{patched_length, patched_nothing}
use Rattle.extents.proofs.SamePatches.{added_changes}
use Rattle.log_replay.specs.Walked.{above_at, placed_at}
use Rattle.log_replay.proofs.WalkedRecords.{above-cons, above-next, above-passed, above-piece}
use Rattle.records.specs.Records.{record_fields}
use Rattle.records.specs.declared.record.Record.{Record}
use Rattle.object_views.specs.OwnRecords.{AddsOwn, AreOwnChanges, ForLength, IsOwnRefusal, IsOwnRefused, PlacedOp, TakePlace, can_take_place, object_after_all, ops_of, own_of_records, own_ops}

-- operations after others that take place
pub take_place-append : (n : ℕ) (xs ys : List Op) (object : Option (List ℕ)) → TakePlace n xs object → TakePlace n ys (object_after_all n xs object) → TakePlace n (xs ++ ys) object
take_place-append n [] ys object first second = second
take_place-append n (x ∷ xs) ys object first second = (first.0, take_place-append n xs ys (object_after n x object) first.1 second)

pub ops-append : (xs ys : List PlacedOp) → ops_of (xs ++ ys) ≡ ops_of xs ++ ops_of ys
ops-append xs ys = map-append (λ (p : PlacedOp). p.op) xs ys

-- whether an object is there, by its length
there_by_length : (o : Option (List ℕ)) → is_some (option_map length o) ≡ is_some o
there_by_length None = refl
there_by_length (Some bytes) = refl

module _ (n : ℕ) (size : Option ℕ) where
  -- no changes are those of no operation
  pub no_own : (e : Extents) → ((m : ℕ) → patches_of e m ≡ no_patch) → AreOwnChanges n size [] e
  no_own e none = record { patches = λ m below. ap (λ p. patched p below) (none m) ∙ patched_nothing below; place = λ object is. tt }

  -- an operation that is not on the object adds none
  pub passed : (e : Extents) → AddsOwn n size [] e (Ok tt) e
  passed e earlier are = subst (λ (l : List Op). AreOwnChanges n size l e) (sym (append-nil earlier)) are

  -- whether the object is there after operations, by the length that their changes give
  module _ (earlier : List Op) (old : Extents) (are : AreOwnChanges n size earlier old) where
    pub there_after : (there : Bool) → there ≡ is_some (length_over (patches_of old n).basis size) → ForLength size (λ object. is_some (object_after_all n earlier object) ≡ there)
    there_after there is object long =
        ap is_some (sym (are.patches n object)) ∙ sym (there_by_length (patched (patches_of old n) object))
        ∙ ap is_some (patched_length (patches_of old n) object ∙ ap (length_over (patches_of old n).basis) long) ∙ sym is

    -- one that is on it is added, or can't take place
    module _ (address : ℕ) (op : Op) where
      abbrev p : PlacedOp
      p = record { address = address; op = op }

      pub one_added : (new : Extents) → ForLength size (λ object. can_take_place op (object_after_all n earlier object) ≡ true) → AppliesOps (op ∷ []) old new
          → AreOwnChanges n size (earlier ++ ops_of (p ∷ [])) new
      one_added new can applied = record {
        patches = added_changes earlier (op ∷ []) old new are.patches applied;
        place = λ object long. take_place-append n earlier (op ∷ []) object (are.place object long) (can object long, tt);
      }

      pub one_refused : ForLength size (λ object. can_take_place op (object_after_all n earlier object) ≡ false) → IsOwnRefused n size earlier (p ∷ []) address
      one_refused not = record {
        before = [];
        refused = p;
        after = [];
        split = refl;
        reached = λ object long. subst (λ (l : List Op). TakePlace n l object) (sym (append-nil earlier)) (are.place object long);
        refuses = λ object long. ap (λ (l : List Op). can_take_place op (object_after_all n l object)) (append-nil earlier) ∙ not object long;
        address_is = refl;
      }

  -- operations and then others
  module _ (xs ys : List PlacedOp) (old mid : Extents) (first : AddsOwn n size xs old (Ok tt) mid) where
    earlier-both : (earlier : List Op) → (earlier ++ ops_of xs) ++ ops_of ys ≡ earlier ++ ops_of (xs ++ ys)
    earlier-both earlier = append_assoc earlier (ops_of xs) (ops_of ys) ∙ ap (λ (l : List Op). earlier ++ l) (sym (ops-append xs ys))

    pub adds_both : (new : Extents) → AddsOwn n size ys mid (Ok tt) new → AddsOwn n size (xs ++ ys) old (Ok tt) new
    adds_both new second earlier are =
        subst (λ (l : List Op). AreOwnChanges n size l new) (earlier-both earlier) (second (earlier ++ ops_of xs) (first earlier are))

    pub adds_refused : (zs : List PlacedOp) (e : PoolError) (new last : Extents) → AddsOwn n size ys mid (Err e) new → AddsOwn n size (xs ++ (ys ++ zs)) old (Err e) last
    adds_refused zs e new last second earlier are = go (second (earlier ++ ops_of xs) (first earlier are))
      where
        go : IsOwnRefusal n size (earlier ++ ops_of xs) ys e → IsOwnRefusal n size earlier (xs ++ (ys ++ zs)) e
        go (inl memory) = inl memory
        go (inr (address, is, r)) =
            let same : (earlier ++ ops_of xs) ++ ops_of r.before ≡ earlier ++ ops_of (xs ++ r.before) =
            append_assoc earlier (ops_of xs) (ops_of r.before) ∙ ap (λ (l : List Op). earlier ++ l) (sym (ops-append xs r.before)) in
            inr (
              address,
              is,
              record {
                before = xs ++ r.before;
                refused = r.refused;
                after = r.after ++ zs;
                split = ap (λ (ps : List PlacedOp). xs ++ (ps ++ zs)) r.split ∙ ap (λ (ps : List PlacedOp). xs ++ ps) (append_assoc r.before (r.refused ∷ r.after) zs) ∙ sym (append_assoc xs r.before (r.refused ∷ (r.after ++ zs)));
                reached = λ object long. subst (λ (l : List Op). TakePlace n l object) same (r.reached object long);
                refuses = λ object long. ap (λ (l : List Op). can_take_place r.refused.op (object_after_all n l object)) (sym same) ∙ r.refuses object long;
                address_is = r.address_is;
              },
            )

  -- the operations that the items of a list have, item by item
  module _ {X : Type 0} (f : X → List PlacedOp) (xs : List X) (i : ℕ) (x : X) (low : i < length xs) (is : x ≡ get_or xs i x) (old mid : Extents)
      (first : AddsOwn n size (flat_map f (take i xs)) old (Ok tt) mid) where
    front : flat_map f (take (i + 1) xs) ≡ flat_map f (take i xs) ++ f x
    front =
        ap (λ (ys : List X). flat_map f ys) (take_more xs i x low ∙ ap (λ (y : X). take i xs ++ y ∷ []) (sym is))
        ∙ flat_map-append f (take i xs) (x ∷ []) ∙ ap (λ (ps : List PlacedOp). flat_map f (take i xs) ++ ps) (append-nil (f x))

    whole : flat_map f xs ≡ flat_map f (take i xs) ++ (f x ++ flat_map f (drop (i + 1) xs))
    whole =
        ap (λ (ys : List X). flat_map f ys) (sym (take-append-drop (i + 1) xs)) ∙ flat_map-append f (take (i + 1) xs) (drop (i + 1) xs)
        ∙ ap (λ (ps : List PlacedOp). ps ++ flat_map f (drop (i + 1) xs)) front ∙ append_assoc (flat_map f (take i xs)) (f x) (flat_map f (drop (i + 1) xs))

    pub adds_next : (new : Extents) → AddsOwn n size (f x) mid (Ok tt) new → AddsOwn n size (flat_map f (take (i + 1) xs)) old (Ok tt) new
    adds_next new second = subst (λ (ps : List PlacedOp). AddsOwn n size ps old (Ok tt) new) (sym front) (adds_both (flat_map f (take i xs)) (f x) old mid first new second)

    pub adds_stop : (e : PoolError) (new last : Extents) → AddsOwn n size (f x) mid (Err e) new → AddsOwn n size (flat_map f xs) old (Err e) last
    adds_stop e new last second =
        subst (λ (ps : List PlacedOp). AddsOwn n size ps old (Err e) last) (sym whole)
        (adds_refused (flat_map f (take i xs)) (f x) old mid first (flat_map f (drop (i + 1) xs)) e new last second)

-- the own operations of a chain, piece by piece, and of a piece, record by record
pub own_each_piece : (n group : ℕ) (bs : List LogPiece) → flat_map (λ (b : LogPiece). own_of_records n (records_above group (b ∷ []))) bs ≡ own_of_records n (records_above group bs)
own_each_piece n group [] = refl
own_each_piece n group (b ∷ bs) =
    ap (λ (ps : List PlacedOp). own_of_records n (records_above group (b ∷ [])) ++ ps) (own_each_piece n group bs)
    ∙ sym (ap (own_of_records n) (above-cons group b bs) ∙ flat_map-append (λ (p : Placed). own_ops n p.address p.logged.ops) (records_above group (b ∷ [])) (records_above group bs))

pub own_each_record : (n group address : ℕ) (rs : List Record) → flat_map (λ (r : Record). own_of_records n (above_at group address (r ∷ []))) rs ≡ own_of_records n (above_at group address rs)
own_each_record n group address [] = refl
own_each_record n group address (r ∷ rs) =
    ap (λ (ps : List PlacedOp). own_of_records n (above_at group address (r ∷ [])) ++ ps) (own_each_record n group address rs)
    ∙ sym (ap (own_of_records n) (filter-append (λ (p : Placed). nat_lt group p.logged.group) (placed_at address r ∷ []) (map (placed_at address) rs))
    ∙ flat_map-append (λ (p : Placed). own_ops n p.address p.logged.ops) (above_at group address (r ∷ [])) (above_at group address rs))

-- the records of a piece, as they are read out of it
pub own_piece : (n group address : ℕ) (piece : LogPiece) (records : List Record) → address ≡ piece.address → map record_fields records ≡ piece.records
    → flat_map (λ (r : Record). own_of_records n (above_at group address (r ∷ []))) records ≡ own_of_records n (records_above group (piece ∷ []))
own_piece n group address piece records at fields =
    own_each_record n group address records ∙ ap (λ (a : ℕ). own_of_records n (above_at group a records)) at ∙ sym (ap (own_of_records n) (above-piece group piece records fields))

-- one record, of a group above or not
module _ (n : ℕ) (size : Option ℕ) (group address : ℕ) (r : Record) where
  pub record_passed : (e : Extents) → nat_lt group r.group.0 ≡ false → AddsOwn n size (own_of_records n (above_at group address (r ∷ []))) e (Ok tt) e
  record_passed e up_to = subst (λ (ps : List Placed). AddsOwn n size (own_of_records n ps) e (Ok tt) e) (sym (above-passed group address r [] up_to)) (passed n size e)

  pub record_added : (old new : Extents) (result : Result (Unit {0}) PoolError) → nat_lt group r.group.0 ≡ true → AddsOwn n size (own_ops n address r.ops) old result new
      → AddsOwn n size (own_of_records n (above_at group address (r ∷ []))) old result new
  record_added old new result above adds =
      let same : own_of_records n (above_at group address (r ∷ [])) ≡ own_ops n address r.ops = ap (own_of_records n) (above-next group address r [] above) ∙ append-nil (own_ops n address r.ops) in
      subst (λ (ps : List PlacedOp). AddsOwn n size ps old result new) (sym same) adds
