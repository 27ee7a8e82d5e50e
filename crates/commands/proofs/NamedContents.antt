-- The transactions of puts and removals by name write one slot of the table of names, and touch one object beside it.
use Rattle.std.proofs.Common.{◌≡◌, ◌≢◌, ◌*◌, ◌<◌, ◌++◌, ◌∷◌, [], ℕ, List, Option, Some, None, Ok, ap, arith, inl, inr, refl, subst, sym, ◌∙◌}
use Rattle.std.specs.Prelude.{is_some, unwrap_or}
use Rattle.base.specs.declared.names.ObjectId.{ObjectId}
use Rattle.base.specs.declared.operation.Op.{Op}
use Rattle.base.specs.declared.operation.Op.TheVariants.{Create, Remove, Write}
use Rattle.base.specs.history.Contents.{Contents, apply, bytes_after_write, changed, created, removed}
use Rattle.base.specs.history.History.{apply_all}
use Rattle.base.specs.history.Sequences.{in_turn}
use Rattle.base.proofs.common.Sequences.{parted}
use Rattle.commands.specs.Puts.{overwritten, write_ops}
use Rattle.commands.proofs.PutBytes.{write_leaves}
use Rattle.running_pools.proofs.OneObject.{LeavesOthers, changed_there, made, none_left, object, one, others_on}
use Rattle.object_names.specs.Laws.{IsRenamed, IsUnused, headed, with_slot}
use Rattle.object_names.specs.NameTables.{IsNameTable}
use Rattle.object_names.specs.Names.{IsName}
use Rattle.object_names.specs.Slots.{header_bytes, slot_bytes}
use Rattle.object_names.proofs.Renamed.{slots-change_one_name}
use Rattle.tree_blocks.specs.Sources.{object_bytes}
use Rattle.commands.specs.NamedLaws.{IsNamedNew, IsUnnamed}
use Rattle.commands.specs.NamedOps.{naming_ops, removal_ops, slot_op, table_object, table_ops}

-- object 0 has these bytes, and each other object is as it was
record HasTable (bytes : List ℕ) (before now : Contents) : Type 0 where
  pub there : object now 0 ≡ Some bytes
  pub others : LeavesOthers 0 before now

-- the first operation, and those after it
first : (op : Op) (rest : List Op) (c d : Contents) → in_turn apply (op ∷ rest) c ≡ Ok d → (m : Contents) × (apply op c ≡ Ok m) × (in_turn apply rest m ≡ Ok d)
first op rest c d h = parted (apply op c) (in_turn apply rest) d h

written : (place : ℕ) (new bytes : List ℕ) (c m d : Contents) → HasTable bytes c m → apply (Write table_object place new) m ≡ Ok d → HasTable (bytes_after_write place new bytes) c d
written place new bytes c m d has h =
    let w = one 0 (changed (bytes_after_write place new)) m d h in
    record { there = w.2 ∙ changed_there (bytes_after_write place new) (object m 0) w.0 bytes has.there w.1; others = others_on 0 c m d has.others w.3 }

as_it_was : (bytes : List ℕ) (c : Contents) → object c 0 ≡ Some bytes → HasTable bytes c c
as_it_was bytes c is = record { there = is; others = λ other ne. refl }

-- object 0 is made and gets its header, as far as it lacks them
tabled : (there : Option (List ℕ)) (rest : List Op) (c d : Contents) → object c 0 ≡ there → in_turn apply (table_ops (is_some there) (unwrap_or there []) ++ rest) c ≡ Ok d
    → (m : Contents) × HasTable (headed (unwrap_or there [])) c m × (in_turn apply rest m ≡ Ok d)
tabled None rest c d is h =
    let p = first (Create table_object) (Write table_object 0 header_bytes ∷ rest) c d h in
    let q = first (Write table_object 0 header_bytes) rest p.0 d p.2 in
    let w = one 0 created c p.0 p.1 in
    (q.0, written 0 header_bytes [] c p.0 q.0 (record { there = w.2 ∙ (made (object c 0) w.0 w.1).1; others = w.3 }) q.1, q.2)
tabled (Some []) rest c d is h =
    let q = first (Write table_object 0 header_bytes) rest c d h in
    (q.0, written 0 header_bytes [] c c q.0 (as_it_was [] c is) q.1, q.2)
tabled (Some (byte ∷ bytes)) rest c d is h = (c, as_it_was (byte ∷ bytes) c is, h)

above : (n : ℕ) → 0 < n → 0 ≢ n
above n low same = omega (arith, low, same)

named_above : (n : ℕ) → 0 < n → n ≢ 0
named_above n low same = omega (arith, low, same)

pub new_names_are_written : (n : ObjectId) (name : List ℕ) (at : ℕ) (piece : List ℕ) (c d : Contents) → 0 < n.0 → n.0 < 5292 → IsName name
    → IsNameTable (object_bytes c.objects 0) → IsUnused (object_bytes c.objects 0) n.0 name
    → apply_all (naming_ops (is_some (object c 0)) (object_bytes c.objects 0) n name at piece) c ≡ Ok d → IsNamedNew n.0 name (overwritten at piece []) c d
new_names_are_written n name at piece c d low high is table unused h =
    let before = object_bytes c.objects 0 in
    let t = tabled (object c 0) (slot_op n name ∷ Create n ∷ write_ops n at piece) c d refl h in
    let s = first (slot_op n name) (Create n ∷ write_ops n at piece) t.0 d t.2 in
    let w = written (256 * n.0) (slot_bytes name) (headed before) c t.0 s.0 t.1 s.1 in
    let k = first (Create n) (write_ops n at piece) s.0 d s.2 in
    let v = one n.0 created s.0 k.0 k.1 in
    let m = made (object s.0 n.0) v.0 v.1 in
    let l = write_leaves n at piece [] k.0 d k.2 (v.2 ∙ m.1) in
    let after : object d 0 ≡ Some (with_slot n.0 name before) = l.1 0 (above n.0 low) ∙ v.3 0 (above n.0 low) ∙ w.there in
    record {
      renamed = subst (λ (bytes : List ℕ). IsRenamed before n.0 name bytes) (sym (ap (λ (o : Option (List ℕ)). unwrap_or o []) after))
          (slots-change_one_name before n.0 name table low high (inr is) unused);
      was_absent = sym (w.others n.0 (named_above n.0 low)) ∙ m.0;
      bytes_are = l.0;
      others = λ other no_table no_object. l.1 other no_object ∙ v.3 other no_object ∙ w.others other no_table;
    }

-- an object that is removed is gone
gone : (before o : Option (List ℕ)) → removed before ≡ Ok o → o ≡ None
gone None o h = cc
gone (Some bytes) o h = cc

with_bytes : (there : Option (List ℕ)) → unwrap_or there [] ≢ [] → there ≡ Some (unwrap_or there [])
with_bytes None some = absurd (some refl)
with_bytes (Some bytes) some = refl

headed_same : (bytes : List ℕ) → bytes ≢ [] → headed bytes ≡ bytes
headed_same [] some = absurd (some refl)
headed_same (byte ∷ bytes) some = refl

module _ (n : ObjectId) (c d : Contents) (low : 0 < n.0) (high : n.0 < 5292) (table : IsNameTable (object_bytes c.objects 0)) (some : object_bytes c.objects 0 ≢ []) where
  abbrev before : List ℕ
  before = object_bytes c.objects 0

  -- the slot of an object that isn't there is emptied
  emptied : (m : Contents) → object m 0 ≡ object c 0 → object m n.0 ≡ None → ((other : ℕ) → other ≢ n.0 → object m other ≡ object c other) → in_turn apply (slot_op n [] ∷ []) m ≡ Ok d → IsUnnamed n.0 c d
  emptied m same absent others h =
      let q = first (slot_op n []) [] m d h in
      let w = written (256 * n.0) (slot_bytes []) before m m q.0 (as_it_was before m (same ∙ with_bytes (object c 0) some)) q.1 in
      let end = none_left q.0 d q.2 in
      let left : (k : ℕ) → object d k ≡ object q.0 k = λ k. ap (λ (x : Contents). object x k) (sym end) in
      let after : object d 0 ≡ Some (with_slot n.0 [] before) = left 0 ∙ w.there ∙ ap (λ (bytes : List ℕ). Some (bytes_after_write (256 * n.0) (slot_bytes []) bytes)) (sym (headed_same before some)) in
      record {
        renamed = subst (λ (bytes : List ℕ). IsRenamed before n.0 [] bytes) (sym (ap (λ (o : Option (List ℕ)). unwrap_or o []) after))
            (slots-change_one_name before n.0 [] table low high (inl refl) (λ m is. absurd (is.some refl)));
        gone = left n.0 ∙ w.others n.0 (named_above n.0 low) ∙ absent;
        others = λ other no_table no_object. left other ∙ w.others other no_table ∙ others other no_object;
      }

  by_there : (there : Option (List ℕ)) → object c n.0 ≡ there → in_turn apply (removal_ops (is_some there) n) c ≡ Ok d → IsUnnamed n.0 c d
  by_there None absent h = emptied c refl absent (λ other ne. refl) h
  by_there (Some bytes) is h =
      let p = first (Remove n) (slot_op n [] ∷ []) c d h in
      let v = one n.0 removed c p.0 p.1 in
      emptied p.0 (v.3 0 (above n.0 low)) (v.2 ∙ gone (object c n.0) v.0 v.1) v.3 p.2

  pub removed_names_are_gone : apply_all (removal_ops (is_some (object c n.0)) n) c ≡ Ok d → IsUnnamed n.0 c d
  removed_names_are_gone h = by_there (object c n.0) refl h
