-- What operations do to the objects, one after another, is what the definitions say.
use Rattle.std.proofs.Common.{◌≡◌, ◌==◌, ℕ, ◌+◌, ◌<◌, ◌&&◌, ◌||◌, max, Bool, true, false, List, [], ◌∷◌, ◌++◌, length, take, Option, Some, None, Ok, refl, sym, ◌∙◌, ap, arith}
use Rattle.std.specs.Prelude.{All, nat_lt, option_map, slice_index_or, unwrap_or, if◌then◌else◌}
use Rattle.std.specs.List.{list_any}
use Rattle.std.specs.Option.{option_map_or}
use Rattle.std.specs.FinMap as finite
use Rattle.std.proofs.lemmas.Bool.{le-ltb, or_left, or_right}
use Rattle.std.proofs.lemmas.List.{take_more}
use Rattle.std.proofs.lemmas.List.Folds.{list_any-append}
use Rattle.std.proofs.lemmas.List.Elements.{All-cons, All-head, All-nil, All-tail}
use Rattle.base.specs.declared.names.ObjectId.{ObjectId}
use Rattle.base.specs.declared.operation.Op.{Op}
use Rattle.base.specs.declared.operation.Op.TheVariants.{Create, Remove, Write, SetLength, SetName}
use Rattle.base.specs.declared.record_state.RecordState.{RecordState}
use Rattle.base.specs.declared.record_state.RecordState.TheVariants.{Unchanged}
use Rattle.base.specs.history.Contents.{Contents, apply, bytes_after_write, changed, created, removed, resize}
use Rattle.base.specs.history.History.{apply_all}
use Rattle.base.specs.history.Plans.{IsRange, ranges, touched}
use Rattle.base.specs.history.Sequences.{in_turn}
use Rattle.base.specs.tree.Syncs.{contents_after, contents_after_all, is_change_of, is_on, record_state, state_after_cut, state_after_op}
use Rattle.base.proofs.common.Sequences.{joined, parted}
use Rattle.base.proofs.history.Writes.{length-bytes_after_write, length-resize}
use Rattle.base.proofs.history.Projections.{gives_removed}
use Rattle.base.proofs.tree.RecordStates.{at-object, bytes-changed, bytes-created, contents-after_all, elsewhere}
use Rattle.tree_blocks.specs.declared.tree.ObjectEntry.{ObjectEntry}
use Rattle.tree_plans.specs.declared.changes.ObjectChanges.{ObjectChanges}
use Rattle.tree_plans.specs.Marks.{AreToldSoFar, NotesOp, length_so_far, length_with, sets_length, object_size, marked_after}

-- a longer run of operations
or_swapped : (a b : Bool) → (b || a) ≡ (a || (b || false))
or_swapped true true = refl
or_swapped true false = refl
or_swapped false true = refl
or_swapped false false = refl

state-append : (n r : ℕ) (xs : List Op) (op : Op) (c : Contents) (s : RecordState) → record_state n r (xs ++ op ∷ []) c s ≡ state_after_op n r op (contents_after_all xs c) (record_state n r xs c s)
state-append n r [] op c s = refl
state-append n r (x ∷ xs) op c s = state-append n r xs op (contents_after x c) (state_after_op n r x c s)

-- the state after an operation, by the length of the object if the operation sets it
state-by_length : (n r : ℕ) (op : Op) (c : Contents) (size : ℕ) (s : RecordState) → (sets_length n op ≡ true → size ≡ object_size c n) → marked_after n r op size s ≡ state_after_op n r op c s
state-by_length n r (Create m) c size s is = refl
state-by_length n r (Remove m) c size s is = refl
state-by_length n r (Write m offset bytes) c size s is = refl
state-by_length n r (SetLength m new) c size s is = chosen (m.0 == n) (λ same. ap (nat_lt new) (is same) ∙ by (finite.get c.objects n))
  where
    by : (o : Option (List ℕ)) → nat_lt new (length (unwrap_or o [])) ≡ option_map_or (λ old. nat_lt new old) (option_map length o) false
    by None = le-ltb new 0 (omega arith)
    by (Some y) = refl

    chosen : (b : Bool) → (b ≡ true → nat_lt new size ≡ option_map_or (λ old. nat_lt new old) (option_map length (finite.get c.objects n)) false)
        → (if b && nat_lt new size then state_after_cut r new s else s) ≡ (if b && option_map_or (λ old. nat_lt new old) (option_map length (finite.get c.objects n)) false then state_after_cut r new s else s)
    chosen true same = ap (λ (b : Bool). if b then state_after_cut r new s else s) (same refl)
    chosen false same = refl
state-by_length n r (SetName bytes) c size s is = refl

-- the length after an operation that takes place
either_size : (b : Bool) (x y z : ℕ) → (b ≡ true → x ≡ z) → (b ≡ false → y ≡ z) → (if b then x else y) ≡ z
either_size true x y z first second = first refl
either_size false x y z first second = second refl

length-after : (n : ℕ) (op : Op) (c d : Contents) → apply op c ≡ Ok d → length_with n op (object_size c n) ≡ object_size d n
length-after n (Create m) c d h = either_size (m.0 == n) 0 (object_size c n) (object_size d n)
    (λ same. ap (λ (l : List ℕ). length l) (sym (bytes-created (finite.get c.objects n) (finite.get d.objects n) (at-object n m.0 created c d same h))))
    (λ other. ap (λ (o : Option (List ℕ)). length (unwrap_or o [])) (elsewhere n m.0 created c d other h))
length-after n (Remove m) c d h = either_size (m.0 == n) 0 (object_size c n) (object_size d n)
    (λ same. ap (λ (o : Option (List ℕ)). length (unwrap_or o [])) (sym (gives_removed (finite.get c.objects n) (finite.get d.objects n) (at-object n m.0 removed c d same h))))
    (λ other. ap (λ (o : Option (List ℕ)). length (unwrap_or o [])) (elsewhere n m.0 removed c d other h))
length-after n (Write m offset bytes) c d h = either_size (m.0 == n) (max (object_size c n) (offset + length bytes)) (object_size c n) (object_size d n)
    (λ same.
    let to = bytes-changed (bytes_after_write offset bytes) (finite.get c.objects n) (finite.get d.objects n) (at-object n m.0 (changed (bytes_after_write offset bytes)) c d same h) in
    ap (λ (o : Option (List ℕ)). max (length (unwrap_or o [])) (offset + length bytes)) to.1 ∙ sym (length-bytes_after_write offset bytes to.0) ∙ ap (λ (o : Option (List ℕ)). length (unwrap_or o [])) (sym to.2))
    (λ other. ap (λ (o : Option (List ℕ)). length (unwrap_or o [])) (elsewhere n m.0 (changed (bytes_after_write offset bytes)) c d other h))
length-after n (SetLength m new) c d h = either_size (m.0 == n) new (object_size c n) (object_size d n)
    (λ same.
    let to = bytes-changed (resize new) (finite.get c.objects n) (finite.get d.objects n) (at-object n m.0 (changed (resize new)) c d same h) in
    sym (length-resize new to.0) ∙ ap (λ (o : Option (List ℕ)). length (unwrap_or o [])) (sym to.2))
    (λ other. ap (λ (o : Option (List ℕ)). length (unwrap_or o [])) (elsewhere n m.0 (changed (resize new)) c d other h))
length-after n (SetName bytes) c d h = let e : record { name = bytes; objects = c.objects } ≡ d = cc in ap (λ (x : Contents). object_size x n) e

-- operations that take place one after another do so up to each of them
apart : (xs ys : List Op) (a c : Contents) → apply_all (xs ++ ys) a ≡ Ok c → (b : Contents) × (apply_all xs a ≡ Ok b) × (apply_all ys b ≡ Ok c)
apart [] ys a c h = (a, refl, h)
apart (x ∷ xs) ys a c h =
    let p = parted (apply x a) (in_turn apply (xs ++ ys)) c h in
    let q = apart xs ys p.0 c p.2 in
    (q.0, joined (apply x a) (in_turn apply xs) p.0 q.0 p.1 q.1, q.2)

one_only : (op : Op) (b c : Contents) → apply_all (op ∷ []) b ≡ Ok c → apply op b ≡ Ok c
one_only op b c h =
    let p = parted (apply op b) (in_turn apply []) c h in
    let e : p.0 ≡ c = (let f = p.2 in cc) in
    p.1 ∙ ap (λ (x : Contents). Ok x) e

front_ranges : (xs : List Op) (op : Op) → All IsRange (ranges (xs ++ op ∷ [])) → All IsRange (ranges xs) × IsRange (touched op)
front_ranges [] op all = (All-nil IsRange, All-head IsRange (touched op) [] all)
front_ranges (x ∷ xs) op all =
    let rest = front_ranges xs op (All-tail IsRange (touched x) (ranges (xs ++ op ∷ [])) all) in
    (All-cons IsRange (touched x) (ranges xs) (All-head IsRange (touched x) (ranges (xs ++ op ∷ [])) all) rest.0, rest.1)

-- what an operation of a run does, one of the whole run does
any_first : (p : Op → Bool) (done : List Op) (op : Op) → list_any p done ≡ true → list_any p (done ++ op ∷ []) ≡ true
any_first p done op is = list_any-append p done (op ∷ []) ∙ or_left (list_any p done) (list_any p (op ∷ [])) is

any_last : (p : Op → Bool) (done : List Op) (op : Op) → p op ≡ true → list_any p (done ++ op ∷ []) ≡ true
any_last p done op is = list_any-append p done (op ∷ []) ∙ or_right (list_any p done) (p op || false) (or_left (p op) false is)

-- one operation more
pub told_more : (done : List Op) (op : Op) (maps : List ObjectEntry) (old new : List (ObjectId × ObjectChanges)) → AreToldSoFar done maps old → NotesOp op maps old new → AreToldSoFar (done ++ op ∷ []) maps new
told_more done op maps old new told noted = record {
  changes = record {
    there = λ n. noted.there n ∙ ap (λ (b : Bool). is_on n op || b) (told.changes.there n) ∙ or_swapped (list_any (is_on n) done) (is_on n op) ∙ sym (list_any-append (is_on n) done (op ∷ []));
    changed = λ n. noted.changed n ∙ ap (λ (b : Bool). is_change_of n op || b) (told.changes.changed n) ∙ or_swapped (list_any (is_change_of n) done) (is_change_of n op) ∙ sym (list_any-append (is_change_of n) done (op ∷ []));
    states = λ before after h within n r low is.
        let p = apart done (op ∷ []) before after h in
        let parts = front_ranges done op within in
        let middle : contents_after_all done before ≡ p.0 = contents-after_all done before p.0 p.1 in
        noted.states n r low
        ∙ ap (λ (s : RecordState). marked_after n r op (length_so_far maps old n) s) (told.changes.states before p.0 p.1 parts.0 n r low (λ sets. is (any_first (sets_length n) done op sets)))
        ∙ state-by_length n r op p.0 (length_so_far maps old n) (record_state n r done before Unchanged) (λ sets. told.sizes before p.0 p.1 parts.0 n (is (any_last (sets_length n) done op sets)))
        ∙ ap (λ (c : Contents). state_after_op n r op c (record_state n r done before Unchanged)) (sym middle)
        ∙ sym (state-append n r done op before Unchanged);
  };
  sizes = λ before after h within n is.
      let p = apart done (op ∷ []) before after h in
      let parts = front_ranges done op within in
      noted.sizes parts.1 n ∙ ap (length_with n op) (told.sizes before p.0 p.1 parts.0 n is) ∙ length-after n op p.0 after (one_only op p.0 after p.2);
}

pub front_more : {A : Type 0} (xs : List A) (i : ℕ) (x : A) → i < length xs → x ≡ slice_index_or xs i x → take (i + 1) xs ≡ take i xs ++ x ∷ []
front_more xs i x low is = take_more xs i x low ∙ ap (λ a. take i xs ++ a ∷ []) (sym is)
