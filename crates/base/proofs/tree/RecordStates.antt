-- What the state of a record says after the operations of a group: an unchanged record has the bytes from before, a
-- dirty one is there, and a hole has zeros.
use Rattle.std.proofs.Common.{◌≡◌, ℕ, zero, ◌≢◌, ◌+◌, ◌-◌, ◌*◌, ◌<◌, ◌≤◌, Bool, true, false, ◌&&◌, ◌||◌, List, [], ◌∷◌, ◌++◌, length, get_or, drop, replicate, Option, Some, None, Result, Ok, Err, refl, ap, sym, ◌∙◌, subst, arith, ◌⊎◌, inl, inr, length-append, length-take}
use Rattle.std.specs.Prelude.{◌==◌, nat_lt, nat_le, option_map, unwrap_or, if◌then◌else◌}
use Rattle.std.specs.List.{list_any}
use Rattle.std.specs.Option.{option_map_or}
use Rattle.std.proofs.lemmas.Bool.{and_from, and_parts, or_parts, cases_Bool, cases_eq, cases_lt, eqb-true, leb-true, leb-false, lt-ltb, ltb-true, ltb-false, eq-eqb, false≢true, true≢false}
use Rattle.std.proofs.lemmas.List.{ext_get_or, length-replicate, get_or_append_left, get_or-append_right, get_or-take, get_or-drop, get_or_past}
use Rattle.std.specs.Ordering.{nat_cmp}
use Rattle.std.specs.FinMap as map
use Rattle.std.specs.FinMap.{FinMap}
use Rattle.base.specs.declared.error.PoolError.{PoolError}
use Rattle.base.specs.declared.operation.Op.{Op}
use Rattle.base.specs.declared.record_state.RecordState.{RecordState}
use Rattle.base.specs.declared.record_state.RecordState.TheVariants.{Unchanged, Dirty, Hole}
use Rattle.base.specs.declared.operation.Op.TheVariants.{Create, Remove, Write, SetLength, SetName}
use Rattle.base.specs.declared.pointer.Pointer.{Pointer}
use Rattle.base.specs.formats.Limits.{indirect_count, record_size, pointer_count}
use Rattle.base.specs.formats.Blocks.{Frame}
use Rattle.base.specs.history.Sequences.{in_turn}
use Rattle.base.specs.history.Contents.{Contents, at_object, with_object, stored, apply, created, removed, changed, resize, bytes_after_write}
use Rattle.base.specs.history.History.{apply_all}
use Rattle.base.specs.tree.Places.{Place, object_of_indirect, record_number}
use Rattle.base.specs.tree.Places.Place.{Data}
use Rattle.base.specs.tree.Tree.{record_bytes}
use Rattle.base.specs.kept.PlacedTrees.{padded_record, HoldsTree}
use Rattle.base.specs.kept.PlannedTrees.{SameRecord, IsZeroRecord}
use Rattle.base.specs.tree.Syncs.{is_record_touched, state_after_cut, state_after_op, contents_after, contents_after_all, record_state, is_on, is_change_of}
use Rattle.base.proofs.common.KeptLists.{get_or-zeros}
use Rattle.base.proofs.common.Sequences.{parted}
use Rattle.base.proofs.history.Objects.{reached, get-stored_same, get-stored_other}
use Rattle.base.proofs.history.Writes.{length-bytes_after_write, length-resize, get_or-resize, overwritten_apart}
use Rattle.base.proofs.history.Projections.{gives_removed}
use Rattle.base.proofs.tree.PlacedTrees.{absent-data, record_at}

-- padding to a size
length-padded : (size : ℕ) (xs : List ℕ) → length xs ≤ size → length (xs ++ replicate (size - length xs) 0) ≡ size
length-padded size xs fits = omega (arith, fits, length-append xs (replicate (size - length xs) 0), length-replicate {A = ℕ} (size - length xs) 0)

get_or-padded : (size : ℕ) (xs : List ℕ) (k : ℕ) → get_or (xs ++ replicate (size - length xs) 0) k 0 ≡ get_or xs k 0
get_or-padded size xs k = elim (cases_lt k (length xs)) as (λ _. get_or (xs ++ replicate (size - length xs) 0) k 0 ≡ get_or xs k 0) [
  | inl before ↦ get_or_append_left xs (replicate (size - length xs) 0) 0 k before
  | inr behind ↦ get_or-append_right xs (replicate (size - length xs) 0) (length xs) k 0 refl behind
      ∙ get_or-zeros (size - length xs) (k - length xs) ∙ sym (get_or_past xs k 0 behind)
]

length-padded_record : (r : ℕ) (bytes : List ℕ) → length (padded_record r bytes) ≡ record_size
length-padded_record r bytes = length-padded record_size (record_bytes r bytes) (omega (arith, length-take record_size (drop (record_size * r) bytes)))

-- the bytes of a padded record
get_or-padded_record : (r : ℕ) (bytes : List ℕ) (k : ℕ) → k < record_size → get_or (padded_record r bytes) k 0 ≡ get_or bytes (record_size * r + k) 0
get_or-padded_record r bytes k below =
    get_or-padded record_size (record_bytes r bytes) k ∙ get_or-take record_size (drop (record_size * r) bytes) k 0 below ∙ get_or-drop (record_size * r) bytes k 0

-- records are equal where their bytes are
same-record : (r : ℕ) (xs ys : List ℕ) → ((k : ℕ) → record_size * r ≤ k → k < record_size * (r + 1) → get_or xs k 0 ≡ get_or ys k 0) → padded_record r xs ≡ padded_record r ys
same-record r xs ys each = ext_get_or 0 (padded_record r xs) (padded_record r ys) (length-padded_record r xs ∙ sym (length-padded_record r ys)) at
  where
    at : (k : ℕ) → k < length (padded_record r xs) → get_or (padded_record r xs) k 0 ≡ get_or (padded_record r ys) k 0
    at k inside =
        let below : k < record_size = subst (λ (n : ℕ). k < n) (length-padded_record r xs) inside in
        get_or-padded_record r xs k below ∙ each (record_size * r + k) (omega arith) (omega arith) ∙ sym (get_or-padded_record r ys k below)

-- a write that does not touch a record lies before it or after it
write-apart : (r offset count : ℕ) → is_record_touched r offset count ≡ false → (record_size * (r + 1) ≤ offset) ⊎ (offset + count ≤ record_size * r)
write-apart r offset count untouched = elim (cases_lt offset (record_size * (r + 1))) [
  | inr behind ↦ inl behind
  | inl low ↦ elim (cases_lt (record_size * r) (offset + count)) [
    | inr before ↦ inr before
    | inl high ↦ absurd (true≢false (sym (and_from (nat_lt offset (record_size * (r + 1))) (nat_lt (record_size * r) (offset + count))
        (lt-ltb offset (record_size * (r + 1)) low) (lt-ltb (record_size * r) (offset + count) high)) ∙ untouched))
  ]
]

-- the bytes of an object, where no object has none
abbrev bytes_or_none : Option (List ℕ) → List ℕ
bytes_or_none o = unwrap_or o []

-- record r of an object, whose bytes were the first and are the second, is in this state
abbrev IsInState : RecordState → ℕ → List ℕ → List ℕ → Type 0
IsInState Unchanged r before now =
    ((k : ℕ) → record_size * r ≤ k → k < record_size * (r + 1) → get_or before k 0 ≡ get_or now k 0) × (record_size * r < length before → record_size * r < length now)
IsInState Dirty r before now = record_size * r < length now
IsInState Hole r before now = (k : ℕ) → record_size * r ≤ k → k < record_size * (r + 1) → get_or now k 0 ≡ zero

-- what holds of both sides of a choice
either : (P : RecordState → Type 0) (b : Bool) (s t : RecordState) → (b ≡ true → P s) → (b ≡ false → P t) → P (if b then s else t)
either P true s t first second = first refl
either P false s t first second = second refl

-- a change that leaves the bytes of a record, and its beginning within the object, leaves its state
state-kept : (s : RecordState) (r : ℕ) (x y z : List ℕ) → ((k : ℕ) → record_size * r ≤ k → k < record_size * (r + 1) → get_or y k 0 ≡ get_or z k 0)
    → (record_size * r < length y → record_size * r < length z) → IsInState s r x y → IsInState s r x z
state-kept Unchanged r x y z same within is = (λ k from to. is.0 k from to ∙ same k from to, λ low. within (is.1 low))
state-kept Dirty r x y z same within is = within is
state-kept Hole r x y z same within is = λ k from to. sym (same k from to) ∙ is k from to

-- a write: a record that it touches is dirty
state-written : (s : RecordState) (r offset : ℕ) (new x y : List ℕ) → IsInState s r x y
    → IsInState (if is_record_touched r offset (length new) then Dirty else s) r x (bytes_after_write offset new y)
state-written s r offset new x y is = either (λ t. IsInState t r x (bytes_after_write offset new y)) (is_record_touched r offset (length new)) Dirty s
    (λ touched.
    let sides = and_parts (nat_lt offset (record_size * (r + 1))) (nat_lt (record_size * r) (offset + length new)) touched in
    let reaches = ltb-true (record_size * r) (offset + length new) sides.1 in
    omega (arith, reaches, length-bytes_after_write offset new y))
    (λ apart. state-kept s r x y (bytes_after_write offset new y) (λ k from to. sym (overwritten_apart offset new y k (side k from to (write-apart r offset (length new) apart))))
    (λ low. omega (arith, low, length-bytes_after_write offset new y)) is)
  where
    side : (k : ℕ) → record_size * r ≤ k → k < record_size * (r + 1) → (record_size * (r + 1) ≤ offset) ⊎ (offset + length new ≤ record_size * r) → (k < offset) ⊎ (offset + length new ≤ k)
    side k from to (inl behind) = inl (omega (arith, to, behind))
    side k from to (inr before) = inr (omega (arith, from, before))

-- a byte past a length
past-resize : (n : ℕ) (y : List ℕ) (k : ℕ) → n ≤ k → get_or (resize n y) k 0 ≡ zero
past-resize n y k past = get_or_past (resize n y) k 0 (subst (λ (l : ℕ). l ≤ k) (sym (length-resize n y)) past)

-- where an object gets no shorter, no byte changes
longer-resize : (n : ℕ) (y : List ℕ) → length y ≤ n → (k : ℕ) → get_or y k 0 ≡ get_or (resize n y) k 0
longer-resize n y longer k = elim (cases_lt k n) as (λ _. get_or y k 0 ≡ get_or (resize n y) k 0) [
  | inl below ↦ sym (get_or-resize n y k below)
  | inr past ↦ get_or_past y k 0 (omega (arith, longer, past)) ∙ sym (past-resize n y k past)
]

-- a cut: a record that is wholly past it is a hole, and one that it goes through is dirty
state-cut : (s : RecordState) (r new : ℕ) (x y : List ℕ) → IsInState s r x y → IsInState (state_after_cut r new s) r x (resize new y)
state-cut s r new x y is = either (λ t. IsInState t r x (resize new y)) (nat_le new (record_size * r)) Hole (if nat_lt new (record_size * (r + 1)) then Dirty else s)
    (λ past k from to. past-resize new y k (let low = leb-true new (record_size * r) past in omega (arith, low, from)))
    (λ within.
    let low = leb-false new (record_size * r) within in
    let begins : record_size * r < length (resize new y) = omega (arith, low, length-resize new y) in
    either (λ t. IsInState t r x (resize new y)) (nat_lt new (record_size * (r + 1))) Dirty s
    (λ through. begins)
    (λ behind.
    let high = ltb-false new (record_size * (r + 1)) behind in
    state-kept s r x y (resize new y) (λ k from to. sym (get_or-resize new y k (omega (arith, high, to)))) (λ before. begins) is))

-- a new length: a cut only if it shortens
state-resized : (s : RecordState) (r new : ℕ) (x : List ℕ) (o p : Option (List ℕ)) → changed (resize new) o ≡ Ok p → IsInState s r x (bytes_or_none o)
    → IsInState (if option_map_or (λ old. nat_lt new old) (option_map length o) false then state_after_cut r new s else s) r x (bytes_or_none p)
state-resized s r new x None p h is = cc
state-resized s r new x (Some y) p h is =
    let after : Some (resize new y) ≡ p = cc in
    subst (λ (q : Option (List ℕ)). IsInState (if nat_lt new (length y) then state_after_cut r new s else s) r x (bytes_or_none q)) after
    (either (λ t. IsInState t r x (resize new y)) (nat_lt new (length y)) (state_after_cut r new s) s
    (λ shorter. state-cut s r new x y is)
    (λ not_shorter.
    let longer = ltb-false new (length y) not_shorter in
    state-kept s r x y (resize new y) (λ k from to. longer-resize new y longer k) (λ low. omega (arith, low, longer, length-resize new y)) is))

pub bytes-created : (o p : Option (List ℕ)) → created o ≡ Ok p → bytes_or_none p ≡ []
bytes-created None p h = let is : Some [] ≡ p = cc in ap bytes_or_none (sym is)
bytes-created (Some x) p h = cc

pub bytes-changed : (f : List ℕ → List ℕ) (o p : Option (List ℕ)) → changed f o ≡ Ok p → (y : List ℕ) × (o ≡ Some y) × (p ≡ Some (f y))
bytes-changed f None p h = cc
bytes-changed f (Some y) p h = let is : Some (f y) ≡ p = cc in (y, refl, sym is)

-- an object with no bytes has zeros
hole-of_none : (r : ℕ) (x y : List ℕ) → y ≡ [] → IsInState Hole r x y
hole-of_none r x y none k from to = ap (λ (l : List ℕ). get_or l k 0) none

-- a record that begins within an object, which is there
abbrev pub HasRecord : ℕ → Option (List ℕ) → Type 0
HasRecord r o = (bytes : List ℕ) × (o ≡ Some bytes) × (record_size * r < length bytes)

has-record : (r : ℕ) (o : Option (List ℕ)) → record_size * r < length (bytes_or_none o) → HasRecord r o
has-record r None within = absurd (omega (arith, within))
has-record r (Some y) within = (y, refl, within)

-- a record whose bytes are zeros
zero-record : (r : ℕ) (o : Option (List ℕ)) → ((k : ℕ) → record_size * r ≤ k → k < record_size * (r + 1) → get_or (bytes_or_none o) k 0 ≡ zero) → IsZeroRecord r o
zero-record r None zeros = tt
zero-record r (Some y) zeros = ext_get_or 0 (record_bytes r y) (replicate (length (record_bytes r y)) 0) (sym (length-replicate (length (record_bytes r y)) 0)) at
  where
    at : (k : ℕ) → k < length (record_bytes r y) → get_or (record_bytes r y) k 0 ≡ get_or (replicate (length (record_bytes r y)) 0) k 0
    at k inside =
        let below : k < record_size = omega (arith, inside, length-take record_size (drop (record_size * r) y)) in
        get_or-take record_size (drop (record_size * r) y) k 0 below ∙ get_or-drop (record_size * r) y k 0 ∙ zeros (record_size * r + k) (omega arith) (omega (arith, below))
        ∙ sym (get_or-zeros (length (record_bytes r y)) k)

or-off : (a b : Bool) → b ≡ false → (a || b) ≡ a
or-off true b none = refl
or-off false b none = none

-- what a step on one object leaves of any object
at_object-leaves : (R : Option (List ℕ) → Option (List ℕ) → Type 0) (m n : ℕ) (f : Option (List ℕ) → Result (Option (List ℕ)) PoolError) (c d : Contents) → at_object m f c ≡ Ok d
    → ((o : Option (List ℕ)) → R o o) → (m ≡ n → (o p : Option (List ℕ)) → f o ≡ Ok p → R o p) → R (map.get c.objects n) (map.get d.objects n)
at_object-leaves R m n f c d h same each = go (cases_eq m n) (reached m f c d h)
  where
    go : (m ≡ n) ⊎ (m ≢ n) → (o : Option (List ℕ)) × (f (map.get c.objects m) ≡ Ok o) × (with_object c m o ≡ d) → R (map.get c.objects n) (map.get d.objects n)
    go (inl e) (o, first, is) =
        let after : map.get d.objects n ≡ o = ap (λ (x : Contents). map.get x.objects n) (sym is) ∙ ap (λ (i : ℕ). map.get (stored c.objects m o) i) (sym e) ∙ get-stored_same c.objects m o in
        subst (λ (p : Option (List ℕ)). R (map.get c.objects n) p) (sym after) (subst (λ (i : ℕ). R (map.get c.objects i) o) e (each e (map.get c.objects m) o first))
    go (inr ne) (o, first, is) =
        let after : map.get d.objects n ≡ map.get c.objects n = ap (λ (x : Contents). map.get x.objects n) (sym is) ∙ get-stored_other c.objects m o n (λ e. ne (sym e)) in
        subst (λ (p : Option (List ℕ)). R (map.get c.objects n) p) (sym after) (same (map.get c.objects n))

module _ (n : ℕ) where
  -- what an operation on an object does there, and that it leaves the others
  pub at-object : (m : ℕ) (f : Option (List ℕ) → Result (Option (List ℕ)) PoolError) (c d : Contents) → (m == n) ≡ true → at_object m f c ≡ Ok d → f (map.get c.objects n) ≡ Ok (map.get d.objects n)
  at-object m f c d same h = go (reached m f c d h)
    where
      go : (o : Option (List ℕ)) × (f (map.get c.objects m) ≡ Ok o) × (with_object c m o ≡ d) → f (map.get c.objects n) ≡ Ok (map.get d.objects n)
      go (o, first, is) =
          let here : m ≡ n = eqb-true m n same in
          let after : map.get d.objects n ≡ o = ap (λ (x : Contents). map.get x.objects n) (sym is) ∙ ap (λ (i : ℕ). map.get (stored c.objects m o) i) (sym here) ∙ get-stored_same c.objects m o in
          ap (λ (i : ℕ). f (map.get c.objects i)) (sym here) ∙ first ∙ ap (λ (q : Option (List ℕ)). Ok q) (sym after)

  pub elsewhere : (m : ℕ) (f : Option (List ℕ) → Result (Option (List ℕ)) PoolError) (c d : Contents) → (m == n) ≡ false → at_object m f c ≡ Ok d → map.get c.objects n ≡ map.get d.objects n
  elsewhere m f c d other h = at_object-leaves (λ o p. o ≡ p) m n f c d h (λ o. refl) (λ e. absurd (true≢false (sym (eq-eqb m n e) ∙ other)))

  -- an operation that is not on an object leaves it
  one-elsewhere : (op : Op) (c d : Contents) → is_on n op ≡ false → apply op c ≡ Ok d → map.get c.objects n ≡ map.get d.objects n
  one-elsewhere (Create m) c d other h = elsewhere m.0 created c d other h
  one-elsewhere (Remove m) c d other h = elsewhere m.0 removed c d other h
  one-elsewhere (Write m offset bytes) c d other h = elsewhere m.0 (changed (bytes_after_write offset bytes)) c d other h
  one-elsewhere (SetLength m new) c d other h = elsewhere m.0 (changed (resize new)) c d other h
  one-elsewhere (SetName bytes) c d other h = let e : record { name = bytes; objects = c.objects } ≡ d = cc in ap (λ (x : Contents). map.get x.objects n) e

  -- an object that no operation is on stays
  pub object-off : (ops : List Op) (before after : Contents) → list_any (is_on n) ops ≡ false → apply_all ops before ≡ Ok after → map.get before.objects n ≡ map.get after.objects n
  object-off [] before after none h = let e : before ≡ after = cc in ap (λ (c : Contents). map.get c.objects n) e
  object-off (op ∷ ops) before after none h =
      let p = parted (apply op before) (in_turn apply ops) after h in
      let both = or_parts (is_on n op) (list_any (is_on n) ops) none in
      one-elsewhere op before p.0 both.0 p.1 ∙ object-off ops p.0 after both.1 p.2

-- an operation that takes place leads to these contents, and so do all in turn
contents-step : (op : Op) (c d : Contents) → apply op c ≡ Ok d → contents_after op c ≡ d
contents-step op c d h = ap (λ (r : Result Contents PoolError). elim r as (λ _. Contents) [ Ok after ↦ after | Err e ↦ c ]) h

pub contents-after_all : (ops : List Op) (before after : Contents) → apply_all ops before ≡ Ok after → contents_after_all ops before ≡ after
contents-after_all [] before after h = cc
contents-after_all (op ∷ ops) before after h =
    let p = parted (apply op before) (in_turn apply ops) after h in
    ap (λ (c : Contents). contents_after_all ops c) (contents-step op before p.0 p.1) ∙ contents-after_all ops p.0 after p.2

module _ (n r : ℕ) where
  abbrev now_bytes : Contents → List ℕ
  now_bytes c = bytes_or_none (map.get c.objects n)

  -- one operation
  one-state : (op : Op) (c d : Contents) (s : RecordState) (x : List ℕ) → apply op c ≡ Ok d → IsInState s r x (now_bytes c) → IsInState (state_after_op n r op c s) r x (now_bytes d)
  one-state (Create m) c d s x h is = either (λ t. IsInState t r x (now_bytes d)) (m.0 == n) Hole s
      (λ same. hole-of_none r x (now_bytes d) (bytes-created (map.get c.objects n) (map.get d.objects n) (at-object n m.0 created c d same h)))
      (λ other. subst (λ (o : Option (List ℕ)). IsInState s r x (bytes_or_none o)) (elsewhere n m.0 created c d other h) is)
  one-state (Remove m) c d s x h is = either (λ t. IsInState t r x (now_bytes d)) (m.0 == n) Hole s
      (λ same. hole-of_none r x (now_bytes d) (ap bytes_or_none (gives_removed (map.get c.objects n) (map.get d.objects n) (at-object n m.0 removed c d same h))))
      (λ other. subst (λ (o : Option (List ℕ)). IsInState s r x (bytes_or_none o)) (elsewhere n m.0 removed c d other h) is)
  one-state (Write m offset bytes) c d s x h is = by (m.0 == n) refl
    where
      by : (b : Bool) → (m.0 == n) ≡ b → IsInState (if b && is_record_touched r offset (length bytes) then Dirty else s) r x (now_bytes d)
      by true same =
          let to = bytes-changed (bytes_after_write offset bytes) (map.get c.objects n) (map.get d.objects n) (at-object n m.0 (changed (bytes_after_write offset bytes)) c d same h) in
          subst (λ (o : Option (List ℕ)). IsInState (if is_record_touched r offset (length bytes) then Dirty else s) r x (bytes_or_none o)) (sym to.2)
          (state-written s r offset bytes x to.0 (subst (λ (o : Option (List ℕ)). IsInState s r x (bytes_or_none o)) to.1 is))
      by false other = subst (λ (o : Option (List ℕ)). IsInState s r x (bytes_or_none o)) (elsewhere n m.0 (changed (bytes_after_write offset bytes)) c d other h) is
  one-state (SetLength m new) c d s x h is = by (m.0 == n) refl
    where
      by : (b : Bool) → (m.0 == n) ≡ b
          → IsInState (if b && option_map_or (λ old. nat_lt new old) (option_map length (map.get c.objects n)) false then state_after_cut r new s else s) r x (now_bytes d)
      by true same = state-resized s r new x (map.get c.objects n) (map.get d.objects n) (at-object n m.0 (changed (resize new)) c d same h) is
      by false other = subst (λ (o : Option (List ℕ)). IsInState s r x (bytes_or_none o)) (elsewhere n m.0 (changed (resize new)) c d other h) is
  one-state (SetName bytes) c d s x h is = subst (λ (o : Option (List ℕ)). IsInState s r x (bytes_or_none o)) (one-elsewhere n (SetName bytes) c d refl h) is

  -- the state after the operations that are left, from contents that the first of them led to
  state-step : (op : Op) (ops : List Op) (c d : Contents) (s : RecordState) → apply op c ≡ Ok d → record_state n r (op ∷ ops) c s ≡ record_state n r ops d (state_after_op n r op c s)
  state-step op ops c d s h = ap (λ (e : Contents). record_state n r ops e (state_after_op n r op c s)) (contents-step op c d h)

  -- all operations of a group
  all-states : (ops : List Op) (before after : Contents) (s : RecordState) (x : List ℕ) → apply_all ops before ≡ Ok after → IsInState s r x (now_bytes before)
      → IsInState (record_state n r ops before s) r x (now_bytes after)
  all-states [] before after s x h is = let e : before ≡ after = cc in subst (λ (c : Contents). IsInState s r x (now_bytes c)) e is
  all-states (op ∷ ops) before after s x h is =
      let p = parted (apply op before) (in_turn apply ops) after h in
      subst (λ (t : RecordState). IsInState t r x (now_bytes after)) (sym (state-step op ops before p.0 s p.1))
      (all-states ops p.0 after (state_after_op n r op before s) x p.2 (one-state op before p.0 s x p.1 is))

  -- a record is in the state that the definitions give it
  in-state : (ops : List Op) (before after : Contents) → apply_all ops before ≡ Ok after → IsInState (record_state n r ops before Unchanged) r (now_bytes before) (now_bytes after)
  in-state ops before after h = all-states ops before after Unchanged (now_bytes before) h (λ k from to. refl, λ low. low)

  -- an unchanged record has the same bytes, and if it began within its object it still does
  pub unchanged-record : (ops : List Op) (before after : Contents) → apply_all ops before ≡ Ok after → record_state n r ops before Unchanged ≡ Unchanged
      → (padded_record r (now_bytes before) ≡ padded_record r (now_bytes after)) × (record_size * r < length (now_bytes before) → record_size * r < length (now_bytes after))
  unchanged-record ops before after h state =
      let is = subst (λ (s : RecordState). IsInState s r (now_bytes before) (now_bytes after)) state (in-state ops before after h) in
      (same-record r (now_bytes before) (now_bytes after) is.0, is.1)

  -- a dirty record belongs to an object that is there, and begins within it
  pub dirty-record : (ops : List Op) (before after : Contents) → apply_all ops before ≡ Ok after → record_state n r ops before Unchanged ≡ Dirty → HasRecord r (map.get after.objects n)
  dirty-record ops before after h state =
      has-record r (map.get after.objects n) (subst (λ (s : RecordState). IsInState s r (now_bytes before) (now_bytes after)) state (in-state ops before after h))

  -- a hole has only zeros
  pub hole-record : (ops : List Op) (before after : Contents) → apply_all ops before ≡ Ok after → record_state n r ops before Unchanged ≡ Hole → IsZeroRecord r (map.get after.objects n)
  hole-record ops before after h state =
      zero-record r (map.get after.objects n) (subst (λ (s : RecordState). IsInState s r (now_bytes before) (now_bytes after)) state (in-state ops before after h))

  -- an operation that is not on the object leaves the states of its records
  off-step : (op : Op) (c : Contents) (s : RecordState) → is_on n op ≡ false → state_after_op n r op c s ≡ s
  off-step (Create m) c s off = ap (λ (b : Bool). if b then Hole else s) off
  off-step (Remove m) c s off = ap (λ (b : Bool). if b then Hole else s) off
  off-step (Write m offset bytes) c s off = ap (λ (b : Bool). if b && is_record_touched r offset (length bytes) then Dirty else s) off
  off-step (SetLength m new) c s off = ap (λ (b : Bool). if b && option_map_or (λ old. nat_lt new old) (option_map length (map.get c.objects n)) false then state_after_cut r new s else s) off
  off-step (SetName bytes) c s off = refl

  pub state-off : (ops : List Op) (c : Contents) (s : RecordState) → list_any (is_on n) ops ≡ false → record_state n r ops c s ≡ s
  state-off [] c s off = refl
  state-off (op ∷ ops) c s off =
      let both = or_parts (is_on n op) (list_any (is_on n) ops) off in
      state-off ops (contents_after op c) (state_after_op n r op c s) both.1 ∙ off-step op c s both.0

  -- one that is on it, and is no write and no new length, makes all of them holes
  made-step : (op : Op) (c : Contents) (s : RecordState) → is_change_of n op ≡ false → is_on n op ≡ true → state_after_op n r op c s ≡ Hole
  made-step (Create m) c s change on = ap (λ (b : Bool). if b then Hole else s) on
  made-step (Remove m) c s change on = ap (λ (b : Bool). if b then Hole else s) on
  made-step (Write m offset bytes) c s change on = absurd (true≢false (sym on ∙ change))
  made-step (SetLength m new) c s change on = absurd (true≢false (sym on ∙ change))
  made-step (SetName bytes) c s change on = absurd (false≢true on)

  hole-step : (op : Op) (c : Contents) → is_change_of n op ≡ false → state_after_op n r op c Hole ≡ Hole
  hole-step op c change = elim (cases_Bool (is_on n op)) as (λ _. state_after_op n r op c Hole ≡ Hole) [ inl on ↦ made-step op c Hole change on | inr off ↦ off-step op c Hole off ]

  holes-stay : (ops : List Op) (c : Contents) → list_any (is_change_of n) ops ≡ false → record_state n r ops c Hole ≡ Hole
  holes-stay [] c none = refl
  holes-stay (op ∷ ops) c none =
      let both = or_parts (is_change_of n op) (list_any (is_change_of n) ops) none in
      ap (λ (s : RecordState). record_state n r ops (contents_after op c) s) (hole-step op c both.0) ∙ holes-stay ops (contents_after op c) both.1

  -- where operations create or remove an object and none writes it or sets its length, its records are holes
  pub state-made : (ops : List Op) (c : Contents) (s : RecordState) → list_any (is_change_of n) ops ≡ false → list_any (is_on n) ops ≡ true → record_state n r ops c s ≡ Hole
  state-made [] c s none any = absurd (false≢true any)
  state-made (op ∷ ops) c s none any =
      let both = or_parts (is_change_of n op) (list_any (is_change_of n) ops) none in
      elim (cases_Bool (is_on n op)) as (λ _. record_state n r (op ∷ ops) c s ≡ Hole) [
        | inl on ↦ ap (λ (t : RecordState). record_state n r ops (contents_after op c) t) (made-step op c s both.0 on) ∙ holes-stay ops (contents_after op c) both.1
        | inr off ↦ state-made ops (contents_after op c) (state_after_op n r op c s) both.1 (sym (ap (λ (b : Bool). b || list_any (is_on n) ops) off) ∙ any)
      ]

  -- an operation after which an object is absent has removed it
  gone-step : (op : Op) (c d : Contents) (s : RecordState) → apply op c ≡ Ok d → is_on n op ≡ true → map.get d.objects n ≡ None → state_after_op n r op c s ≡ Hole
  gone-step (Create m) c d s h on gone = ap (λ (b : Bool). if b then Hole else s) on
  gone-step (Remove m) c d s h on gone = ap (λ (b : Bool). if b then Hole else s) on
  gone-step (Write m offset bytes) c d s h on gone =
      let to = bytes-changed (bytes_after_write offset bytes) (map.get c.objects n) (map.get d.objects n) (at-object n m.0 (changed (bytes_after_write offset bytes)) c d on h) in
      let no_way : None ≡ Some (bytes_after_write offset bytes to.0) = sym gone ∙ to.2 in cc
  gone-step (SetLength m new) c d s h on gone =
      let to = bytes-changed (resize new) (map.get c.objects n) (map.get d.objects n) (at-object n m.0 (changed (resize new)) c d on h) in
      let no_way : None ≡ Some (resize new to.0) = sym gone ∙ to.2 in cc
  gone-step (SetName bytes) c d s h on gone = absurd (false≢true on)

  -- where an object that operations are on is absent after them, its records are holes
  pub state-gone : (ops : List Op) (before after : Contents) (s : RecordState) → apply_all ops before ≡ Ok after → list_any (is_on n) ops ≡ true → map.get after.objects n ≡ None
      → record_state n r ops before s ≡ Hole
  state-gone [] before after s h any gone = absurd (false≢true any)
  state-gone (op ∷ ops) before after s h any gone =
      let p = parted (apply op before) (in_turn apply ops) after h in
      state-step op ops before p.0 s p.1
      ∙ (elim (cases_Bool (list_any (is_on n) ops)) as (λ _. record_state n r ops p.0 (state_after_op n r op before s) ≡ Hole) [
        | inl later ↦ state-gone ops p.0 after (state_after_op n r op before s) p.2 later gone
        | inr none ↦
            let on : is_on n op ≡ true = sym (or-off (is_on n op) (list_any (is_on n) ops) none) ∙ any in
            state-off ops p.0 (state_after_op n r op before s) none
            ∙ gone-step op before p.0 s p.1 on (object-off n ops p.0 after none p.2 ∙ gone)
      ])

-- an unchanged record of a tree's object: where it has a block, it began within its object
module _ (image : List ℕ) (frame : Frame) (pointers : Place → Pointer) (objects : FinMap nat_cmp (List ℕ)) (holds : HoldsTree image frame pointers objects) where
  pub tree-record : (m k : ℕ) (b a : Option (List ℕ)) → m < indirect_count → k < pointer_count → map.get objects (object_of_indirect m) ≡ b
      → padded_record (record_number m k) (unwrap_or b []) ≡ padded_record (record_number m k) (unwrap_or a [])
      → (record_size * record_number m k < length (unwrap_or b []) → record_size * record_number m k < length (unwrap_or a []))
      → SameRecord (pointers (Data m k)) (record_number m k) b a
  tree-record m k b None low k_low is padded within = tt
  tree-record m k None (Some y) low k_low is padded within = (padded, inl (absent-data image frame pointers objects holds m k low k_low is))
  tree-record m k (Some x) (Some y) low k_low is padded within =
      elim (record_at image frame pointers objects holds m k x low k_low is) as (λ _. SameRecord (pointers (Data m k)) (record_number m k) (Some x) (Some y)) [
        | inl h ↦ (padded, inl h.0)
        | inr h ↦ (padded, inr (within h.0))
      ]
