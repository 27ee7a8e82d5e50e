-- The steps of a copy of a pool that mounts leave each of its objects, with its bytes.
use Rattle.std.proofs.Common.{◌≡◌, ◌<◌, ◌≤◌, ◌+◌, ◌-◌, ◌++◌, ◌∷◌, [], ℕ, suc, List, Ok, None, Some, Option, ap, arith, drop, get_or, get_or-drop, get_or-take, inl, inr, length, length-drop, length-take, refl, replicate, subst, sym, take, true, ◌∙◌, ◌⊎◌}
use Rattle.std.specs.Prelude.{option_map, unwrap_or}
use Rattle.std.specs.FinMap as map
use Rattle.std.specs.Ordering.{nat_cmp}
use Rattle.std.specs.List.{flat_map}
use Rattle.std.proofs.lemmas.Bool.{cases_lt}
use Rattle.std.proofs.lemmas.List.{get_or_past}
use Rattle.std.proofs.lemmas.Grind.{same_number_lists}
use Rattle.base.specs.declared.names.ObjectId.{ObjectId}
use Rattle.base.specs.declared.operation.Op.{Op}
use Rattle.base.specs.declared.operation.Op.TheVariants.{Create, SetLength, Write}
use Rattle.base.specs.disk.Disk.{Disk, bytes_of}
use Rattle.base.specs.formats.Limits.{object_count}
use Rattle.base.specs.history.Contents.{Contents, apply, bytes_after_write, changed, created, length_of, resize}
use Rattle.base.specs.history.History.{apply_all}
use Rattle.base.specs.history.Sequences.{in_turn}
use Rattle.base.specs.tree.Mount.{MountsTo}
use Rattle.base.proofs.common.KeptLists.{get_or-zeros}
use Rattle.base.proofs.common.Sequences.{joined, parted}
use Rattle.base.proofs.history.Writes.{get_or-resize, length-bytes_after_write, length-resize, overwritten_above, overwritten_below, overwritten_in}
use Rattle.running_pools.proofs.OneObject.{LeavesOthers, changed_there, made, none_left, object, one, others_on, others_same}
use Rattle.object_views.specs.ObjectViews.{length_seen, object_of}
use Rattle.object_views.specs.declared.view.ObjectView.{ObjectView}
use Rattle.import_replay.specs.OwnCreations.{first_contents}
use Rattle.copies.specs.Copies.{AreAllSteps, AreChecked, Chain, IsObjectStep, IsRecordStep, ObjectStep, RecordStep, made_object, object_writes, record_writes, viewed_object}
use Rattle.copies.specs.Copies.ObjectStep.{Passed, Viewed}
use Rattle.copies.specs.Copies.RecordStep.{Hole, Lost, Written}
use Rattle.copies.specs.ReadRecords.{IsSeen}

-- bytes are those of an object below a place, and zeros from there on
pub record SoFar (whole : List ℕ) (low : ℕ) (x : List ℕ) : Type 0 where
  pub size : length x ≡ length whole
  pub front : (k : ℕ) → k < low → get_or x k 0 ≡ get_or whole k 0
  pub zeros : (k : ℕ) → low ≤ k → get_or x k 0 ≡ 0

-- the next bytes are written, or stay zeros
module _ (whole : List ℕ) (low high : ℕ) (b x : List ℕ) (some : low < high) (within : high ≤ length whole) (is : b ≡ take (high - low) (drop low whole)) (so : SoFar whole low x) where
  long : length b ≡ high - low
  long =
      let cut = length-take (high - low) (drop low whole) in
      let rest = length-drop low whole in
      let all = ap length is in
      omega (arith, cut, rest, all)

  in_part : (k : ℕ) → low ≤ k → k < high → get_or b (k - low) 0 ≡ get_or whole k 0
  in_part k above below =
      ap (λ (l : List ℕ). get_or l (k - low) 0) is ∙ get_or-take (high - low) (drop low whole) (k - low) 0 (omega (arith, above, below)) ∙ get_or-drop low whole (k - low) 0
      ∙ ap (λ (i : ℕ). get_or whole i 0) (let e : low + (k - low) ≡ k = omega (arith, above) in e)

  wrote : SoFar whole high (bytes_after_write low b x)
  wrote = record {
    size = let l = length-bytes_after_write low b x in let s = so.size in omega (arith, l, s, long, within, some);
    front = λ k below. at k below (cases_lt k low);
    zeros = λ k above. overwritten_above low b x k (omega (arith, above, long, some)) ∙ so.zeros k (omega (arith, above, some));
  }
    where
      at : (k : ℕ) → k < high → (k < low) ⊎ (low ≤ k) → get_or (bytes_after_write low b x) k 0 ≡ get_or whole k 0
      at k below (inl before) = overwritten_below low b x k before ∙ so.front k before
      at k below (inr above) = overwritten_in low b x k above (omega (arith, long, below, above, some)) ∙ in_part k above below

  holed : b ≡ replicate (length b) 0 → SoFar whole high x
  holed none = record {
    size = so.size;
    front = λ k below. at k below (cases_lt k low);
    zeros = λ k above. so.zeros k (omega (arith, above, some));
  }
    where
      at : (k : ℕ) → k < high → (k < low) ⊎ (low ≤ k) → get_or x k 0 ≡ get_or whole k 0
      at k below (inl before) = so.front k before
      at k below (inr above) = so.zeros k above ∙ sym (sym (in_part k above below) ∙ ap (λ (l : List ℕ). get_or l (k - low) 0) none ∙ get_or-zeros (length b) (k - low))

-- zeros of that length are none of it yet, and all of it is the object
pub none_yet : (whole : List ℕ) → SoFar whole 0 (resize (length whole) [])
none_yet whole = record {
  size = length-resize (length whole) [];
  front = λ k below. absurd (omega (arith, below));
  zeros = λ k above. at k (cases_lt k (length whole));
}
  where
    at : (k : ℕ) → (k < length whole) ⊎ (length whole ≤ k) → get_or (resize (length whole) []) k 0 ≡ 0
    at k (inl low) = get_or-resize (length whole) [] k low
    at k (inr past) = get_or_past (resize (length whole) []) k 0 (let long = length-resize (length whole) [] in omega (arith, long, past))

pub all_yet : (whole x : List ℕ) → SoFar whole (length whole) x → x ≡ whole
all_yet whole x so = same_number_lists x whole so.size (λ k below. so.front k (let s = so.size in omega (arith, below, s)))

-- transactions one after another
cut_in_two : (xs ys : List (List Op)) (c e : Contents) → in_turn apply_all (xs ++ ys) c ≡ Ok e → (d : Contents) × (in_turn apply_all xs c ≡ Ok d) × (in_turn apply_all ys d ≡ Ok e)
cut_in_two [] ys c e h = (c, refl, h)
cut_in_two (x ∷ xs) ys c e h =
    let p = parted (apply_all x c) (in_turn apply_all (xs ++ ys)) e h in
    let q = cut_in_two xs ys p.0 e p.2 in
    (q.0, joined (apply_all x c) (in_turn apply_all xs) p.0 q.0 p.1 q.1, q.2)

no_transaction : (c d : Contents) → in_turn apply_all [] c ≡ Ok d → c ≡ d
no_transaction c d h = cc

module _ (disk : Disk) (contents : Contents) (mounts : MountsTo (bytes_of disk.now) contents) where
  -- the bytes of an object that was viewed
  module _ (v : ObjectView) (seen : IsSeen (bytes_of disk.now) v) (whole : List ℕ) (there : object contents (object_of v) ≡ Some whole) where
    abbrev n : ObjectId
    n = viewed_object v

    rises : (from to : ℕ) (steps : List RecordStep) → Chain (IsRecordStep true disk v) from steps to → from ≤ to
    rises from to [] same = omega (arith, same)
    rises from to (Written low high b ∷ steps) (middle, step, rest) = let later = rises middle to steps rest in let up = step.2 in omega (arith, later, up)
    rises from to (Hole low high b ∷ steps) (middle, step, rest) = let later = rises middle to steps rest in let up = step.2 in omega (arith, later, up)
    rises from to (Lost low high d ∷ steps) (middle, step, rest) = let later = rises middle to steps rest in let up = step.2 in omega (arith, later, up)

    part_of : (low high : ℕ) (b : List ℕ) → AreChecked true disk v low high b → b ≡ take (high - low) (drop low whole)
    part_of low high b checked = (checked refl seen.view).1 contents mounts ∙ ap (λ (o : Option (List ℕ)). take (high - low) (drop low (unwrap_or o []))) there

    written_at : (low : ℕ) (b x : List ℕ) (c d : Contents) → apply_all (Write n low b ∷ []) c ≡ Ok d → object c n.0 ≡ Some x → (object d n.0 ≡ Some (bytes_after_write low b x)) × LeavesOthers n.0 c d
    written_at low b x c d h is =
        let p = parted (apply (Write n low b) c) (in_turn apply []) d h in
        let same = none_left p.0 d p.2 in
        let w = one n.0 (changed (bytes_after_write low b)) c p.0 p.1 in (
          ap (λ (y : Contents). object y n.0) (sym same) ∙ w.2 ∙ changed_there (bytes_after_write low b) (object c n.0) w.0 x is w.1,
          others_on n.0 c p.0 d w.3 (others_same n.0 p.0 d same),
        )

    abbrev Reaches : Contents → Contents → Type 0
    Reaches c d = (object d n.0 ≡ Some whole) × LeavesOthers n.0 c d

    records : (from : ℕ) (steps : List RecordStep) (x : List ℕ) (c d : Contents) → Chain (IsRecordStep true disk v) from steps (length whole) → in_turn apply_all (flat_map (record_writes n) steps) c ≡ Ok d
        → object c n.0 ≡ Some x → SoFar whole from x → Reaches c d
    records from [] x c d same h is so =
        let eq = no_transaction c d h in
        let all = all_yet whole x (subst (λ (k : ℕ). SoFar whole k x) (sym same) so) in
        (ap (λ (y : Contents). object y n.0) (sym eq) ∙ is ∙ ap (λ (l : List ℕ). Some l) all, others_same n.0 c d eq)
    records from (Written low high b ∷ steps) x c d (middle, (begins, ends, some, checked), rest) h is so =
        let p = parted (apply_all (Write n low b ∷ []) c) (in_turn apply_all (flat_map (record_writes n) steps)) d h in
        let within = rises middle (length whole) steps rest in
        let first = written_at low b x c p.0 p.1 is in
        let so_next = wrote whole from middle b x some within (part_of from middle b checked) so in
        let later = records middle steps (bytes_after_write low b x) p.0 d rest p.2 first.0 (subst (λ (k : ℕ). SoFar whole middle (bytes_after_write k b x)) (sym begins) so_next) in
        (later.0, others_on n.0 c p.0 d first.1 later.1)
    records from (Hole low high b ∷ steps) x c d (middle, (begins, ends, some, none, checked), rest) h is so =
        let within = rises middle (length whole) steps rest in
        records middle steps x c d rest h is (holed whole from middle b x some within (part_of from middle b checked) so none)
    records from (Lost low high damage ∷ steps) x c d (middle, (begins, ends, some, lost), rest) h is so = absurd ((lost refl seen.view).1 contents mounts)

    made_so : (size : ℕ) (c d : Contents) → apply_all (Create n ∷ SetLength n size ∷ []) c ≡ Ok d → (object d n.0 ≡ Some (resize size [])) × LeavesOthers n.0 c d
    made_so size c d h =
        let p = parted (apply (Create n) c) (in_turn apply (SetLength n size ∷ [])) d h in
        let w = one n.0 created c p.0 p.1 in
        let m = made (object c n.0) w.0 w.1 in
        let q = parted (apply (SetLength n size) p.0) (in_turn apply []) d p.2 in
        let same = none_left q.0 d q.2 in
        let l = one n.0 (changed (resize size)) p.0 q.0 q.1 in (
          ap (λ (y : Contents). object y n.0) (sym same) ∙ l.2 ∙ changed_there (resize size) (object p.0 n.0) l.0 [] (w.2 ∙ m.1) l.1,
          others_on n.0 c p.0 d w.3 (others_on n.0 p.0 q.0 d l.3 (others_same n.0 q.0 d same)),
        )

    viewed : (steps : List RecordStep) (c d : Contents) → Chain (IsRecordStep true disk v) 0 steps (length whole) → in_turn apply_all (made_object n (Some (length whole)) ++ flat_map (record_writes n) steps) c ≡ Ok d → Reaches c d
    viewed steps c d chain h =
        let p = parted (apply_all (Create n ∷ SetLength n (length whole) ∷ []) c) (in_turn apply_all (flat_map (record_writes n) steps)) d h in
        let first = made_so (length whole) c p.0 p.1 in
        let later = records 0 steps (resize (length whole) []) p.0 d chain p.2 first.0 (none_yet whole) in
        (later.0, others_on n.0 c p.0 d first.1 later.1)

  -- An object that was viewed is as it is in what is mounted.
  abbrev Matches : ℕ → Contents → Contents → Type 0
  Matches k c d = (object d k ≡ object contents k) × LeavesOthers k c d

  viewed_as : (v : ObjectView) (seen : IsSeen (bytes_of disk.now) v) (o : Option (List ℕ)) (size : Option ℕ) (steps : List RecordStep) (c d : Contents) → object contents (object_of v) ≡ o → length_seen v ≡ size
      → AreAllSteps true disk v size steps → in_turn apply_all (made_object (viewed_object v) size ++ flat_map (record_writes (viewed_object v)) steps) c ≡ Ok d → object c (object_of v) ≡ None → Matches (object_of v) c d
  viewed_as v seen None None steps c d there is all h none =
      let bare = subst (λ (l : List RecordStep). in_turn apply_all (flat_map (record_writes (viewed_object v)) l) c ≡ Ok d) all h in
      let eq = no_transaction c d bare in
      (ap (λ (y : Contents). object y (object_of v)) (sym eq) ∙ none ∙ sym there, others_same (object_of v) c d eq)
  viewed_as v seen (Some whole) None steps c d there is all h none = absurd (no_size (seen.length contents mounts))
    where
      no_size : length_seen v ≡ length_of contents (object_of v) → ⊥
      no_size e = let f = sym is ∙ e ∙ ap (λ (o : Option (List ℕ)). option_map length o) there in let no : None ≡ Some (length whole) = f in cc
  viewed_as v seen None (Some size) steps c d there is all h none = absurd (no_object (seen.length contents mounts))
    where
      no_object : length_seen v ≡ length_of contents (object_of v) → ⊥
      no_object e = let f = sym is ∙ e ∙ ap (λ (o : Option (List ℕ)). option_map length o) there in let no : Some size ≡ None = f in cc
  viewed_as v seen (Some whole) (Some size) steps c d there is all h none =
      let e = sym is ∙ seen.length contents mounts ∙ ap (λ (o : Option (List ℕ)). option_map length o) there in
      let long : size ≡ length whole = (let f : Some size ≡ Some (length whole) = e in cc) in
      let r = viewed v seen whole there steps c d (subst (λ (k : ℕ). Chain (IsRecordStep true disk v) 0 steps k) long all)
      (subst (λ (k : ℕ). in_turn apply_all (made_object (viewed_object v) (Some k) ++ flat_map (record_writes (viewed_object v)) steps) c ≡ Ok d) long h) in
      (r.0 ∙ sym there, r.1)

  -- those below a number are as they are in what is mounted, and no other is there
  pub record UpTo (k : ℕ) (c : Contents) : Type 0 where
    pub same : (n : ℕ) → n < k → object c n ≡ object contents n
    pub none : (n : ℕ) → k ≤ n → object c n ≡ None

  more : (k : ℕ) (c d : Contents) → UpTo k c → Matches k c d → UpTo (suc k) d
  more k c d u m = record {
    same = λ n below. at n (cases_lt n k) below;
    none = λ n above. m.1 n (λ e. omega (arith, e, above)) ∙ u.none n (let low : k ≤ n = omega (arith, above) in low);
  }
    where
      at : (n : ℕ) → (n < k) ⊎ (k ≤ n) → n < suc k → object d n ≡ object contents n
      at n (inl before) below = m.1 n (λ e. omega (arith, e, before)) ∙ u.same n before
      at n (inr above) below = let e : n ≡ k = omega (arith, above, below) in subst (λ (j : ℕ). object d j ≡ object contents j) (sym e) m.0

  all_objects : (from : ℕ) (steps : List ObjectStep) (c d : Contents) → Chain (IsObjectStep true disk) from steps object_count → in_turn apply_all (flat_map object_writes steps) c ≡ Ok d → UpTo from c → UpTo object_count d
  all_objects from [] c d same h u =
      let eq = no_transaction c d h in
      subst (λ (y : Contents). UpTo object_count y) eq (subst (λ (k : ℕ). UpTo k c) (sym same) u)
  all_objects from (Viewed v steps ∷ rest) c d (middle, (number, next, seen, all), later) h u =
      let p = cut_in_two (object_writes (Viewed v steps)) (flat_map object_writes rest) c d h in
      let m = viewed_as v (seen refl) (object contents (object_of v)) (length_seen v) steps c p.0 refl refl all p.1 (u.none (object_of v) (let low : from ≤ object_of v = omega (arith, number) in low)) in
      let u_next = more from c p.0 u (subst (λ (k : ℕ). Matches k c p.0) number m) in
      all_objects middle rest p.0 d later p.2 (subst (λ (k : ℕ). UpTo k p.0) (sym next) u_next)
  all_objects from (Passed first after damage ∷ rest) c d (middle, (begins, ends, some, told), later) h u = absurd ((told refl).1 contents mounts)

pub copies_have_all : (disk : Disk) (contents : Contents) (steps : List ObjectStep) (name : List ℕ) (copied : Contents) → MountsTo (bytes_of disk.now) contents
    → Chain (IsObjectStep true disk) 0 steps object_count → in_turn apply_all (flat_map object_writes steps) (first_contents name) ≡ Ok copied
    → (n : ℕ) → n < object_count → map.get copied.objects n ≡ map.get contents.objects n
copies_have_all disk contents steps name copied mounts chain ran =
    (all_objects disk contents mounts 0 steps (first_contents name) copied chain ran (record { same = λ n below. absurd (omega (arith, below)); none = λ n above. map.get-empty {X = List ℕ} nat_cmp n })).same
