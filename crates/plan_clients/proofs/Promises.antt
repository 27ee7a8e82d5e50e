-- What follows from the contract of a plan, and of what a group's operations do, in one concrete case each.
use Rattle.std.proofs.Common.{◌≡◌, ◌≢◌, ◌==◌, ◌&&◌, inl, inr, ℕ, zero, suc, ◌<◌, ◌≤◌, Bool, true, false, not, ◌+◌, ◌*◌, List, [], ◌∷◌, ◌++◌, map, filter, Option, Some, None, Result, Ok, Err, refl, sym, ◌∙◌, ap, subst, arith, nat_lt, if◌then◌else◌}
use Rattle.std.specs.Prelude.{All, IfErr, IfOk, is_some}
use Rattle.std.specs.List.{flat_map, list_any, range_with_len}
use Rattle.std.specs.Option.{option_map_or}
use Rattle.std.specs.Ordering.{nat_cmp}
use Rattle.std.specs.FinMap as finite
use Rattle.std.specs.FinMap.{FinMap}
use Rattle.std.proofs.Math.Bool.{and-false}
use Rattle.std.proofs.lemmas.Bool.{le-ltb}
use Rattle.base.specs.declared.error.PoolError.{PoolError}
use Rattle.base.specs.declared.error.PoolError.TheVariants.{NoMemory, NoSpace}
use Rattle.base.specs.declared.names.ObjectId.{ObjectId}
use Rattle.base.specs.declared.operation.Op.{Op}
use Rattle.base.specs.declared.operation.Op.TheVariants.{SetLength}
use Rattle.base.specs.declared.pointer.Pointer.{Pointer}
use Rattle.base.specs.declared.record_state.RecordState.{RecordState}
use Rattle.base.specs.declared.record_state.RecordState.TheVariants.{Unchanged, Dirty, Hole}
use Rattle.base.specs.formats.Fields.{no_pointer}
use Rattle.base.specs.formats.Limits.{pointer_count, record_count}
use Rattle.base.specs.history.Contents.{Contents, length_of}
use Rattle.base.specs.history.History.{apply_all}
use Rattle.base.specs.history.Plans.{IsRange, ranges, whole_range}
use Rattle.base.specs.tree.Places.{IsPlace, Place, record_of_strip, strip_number}
use Rattle.base.specs.tree.Places.Place.{Root, Directory, Top, Indirect, Data}
use Rattle.base.specs.tree.Syncs.{GroupChanges, has_strip_after, is_directory_touched, is_directory_written, is_dirty, is_indirect_written, is_record_touched, is_record_written, is_root_touched, is_root_written, is_strip_changed, is_strip_kept, is_top_written, is_unchanged, object_numbers, places_of_object, places_of_strip, pointer_numbers, record_state, state_after_cut, written_by}
use Rattle.base.proofs.tree.Strips.{first-low, record-count, record-low, strip-low}
use Rattle.base.proofs.common.KeptLists.{none_between, flat_map_none}
use Rattle.base.proofs.common.Choices.{none_there}
use Rattle.tree_blocks.specs.declared.tree.ObjectEntry.{ObjectEntry}
use Rattle.tree_blocks.specs.Lengths.{length_in}
use Rattle.tree_plans.specs.declared.changes.ObjectChanges.{ObjectChanges}
use Rattle.records.specs.declared.record.Record.{Record}
use Rattle.tree_plans.specs.declared.planner.TreePlan.{TreePlan}
use Rattle.tree_plans.specs.declared.plan_source.PlanSource.{PlanSource}
use Rattle.tree_plans.specs.Changes.{AreBornBefore, is_strip_dirty, is_strip_touched, state_at, state_in}
use Rattle.plan_clients.specs.NewBlocks.{HasNewIndirect, HasNewRecord, HasNewTop, ReturnsBlock}
use Rattle.tree_plans.specs.Marks.{AreChangesOf, pending_ops}
use Rattle.tree_plans.specs.Plans.{IsAmong, IsWant}
use Rattle.tree_plans.specs.Pointers.{entry_of, planned_pointers, pointers_before}
use Rattle.tree_plans.specs.TreePlans.{GivesBack, GivesTree}
use Rattle.tree_plans.specs.Walks.{is_any_touched}
use Rattle.std.specs.BTreeMap.{BTreeMap}
use Rattle.tree_plans.proofs.Order.{none_of, none_passes, passes_at}

-- two facts of a refusal give a third
pub err_both : {A E : Type 0} (r : Result A E) (P Q R : E → Type 0) → ((e : E) → P e → Q e → R e) → IfErr r P → IfErr r Q → IfErr r R
err_both (Ok x) P Q R f p q = tt
err_both (Err e) P Q R f p q = f e p q

-- and of a value
pub ok_both : {A E : Type 0} (r : Result A E) (P Q R : A → Type 0) → ((a : A) → P a → Q a → R a) → IfOk r P → IfOk r Q → IfOk r R
ok_both (Ok x) P Q R f p q = f x p q
ok_both (Err e) P Q R f p q = tt

-- transactions of group 5 have no operation of group 6
none_pending : (pending : List Record) → All (λ (c : Record). c.group.0 ≡ 5) pending → pending_ops 6 pending ≡ []
none_pending [] all = refl
none_pending (c ∷ cs) all =
    let here : c.group.0 ≡ 5 = all 0 c (omega arith) in
    let other : (c.group.0 == 6) ≡ false = rw here refl in
    rw other (none_pending cs (λ k d low. all (suc k) d (omega arith)))

-- so nothing is told of them
pub left_out : (pending : List Record) (maps : List ObjectEntry) (objects : List (ObjectId × ObjectChanges)) → All (λ (c : Record). c.group.0 ≡ 5) pending
    → AreChangesOf (pending_ops 6 pending) maps objects → (n : ℕ) → entry_of objects n ≡ None
left_out pending maps objects all told n =
    let there : is_some (entry_of objects n) ≡ false = rw (none_pending pending all) at (told.there n) in
    none_there (entry_of objects n) there

one_range : All IsRange (whole_range 7 ∷ [])
one_range zero d low = record { some = omega arith; within = omega arith }
one_range (suc k) d low = absurd (omega arith)

-- a set length of 5,000 bytes is a cut of 12,096
module _ (ops : List Op) (maps : List ObjectEntry) (objects : List (ObjectId × ObjectChanges)) (is : ops ≡ SetLength (record { 0 = 7 }) 5000 ∷ []) (told : AreChangesOf ops maps objects) where
  pub is_told : is_some (entry_of objects 7) ≡ true
  is_told = rw is at (told.there 7)

  pub is_cut : length_in maps 7 ≡ Some 12096 → (before after : Contents) → apply_all ops before ≡ Ok after → length_of before 7 ≡ Some 12096 → state_in objects 7 2 ≡ Hole
  is_cut long before after applied has =
      let ranged : All IsRange (ranges ops) = subst (λ (l : List Op). All IsRange (ranges l)) (sym is) one_range in
      let here : state_in objects 7 2 ≡ record_state 7 2 ops before Unchanged = told.states before after applied ranged 7 2 (omega (arith, record-count)) (λ sets. long ∙ sym has) in
      here ∙ ap (λ (l : List Op). record_state 7 2 l before Unchanged) is
      ∙ ap (λ (o : Option ℕ). if (true && option_map_or (λ old. nat_lt 5000 old) o false) then state_after_cut 2 5000 Unchanged else Unchanged) has

-- a write of the first byte of strip 1
module _ (changes : ObjectChanges) (told : (r : ℕ) → r < record_count → state_at changes r ≡ (if is_record_touched r 338688 1 then Dirty else Unchanged)) where
  pub first_untouched : is_strip_touched changes 0 ≡ false
  first_untouched = none_between (λ k. not (is_unchanged (state_at changes (record_of_strip 0 k)))) 0 pointer_count
      (λ k from to. let first : 0 < pointer_count = omega arith in let low : k < pointer_count = omega (arith, to) in let ends : 4032 * (record_of_strip 0 k + 1) ≤ 338688 = omega (arith, to) in
      ap (λ (s : RecordState). not (is_unchanged s)) (told (record_of_strip 0 k) (record-low 0 k first low)
      ∙ ap (λ (b : Bool). if (b && nat_lt (4032 * record_of_strip 0 k) (338688 + 1)) then Dirty else Unchanged) (le-ltb 338688 (4032 * (record_of_strip 0 k + 1)) ends)))

  pub second_written : is_strip_dirty changes 1 ≡ true
  second_written =
      let first : 0 < pointer_count = omega arith in
      let second : 1 < pointer_count = omega arith in
      passes_at (λ k. is_dirty (state_at changes (record_of_strip 1 k))) 0 pointer_count 0 (omega arith) first (ap is_dirty (told (record_of_strip 1 0) (record-low 1 0 second first)))

-- a group that leaves no record dirty, has set no length and leaves no object writes no place
module _ (group : GroupChanges) (clean : (n r : ℕ) → is_dirty (group.state n r) ≡ false) (unchanged : (n : ℕ) → group.is_changed n ≡ false) (absent : (n : ℕ) → group.is_present n ≡ false) (short : (n : ℕ) → group.is_long n ≡ false) where
  of_object : (n : ℕ) → places_of_object group n ≡ []
  of_object n =
      (λ x. flat_map_none (places_of_strip group n) (λ j. ap (λ (l : List ℕ). map (λ k. Data (strip_number n j) k) l) (none_passes (is_record_written group n j) (λ k. clean n (record_of_strip j k)) pointer_numbers)) pointer_numbers x
      ++ map (λ j. Indirect (strip_number n j)) (none_passes (is_indirect_written group n) indirect_clean pointer_numbers x) ++ (if top_clean x then Top n ∷ [] else []))
    where
      indirect_clean : (j : ℕ) → is_indirect_written group n j ≡ false
      indirect_clean j = (λ x. (if short n x then is_strip_changed group n j else (j == 0) && unchanged n x) && has_strip_after group n j) ∙ ap (λ (b : Bool). b && has_strip_after group n j) (and-false (j == 0))

      top_clean : is_top_written group n ≡ false
      top_clean = (λ x. (short n x && group.is_changed n) && list_any (is_strip_kept group n) pointer_numbers)

  of_objects : (ns : List ℕ) → flat_map (places_of_object group) ns ≡ []
  of_objects [] = refl
  of_objects (n ∷ ns) = rw (of_object n) (of_objects ns)

  directory_clean : (d : ℕ) → is_directory_written group d ≡ false
  directory_clean d = ap (λ (b : Bool). is_directory_touched group d && b) (none_of group.is_present absent (object_numbers d)) ∙ and-false (is_directory_touched group d)

  root_clean : is_root_written group ≡ false
  root_clean = ap (λ (b : Bool). is_root_touched group && b) (none_of group.is_present absent (range_with_len 0 5292)) ∙ and-false (is_root_touched group)

  pub none_written_by : written_by group ≡ []
  none_written_by =
      ap (λ (l : List Place). l ++ map (λ d. Directory d) (filter (is_directory_written group) (range_with_len 0 84)) ++ (if is_root_written group then Root ∷ [] else [])) (of_objects (range_with_len 0 5292))
      ∙ ap (λ (l : List ℕ). map (λ d. Directory d) l ++ (if is_root_written group then Root ∷ [] else [])) (none_passes (is_directory_written group) directory_clean (range_with_len 0 84))
      ∙ root (is_root_written group) root_clean
    where
      root : (b : Bool) → b ≡ false → (if b then Root ∷ [] else []) ≡ []
      root b e = rw e refl

-- if as many blocks are taken as there are places, and there is no place, no block is taken
pub none_taken : {A B : Type 0} (f : A → ℕ) (g : B → ℕ) (xs : List A) (ys : List B) → map f xs ≡ map g ys → ys ≡ [] → xs ≡ []
none_taken f g [] ys same none = refl
none_taken f g (x ∷ xs) [] same none = cc
none_taken f g (x ∷ xs) (y ∷ ys) same none = cc

-- new blocks at a record, at an indirect block and at a top
module _ (source : PlanSource) (after : FinMap nat_cmp (List ℕ)) (objects : BTreeMap ObjectId ObjectChanges) (plan : TreePlan) (told : GivesTree source after objects plan) where
  pub new_record : HasNewRecord source after objects.entries plan
  new_record before bytes scene has new = elim (told.planned before scene.covered scene.changes scene.pointers (Data 7 2) (first-low 7 (omega arith), omega arith)) [
    | inl stays ↦ absurd (new.other stays.0)
    | inr (inl written) ↦ let w = rw has at written in record { index = w.1.index; block = w.1.block; found = w.1.found; sealed = w.1.sealed }
    | inr (inr none) ↦ absurd (new.there none.0)
  ]

  pub new_indirect : HasNewIndirect source after objects.entries plan
  new_indirect before scene new = elim (told.planned before scene.covered scene.changes scene.pointers (Indirect 7) (first-low 7 (omega arith))) [
    | inl stays ↦ absurd (new.other stays.0)
    | inr (inl w) ↦ (w.0, record { index = w.1.index; block = w.1.block; found = w.1.found; sealed = w.1.sealed }, w.2)
    | inr (inr none) ↦ absurd (new.there none.0)
  ]

  pub new_top : HasNewTop source after objects.entries plan
  new_top before scene new = elim (told.planned before scene.covered scene.changes scene.pointers (Top 7) (omega arith)) [
    | inl stays ↦ absurd (new.other stays.0)
    | inr (inl w) ↦ (w.0, w.1, record { index = w.2.index; block = w.2.block; found = w.2.found; sealed = w.2.sealed }, λ j low. (w.3 j low).0)
    | inr (inr none) ↦ absurd (new.there none.0)
  ]

  -- a root that is replaced
  pub root_back : is_any_touched objects.entries ≡ true → source.tree.now.root.address ≡ 4194304 → GivesBack source plan → AreBornBefore source.group.0 (pointers_before source) → IsAmong plan.freed.items 4194304
  root_back touched address back born =
      let old : Pointer = source.tree.now.root in
      let named : old ≢ no_pointer = λ none. let zero_is : old.address ≡ 0 = ap (λ (p : Pointer). p.address) none in omega (arith, zero_is, address) in
      let is_other : plan.root ≢ old = λ same. elim (told.new_root touched) [
        | inl birth ↦
            let first : old.birth < source.group.0 = born Root tt in
            let births : plan.root.birth ≡ old.birth = ap (λ (p : Pointer). p.birth) same in
            omega (arith, birth, first, births)
        | inr none ↦ named (sym same ∙ none)
      ] in
      subst (λ (a : ℕ). IsAmong plan.freed.items a) address ((back.freed born).all Root tt is_other named)

-- a block of a record that lies past the end of its object
module _ (source : PlanSource) (after : FinMap nat_cmp (List ℕ)) (objects : BTreeMap ObjectId ObjectChanges) (plan : TreePlan) (told : GivesTree source after objects plan) (back : GivesBack source plan)
    (object : finite.get after 7 ≡ Some (1 ∷ 2 ∷ 3 ∷ [])) (at : (pointers_before source (Data (strip_number 7 1) 0)).address ≡ 4194304) where
  abbrev here : Place
  here = Data (strip_number 7 1) 0

  in_range : IsPlace here
  in_range = (strip-low 7 1 (omega arith) (omega arith), omega arith)

  named : pointers_before source here ≢ no_pointer
  named none = let zero_is : (pointers_before source here).address ≡ 0 = ap (λ (p : Pointer). p.address) none in omega (arith, zero_is, at)

  pub cut_back : ReturnsBlock source after objects.entries plan
  cut_back before scene born = elim (told.planned before scene.covered scene.changes scene.pointers here in_range) [
    | inl stays ↦ absurd (let same = rw object at stays.1 in elim same.1 [ inl none ↦ named none | inr low ↦ omega (arith, low) ])
    | inr (inl written) ↦ absurd (let low = rw object at written in omega (arith, low.0))
    | inr (inr none) ↦
        let is_other : planned_pointers source plan here ≢ pointers_before source here = λ same. named (sym same ∙ none.0) in
        subst (λ (a : ℕ). IsAmong plan.freed.items a) at ((back.freed born).all here in_range is_other named)
  ]

-- a refusal if the blocks suffice
pub only_memory : (e : PoolError) (free places : ℕ) → places ≤ free → (e ≡ NoSpace → free < places) → IsWant e → e ≡ NoMemory
only_memory e free places room full (inl no_space) = let less : free < places = full no_space in absurd (omega (arith, less, room))
only_memory e free places room full (inr no_memory) = no_memory
