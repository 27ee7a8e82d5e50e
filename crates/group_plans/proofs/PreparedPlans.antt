-- A plan of objects of which some records are at hand is one of the objects after the group: it goes by the same
-- lengths, and has the same bytes if each of these records is its object's.
use Rattle.std.proofs.Common.{◌≡◌, ℕ, ◌≤◌, List, length, refl, ap, subst, sym, ◌∙◌, inl, inr}
use Rattle.std.specs.Prelude.{Option, None, Some, IfErr, IfSome, Result, Ok, Err, is_some, option_map}
use Rattle.std.specs.Ordering.{nat_cmp}
use Rattle.std.specs.FinMap as finite
use Rattle.std.specs.FinMap.{FinMap}
use Rattle.base.specs.declared.error.PoolError.{PoolError}
use Rattle.base.specs.declared.error.PoolError.TheVariants as error
use Rattle.base.specs.declared.names.ObjectId.{ObjectId}
use Rattle.base.specs.declared.pointer.Pointer.{Pointer}
use Rattle.base.specs.declared.refused.RefusedCalls.{RefusedCalls}
use Rattle.base.specs.disk.Calls.{counted}
use Rattle.base.specs.formats.Limits.{object_count}
use Rattle.base.specs.tree.Places.{Place}
use Rattle.extents.specs.declared.extents.Extents.{Extents}
use Rattle.extents.specs.Tables.{patches_of}
use Rattle.extents.proofs.LaidObjects.{get-laid_past}
use Rattle.tree_blocks.specs.declared.tree.Tree.{Tree}
use Rattle.tree_blocks.specs.TreeObjects.{objects_of}
use Rattle.tree_blocks.specs.Sources.{object_length}
use Rattle.tree_plans.specs.declared.changes.ObjectChanges.{ObjectChanges}
use Rattle.tree_blocks.specs.declared.object_map.ObjectMap.{ObjectMap}
use Rattle.tree_plans.specs.declared.plan_source.PlanSource.{PlanSource}
use Rattle.tree_plans.specs.declared.planner.TreePlan.{TreePlan}
use Rattle.tree_plans.specs.Changes.{AreInRange, changes_of_group, has_address, is_changed_in, may_have_blocks, state_in}
use Rattle.tree_blocks.specs.Entries.{is_long_size}
use Rattle.tree_plans.specs.Parts.{AreMapsRead, IsReadAsNeeded}
use Rattle.tree_plans.specs.Plans.{IsWant}
use Rattle.tree_plans.specs.Pointers.{entry_of}
use Rattle.group_plans.specs.GroupPlans.{IsHeldRefusal, IsPlanRefusal, objects_with}
use Rattle.group_plans.specs.OldMaps.{AreMapsReadFor}
use Rattle.group_plans.specs.Prepared.{AreExact, IsPlainRefusal, IsPrepareRefusal, with_records}
use Rattle.group_plans.proofs.RecordsAtHand as hand

-- objects of the same lengths are there at the same numbers
there_as : (o : Option (List ℕ)) → is_some (option_map length o) ≡ is_some o
there_as None = refl
there_as (Some b) = refl

-- so a group makes the same of the places
pub same_group : (objects : List (ObjectId × ObjectChanges)) (old : Place → Pointer) (a b : FinMap nat_cmp (List ℕ)) → ((n : ℕ) → object_length a n ≡ object_length b n)
    → changes_of_group objects old a ≡ changes_of_group objects old b
same_group objects old a b same =
    let there : (n : ℕ) → is_some (finite.get a n) ≡ is_some (finite.get b n) = λ n. sym (there_as (finite.get a n)) ∙ ap is_some (same n) ∙ there_as (finite.get b n) in
    λ k. record {
      state = state_in objects;
      had_block = λ place. has_address (old place);
      is_changed = is_changed_in objects;
      is_touched = λ n. is_some (entry_of objects n);
      is_present = λ n. there n k;
      is_long = λ n. is_long_size (same n k);
    }

-- and its changes are in range as they are
pub range_as : (objects : List (ObjectId × ObjectChanges)) (a b : FinMap nat_cmp (List ℕ)) → ((n : ℕ) → object_length a n ≡ object_length b n) → AreInRange objects b → AreInRange objects a
range_as objects a b same within = record {
  numbers = within.numbers;
  strips = λ n j k low j_low k_low out.
      within.strips n j k low j_low k_low (ap (λ (size : Option ℕ). may_have_blocks (is_long_size size) (is_changed_in objects n) j) (sym (same n)) ∙ out);
}

-- and what was read for the one was read for the other
pub maps_as : (source : PlanSource) (objects : List (ObjectId × ObjectChanges)) (a b : FinMap nat_cmp (List ℕ)) → ((n : ℕ) → object_length a n ≡ object_length b n)
    → AreMapsReadFor b objects source.old_maps.now.entries → AreMapsRead source a objects
maps_as source objects a b same read id changes low at =
    let h = read id.0 changes low at in
    record {
      there = ap is_some h.map_is;
      read = subst (λ (o : Option ObjectMap). IfSome o (IsReadAsNeeded (is_long_size (object_length a id.0)) changes)) (sym h.map_is)
          (subst (λ (size : Option ℕ). IsReadAsNeeded (is_long_size size) changes h.map) (sym (same id.0)) h.read.read);
    }

module _ (records : ℕ → ℕ → Option (List ℕ)) (extents : Extents) (tree : Tree) where
  abbrev prepared : FinMap nat_cmp (List ℕ)
  prepared = with_records records (objects_with extents tree)

  none_past : (n : ℕ) → object_count ≤ n → finite.get (objects_with extents tree) n ≡ None
  none_past n past = get-laid_past (patches_of extents) (objects_of tree) n past

  pub prepared_length : (n : ℕ) → object_length prepared n ≡ object_length (objects_with extents tree) n
  prepared_length n = sym (hand.same_length records (objects_with extents tree) none_past n)

  pub prepared_exact : AreExact records (objects_with extents tree) → prepared ≡ objects_with extents tree
  prepared_exact exact = hand.exact_objects records (objects_with extents tree) none_past exact

-- a plan that wants memory or blocks was refused no call
want_calls : (e : PoolError) → IsWant e → (calls : RefusedCalls) → counted {T = TreePlan} (Err e) calls ≡ calls
want_calls e (inl space) calls = ap (λ (e : PoolError). counted {T = TreePlan} (Err e) calls) space
want_calls e (inr memory) calls = ap (λ (e : PoolError). counted {T = TreePlan} (Err e) calls) memory

pub want_counts : (r : Result TreePlan PoolError) → IfErr r IsWant → (calls : RefusedCalls) → counted r calls ≡ calls
want_counts (Ok p) want calls = refl
want_counts (Err e) want calls = want_calls e want calls

-- why a plan is refused
pub of_want : (r : Result TreePlan PoolError) → IfErr r IsWant → IfErr r IsPlanRefusal
of_want (Ok p) want = tt
of_want (Err e) want = inl want

pub held_want : (r : Result TreePlan PoolError) → IfErr r IsWant → IfErr r IsHeldRefusal
held_want (Ok p) want = tt
held_want (Err e) want = inl want

pub of_prepare : (e : PoolError) → IsPrepareRefusal e → IsPlanRefusal e
of_prepare e (inl memory) = inl (inr memory)
of_prepare e (inr read) = inr read

pub held_prepare : (e : PoolError) → IsPlainRefusal e → IsHeldRefusal e
held_prepare e (inl memory) = inl (inr memory)
held_prepare e (inr read) = inr read

-- and not for want of blocks, if a record can't be put at hand
pub no_space_prepare : (e : PoolError) → IsPrepareRefusal e → e ≡ error.NoSpace → ⊥
no_space_prepare e (inl memory) space = absurd (let no : error.NoMemory ≡ error.NoSpace = sym memory ∙ space in cc)
no_space_prepare e (inr (inl read)) space = absurd (let no : error.Read ≡ error.NoSpace = sym read ∙ space in cc)
no_space_prepare e (inr (inr damage)) space = absurd (let no : error.Damaged damage.0 damage.1 ≡ error.NoSpace = sym damage.2 ∙ space in cc)
