-- The places that the sync of a group writes: its plan takes one block for each, in their order, and no more than its
-- operations are estimated at.
use Rattle.std.proofs.Common.{◌≡◌, ℕ, ◌+◌, ◌<◌, ◌≤◌, Bool, true, cond, List, [], ◌∷◌, ◌++◌, length, map, filter, refl, ap, sym, subst, ◌∙◌, arith}
use Rattle.std.specs.Prelude.{◌==◌, All, IfSome, None, Option, Some, sum_by}
use Rattle.std.specs.List.{flat_map}
use Rattle.std.specs.FinMap as finite
use Rattle.std.proofs.lemmas.Bool.{eq-eqb}
use Rattle.std.proofs.lemmas.List.{length-map, map-append}
use Rattle.std.proofs.lemmas.List.Elements.{All-head, All-tail}
use Rattle.std.proofs.lemmas.List.Sums.{sum_by-append, sum_by-cons}
use Rattle.base.specs.common.Rising.{rising}
use Rattle.base.specs.declared.names.ObjectId.{ObjectId}
use Rattle.base.specs.declared.operation.Op.{Op}
use Rattle.base.specs.declared.operation.Shape.{Shape}
use Rattle.base.specs.declared.pointer.Pointer.{Pointer}
use Rattle.base.specs.formats.Limits.{max_length}
use Rattle.base.specs.history.Contents.{Contents}
use Rattle.base.specs.history.Plans.{estimate_of, estimate_of_shape, shape_of}
use Rattle.base.specs.tree.Places.{Place, IsPlace}
use Rattle.base.specs.tree.Places.Place.{Indirect, Data}
use Rattle.base.specs.kept.PlannedTrees.{NewBlock}
use Rattle.base.specs.tree.Syncs.{is_long_object, written_by, written_places}
use Rattle.base.proofs.tree.Estimates.{syncs_fit}
use Rattle.base.proofs.tree.Strips.{long-length}
use Rattle.base.proofs.tree.WrittenPlaces.{written-places}
use Rattle.tree_blocks.specs.declared.tree.ObjectEntry.{ObjectEntry}
use Rattle.records.specs.declared.record.Record.{Record}
use Rattle.tree_plans.specs.declared.changes.ObjectChanges.{ObjectChanges}
use Rattle.tree_plans.specs.Changes.{changes_of_group, has_address, has_two_levels}
use Rattle.tree_plans.specs.Marks.{AreChangesOf, pending_ops}
use Rattle.tree_plans.specs.Plans.{new_block}
use Rattle.group_plans.specs.GroupPlans.{IsShortOfBlocks, TakesGroupPlaces, plan_pointers}
use Rattle.group_plans.specs.Laws.{EstimatesAdd, PlansFitEstimates, ShortPlansLackBlocks}
use Rattle.group_plans.specs.Operations.{AreSized, TakesPlace}
use Rattle.group_plans.proofs.GroupChanges.{in_range, states_are}

-- where pointers name a block
abbrev pub named_by : (Place → Pointer) → Place → Bool
named_by pointers place = has_address (pointers place)

-- and that they do at each place as it is told
abbrev pub AreNamedAs : (Place → Pointer) → (Place → Bool) → Type 0
AreNamedAs pointers had = (place : Place) → IsPlace place → has_address (pointers place) ≡ had place

-- within the greatest length, an object has two levels by its length alone
same_levels : (o : Option (List ℕ)) → IfSome o (λ bytes. length bytes ≤ max_length) → has_two_levels o ≡ is_long_object o
same_levels None sized = refl
same_levels (Some bytes) sized = sym (long-length (length bytes) sized)

-- From whichever pointers it is planned.
module _ (ops : List Op) (maps : List ObjectEntry) (before after : Contents) (x : TakesPlace ops maps before after) (sized : AreSized after.objects) (pointers : Place → Pointer) where
  -- the places that are written are those that the changes tell
  pub places_told : (objects : List (ObjectId × ObjectChanges)) → AreChangesOf ops maps objects → (had : Place → Bool) → AreNamedAs pointers had
      → written_places ops before had ≡ written_by (changes_of_group objects pointers after.objects)
  places_told objects changes had same = written-places (changes_of_group objects pointers after.objects) ops before after had x.leads (record {
    states = λ n r low below. states_are ops maps before after x objects changes n r below;
    blocks = λ m k low below. same (Data m k) (low, below);
    strips = λ m low. same (Indirect m) low;
    changed = λ n low. changes.changed n;
    touched = λ n low. changes.there n;
    present = λ n low. refl;
    long = λ n low. same_levels (finite.get after.objects n) (sized n);
  })

module _ (group : ℕ) (records : List Record) (maps : List ObjectEntry) (before after : Contents) (x : TakesPlace (pending_ops group records) maps before after) (sized : AreSized after.objects) (pointers : Place → Pointer) where
  abbrev ops : List Op
  ops = pending_ops group records

  -- they are as many as the operations write
  count_told : (objects : List (ObjectId × ObjectChanges)) → AreChangesOf ops maps objects
      → length (written_places ops before (named_by pointers)) ≡ length (written_by (changes_of_group objects pointers after.objects))
  count_told objects changes = ap (λ (l : List Place). length l) (places_told ops maps before after x sized pointers objects changes (named_by pointers) (λ place is. refl))

  -- the new tree has the addresses of the plan's blocks at these places, in order
  pub takes_at_places : (new : Place → Pointer) (bs : List NewBlock) (returned : List ℕ) → TakesGroupPlaces group records maps pointers new bs returned after.objects
      → (had : Place → Bool) → AreNamedAs pointers had
      → map (λ (place : Place). (new place).address) (written_places ops before had) ≡ map (λ (b : NewBlock). b.address) bs
  takes_at_places new bs returned from had same =
      ap (λ (ps : List Place). map (λ (place : Place). (new place).address) ps) (places_told ops maps before after x sized pointers from.objects from.changes had same)
      ∙ sym (from.order (in_range ops maps before after x from.objects from.changes))

  -- a plan takes no more blocks than the operations are estimated at
  pub blocks_fit : (new : Place → Pointer) (bs : List NewBlock) (returned : List ℕ) → TakesGroupPlaces group records maps pointers new bs returned after.objects → length bs ≤ estimate_of (map shape_of ops)
  blocks_fit new bs returned from =
      let each : length bs ≡ length (written_by (changes_of_group from.objects pointers after.objects)) =
      sym (length-map bs (λ (b : NewBlock). b.address))
      ∙ ap (λ (l : List ℕ). length l) (from.order (in_range ops maps before after x from.objects from.changes))
      ∙ length-map (written_by (changes_of_group from.objects pointers after.objects)) (λ (place : Place). (new place).address) in
      subst (λ (n : ℕ). n ≤ estimate_of (map shape_of ops)) (count_told from.objects from.changes ∙ sym each) (syncs_fit ops before (named_by pointers))

  -- if it is short of blocks, fewer are free than there are places that they write
  pub short_of_places : (free : List ℕ) → IsShortOfBlocks group records maps pointers after.objects free → length free < length (written_places ops before (named_by pointers))
  short_of_places free short =
      subst (λ (n : ℕ). length free < n) (sym (count_told short.objects short.changes)) (short.fewer (in_range ops maps before after x short.objects short.changes))

  -- however it is told which places have a block
  pub short_of_these : (free : List ℕ) → IsShortOfBlocks group records maps pointers after.objects free → (had : Place → Bool) → AreNamedAs pointers had → length free < length (written_places ops before had)
  short_of_these free short had same =
      subst (λ (ps : List Place). length free < length ps) (sym (places_told ops maps before after x sized pointers short.objects short.changes had same))
      (short.fewer (in_range ops maps before after x short.objects short.changes))

  -- and fewer than they are estimated at
  pub short_of_estimate : (free : List ℕ) → IsShortOfBlocks group records maps pointers after.objects free → length free < estimate_of (map shape_of ops)
  short_of_estimate free short =
      let fewer = short_of_places free short in
      let fits : length (written_places ops before (named_by pointers)) ≤ estimate_of (map shape_of ops) = syncs_fit ops before (named_by pointers) in
      omega (arith, fewer, fits)

pub plans_fit_estimates : PlansFitEstimates
plans_fit_estimates frame tree records before after p makes x sized =
    subst (λ (n : ℕ). n ≤ estimate_of (map shape_of (pending_ops frame.group records))) (length-map p.blocks.items new_block)
    (blocks_fit frame.group records tree.entries.items before after x sized makes.0 (plan_pointers tree p) (map new_block p.blocks.items) p.freed.items makes.1.places)

pub short_plans_lack_blocks : ShortPlansLackBlocks
short_plans_lack_blocks group tree records old before after free short x sized = short_of_estimate group records tree.entries.items before after x sized old (rising free) short

-- what a record is estimated at
abbrev record_estimate : Record → ℕ
record_estimate r = estimate_of (map shape_of r.ops)

-- if all records are of the group, its operations are theirs
pub all_pending : (group : ℕ) (records : List Record) → All (λ (r : Record). r.group.0 ≡ group) records → pending_ops group records ≡ flat_map (λ (r : Record). r.ops) records
all_pending group [] all = refl
all_pending group (r ∷ rs) all =
    let others : List Record = filter (λ (x : Record). x.group.0 == group) rs in
    let here : (r.group.0 == group) ≡ true = eq-eqb r.group.0 group (All-head (λ (x : Record). x.group.0 ≡ group) r rs all) in
    ap (λ (b : Bool). flat_map (λ (x : Record). x.ops) (cond b (r ∷ others) others)) here
    ∙ ap (λ (l : List Op). r.ops ++ l) (all_pending group rs (All-tail (λ (x : Record). x.group.0 ≡ group) r rs all))

estimate-flat : (records : List Record) → estimate_of (map shape_of (flat_map (λ (r : Record). r.ops) records)) ≡ sum_by record_estimate records
estimate-flat [] = refl
estimate-flat (r ∷ rs) =
    ap (λ (shapes : List Shape). estimate_of shapes) (map-append shape_of r.ops (flat_map (λ (x : Record). x.ops) rs))
    ∙ sum_by-append estimate_of_shape (map shape_of r.ops) (map shape_of (flat_map (λ (x : Record). x.ops) rs))
    ∙ ap (λ (n : ℕ). record_estimate r + n) (estimate-flat rs) ∙ sym (sum_by-cons record_estimate r rs)

-- so they are estimated at the sum of what these are
pub estimates_add : EstimatesAdd
estimates_add group records all = ap (λ (ops : List Op). estimate_of (map shape_of ops)) (all_pending group records all) ∙ estimate-flat records
