-- A sync that starts, step by step.
use Rattle.std.proofs.Common.{ℕ, ◌≡◌, ◌+◌, ◌≤◌, Bool, true, false, List, [], ◌∷◌, map, length, refl, ap, sym, ◌∙◌, ◌⊎◌, inl, inr, take}
use Rattle.std.specs.Prelude.{Option, Some, None, Result, Ok, Err, is_some, if◌then◌else◌}
use Rattle.std.specs.List.{list_any}
use Rattle.std.specs.FinSet as set
use Rattle.std.proofs.lemmas.Bool.{false≢true}
use Rattle.std.proofs.lemmas.List.{length-map}
use Rattle.base.specs.declared.error.PoolError.{PoolError}
use Rattle.base.specs.declared.error.PoolError.TheVariants as error
use Rattle.base.specs.steps.Tables.{AreTablesExplained}
use Rattle.base.specs.history.Plans.{estimate_of, shape_of}
use Rattle.base.specs.steps.Logs.{header_for}
use Rattle.base.specs.history.Past.{Past}
use Rattle.base.specs.steps.Refusals.{quiesced_group, start_refusal}
use Rattle.base.specs.steps.Shown.{Shown, SyncPlan, length_at}
use Rattle.base.specs.steps.Steps.{AreLengthsOf, IsPlanned, IsReplayUpTo, StartSync, TakesForEach, lowest_free, ops_of_group, State}
use Rattle.base.specs.tree.Syncs.{is_rename, other_step_count}
use Rattle.base.specs.declared.operation.Op.{Op}
use Rattle.base.specs.declared.operation.Op.TheVariants.{Create, Remove, Write, SetLength, SetName}
use Rattle.base.specs.history.Contents.{name_given_by_all}
use Rattle.base.proofs.history.Names.{name-unnamed}
use Rattle.sync.specs.Runs.{other_calls}
use Rattle.tree_plans.specs.declared.planner.PlannedBlock.{PlannedBlock}
use Rattle.tree_plans.specs.Plans.{address_of}
use Rattle.group_plans.specs.GroupPlans.{IsHeldRefusal, IsPlanRefusal}
use Rattle.pool_tables.specs.Lines.{MayNotStart}
use Rattle.pool_tables.proofs.HeldReads.{damage_is_not}

-- a group has label stages exactly if its operations give a name
given-some : (ops : List Op) (given : Option (List ℕ)) → list_any is_rename ops ≡ true → is_some (name_given_by_all ops given) ≡ true
given-some [] given some = absurd (false≢true some)
given-some (Create n ∷ ops) given some = given-some ops given some
given-some (Remove n ∷ ops) given some = given-some ops given some
given-some (Write n offset bytes ∷ ops) given some = given-some ops given some
given-some (SetLength n size ∷ ops) given some = given-some ops given some
given-some (SetName bytes ∷ ops) given some = stays ops bytes
  where
    stays : (ops : List Op) (name : List ℕ) → is_some (name_given_by_all ops (Some name)) ≡ true
    stays [] name = refl
    stays (Create n ∷ ops) name = stays ops name
    stays (Remove n ∷ ops) name = stays ops name
    stays (Write n offset bytes ∷ ops) name = stays ops name
    stays (SetLength n size ∷ ops) name = stays ops name
    stays (SetName bytes ∷ ops) name = stays ops bytes

calls-given : (given : Option (List ℕ)) → other_calls given ≡ 6 + (if is_some given then 6 else 0)
calls-given None = refl
calls-given (Some name) = refl

pub steps-given : (ops : List Op) → other_calls (name_given_by_all ops None) ≡ other_step_count ops
steps-given ops = calls-given (name_given_by_all ops None) ∙ ap (λ b. 6 + (if b then 6 else 0)) (go (list_any is_rename ops) refl)
  where
    go : (b : Bool) → list_any is_rename ops ≡ b → is_some (name_given_by_all ops None) ≡ list_any is_rename ops
    go true some = given-some ops None some ∙ sym some
    go false none = ap is_some (name-unnamed ops None none) ∙ sym none

-- a step from one of the states of a past to another
abbrev pub StartsAt : Type 0 → List ℕ → ℕ → Result ℕ PoolError → Past → Shown → Shown → Type 0
StartsAt keeps now moment answer past s n = StartSync keeps now moment answer (record { shown = s; past = past }) (record { shown = n; past = past })

-- why a start that no test refuses is refused: it wants memory, or a read was refused, or found damage if the device
-- does not keep the disk model
abbrev pub IsWantOrRead : Type 0 → PoolError → Type 0
IsWantOrRead keeps e = (e ≡ error.NoMemory) ⊎ (e ≡ error.Read) ⊎ ((kind address : ℕ) × (e ≡ error.Damaged kind address) × ¬ keeps)

module _ (keeps : Type 0) (now : List ℕ) (past : Past) (s : Shown) (moment : ℕ) where
  pub start_suspended : s.suspended ≡ true → StartsAt keeps now moment (Err error.Suspended) past s s
  start_suspended h = rw h (refl, refl)

  pub start_not_ready : s.suspended ≡ false → MayNotStart s.line → StartsAt keeps now moment (Err error.NotReady) past s s
  start_not_ready h not_now = let e : start_refusal s ≡ Some error.NotReady = rw (h, not_now) refl in rw e (refl, refl)

  starts : (group : ℕ) → s.suspended ≡ false → quiesced_group s.line ≡ Some group → is_some s.line.syncing ≡ false → start_refusal s ≡ None
  starts group h is none = rw (h, is, none) refl

  -- a plan is refused that wants memory, or a read for it
  pub start_wants : (group : ℕ) (e : PoolError) → s.suspended ≡ false → quiesced_group s.line ≡ Some group → is_some s.line.syncing ≡ false → IsWantOrRead keeps e
      → StartsAt keeps now moment (Err e) past s s
  start_wants group e h is none wants = rw (starts group h is none) (wants, refl)

  -- a sync that is planned starts, where the past explains what was shown
  pub start_done : (n : Shown) (group : ℕ) (plan : SyncPlan) → AreTablesExplained s past → (keeps → TakesForEach now (record { shown = s; past = past }) group plan)
      → s.suspended ≡ false → quiesced_group s.line ≡ Some group → is_some s.line.syncing ≡ false
      → length plan.taken ≤ estimate_of (map shape_of (ops_of_group group past.entries)) → IsReplayUpTo group past plan.contents → AreLengthsOf plan.contents (length_at plan.lengths)
      → plan.moment ≡ moment → plan.taken ≡ lowest_free (length plan.taken) s → plan.steps_left ≡ length plan.taken + other_step_count (ops_of_group group past.entries) → plan.header ≡ header_for group s.log
      → n ≡ record s { line = record s.line { syncing = Some group; middle = None }; free = set.difference s.free (set.from_list plan.taken); sync = Some plan }
      → StartsAt keeps now moment (Ok group) past s n
  start_done n group plan explained takes h is none fits replayed lengths at_moment taken steps header same =
      let planned : IsPlanned (record { shown = s; past = past }) moment group plan = record { moment_is = at_moment; taken = taken; steps = steps; fits = fits; header = header; contents = replayed; lengths = lengths } in
      rw (starts group h is none) (plan, is, planned, takes, ap (λ (x : Shown). let state : State = record { shown = x; past = past } in state) same)

-- the addresses of planned blocks are the lowest free ones
pub lowest_taken : (blocks : List PlannedBlock) (free : List ℕ) → map address_of blocks ≡ take (length blocks) free → map address_of blocks ≡ take (length (map address_of blocks)) free
lowest_taken blocks free taken = taken ∙ sym (ap (λ n. take n free) (length-map blocks address_of))

-- a plan that never lacks blocks, over a device that holds the tree
held_want : (e : PoolError) → (e ≡ error.NoSpace → ⊥) → IsHeldRefusal e → (e ≡ error.NoMemory) ⊎ (e ≡ error.Read)
held_want e never (inl (inl space)) = absurd (never space)
held_want e never (inl (inr memory)) = inl memory
held_want e never (inr read) = inr read

-- and over any device: damage is found only over one that does not keep the model
pub plan_wants : (keeps : Type 0) (e : PoolError) → (e ≡ error.NoSpace → ⊥) → IsPlanRefusal e → (keeps → IsHeldRefusal e) → IsWantOrRead keeps e
plan_wants keeps e never (inl (inl space)) sound = absurd (never space)
plan_wants keeps e never (inl (inr memory)) sound = inl memory
plan_wants keeps e never (inr (inl read)) sound = inr (inl read)
plan_wants keeps e never (inr (inr (kind, address, is))) sound = inr (inr (kind, address, is, damage_is_not keeps e (λ k. held_want e never (sound k)) kind address is))
