-- What an import leaves free: of the blocks that no pointer of the old tree names those that its plan does not take,
-- and those that the plan replaces. So they are all blocks that neither the new tree nor the log has.
use Rattle.std.proofs.Common.{◌≡◌, ◌⊎◌, inl, inr, ℕ, ◌<◌, Bool, true, false, not, ◌&&◌, ◌||◌, List, nat_eq, Some, refl, sym, ◌∙◌, ap, subst, arith}
use Rattle.std.specs.Prelude.{slice_get}
use Rattle.std.specs.Ordering.{nat_cmp}
use Rattle.std.specs.FinSet as set
use Rattle.std.specs.FinSet.{FinSet, contains-union}
use Rattle.std.proofs.lemmas.Bool.{eq-eqb, eqb-true, false≢true, or_cases, or_parts}
use Rattle.std.proofs.lemmas.Cmp.{nat_cmp_total}
use Rattle.base.specs.declared.pointer.Pointer.{Pointer}
use Rattle.base.specs.formats.Geometry.{AreBlocksOf, IsBlockAddress, block_address, is_block_of}
use Rattle.base.specs.tree.Places.{Place}
use Rattle.base.proofs.common.KeptLists.{All-at}
use Rattle.base.proofs.common.Choices.{and_not_parts, not_and_parts}
use Rattle.base.proofs.stored.StoredSets.{IsAt, at-set, set-at}
use Rattle.base.proofs.formats.BlockTests.{block_of}
use Rattle.trees.specs.FreeBlocks.{AreUnnamed}
use Rattle.tree_blocks.specs.Pointers.{pointers_of}
use Rattle.tree_blocks.specs.declared.tree.Tree.{Tree}
use Rattle.trees.proofs.FreeBlocks.{blocks_kept, contains-without}
use Rattle.space.specs.FreeSets.{FreeSpace, IsIdle, is_free}
use Rattle.tree_plans.specs.declared.planner.PlannedBlock.{PlannedBlock}
use Rattle.tree_plans.specs.declared.planner.TreePlan.{TreePlan}
use Rattle.import_replay.specs.FreeBlocks.{AreAllOthers, IsLeftByPlan, IsNamed, is_planned}
use Rattle.import_replay.proofs.FreeBlocks.{at_planned, not_both, planned_at}
use Rattle.import_replay.proofs.NamedBlocks.{named_or_not}

and_fails : (a b : Bool) → (not a && b) ≡ false → (a ≡ true) ⊎ (b ≡ false)
and_fails true b h = inl refl
and_fails false b h = inr h

-- How new pointers come from old ones, on a device of so many blocks: a block that they name is one that the old ones
-- name, or one of a plan, which they name all. Of the old ones' blocks they name just those that don't come back.
pub record AreMadeOf (blocks : ℕ) (old : Place → Pointer) (planned : List PlannedBlock) (freed : List ℕ) (new : Place → Pointer) : Type 0 where
  pub named_from : (address : ℕ) → IsBlockAddress blocks address → IsNamed new address → IsNamed old address ⊎ ((i : ℕ) × (b : PlannedBlock) × (slice_get planned i ≡ Some b) × (block_address b.index ≡ address))
  pub new_named : (i : ℕ) (b : PlannedBlock) → slice_get planned i ≡ Some b → IsNamed new (block_address b.index)
  pub freed_unnamed : (address : ℕ) → IsBlockAddress blocks address → IsAt freed address → IsNamed new address → ⊥
  pub stays_or_freed : (address : ℕ) → IsBlockAddress blocks address → IsNamed old address → IsNamed new address ⊎ IsAt freed address

module _ (t : Tree) (blocks : ℕ) (old new : FreeSpace) (plan : TreePlan) (log_block : ℕ) (unnamed : AreUnnamed blocks t old) (by : IsLeftByPlan plan log_block old new) where
  abbrev planned : List PlannedBlock
  planned = plan.blocks.items

  abbrev freed : List ℕ
  freed = plan.freed.items

  abbrev mid : FreeSpace
  mid = by.left

  abbrev log_address : ℕ
  log_address = block_address log_block

  -- the set keeps its size, and nothing is reserved
  pub left_sized : new.blocks ≡ blocks
  left_sized = ap (λ (s : FreeSpace). s.blocks) by.new_is ∙ blocks_kept (λ k. is_planned k planned) old mid by.taken ∙ unnamed.sized

  pub left_idle : IsIdle new
  left_idle = record {
    reserved = ap (λ (s : FreeSpace). s.reserved) by.new_is ∙ ap (λ (s : FreeSpace). s.reserved) by.taken.rest ∙ unnamed.idle.reserved;
    taken = ap (λ (s : FreeSpace). s.taken) by.new_is ∙ ap (λ (s : FreeSpace). s.taken) by.taken.rest ∙ unnamed.idle.taken;
  }

  abbrev came_back : FinSet nat_cmp
  came_back = set.from_list freed

  told : (q : ℕ) → set.contains new.free q ≡ (not (nat_eq log_address q) && (set.contains mid.free q || set.contains came_back q))
  told q =
      ap (λ (s : FreeSpace). set.contains s.free q) by.new_is ∙ contains-without (set.union mid.free came_back) log_address q
      ∙ ap (λ (b : Bool). not (nat_eq log_address q) && b) (contains-union nat_cmp_total mid.free came_back q)

  -- where a block is free, it is not that of the log, and was left or comes back
  was_left : (q : ℕ) → set.contains new.free q ≡ true → (nat_eq log_address q ≡ false) × ((set.contains mid.free q ≡ true) ⊎ IsAt freed q)
  was_left q h =
      let (other, rest) = not_and_parts (nat_eq log_address q) (set.contains mid.free q || set.contains came_back q) (sym (told q) ∙ h) in (
        other,
        elim (or_cases (set.contains mid.free q) (set.contains came_back q) rest) as (λ _. (set.contains mid.free q ≡ true) ⊎ IsAt freed q) [
          | inl stayed ↦ inl stayed
          | inr came ↦ inr (set-at freed q came)
        ],
      )

  not_left : (q : ℕ) → set.contains new.free q ≡ false → (q ≡ log_address) ⊎ ((set.contains mid.free q ≡ false) × (IsAt freed q → ⊥))
  not_left q h = elim (and_fails (nat_eq log_address q) (set.contains mid.free q || set.contains came_back q) (sym (told q) ∙ h)) as (λ _. (q ≡ log_address) ⊎ ((set.contains mid.free q ≡ false) × (IsAt freed q → ⊥))) [
    | inl log ↦ inl (sym (eqb-true log_address q log))
    | inr rest ↦ (let (gone, none) = or_parts (set.contains mid.free q) (set.contains came_back q) rest in inr (gone, λ at. false≢true (sym none ∙ at-set freed q at)))
  ]

  kept : (k : ℕ) → k < blocks → is_free k mid ≡ (is_free k old && not (is_planned k planned))
  kept k low = by.taken.each k (let count = unnamed.sized in omega (arith, low, count))

  module _ (returned : AreBlocksOf blocks freed) (pointers : Place → Pointer) (made : AreMadeOf blocks (pointers_of t) planned freed pointers) where
    in_area : (q : ℕ) → set.contains new.free q ≡ true → IsBlockAddress blocks q
    in_area q h = elim ((was_left q h).1) as (λ _. IsBlockAddress blocks q) [
      | inl stayed ↦ subst (λ (n : ℕ). IsBlockAddress n q) unnamed.sized (unnamed.placed q (by.taken.fewer q stayed))
      | inr came ↦ block_of blocks q (All-at (λ (address : ℕ). is_block_of blocks address ≡ true) freed came.0 q returned came.1)
    ]

    not_named : (q : ℕ) → set.contains new.free q ≡ true → IsNamed pointers q → ⊥
    not_named q h named = elim ((was_left q h).1) as (λ _. ⊥) [
      | inl stayed ↦ not_stayed (in_area q h) stayed
      | inr came ↦ made.freed_unnamed q (in_area q h) came named
    ]
      where
        not_stayed : IsBlockAddress blocks q → set.contains mid.free q ≡ true → ⊥
        not_stayed (k, low, at) stayed =
            let (was, unplanned) = and_not_parts (is_free k old) (is_planned k planned) (sym (kept k low) ∙ ap (λ (a : ℕ). set.contains mid.free a) (sym at) ∙ stayed) in
            elim (made.named_from q (k, low, at) named) as (λ _. ⊥) [
              | inl before ↦ (unnamed.each k low).0 was (subst (λ (a : ℕ). IsNamed (pointers_of t) a) at before)
              | inr taken ↦ false≢true (sym unplanned ∙ at_planned k planned taken.0 taken.1 taken.2 (taken.3 ∙ at))
            ]

    named_or_log : (q : ℕ) → set.contains new.free q ≡ false → IsBlockAddress blocks q → IsNamed pointers q ⊎ (q ≡ log_address)
    named_or_log q h (k, low, at) = elim (not_left q h) as (λ _. IsNamed pointers q ⊎ (q ≡ log_address)) [
      | inl log ↦ inr log
      | inr gone ↦ inl (by_flag (is_free k old) refl gone.0 gone.1)
    ]
      where
        by_flag : (b : Bool) → is_free k old ≡ b → set.contains mid.free q ≡ false → (IsAt freed q → ⊥) → IsNamed pointers q
        by_flag true was gone none =
            let p = planned_at k planned (not_both (is_free k old) (is_planned k planned) (sym (kept k low) ∙ ap (λ (a : ℕ). set.contains mid.free a) (sym at) ∙ gone) was) in
            subst (λ (a : ℕ). IsNamed pointers a) (p.3 ∙ sym at) (made.new_named p.0 p.1 p.2)
        by_flag false was gone none =
            elim (named_or_not (pointers_of t) (block_address k)) as (λ _. IsNamed pointers q) [
              | inl before ↦ (elim (made.stays_or_freed q (k, low, at) (subst (λ (a : ℕ). IsNamed (pointers_of t) a) (sym at) before)) as (λ _. IsNamed pointers q) [
                | inl stays ↦ stays
                | inr came ↦ absurd (none came)
              ])
              | inr unnamed_before ↦ absurd (false≢true (sym was ∙ (unnamed.each k low).1 unnamed_before))
            ]

    pub all_others_left : AreAllOthers pointers blocks log_address new.free
    all_others_left = record {
      in_area = in_area;
      unnamed = not_named;
      not_taken = λ q h same. false≢true (sym (was_left q h).0 ∙ eq-eqb log_address q (sym same));
      others = named_or_log;
    }
