-- Which call is next, by how many were made: before the uberblocks a block, a config of the first stage or a flush, and
-- a flush last; then the uberblock of each label, and a flush; after them a config of another label than that of the
-- new view, or a flush.
use Rattle.std.proofs.Common.{◌≡◌, ◌⊎◌, inl, inr, ℕ, zero, suc, ◌+◌, ◌-◌, ◌<◌, List, [], ◌∷◌, Option, Some, None, refl, sym, ◌∙◌, ap, subst, arith, vec_len}
use Rattle.std.specs.Prelude.{◌≢◌, slice_get, is_some}
use Rattle.std.proofs.lemmas.Bool.{cases_lt}
use Rattle.base.specs.disk.SyncOrder.{DeviceCall, calls_in_order}
use Rattle.base.specs.disk.SyncOrder.DeviceCall.{Block, Config, Uberblock, Flush}
use Rattle.base.specs.kept.SyncCalls.{stage_calls}
use Rattle.labels.specs.declared.stage.Stage.{Stage}
use Rattle.labels.specs.declared.stage.Stage.TheVariants.{Even, Odd}
use Rattle.sync.specs.declared.run.LabelStages.{LabelStages}
use Rattle.sync.specs.declared.run.SyncRun.{SyncRun}
use Rattle.sync.specs.CallOrder.{calls_behind_blocks, calls_behind_staged_blocks}
use Rattle.sync.specs.Calls.{first_labels, last_labels, IsNextCall, calls_of}
use Rattle.sync.specs.Phases.{first_label, calls_before_slots}
use Rattle.base.proofs.disk.SyncOrder.{block_stands, others_stand}

-- a call before the uberblocks: a block, a config of the first stage, or a flush
abbrev pub IsFrontCall : Option LabelStages → DeviceCall → Type 0
IsFrontCall stages (Block k) = Unit {0}
IsFrontCall stages (Config label) = (label < 4) × ((k : ℕ) × (slice_get (first_labels stages) k ≡ Some label))
IsFrontCall stages (Uberblock label) = ⊥
IsFrontCall stages Flush = Unit {0}

-- a label that the new view has not its fixed config in
abbrev pub IsOtherLabel : Option LabelStages → ℕ → Type 0
IsOtherLabel None label = ⊥
IsOtherLabel (Some stages) label = label ≢ first_label stages.first

-- a call after the uberblocks: a config of another label, or a flush
abbrev pub IsBackCall : Option LabelStages → DeviceCall → Type 0
IsBackCall stages (Block k) = ⊥
IsBackCall stages (Config label) = (label < 4) × IsOtherLabel stages label
IsBackCall stages (Uberblock label) = ⊥
IsBackCall stages Flush = Unit {0}

-- the call of a place after the blocks, where the uberblocks begin at the place `before`
abbrev pub IsTurn : Option LabelStages → ℕ → ℕ → DeviceCall → Type 0
IsTurn stages before place call =
    ((place < before) × IsFrontCall stages call × (place + 1 ≡ before → call ≡ Flush))
    ⊎ (((label : ℕ) × (label < 4) × (place ≡ before + label) × (call ≡ Uberblock label))
    ⊎ (((place ≡ before + 4) × (call ≡ Flush)) ⊎ ((before + 4 < place) × IsBackCall stages call)))

none_at : (k : ℕ) (call : DeviceCall) → slice_get [] k ≡ Some call → ⊥
none_at k call at = let no_way : None ≡ Some call = at in cc

plain_turn : (p : ℕ) (call : DeviceCall) → slice_get calls_behind_blocks p ≡ Some call → IsTurn None 1 p call
plain_turn zero call at = let same : Flush ≡ call = cc in inl (omega arith, subst (IsFrontCall None) same tt, λ last. sym same)
plain_turn (suc zero) call at = let same : Uberblock 0 ≡ call = cc in inr (inl (0, omega arith, refl, sym same))
plain_turn (suc (suc zero)) call at = let same : Uberblock 1 ≡ call = cc in inr (inl (1, omega arith, refl, sym same))
plain_turn (suc (suc (suc zero))) call at = let same : Uberblock 2 ≡ call = cc in inr (inl (2, omega arith, refl, sym same))
plain_turn (suc (suc (suc (suc zero)))) call at = let same : Uberblock 3 ≡ call = cc in inr (inl (3, omega arith, refl, sym same))
plain_turn (suc (suc (suc (suc (suc zero))))) call at = let same : Flush ≡ call = cc in inr (inr (inl (refl, sym same)))
plain_turn (suc (suc (suc (suc (suc (suc p)))))) call at = absurd (none_at p call at)

-- the twelve calls of a sync with these labels in its stages
abbrev staged_calls : ℕ → ℕ → ℕ → ℕ → List DeviceCall
staged_calls a b c d =
    Flush ∷ Config a ∷ Config b ∷ Flush ∷ Uberblock 0 ∷ Uberblock 1 ∷ Uberblock 2 ∷ Uberblock 3 ∷ Flush ∷ Config c ∷ Config d ∷ Flush ∷ []

module _ (s : Option LabelStages) (a b c d : ℕ) (is_a : IsFrontCall s (Config a)) (is_b : IsFrontCall s (Config b)) (is_c : IsBackCall s (Config c)) (is_d : IsBackCall s (Config d)) where
  staged_turn : (p : ℕ) (call : DeviceCall) → slice_get (staged_calls a b c d) p ≡ Some call → IsTurn s 4 p call
  staged_turn zero call at = let same : Flush ≡ call = cc in inl (omega arith, subst (IsFrontCall s) same tt, λ last. absurd (omega (arith, last)))
  staged_turn (suc zero) call at = let same : Config a ≡ call = cc in inl (omega arith, subst (IsFrontCall s) same is_a, λ last. absurd (omega (arith, last)))
  staged_turn (suc (suc zero)) call at = let same : Config b ≡ call = cc in inl (omega arith, subst (IsFrontCall s) same is_b, λ last. absurd (omega (arith, last)))
  staged_turn (suc (suc (suc zero))) call at = let same : Flush ≡ call = cc in inl (omega arith, subst (IsFrontCall s) same tt, λ last. sym same)
  staged_turn (suc (suc (suc (suc zero)))) call at = let same : Uberblock 0 ≡ call = cc in inr (inl (0, omega arith, refl, sym same))
  staged_turn (suc (suc (suc (suc (suc zero))))) call at = let same : Uberblock 1 ≡ call = cc in inr (inl (1, omega arith, refl, sym same))
  staged_turn (suc (suc (suc (suc (suc (suc zero)))))) call at = let same : Uberblock 2 ≡ call = cc in inr (inl (2, omega arith, refl, sym same))
  staged_turn (suc (suc (suc (suc (suc (suc (suc zero))))))) call at = let same : Uberblock 3 ≡ call = cc in inr (inl (3, omega arith, refl, sym same))
  staged_turn (suc (suc (suc (suc (suc (suc (suc (suc zero)))))))) call at = let same : Flush ≡ call = cc in inr (inr (inl (refl, sym same)))
  staged_turn (suc (suc (suc (suc (suc (suc (suc (suc (suc zero))))))))) call at = let same : Config c ≡ call = cc in inr (inr (inr (omega arith, subst (IsBackCall s) same is_c)))
  staged_turn (suc (suc (suc (suc (suc (suc (suc (suc (suc (suc zero)))))))))) call at = let same : Config d ≡ call = cc in inr (inr (inr (omega arith, subst (IsBackCall s) same is_d)))
  staged_turn (suc (suc (suc (suc (suc (suc (suc (suc (suc (suc (suc zero))))))))))) call at = let same : Flush ≡ call = cc in inr (inr (inr (omega arith, subst (IsBackCall s) same tt)))
  staged_turn (suc (suc (suc (suc (suc (suc (suc (suc (suc (suc (suc (suc p)))))))))))) call at = absurd (none_at p call at)

-- the call of each place after the blocks
behind_turn : (stages : Option LabelStages) (p : ℕ) (call : DeviceCall) → slice_get (calls_in_order 0 (is_some stages) (first_labels stages) (last_labels stages)) p ≡ Some call → IsTurn stages (1 + stage_calls stages) p call
behind_turn None p call at = plain_turn p call at
behind_turn (Some stages) p call at = by_first stages stages.first refl at
  where
    by_first : (s : LabelStages) (first : Stage) → s.first ≡ first → slice_get (calls_behind_staged_blocks first) p ≡ Some call → IsTurn (Some s) 4 p call
    by_first s Even is there =
        let labels : first_labels (Some s) ≡ 0 ∷ 2 ∷ [] = ap (λ (f : Stage). first_labels (Some (record s { first = f }))) is in
        let fixed : first_label s.first ≡ 0 = ap first_label is in
        staged_turn (Some s) 0 2 1 3 (omega arith, (0, ap (λ (l : List ℕ). slice_get l 0) labels)) (omega arith, (1, ap (λ (l : List ℕ). slice_get l 1) labels))
        (omega arith, λ same. omega (arith, same, fixed)) (omega arith, λ same. omega (arith, same, fixed)) p call there
    by_first s Odd is there =
        let labels : first_labels (Some s) ≡ 1 ∷ 3 ∷ [] = ap (λ (f : Stage). first_labels (Some (record s { first = f }))) is in
        let fixed : first_label s.first ≡ 1 = ap first_label is in
        staged_turn (Some s) 1 3 0 2 (omega arith, (0, ap (λ (l : List ℕ). slice_get l 0) labels)) (omega arith, (1, ap (λ (l : List ℕ). slice_get l 1) labels))
        (omega arith, λ same. omega (arith, same, fixed)) (omega arith, λ same. omega (arith, same, fixed)) p call there

-- the call of each place of a sync
pub turn_at : (run : SyncRun) (k : ℕ) (call : DeviceCall) → slice_get (calls_of run) k ≡ Some call → IsTurn run.stages (calls_before_slots run) k call
turn_at run k call next = elim (cases_lt k (vec_len run.blocks)) as (λ _. IsTurn run.stages (calls_before_slots run) k call) [
  | inl below ↦
      let stands : slice_get (calls_of run) k ≡ Some (Block k) = block_stands (vec_len run.blocks) (is_some run.stages) (first_labels run.stages) (last_labels run.stages) k below in
      let same : Block k ≡ call = cc in
      inl (omega (arith, below), subst (IsFrontCall run.stages) same tt, λ last. absurd (omega (arith, last, below)))
  | inr behind ↦
      let place : ℕ = k - vec_len run.blocks in
      let there : vec_len run.blocks + place ≡ k = omega (arith, behind) in
      let at : slice_get (calls_in_order 0 (is_some run.stages) (first_labels run.stages) (last_labels run.stages)) place ≡ Some call =
      sym (others_stand (vec_len run.blocks) (is_some run.stages) (first_labels run.stages) (last_labels run.stages) k place there) ∙ next in
      shifted place there (behind_turn run.stages place call at)
]
  where
    shifted : (place : ℕ) → vec_len run.blocks + place ≡ k → IsTurn run.stages (1 + stage_calls run.stages) place call → IsTurn run.stages (calls_before_slots run) k call
    shifted place there (inl (below, is, last)) = inl (omega (arith, below, there), is, λ n. last (omega (arith, n, there)))
    shifted place there (inr (inl (label, below, at, is))) = inr (inl (label, below, omega (arith, at, there), is))
    shifted place there (inr (inr (inl (at, is)))) = inr (inr (inl (omega (arith, at, there), is)))
    shifted place there (inr (inr (inr (behind, is)))) = inr (inr (inr (omega (arith, behind, there), is)))

-- the next call of a sync, by the calls that it has made
pub call_turn : (run : SyncRun) (call : DeviceCall) → IsNextCall run call → IsTurn run.stages (calls_before_slots run) run.done call
call_turn run call next = turn_at run run.done call next

-- the first uberblock is written after the calls before it
pub first_slot_stands : (run : SyncRun) → slice_get (calls_of run) (calls_before_slots run) ≡ Some (Uberblock 0)
first_slot_stands run =
    others_stand (vec_len run.blocks) (is_some run.stages) (first_labels run.stages) (last_labels run.stages) (calls_before_slots run) (1 + stage_calls run.stages) (omega arith) ∙ by_cases run.stages
  where
    by_cases : (stages : Option LabelStages) → slice_get (calls_in_order 0 (is_some stages) (first_labels stages) (last_labels stages)) (1 + stage_calls stages) ≡ Some (Uberblock 0)
    by_cases None = refl
    by_cases (Some stages) = by_stage stages.first
      where
        by_stage : (first : Stage) → slice_get (calls_behind_staged_blocks first) 4 ≡ Some (Uberblock 0)
        by_stage Even = refl
        by_stage Odd = refl
