-- What is reserved for a group suffices for its sync: its operations are its transactions', each once, and the free
-- blocks cover what is reserved.
use Rattle.std.proofs.Common.{◌≡◌, ℕ, ◌+◌, ◌-◌, ◌<◌, ◌≤◌, Bool, true, false, not, ◌&&◌, List, [], ◌∷◌, length, get_or, map, refl, ap, sym, subst, ◌∙◌, arith}
use Rattle.std.specs.Prelude.{Option, Some, None, IfSome, is_some, option_map, unwrap_or, slice_get, cond, sum_by, ◌==◌}
use Rattle.std.specs.List.{flat_map}
use Rattle.std.proofs.lemmas.Bool.{ne_eqb, eq-eqb, true≢false}
use Rattle.std.proofs.lemmas.List.{map-append}
use Rattle.std.proofs.lemmas.List.Folds.{fold-map}
use Rattle.std.proofs.lemmas.List.FromFn.{get_or-range_with_len, length-range_with_len}
use Rattle.std.proofs.lemmas.List.Sums.{sum_by-append, sum_by-cons, get_or-le-sum_by}
use Rattle.std.proofs.lemmas.Option.{slice_get_within, slice_get-map, get_or_from_slice_get}
use Rattle.base.specs.history.Plans.{shape_of, estimate_of_shape, estimate_of}
use Rattle.base.specs.history.History.{Entry, entries_in}
use Rattle.base.specs.tree.Syncs.{written_places}
use Rattle.base.specs.steps.Locks.{is_in}
use Rattle.base.specs.steps.Groups.{Line, Middle, IsLine, Admission, AreMembers, before_middle, before_open}
use Rattle.base.specs.steps.Charges.{transactions_of, estimate_sum}
use Rattle.base.specs.steps.Shown.{Shown, SyncPlan, reserved_of, reserved_total, unsynced_groups, free_count, taken_of}
use Rattle.base.specs.steps.Refusals.{quiesced_group}
use Rattle.base.specs.steps.Steps.{ops_of_group}
use Rattle.base.specs.steps.Space.{GroupsFit, SyncsHaveRoom}
use Rattle.base.proofs.common.KeptLists.{at_filter, pair_filter, any_at, any_none}
use Rattle.base.proofs.steps.KeptGroups.{quiesced_is}
use Rattle.base.proofs.tree.Sums.{sum_by-filter, apart_within}
use Rattle.base.proofs.tree.Estimates.{syncs_fit}

-- what the operations of a transaction are estimated at
abbrev estimate_of_entry : Entry → ℕ
estimate_of_entry e = estimate_of (map shape_of e.ops)

pub estimate-flat_map : (entries : List Entry) → estimate_of (map shape_of (flat_map (λ (e : Entry). e.ops) entries)) ≡ sum_by estimate_of_entry entries
estimate-flat_map [] = refl
estimate-flat_map (e ∷ entries) =
    ap (λ shapes. estimate_of shapes) (map-append shape_of e.ops (flat_map (λ (f : Entry). f.ops) entries))
    ∙ sum_by-append estimate_of_shape (map shape_of e.ops) (map shape_of (flat_map (λ (f : Entry). f.ops) entries))
    ∙ ap (λ n. estimate_of_entry e + n) (estimate-flat_map entries) ∙ sym (sum_by-cons estimate_of_entry e entries)

module _ (l : Line) (admissions : List Admission) (entries : List Entry) (aborted : List ℕ) (group : ℕ) (m : AreMembers l admissions entries aborted) where
  abbrev is_of_group : Admission → Bool
  is_of_group a = (a.group == group) && not (is_in a.tx aborted)

  abbrev estimate_in : Admission → ℕ
  estimate_in a = cond (is_of_group a) (estimate_of a.plan) 0

  -- a committed transaction is not aborted
  not-aborted : (i : ℕ) (e : Entry) → slice_get entries i ≡ Some e → is_in e.tx aborted ≡ false
  not-aborted i e at = any_none (λ t. e.tx == t) aborted (λ j t at_t. ne_eqb e.tx t
      (λ same. true≢false (sym (any_at (λ (f : Entry). t == f.tx) entries i e at (eq-eqb t e.tx (sym same))) ∙ (m.never_committed j t at_t).1)))

  group_fits : estimate_of (map shape_of (ops_of_group group entries)) ≤ estimate_sum (transactions_of group admissions aborted)
  group_fits =
      let each : sum_by estimate_of_entry (entries_in group entries) ≤ sum_by (λ n. n) (map estimate_in admissions) = apart_within (λ (e : Entry). e.tx) estimate_of_entry (entries_in group entries) (map estimate_in admissions) there apart in
      let counted : sum_by (λ n. n) (map estimate_in admissions) ≡ sum_by estimate_in admissions = fold-map (λ n x. n + x) estimate_in 0 admissions in
      let kept : estimate_sum (transactions_of group admissions aborted) ≡ sum_by estimate_in admissions = sum_by-filter is_of_group (λ (a : Admission). estimate_of a.plan) admissions in
      let flat : estimate_of (map shape_of (ops_of_group group entries)) ≡ sum_by estimate_of_entry (entries_in group entries) = estimate-flat_map (entries_in group entries) in
      omega arith
    where
      there : (i : ℕ) (e : Entry) → slice_get (entries_in group entries) i ≡ Some e → (e.tx < length (map estimate_in admissions)) × (estimate_of_entry e ≤ get_or (map estimate_in admissions) e.tx 0)
      there i e at =
          let found : (j : ℕ) × (slice_get entries j ≡ Some e) × ((e.group == group) ≡ true) = at_filter (λ (f : Entry). f.group == group) entries i e at in
          let c = m.committed found.0 e found.1 in
          let a : Admission = c.0 in
          let at_a : slice_get (map estimate_in admissions) e.tx ≡ Some (estimate_in a) = slice_get-map estimate_in admissions e.tx ∙ ap (λ o. option_map estimate_in o) c.1 in
          let read : get_or (map estimate_in admissions) e.tx 0 ≡ estimate_in a = get_or_from_slice_get (map estimate_in admissions) e.tx (estimate_in a) 0 at_a in
          let in_group : (a.group == group) ≡ true = ap (λ g. g == group) c.2 ∙ found.2 in
          let kept : is_in a.tx aborted ≡ false = ap (λ t. is_in t aborted) (m.numbered e.tx a c.1) ∙ not-aborted found.0 e found.1 in
          let whole : estimate_in a ≡ estimate_of a.plan = ap (λ b. cond (b && not (is_in a.tx aborted)) (estimate_of a.plan) 0) in_group ∙ ap (λ b. cond (not b) (estimate_of a.plan) 0) kept in
          let same : estimate_of_entry e ≡ estimate_of a.plan = ap (λ plan. estimate_of plan) c.3 in
          (slice_get_within (map estimate_in admissions) e.tx (estimate_in a) at_a, omega arith)

      apart : (i j : ℕ) (e f : Entry) → i < j → slice_get (entries_in group entries) i ≡ Some e → slice_get (entries_in group entries) j ≡ Some f → e.tx ≡ f.tx → ⊥
      apart i j e f below at_i at_j =
          let pair = pair_filter (λ (x : Entry). x.group == group) entries i j e f below at_i at_j in
          m.once pair.0 pair.1 e f pair.2 pair.3 pair.4

pub groups_fit : GroupsFit
groups_fit = group_fits

-- while no sync runs, none has taken blocks
pub none-taken : (o : Option SyncPlan) → is_some o ≡ false → length (taken_of o) ≡ 0
none-taken None none = refl
none-taken (Some plan) none = absurd (true≢false none)

-- what is reserved for an unsynced group is part of all that is reserved
pub reserved_within : (s : Shown) (group : ℕ) → s.line.synced < group → group ≤ s.line.open_group → reserved_of s group ≤ reserved_total s
reserved_within s group above below =
    let inside : group - (s.line.synced + 1) < length (unsynced_groups s.line) = omega (arith, length-range_with_len (s.line.synced + 1) (s.line.open_group - s.line.synced)) in
    let there : get_or (unsynced_groups s.line) (group - (s.line.synced + 1)) 0 ≡ group =
    get_or-range_with_len (s.line.synced + 1) (s.line.open_group - s.line.synced) (group - (s.line.synced + 1)) 0 (omega arith) ∙ (let back : s.line.synced + 1 + (group - (s.line.synced + 1)) ≡ group = omega arith in back) in
    subst (λ g. reserved_of s g ≤ reserved_total s) there (get_or-le-sum_by (reserved_of s) (unsynced_groups s.line) (group - (s.line.synced + 1)) 0 inside)

-- the quiesced group is the one after the synced group while no sync runs
pub quiesced_next : (l : Line) (group : ℕ) → IsLine l → l.syncing ≡ None → quiesced_group l ≡ Some group → (l.synced < group) × (group ≤ l.open_group)
quiesced_next l group x idle quiesced =
    let middle : l.middle ≡ Some (record { group = group; quiesced = true }) = quiesced_is l group quiesced in
    let next : group ≡ before_middle l + 1 = subst (λ o. IfSome o (λ (m : Middle). m.group ≡ before_middle l + 1)) middle x.middle in
    let behind : l.open_group ≡ group + 1 = subst (λ o. l.open_group ≡ before_open o l + 1) middle x.open_group in
    let synced : before_middle l ≡ l.synced = ap (λ o. unwrap_or o l.synced) idle in
    (omega arith, omega arith)

pub syncs_have_room : SyncsHaveRoom
syncs_have_room s group synced had_block groups sync x idle quiesced =
    let at : (s.shown.line.synced < group) × (group ≤ s.shown.line.open_group) = quiesced_next s.shown.line group groups.line idle quiesced in
    let written : length (written_places (ops_of_group group s.past.entries) synced had_block) ≤ estimate_of (map shape_of (ops_of_group group s.past.entries)) = syncs_fit (ops_of_group group s.past.entries) synced had_block in
    let fits : estimate_of (map shape_of (ops_of_group group s.past.entries)) ≤ estimate_sum (transactions_of group s.past.admissions s.past.aborted) = group_fits s.shown.line s.past.admissions s.past.entries s.past.aborted group groups.members in
    let reserved : reserved_of s.shown group ≡ estimate_sum (transactions_of group s.past.admissions s.past.aborted) = x.charges.reserved group at.0 in
    let part : reserved_of s.shown group ≤ reserved_total s.shown = reserved_within s.shown group at.0 at.1 in
    let none : length (taken_of s.shown.sync) ≡ 0 = none-taken s.shown.sync (sync.running ∙ ap (λ o. is_some o) idle) in
    let enough : reserved_total s.shown ≤ free_count s.shown + length (taken_of s.shown.sync) = x.blocks.room in
    omega arith
