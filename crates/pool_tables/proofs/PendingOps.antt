-- The unsynced transactions of a pool are those of its history above the synced group, so a group that waits has the
-- operations of both.
use Rattle.std.proofs.Common.{◌≡◌, ℕ, ◌+◌, ◌<◌, Bool, true, false, cond, List, [], ◌∷◌, ◌++◌, map, filter, refl, ap, sym, ◌∙◌, nat_lt}
use Rattle.std.specs.Prelude.{◌==◌}
use Rattle.std.specs.List.{enumerate_from, flat_map}
use Rattle.std.proofs.lemmas.Bool.{eqb-true, lt-ltb, false≢true}
use Rattle.base.specs.declared.operation.Op.{Op}
use Rattle.base.specs.formats.Records.{Record}
use Rattle.base.specs.history.History.{Entry, entries_in}
use Rattle.base.specs.history.Past.{Past}
use Rattle.base.specs.steps.Tables.{AreTablesExplained}
use Rattle.base.specs.steps.Logs.{record_of_entry, unsynced_records}
use Rattle.base.specs.steps.Shown.{Shown}
use Rattle.base.specs.steps.Steps.{ops_of_group}
use Rattle.records.specs.declared.record.Record as code
use Rattle.tree_plans.specs.Marks.{pending_ops}
use Rattle.records.specs.Records.{record_fields}

-- the operations of a group among unsynced records
abbrev record_ops : ℕ → List Record → List Op
record_ops group rs = flat_map (λ (r : Record). r.ops) (filter (λ (r : Record). r.group == group) rs)

told_ops : (group : ℕ) (cs : List code.Record) → record_ops group (map record_fields cs) ≡ pending_ops group cs
told_ops group [] = refl
told_ops group (c ∷ cs) = by (c.group.0 == group) (told_ops group cs)
  where
    by : (b : Bool) → record_ops group (map record_fields cs) ≡ pending_ops group cs
        → flat_map (λ (r : Record). r.ops) (cond b (record_fields c ∷ filter (λ (r : Record). r.group == group) (map record_fields cs)) (filter (λ (r : Record). r.group == group) (map record_fields cs)))
        ≡ flat_map (λ (x : code.Record). x.ops) (cond b (c ∷ filter (λ (x : code.Record). x.group.0 == group) cs) (filter (λ (x : code.Record). x.group.0 == group) cs))
    by true e = ap (λ (l : List Op). c.ops ++ l) e
    by false e = e

module _ (synced group : ℕ) (below : synced < group) where
  abbrev is_above : Record → Bool
  is_above r = nat_lt synced r.group

  abbrev above_from : ℕ → List Entry → List Record
  above_from n es = filter is_above (map record_of_entry (enumerate_from n es))

  -- the records above the synced group have the operations of a later one
  entry_ops : (n : ℕ) (es : List Entry) → record_ops group (above_from n es) ≡ ops_of_group group es
  entry_ops n [] = refl
  entry_ops n (e ∷ es) = by (is_above r) refl (e.group == group) refl (entry_ops (n + 1) es)
    where
      r : Record
      r = record_of_entry (n, e)

      others : List Record
      others = above_from (n + 1) es

      by : (a : Bool) → is_above r ≡ a → (b : Bool) → (e.group == group) ≡ b → record_ops group others ≡ ops_of_group group es
          → record_ops group (cond a (r ∷ others) others) ≡ flat_map (λ (x : Entry). x.ops) (cond b (e ∷ entries_in group es) (entries_in group es))
      by true above true is rest =
          ap (λ (b : Bool). flat_map (λ (x : Record). x.ops) (cond b (r ∷ filter (λ (x : Record). x.group == group) others) (filter (λ (x : Record). x.group == group) others))) is ∙ ap (λ (l : List Op). e.ops ++ l) rest
      by true above false is rest =
          ap (λ (b : Bool). flat_map (λ (x : Record). x.ops) (cond b (r ∷ filter (λ (x : Record). x.group == group) others) (filter (λ (x : Record). x.group == group) others))) is ∙ rest
      by false above true is rest = absurd (false≢true (sym above ∙ ap (λ (g : ℕ). nat_lt synced g) (eqb-true e.group group is) ∙ lt-ltb synced group below))
      by false above false is rest = rest

-- each group above the synced one has its operations among the unsynced records
pub unsynced_are : (s : Shown) (p : Past) → AreTablesExplained s p → (unsynced : List code.Record) → s.log.unsynced ≡ map record_fields unsynced → (group : ℕ) → s.line.synced < group
    → ops_of_group group p.entries ≡ pending_ops group unsynced
unsynced_are s p explained unsynced log group below =
    let told : map record_fields unsynced ≡ unsynced_records s.line.synced p.entries = sym log ∙ explained.exact.log.unsynced in
    sym (entry_ops s.line.synced group below 0 p.entries) ∙ ap (λ (rs : List Record). record_ops group rs) (sym told) ∙ told_ops group unsynced
