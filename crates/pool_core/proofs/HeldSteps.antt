-- A step that moves the bytes, the pointers and the running sync as the definitions say keeps what a pool keeps of its
-- device.
use Rattle.std.proofs.Common.{◌≡◌, ℕ, List, sym, subst, ◌∙◌}
use Rattle.std.specs.Prelude.{Option, None}
use Rattle.base.specs.declared.pointer.Pointer.{Pointer}
use Rattle.base.specs.declared.step.Step as declared_step
use Rattle.base.specs.declared.step.Reply as declared_reply
use Rattle.base.specs.declared.step.Reply.TheVariants as reply
use Rattle.base.specs.history.Past.{Past}
use Rattle.base.specs.tree.Places.{Place}
use Rattle.base.specs.tree.Places.Place.{Root}
use Rattle.base.specs.steps.Shown.{Shown}
use Rattle.base.specs.kept.Stored.{IsHeld, IsStored, NewTree, RunsAs, frame_at}
use Rattle.base.proofs.stored.StoredRuns.{moves-keep}
use Rattle.base.proofs.tree.SamePlaces.{holds_as}
use Rattle.pool_tables.specs.Told.{Leads, SamePlaces, ShownPool, held_with}
use Rattle.pool_core.specs.Holds.{IsStepOver}

-- what is stored with some pointers is stored with others that are the same at each place
stored_as : (now : List ℕ) (s : Shown) (old new : Place → Pointer) (past : Past) → SamePlaces new old → IsStored now s old past → IsStored now s new past
stored_as now s old new past same x = record {
  synced = x.synced;
  replayed = x.replayed;
  blocks = x.blocks;
  tree = holds_as now (frame_at s s.line.synced) old new same x.synced.objects x.tree;
  root = same Root tt ∙ x.root;
  free = x.free;
  log_in_area = x.log_in_area;
  log_places = x.log_places;
  log_apart = x.log_apart;
}

-- where no sync runs, what is kept with some pointers is kept with others that are the same at each place
kept_as : (t : ShownPool) (pointers : Place → Pointer) (past : Past) → SamePlaces t.pointers pointers → t.running ≡ None → IsHeld (held_with (record t { pointers = pointers }) past) → IsHeld (held_with t past)
kept_as t pointers past same none x = record {
  explained = x.explained;
  kept = record {
    stored = stored_as t.now t.shown pointers t.pointers past same x.kept.stored;
    sync = subst (λ (o : Option NewTree). RunsAs t.now t.shown t.pointers o past) (sym none) (subst (λ (o : Option NewTree). RunsAs t.now t.shown pointers o past) none x.kept.sync);
    geometry = x.kept.geometry;
    labels = x.kept.labels;
    configs = x.kept.configs;
  };
}

module _ (s : declared_step.Step) (old new : ShownPool) (past later : Past) (x : IsHeld (held_with old past)) where
  -- a step that leads so keeps it
  pub leads_keep : (r : declared_reply.Reply) → IsStepOver s r (held_with old past) (held_with new later) → Leads r old new → IsHeld (held_with new later)
  leads_keep (reply.Synced group) h (pointers, same, m) =
      let at = m past later in
      kept_as new pointers later same at.4 (moves-keep (held_with old past) (held_with (record new { pointers = pointers }) later) x (Unit {0}) old.now s (reply.Synced group) h at)
  leads_keep r h m = moves-keep (held_with old past) (held_with new later) x (Unit {0}) old.now s r h (m past later)
