-- A pool that keeps the crash rule with a past is explained by it.
use Rattle.std.proofs.Common.{List, ℕ, subst}
use Rattle.base.specs.steps.Explains.{Explains, ExplainsBytes}
use Rattle.base.specs.steps.Shown.{Shown}
use Rattle.base.specs.history.Past.{Past}
use Rattle.base.proofs.stored.StoredPlaces.{kept_distinct}
use Rattle.base.proofs.stored.StoredTrees.{stored-synced_tree}
use Rattle.pool_core.specs.KeptSafe.{IsKeptSafe, OnDisk}
use Rattle.pool_core.proofs.crash.SafeMoments.{kept_safe}

pub kept_explained : (x : OnDisk) → IsKeptSafe x → Explains (Unit {0}) x.disk x.held.state.shown x.held.state.past
kept_explained x safe =
    let now : List ℕ = x.held.now in
    let s : Shown = x.held.state.shown in
    let past : Past = x.held.state.past in
    let stored = safe.held.kept.stored in
    record {
      present = subst (λ (bytes : List ℕ). ExplainsBytes (Unit {0}) bytes s past) safe.same_bytes (record {
        exact = safe.held.explained.exact;
        history = λ _. safe.held.explained.history;
        tree = λ _. stored-synced_tree now s x.held.pointers past stored;
        free = λ _. stored.free;
        distinct = λ _. kept_distinct now s x.held.pointers x.held.running past safe.held.kept;
      });
      safe = λ _. kept_safe x safe;
    }
