-- What is known of the log of a view from state to state, and of the view of a sync that starts: its log is that of the
-- old view from its header on.
use Rattle.std.proofs.Common.{◌≡◌, ◌∙◌, ℕ, ◌+◌, ◌-◌, ◌≤◌, Bool, false, List, drop, length, ap, sym, subst, arith, length-drop}
use Rattle.std.specs.Prelude.{slice_get, Some}
use Rattle.base.specs.kept.LogRule.{AreLogBlocksBelow, IsLogHeld}
use Rattle.base.specs.kept.Views.{Logged, View}
use Rattle.base.specs.disk.Disk.{Moment, Write, handed}
use Rattle.base.proofs.crash.LogStarts.{below_of_group, drop-at}

-- the log of a view stays held with the same create, also once a write was refused
pub held_as : (size t other flushed : ℕ) (refused now_refused : Bool) (m : Moment) (v : View) → other ≡ t → (now_refused ≡ false → refused ≡ false) → IsLogHeld size t flushed refused m v → IsLogHeld size other flushed now_refused m v
held_as size t other flushed refused now_refused m v same weaker held =
    subst (λ (c : ℕ). IsLogHeld size c flushed now_refused m v) (sym same) (record { below = held.below; kept = held.kept; stand = λ fine. held.stand (weaker fine) })

-- Of the old view so many blocks are fixed, and the new one has all but those before its header.
module _ (size t d flushed : ℕ) (old new : View) (same_guid : new.u.guid ≡ old.u.guid) (same_chain : new.u.import_number ≡ old.u.import_number) (number_is : new.u.log_number ≡ old.u.log_number + d) (short : d ≤ length old.logged)
    (rest : new.logged ≡ drop d old.logged) where
  more_below : (ws : List Write) (count : ℕ) → AreLogBlocksBelow size t ws old count → AreLogBlocksBelow size t ws old (d + (count - d))
  more_below ws count below k number content block in_area some is = let low = below k number content block in_area some is in omega (arith, low)

  new_below : (ws : List Write) (count : ℕ) → AreLogBlocksBelow size t ws old count → AreLogBlocksBelow size t ws new (count - d)
  new_below ws count below =
      let same : d + (count - d) - d ≡ count - d = omega arith in
      subst (λ (n : ℕ). AreLogBlocksBelow size t ws new n) same (below_of_group size t d old new same_guid same_chain number_is short rest ws (d + (count - d)) (omega arith) (more_below ws count below))

  pub held_from : (refused : Bool) (m : Moment) → IsLogHeld size t flushed refused m old → IsLogHeld size t (flushed - d) refused m new
  held_from refused m held =
      let long : length new.logged ≡ length old.logged - d = ap (λ (ls : List Logged). length ls) rest ∙ length-drop d old.logged in
      record {
        below = subst (λ (n : ℕ). AreLogBlocksBelow size t (handed m) new n) (sym long) (new_below (handed m) (length old.logged) held.below);
        kept = new_below m.kept flushed held.kept;
        stand = λ fine i l at. held.stand fine (d + i) l (drop-at d old.logged i l (subst (λ (ls : List Logged). slice_get ls i ≡ Some l) rest at));
      }
