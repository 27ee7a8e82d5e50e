-- What callers take from the device that a command gives back: what is found of it after a crash.
use Rattle.std.proofs.Common.{◌≡◌, ◌≢◌, ◌⊎◌, ◌∷◌, [], ℕ, List, ap, arith, inl, inr, refl, subst, ◌∙◌}
use Rattle.std.specs.Prelude.{IfSome, IsTrue, None, Option, Some}
use Rattle.std.specs.FinMap as map
use Rattle.std.proofs.Math.Logic.{∥∥₁_map}
use Rattle.base.specs.declared.names.ObjectId.{ObjectId}
use Rattle.base.specs.disk.Disk.{Disk, moments}
use Rattle.base.specs.disk.Fairness.{LeavesFairNow}
use Rattle.base.specs.history.Contents.{Contents}
use Rattle.base.specs.history.Past.{Past}
use Rattle.base.specs.kept.LeftDisks.{IsLeft}
use Rattle.base.specs.steps.Explains.{IsLeftBy, MountsToCut}
use Rattle.base.specs.tree.Mount.{MountsTo}
use Rattle.base.proofs.crash.MountLaws.{own_disks_mount}
use Rattle.running_pools.specs.LeftDevices.{HoldsContents, IsLeftUpon, LeavesContents, LosesNothing, StillHolds}
use Rattle.device_model.specs.declared.device.SectorDevice.{Ghosts}
use Rattle.import_replay.specs.OwnCreations.{first_contents}
use Rattle.pool_threads.specs.Handles.{LeavesSame}
use Rattle.commands.specs.LeftContents.{HasPut, HasRemoved, KeepsOthers}
use Rattle.commands.specs.NewPools.{CreatesOn}
use Rattle.commands.specs.Puts.{bytes_put}

abbrev seven : ObjectId
seven = record { 0 = 7 }

-- a status of 0 is not 1
pub not_one : {status : ℕ} → status ≡ 0 → status ≢ 1
not_one zero one = absurd (omega (arith, zero, one))

-- whatever a crash leaves of a disk mounts contents of which this is so
abbrev FindsNow : (Contents → Type 0) → Disk → ℕ → Type 0
FindsNow P disk created = LeavesFairNow disk created (λ image. (c : Contents) × MountsTo image c × P c)

-- so it is by the contents that an import would have found before
abbrev FindsAfter : (Contents → Contents → Type 0) → Past → Disk → Type 0
FindsAfter P past disk = ∥ ((base : Contents) × IsLeftBy past base × FindsNow (P base) disk past.created) ∥₁

found_now : (P Q : Contents → Contents → Type 0) → ((base c : Contents) → P base c → Q base c) → (past later : Past) (disk : Disk) → IsLeftUpon past later disk → ((c : Contents) → IsLeftBy later c → P later.base c) → FindsNow (Q later.base) disk past.created
found_now P Q each past later disk left so =
    let safe : LeavesFairNow disk past.created (λ image. MountsToCut image later) = subst (λ (t : ℕ). LeavesFairNow disk t (λ image. MountsToCut image later)) left.created left.safe in
    record {
      bytes = safe.bytes;
      each = λ image may fair. let cut = safe.each image may fair in (cut.contents, cut.mounts, each later.base cut.contents (so cut.contents cut.left));
    }

found_after : (P Q : Contents → Contents → Type 0) → ((base c : Contents) → P base c → Q base c) → (old new : Disk) → LeavesContents P old new → (past : Past) → IsLeft past old → FindsAfter Q past new
found_after P Q each old new leaves past was =
    ∥∥₁_map {B = (base : Contents) × IsLeftBy past base × FindsNow (Q base) new past.created} (leaves past was) (λ (later, so, left). (later.base, left.base, found_now P Q each past later new left so))

abbrev OthersStay : Contents → Contents → Type 0
OthersStay base c = (other : ℕ) → other ≢ 7 → map.get c.objects other ≡ map.get base.objects other

module _ {Dev : Type 0} (G : Ghosts Dev) (device after : Dev) (keeps : IsTrue G.keeps_model) (past : Past) (was : IsLeft past (G.disk device)) where
  pub two_found : (bytes : List ℕ) → bytes ≡ 1 ∷ 2 ∷ [] → HoldsContents G (HasPut seven None bytes) device after
      → FindsAfter (λ base c. (map.get c.objects 7 ≡ Some (1 ∷ 2 ∷ [])) × OthersStay base c) past (G.disk after)
  two_found bytes are holds =
      found_after (HasPut seven None bytes) (λ base c. (map.get c.objects 7 ≡ Some (1 ∷ 2 ∷ [])) × OthersStay base c) (λ base c has. (has.0 ∙ ap (λ (l : List ℕ). Some l) are, has.1.0)) (G.disk device) (G.disk after) (holds keeps) past was

  pub one_found : (bytes : List ℕ) → bytes ≡ 5 ∷ [] → HoldsContents G (HasPut seven (Some 1) bytes) device after
      → FindsAfter (λ base c. map.get base.objects 7 ≡ Some (10 ∷ 11 ∷ 12 ∷ []) → map.get c.objects 7 ≡ Some (10 ∷ 5 ∷ 12 ∷ [])) past (G.disk after)
  one_found bytes are holds =
      found_after (HasPut seven (Some 1) bytes) (λ base c. map.get base.objects 7 ≡ Some (10 ∷ 11 ∷ 12 ∷ []) → map.get c.objects 7 ≡ Some (10 ∷ 5 ∷ 12 ∷ []))
      (λ base c has there. has.0 ∙ ap (λ (l : List ℕ). Some (bytes_put (Some 1) l (map.get base.objects 7))) are ∙ ap (λ (before : Option (List ℕ)). Some (bytes_put (Some 1) (5 ∷ []) before)) there)
      (G.disk device) (G.disk after) (holds keeps) past was

  pub none_found : HoldsContents G (HasRemoved seven) device after → FindsAfter (λ base c. (map.get c.objects 7 ≡ None) × OthersStay base c × (c.name ≡ base.name)) past (G.disk after)
  none_found holds =
      found_after (HasRemoved seven) (λ base c. (map.get c.objects 7 ≡ None) × OthersStay base c × (c.name ≡ base.name)) (λ base c has. (has.0, has.1.0, has.1.1)) (G.disk device) (G.disk after) (holds keeps) past was

  -- what an import finds of object 8 is what one would have found before
  abbrev EightStays : Past → Type 0
  EightStays later = (c : Contents) → IsLeftBy later c → (base : Contents) × IsLeftBy past base × (map.get c.objects 8 ≡ map.get base.objects 8)

  pub eight_stays : StillHolds G (KeepsOthers seven) device after → ∥ ((later : Past) × IsLeft later (G.disk after) × EightStays later) ∥₁
  eight_stays holds = by (holds keeps)
    where
      other : ◌≢◌ {A = ℕ} 8 7
      other same = absurd (omega (arith, same))

      by : LeavesSame (G.disk device) (G.disk after) ⊎ LeavesContents (KeepsOthers seven) (G.disk device) (G.disk after) → ∥ ((later : Past) × IsLeft later (G.disk after) × EightStays later) ∥₁
      by (inl same) = ∣ (past, same past was, (λ c is. (c, is, refl))) ∣₁
      by (inr leaves) =
          ∥∥₁_map {B = (later : Past) × IsLeft later (G.disk after) × EightStays later} (leaves past was) (λ (later, so, left). (later, left.left, (λ c is. (later.base, left.base, (so c is).0 8 other))))

-- what comes back from a command that loses nothing goes on from what an import would have found
abbrev GoesOnFrom : Past → Past → Type 0
GoesOnFrom past later = (c : Contents) → IsLeftBy later c → (base : Contents) × IsLeftBy past base

pub lost_none : {Dev : Type 0} (G : Ghosts Dev) (device : Dev) (back : Option Dev) → IfSome back (LosesNothing G device)
    → IfSome back (λ after. IsTrue G.keeps_model → (past : Past) → IsLeft past (G.disk device) → ∥ ((later : Past) × IsLeft later (G.disk after) × GoesOnFrom past later) ∥₁)
lost_none G device None holds = tt
lost_none G device (Some after) holds = λ keeps past was. by past was (holds keeps)
  where
    by : (past : Past) → IsLeft past (G.disk device) → LeavesSame (G.disk device) (G.disk after) ⊎ LeavesContents (λ base c. Unit {0}) (G.disk device) (G.disk after) → ∥ ((later : Past) × IsLeft later (G.disk after) × GoesOnFrom past later) ∥₁
    by past was (inl same) = ∣ (past, same past was, (λ c is. (c, is))) ∣₁
    by past was (inr leaves) =
        ∥∥₁_map {B = (later : Past) × IsLeft later (G.disk after) × GoesOnFrom past later} (leaves past was) (λ (later, so, left). (later, left.left, (λ c is. (later.base, left.base))))

-- a new pool has this name and no objects, whatever crash comes
pub new_found : {Dev : Type 0} (G : Ghosts Dev) (name given : List ℕ) (guid moment : ℕ) (device after : Dev) → name ≡ given → IsTrue G.keeps_model → CreatesOn G name guid moment device after
    → FindsNow (λ c. (c.name ≡ given) × (c.objects ≡ map.empty)) (G.disk after) (moments (G.disk device))
new_found G name given guid moment device after is keeps made =
    let own = own_disks_mount (G.disk after) (moments (G.disk device)) guid (first_contents name) (made.own keeps) in
    record { bytes = own.0.bytes; each = λ image may fair. (first_contents name, own.0.each image may fair, (is, refl)) }
