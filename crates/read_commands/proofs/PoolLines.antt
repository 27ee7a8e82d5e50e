-- What `create`, `show` and `ls` write is of the pool that was made, or of what was found.
use Rattle.std.proofs.Common.{◌≡◌, ◌++◌, ◌+◌, ◌<◌, ap, append_assoc, drop, get_or, length, ℕ, List, [], Result, Ok, Err, IsTrue, refl, subst, sym, ◌∙◌}
use Rattle.std.specs.Fmt.{digits}
use Rattle.std.specs.Io.KnownBytes.{Appends}
use Rattle.std.specs.Prelude.{IfOk, Option, Some, codes}
use Rattle.std.proofs.KnownBytes.{Appends-trans}
use Rattle.std.proofs.lemmas.List.{drop_more}
use Rattle.base.specs.tree.Mount.{IsMounted, Mount, MountsTo}
use Rattle.base.specs.declared.names.ObjectId.{ObjectId}
use Rattle.base.specs.disk.Disk.{bytes_of}
use Rattle.base.specs.formats.Geometry.{block_count}
use Rattle.base.specs.history.Contents.{Contents}
use Rattle.base.proofs.crash.OneMount.{mounts_agree}
use Rattle.device_model.specs.declared.device.SectorDevice.{Ghosts}
use Rattle.file_devices.specs.declared.held_file.FileRefusal.{FileRefusal}
use Rattle.inspections.specs.Inspections.{AgreesWithImports, IsInspectionOf, IsToldOf}
use Rattle.inspections.specs.declared.inspection.Inspected.{Inspected}
use Rattle.read_commands.specs.Failures.{sector_bytes}
use Rattle.object_views.specs.Listings.{IsListingOf, IsListingOfMount}
use Rattle.object_views.specs.declared.listing.ListedPool.{ListedPool}
use Rattle.read_commands.specs.PoolLines.{WritesInspected, WritesListing, created_line, fast_lines, object_line, object_lines, shown_lines}
use Rattle.read_commands.proofs.MountedBytes.{appended}

-- one line more is written
pub next_object : (all : List (ObjectId × ℕ)) (i : ℕ) (d : ObjectId × ℕ) (before now after : Option (List ℕ)) (front : List ℕ) → i < length all → Appends before now front
    → object_lines all ≡ front ++ object_lines (drop i all) → Appends now after (object_line (get_or all i d))
    → (lines : List ℕ) × Appends before after lines × (object_lines all ≡ lines ++ object_lines (drop (i + 1) all))
next_object all i d before now after front within written left line =
    let object = get_or all i d in (
      front ++ object_line object,
      Appends-trans before now after front (object_line object) written line,
      left ∙ ap (λ (l : List (ObjectId × ℕ)). front ++ object_lines l) (drop_more all i d within) ∙ sym (append_assoc front (object_line object) (object_lines (drop (i + 1) all))),
    )

-- the lines of what was found on a device that was opened are written
pub inspected_written : {Dev : Type 0} (D : Ghosts Dev) (lines : Inspected → List ℕ) (i : Inspected) (before after : Option (List ℕ)) → Appends before after (lines i)
    → (opened : Result Dev FileRefusal) → IfOk opened (λ device. IsTrue D.keeps_model → IsInspectionOf (bytes_of (D.disk device).now) i)
    → IfOk opened (λ device. IsTrue D.keeps_model → AgreesWithImports (bytes_of (D.disk device).now) i)
    → IfOk opened (λ device. WritesInspected (IsTrue D.keeps_model) (bytes_of (D.disk device).now) lines before after)
inspected_written D lines i before after writes (Ok device) mounted agrees = record { inspected = i; mounted = mounted; agrees = agrees; writes = writes }
inspected_written D lines i before after writes (Err e) mounted agrees = tt

-- the lines of what was listed on a device that was opened are written
pub listing_written : {Dev : Type 0} (D : Ghosts Dev) (lines : ListedPool → List ℕ) (l : ListedPool) (before after : Option (List ℕ)) → Appends before after (lines l)
    → (opened : Result Dev FileRefusal) → IfOk opened (λ device. IsTrue D.keeps_model → IsListingOf (bytes_of (D.disk device).now) l)
    → IfOk opened (λ device. IsTrue D.keeps_model → (m : Mount) → IsMounted (bytes_of (D.disk device).now) m → IsListingOfMount m l)
    → IfOk opened (λ device. WritesListing (IsTrue D.keeps_model) (bytes_of (D.disk device).now) lines before after)
listing_written D lines l before after writes (Ok device) listed mounted = record { listing = l; listed = listed; mounted = mounted; writes = writes }
listing_written D lines l before after writes (Err e) listed mounted = tt

-- an image mounts one contents, so an inspection of it is told of any that it mounts
pub told_of : (image : List ℕ) (i : Inspected) → IsInspectionOf image i → (contents : Contents) → MountsTo image contents → IsToldOf i contents
told_of image i (other, told, is) contents (u, chain, mounts) =
    let (same_u, same_chain, same) = mounts_agree image is.u u is.chain chain other contents is.mounts mounts in
    subst (IsToldOf i) same told

-- lines with this name begin with it
begins : (name rest more : List ℕ) → name ≡ codes "tank" → (codes "name " ++ (name ++ (codes "\nguid " ++ rest))) ++ more ≡ codes "name tank\nguid " ++ (rest ++ more)
begins name rest more tank = ap (λ (n : List ℕ). (codes "name " ++ (n ++ (codes "\nguid " ++ rest))) ++ more) tank

-- what is shown of an image with a pool of this name begins with it
pub tank_shown : (keeps : Type 0) (image : List ℕ) (before after : Option (List ℕ)) → keeps → (contents : Contents) → MountsTo image contents
    → contents.name ≡ codes "tank" → before ≡ Some [] → WritesInspected keeps image shown_lines before after → (rest : List ℕ) × (after ≡ Some (codes "name tank\nguid " ++ rest))
tank_shown keeps image before after kept contents mounts tank empty w =
    let told = told_of image w.inspected (w.mounted kept) contents mounts in
    let is = appended after (shown_lines w.inspected) (subst (λ (b : Option (List ℕ)). Appends b after (shown_lines w.inspected)) empty w.writes) in
    (_, is ∙ ap Some (begins w.inspected.name _ (object_lines w.inspected.objects.items) (told.name_is ∙ tank)))

-- the line of a new pool of 8 MiB
tank_line : created_line (codes "tank") (block_count (sector_bytes 8388608)) ≡ codes "created tank 896 blocks\n"
unfolding digits
tank_line = refl

pub tank_created : (before after : Option (List ℕ)) → before ≡ Some [] → Appends before after (created_line (codes "tank") (block_count (sector_bytes 8388608)))
    → after ≡ Some (codes "created tank 896 blocks\n")
tank_created before after empty writes = appended after _ (subst (λ (b : Option (List ℕ)). Appends b after (created_line (codes "tank") (block_count (sector_bytes 8388608)))) empty writes) ∙ ap Some tank_line

-- what is shown fast of an image with a pool of this name begins with it
pub tank_shown_fast : (keeps : Type 0) (image : List ℕ) (before after : Option (List ℕ)) → keeps → (m : Mount) → IsMounted image m
    → m.contents.name ≡ codes "tank" → before ≡ Some [] → WritesListing keeps image fast_lines before after → (rest : List ℕ) × (after ≡ Some (codes "name tank\nguid " ++ rest))
tank_shown_fast keeps image before after kept m mounted tank empty w =
    let l = w.listing in
    let is = appended after (fast_lines l) (subst (λ (b : Option (List ℕ)). Appends b after (fast_lines l)) empty w.writes) in
    (_, is ∙ ap Some (begins l.name _ (object_lines l.objects.items) ((w.mounted kept m mounted).name_is ∙ tank)))
