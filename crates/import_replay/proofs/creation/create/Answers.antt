use Rattle.std.proofs.Common.{rules, ◌≡◌, ◌∙◌, List, ℕ, refl, sym, subst}
use Rattle.base.specs.disk.Disk.{bytes_of, moments}
use Rattle.base.specs.formats.Geometry.{IsGeometry}
use Rattle.base.specs.disk.DiskCalls.{IsStoppedIn, after_disk_calls}
use Rattle.import_replay.specs.CreateCalls.{create_calls}
use Rattle.import_replay.specs.Creations.{IsNewPool, IsCreatedOn}
use Rattle.import_replay.specs.Labelled.{IsLabelled}
use Rattle.import_replay.specs.Outside.{WritesPoolBytes}
use Rattle.import_replay.specs.OwnCreations.{IsFirstDisk, first_view}
use Rattle.import_replay.proofs.OwnCreations.{new_left, own_from}
use Rattle.import_replay.proofs.OutsideWrites.{none_outside}
use Rattle.import_replay.proofs.NewLabels.{created_from, new_pool_from, settled_from}
use Rattle.import_replay.proofs.creation.create.Goals as goal

pub returns-in-Ok-initialize-clause-created : goal.returns-in-Ok-initialize-clause-created
returns-in-Ok-initialize-clause-created g c = λ keeps.
    let size : ℕ = c.in-Ok.geometry in
    let name : List ℕ = c.args.name.now in
    let start = g.D.SectorDevice.disk c.args.device in
    let now = g.D.SectorDevice.disk c.initialize.new.device in
    let done = c.in-Ok-initialize.ensures in
    let sized : IsGeometry size = subst IsGeometry (sym c.in-Ok.ensures.size) (c.in-Ok.ensures.ok.0 refl) in
    let long = g.met.D.SectorDevice.sized keeps c.initialize.new.device ∙ c.initialize.ensures.calls.size ∙ sym c.sectors.ensures.size ∙ sym c.in-Ok.ensures.size in
    let labelled = subst (λ (l : List ℕ). IsLabelled size l c.args.guid c.args.moment (bytes_of now.now)) c.in-Some.ensures.name.0 (done.labels keeps) in
    let created : IsCreatedOn (bytes_of now.now) name c.args.guid = created_from size _ name c.args.guid c.args.moment sized long labelled in
    record {
      created = created;
      settled = settled_from (λ (image : List ℕ). IsCreatedOn image name c.args.guid) now.now (done.settled keeps) created;
      written = settled_from (λ (image : List ℕ). IsNewPool image name c.args.guid c.args.moment) now.now (done.settled keeps) (new_pool_from size _ name c.args.guid c.args.moment sized long labelled);
      called = subst (λ (n : ℕ). now ≡ after_disk_calls (create_calls n name c.args.guid c.args.moment) start) (c.in-Ok.ensures.size ∙ c.sectors.ensures.size)
          (subst (λ (l : List ℕ). now ≡ after_disk_calls (create_calls size l c.args.guid c.args.moment) start) c.in-Some.ensures.name.0 (done.ordered keeps));
    }

pub returns-in-Ok-initialize-clause-own : goal.returns-in-Ok-initialize-clause-own
returns-in-Ok-initialize-clause-own g c = λ keeps.
    let now = g.D.SectorDevice.disk c.initialize.new.device in
    let size : ℕ = c.in-Ok.geometry in
    let t : ℕ = moments (g.D.SectorDevice.disk c.args.device) in
    own_from size t c.args.guid c.args.moment c.args.name.now now (subst IsGeometry (sym c.in-Ok.ensures.size) (c.in-Ok.ensures.ok.0 refl))
    (g.met.D.SectorDevice.sized keeps c.initialize.new.device ∙ c.initialize.ensures.calls.size ∙ sym c.sectors.ensures.size ∙ sym c.in-Ok.ensures.size) (c.in-Ok-initialize.ensures.settled keeps)
    (subst (λ (l : List ℕ). IsLabelled size l c.args.guid c.args.moment (bytes_of now.now)) c.in-Some.ensures.name.0 (c.in-Ok-initialize.ensures.labels keeps))
    (subst (λ (l : List ℕ). IsFirstDisk size t (first_view l c.args.guid c.args.moment size) now) c.in-Some.ensures.name.0 (c.in-Ok-initialize.ensures.handed keeps))

pub returns-in-Ok-initialize-clause-left : goal.returns-in-Ok-initialize-clause-left
returns-in-Ok-initialize-clause-left g c = λ keeps.
    let disk = g.D.SectorDevice.disk in
    new_left c.args.name.now c.args.guid (disk c.args.device) (disk c.initialize.new.device) (returns-in-Ok-initialize-clause-own g c keeps)

pub returns-in-Ok-initialize-clause-outside : goal.returns-in-Ok-initialize-clause-outside
returns-in-Ok-initialize-clause-outside g c = λ keeps.
    let start = g.D.SectorDevice.disk c.args.device in
    let now = g.D.SectorDevice.disk c.initialize.new.device in
    subst (λ (n : ℕ). WritesPoolBytes n start now) (c.in-Ok.ensures.size ∙ c.sectors.ensures.size) (c.initialize.ensures.outside keeps start (none_outside c.in-Ok.geometry start))

pub returns-in-Err-initialize-clause-refused : goal.returns-in-Err-initialize-clause-refused
returns-in-Err-initialize-clause-refused g c =
    let start = g.D.SectorDevice.disk c.args.device in
    let now = g.D.SectorDevice.disk c.initialize.new.device in
    let e = c.in-Err-initialize.error in
    record {
      kind = search rules;
      untouched = search rules;
      stopped = λ keeps refused.
          subst (λ (n : ℕ). IsStoppedIn (create_calls n c.args.name.now c.args.guid c.args.moment) e start now) (c.in-Ok.ensures.size ∙ c.sectors.ensures.size)
          (subst (λ (l : List ℕ). IsStoppedIn (create_calls c.in-Ok.geometry l c.args.guid c.args.moment) e start now) c.in-Some.ensures.name.0 (c.in-Err-initialize.ensures.ordered keeps));
    }
