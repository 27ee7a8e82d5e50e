use Rattle.std.proofs.Common.{◌≡◌, ◌+◌, ◌-◌, ◌*◌, ◌<◌, ◌∙◌, ℕ, List, take, refl, ap, sym, subst, arith}
use Rattle.std.specs.Prelude.{min}
use Rattle.base.specs.disk.Disk.{put}
use Rattle.base.specs.tree.Places.{record_start, walk_index_of}
use Rattle.base.specs.tree.Places.Place.{Data}
use Rattle.base.specs.tree.Tree.{OpensAt}
use Rattle.trees.specs.SoundBlocks.{IsFormed}
use Rattle.trees.proofs.DamageLists.{no_damages}
use Rattle.trees.proofs.LoadedRecords.{record_taken, records_apart}
use Rattle.trees.proofs.NotedWalks.{place_found}
use Rattle.trees.proofs.SoundBlocks.{block_sound, tells_place}
use Rattle.trees.proofs.WalkOrder.{sound_one}
use Rattle.trees.proofs.walk.Loader.walk_record.Goals as goal

pub returns-in-Err-clause-found : goal.returns-in-Err-clause-found
returns-in-Err-clause-found g c = λ keeps image top shows named_by.
    let frame = c.args.self.now.frame.now in
    let place = Data c.args.number c.args.index in
    place_found image frame top place (walk_index_of place) _ c.in-Err.error c.args.damages.now c.note.new.self c.note.result c.requires.place refl refl
    (tells_place image frame top place c.args.pointer.now c.args.size named_by.at named_by.size_is c.in-Err.error named_by.there (c.in-Err.ensures.refused keeps image shows))
    c.note.ensures.added c.note.ensures.told

pub returns-clause-others : goal.returns-clause-others
returns-clause-others g c = λ r other.
    let is : 4032 * c.record_number-at.result ≡ record_start c.args.number c.args.index = ap (λ (r : ℕ). 4032 * r) c.record_number-at.ensures.record in
    records_apart c.record_number-at.result c.args.size c.min-count.result c.payload_of-payload.result.now c.args.bytes.now.value c.with_bytes.result.value c.requires.size
    (subst (λ (i : ℕ). i < c.args.size) (sym is) c.requires.within) c.min-count.ensures c.with_bytes.ensures.put r (λ e. other (e ∙ c.record_number-at.ensures.record))

pub returns-clause-loaded : goal.returns-clause-loaded
returns-clause-loaded g c = λ image shows whole.
    let place = Data c.args.number c.args.index in
    let frame = c.args.self.now.frame.now in
    let payload : List ℕ = c.payload_of-payload.result.now in
    let same = sym c.payload_of-payload.ensures.payload in
    let formed = subst (λ (l : List ℕ). IsFormed frame c.args.size place l) same c.in_default.ensures.formed in
    let is : 4032 * c.record_number-at.result ≡ record_start c.args.number c.args.index = ap (λ (r : ℕ). 4032 * r) c.record_number-at.ensures.record in
    record_taken g.D.SectorDevice.keeps_model image frame c.args.number c.args.index c.args.size c.min-count.result c.args.pointer.now payload c.args.bytes.now.value
    c.with_bytes.result.value c.payload_of-payload.ensures.length c.requires.size c.requires.within (c.min-count.ensures ∙ ap (λ (i : ℕ). min (c.args.size - i) 4032) is) formed
    (c.with_bytes.ensures.put ∙ ap (λ (i : ℕ). put i (take c.min-count.result payload) c.args.bytes.now.value) is) c.in_default.ensures.placed
    (λ keeps. subst (λ (l : List ℕ). OpensAt image frame place c.args.pointer.now l) same (c.in_default.ensures.opens image shows keeps))

pub returns-clause-found : goal.returns-clause-found
returns-clause-found g c = λ keeps image top shows named_by.
    let frame = c.args.self.now.frame.now in
    let place = Data c.args.number c.args.index in
    no_damages image frame top _ _ c.args.damages.now.list.items (omega arith)
    (sound_one image frame top place (walk_index_of place) (walk_index_of place + 1) c.requires.place refl refl
    (block_sound image frame top place c.args.pointer.now c.args.size named_by.at named_by.size_is _ (c.in_default.ensures.opens image (λ k. shows) keeps) c.in_default.ensures.formed))
