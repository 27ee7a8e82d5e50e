use Rattle.std.proofs.Common.{◌≡◌, ◌<◌, ◌≤◌, ◌+◌, ◌*◌, ◌∙◌, inl, inr, ℕ, List, ap, sym, subst, refl, arith}
use Rattle.std.specs.Prelude.{IsTrue}
use Rattle.std.proofs.lemmas.Bool.{and_parts, cases_eq}
use Rattle.std.proofs.lemmas.Result.{err_from_is_err_and}
use Rattle.base.specs.declared.pointer.Pointer.{Pointer}
use Rattle.base.specs.disk.Disk.{Disk, bytes_of}
use Rattle.base.specs.formats.Fields.{pointer_in}
use Rattle.base.specs.tree.Places.{record_number, strip_number, strip_of, walk_index_of_indirect, walk_index_of_object}
use Rattle.base.proofs.tree.Strips.{strip-which}
use Rattle.trees.specs.DamageLists.{AddsDamages}
use Rattle.trees.specs.FreeBlocks.{StripNames, TakesNamed}
use Rattle.trees.specs.Loading.{HasZeroRecord, IsLoadedStrip, KeepsOthers}
use Rattle.tree_blocks.specs.Pointers.{TellsStrip, strip_in, told_record}
use Rattle.trees.specs.Walking.{IsIndirectOf, TellsDamage}
use Rattle.trees.proofs.DamageLists.{no_damages, strip_added}
use Rattle.trees.proofs.LoadedBlocks.{still_shows}
use Rattle.trees.proofs.LoadedRecords.{next_zeros, no_strips, strips_more, zeros_more}
use Rattle.trees.proofs.NotedWalks.{noted_none, noted_then, tells_after}
use Rattle.trees.proofs.TakenStrips.{no_strips_named, strips_named_more}
use Rattle.trees.proofs.WalkOrder.{index_of_strip, object-stride}
use Rattle.trees.proofs.WalkParts.{strip_linked, strips_begin}
use Rattle.trees.proofs.walk.Loader.walk_strips.Goals as goal

pub loop-index-init : goal.loop-index-init
loop-index-init g c = record {
  size = refl;
  disk = λ keeps. refl;
  count = refl;
  long = c.requires.size;
  bytes = c.requires.bytes;
  zeros = λ r high. c.requires.zeros r;
  noted = noted_none c.args.damages.now;
  taken = λ whole. no_strips_named c.args.object.now.strips.value c.args.free.now;
  named = λ whole j low. absurd (omega (arith, low));
  listed = λ keeps image top shows all.
      let w : ℕ = walk_index_of_object c.args.number in
      no_damages image c.args.self.now.frame.now top (w + 1) (w + 1 + 85 * 0) c.args.damages.now.list.items (omega arith) (strips_begin image c.args.self.now.frame.now top c.args.number);
  loaded = λ image shows whole. no_strips g.D.SectorDevice.keeps_model image c.args.self.now.frame.now c.args.number c.args.object.now.strips.value c.args.object.now.bytes.value c.requires.zeros;
}

pub walk_strip-requires-clause-zeros : goal.walk_strip-requires-clause-zeros
walk_strip-requires-clause-zeros g c = λ k low.
    subst (λ (m : ℕ). HasZeroRecord (record_number m k) c.loop-index.object.bytes.value) (sym c.strip_number-strip.ensures.number)
    (next_zeros c.args.number c.loop-index.index c.loop-index.object.bytes.value c.requires.in_range c.loop-index.invariant.zeros k low)

-- the strips that were named, and the one that comes next
named_more : (strips told : List (ℕ × (Pointer × List Pointer))) (count : ℕ) (pointer : Pointer) (payload : List ℕ) → TellsStrip count pointer strips told → pointer ≡ pointer_in payload count
    → ((j : ℕ) → j < count → (strip_in strips j).0 ≡ pointer_in payload j) → (j : ℕ) → j < count + 1 → (strip_in told j).0 ≡ pointer_in payload j
named_more strips told count pointer payload tells read so_far j low = elim (cases_eq j count) as (λ _. (strip_in told j).0 ≡ pointer_in payload j) [
  | inl same ↦ subst (λ (i : ℕ). (strip_in told i).0 ≡ pointer_in payload i) (sym same) (tells.0 ∙ read)
  | inr other ↦ ap (λ (s : Pointer × List Pointer). s.0) (tells.1 j other) ∙ so_far j (omega (arith, low, other))
]

before_strip : (w k : ℕ) → w + 1 ≤ w + 1 + 85 * k
before_strip w k = omega arith

pub loop-index-preserved : goal.loop-index-preserved
loop-index-preserved g c =
    let i = c.loop-index.invariant in
    let j : ℕ = c.loop-index.index in
    let n : ℕ = c.args.number in
    let frame = c.args.self.now.frame.now in
    let call = c.in_ok-is_sound.ensures in
    let sound = c.in_ok-is_sound.is_sound in
    let is : c.strip_number-strip.result ≡ strip_number n j = c.strip_number-strip.ensures.number in
    let which : strip_of c.strip_number-strip.result ≡ j = ap (λ (m : ℕ). strip_of m) is ∙ strip-which n j c.requires.in_range in
    let strips = c.loop-index.object.strips.value in
    let told = c.walk_strip.new.object.strips.value in
    let bytes = c.loop-index.object.bytes.value in
    let new = c.walk_strip.new.object.bytes.value in
    let pointer = c.pointer_in-pointer.result in
    let tells = λ (all : IsTrue sound). subst (λ (q : ℕ). TellsStrip q pointer strips told) which (call.told all) in
    let kept : KeepsOthers j bytes new = subst (λ (q : ℕ). KeepsOthers q bytes new) which call.others in
    record {
      size = call.reads.size ∙ i.size;
      disk = λ keeps. call.reads.disk keeps ∙ i.disk keeps;
      count = call.reads.count ∙ i.count;
      long = kept.size ∙ i.long;
      bytes = kept.bytes i.bytes;
      zeros = zeros_more j bytes new i.zeros kept;
      noted = noted_then c.args.damages.now c.loop-index.damages c.walk_strip.new.damages c.loop-index.whole sound i.noted call.notes;
      taken = λ whole.
          let both = and_parts c.loop-index.whole sound whole in
          strips_named_more strips told j pointer c.args.free.now c.loop-index.free c.walk_strip.new.free (tells both.1) (i.taken both.0)
          (subst (λ (q : ℕ). TakesNamed (λ k. StripNames k pointer (told_record (strip_in told q))) c.loop-index.free c.walk_strip.new.free) which (call.taken both.1));
      named = λ whole.
          let both = and_parts c.loop-index.whole sound whole in
          named_more strips told j pointer c.args.payload.now (tells both.1) c.pointer_in-pointer.ensures (i.named both.0);
      listed = λ keeps image top shows all.
          strip_added image frame top n j c.args.damages.now.list.items c.loop-index.damages.list.items c.walk_strip.new.damages.list.items c.requires.in_range (i.listed keeps image top shows all)
          (subst (λ (m : ℕ). AddsDamages image frame top (walk_index_of_indirect m) (walk_index_of_indirect m + 85) c.loop-index.damages.list.items c.walk_strip.new.damages.list.items) is
          (call.found keeps image top (ap (λ (d : Disk). bytes_of d.now) (i.disk keeps) ∙ shows)
          (subst (λ (m : ℕ). IsIndirectOf image top m pointer c.args.size) (sym is)
          (strip_linked image top n j c.args.size c.args.payload.now pointer c.requires.in_range c.loop-index-test.true all c.pointer_in-pointer.ensures))));
      loaded = λ image shows whole.
          let both = and_parts c.loop-index.whole sound whole in
          let here = call.loaded image (still_shows g.D.SectorDevice.keeps_model (g.D.SectorDevice.disk c.args.device.now) (g.D.SectorDevice.disk c.loop-index.device) image i.disk shows) both.1 in
          strips_more g.D.SectorDevice.keeps_model image frame n strips told bytes new j pointer c.requires.in_range (i.loaded image shows both.0) (tells both.1) kept
          (subst (λ (m : ℕ). IsLoadedStrip g.D.SectorDevice.keeps_model image frame m pointer (told_record (strip_in told j)) new) is
          (subst (λ (q : ℕ). IsLoadedStrip g.D.SectorDevice.keeps_model image frame c.strip_number-strip.result pointer (told_record (strip_in told q)) new) which here));
    }

pub returns-clause-taken : goal.returns-clause-taken
returns-clause-taken g c = λ whole.
    let e : c.loop-index.index ≡ 84 = omega (arith, c.loop-index.auto.index-end, c.loop-index-test.false) in
    rw e at (c.loop-index.invariant.taken whole)

pub returns-clause-named : goal.returns-clause-named
returns-clause-named g c = λ whole.
    let e : c.loop-index.index ≡ 84 = omega (arith, c.loop-index.auto.index-end, c.loop-index-test.false) in
    rw e at (c.loop-index.invariant.named whole)

pub returns-clause-loaded : goal.returns-clause-loaded
returns-clause-loaded g c = λ image shows whole.
    let e : c.loop-index.index ≡ 84 = omega (arith, c.loop-index.auto.index-end, c.loop-index-test.false) in
    rw e at (c.loop-index.invariant.loaded image shows whole)

pub returns-clause-found : goal.returns-clause-found
returns-clause-found g c = λ keeps image top shows all.
    let w : ℕ = walk_index_of_object c.args.number in
    let frame = c.args.self.now.frame.now in
    let e : c.loop-index.index ≡ 84 = omega (arith, c.loop-index.auto.index-end, c.loop-index-test.false) in
    let last : w + 1 + 85 * 84 ≡ w + 7141 = omega arith in
    subst (λ (k : ℕ). AddsDamages image frame top (w + 1) k c.args.damages.now.list.items c.loop-index.damages.list.items) (last ∙ ap (λ (s : ℕ). w + s) (sym object-stride))
    (subst (λ (k : ℕ). AddsDamages image frame top (w + 1) (w + 1 + 85 * k) c.args.damages.now.list.items c.loop-index.damages.list.items) e (c.loop-index.invariant.listed keeps image top shows all))

pub returns-in_err-is_sound-clause-found : goal.returns-in_err-is_sound-clause-found
returns-in_err-is_sound-clause-found g c = λ keeps image top shows all.
    let p = err_from_is_err_and c.from_residual.result c.from_residual.ensures.1 in
    let i = c.loop-index.invariant in
    let j : ℕ = c.loop-index.index in
    let n : ℕ = c.args.number in
    let frame = c.args.self.now.frame.now in
    let e = c.in_err-is_sound.field-0.0 in
    let call = c.in_err-is_sound.ensures in
    let is : c.strip_number-strip.result ≡ strip_number n j = c.strip_number-strip.ensures.number in
    rw (p.1, p.2) (tells_after image frame top (walk_index_of_object n + 1) (walk_index_of_object n + 1 + 85 * j) (walk_index_of_indirect (strip_number n j)) e
    c.args.damages.now c.loop-index.damages c.loop-index.whole (before_strip (walk_index_of_object n) j) (sym (index_of_strip n j c.requires.in_range)) i.noted (i.listed keeps image top shows all) call.notes
    (subst (λ (m : ℕ). TellsDamage image frame top (walk_index_of_indirect m) e) is
    (call.found keeps image top (ap (λ (d : Disk). bytes_of d.now) (i.disk keeps) ∙ shows)
    (subst (λ (m : ℕ). IsIndirectOf image top m c.pointer_in-pointer.result c.args.size) (sym is)
    (strip_linked image top n j c.args.size c.args.payload.now c.pointer_in-pointer.result c.requires.in_range c.loop-index-test.true all c.pointer_in-pointer.ensures)))))
