use Rattle.std.proofs.Common.{◌∙◌, ℕ, List, refl, sym, subst, ap, inl, inr}
use Rattle.std.proofs.lemmas.Result.{err_from_is_err_and}
use Rattle.std.specs.Coded.{Coded-set, coded_list, coded_ℕ}
use Rattle.std.proofs.Math.Logic.{∥∥₁_elim, ∥∥₁_map}
use Rattle.lru.specs.LruCache.{LruCache}
use Rattle.base.specs.disk.Disk.{bytes_of}
use Rattle.base.specs.formats.Blocks.{Opens}
use Rattle.base.specs.tree.Places.{kind_of, number_of_place}
use Rattle.tree_blocks.specs.BlockPlaces.{place_of}
use Rattle.block_cache.proofs.CachedBlocks.{aligned, found-agrees, found-there, left-agrees, promoted-left, put-agrees}
use Rattle.block_cache.proofs.CachedDisks.{same-agrees}
use Rattle.block_cache.proofs.cached_device.CachedDeviceBlockReader.read_payload.Goals as goal

pub invariant_of-self : goal.invariant_of-self
invariant_of-self g c = record {
  agrees = ∥∥₁_map c.args.self.now.agrees (λ agrees. λ keeps.
      left-agrees (bytes_of (g.D.SectorDevice.disk c.args.self.now.device).now) c.args.self.now.cache.entries c.copy.new.self.entries
      (promoted-left c.args.pointer.now.address _ _ (ap (λ (l : LruCache ℕ (List ℕ)). l.entries) c.copy.ensures.entries)) (agrees keeps));
}

pub returns-then-copy-clause-exact : goal.returns-then-copy-clause-exact
returns-then-copy-clause-exact g c = λ keeps payload opens.
    ∥∥₁_elim c.args.self.now.agrees (Coded-set (coded_list coded_ℕ) c.copy.new.into payload) (λ agrees.
    found-agrees (bytes_of (g.D.SectorDevice.disk c.args.self.now.device).now) c.args.pointer.now.address c.args.self.now.cache.entries c.copy.new.into (agrees keeps) (c.if-copy.ensures.hit refl)
    ∙ opens.block.payload_is)

pub invariant_of-self-in-Break-1 : goal.invariant_of-self-in-Break-1
invariant_of-self-in-Break-1 g c = record {
  agrees = ∥∥₁_map c.args.self.now.agrees (λ agrees. λ keeps.
      same-agrees _ _ c.copy.new.self.entries (c.read_block.ensures.reads.disk keeps)
      (left-agrees (bytes_of (g.D.SectorDevice.disk c.args.self.now.device).now) c.args.self.now.cache.entries c.copy.new.self.entries
      (promoted-left c.args.pointer.now.address _ _ (ap (λ (l : LruCache ℕ (List ℕ)). l.entries) c.copy.ensures.entries)) (agrees keeps)));
}

pub returns-in_err-read_block-clause-sound : goal.returns-in_err-read_block-clause-sound
returns-in_err-read_block-clause-sound g c = λ keeps payload opens.
    let p = err_from_is_err_and c.from_residual.result c.from_residual.ensures.1 in
    let tells = c.in_err-read_block.ensures.refused keeps (bytes_of (g.D.SectorDevice.disk c.args.self.now.device).now) refl in
    rw (p.1, p.2) (elim c.in_err-read_block.ensures.read [
      | inl read ↦ read
      | inr d ↦ absurd ((tells (kind_of (place_of c.args.place)) c.args.pointer.now.address d).1.1 payload opens)
    ])

pub invariant_of-self-2 : goal.invariant_of-self-2
invariant_of-self-2 g c = record {
  agrees = ∥∥₁_map c.args.self.now.agrees (λ agrees. λ keeps.
      let image : List ℕ = bytes_of (g.D.SectorDevice.disk c.args.self.now.device).now in
      let opens = c.in_ok-read_block.ensures.opens image (λ k. refl) keeps in
      same-agrees _ _ c.put.new.self.entries (c.read_block.ensures.reads.disk keeps)
      (put-agrees image c.args.pointer.now.address c.payload_of-payload.result.now c.copy.new.self c.put.new.self c.put.ensures
      (aligned c.args.frame.now.blocks c.args.pointer.now.address c.in_ok-read_block.ensures.placed)
      (c.payload_of-payload.ensures.payload ∙ sym opens.block.payload_is)
      (left-agrees image c.args.self.now.cache.entries c.copy.new.self.entries
      (promoted-left c.args.pointer.now.address _ _ (ap (λ (l : LruCache ℕ (List ℕ)). l.entries) c.copy.ensures.entries)) (agrees keeps))));
}

pub returns-then-copy-clause-taken : goal.returns-then-copy-clause-taken
returns-then-copy-clause-taken g c = λ keeps.
    inl (found-there c.args.pointer.now.address c.args.self.now.cache.entries c.copy.new.into (c.if-copy.ensures.hit refl))

pub returns-clause-taken : goal.returns-clause-taken
returns-clause-taken g c = λ keeps.
    let image : List ℕ = bytes_of (g.D.SectorDevice.disk c.args.self.now.device).now in
    let opens = c.in_ok-read_block.ensures.opens image (λ k. refl) keeps in
    inr (subst (λ (l : List ℕ). Opens image c.args.frame.now (kind_of (place_of c.args.place)) (number_of_place (place_of c.args.place)) c.args.pointer.now l)
    (sym (c.copy_from_slice.ensures.after ∙ c.payload_of-payload.ensures.payload)) opens)
