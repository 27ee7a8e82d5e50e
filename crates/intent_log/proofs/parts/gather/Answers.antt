use Rattle.std.proofs.Common.{◌≡◌, ◌∙◌, ◌+◌, ◌-◌, ◌<◌, ◌++◌, ◌∷◌, [], List, ℕ, length, length-append, min, refl, sym, ap, subst, arith}
use Rattle.std.specs.Prelude.{All}
use Rattle.std.proofs.lemmas.List.Elements.{All-nil, All-push}
use Rattle.base.specs.disk.Disk.{bytes_of}
use Rattle.base.specs.formats.Chain.{LogBlock}
use Rattle.base.specs.formats.Geometry.{IsBlockAddress}
use Rattle.intent_log.specs.Chains.{IsSoundBlock, frame_of_chain, header_of_chain}
use Rattle.intent_log.proofs.GatheredParts.{none_missing, none_other, read_first, read_more, same_read}
use Rattle.intent_log.proofs.parts.gather.Goals as goal

pub loop-alloc-init : goal.loop-alloc-init
loop-alloc-init g c =
    let h = c.args.header.now in
    let begins = c.requires.begins in
    let full = begins.full in
    let long = begins.long in
    let none : length c.new-behind.result.items ≡ 0 = ap (λ (l : List ℕ). length l) c.new-behind.ensures.items in
    let used : c.first.inside.used.items ≡ c.args.first.used = ap (λ (b : LogBlock). b.used) c.first.view_is in
    let many : length c.first.inside.used.items ≡ 4008 = ap (λ (l : List ℕ). length l) used ∙ full in
    let next : c.first.inside.next ≡ c.args.first.next = ap (λ (b : LogBlock). b.next) c.first.view_is in
    record {
      size = refl;
      disk = λ _. refl;
      count = refl;
      import_number = refl;
      version = refl;
      number = omega (arith, none);
      full = λ _. omega (arith, many, none);
      few = omega (arith, many, none);
      within = omega (arith, many, long);
      in_area = subst (λ (l : List ℕ). All (IsBlockAddress c.args.frame.now.blocks) l) (sym c.new-behind.ensures.items) (All-nil (IsBlockAddress c.args.frame.now.blocks));
      read = λ keeps at.
          let image : List ℕ = bytes_of (g.D.SectorDevice.disk c.args.device.now).now in
          let first = read_first 4008 image (frame_of_chain c.args.frame.now h) h.import_number (header_of_chain h) c.args.size c.args.first at full long in
          same_read 4008 image (frame_of_chain c.args.frame.now h) h.import_number (header_of_chain h) c.args.size _ _ _ _ _ _ first
          (λ i. record { address = sym next i; number = h.number + 1 }) (sym used) (sym c.new-behind.ensures.items);
    }

pub returns-in_default-clause-none : goal.returns-in_default-clause-none
returns-in_default-clause-none g c = λ keeps at bytes many st.
    let i = c.loop-alloc.invariant in
    let h = c.args.header.now in
    let image : List ℕ = bytes_of (g.D.SectorDevice.disk c.args.device.now).now in
    let below : length c.loop-alloc.bytes.items < c.args.size = omega (arith, c.len.ensures, c.loop-alloc-test.true) in
    let none = rw (i.disk keeps, i.import_number, i.version) at (rw c.in_default.is at (c.in_ok-block.ensures.none keeps)) in
    none_missing 4008 image (frame_of_chain c.args.frame.now h) h.import_number (header_of_chain h) c.args.size (header_of_chain c.loop-alloc.next)
    c.loop-alloc.bytes.items c.loop-alloc.behind.items (i.read keeps at) below none bytes many st

pub returns-then-len-min-clause-none : goal.returns-then-len-min-clause-none
returns-then-len-min-clause-none g c = λ keeps at bytes many st.
    let i = c.loop-alloc.invariant in
    let h = c.args.header.now in
    let image : List ℕ = bytes_of (g.D.SectorDevice.disk c.args.device.now).now in
    let below : length c.loop-alloc.bytes.items < c.args.size = omega (arith, c.len.ensures, c.loop-alloc-test.true) in
    let is = rw (i.disk keeps, i.import_number, i.version) at (rw c.in-Some.is at (c.in_ok-block.ensures.read keeps)) in
    let same : length c.block.inside.used.items ≡ length c.in-Some.block.used = ap (λ (b : LogBlock). length b.used) c.block.view_is in
    none_other 4008 image (frame_of_chain c.args.frame.now h) h.import_number (header_of_chain h) c.args.size (header_of_chain c.loop-alloc.next)
    c.loop-alloc.bytes.items c.loop-alloc.behind.items (i.read keeps at) below c.in-Some.block is
    (λ long. c.if-len-min.true (omega (arith, long, same, c.min.ensures, c.len-in-loop-alloc.ensures, c.len-in-loop-alloc-2.ensures))) bytes many st

pub loop-alloc-preserved : goal.loop-alloc-preserved
loop-alloc-preserved g c =
    let i = c.loop-alloc.invariant in
    let h = c.args.header.now in
    let call = c.in_ok-block.ensures in
    let bytes : List ℕ = c.loop-alloc.bytes.items in
    let behind : List ℕ = c.loop-alloc.behind.items in
    let below : length bytes < c.args.size = omega (arith, c.len.ensures, c.loop-alloc-test.true) in
    let used : c.block.inside.used.items ≡ c.in-Some.block.used = ap (λ (b : LogBlock). b.used) c.block.view_is in
    let same : length c.block.inside.used.items ≡ length c.in-Some.block.used = ap (λ (l : List ℕ). length l) used in
    let long : length c.in-Some.block.used ≡ min 4008 (c.args.size - length bytes) =
    omega (arith, same, c.if-len-min.false, c.min.ensures, c.len-in-loop-alloc.ensures, c.len-in-loop-alloc-2.ensures) in
    let more : c.extend_from_slice.new.self.items ≡ bytes ++ c.in-Some.block.used =
    c.in_ok-extend_from_slice.ensures.items ∙ ap (λ (l : List ℕ). bytes ++ l) (c.as_slice.ensures.value ∙ used) in
    let further : c.push.new.self.items ≡ behind ++ c.loop-alloc.next.address ∷ [] = c.in_ok-push.ensures.items in
    let longer : length c.extend_from_slice.new.self.items ≡ length bytes + length c.in-Some.block.used = ap (λ (l : List ℕ). length l) more ∙ length-append bytes c.in-Some.block.used in
    let one_more : length c.push.new.self.items ≡ length behind + 1 = ap (λ (l : List ℕ). length l) further ∙ length-append behind (c.loop-alloc.next.address ∷ []) in
    let number = i.number in
    let full = i.full below in
    let sound : IsSoundBlock c.args.frame.now.blocks c.loop-alloc.next c.in-Some.block = rw c.in-Some.is at call.sound in
    let next : c.block.inside.next ≡ c.in-Some.block.next = ap (λ (b : LogBlock). b.next) c.block.view_is in
    record {
      size = call.reads.size ∙ i.size;
      disk = λ keeps. call.reads.disk keeps ∙ i.disk keeps;
      count = call.reads.count ∙ i.count;
      import_number = i.import_number;
      version = i.version;
      number = omega (arith, number, one_more);
      full = λ under. omega (arith, under, longer, one_more, long, full, below);
      few = omega (arith, longer, one_more, long, full, below);
      within = omega (arith, longer, long, below);
      in_area = subst (λ (l : List ℕ). All (IsBlockAddress c.args.frame.now.blocks) l) (sym further)
          (All-push (IsBlockAddress c.args.frame.now.blocks) behind c.loop-alloc.next.address i.in_area sound.in_area);
      read = λ keeps at.
          let image : List ℕ = bytes_of (g.D.SectorDevice.disk c.args.device.now).now in
          let is = rw (i.disk keeps, i.import_number, i.version) at (rw c.in-Some.is at (call.read keeps)) in
          let longer_read = read_more 4008 image (frame_of_chain c.args.frame.now h) h.import_number (header_of_chain h) c.args.size (header_of_chain c.loop-alloc.next) bytes behind
          (i.read keeps at) below c.in-Some.block is long in
          same_read 4008 image (frame_of_chain c.args.frame.now h) h.import_number (header_of_chain h) c.args.size _ _ _ _ _ _ longer_read
          (λ i. record { address = sym next i; number = c.loop-alloc.next.number + 1 }) (sym more) (sym further);
    }
