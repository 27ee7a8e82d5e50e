use Rattle.std.proofs.Common.{◌≡◌, ℕ, List, ap, drop, map, refl, subst, take}
use Rattle.std.specs.Prelude.{None, option_map}
use Rattle.std.proofs.lemmas.List.{take_rest}
use Rattle.std.proofs.lemmas.List.Elements.{All-take}
use Rattle.base.specs.formats.Records.{IsAllowed}
use Rattle.intent_log.specs.Fillings.{IsNextBlock, receipt_of}
use Rattle.intent_log.specs.Kept.{RunLog, begun_shown, run_log}
use Rattle.intent_log.specs.Packing.{HoldsUsed, IsPackedFirst, IsPackedWhole}
use Rattle.intent_log.specs.declared.filling.Filling.TheVariants.{First, Whole}
use Rattle.intent_log.specs.declared.packing.FirstPart.{FirstPart}
use Rattle.intent_log.proofs.Fillings.{allowed_rest, first_used, takes_first, takes_whole, whole_used}
use Rattle.intent_log.proofs.log.Log.pack_next.Goals as goal

pub encode_front-requires-clause-allowed : goal.encode_front-requires-clause-allowed
encode_front-requires-clause-allowed c =
    let a = c.self.inside in
    rw (c.deref.ensures.value, take_rest a.unsynced.items a.written) (allowed_rest a.written a.unsynced.items c.self.invariant.allowed)

pub pack_front-requires-clause-allowed : goal.pack_front-requires-clause-allowed
pack_front-requires-clause-allowed c =
    let a = c.self.inside in
    rw (c.deref.ensures.value, take_rest a.unsynced.items a.written) (allowed_rest a.written a.unsynced.items c.self.invariant.allowed)

pub pack_first-block-requires-clause-allowed : goal.pack_first-block-requires-clause-allowed
pack_first-block-requires-clause-allowed c =
    let a = c.self.inside in
    rw (c.deref.ensures.value, take_rest a.unsynced.items a.written) (allowed_rest a.written a.unsynced.items c.self.invariant.allowed)

pub pack_part-requires : goal.pack_part-requires
pack_part-requires c =
    let a = c.self.inside in
    rw (c.deref.ensures.value, take_rest a.unsynced.items a.written) (allowed_rest a.written a.unsynced.items c.self.invariant.allowed)

pub returns-in_ok-receipts-in-Front-clause-packs : goal.returns-in_ok-receipts-in-Front-clause-packs
returns-in_ok-receipts-in-Front-clause-packs c =
    let a = c.self.inside in
    let l : RunLog = run_log a in
    let place = c.args.place.now in
    let pending = drop a.written a.unsynced.items in
    let rest = take_rest a.unsynced.items a.written in
    let whole : IsPackedWhole place l.pending c.in-Front.count c.pack_front.result = rw (c.deref.ensures.value, rest) at c.pack_front.ensures in
    let are : c.in_ok-receipts-in-Front.receipts.items ≡ map receipt_of (take c.in-Front.count pending) = rw (c.deref.ensures.value, rest) at c.in_ok-receipts-in-Front.ensures.receipts in
    let none : l.begun ≡ None = ap (option_map begun_shown) c.in_default.is in
    subst (λ (x : RunLog). IsNextBlock place x (record { block = c.pack_front.result; filling = Whole c.in_ok-receipts-in-Front.receipts; ahead = c.pack_front.new.sealer.sealed })) c.self.view_is (record {
      takes = takes_whole l pending refl c.in_ok-receipts-in-Front.receipts c.in-Front.count none whole.0 are;
      holds = subst (λ (u : List ℕ). HoldsUsed place c.pack_front.result u) (whole_used l pending refl c.in_ok-receipts-in-Front.receipts c.in-Front.count none whole.0 are) whole.1;
      allowed = All-take IsAllowed _ l.pending (allowed_rest a.written a.unsynced.items c.self.invariant.allowed);
    })

pub returns-in-Long-clause-packs : goal.returns-in-Long-clause-packs
returns-in-Long-clause-packs c =
    let a = c.self.inside in
    let l : RunLog = run_log a in
    let place = c.args.place.now in
    let rest = take_rest a.unsynced.items a.written in
    let part : FirstPart = c.pack_first-block.result in
    let begins : IsPackedFirst place l.pending part = rw (c.deref.ensures.value, rest) at c.pack_first-block.ensures in
    let none : l.begun ≡ None = ap (option_map begun_shown) c.in_default.is in
    subst (λ (x : RunLog). IsNextBlock place x (record { block = part.block; filling = First part.begun; ahead = c.pack_first-block.new.sealer.sealed })) c.self.view_is (record {
      takes = takes_first l part.begun begins.0 none begins.1 begins.2.long begins.2.begun;
      holds = subst (λ (u : List ℕ). HoldsUsed place part.block u) (first_used l part.begun begins.0 none begins.1 begins.2.long begins.2.begun) begins.2.holds;
      allowed = All-take IsAllowed 1 l.pending (allowed_rest a.written a.unsynced.items c.self.invariant.allowed);
    })
