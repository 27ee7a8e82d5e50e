use Rattle.std.proofs.Common.{◌≡◌, ◌∷◌, refl, ap, map, ◌∙◌}
use Rattle.std.specs.Vec.Iter.{into_iter_items}
use Rattle.std.proofs.lemmas.Bool.{le-ltb, lt-ltb}
use Rattle.std.proofs.lemmas.Result.{err_from_is_err_and}
use Rattle.contents.specs.ContentsShown.{contents_of}
use Rattle.records.specs.Records.{record_fields}
use Rattle.log_replay.proofs.ChainWalks.{applied, at_first, next_ops, passed, refused}
use Rattle.log_replay.proofs.replaying.Replayed.apply_piece.Goals as goal

pub loop-record-init : goal.loop-record-init
loop-record-init c =
    let all : into_iter_items c.into_iter-record-iterator.result ≡ c.into_records-record-items.result.items = c.into_iter-record-iterator.ensures.into_iter_gives.0 in
    (tt, tt, at_first c.args.group.0 (contents_of c.args.synced.now) c.args.piece c.args.self.now _ (ap (map record_fields) all ∙ c.into_records-record-items.ensures) c.requires.allowed)

pub apply-requires : goal.apply-requires
apply-requires c =
    let step : into_iter_items c.loop-record.record-iterator ≡ c.in-Some.record ∷ into_iter_items c.next.new.self = c.in-Some.ensures.steps.0 in
    next_ops c.args.group.0 (contents_of c.args.synced.now) c.args.piece c.args.self.now c.in-Some.record (into_iter_items c.next.new.self) c.loop-record.self
    (rw step at c.loop-record.invariant.2)

pub loop-record-preserved-in-Continue-1 : goal.loop-record-preserved-in-Continue-1
loop-record-preserved-in-Continue-1 c =
    let step : into_iter_items c.loop-record.record-iterator ≡ c.in-Some.record ∷ into_iter_items c.next.new.self = c.in-Some.ensures.steps.0 in
    let made = c.in_ok-apply.ensures in (
      tt,
      tt,
      applied c.args.group.0 (contents_of c.args.synced.now) c.args.piece c.args.self.now c.in-Some.record (into_iter_items c.next.new.self) c.loop-record.self
          (rw step at c.loop-record.invariant.2) (lt-ltb c.args.group.0 c.in-Some.record.group.0 c.if-record-group.true) c.apply.new.self _ refl (next_ops c.args.group.0 (contents_of c.args.synced.now) c.args.piece c.args.self.now c.in-Some.record (into_iter_items c.next.new.self) c.loop-record.self
          (rw step at c.loop-record.invariant.2)) made.applies made.extents made.records,
    )

pub returns-in_err-apply-clause-refused : goal.returns-in_err-apply-clause-refused
returns-in_err-apply-clause-refused c = λ records rest from.
    let step : into_iter_items c.loop-record.record-iterator ≡ c.in-Some.record ∷ into_iter_items c.next.new.self = c.in-Some.ensures.steps.0 in
    let p = err_from_is_err_and c.from_residual.result c.from_residual.ensures.1 in
    rw (p.1, p.2) (refused c.args.group.0 (contents_of c.args.synced.now) c.args.piece c.args.self.now c.in-Some.record (into_iter_items c.next.new.self) c.loop-record.self
    (rw step at c.loop-record.invariant.2) (lt-ltb c.args.group.0 c.in-Some.record.group.0 c.if-record-group.true) c.in_err-apply.field-0.0 (rw c.address-address.ensures at c.in_err-apply.ensures.refused) records rest from)

pub loop-record-preserved : goal.loop-record-preserved
loop-record-preserved c =
    let step : into_iter_items c.loop-record.record-iterator ≡ c.in-Some.record ∷ into_iter_items c.next.new.self = c.in-Some.ensures.steps.0 in (
      tt,
      tt,
      passed c.args.group.0 (contents_of c.args.synced.now) c.args.piece c.args.self.now c.in-Some.record (into_iter_items c.next.new.self) c.loop-record.self
          (rw step at c.loop-record.invariant.2) (le-ltb c.args.group.0 c.in-Some.record.group.0 c.if-record-group.false),
    )
