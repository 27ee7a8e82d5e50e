use Rattle.std.proofs.Common.{◌∙◌, ◌<◌, ◌++◌, ◌∷◌, [], ℕ, List, map, ap, sym, subst, arith}
use Rattle.std.specs.Prelude.{Option, is_some}
use Rattle.base.specs.formats.Chain.{Header}
use Rattle.base.specs.formats.Geometry.{AreBlocksOf, block_count}
use Rattle.base.specs.steps.Logs.{KeptBlock}
use Rattle.intent_log.specs.Kept.{RunLog, header_fields, log_shown}
use Rattle.intent_log.proofs.Callers.{none_is_before}
use Rattle.space.specs.FreeSets.{FreeSpace}
use Rattle.base.proofs.formats.BlockTests.{block_of}
use Rattle.mounted.specs.GivenBlocks.{after_gives}
use Rattle.pool_tables.specs.Areas.{addresses_before}
use Rattle.mounted.proofs.GivenBlocks.{none_given}
use Rattle.pool_tables.proofs.FreeBlocks.{gives_first}
use Rattle.pool_tables.proofs.GivenLogs.{addresses-given, from-given, placed-given}
use Rattle.pool_tables.proofs.blocks.give_log.Goals as goal

pub block_index-requires : goal.block_index-requires
block_index-requires c =
    block_of (block_count c.args.geometry) c.in-Some.address
    (placed-given (header_fields c.args.header) c.loop-address.log.kept c.give_back.new.self.kept c.in-Some.address c.in-Some.ensures.given (block_count c.args.geometry) c.loop-address.log.next.address c.loop-address.invariant.placed).0

pub loop-address-preserved : goal.loop-address-preserved
loop-address-preserved c =
    let header = header_fields c.args.header in
    let old = c.loop-address.log.kept in
    let new = c.give_back.new.self.kept in
    let address = c.in-Some.address in
    let given = c.in-Some.ensures.given in
    let blocks = block_count c.args.geometry in
    let free = c.loop-address.free in
    let i = c.loop-address.invariant in
    let low : c.block_index.result < free.blocks = omega (arith, c.block_index.ensures.block, i.count) in
    let now = c.give.ensures.given low in
    record {
      count = ap (λ (s : FreeSpace). s.blocks) now ∙ i.count;
      placed = subst (λ (h : Header). AreBlocksOf blocks (map (λ (b : KeptBlock). b.address) new ++ h.address ∷ [])) (sym (ap (λ (l : RunLog). l.next) c.give_back.ensures.others))
          (placed-given header old new address given blocks c.loop-address.log.next.address i.placed).1;
      given = ap (λ (s : FreeSpace). after_gives (addresses_before header new) s) now ∙ sym (gives_first free c.block_index.result address (addresses_before header new) c.block_index.ensures.address)
          ∙ ap (λ (l : List ℕ). after_gives l free) (sym (addresses-given header old new address given)) ∙ i.given;
      same = sym (from-given header old new address given) ∙ i.same;
      others = c.give_back.ensures.others ∙ ap (λ (l : RunLog). record l { kept = new; block_room = c.give_back.new.self.block_room }) i.others;
    }

pub returns-clause-free : goal.returns-clause-free
returns-clause-free c =
    let none = ap (map (λ (b : KeptBlock). b.address)) c.in_default.ensures.none in
    none_given c.loop-address.free ∙ ap (λ (l : List ℕ). after_gives l c.loop-address.free) (sym none) ∙ c.loop-address.invariant.given

pub returns-clause-kept : goal.returns-clause-kept
returns-clause-kept c =
    let left = none_is_before (header_fields c.args.header) c.loop-address.log c.give_back.new.self c.give_back.result c.give_back.ensures.none c.give_back.ensures.unchanged
    (ap (λ (o : Option ℕ). is_some o) c.in_default.is) ∙ c.loop-address.invariant.same in
    let others = c.give_back.ensures.others ∙ ap (λ (l : RunLog). record l { kept = c.give_back.new.self.kept; block_room = c.give_back.new.self.block_room }) c.loop-address.invariant.others in
    ap log_shown others ∙ (λ k. record (log_shown c.args.log.now) { kept = left k })

pub returns-clause-records : goal.returns-clause-records
returns-clause-records c =
    ap (λ (l : RunLog). l.records) c.give_back.ensures.others ∙ ap (λ (l : RunLog). l.records) c.loop-address.invariant.others
