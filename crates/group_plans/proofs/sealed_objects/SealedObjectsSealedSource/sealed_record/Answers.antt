use Rattle.std.proofs.Common.{◌≡◌, ◌+◌, ◌*◌, ◌∙◌, ℕ, List, Some, ap, arith, rules, subst, sym}
use Rattle.std.specs.BTreeMap as tree
use Rattle.std.specs.BTreeMap.{BTreeMap}
use Rattle.std.specs.Ordering.{nat_cmp}
use Rattle.std.proofs.lemmas.Result.{IfOk-weaker}
use Rattle.base.specs.formats.Blocks.{IsBlock}
use Rattle.base.specs.formats.Limits.{record_count}
use Rattle.base.specs.tree.Places.{number_of_place, record_of_strip, strip_number}
use Rattle.base.specs.tree.Places.Place.{Data}
use Rattle.base.proofs.tree.Strips.{strip-low}
use Rattle.checked_blocks.specs.Sealing.{padded}
use Rattle.tree_blocks.specs.BlockPlaces.{place_of}
use Rattle.group_plans.specs.SealedRecords.{IsSealedAs}
use Rattle.group_plans.proofs.SealedRecords.{kept_block, padded_record}
use Rattle.group_plans.proofs.sealed_objects.SealedObjectsSealedSource.sealed_record.Goals as goal

pub number-number-requires : goal.number-number-requires
number-number-requires c = rw c.data_place.ensures (strip-low c.args.place.id.0 c.args.place.strip c.requires.id c.requires.strip, c.requires.index)

pub returns-in-Some-clause-block : goal.returns-in-Some-clause-block
returns-in-Some-clause-block c =
    let s = c.args.self.now in
    let place = c.args.place in
    let records : BTreeMap ℕ (List ℕ) = s.prepared.now.records in
    let block : List ℕ = c.in-Some.block.now in
    let found : tree.get nat_cmp s.blocks c.record_number-key.result ≡ Some block = search rules in
    let key : c.record_number-key.result ≡ record_count * place.id.0 + record_of_strip place.strip place.index = c.record_number-key.ensures ∙ ap (λ (r : ℕ). record_count * place.id.0 + r) c.number.ensures in
    let guid : c.args.guid ≡ s.guid = search rules in
    let group : c.args.group.0 ≡ s.group.0 = search rules in
    let sealed : IsSealedAs c.args.guid c.args.group.0 records (record_count * place.id.0 + record_of_strip place.strip place.index) block =
    subst (λ (k : ℕ). IsSealedAs c.args.guid c.args.group.0 records k block) key
    (subst (λ (g : ℕ). IsSealedAs g c.args.group.0 records c.record_number-key.result block) (sym guid)
    (subst (λ (g : ℕ). IsSealedAs s.guid g records c.record_number-key.result block) (sym group) (s.sealed c.record_number-key.result block found))) in
    rw c.copy.ensures (kept_block s.prepared.now place.id.0 place.strip place.index c.requires.id c.requires.strip c.requires.index c.args.guid c.args.group.0 block (omega arith) c.is_same.ensures.fits c.requires.ready sealed)

pub returns-clause-block : goal.returns-clause-block
returns-clause-block c =
    let s = c.args.self.now in
    let place = c.args.place in
    let payload : List ℕ = c.as_slice.result.now in
    let records : BTreeMap ℕ (List ℕ) = s.prepared.now.records in
    let found : tree.get nat_cmp records c.record_number-key.result ≡ Some payload = search rules in
    let key : c.record_number-key.result ≡ record_count * place.id.0 + record_of_strip place.strip place.index = c.record_number-key.ensures ∙ ap (λ (r : ℕ). record_count * place.id.0 + r) c.number.ensures in
    let number : c.number-number.result ≡ number_of_place (Data (strip_number place.id.0 place.strip) place.index) = c.number-number.ensures ∙ ap (λ p. number_of_place (place_of p)) c.data_place.ensures in
    let whole = padded_record s.prepared.now place.id.0 place.strip place.index c.requires.id c.requires.strip c.requires.index payload (rw key at found) in
    IfOk-weaker c.seal.result _ _ (λ (b : List ℕ) (is : IsBlock b 5 c.args.guid c.args.group.0 c.number-number.result (padded payload)).
    subst (λ (r : List ℕ). IsBlock b 5 c.args.guid c.args.group.0 (number_of_place (Data (strip_number place.id.0 place.strip) place.index)) r) whole
    (subst (λ (n : ℕ). IsBlock b 5 c.args.guid c.args.group.0 n (padded payload)) number is)) c.seal.ensures.block
