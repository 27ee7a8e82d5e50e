use Rattle.std.proofs.Common.{◌≡◌, ◌∙◌, ◌∷◌, [], ◌++◌, List, ℕ, map, refl, sym, ap, subst}
use Rattle.std.specs.Prelude.{All}
use Rattle.std.proofs.lemmas.List.Elements.{All-cons, All-nil}
use Rattle.base.specs.disk.Disk.{bytes_of}
use Rattle.base.specs.formats.Geometry.{IsBlockAddress}
use Rattle.base.specs.formats.Records.{Record, IsAllowed}
use Rattle.records.specs.Records.{record_fields}
use Rattle.records.specs.declared.record.Record as code
use Rattle.intent_log.specs.Chains.{AreSoundParts, IsNoRecord, IsRecordOf}
use Rattle.intent_log.proofs.LongRecords.{gathered_long, gathered_none, missing_none}
use Rattle.intent_log.proofs.chains.read_parts.Goals as goal

pub returns-in_default-clause-none : goal.returns-in_default-clause-none
returns-in_default-clause-none g c = λ keeps at.
    missing_none (bytes_of (g.D.SectorDevice.disk c.args.device.now).now) c.args.frame.now c.args.header.now c.args.size (rw c.in_default.is at (c.in_ok-bytes.ensures.none keeps at))

pub returns-in_default-2-clause-none : goal.returns-in_default-2-clause-none
returns-in_default-2-clause-none g c = λ keeps at.
    let none : IsNoRecord c.in-Some.field-0.bytes.items = subst (λ (l : List ℕ). IsNoRecord l) c.as_slice.ensures.value (rw c.in_default-2.is at c.in_ok-record.ensures.none) in
    gathered_none (bytes_of (g.D.SectorDevice.disk c.args.device.now).now) c.args.frame.now c.args.header.now c.args.size c.in-Some.field-0
    (rw c.in-Some.is at (c.in_ok-bytes.ensures.all keeps at)) none

only_one : (items new : List code.Record) (r : code.Record) → items ≡ [] → new ≡ items ++ r ∷ [] → map record_fields new ≡ record_fields r ∷ []
only_one items new r none is = ap (λ (l : List code.Record). map record_fields l) (is ∙ ap (λ (l : List code.Record). l ++ r ∷ []) none)

pub returns-clause-read : goal.returns-clause-read
returns-clause-read g c = λ keeps at.
    let one = only_one c.new-records.result.items c.push.new.self.items c.in-Some-2.record c.new-records.ensures.items c.in_ok-push.ensures.items in
    let is : IsRecordOf c.in-Some.field-0.bytes.items (record_fields c.in-Some-2.record) =
    subst (λ (l : List ℕ). IsRecordOf l (record_fields c.in-Some-2.record)) c.as_slice.ensures.value (rw c.in-Some-2.is at c.in_ok-record.ensures.read) in
    let sound : AreSoundParts c.args.frame.now.blocks c.args.size c.in-Some.field-0 = rw c.in-Some.is at c.in_ok-bytes.ensures.sound in
    gathered_long (bytes_of (g.D.SectorDevice.disk c.args.device.now).now) c.args.frame.now c.args.header.now c.args.size c.in-Some.field-0 _ (record_fields c.in-Some-2.record)
    c.requires.begins.long sound.size_is (rw c.in-Some.is at (c.in_ok-bytes.ensures.all keeps at)) is refl refl refl one

pub returns-clause-sound : goal.returns-clause-sound
returns-clause-sound g c =
    let one = only_one c.new-records.result.items c.push.new.self.items c.in-Some-2.record c.new-records.ensures.items c.in_ok-push.ensures.items in
    let is : IsRecordOf c.as_slice.result.now (record_fields c.in-Some-2.record) = rw c.in-Some-2.is at c.in_ok-record.ensures.read in
    let sound : AreSoundParts c.args.frame.now.blocks c.args.size c.in-Some.field-0 = rw c.in-Some.is at c.in_ok-bytes.ensures.sound in
    let place = c.requires.sound.in_area in
    record {
      in_area = All-cons (IsBlockAddress c.args.frame.now.blocks) c.args.header.now.address c.in-Some.field-0.behind.items place sound.in_area;
      allowed = subst (λ (l : List Record). All IsAllowed l) (sym one) (All-cons IsAllowed (record_fields c.in-Some-2.record) [] is.allowed (All-nil IsAllowed));
      short = sound.short;
    }
