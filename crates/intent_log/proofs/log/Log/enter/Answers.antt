use Rattle.std.proofs.Common.{List, ap, arith, length, map, ◌∙◌, subst, sym}
use Rattle.std.specs.Prelude.{All, ◌∷◌, []}
use Rattle.std.proofs.lemmas.List.{length_push, map-append}
use Rattle.std.proofs.lemmas.List.Elements.{All-push}
use Rattle.base.specs.formats.Records.{IsAllowed}
use Rattle.base.specs.formats.Records as formats
use Rattle.records.specs.Records.{record_fields}
use Rattle.records.specs.declared.record.Record.{Record}
use Rattle.intent_log.proofs.log.Log.enter.Goals as goal

pub invariant_of-self : goal.invariant_of-self
invariant_of-self c =
    let old = c.self.invariant in
    let records = c.self.inside.unsynced.items in
    let front = old.front in
    let more = ap (λ (rs : List Record). length rs) c.push_reserved.ensures.items ∙ length_push records c.args.committed in
    record {
      front = omega (arith, more, front);
      allowed = subst (λ (rs : List formats.Record). All IsAllowed rs) (sym (ap (map record_fields) c.push_reserved.ensures.items ∙ map-append record_fields records (c.args.committed ∷ [])))
          (All-push IsAllowed (map record_fields records) (record_fields c.args.committed) old.allowed c.requires.allowed);
      within = old.within;
      fits = old.fits;
      numbered = old.numbered;
      rising = old.rising;
    }
