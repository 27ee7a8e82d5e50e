use Rattle.std.proofs.Common.{◌≡◌, ◌∙◌, ◌+◌, ◌++◌, ◌∷◌, [], ap, arith, drop, false, length, map, subst, sym}
use Rattle.std.specs.Prelude.{Some}
use Rattle.base.specs.steps.Logs.{Log, log_after_write}
use Rattle.records.specs.Records.{record_fields}
use Rattle.intent_log.specs.Fillings.{TakesNext, taken_of}
use Rattle.intent_log.specs.Kept.{RunLog, begun_shown, log_shown, run_log}
use Rattle.intent_log.specs.RunLogs.{KeepsHeader}
use Rattle.intent_log.specs.declared.filling.Filling.{Filling}
use Rattle.intent_log.specs.declared.filling.Filling.TheVariants.{Whole, First, Part}
use Rattle.intent_log.proofs.Fillings.{part_logged, pending-written}
use Rattle.intent_log.proofs.RunLogs.{header_written}
use Rattle.intent_log.proofs.log.Log.note.Goals as goal

pub returns-in-Whole-clause-shown : goal.returns-in-Whole-clause-shown
returns-in-Whole-clause-shown c =
    let l = c.args.self.now in
    let receipts = c.in-Whole.receipts in
    let a = c.self.inside in
    let takes : TakesNext l (Whole receipts) = subst (TakesNext l) c.in-Whole.is c.requires.takes in
    let count : c.len-count.result ≡ length receipts.items = omega (arith, c.len-count.ensures, receipts.ok.0) in
    let same = c.self.view_is ∙ c.push.ensures.others in
    let pending = pending-written a.written c.len-count.result a.unsynced.items ∙ (λ k. drop (count k) (same k).pending) in
    let kept = ap (λ (x : RunLog). x.kept) c.self.view_is ∙ c.push.ensures.kept
    ∙ (λ k. l.kept ++ record { address = l.next.address; number = l.next.number; begins = takes.named k; ends = takes.named k; flushed = false } ∷ []) in
    let next = ap (λ (x : RunLog). x.next) c.self.view_is ∙ c.push.ensures.next in
    subst (λ (f : Filling). record (log_shown (run_log a)) { pending = map record_fields (drop (a.written + c.len-count.result) a.unsynced.items) } ≡ log_after_write (taken_of l f) c.args.address (log_shown l)) (sym c.in-Whole.is)
    (λ k. record { unsynced = map record_fields (same k).records; begun = (same k).begun; pending = pending k; kept = kept k; next = next k })

pub returns-in-Whole-clause-headers : goal.returns-in-Whole-clause-headers
returns-in-Whole-clause-headers c = λ group header x.
    let l = c.args.self.now in
    subst (λ (log : Log). KeepsHeader group header log) (sym (returns-in-Whole-clause-shown c))
    (header_written group c.args.address header (taken_of l c.args.filling) (log_shown l) c.requires.takes.taken c.push.ensures.numbered x)

pub returns-in-First-clause-shown : goal.returns-in-First-clause-shown
returns-in-First-clause-shown c =
    let l = c.args.self.now in
    let first = c.in-First.begun in
    let a = c.self-in-First.inside in
    let takes : TakesNext l (First first) = subst (TakesNext l) c.in-First.is c.requires.takes in
    let same = c.self-in-First.view_is ∙ c.push-in-First.ensures.others in
    let pending = pending-written a.written 1 a.unsynced.items ∙ (λ k. drop 1 (same k).pending) in
    let kept = ap (λ (x : RunLog). x.kept) c.self-in-First.view_is ∙ c.push-in-First.ensures.kept
    ∙ (λ k. l.kept ++ record { address = l.next.address; number = l.next.number; begins = takes.named k; ends = []; flushed = false } ∷ []) in
    let next = ap (λ (x : RunLog). x.next) c.self-in-First.view_is ∙ c.push-in-First.ensures.next in
    subst (λ (f : Filling). record (log_shown (run_log a)) { pending = map record_fields (drop (a.written + 1) a.unsynced.items); begun = Some (begun_shown first) } ≡ log_after_write (taken_of l f) c.args.address (log_shown l)) (sym c.in-First.is)
    (λ k. record { unsynced = map record_fields (same k).records; begun = Some (begun_shown first); pending = pending k; kept = kept k; next = next k })

pub returns-in-First-clause-headers : goal.returns-in-First-clause-headers
returns-in-First-clause-headers c = λ group header x.
    let l = c.args.self.now in
    subst (λ (log : Log). KeepsHeader group header log) (sym (returns-in-First-clause-shown c))
    (header_written group c.args.address header (taken_of l c.args.filling) (log_shown l) c.requires.takes.taken c.push-in-First.ensures.numbered x)

pub returns-in-Part-clause-shown : goal.returns-in-Part-clause-shown
returns-in-Part-clause-shown c =
    let l = c.args.self.now in
    let told = c.note_part.ensures in
    let takes : TakesNext l Part = subst (TakesNext l) c.in-Part.is c.requires.takes in
    subst (λ (f : Filling). log_shown c.note_part.new.self ≡ log_after_write (taken_of l f) c.args.address (log_shown l)) (sym c.in-Part.is)
    (part_logged l c.note_part.new.self c.args.address takes.part told.records told.pending told.kept told.begun told.next)

pub returns-in-Part-clause-headers : goal.returns-in-Part-clause-headers
returns-in-Part-clause-headers c = λ group header x.
    let l = c.args.self.now in
    subst (λ (log : Log). KeepsHeader group header log) (sym (returns-in-Part-clause-shown c))
    (header_written group c.args.address header (taken_of l c.args.filling) (log_shown l) c.requires.takes.taken c.note_part.ensures.numbered x)
