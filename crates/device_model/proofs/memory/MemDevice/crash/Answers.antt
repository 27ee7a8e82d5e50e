use Rattle.std.proofs.Common.{◌≡◌, ◌∙◌, ◌+◌, ◌≤◌, ◌++◌, List, ℕ, length, take, drop, ap, subst, arith, refl, sym, All}
use Rattle.std.proofs.lemmas.List.{with_items_is}
use Rattle.device_model.specs.declared.notes.Note.{Note}
use Rattle.base.specs.disk.Disk.{Disk, MayLeave}
use Rattle.base.specs.disk.Crashes.{crash_image}
use Rattle.base.specs.declared.refused.RefusedCalls.{RefusedCalls}
use Rattle.device_model.specs.MemState.{MemState, after_crash}
use Rattle.device_model.specs.Notes.{Track, Settles, LeadTo, replayed, undone, with_pieces, tracked, start}
use Rattle.device_model.proofs.Tracks.{tells_leads}
use Rattle.device_model.proofs.Sound.{same_size, sound, old_fits, content_fits, crash_bytes, crash_leads, crash_disk, crash_possible}
use Rattle.device_model.proofs.memory.MemDevice.crash.Goals as goal

abbrev with_disk : Disk → RefusedCalls → ℕ → MemState
with_disk disk refused unnoted = record { disk = disk; refused = refused; unnoted = unnoted; read_fails = 0; write_fails = 0; flush_fails = 0 }

pub leave_pieces-requires-clause-old_fits : goal.leave_pieces-requires-clause-old_fits
leave_pieces-requires-clause-old_fits c =
    subst (λ (l : List Note). All (λ n. n.place + length n.old ≤ length c.deref_mut.result.now) (drop c.self.inside.settled l)) (sym c.deref_mut-2.ensures.value)
    (old_fits c.self.inside c.self.invariant (length c.deref_mut.result.now) (ap (λ (l : List ℕ). length l) c.deref_mut.ensures.value))

pub leave_pieces-requires-clause-fits : goal.leave_pieces-requires-clause-fits
leave_pieces-requires-clause-fits c =
    subst (λ (l : List Note). All (λ n. n.place + length n.content ≤ length c.deref_mut.result.now) (drop c.self.inside.settled l)) (sym c.deref_mut-2.ensures.value)
    (content_fits c.self.inside c.self.invariant (length c.deref_mut.result.now) (ap (λ (l : List ℕ). length l) c.deref_mut.ensures.value))

pub invariant_of-self : goal.invariant_of-self
invariant_of-self c =
    let m = c.self.inside in
    let ps = c.args.pieces.now in
    let marked = take m.settled m.notes.items ++ with_pieces ps 0 (drop m.settled m.notes.items) in
    let settles = subst (λ (l : List Note). Settles m.settled (take m.settled l ++ with_pieces ps 0 (drop m.settled l)) c.leave_pieces.new.notes) c.deref_mut-2.ensures.value c.leave_pieces.ensures.notes in
    let bytes_are = c.leave_pieces.ensures.bytes
    ∙ ap (λ (l : List Note). replayed (with_pieces ps 0 (drop m.settled l)) (undone (drop m.settled l) c.deref_mut.result.now)) c.deref_mut-2.ensures.value
    ∙ ap (λ (l : List ℕ). replayed (with_pieces ps 0 (drop m.settled m.notes.items)) (undone (drop m.settled m.notes.items) l)) c.deref_mut.ensures.value
    ∙ crash_bytes m c.self.invariant ps marked settles.closed refl settles.closes in
    let long : length c.leave_pieces.new.notes ≡ m.notes.len = omega (arith, c.leave_pieces.auto.notes, ap (λ (l : List Note). length l) c.deref_mut-2.ensures.value, m.notes.ok.0) in
    let bytes_long : length c.leave_pieces.new.bytes ≡ m.bytes.len = omega (arith, c.leave_pieces.auto.bytes, ap (λ (l : List ℕ). length l) c.deref_mut.ensures.value, m.bytes.ok.0) in
    let all : length c.leave_pieces.new.notes ≡ c.len.result = long ∙ sym c.len.ensures in
    sound _ c.leave_pieces.new.bytes c.leave_pieces.new.notes (with_items_is m.bytes c.leave_pieces.new.bytes bytes_long) (with_items_is m.notes c.leave_pieces.new.notes long) (omega (arith, c.self.invariant.size, bytes_long, m.bytes.ok.0)) (omega (arith, all))
    (subst (λ k. LeadTo (tracked (start m.sectors) (take k c.leave_pieces.new.notes)) (drop k c.leave_pieces.new.notes) c.leave_pieces.new.bytes) all (tells_leads (start m.sectors) settles.closed c.leave_pieces.new.notes c.leave_pieces.new.bytes settles.tells settles.long
    (crash_leads m c.self.invariant ps marked settles.closed refl settles.closes c.leave_pieces.new.bytes bytes_are)))

pub returns-clause-left : goal.returns-clause-left
returns-clause-left c =
    let m = c.self.inside in
    let ps = c.args.pieces.now in
    let marked = take m.settled m.notes.items ++ with_pieces ps 0 (drop m.settled m.notes.items) in
    let settles = subst (λ (l : List Note). Settles m.settled (take m.settled l ++ with_pieces ps 0 (drop m.settled l)) c.leave_pieces.new.notes) c.deref_mut-2.ensures.value c.leave_pieces.ensures.notes in
    let long : length c.leave_pieces.new.notes ≡ m.notes.len = omega (arith, c.leave_pieces.auto.notes, ap (λ (l : List Note). length l) c.deref_mut-2.ensures.value, m.notes.ok.0) in
    ap (λ (d : Disk). with_disk d m.refused m.unnoted)
    (ap (λ (l : List Note). (tracked (start m.sectors) l).disk) (with_items_is m.notes c.leave_pieces.new.notes long) ∙ ap (λ (t : Track). t.disk) (settles.tells (start m.sectors)) ∙ crash_disk m c.self.invariant ps marked settles.closed refl settles.closes)
    ∙ ap (λ (v : MemState). after_crash ps v) c.self.view_is

pub returns-clause-possible : goal.returns-clause-possible
returns-clause-possible c = subst (λ v. MayLeave v.disk.now (crash_image c.args.pieces.now v.disk.now)) c.self.view_is (crash_possible c.self.inside c.self.invariant c.args.pieces.now)

pub returns-clause-size : goal.returns-clause-size
returns-clause-size c = same_size c.self.inside _ _ c.self.invariant (invariant_of-self c) refl c.self.view_is
