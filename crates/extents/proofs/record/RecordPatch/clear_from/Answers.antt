use Rattle.std.proofs.lemmas.List.Elements.{All-take}
use Rattle.std.proofs.Common.{◌≡◌, true}
use Rattle.extents.specs.Marks.{is_mark}
use Rattle.extents.proofs.MaskedBytes.{cut_bytes}
use Rattle.extents.proofs.record.RecordPatch.clear_from.Goals as goal

pub invariant_of-self-clause-marked : goal.invariant_of-self-clause-marked
invariant_of-self-clause-marked c = rw c.truncate-2.ensures.items (All-take (λ m. is_mark m ≡ true) c.args.offset c.args.self.now.mask.items c.args.self.now.marked)

pub returns : goal.returns
returns c = λ k. rw (c.truncate.ensures.items, c.truncate-2.ensures.items) (cut_bytes c.args.offset c.args.self.now.bytes.items c.args.self.now.mask.items k)
