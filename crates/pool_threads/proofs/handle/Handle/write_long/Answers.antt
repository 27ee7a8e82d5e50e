use Rattle.std.proofs.Common.{ℕ, ◌≡◌, ◌+◌, ◌∙◌, List, ap, arith, length, refl, subst, sym}
use Rattle.std.specs.Slice.Iter.{chunks_rest, chunks_size}
use Rattle.std.proofs.lemmas.List.{nil_from_length}
use Rattle.pool_threads.proofs.LongWrites.{HasWritten, all_written, clean_on, first_committed, first_piece, first_refused, more_committed, more_refused, sized}
use Rattle.pool_threads.proofs.handle.Handle.write_long.Goals as goal

pub returns-in-Err-clause-made : goal.returns-in-Err-clause-made
returns-in-Err-clause-made g c within =
    let parts = c.split_at.result in
    let cut = first_piece c.min.result c.args.bytes.now parts.0.now parts.1.now c.min.ensures c.split_at.ensures.front c.split_at.ensures.back in
    first_refused c.args.owner c.args.object c.args.offset c.args.bytes.now c.args.self.now parts.0.now parts.1.now c.in-Err.error c.write_piece.new.self
    cut.0 cut.1 c.in-Err.ensures.made

pub loop-piece-init : goal.loop-piece-init
loop-piece-init g c =
    let parts = c.split_at.result in
    let cut = first_piece c.min.result c.args.bytes.now parts.0.now parts.1.now c.min.ensures c.split_at.ensures.front c.split_at.ensures.back in
    let left : chunks_rest c.into_iter-piece-iterator.result ≡ parts.1.now = ap chunks_rest c.into_iter-piece-iterator.ensures.into_iter_gives ∙ c.chunks-piece-items.ensures.rest in
    record {
      next = ap chunks_size c.into_iter-piece-iterator.ensures.into_iter_gives ∙ c.chunks-piece-items.ensures.size;
      written = subst (λ (rest : List ℕ). HasWritten c.args.owner c.args.object c.args.offset c.args.bytes.now c.args.self.now c.in-Ok.receipt (length parts.0.now) rest c.write_piece.new.self) (sym left)
          (first_committed c.args.owner c.args.object c.args.offset c.args.bytes.now c.args.self.now parts.0.now parts.1.now c.in-Ok.receipt c.write_piece.new.self
          cut.0 cut.1 c.in-Ok.ensures.made);
      clean = record { same_pool = c.in-Ok.ensures.same_pool; met_none = c.in-Ok.ensures.met_none; released = c.in-Ok.ensures.released };
    }

pub overflow_add-offset : goal.overflow_add-offset
overflow_add-offset g c = let left = c.loop-piece.invariant.written.left in omega (arith, left, c.if-offset-gt-MAX_LENGTH.false, c.if-bytes-offset.false)

pub overflow_add-committed : goal.overflow_add-committed
overflow_add-committed g c =
    let left = c.loop-piece.invariant.written.left in
    let size = c.in-Some.ensures.steps.1.1 in
    omega (arith, left, size, c.if-offset-gt-MAX_LENGTH.false, c.if-bytes-offset.false)

pub returns-in-Err-write_piece-clause-made : goal.returns-in-Err-write_piece-clause-made
returns-in-Err-write_piece-clause-made g c within =
    let i = c.loop-piece.invariant in
    let s = c.in-Some.ensures.steps in
    let rest : List ℕ = chunks_rest c.loop-piece.piece-iterator in
    let piece : List ℕ = c.in-Some.piece.now in
    more_refused c.args.owner c.args.object c.args.offset c.args.bytes.now c.args.self.now c.loop-piece.receipt c.loop-piece.committed rest c.loop-piece.self i.written piece (chunks_rest c.next.new.self)
    c.write_piece-in-loop-piece.new.self s.1.0 (sized (chunks_size c.loop-piece.piece-iterator) (length piece) (length rest) s.1.1 i.next) s.1.2 c.in-Err-write_piece.error c.in-Err-write_piece.ensures.made

pub returns-in-Err-write_piece-clause-same_pool : goal.returns-in-Err-write_piece-clause-same_pool
returns-in-Err-write_piece-clause-same_pool g c =
    let e = c.in-Err-write_piece.ensures in
    (clean_on c.args.self.now c.loop-piece.self c.write_piece-in-loop-piece.new.self c.loop-piece.invariant.clean (record { same_pool = e.same_pool; met_none = e.met_none; released = e.released })).same_pool

pub returns-in-Err-write_piece-clause-met_none : goal.returns-in-Err-write_piece-clause-met_none
returns-in-Err-write_piece-clause-met_none g c =
    let e = c.in-Err-write_piece.ensures in
    (clean_on c.args.self.now c.loop-piece.self c.write_piece-in-loop-piece.new.self c.loop-piece.invariant.clean (record { same_pool = e.same_pool; met_none = e.met_none; released = e.released })).met_none

pub returns-in-Err-write_piece-clause-released : goal.returns-in-Err-write_piece-clause-released
returns-in-Err-write_piece-clause-released g c =
    let e = c.in-Err-write_piece.ensures in
    (clean_on c.args.self.now c.loop-piece.self c.write_piece-in-loop-piece.new.self c.loop-piece.invariant.clean (record { same_pool = e.same_pool; met_none = e.met_none; released = e.released })).released

pub loop-piece-preserved : goal.loop-piece-preserved
loop-piece-preserved g c =
    let i = c.loop-piece.invariant in
    let s = c.in-Some.ensures.steps in
    let rest : List ℕ = chunks_rest c.loop-piece.piece-iterator in
    let piece : List ℕ = c.in-Some.piece.now in
    record {
      next = s.0 ∙ i.next;
      written = more_committed c.args.owner c.args.object c.args.offset c.args.bytes.now c.args.self.now c.loop-piece.receipt c.loop-piece.committed rest c.loop-piece.self i.written piece (chunks_rest c.next.new.self)
          c.write_piece-in-loop-piece.new.self s.1.0 (sized (chunks_size c.loop-piece.piece-iterator) (length piece) (length rest) s.1.1 i.next) s.1.2 c.in-Ok-write_piece.receipt (c.loop-piece.committed + length piece) refl c.in-Ok-write_piece.ensures.made;
      clean = clean_on c.args.self.now c.loop-piece.self c.write_piece-in-loop-piece.new.self i.clean
          (record { same_pool = c.in-Ok-write_piece.ensures.same_pool; met_none = c.in-Ok-write_piece.ensures.met_none; released = c.in-Ok-write_piece.ensures.released });
    }

pub returns-clause-made : goal.returns-clause-made
returns-clause-made g c within =
    let rest : List ℕ = chunks_rest c.loop-piece.piece-iterator in
    let none : length rest ≡ 0 = c.in-None.ensures.steps.1.0 in
    all_written c.args.owner c.args.object c.args.offset c.args.bytes.now c.args.self.now c.loop-piece.receipt c.loop-piece.committed rest c.loop-piece.self c.loop-piece.invariant.written (nil_from_length rest none)

pub returns-clause-same_pool : goal.returns-clause-same_pool
returns-clause-same_pool g c = c.loop-piece.invariant.clean.same_pool

pub returns-clause-met_none : goal.returns-clause-met_none
returns-clause-met_none g c = c.loop-piece.invariant.clean.met_none

pub returns-clause-released : goal.returns-clause-released
returns-clause-released g c = c.loop-piece.invariant.clean.released
