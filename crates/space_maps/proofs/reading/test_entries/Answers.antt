use Rattle.std.proofs.Common.{◌≡◌, ◌≢◌, ◌≤◌, ◌<◌, ◌+◌, ◌*◌, ◌^◌, ℕ, ◌⊎◌, inl, inr, ap, sym, ◌∙◌, arith}
use Rattle.std.proofs.lemmas.Bool.{cases_lt}
use Rattle.std.proofs.lemmas.Result.{err_from_is_err_and}
use Rattle.space_maps.specs.Nodes.{map_entry_in}
use Rattle.space_maps.specs.Opening.{IsEntryOf, count_sum}
use Rattle.space_maps.proofs.PayloadSums.{count_sum-none, count_sum-next}
use Rattle.space_maps.proofs.reading.test_entries.Goals as goal

pub loop-k-init : goal.loop-k-init
loop-k-init c = record {
  entries = λ k low. absurd (omega (arith, low));
  sum = sym (count_sum-none c.args.payload.now);
  most = omega arith;
}

pub loop-k-preserved : goal.loop-k-preserved
loop-k-preserved c =
    let l = c.loop-k in
    let here : IsEntryOf c.args.shape c.args.level (72 * c.args.index + l.k) (map_entry_in c.args.payload.now l.k) = rw c.entry_in-child.ensures at (c.is_entry_of.ensures.0 (c.if-not-is_entry_of.false)) in
    record {
      entries = λ k low. elim (cases_lt k l.k) [
        | inl less ↦ l.invariant.entries k less
        | inr more ↦ let e : k ≡ l.k = omega (arith, low, more) in rw e here
      ];
      sum = ap (λ n. n + c.entry_in-child.result.count) l.invariant.sum ∙ ap (λ n. count_sum c.args.payload.now l.k + n) (ap (λ e. e.count) c.entry_in-child.ensures) ∙ sym (count_sum-next c.args.payload.now l.k);
      most = omega (arith, l.invariant.most);
    }
