-- A payload is that of a log block exactly if it has the chain's number, and zeros after its used bytes.
use Rattle.std.proofs.Common.{◌≡◌, ℕ, ◌+◌, ◌-◌, ◌≤◌, List, ◌++◌, length, take, drop, replicate, sym, ap, subst, ◌∙◌, arith, length-drop}
use Rattle.std.proofs.lemmas.List.{drop-drop, take-append-drop, length-take-le, length-replicate}
use Rattle.std.proofs.Math.Seq.{drop-append_seam}
use Rattle.base.specs.formats.Limits.{log_block_room}
use Rattle.base.specs.formats.Fields.{number_at}
use Rattle.base.specs.formats.Chain.{LogBlock, IsLogPayload}
use Rattle.intent_log.specs.Chains.{HasNoPayload}

-- what is left of the payload after so many bytes of records
behind : (payload : List ℕ) (used : ℕ) → drop used (drop 24 payload) ≡ drop (24 + used) payload
behind payload used = drop-drop used 24 payload ∙ ap (λ (n : ℕ). drop n payload) (omega arith)

pub is_payload : (payload : List ℕ) (chain used : ℕ) (block : LogBlock) → length payload ≡ 4032 → used ≤ 4008 → number_at payload 0 ≡ chain → number_at payload 8 ≡ block.next
    → number_at payload 16 ≡ used → block.used ≡ take used (drop 24 payload)
    → drop (24 + used) payload ≡ replicate (length (drop (24 + used) payload)) 0 → IsLogPayload payload chain block
is_payload payload chain used block long fits chain_is next_is used_is are zeros =
    let some : length (drop 24 payload) ≡ 4008 = length-drop 24 payload ∙ omega (arith, long) in
    let as_long : length block.used ≡ used = ap (λ (l : List ℕ). length l) are ∙ length-take-le used (drop 24 payload) (omega (arith, some, fits)) in
    let left : length (drop (24 + used) payload) ≡ 4008 - length block.used = length-drop (24 + used) payload ∙ omega (arith, long, as_long) in
    record {
      chain_is = chain_is;
      next_is = next_is;
      used_is = used_is ∙ sym as_long;
      fits = subst (λ (n : ℕ). n ≤ log_block_room) (sym as_long) fits;
      rest = sym (take-append-drop used (drop 24 payload))
          ∙ ap (λ (l : List ℕ). l ++ drop used (drop 24 payload)) (sym are)
          ∙ ap (λ (l : List ℕ). block.used ++ l) (behind payload used ∙ zeros ∙ ap (λ (n : ℕ). replicate n 0) left);
    }

-- no payload has other bytes than zeros after its records
pub none_of_zeros : (payload : List ℕ) (chain used : ℕ) → number_at payload 16 ≡ used
    → (drop (24 + used) payload ≡ replicate (length (drop (24 + used) payload)) 0 → ⊥) → HasNoPayload payload chain
none_of_zeros payload chain used used_is other block p =
    let size : used ≡ length block.used = sym used_is ∙ p.used_is in
    let zeros : List ℕ = replicate (log_block_room - length block.used) 0 in
    let back : drop (24 + used) payload ≡ zeros = sym (behind payload used) ∙ rw (size, p.rest) (drop-append_seam {A = ℕ} block.used zeros) in
    other (back ∙ ap (λ (n : ℕ). replicate n 0) (sym (ap (λ (l : List ℕ). length l) back ∙ length-replicate (log_block_room - length block.used) 0)))
